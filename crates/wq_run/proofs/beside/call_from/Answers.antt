use Rattle.std.proofs.Common.{rules}
use Rattle.wq_run.proofs.Called.{takes_from}
use Rattle.wq_run.proofs.beside.call_from.Goals as goal

pub call_with-given-requires : goal.call_with-given-requires
call_with-given-requires g c = takes_from g.K.FnMut c.args.call.now c.args.slot.now c.in-Some.value c.args.desk.now (search rules) c.requires.takes

pub returns : goal.returns
returns g c = record {
  called = record {
    value = c.in-Some.value;
    was = search rules;
    given = c.call_with-given.result;
    is = c.fill.ensures;
    called = c.call_with-given.ensures;
  };
}
