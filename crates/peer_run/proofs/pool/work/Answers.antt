use Rattle.std.proofs.Common.{◌≡◌, ◌∙◌, Ok, Err, Result, arith, ap}
use Rattle.outside.specs.declared.fault.Fault.{Fault}
use Rattle.worker_core.specs.Workers.{Worker}
use Rattle.worker_pool.specs.Courses.{Heeds}
use Rattle.worker_pool.specs.Crews.{AllSure}
use Rattle.worker_pool.specs.Tallies.{none}
use Rattle.peer_run.specs.Ends.{TellAll}
use Rattle.peer_run.specs.Met.{hello_of, new_worker}
use Rattle.peer_run.specs.Works.{IsToldPool, way_of}
use Rattle.peer_run.proofs.Going.{begins_not, fails_by, same_worker, says_nothing}
use Rattle.peer_run.proofs.Hellos.{at_work, hello_said}
use Rattle.peer_run.proofs.pool.work.Goals as goal

pub returns-in_default : goal.returns-in_default
returns-in_default g c = record {
  leaves = record {
    heard = none;
    leaves = says_nothing g.F.Commands.gives g.F.Commands.may_fail g.L.Link.tells (TellAll g.R.Runner.tells c.args.runners.now) (Heeds g.F.Commands.gives g.F.Commands.may_fail (λ job. TellAll g.R.Runner.tells c.args.runners.now) (AllSure g.R.Runner.sure c.args.runners.now)) (new_worker c.args.total c.args.cap) 0
        (way_of g.L.Link.history g.L.Link.is_closed g.L.Link.count c.args.link.now) c.requires.new.nothing_passed c.requires.new.not_closed;
    counted = omega arith;
  };
}

pub serve_all-requires-clause-works : goal.serve_all-requires-clause-works
serve_all-requires-clause-works g c κs within =
    let fits = Heeds g.F.Commands.gives g.F.Commands.may_fail (λ job. TellAll g.R.Runner.tells c.args.runners.now) (AllSure g.R.Runner.sure c.args.runners.now) in
    let told = IsToldPool g.F.Commands.gives g.F.Commands.may_fail fits in
    let old = way_of g.L.Link.history g.L.Link.is_closed g.L.Link.count c.args.link.now in
    let new = way_of g.L.Link.history g.L.Link.is_closed g.L.Link.count c.say.new.link in
    let first : Worker = new_worker c.args.total c.args.cap in
    let core = c.new-core.ensures in
    let same : c.new-core.result ≡ first = same_worker c.new-core.result c.args.total c.args.cap core.total core.cap core.rows core.running in
    let said = c.in-Ok-say.ensures in
    let answer : Result (Unit {0}) Fault = Ok tt in (
      first,
      at_work g.F.Commands.gives g.F.Commands.may_fail g.L.Link.tells told fits c.args.total c.args.cap old new c.in-Ok.ear c.new-core.result same c.requires.new.nothing_passed c.requires.new.not_closed c.in-Ok.ensures
          (hello_said g.F.Commands.gives g.F.Commands.may_fail g.L.Link.tells told fits first c.hello.result old new answer (c.hello.ensures ∙ ap hello_of same) said.said said.sent said.closed said.cause.later),
    )

pub returns-in-Ok-say : goal.returns-in-Ok-say
returns-in-Ok-say g c =
    let fits = Heeds g.F.Commands.gives g.F.Commands.may_fail (λ job. TellAll g.R.Runner.tells c.args.runners.now) (AllSure g.R.Runner.sure c.args.runners.now) in
    let told = IsToldPool g.F.Commands.gives g.F.Commands.may_fail fits in
    let old = way_of g.L.Link.history g.L.Link.is_closed g.L.Link.count c.args.link.now in
    let new = way_of g.L.Link.history g.L.Link.is_closed g.L.Link.count c.say.new.link in
    let first : Worker = new_worker c.args.total c.args.cap in
    let core = c.new-core.ensures in
    let same : c.new-core.result ≡ first = same_worker c.new-core.result c.args.total c.args.cap core.total core.cap core.rows core.running in
    let said = c.in-Ok-say.ensures in
    let answer : Result (Unit {0}) Fault = Ok tt in
    record {
      leaves = c.serve_all.ensures.leaves first
          (at_work g.F.Commands.gives g.F.Commands.may_fail g.L.Link.tells told fits c.args.total c.args.cap old new c.in-Ok.ear c.new-core.result same c.requires.new.nothing_passed c.requires.new.not_closed c.in-Ok.ensures
          (hello_said g.F.Commands.gives g.F.Commands.may_fail g.L.Link.tells told fits first c.hello.result old new answer (c.hello.ensures ∙ ap hello_of same) said.said said.sent said.closed said.cause.later));
    }

pub returns : goal.returns
returns g c =
    let fits = Heeds g.F.Commands.gives g.F.Commands.may_fail (λ job. TellAll g.R.Runner.tells c.args.runners.now) (AllSure g.R.Runner.sure c.args.runners.now) in
    let told = TellAll g.R.Runner.tells c.args.runners.now in
    let old = way_of g.L.Link.history g.L.Link.is_closed g.L.Link.count c.args.link.now in
    let new = way_of g.L.Link.history g.L.Link.is_closed g.L.Link.count c.say.new.link in
    let first : Worker = new_worker c.args.total c.args.cap in
    let core = c.new-core.ensures in
    let same : c.new-core.result ≡ first = same_worker c.new-core.result c.args.total c.args.cap core.total core.cap core.rows core.running in
    let said = c.in-Err.ensures in
    let answer : Result (Unit {0}) Fault = Err c.in-Err.fault in
    record {
      leaves = record {
        heard = none;
        leaves = begins_not g.F.Commands.gives g.F.Commands.may_fail g.L.Link.tells told fits first 0 old new c.in-Err.fault c.halt_by.result c.requires.new.nothing_passed c.requires.new.not_closed
            (hello_said g.F.Commands.gives g.F.Commands.may_fail g.L.Link.tells told fits first c.hello.result old new answer (c.hello.ensures ∙ ap hello_of same) said.said said.sent said.closed said.cause.later)
            (fails_by 0 old.faults new c.in-Err.fault c.halt_by.result said.cause (omega arith) c.halt_by.ensures.link c.halt_by.ensures.memory);
        counted = omega arith;
      };
    }
