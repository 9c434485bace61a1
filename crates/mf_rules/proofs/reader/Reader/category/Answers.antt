use Rattle.std.proofs.Common.{refl}
use Rattle.mf_rules.specs.Values.{expanded_at}
use Rattle.mf_rules.proofs.FaultLemmas.{fails_alone}
use Rattle.mf_rules.proofs.Standing.{text_at, fault_at, stands_category}
use Rattle.mf_rules.proofs.reader.Reader.category.Goals as goal

pub returns-in-Ok : goal.returns-in-Ok
returns-in-Ok c = λ answered env earlier s.
    let is = text_at env earlier c.args.self.now c.args.number c.args.text.now c.as_str.result.now c.in-Ok.text s c.as_str.ensures.value c.in-Ok.ensures in
    (stands_category env earlier c.args.self.now c.args.number c.args.text.now c.in-Ok.text s is, rw is refl)

pub returns-in-Err : goal.returns-in-Err
returns-in-Err c = λ answered env earlier s.
    fails_alone c.in-Err.fault (expanded_at env earlier c.args.number c.args.text.now)
    (fault_at env earlier c.args.self.now c.args.number c.args.text.now c.as_str.result.now c.in-Err.fault s c.as_str.ensures.value c.in-Err.ensures)
