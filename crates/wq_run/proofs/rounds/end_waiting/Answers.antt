use Rattle.wq_run.proofs.Ending.{none_ends, vain_over}
use Rattle.wq_run.proofs.rounds.end_waiting.Goals as goal

pub unreachable-requires : goal.unreachable-requires
unreachable-requires g c =
    let d = c.args.desk.now in
    none_ends g.S.Site.tells g.T.Terms.kept g.S.Site.files d c.end.new.desk c.in-Ok-None.field-0 c.in-Ok-None.field-0-is c.in-Ok-None.ensures.ended.ends
    (vain_over g.A.Admission.admitted d.plan d.options d.moves d.stop c.requires.vain.0 c.requires.unended c.requires.vain.1 c.requires.vain.2)
