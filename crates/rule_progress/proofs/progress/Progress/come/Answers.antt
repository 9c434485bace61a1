use Rattle.std.proofs.Common.{sym, subst}
use Rattle.rule_progress.specs.Progress.{MayCome, Progressing}
use Rattle.rule_progress.proofs.Coming.{taken-inside}
use Rattle.rule_progress.proofs.progress.Progress.come.Goals as goal

pub come_all-requires-clause-inside : goal.come_all-requires-clause-inside
come_all-requires-clause-inside c =
    let may = subst (λ (V : Progressing). MayCome V c.args.file.0 c.args.size) (sym c.self.view_is) c.requires in
    taken-inside c.of.result.now _ _ c.of.ensures may.inside
