use Rattle.std.proofs.Common.{sym, subst}
use Rattle.rule_progress.specs.Progress.{MayGo, Progressing}
use Rattle.rule_progress.proofs.Coming.{taken-inside}
use Rattle.rule_progress.proofs.progress.Progress.go.Goals as goal

pub go_all-requires-clause-inside : goal.go_all-requires-clause-inside
go_all-requires-clause-inside c =
    let may = subst (λ (V : Progressing). MayGo V c.args.file.0 c.args.size) (sym c.self.view_is) c.requires in
    taken-inside c.of.result.now _ _ c.of.ensures may.inside
