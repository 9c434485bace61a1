use Rattle.std.proofs.Common.{sym, ap, ◌∙◌}
use Rattle.foreman_core.specs.Drafts.{Places, before}
use Rattle.foreman_core.proofs.Undoing.{before_one}
use Rattle.foreman_core.proofs.placed.take_all_back.Goals as goal

pub loop-last-preserved : goal.loop-last-preserved
loop-last-preserved c =
    let now : Places = record { attempts = c.loop-last.attempts; links = c.loop-last.links } in
    ap (before c.pop.new.self.items) c.take_back.ensures ∙ sym (before_one c.pop.new.self.items c.in-Some.last now)
    ∙ ap (λ placed. before placed now) (sym c.in-Some.ensures.items) ∙ c.loop-last.invariant
