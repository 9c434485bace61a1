use Rattle.std.proofs.Common.{◌≡◌, false, not, get_or, sym, ap, ◌∙◌}
use Rattle.std.proofs.lemmas.Bool.{ne_eqb}
use Rattle.foreman_core.specs.Foremen.{could_hold, is_link}
use Rattle.foreman_core.proofs.Losing.{any_left}
use Rattle.foreman_core.proofs.parting.any_other_holds.Goals as goal

pub returns-then-branch : goal.returns-then-branch
returns-then-branch c =
    let p = could_hold c.args.cache.now.rows c.args.task.now in
    let b = c.b-item.result in
    let is : b ≡ get_or c.args.links.now c.loop-b.b-index b = c.b-item.is in
    let other : is_link c.args.link b ≡ false = ne_eqb b.link.0 c.args.link.0 c.if-b-link.false in
    sym (any_left p (λ w. not (is_link c.args.link w)) c.args.links.now c.loop-b.b-index b c.loop-b-test.true
    (ap (λ w. not (is_link c.args.link w)) (sym is) ∙ ap (λ t. not t) other) (ap p (sym is) ∙ sym c.in_ok-could_hold.ensures ∙ c.if-branch.true))
