use Rattle.std.proofs.Common.{◌≡◌, vec_len}
use Rattle.foreman_core.specs.Drafts.{Places, before}
use Rattle.foreman_core.proofs.placed.take_all_back.Given as goal

abbrev pub invariant-loop-last : goal.invariant-loop-last
invariant-loop-last l =
    let old : Places = record { attempts = l.initial.attempts; links = l.initial.links } in
    let now : Places = record { attempts = l.attempts; links = l.links } in
    before l.placed.items now ≡ before l.initial.placed.items old

abbrev pub decreases-loop-last : goal.decreases-loop-last
decreases-loop-last l = vec_len l.placed
