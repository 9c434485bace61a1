use Rattle.std.proofs.Common.{◌≡◌, ◌+◌, ℕ}
use Rattle.foreman_core.specs.Drafts.{Places, before, led_of}
use Rattle.foreman_core.specs.Steps.{settled, settled_from}
use Rattle.foreman_core.proofs.draft.Draft.settle_all.Given as goal

abbrev pub invariant-loop-at : goal.invariant-loop-at
invariant-loop-at l =
    let old : Places = record { attempts = l.initial.attempts; links = l.initial.links } in
    let now : Places = record { attempts = l.attempts; links = l.links } in
    record {
      settled : (left : ℕ) → left + l.at ≡ l.count → settled_from left l.at (led_of l.cache l.attempts l.links l.self) ≡ settled (led_of l.cache l.initial.attempts l.initial.links l.initial.self);
      back : before l.placed.items now ≡ before l.initial.placed.items old;
    }
