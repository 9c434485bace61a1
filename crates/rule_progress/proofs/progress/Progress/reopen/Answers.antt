use Rattle.std.proofs.Common.{◌≡◌, ◌<◌, ℕ, true, sym, subst, length}
use Rattle.flow_types.specs.Plans.{contains_number}
use Rattle.rule_progress.specs.Progress.{Progressing}
use Rattle.rule_progress.proofs.Coming.{listed-inside}
use Rattle.rule_progress.proofs.progress.Progress.reopen.Goals as goal

pub wait_again-requires : goal.wait_again-requires
wait_again-requires c =
    let within = subst (λ (V : Progressing). (r : ℕ) → contains_number r V.running.numbers ≡ true → r < length V.pending.waits) (sym c.self.view_is) c.requires.running in
    listed-inside c.as_slice.result.now _ _ c.as_slice.ensures within

pub wait_again-requires-2 : goal.wait_again-requires-2
wait_again-requires-2 c =
    let within = subst (λ (V : Progressing). (r : ℕ) → contains_number r V.failed.numbers ≡ true → r < length V.pending.waits) (sym c.self.view_is) c.requires.failed in
    listed-inside c.as_slice-2.result.now _ _ c.as_slice-2.ensures (λ r stands. subst (λ n. r < n) (sym c.wait_again.ensures.same) (within r stands))
