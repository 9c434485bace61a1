use Rattle.std.proofs.Common.{arith, ◌≡◌, ◌≤◌, ◌<◌, ℕ, ◌+◌, List, [], ◌∷◌, ◌++◌, length, take, sum_by, ap, sym, subst}
use Rattle.std.proofs.lemmas.List.Sums.{sum_by-append}
use Rattle.outside.specs.Jobs.{AllFit}
use Rattle.real_jobs.proofs.Taking.{fit_next}
use Rattle.real_jobs.proofs.outputs.take_outputs.Goals as goal

pub loop-i-preserved : goal.loop-i-preserved
loop-i-preserved g c =
    let contents : List (List ℕ) = c.loop-i.contents.items in
    let content : List ℕ = c.in-Ok-2.content in
    let wants = c.as_slice-want-items.result.now in
    let small : length content ≤ c.min-most.result = rw c.in-Ok-2.is at c.in_ok-content.ensures.content in
    let counted : length c.as_slice.result.now ≡ length content = ap length c.as_slice.ensures in
    let pushed : c.push.new.self.items ≡ contents ++ content ∷ [] = c.in_ok-push-in-Ok-2.ensures.items in
    let sum = sum_by-append {X = List ℕ} (λ o. length o) contents (content ∷ []) in
    let lt : c.loop-i.i < length wants = omega arith in
    let bounded : length content ≤ c.want-item.result.bound = omega (arith, c.min-most.ensures) in
    let P : List (List ℕ) → Type 0 = λ all. AllFit (take (c.loop-i.i + 1) wants) all in
    record {
      within = omega (arith, c.min-most.ensures, c.loop-i.invariant.within);
      total = omega (arith, sum, ap (sum_by (λ (o : List ℕ). length o)) pushed, c.loop-i.invariant.total);
      fit = subst P (sym pushed) (fit_next wants c.loop-i.i c.want-item.result contents content lt c.want-item.is c.loop-i.invariant.fit bounded);
    }
