-- One output more.
use Rattle.std.proofs.Common.{◌≡◌, ℕ, ◌+◌, ◌<◌, ◌≤◌, List, [], ◌∷◌, ◌++◌, sym, ◌∙◌, ap, subst, take, length, get_or, add-one}
use Rattle.std.proofs.Math.Seq.{take-suc}
use Rattle.flow_types.specs.declared.job.Want.{Want}
use Rattle.outside.specs.Jobs.{AllFit}

fit_more : (wants : List Want) (contents : List (List ℕ)) (want : Want) (content : List ℕ) → AllFit wants contents → length content ≤ want.bound
    → AllFit (wants ++ want ∷ []) (contents ++ content ∷ [])
fit_more [] [] want content fit small = (small, tt)
fit_more [] (first ∷ contents) want content fit small = absurd fit
fit_more (first ∷ wants) [] want content fit small = absurd fit
fit_more (first ∷ wants) (second ∷ contents) want content fit small = (fit.0, fit_more wants contents want content fit.1 small)

-- where the first outputs fit, and the next one too, so many more do
pub fit_next : (wants : List Want) (i : ℕ) (want : Want) (contents : List (List ℕ)) (content : List ℕ) → i < length wants → want ≡ get_or wants i want
    → AllFit (take i wants) contents → length content ≤ want.bound → AllFit (take (i + 1) wants) (contents ++ content ∷ [])
fit_next wants i want contents content lt is fit small =
    let e : take (i + 1) wants ≡ take i wants ++ want ∷ [] = ap (λ n. take n wants) (add-one i) ∙ take-suc wants i want lt ∙ ap (λ y. take i wants ++ y ∷ []) (sym is) in
    let P : List Want → Type 0 = λ ws. AllFit ws (contents ++ content ∷ []) in
    subst P (sym e) (fit_more (take i wants) contents want content fit small)
