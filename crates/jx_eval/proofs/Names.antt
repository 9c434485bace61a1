-- The names that loops bind.
use Rattle.std.proofs.Common.{◌≡◌, ℕ, ◌+◌, ◌<◌, List, [], ◌∷◌, ◌++◌, take, length, get_or, refl, sym, ap, ◌∙◌}
use Rattle.std.specs.Str.{bytes_eq}
use Rattle.std.proofs.lemmas.List.{take_more}
use Rattle.jx_meaning.specs.Values.{plain, find, or_else}
use Rattle.jx_meaning.specs.Meaning.{Scope}
use Rattle.jx_eval.specs.declared.frame.Bound.{Bound}
use Rattle.jx_eval.specs.Operands.{seen_value}
use Rattle.jx_eval.specs.Machine.{bound_entry, bound_on}

-- one name more
pub bound-push : (l : List Bound) (b : Bound) (s : Scope) → bound_on (l ++ b ∷ []) s ≡ bound_entry b ∷ bound_on l s
unfolding bound_on
bound-push [] b s = refl
bound-push (a ∷ l) b s = bound-push l b (bound_entry a ∷ s)

-- a name among these and one more
pub found-more : (x : List ℕ) (bs : List Bound) (i : ℕ) (b : Bound) (s : Scope) → i < length bs → b ≡ get_or bs i b
    → find x (bound_on (take (i + 1) bs) s) ≡ or_else (bytes_eq b.name.now x) (plain (seen_value b.value)) (find x (bound_on (take i bs) s))
found-more x bs i b s lt is = ap (λ (l : List Bound). find x (bound_on l s)) (take_more bs i b lt ∙ ap (λ (c : Bound). take i bs ++ c ∷ []) (sym is)) ∙ ap (find x) (bound-push (take i bs) b s)

pub bound-nil : (s : Scope) → bound_on [] s ≡ s
unfolding bound_on
bound-nil s = refl
