-- Names that are looked up in two lists.
use Rattle.std.proofs.Common.{◌≡◌, ℕ, Bool, true, false, List, [], ◌∷◌, ◌++◌, Option, Some, None, refl, sym, ap, ◌∙◌}
use Rattle.std.specs.Str.{bytes_eq}
use Rattle.jx_meaning.specs.Values.{Value, Entry, find, or_else}
use Rattle.jx_meaning.specs.Operations.{or_other}

-- a name of two lists is one of the first before one of the second
pub find-append : (x : List ℕ) (es fs : List Entry) → find x (es ++ fs) ≡ or_other (find x es) (find x fs)
find-append x [] fs = refl
find-append x (e ∷ es) fs = ap (or_else (bytes_eq e.0 x) e.1) (find-append x es fs) ∙ by (bytes_eq e.0 x)
  where
    by : (b : Bool) → or_else b e.1 (or_other (find x es) (find x fs)) ≡ or_other (or_else b e.1 (find x es)) (find x fs)
    by true = refl
    by false = refl

pub in_first : (x : List ℕ) (es fs : List Entry) (v : Value) → find x es ≡ Some v → Some v ≡ find x (es ++ fs)
in_first x es fs v h = sym (find-append x es fs ∙ ap (λ (o : Option Value). or_other o (find x fs)) h)

pub in_second : (x : List ℕ) (es fs : List Entry) (o : Option Value) → find x es ≡ None → o ≡ find x fs → o ≡ find x (es ++ fs)
in_second x es fs o h e = e ∙ sym (find-append x es fs ∙ ap (λ (p : Option Value). or_other p (find x fs)) h)

pub ruleset findings = (in_first, in_second, find-append)
