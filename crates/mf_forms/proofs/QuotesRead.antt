-- Runs of bytes outside and inside quotes.
use Rattle.std.proofs.Common.{◌≡◌, ℕ, true, false, eqb, List, [], ◌∷◌, ◌++◌, Option, Some, None, refl, sym, ap, ◌∙◌}
use Rattle.std.proofs.lemmas.Bool.{or_parts, eq-eqb}
use Rattle.std.proofs.lemmas.List.{append-nil}
use Rattle.std.specs.Prelude.{fold, is_some}
use Rattle.std.specs.List.{list_any}
use Rattle.mf_text.specs.Expansion.{holds}
use Rattle.mf_forms.specs.Laws.{all_at, TextsWithoutMarks, QuotesThatEnd, QuotesThatStayOpen}
use Rattle.mf_forms.specs.Quotes.{bare, quoted, mark, is_quote, open_behind, placed, placed_behind, is_open_at_end}

bare-run : (front rest : List ℕ) → list_any is_quote front ≡ false → placed (front ++ rest) ≡ all_at bare front ++ placed rest
bare-run [] rest h = refl
bare-run (c ∷ front) rest h =
    let parts : (is_quote c ≡ false) × (list_any is_quote front ≡ false) = or_parts _ _ h in
    rw parts.0 (ap (λ bs. (c, bare) ∷ bs) (bare-run front rest parts.1))

bare-mark : (front rest : List ℕ) → list_any is_quote front ≡ false → fold open_behind None (front ++ rest) ≡ fold open_behind None rest
bare-mark [] rest h = refl
bare-mark (c ∷ front) rest h =
    let parts : (is_quote c ≡ false) × (list_any is_quote front ≡ false) = or_parts _ _ h in
    let same : open_behind None c ≡ None = rw parts.0 refl in
    ap (λ (m : Option ℕ). fold open_behind m (front ++ rest)) same ∙ bare-mark front rest parts.1

quoted-run : (m : ℕ) (inside rest : List ℕ) → holds m inside ≡ false → placed_behind (Some m) (inside ++ rest) ≡ all_at quoted inside ++ placed_behind (Some m) rest
quoted-run m [] rest h = refl
quoted-run m (c ∷ inside) rest h =
    let parts : (eqb c m ≡ false) × (holds m inside ≡ false) = or_parts _ _ h in
    rw parts.0 (ap (λ bs. (c, quoted) ∷ bs) (quoted-run m inside rest parts.1))

quoted-mark : (m : ℕ) (inside rest : List ℕ) → holds m inside ≡ false → fold open_behind (Some m) (inside ++ rest) ≡ fold open_behind (Some m) rest
quoted-mark m [] rest h = refl
quoted-mark m (c ∷ inside) rest h =
    let parts : (eqb c m ≡ false) × (holds m inside ≡ false) = or_parts _ _ h in
    let same : open_behind (Some m) c ≡ Some m = rw parts.0 refl in
    ap (λ (x : Option ℕ). fold open_behind x (inside ++ rest)) same ∙ quoted-mark m inside rest parts.1

closes : (m : ℕ) (rest : List ℕ) → (placed_behind (Some m) (m ∷ rest) ≡ (m, mark) ∷ placed rest) × (fold open_behind (Some m) (m ∷ rest) ≡ fold open_behind None rest)
closes m rest = let same : eqb m m ≡ true = eq-eqb m m refl in (rw same refl, rw same refl)

opens : (m : ℕ) (rest : List ℕ) → is_quote m ≡ true → (placed (m ∷ rest) ≡ (m, mark) ∷ placed_behind (Some m) rest) × (fold open_behind None (m ∷ rest) ≡ fold open_behind (Some m) rest)
opens m rest q = (rw q refl, rw q refl)

pub without_marks : TextsWithoutMarks
without_marks text h = (
  ap placed (sym (append-nil text)) ∙ bare-run text [] h ∙ append-nil (all_at bare text),
  ap (λ bs. is_open_at_end bs) (sym (append-nil text)) ∙ ap (λ (o : Option ℕ). is_some o) (bare-mark text [] h),
)

pub ends : QuotesThatEnd
ends front inside rest m f q i = (
  bare-run front (m ∷ (inside ++ m ∷ rest)) f
      ∙ ap (λ bs. all_at bare front ++ bs) ((opens m (inside ++ m ∷ rest) q).0 ∙ ap (λ bs. (m, mark) ∷ bs) (quoted-run m inside (m ∷ rest) i ∙ ap (λ bs. all_at quoted inside ++ bs) (closes m rest).0)),
  ap (λ (o : Option ℕ). is_some o) (bare-mark front (m ∷ (inside ++ m ∷ rest)) f ∙ (opens m (inside ++ m ∷ rest) q).1 ∙ quoted-mark m inside (m ∷ rest) i ∙ (closes m rest).1),
)

pub stays_open : QuotesThatStayOpen
stays_open front inside m f q i = (
  bare-run front (m ∷ inside) f
      ∙ ap (λ bs. all_at bare front ++ bs) ((opens m inside q).0 ∙ ap (λ bs. (m, mark) ∷ bs) (ap (placed_behind (Some m)) (sym (append-nil inside)) ∙ quoted-run m inside [] i ∙ append-nil (all_at quoted inside))),
  ap (λ (o : Option ℕ). is_some o) (bare-mark front (m ∷ inside) f ∙ (opens m inside q).1 ∙ ap (fold open_behind (Some m)) (sym (append-nil inside)) ∙ quoted-mark m inside [] i),
)
