-- Files that are removed one after another.
use Rattle.std.proofs.Common.{◌≡◌, ◌≢◌, ◌<◌, ◌+◌, ◌∙◌, ℕ, zero, suc, Bool, true, false, List, [], ◌∷◌, length, Some, None, refl, sym, ap, subst, true≢false, get_or, arith}
use Rattle.std.specs.Prelude.{is_some, nat_lt, slice_get, unwrap_or}
use Rattle.std.specs.Str.{bytes_eq}
use Rattle.std.proofs.lemmas.Bool.{ltb-true, ltb-false}
use Rattle.std.proofs.lemmas.Option.{slice_get_read}
use Rattle.std.proofs.lemmas.Slice.Eq.{bytes_eq-Decides}
use Rattle.flow_types.specs.declared.plan.Plan.{Plan}
use Rattle.flow_types.specs.declared.numbers.FileNo.{FileNo}
use Rattle.outside.specs.Files.{Files}
use Rattle.file_store.specs.Outputs.{AreInside, IsOther, file_name}
use Rattle.cleaning.specs.Cleanings.{numbers_of}

pub some_is : {A : Type 0} (x y : A) → Some x ≡ Some y → x ≡ y
some_is x y is = ap (λ o. unwrap_or o x) is

number_at : (files : List FileNo) (i : ℕ) (f : FileNo) → slice_get files i ≡ Some f → slice_get (numbers_of files) i ≡ Some f.0
number_at [] i f is = absurd (true≢false (sym (ap is_some is)))
number_at (g ∷ files) zero f is = ap (λ (h : FileNo). Some h.0) (some_is g f is)
number_at (g ∷ files) (suc i) f is = number_at files i f is

other_default : {A : Type 0} (xs : List A) (i : ℕ) (d e : A) → i < length xs → get_or xs i d ≡ get_or xs i e
other_default [] i d e lt = absurd (omega (arith, lt))
other_default (x ∷ xs) zero d e lt = refl
other_default (x ∷ xs) (suc i) d e lt = other_default xs i d e (omega (arith, lt))

-- the number at a place of the files
pub number_is : (files : List FileNo) (i : ℕ) (d : FileNo) → i < length files → slice_get (numbers_of files) i ≡ Some (get_or files i d).0
number_is files i d lt = number_at files i (get_or files i d) (slice_get_read files (length files) i (get_or files i d) refl lt (other_default files i d (get_or files i d) lt))

-- it is one of the plan
pub number_inside : (P : Plan) (files : List FileNo) (i : ℕ) (d : FileNo) → AreInside P (numbers_of files) → i < length files → (get_or files i d).0 < length P.files
number_inside P files i d inside lt = inside i (get_or files i d).0 (number_is files i d lt)

-- a name of none of the files isn't that of this one
pub not_one : (P : Plan) (fs : List ℕ) (i f : ℕ) → slice_get fs i ≡ Some f → (m : List ℕ) → IsOther P fs m → IsOther P (f ∷ []) m
not_one P fs i f at m other zero g is = subst (λ (h : ℕ). m ≢ file_name P h) (some_is f g is) (other i f at)
not_one P fs i f at m other (suc k) g is = absurd (true≢false (sym (ap is_some is)))

apart : (P : Plan) (f : ℕ) (m : List ℕ) → m ≢ file_name P f → IsOther P (f ∷ []) m
apart P f m other zero g is = subst (λ (h : ℕ). m ≢ file_name P h) (some_is f g is) other
apart P f m other (suc k) g is = absurd (true≢false (sym (ap is_some is)))

earlier : (P : Plan) (fs : List ℕ) (i f k g : ℕ) → slice_get fs i ≡ Some f → slice_get fs k ≡ Some g → k < i + 1 → file_name P g ≢ file_name P f → k < i
earlier P fs i f k g at is lt other = by_test (nat_lt k i) refl
  where
    by_test : (t : Bool) → nat_lt k i ≡ t → k < i
    by_test true less = ltb-true k i less
    by_test false not_less =
        let same : k ≡ i = (let le = ltb-false k i not_less in omega (arith, le, lt)) in
        absurd (other (ap (file_name P) (some_is g f (sym is ∙ ap (slice_get fs) same ∙ at))))

-- one more file is gone
pub next_gone : (P : Plan) (fs : List ℕ) (i f : ℕ) (old new : Files) → slice_get fs i ≡ Some f → new (file_name P f) ≡ None → ((m : List ℕ) → IsOther P (f ∷ []) m → new m ≡ old m)
    → ((k g : ℕ) → k < i → slice_get fs k ≡ Some g → old (file_name P g) ≡ None) → (k g : ℕ) → k < i + 1 → slice_get fs k ≡ Some g → new (file_name P g) ≡ None
next_gone P fs i f old new at removed stays gone k g lt is = by_test (bytes_eq (file_name P g) (file_name P f)) refl
  where
    by_test : (t : Bool) → bytes_eq (file_name P g) (file_name P f) ≡ t → new (file_name P g) ≡ None
    by_test true same = ap new ((bytes_eq-Decides (file_name P g) (file_name P f)).0 same) ∙ removed
    by_test false differ =
        let other : file_name P g ≢ file_name P f = λ same. true≢false (sym ((bytes_eq-Decides (file_name P g) (file_name P f)).1 same) ∙ differ) in
        stays (file_name P g) (apart P f (file_name P g) other) ∙ gone k g (earlier P fs i f k g at is lt other) is
