-- The first arrow in an item, as the library finds it and as the definition does.
use Rattle.std.proofs.Common.{◌≡◌, ℕ, zero, suc, ◌<◌, ◌≤◌, Bool, true, false, ◌&&◌, eqb, List, [], ◌∷◌, ◌++◌, length, get_or, take, drop, Option, Some, None, refl, sym, ap, ◌∙◌, arith}
use Rattle.std.proofs.lemmas.Bool.{and_parts, eqb-true}
use Rattle.std.specs.Str.Pattern.{LacksTextAt, FindsText, SplitsAroundMatch}
use Rattle.flow_types.specs.declared.flow.RawFile.{RawFile}
use Rattle.mf_forms.specs.Heads.{around_arrow, file_by, file_of, remote_of}

abbrev pub arrow : List ℕ
arrow = 45 ∷ 62 ∷ []

begins_by : (c : ℕ) (more : List ℕ) → c ≡ 45 → get_or more 0 0 ≡ 62 → (rest : List ℕ) × (c ∷ more ≡ arrow ++ rest)
begins_by c [] e f = absurd (omega (arith, f))
begins_by c (d ∷ rest) e f = (rest, rw (e, f) refl)

-- the test of the definition fails where the arrow doesn't stand at the front
lacking_by : (c : ℕ) (more : List ℕ) (b : Bool) → (eqb c 45 && eqb (get_or more 0 0) 62) ≡ b → LacksTextAt arrow (c ∷ more) 0 → b ≡ false
lacking_by c more true h lacks =
    let parts : (eqb c 45 ≡ true) × (eqb (get_or more 0 0) 62 ≡ true) = and_parts _ _ h in
    let begins : (rest : List ℕ) × (c ∷ more ≡ arrow ++ rest) = begins_by c more (eqb-true c 45 parts.0) (eqb-true (get_or more 0 0) 62 parts.1) in
    absurd (lacks begins.0 begins.1)
lacking_by c more false h lacks = refl

lacking : (c : ℕ) (more : List ℕ) → LacksTextAt arrow (c ∷ more) 0 → (eqb c 45 && eqb (get_or more 0 0) 62) ≡ false
lacking c more lacks = lacking_by c more (eqb c 45 && eqb (get_or more 0 0) 62) refl lacks

abbrev pub onto_front : ℕ → List ℕ × List ℕ → List ℕ × List ℕ
onto_front c parts = (c ∷ parts.0, parts.1)

around-none : (text : List ℕ) → ((i : ℕ) → i ≤ length text → LacksTextAt arrow text i) → around_arrow text ≡ None
around-none [] lacks = refl
around-none (c ∷ more) lacks =
    let front : (eqb c 45 && eqb (get_or more 0 0) 62) ≡ false = lacking c more (lacks 0 (omega arith)) in
    let rest : around_arrow more ≡ None = around-none more (λ i le. lacks (suc i) (omega (arith, le))) in
    rw (front, rest) refl

around-some : (text : List ℕ) (i : ℕ) (behind : List ℕ) → ((k : ℕ) → k < i → LacksTextAt arrow text k) → drop i text ≡ arrow ++ behind → around_arrow text ≡ Some (take i text, behind)
around-some [] zero behind lacks has = cc
around-some [] (suc i) behind lacks has = cc
around-some (c ∷ more) zero behind lacks has = ap around_arrow has
around-some (c ∷ more) (suc i) behind lacks has =
    let front : (eqb c 45 && eqb (get_or more 0 0) 62) ≡ false = lacking c more (lacks 0 (omega arith)) in
    let rest : around_arrow more ≡ Some (take i more, behind) = around-some more i behind (λ k lt. lacks (suc k) (omega (arith, lt))) has in
    rw (front, rest) refl

pub file-alone : (item text local : List ℕ) → text ≡ item → local ≡ text → FindsText arrow text None → file_by local None ≡ file_of item
file-alone item text local is l none = rw l (ap (file_by text) (sym (around-none text none)) ∙ ap file_of is)

pub file-around : (item text local front back : List ℕ) (name : Option (List ℕ)) → text ≡ item → SplitsAroundMatch (FindsText arrow) text front back → local ≡ front → name ≡ remote_of back
    → (let file : RawFile = record { local = local; remote = name } in file ≡ file_of item)
file-around item text local front back name is split l n =
    let at : around_arrow text ≡ Some (take split.0 text, drop split.1 text) = around-some text split.0 (drop split.1 text) split.2.0 split.2.1.split in
    let parts : around_arrow text ≡ Some (front, back) = at ∙ ap (λ x. Some (x, drop split.1 text)) (sym split.3) ∙ ap (λ y. Some (front, y)) (sym split.4) in
    rw (l, n) (ap (file_by text) (sym parts) ∙ ap file_of is)
