-- What a window shows of a file.
use Rattle.std.proofs.Common.{inl, inr, ◌≡◌, ◌≤◌, ℕ, ◌+◌, ◌-◌, List, length, take, drop, ap, ◌∙◌, arith, length-drop, length-take, take_all, take_at, take-take, drop-drop}
use Rattle.std.proofs.lemmas.Bool.{cases_eq}
use Rattle.std.proofs.lemmas.List.{drop-take}
use Rattle.outside.specs.Files.{Reads}

-- the bytes that a read gives
pub read_part : (bytes : List ℕ) (at : ℕ) (old new : List ℕ) (count : ℕ) → Reads bytes at old new count → take count new ≡ take count (drop at bytes)
read_part bytes at old new count reads =
    let tail = drop at bytes in
    let few : count ≤ length tail = omega (arith, reads.least, length-drop at bytes) in
    ap (λ (l : List ℕ). take count l) reads.filled ∙ take_at (take count tail) (drop count old) count (omega (arith, length-take count tail, few))

-- up to so many bytes, where a read had room for them
pub seen_read : (bytes : List ℕ) (at len : ℕ) (old new : List ℕ) (count : ℕ) → Reads bytes at old new count → len ≤ length old
    → take len (drop (at - at) (take count new)) ≡ take len (drop at bytes)
seen_read bytes at len old new count reads room =
    let tail = drop at bytes in
    let none : at - at ≡ 0 = omega arith in
    ap (λ (n : ℕ). take len (drop n (take count new))) none
    ∙ ap (λ (l : List ℕ). take len l) (read_part bytes at old new count reads)
    ∙ elim (cases_eq count (length old)) [
      | inl full ↦ take-take len count tail (omega (arith, full, room))
      | inr other ↦ ap (λ (l : List ℕ). take len l) (take_all count tail (omega (arith, reads.least, length-drop at bytes, other)))
    ]

-- up to so many bytes, of which all were read
pub seen_covered : (bytes part : List ℕ) (count place at len : ℕ) → part ≡ take count (drop place bytes) → place ≤ at → at + len ≤ place + count
    → take len (drop (at - place) part) ≡ take len (drop at bytes)
seen_covered bytes part count place at len is behind within =
    let skipped = at - place in
    let left = count - skipped in
    let parts : count ≡ skipped + left = omega (arith, behind, within) in
    let there : place + skipped ≡ at = omega (arith, behind) in
    ap (λ (l : List ℕ). take len (drop skipped l)) (is ∙ ap (λ (n : ℕ). take n (drop place bytes)) parts)
    ∙ ap (λ (l : List ℕ). take len l) (drop-take skipped left (drop place bytes))
    ∙ take-take len left (drop skipped (drop place bytes)) (omega (arith, behind, within))
    ∙ ap (λ (l : List ℕ). take len l) (drop-drop skipped place bytes ∙ ap (λ (n : ℕ). drop n bytes) there)
