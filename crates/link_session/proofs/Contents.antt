-- Contents and their bounds.
use Rattle.std.proofs.Common.{◌≡◌, ◌≢◌, ◌<◌, ◌≤◌, ◌+◌, ℕ, Bool, true, false, ◌&&◌, List, [], ◌∷◌, refl, sym, ap, ◌∙◌, length, nat_le, suc, sum_by, get_or, drop, Some, arith}
use Rattle.std.specs.List.{slice_get}
use Rattle.std.proofs.lemmas.List.{drop_more}
use Rattle.std.proofs.lemmas.List.Sums.{sum_by-cons}
use Rattle.std.proofs.lemmas.Bool.{leb-true}
use Rattle.std.proofs.lemmas.Option.{slice_get-get_or, slice_get_within, get_or_from_slice_get}
use Rattle.link_session.specs.Fits.{are_within}

both_right : (a b : Bool) → (a && b) ≡ true → b ≡ true
both_right true b is = is
both_right false b is = absurd cc

-- what is within has one content for each bound
pub within_length : (bounds : List ℕ) (contents : List (List ℕ)) → are_within bounds contents ≡ true → length bounds ≡ length contents
within_length [] [] is = refl
within_length [] (content ∷ contents) is = absurd cc
within_length (bound ∷ bounds) [] is = absurd cc
within_length (bound ∷ bounds) (content ∷ contents) is =
    ap (λ (n : ℕ). suc n) (within_length bounds contents (both_right (nat_le (length content) bound) (are_within bounds contents) is))

unless : (b : Bool) → (b ≡ true → ⊥) → false ≡ b
unless true none = absurd (none refl)
unless false none = refl

pub other_length : (bounds : List ℕ) (contents : List (List ℕ)) → length bounds ≢ length contents → false ≡ are_within bounds contents
other_length bounds contents differ = unless (are_within bounds contents) (λ is. differ (within_length bounds contents is))

-- the next bound and content are looked at
pub step_within : (bounds : List ℕ) (contents : List (List ℕ)) (i bound : ℕ) (fits : Bool) → length bounds ≡ length contents → i < length bounds
    → get_or bounds i 0 ≡ bound → ((content : List ℕ) → slice_get contents i ≡ Some content → fits ≡ nat_le (length content) bound)
    → are_within (drop i bounds) (drop i contents) ≡ (fits && are_within (drop (i + 1) bounds) (drop (i + 1) contents))
step_within bounds contents i bound fits same lt is by =
    let c = get_or contents i [] in
    let there : i < length contents = omega arith in
    ap (λ (bs : List ℕ). are_within bs (drop i contents)) (drop_more bounds i 0 lt)
    ∙ ap (λ (cs : List (List ℕ)). are_within (get_or bounds i 0 ∷ drop (i + 1) bounds) cs) (drop_more contents i [] there)
    ∙ ap (λ (b : ℕ). nat_le (length c) b && are_within (drop (i + 1) bounds) (drop (i + 1) contents)) is
    ∙ ap (λ (b : Bool). b && are_within (drop (i + 1) bounds) (drop (i + 1) contents)) (sym (by c (slice_get-get_or contents i [] there)))

-- the bytes of a content, and of those behind it
pub step_sum : (contents : List (List ℕ)) (i : ℕ) (content : List ℕ) → slice_get contents i ≡ Some content
    → sum_by (λ c. length c) (drop i contents) ≡ length content + sum_by (λ c. length c) (drop (i + 1) contents)
step_sum contents i content is =
    let there : i < length contents = slice_get_within contents i content is in
    ap (λ (cs : List (List ℕ)). sum_by (λ c. length c) cs)
    (drop_more contents i [] there ∙ ap (λ (c : List ℕ). c ∷ drop (i + 1) contents) (get_or_from_slice_get contents i content [] is))
    ∙ sum_by-cons (λ (c : List ℕ). length c) content (drop (i + 1) contents)

pub too_much : (total limit : ℕ) → limit < total → false ≡ nat_le total limit
too_much total limit over = unless (nat_le total limit) (λ is. let few : total ≤ limit = leb-true total limit is in absurd (omega arith))
