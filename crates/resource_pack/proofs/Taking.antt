-- The occupancy of loads, one after another.
use Rattle.std.proofs.Common.{◌≡◌, ◌<◌, ◌+◌, ℕ, cond, ◌&&◌, List, [], ◌∷◌, ◌++◌, length, take, get_or, refl, ap, sym, ◌∙◌, arith, length-append, Option, Some, None}
use Rattle.std.specs.Prelude.{sum_by, nat_lt, ◌==◌}
use Rattle.std.proofs.lemmas.Bool.{false_from_ne_true, eqb-true}
use Rattle.std.proofs.lemmas.List.{take_more}
use Rattle.std.proofs.lemmas.List.Sums.{fold-append}
use Rattle.flow_types.specs.declared.numbers.Amounts.{Amounts}
use Rattle.flow_types.specs.declared.numbers.Needs.{Needs}
use Rattle.flow_types.specs.Plans.{is_empty}
use Rattle.run_history.specs.Links.{LinkRow, Load, amounts_on, no_amounts, taken_on, with_amounts, has_room, leaves_amounts, leaves_bytes, is_whole_link, is_at_most, most_tasks}
use Rattle.resource_pack.specs.Occupancy.{occupancy_of, with_task, has_room_beside, leaves_amounts_beside, leaves_bytes_beside}

-- one load more
pub occupancy-push : (k : ℕ) (total : Amounts) (loads : List Load) (load : Load) → occupancy_of k total (loads ++ (load ∷ [])) ≡ with_task k total load (occupancy_of k total loads)
occupancy-push k total loads load =
    ap (λ n. record { tasks = n; amounts = taken_on k total (loads ++ (load ∷ [])); bytes = sum_by (λ (x : Load). x.bytes) (loads ++ (load ∷ [])) }) (length-append loads (load ∷ []))
    ∙ ap (λ a. record { tasks = length loads + 1; amounts = a; bytes = sum_by (λ (x : Load). x.bytes) (loads ++ (load ∷ [])) })
    (fold-append (λ taken (x : Load). with_amounts taken (amounts_on k total x.needs)) no_amounts loads (load ∷ []))
    ∙ ap (λ n. record { tasks = length loads + 1; amounts = with_amounts (taken_on k total loads) (amounts_on k total load.needs); bytes = n })
    (fold-append (λ (n : ℕ) (x : Load). n + x.bytes) 0 loads (load ∷ []))

pub occupancy-more : (k : ℕ) (total : Amounts) (n : ℕ) (loads : List Load) (load : Load) → n < length loads → load ≡ get_or loads n load
    → occupancy_of k total (take (n + 1) loads) ≡ with_task k total load (occupancy_of k total (take n loads))
occupancy-more k total n loads load inside here =
    ap (occupancy_of k total) (take_more loads n load inside ∙ ap (λ (x : Load). take n loads ++ (x ∷ [])) (sym here)) ∙ occupancy-push k total (take n loads) load

is_none : (loads : List Load) → is_empty loads ≡ (length loads == 0)
is_none [] = refl
is_none (x ∷ xs) =
    sym (false_from_ne_true (length (x ∷ xs) == 0) (λ same. let none : length (x ∷ xs) ≡ 0 = eqb-true (length (x ∷ xs)) 0 same in omega (arith, none)))

amounts_beside : (k : ℕ) (row : LinkRow) (loads : List Load) (needs : Needs) → leaves_amounts k row loads needs ≡ leaves_amounts_beside k row (occupancy_of k row.total loads) needs
amounts_beside k row loads needs =
    ap (λ b. cond (is_whole_link k needs) b (is_at_most (amounts_on k row.total needs) row.largest && is_at_most (with_amounts (taken_on k row.total loads) (amounts_on k row.total needs)) row.total)) (is_none loads)

bytes_beside : (k : ℕ) (total : Amounts) (cache : Option ℕ) (loads : List Load) (bytes : ℕ) → leaves_bytes cache loads bytes ≡ leaves_bytes_beside cache (occupancy_of k total loads) bytes
bytes_beside k total None loads bytes = refl
bytes_beside k total (Some cache) loads bytes = refl

-- What fits beside loads fits beside their occupancy.
pub room-beside : (k : ℕ) (row : LinkRow) (loads : List Load) (load : Load) → has_room k row loads load ≡ has_room_beside k row (occupancy_of k row.total loads) load
room-beside k row loads load =
    ap (λ b. nat_lt (length loads) most_tasks && b && leaves_bytes row.cache loads load.bytes) (amounts_beside k row loads load.needs)
    ∙ ap (λ b. nat_lt (length loads) most_tasks && leaves_amounts_beside k row (occupancy_of k row.total loads) load.needs && b) (bytes_beside k row.total row.cache loads load.bytes)
