-- What is so of each runner of a list.
use Rattle.std.proofs.Common.{List, [], ◌∷◌, All}
use Rattle.std.proofs.lemmas.List.Elements.{All-head, All-tail}
use Rattle.worker_pool.specs.Hands.{AllHave, Crew}

have_all : {A : Type 0} (fact : A → Type 0) (xs : List A) → All fact xs → AllHave fact xs
have_all fact [] all = tt
have_all fact (x ∷ xs) all = (All-head fact x xs all, have_all fact xs (All-tail fact x xs all))

have_one : {A : Type 0} (fact : Type 0) (xs : List A) → fact → AllHave (λ x. fact) xs
have_one fact [] is = tt
have_one fact (x ∷ xs) is = (is, have_one fact xs is)

-- a fact of each
pub crew_all : {A : Type 0} (fact : A → Type 0) (xs : List A) → All fact xs → Crew fact xs
crew_all fact xs all = record { each = have_all fact xs all }

-- one that says nothing of the runner
pub crew_one : {A : Type 0} (fact : Type 0) (xs : List A) → fact → Crew (λ x. fact) xs
crew_one fact xs is = record { each = have_one fact xs is }
