-- Peers that are gone, and those that live.
use Rattle.std.proofs.Common.{◌≡◌, ◌≤◌, ◌<◌, ◌+◌, ◌∙◌, ◌⊎◌, inl, inr, ℕ, zero, suc, Bool, true, false, cond, List, [], ◌∷◌, ◌++◌, length, get_or, drop, refl, ap, arith}
use Rattle.std.specs.Prelude.{remove}
use Rattle.std.specs.List.{AllByRecursion}
use Rattle.task_book.proofs.Sizes.{next_item}
use Rattle.wq_company.specs.Companies.{live_of, ways_of}
use Rattle.wq_seats.specs.Seats.{SeatState}

pub ways_left : {L : Type 0} (P : L → Type 0) (seats : List (SeatState L)) (at : ℕ) → AllByRecursion P (ways_of seats) → AllByRecursion P (ways_of (remove seats at))
ways_left P [] zero all = tt
ways_left P [] (suc at) all = tt
ways_left P (s ∷ seats) zero all = all.1
ways_left P (s ∷ seats) (suc at) all = (all.0, ways_left P seats at all.1)

-- ---- peers that live

live_by : {L : Type 0} (s : SeatState L) (rest : List (SeatState L)) (b : Bool) → s.gone ≡ b → length (live_of (s ∷ rest)) ≡ length (live_of (s ∷ [])) + length (live_of rest)
live_by s rest true is = rw is (omega arith)
live_by s rest false is = rw is (omega arith)

-- one peer more
pub live_next : {L : Type 0} (seats : List (SeatState L)) (i : ℕ) (s : SeatState L) → i < length seats → s ≡ get_or seats i s → length (live_of (drop i seats)) ≡ length (live_of (s ∷ [])) + length (live_of (drop (i + 1) seats))
live_next {L} seats i s less is = ap (λ (xs : List (SeatState L)). length (live_of xs)) (next_item seats i s less is) ∙ live_by s (drop (i + 1) seats) s.gone refl

little_by : {L : Type 0} (s : SeatState L) (b : Bool) → s.gone ≡ b → length (live_of (s ∷ [])) ≤ 1
little_by s true is = rw is (omega arith)
little_by s false is = rw is (omega arith)

pub live_little : {L : Type 0} (s : SeatState L) → length (live_of (s ∷ [])) ≤ 1
live_little s = little_by s s.gone refl

-- ---- a peer comes

ways_more : {L : Type 0} (seats : List (SeatState L)) (s : SeatState L) → ways_of (seats ++ s ∷ []) ≡ ways_of seats ++ s.peer.way ∷ []
ways_more [] s = refl
ways_more (x ∷ seats) s = ap (λ (ways : List _). x.peer.way ∷ ways) (ways_more seats s)

-- where there was memory for it
pub ways_pushed : {L : Type 0} (ok : Bool) (old new : List (SeatState L)) (s : SeatState L) → new ≡ cond ok (old ++ s ∷ []) old → (ways_of new ≡ ways_of old) ⊎ (ways_of new ≡ ways_of old ++ s.peer.way ∷ [])
ways_pushed {L} true old new s is = inr (ap (λ (xs : List (SeatState L)). ways_of xs) is ∙ ways_more old s)
ways_pushed {L} false old new s is = inl (ap (λ (xs : List (SeatState L)). ways_of xs) is)
