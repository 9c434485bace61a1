-- Attempts that are given up, and those that come to their end.
use Rattle.std.specs.Prelude.{◌≡◌, ℕ, Bool, true, false, not, ◌&&◌, ◌==◌, List, [], ◌∷◌, ◌++◌, All, map}
use Rattle.std.specs.List.{list_any}
use Rattle.flow_types.specs.declared.job.Failure.{Failure}
use Rattle.flow_types.specs.declared.records.Record.{Record}
use Rattle.flow_types.specs.declared.records.Record.TheVariants as records
use Rattle.run_history.specs.declared.moves.Move.{Move}
use Rattle.run_history.specs.declared.moves.Move.TheVariants as moves
use Rattle.run_history.specs.Links.{records_of}
use Rattle.run_history.specs.Moves.{joins_and_changes}
use Rattle.desk.specs.declared.attempt.Attempt.{Attempt}
use Rattle.desk.specs.Kept.{logged}

-- an attempt was given up
abbrev pub is_lost : Record → Bool
is_lost (records.Lost moment rule attempt) = true
is_lost _ = false

-- the record starts this attempt of the rule, on a link other than the local place
abbrev pub starts_away : ℕ → ℕ → Record → Bool
starts_away r number (records.Started moment rule attempt link) = (rule.0 == r) && (attempt.0 == number) && not (link.0 == 0)
starts_away r number _ = false

-- If the record gives an attempt up, it is one that was started on a link other than the local place.
abbrev pub LosesAway : List Record → Record → Type 0
LosesAway H (records.Lost moment rule attempt) = list_any (starts_away rule.0 attempt.0) H ≡ true
LosesAway H _ = Unit {0}

-- the record starts this attempt of the rule on this link
abbrev pub starts_on : ℕ → ℕ → ℕ → Record → Bool
starts_on link r number (records.Started moment rule attempt at) = (rule.0 == r) && (attempt.0 == number) && (at.0 == link)
starts_on link r number _ = false

-- If the record tells how an attempt came to its end, that was started at the local place.
abbrev pub EndsHere : List Record → Record → Type 0
EndsHere all (records.Done moment rule attempt outs) = list_any (starts_on 0 rule.0 attempt.0) all ≡ true
EndsHere all (records.Failed moment rule attempt why) = list_any (starts_on 0 rule.0 attempt.0) all ≡ true
EndsHere all _ = Unit {0}

-- More moves stand behind these. None of them gives an attempt up, each attempt that comes to its end by them was started at the local place, and by none a link joins or changes its amounts.
pub record SparesAll (M all : List Move) : Type 0 where
  pub more : List Move
  pub are : all ≡ M ++ more
  pub none : list_any is_lost (records_of more) ≡ false
  pub here : All (EndsHere (records_of all)) (records_of more)
  pub quiet : joins_and_changes more ≡ 0

-- the record that the attempt gave these contents
abbrev pub done_as : Attempt → List (List ℕ) → ℕ → Record
done_as a outs moment = records.Done moment a.rule a.number (map logged outs)

-- the record that the attempt failed
abbrev pub failed_as : Attempt → Failure → ℕ → Record
failed_as a why moment = records.Failed moment a.rule a.number why

-- One move more stands behind these, the record of how the attempt came to its end. It was started on its link.
pub record EndsIt (M : List Move) (a : Attempt) (entry : ℕ → Record) (all : List Move) : Type 0 where
  pub moment : ℕ
  pub are : all ≡ M ++ (moves.Logged (entry moment) ∷ [])
  pub started : list_any (starts_on a.link.0 a.rule.0 a.number.0) (records_of M) ≡ true

-- One move more stands behind these, which gives the attempt up. It was started on its link.
pub record LosesIt (M : List Move) (a : Attempt) (all : List Move) : Type 0 where
  pub moment : ℕ
  pub are : all ≡ M ++ (moves.Logged (records.Lost moment a.rule a.number) ∷ [])
  pub started : list_any (starts_on a.link.0 a.rule.0 a.number.0) (records_of M) ≡ true
