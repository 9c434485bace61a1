-- What becomes of what goes on on links, call by call.
use Rattle.std.specs.Prelude.{◌≡◌, ℕ, ◌+◌, true, List, [], ◌∷◌, ◌++◌, Result, Ok, Err}
use Rattle.std.specs.List.{list_all}
use Rattle.flow_types.specs.declared.numbers.Amounts.{Amounts}
use Rattle.flow_types.specs.declared.numbers.LinkNo.{LinkNo}
use Rattle.flow_types.specs.Plans.{takes}
use Rattle.run_history.specs.declared.links.JoinRefused.{JoinRefused}
use Rattle.run_history.specs.declared.moves.Move.TheVariants as moves
use Rattle.run_history.specs.Admissions.{Admitting, claim_by}
use Rattle.run_history.specs.Links.{records_of}
use Rattle.run_history.specs.Storage.{is_present}
use Rattle.desk.specs.declared.answers.Claim.{Claim}
use Rattle.desk.specs.declared.answers.Claim.TheVariants as claims
use Rattle.desk.specs.declared.attempt.Attempt.{Attempt}
use Rattle.desk.specs.State.{DeskState, IsFine}
use Rattle.local_run.specs.declared.halt.Halt.{Halt}
use Rattle.local_run.specs.Underway.{AwayState, RunsAt}

-- once a link has joined, if it did
abbrev pub joined_by : Amounts → Amounts → ℕ → Result LinkNo JoinRefused → AwayState → AwayState
joined_by total largest cache (Ok link) away = record away { links = away.links ++ (moves.Joined link total largest cache ∷ []) }
joined_by total largest cache (Err why) away = away

-- once a link has changed its amounts, if it did
abbrev pub changed_by : LinkNo → Amounts → Amounts → ℕ → Result (Unit {0}) JoinRefused → AwayState → AwayState
changed_by link total largest cache (Ok done) away = record away { links = away.links ++ (moves.Changed link total largest cache ∷ []) }
changed_by link total largest cache (Err why) away = away

-- once a link has left
abbrev pub left_by : LinkNo → AwayState → AwayState
left_by link away = record away { links = away.links ++ (moves.Left link ∷ []) }

-- once a claim was answered: the attempt that it began stands between these
abbrev pub claimed_by : Result Claim Halt → List Attempt → List Attempt → AwayState → AwayState
claimed_by (Ok (claims.Taken attempt)) front back away = record away { attempts = front ++ (attempt ∷ back) }
claimed_by (Ok (claims.Nothing why)) front back away = away
claimed_by (Err halt) front back away = away

-- What a claim for this link tells of the desk behind it: the attempt is on the link and runs, and the inputs of its rule are present; or this is why none was begun.
abbrev pub IsClaimed : {S : Type 0} → Admitting → DeskState S → LinkNo → Claim → Type 0
IsClaimed A d link (claims.Taken attempt) =
    (attempt.link ≡ link) × RunsAt d.plan (IsFine d.trouble) (records_of d.moves) attempt × (list_all (is_present d.plan (records_of d.moves)) (takes d.plan attempt.rule.0) ≡ true)
IsClaimed A d link (claims.Nothing why) = claim_by A d.plan d.options d.moves d.stop link.0 ≡ Err why

-- once an attempt there was closed, beside these
abbrev pub done_by : List Attempt → AwayState → AwayState
done_by others away = record away { attempts = others }

-- the same of one whose command failed
abbrev pub failed_by : List Attempt → AwayState → AwayState
failed_by others away = record away { attempts = others; failed = away.failed + 1 }

-- the same of one that was given up
abbrev pub lost_by : List Attempt → AwayState → AwayState
lost_by others away = record away { attempts = others; lost = away.lost + 1 }
