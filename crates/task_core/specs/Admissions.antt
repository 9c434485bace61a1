-- What a table answers to claims and stops where an admission has a say, and what it leaves.
use Rattle.std.specs.Prelude.{◌≡◌, ◌<◌, ◌≤◌, ℕ, Bool, true, false, ◌&&◌, List, length, Result, Ok, Err}
use Rattle.flow_types.specs.declared.plan.Plan.{Plan}
use Rattle.flow_types.specs.declared.numbers.AttemptNo.{AttemptNo}
use Rattle.flow_types.specs.declared.numbers.LinkNo.{LinkNo}
use Rattle.flow_types.specs.declared.numbers.RuleNo.{RuleNo}
use Rattle.flow_types.specs.declared.records.Record.{Record}
use Rattle.flow_types.specs.declared.records.Record.TheVariants as records
use Rattle.run_history.specs.declared.moves.Move.{Move}
use Rattle.run_history.specs.declared.answers.Nothing.{Nothing}
use Rattle.run_history.specs.Admissions.{Admitting, claim_by}
use Rattle.run_history.specs.History.{next_attempt}
use Rattle.run_history.specs.Legal.{is_allowed}
use Rattle.run_history.specs.Links.{records_of}
use Rattle.task_core.specs.declared.asking.Asked.{Asked}
use Rattle.task_core.specs.declared.asking.AskedFor.{AskedFor}
use Rattle.task_core.specs.declared.asking.AskedFor.TheVariants as asked_for
use Rattle.task_core.specs.declared.step.Reply.{Reply}
use Rattle.task_core.specs.declared.table.Started.{Started}
use Rattle.task_core.specs.Asked.{asks, asks_for}
use Rattle.task_core.specs.Known.{Known}
use Rattle.task_core.specs.States.{TableState}
use Rattle.task_core.specs.Stands.{IsStill, Stands, logged}
use Rattle.task_core.specs.Steps.{Replies, claimed}

-- What a claim answers, and where the table stands then.
abbrev pub ClaimsBy : Admitting → TableState → List Move → LinkNo → Result Started Nothing → TableState → Type 0
ClaimsBy A t M link (Ok started) after =
    (claim_by A t.plan t.options M t.stop link.0 ≡ Ok started.rule.0) × (started.attempt.0 ≡ next_attempt (records_of M))
    × ((moment : ℕ) → Stands after (logged M (records.Started moment started.rule started.attempt link))) × IsStill t after
ClaimsBy A t M link (Err why) after = (claim_by A t.plan t.options M t.stop link.0 ≡ Err why) × (after ≡ t)

-- The reply to a claim, and where the table stands then.
abbrev pub RepliesBy : Admitting → TableState → List Move → LinkNo → Reply → TableState → Type 0
RepliesBy A t M link said after = Replies claimed (λ answer. ClaimsBy A t M link answer after) said

-- this holds of rule r, and it is admitted
abbrev pub asks_by : Admitting → Known → List Record → Asked → ℕ → Bool
asks_by A K H asked r = asks K asked r && A K.plan K.options H r

-- this holds of rule r for link k, and it is admitted
abbrev pub asks_for_by : Admitting → Known → List Record → ℕ → AskedFor → ℕ → Bool
asks_for_by A K H k asked r = asks_for K k asked r && A K.plan K.options H r

-- No rule before this one may start on link k.
abbrev pub NoneBefore : Known → ℕ → ℕ → Type 0
NoneBefore K k first = (first ≤ length K.plan.rules) × ((r : ℕ) → r < first → asks_for K k asked_for.Startable r ≡ false)

-- Whether the start of the rule on the link, with the number of the next attempt and whatever its moment, may stand behind the records of these moves.
abbrev pub IsStartAllowed : Plan → List Move → RuleNo → LinkNo → Bool → Type 0
IsStartAllowed P M rule link allowed =
    (digest : List ℕ) (moment : ℕ) (attempt : AttemptNo) → attempt.0 ≡ next_attempt (records_of M) → is_allowed P digest (records_of M) (records.Started moment rule attempt link) ≡ allowed

-- What the taking in of a start answers: the table stands behind it, with the number of the next attempt and whatever its moment, or nothing changes.
abbrev pub Takes : TableState → List Move → RuleNo → LinkNo → Bool → TableState → Type 0
Takes t M rule link true after =
    ((moment : ℕ) (attempt : AttemptNo) → attempt.0 ≡ next_attempt (records_of M) → Stands after (logged M (records.Started moment rule attempt link))) × IsStill t after
Takes t M rule link false after = after ≡ t
