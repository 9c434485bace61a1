-- What a shared call is.
use Rattle.std.specs.Prelude.{◌≡◌, ◌<◌, ◌^◌, ℕ, List, Option, Some, None, Result, IfOk, IfSome, IsErrOf, MatchBool, length}
use Rattle.flow_types.specs.declared.numbers.Amounts.{Amounts}
use Rattle.flow_types.specs.declared.numbers.Content.{Content}
use Rattle.flow_types.specs.declared.numbers.FileNo.{FileNo}
use Rattle.flow_types.specs.declared.numbers.LinkNo.{LinkNo}
use Rattle.run_history.specs.declared.answers.Stop.{Stop}
use Rattle.run_history.specs.declared.links.JoinRefused.{JoinRefused}
use Rattle.run_history.specs.declared.links.JoinRefused.TheVariants as unjoined
use Rattle.run_history.specs.declared.answers.Nothing.{Nothing}
use Rattle.run_history.specs.Admissions.{Admitting, claim_by, stop_by}
use Rattle.run_history.specs.Answers.{claim_of, stop_of}
use Rattle.run_history.specs.Laws.{IsPresent}
use Rattle.run_history.specs.Links.{is_live, records_of}
use Rattle.run_history.specs.Moves.{may_leave}
use Rattle.run_history.specs.Storage.{complete_count, is_present}
use Rattle.outside.specs.Disk.{Outcomes}
use Rattle.outside.specs.Files.{Files}
use Rattle.file_store.specs.Outputs.{file_name}
use Rattle.desk.specs.declared.answers.Claim.{Claim}
use Rattle.desk.specs.declared.answers.ClaimRefused.{ClaimRefused}
use Rattle.desk.specs.declared.answers.ClaimRefused.TheVariants as unclaimed
use Rattle.desk.specs.declared.answers.CollectRefused.{CollectRefused}
use Rattle.desk.specs.declared.answers.InputRefused.{InputRefused}
use Rattle.desk.specs.declared.answers.InputRefused.TheVariants as unread
use Rattle.desk.specs.Claims.{ClaimsAs}
use Rattle.desk.specs.Inputs.{Looks, Tells}
use Rattle.desk.specs.Links.{Changes, Leaves}
use Rattle.desk.specs.State.{DeskState, IsFine}
use Rattle.turns.specs.Turns.{Known, Turned}
use Rattle.board.specs.Goes.{GoesOn}

-- The desk was called at one point of its history, which goes on from what the pass had seen, and the pass has then seen what the call left.
abbrev pub Called : {S : Type 0} → Type 0 → (S → Files) → (S → Outcomes) → (S → ℕ) → (S → ℕ → Files → Type 0)
    → Known (DeskState S) → Known (DeskState S) → (DeskState S → DeskState S → Type 0) → Type 0
Called {S} tells files may_leave moment images_since before new call =
    (found : DeskState S)
    × (after : DeskState S)
    × Turned (GoesOn tells files may_leave moment images_since) (λ d. length d.moves) before found after new
    × call found after

module _ {S : Type 0} where
  -- The pass saw a desk with this fact.
  abbrev pub Sees : Known (DeskState S) → (DeskState S → Type 0) → Type 0
  Sees p fact = (d : DeskState S) × (p.seen ≡ Some d) × fact d

  -- The desk came to the board with this fact.
  abbrev pub OnBoard : Known (DeskState S) → (DeskState S → Type 0) → Type 0
  OnBoard p fact = (d : DeskState S) × (p.of.start ≡ Some d) × fact d

  -- So many moves were made, and so many rules are complete.
  abbrev pub AreCounts : DeskState S → ℕ → ℕ → Type 0
  AreCounts d many much =
      (many ≡ length d.moves) × (many < 2 ^ 62) × (much ≡ complete_count d.plan (records_of d.moves))

  -- A claim with this choice where the link lives; where it doesn't, the answer is want of memory, and nothing changes.
  abbrev pub ClaimsHereAs : (S → ℕ) → DeskState S → Result ℕ Nothing → LinkNo → ℕ → Result Claim ClaimRefused
      → DeskState S → Type 0
  ClaimsHereAs count found choice link moment reply after =
      MatchBool (is_live found.options found.moves link.0) (ClaimsAs count found choice link moment reply after)
      (IsErrOf reply unclaimed.Memory × (after ≡ found))

  -- A claim where the link lives.
  abbrev pub ClaimsHere : (S → ℕ) → DeskState S → LinkNo → ℕ → Result Claim ClaimRefused → DeskState S → Type 0
  ClaimsHere count found link moment reply after =
      ClaimsHereAs count found (claim_of found.plan found.options found.moves found.stop link.0) link moment reply after

  -- The same where an admission has a say.
  abbrev pub ClaimsByHere : Admitting → (S → ℕ) → DeskState S → LinkNo → ℕ → Result Claim ClaimRefused → DeskState S
      → Type 0
  ClaimsByHere A count found link moment reply after =
      ClaimsHereAs count found (claim_by A found.plan found.options found.moves found.stop link.0) link moment reply
      after

  -- A link states other amounts, where it lives; where it doesn't, the answer is want of memory, and nothing changes.
  abbrev pub ChangesHere : DeskState S → LinkNo → Amounts → Amounts → ℕ → Result (Unit {0}) JoinRefused → DeskState S
      → Type 0
  ChangesHere found link total largest cache reply after =
      MatchBool (is_live found.options found.moves link.0) (Changes found link total largest cache reply after)
      (IsErrOf reply unjoined.Memory × (after ≡ found))

  -- A file is read where it is present, and the bytes or the damage are what the site has; where it isn't, the answer is want of memory, and nothing changes.
  abbrev pub ReadsHere : Type 0 → (S → Files) → (S → ℕ) → DeskState S → FileNo → Result (List ℕ) InputRefused
      → DeskState S → Type 0
  ReadsHere tells files count found file reply after =
      MatchBool (is_present found.plan (records_of found.moves) file.0)
      ((logged : Content) → IsPresent found.plan (records_of found.moves) file.0 logged
      → Looks count found file logged reply after
      × (tells → IsFine found.trouble → Tells logged (files found.site (file_name found.plan file.0)) reply))
      (IsErrOf reply unread.Memory × (after ≡ found))

  -- A link leaves where it may; where it may not, nothing changes.
  abbrev pub LeavesHere : DeskState S → LinkNo → DeskState S → Type 0
  LeavesHere found link after =
      MatchBool (may_leave found.plan found.options found.moves link.0) (Leaves found link after) (after ≡ found)

  -- There is no file under the name of the one that was collected.
  abbrev pub IsGone : Type 0 → (S → Files) → DeskState S → Result (Option FileNo) CollectRefused → DeskState S → Type 0
  IsGone tells files found reply after =
      IfOk reply (λ dropped. IfSome dropped (λ file. tells → files after.site (file_name found.plan file.0) ≡ None))

  -- What a stop that was asked for makes of a desk.
  abbrev pub Stops : DeskState S → Stop → DeskState S → Type 0
  Stops found why after =
      after ≡ record found { stop = stop_of found.plan found.options found.moves found.stop why }

  -- The same where an admission has a say.
  abbrev pub StopsBy : Admitting → DeskState S → Stop → DeskState S → Type 0
  StopsBy A found why after =
      after ≡ record found { stop = stop_by A found.plan found.options found.moves found.stop why }
