-- Attempts that are begun on a link.
use Rattle.std.proofs.Common.{◌≡◌, ◌≢◌, ◌<◌, ℕ, true, false, List, ◌++◌, length, Option, None, Ok, sym, subst}
use Rattle.std.specs.List.{list_any}
use Rattle.flow_types.specs.declared.plan.Plan.{Plan}
use Rattle.flow_types.specs.declared.job.Job.{Job}
use Rattle.flow_types.specs.declared.job.Failure.{Failure}
use Rattle.flow_types.specs.declared.job.Start.{Start}
use Rattle.flow_types.specs.declared.numbers.LinkNo.{LinkNo}
use Rattle.flow_types.specs.Plans.{is_empty}
use Rattle.flow_types.specs.Serial.{Contents, Function}
use Rattle.run_history.specs.Admissions.{Admitting}
use Rattle.run_history.specs.History.{part}
use Rattle.run_history.specs.Links.{is_live, names_link, records_of}
use Rattle.outside.specs.Disk.{Outcomes}
use Rattle.outside.specs.Files.{Files}
use Rattle.worker_pool.specs.declared.hand.Tally.{Tally}
use Rattle.desk.specs.declared.answers.Claim.{Claim}
use Rattle.desk.specs.declared.answers.Claim.TheVariants as claims
use Rattle.desk.specs.declared.attempt.Attempt.{Attempt}
use Rattle.desk.specs.Claims.{ClaimsBy}
use Rattle.desk.specs.Kept.{IsLegal}
use Rattle.desk.specs.State.{DeskState, IsFine}
use Rattle.local_run.specs.declared.halt.Halt.{Halt}
use Rattle.local_run.specs.Beyond.{IsClaimed, claimed_by}
use Rattle.local_run.specs.Collecting.{IsUntouched}
use Rattle.local_run.specs.Course.{LeavesAlone}
use Rattle.local_run.specs.Underway.{AwayState, Underway}
use Rattle.local_run.proofs.AwayClosed.{away_in}
use Rattle.local_run.proofs.Beyond.{named_on}
use Rattle.local_run.proofs.Claimed.{taken_goes}
use Rattle.local_run.proofs.ClaimsBegun.{begun, claims_on}
use Rattle.local_run.proofs.Elsewhere.{live_named}

-- what a claim that is answered tells
pub claim_told : {S : Type 0} (A : Admitting) (count : S → ℕ) (d after : DeskState S) (claim : Claim) (link : LinkNo) (time : ℕ) → is_empty (part (records_of d.moves)) ≡ false → IsLegal d.plan (records_of d.moves)
    → is_live d.options d.moves link.0 ≡ true → ClaimsBy A count d link time (Ok claim) after → IsFine after.trouble × IsClaimed A after link claim
claim_told {S} A count d after (claims.Taken attempt) link time opened legal lives h =
    let is = begun A count d after attempt link time opened legal lives h in
    (is.works, (h.2.2, record { rule = subst (λ (P : Plan). attempt.rule.0 < length P.rules) (sym is.plan) is.inside; runs = λ works. is.runs }, is.present))
claim_told {S} A count d after (claims.Nothing why) link time opened legal lives h = subst (λ (a : DeskState S). IsFine a.trouble × IsClaimed A a link (claims.Nothing why)) (sym h.2) (h.0, h.1)

module _ {S : Type 0} (trust : Type 0) (gives : Function) (may_fail : Job → Failure → Type 0) (sources : Contents) (tells kept sure : Type 0) (files : S → Files) (may_leave : S → Outcomes) (moment : S → ℕ)
    (images_since : S → ℕ → Files → Type 0) (away : AwayState) where
  abbrev pub UnderBy : AwayState → DeskState S → DeskState S → List Attempt → List Start → Option Attempt → Tally → Option Halt → Type 0
  UnderBy next first now held waiting loose heard halt = Underway trust gives may_fail sources tells kept sure files may_leave moment images_since next first now held waiting loose heard halt

  abbrev pub Alone : DeskState S → S → Type 0
  Alone d s = tells → LeavesAlone files may_leave moment images_since (IsUntouched d.plan d.log (records_of d.moves)) d.site s

  -- a claim for a link that is answered
  pub claims_away : (A : Admitting) (count : S → ℕ) (first d after : DeskState S) (held : List Attempt) (waiting : List Start) (heard : Tally) (claim : Claim) (link : LinkNo) (time : ℕ) (front back : List Attempt) → is_empty (part (records_of d.moves)) ≡ false
      → IsLegal d.plan (records_of d.moves) → is_live d.options d.moves link.0 ≡ true → link.0 ≢ 0 → Alone d after.site → away.attempts ≡ front ++ back → ClaimsBy A count d link time (Ok claim) after
      → UnderBy away first d held waiting None heard None → UnderBy (claimed_by (Ok claim) front back away) first after held waiting None heard None
  claims_away A count first d after held waiting heard (claims.Taken attempt) link time front back opened legal lives beyond others are h u =
      let goes = taken_goes trust gives may_fail sources tells files may_leave moment images_since A count d after attempt link time others h in
      let named : list_any (names_link link.0) after.moves ≡ true = named_on link.0 d.moves after.moves goes.passed goes.moves (live_named d.options d.moves link.0 beyond lives) in
      away_in trust gives may_fail sources tells kept sure files may_leave moment images_since away first after held waiting heard None front attempt back are
      (subst (λ (k : LinkNo). k.0 ≢ 0) (sym h.2.2) beyond) (subst (λ (k : LinkNo). list_any (names_link k.0) after.moves ≡ true) (sym h.2.2) named)
      (claims_on trust gives may_fail sources tells kept sure files may_leave moment images_since away A count first d after held waiting heard attempt link time opened legal lives others h u)
  claims_away A count first d after held waiting heard (claims.Nothing why) link time front back opened legal lives beyond others are h u =
      subst (λ (a : DeskState S). UnderBy away first a held waiting None heard None) (sym h.2) u
