-- Each call of a desk is a turn of it.
use Rattle.std.proofs.Common.{◌≡◌, ◌≢◌, ◌≤◌, ◌+◌, ⊎_elim, inl, inr, ℕ, Bool, true, false, List, ◌++◌, Result, Ok, Err, MatchBool, refl, sym, ap, ◌∙◌, subst, arith, cond}
use Rattle.std.specs.Prelude.{IsErrOf, count_by, is_some}
use Rattle.std.proofs.lemmas.List.Sums.{sum_by-append}
use Rattle.flow_types.specs.declared.numbers.Amounts.{Amounts}
use Rattle.flow_types.specs.declared.numbers.Content.{Content}
use Rattle.flow_types.specs.declared.numbers.FileNo.{FileNo}
use Rattle.flow_types.specs.declared.numbers.LinkNo.{LinkNo}
use Rattle.flow_types.specs.declared.plan.Plan.{Plan}
use Rattle.flow_types.specs.Plans.{makes}
use Rattle.run_history.specs.declared.answers.Nothing.{Nothing}
use Rattle.run_history.specs.declared.links.JoinRefused.{JoinRefused}
use Rattle.run_history.specs.declared.links.JoinRefused.TheVariants as unjoined
use Rattle.run_history.specs.declared.moves.Move.{Move}
use Rattle.run_history.specs.declared.states.FileState.{FileState}
use Rattle.run_history.specs.declared.states.FileState.TheVariants as file
use Rattle.run_history.specs.Laws.{IsPresent}
use Rattle.run_history.specs.Links.{is_live, records_of}
use Rattle.run_history.specs.Moves.{is_change, is_join, joins_and_changes, may_leave, most_joins}
use Rattle.run_history.specs.States.{file_state}
use Rattle.run_history.specs.Storage.{is_present, size_in}
use Rattle.outside.specs.Disk.{Outcomes}
use Rattle.outside.specs.Files.{Files}
use Rattle.outside.proofs.Moments.{weakened}
use Rattle.file_store.specs.Outputs.{file_name}
use Rattle.desk.specs.declared.answers.Claim.{Claim}
use Rattle.desk.specs.declared.answers.ClaimRefused.{ClaimRefused}
use Rattle.desk.specs.declared.answers.ClaimRefused.TheVariants as unclaimed
use Rattle.desk.specs.declared.answers.InputRefused.{InputRefused}
use Rattle.desk.specs.declared.answers.InputRefused.TheVariants as unread
use Rattle.desk.specs.Claims.{ClaimsAs}
use Rattle.desk.specs.Collections.{IsUncollected}
use Rattle.desk.specs.Goes.{Goes}
use Rattle.desk.specs.Inputs.{Looks, Tells}
use Rattle.desk.specs.Kept.{IsElse}
use Rattle.desk.specs.Links.{Changes, Joins, Leaves}
use Rattle.desk.specs.State.{CanLose, DeskState, IsCut, IsFine}
use Rattle.desk.proofs.Collected.{freed}
use Rattle.desk.proofs.Goings.{changes_goes, claims_goes, leaves_goes, looks_goes, same_goes}
use Rattle.desk.proofs.Removing.{chosen-free}
use Rattle.board.specs.Calls.{ChangesHere, ClaimsHereAs, LeavesHere, ReadsHere}
use Rattle.board.specs.Goes.{IsUnmade, OthersStay, Stay}

module _ {S : Type 0} (tells : Type 0) (files : S → Files) (may_leave : S → Outcomes) (moment : S → ℕ) (images_since : S → ℕ → Files → Type 0) where
  -- fewer names
  stay_less : (more fewer : List ℕ → Type 0) (old new : S) → ((m : List ℕ) → fewer m → more m) → Stay tells files may_leave moment images_since more old new
      → Stay tells files may_leave moment images_since fewer old new
  stay_less more fewer old new so stay = (
    record {
      now = λ m file other left. stay.0.now m file (so m other) left;
      any_moment = weakened moment images_since old new (λ image. (m : List ℕ) → more m → may_leave old m (image m)) (λ image. (m : List ℕ) → fewer m → may_leave old m (image m))
          stay.0.any_moment (λ image left m other. left m (so m other));
    },
    λ m other. stay.1 m (so m other),
  )

  -- a call that only reads
  pub others_all : (before after : DeskState S) → (tells → Stay tells files may_leave moment images_since (λ m. Unit {0}) before.site after.site)
      → OthersStay tells files may_leave moment images_since before after
  others_all before after stay told = inr (stay_less (λ m. Unit {0}) (IsUnmade before.plan before.log) before.site after.site (λ m other. tt) (stay told))

  -- a call that writes to the log alone
  pub others_but_log : (before after : DeskState S) → (tells → Stay tells files may_leave moment images_since (λ m. m ≢ before.log) before.site after.site)
      → OthersStay tells files may_leave moment images_since before after
  others_but_log before after stay told = inr (stay_less (λ m. m ≢ before.log) (IsUnmade before.plan before.log) before.site after.site (λ m other. other.0) (stay told))

  -- a call that writes to the log and to the files of one rule
  pub others_but_rule : (before after : DeskState S) (r : ℕ) → (tells → Stay tells files may_leave moment images_since (IsElse before.plan before.log (makes before.plan r)) before.site after.site)
      → OthersStay tells files may_leave moment images_since before after
  others_but_rule before after r stay told =
      inr (stay_less (IsElse before.plan before.log (makes before.plan r)) (IsUnmade before.plan before.log) before.site after.site (λ m other. (other.0, other.2 r)) (stay told))

  -- a collection
  pub others_but_collected : (before after : DeskState S) → (tells → Stay tells files may_leave moment images_since (IsUncollected before) before.site after.site)
      → OthersStay tells files may_leave moment images_since before after
  others_but_collected before after stay told =
      inr (stay_less (IsUncollected before) (IsUnmade before.plan before.log) before.site after.site
      (λ m other. (other.0, λ file chosen. other.1 file.0 (freed before.plan (records_of before.moves) file.0 (chosen-free before file chosen)).made)) (stay told))

  -- a call that does not touch the site
  pub untouched : (before after : DeskState S) → after.site ≡ before.site → OthersStay tells files may_leave moment images_since before after
  untouched before after same told = inl same

-- a present file has a content that was logged
has_content : (f : FileState) → is_some (size_in f) ≡ true → (logged : Content) × (f ≡ file.Present logged)
has_content (file.Present logged) is = (logged, refl)
has_content file.Absent is = absurd (cc)
has_content file.Collected is = absurd (cc)

module _ {S : Type 0} where
  -- nothing changes
  pub site_same : (d after : DeskState S) → after ≡ d → after.site ≡ d.site
  site_same d after is = ap (λ (a : DeskState S). a.site) is

  -- a link joins
  pub joins_site : (d : DeskState S) (total largest : Amounts) (cache : ℕ) (r : Result LinkNo JoinRefused) (after : DeskState S) → Joins d total largest cache r after → after.site ≡ d.site
  joins_site d total largest cache (Ok link) after h = ap (λ (a : DeskState S). a.site) h.2
  joins_site d total largest cache (Err unjoined.TooManyLinks) after h = site_same d after h.1
  joins_site d total largest cache (Err unjoined.TooManyJoins) after h = site_same d after h.1
  joins_site d total largest cache (Err unjoined.Memory) after h = site_same d after h

  changes_site : (d : DeskState S) (link : LinkNo) (total largest : Amounts) (cache : ℕ) (r : Result (Unit {0}) JoinRefused) (after : DeskState S) → Changes d link total largest cache r after
      → after.site ≡ d.site
  changes_site d link total largest cache (Ok done) after h = ap (λ (a : DeskState S). a.site) h.1
  changes_site d link total largest cache (Err unjoined.TooManyLinks) after h = site_same d after h.1
  changes_site d link total largest cache (Err unjoined.TooManyJoins) after h = site_same d after h.1
  changes_site d link total largest cache (Err unjoined.Memory) after h = site_same d after h

  -- a claim, where the link lives
  pub claimed_here : (count : S → ℕ) (d : DeskState S) (choice : Result ℕ Nothing) (link : LinkNo) (moment : ℕ) (r : Result Claim ClaimRefused) (after : DeskState S) → ClaimsHereAs count d choice link moment r after → Goes d after
  claimed_here count d choice link moment r after h = by_test (is_live d.options d.moves link.0) h
    where
      by_test : (b : Bool) → MatchBool b (ClaimsAs count d choice link moment r after) (IsErrOf r unclaimed.Memory × (after ≡ d)) → Goes d after
      by_test true h = claims_goes count d choice link moment r after h
      by_test false h = same_goes d after h.1

  -- a link states other amounts, where it lives
  pub changed_here : (d : DeskState S) (link : LinkNo) (total largest : Amounts) (cache : ℕ) (r : Result (Unit {0}) JoinRefused) (after : DeskState S) → ChangesHere d link total largest cache r after
      → Goes d after × (after.site ≡ d.site)
  changed_here d link total largest cache r after h = by_test (is_live d.options d.moves link.0) h
    where
      by_test : (b : Bool) → MatchBool b (Changes d link total largest cache r after) (IsErrOf r unjoined.Memory × (after ≡ d)) → Goes d after × (after.site ≡ d.site)
      by_test true h = (changes_goes d link total largest cache r after h, changes_site d link total largest cache r after h)
      by_test false h = (same_goes d after h.1, site_same d after h.1)

  -- a link leaves, where it may
  pub left_here : (d : DeskState S) (link : LinkNo) (after : DeskState S) → LeavesHere d link after → Goes d after × (after.site ≡ d.site)
  left_here d link after h = by_test (may_leave d.plan d.options d.moves link.0) h
    where
      by_test : (b : Bool) → MatchBool b (Leaves d link after) (after ≡ d) → Goes d after × (after.site ≡ d.site)
      by_test true h = (leaves_goes d link after h, ap (λ (a : DeskState S). a.site) h)
      by_test false h = (same_goes d after h, site_same d after h)

  -- a file is read, where it is present
  pub read_here : (tells : Type 0) (files : S → Files) (count : S → ℕ) (d : DeskState S) (f : FileNo) (r : Result (List ℕ) InputRefused) (after : DeskState S) → ReadsHere tells files count d f r after
      → Goes d after
  read_here tells files count d f r after h = by_test (is_present d.plan (records_of d.moves) f.0) refl h
    where
      Reads : Type 0
      Reads = (logged : Content) → IsPresent d.plan (records_of d.moves) f.0 logged
          → Looks count d f logged r after × (tells → IsFine d.trouble → Tells logged (files d.site (file_name d.plan f.0)) r)

      by_test : (b : Bool) → is_present d.plan (records_of d.moves) f.0 ≡ b → MatchBool b Reads (IsErrOf r unread.Memory × (after ≡ d)) → Goes d after
      by_test true is h = let there = has_content (file_state d.plan (records_of d.moves) f.0) is in looks_goes count d f there.0 r after (h there.0 there.1).0
      by_test false is h = same_goes d after h.1

  -- what is known of the plan of the desk that came holds of the one that a turn finds
  pub plan_stays : (fact : Plan → Type 0) (d found at : DeskState S) → at ≡ found → found.plan ≡ d.plan → fact d.plan → fact at.plan
  plan_stays fact d found at is same have = subst fact (sym (ap (λ (a : DeskState S). a.plan) is ∙ same)) have

  -- so does that an attempt on a link may be lost
  pub can_lose_stays : (d found : DeskState S) (link : ℕ) → Goes d found → CanLose d link → CanLose found link
  can_lose_stays d found link goes can =
      ⊎_elim (λ set. inl (set.0, goes.0.1 set.0 set.1))
      (λ other. inr (⊎_elim (λ cut. inl (subst IsCut (sym (goes.0.2 cut)) cut)) (λ made. inr (made.0, enough made.1)) other)) can
    where
      more : List Move
      more = goes.1.0

      joins : count_by is_join (d.moves ++ more) ≡ count_by is_join d.moves + count_by is_join more
      joins = sum_by-append (λ (m : Move). cond (is_join m) 1 0) d.moves more

      changes : count_by is_change (d.moves ++ more) ≡ count_by is_change d.moves + count_by is_change more
      changes = sum_by-append (λ (m : Move). cond (is_change m) 1 0) d.moves more

      enough : most_joins ≤ joins_and_changes d.moves → most_joins ≤ joins_and_changes found.moves
      enough le = subst (λ (M : List Move). most_joins ≤ joins_and_changes M) goes.1.1 (omega (arith, le, joins, changes))
