-- A whole run that waited in vain.
use Rattle.std.proofs.Common.{◌≡◌, ◌≤◌, ◌+◌, ◌∙◌, ℕ, Bool, false, List, [], ◌∷◌, ◌++◌, Option, None, Result, Ok, Err, refl, sym, ap, subst, arith}
use Rattle.std.specs.Prelude.{IfOk, OnOk}
use Rattle.std.specs.List.{AllByRecursion}
use Rattle.std.proofs.lemmas.List.{append-nil}
use Rattle.flow_types.specs.declared.plan.Plan.{Plan}
use Rattle.flow_types.specs.declared.numbers.LinkNo.{LinkNo}
use Rattle.flow_types.specs.declared.job.Failure.{Failure}
use Rattle.flow_types.specs.declared.job.Job.{Job}
use Rattle.flow_types.specs.declared.records.Record.{Record}
use Rattle.flow_types.specs.Serial.{Function}
use Rattle.run_history.specs.declared.answers.Check.{Check}
use Rattle.run_history.specs.declared.answers.Check.TheVariants as checks
use Rattle.run_history.specs.declared.answers.Stop.{Stop}
use Rattle.run_history.specs.declared.moves.Move.{Move}
use Rattle.run_history.specs.declared.options.Options.{Options}
use Rattle.run_history.specs.Admissions.{Admitting}
use Rattle.run_history.specs.Answers.{before_end}
use Rattle.run_history.specs.Links.{records_of}
use Rattle.run_history.specs.Moves.{joins_and_changes}
use Rattle.links.specs.declared.passing.Passed.{Passed}
use Rattle.links.specs.Ill.{OffersCame}
use Rattle.local_run.specs.declared.ended.Stopped.{Stopped}
use Rattle.local_run.specs.declared.halt.Halt.{Halt}
use Rattle.local_run.specs.Links.{link_moves}
use Rattle.wq_run.specs.Dues.{AreDue, CameAll, HeardAll, IsCounted, IsDueLoss, IsFull, IsIllLink, KeepsDue}
use Rattle.wq_run.specs.Earned.{AreEarnedIf, OffersAsStated}
use Rattle.wq_run.specs.Ends.{EndsHere, IsVain}
use Rattle.wq_run.specs.Keeping.{KeepsOn}
use Rattle.wq_run.specs.Losses.{accounts_of}
use Rattle.wq_run.specs.Seats.{AreSeats, CompanyState, SeatState}
use Rattle.wq_run.specs.Vain.{AreVain, HandsBack, IfWaited}
use Rattle.wq_run.proofs.Fares.{same_so}
use Rattle.wq_run.proofs.Vain.{Because, all_vain, seats_vain, waits_by}

prefix_is : {B : Type 0} (f xs ys : List B) → f ++ xs ≡ f ++ ys → xs ≡ ys
prefix_is [] xs ys same = same
prefix_is (x ∷ f) xs ys same = prefix_is f xs ys cc

module _ {L : Type 0} (gives : Function) (may_fail : Job → Failure → Type 0) (history : L → List Passed) (count idles : L → ℕ) (closed : L → Bool) (limit : ℕ) where
  abbrev Back : Type 0
  Back = Option LinkNo × L

  abbrev Ill : LinkNo → L → Type 0
  Ill link way = IsIllLink gives may_fail history count idles closed limit link way

  -- the offers that came over links are those of their accounts
  offers_of : (links : List Back) (n : ℕ) → CameAll history links n → OffersCame (accounts_of history count idles closed links) n
  offers_of [] n none = none
  offers_of (x ∷ links) n all = (all.2.messages, all.1, all.2.begins, offers_of links all.1 all.3, all.4 ∙ ap (λ (k : ℕ). k + all.1) all.2.many)

  -- Where the desk takes no more joins and changes, so many offers came over these links.
  full_came : (first all : List Move) (before got : List Back) → joins_and_changes first ≡ 0 → IsCounted history (HeardAll history []) before got first all → (links : List Back) → got ≡ before ++ links → IsFull all
      → (n : ℕ) × (1000000 ≤ n) × OffersCame (accounts_of history count idles closed links) n
  full_came first all before got anew counted links are full =
      let same : counted.behind.0 ≡ links = prefix_is before counted.behind.0 links (sym counted.behind.1 ∙ are) in
      let enough = counted.enough in
      let none = counted.are in
      subst (λ (xs : List Back). (n : ℕ) × (1000000 ≤ n) × OffersCame (accounts_of history count idles closed xs) n) same
      (counted.came, omega (arith, full, enough, none, anew), offers_of counted.behind.0 counted.came counted.back)

  module _ (A : Admitting) (P : Plan) (O : Options) (least rise : ℕ) (first all : List Move) (c c_mid c_now : CompanyState L) (got got_mid got_now : List Back) (anew : joins_and_changes first ≡ 0) (none : c.seats ≡ []) where
    abbrev Vain : Type 0
    Vain = AreVain gives may_fail history count idles closed limit A P O (before_end (records_of all)) got got_now

    abbrev pub Hands : Type 0
    Hands = c_mid.guests ≡ [] → c_now.lost ≡ false → HandsBack history c_mid.seats got_mid got_now

    earned_first : (let halt : Option Halt = None in AreEarnedIf Ill history got first first halt c got)
    earned_first halt fine kept = record { links = []; are = sym (append-nil got); each = tt; joins = omega arith; offered = subst (AllByRecursion (OffersAsStated history first)) (sym none) tt }

    due_first : (let halt : Option Halt = None in AreDue Ill history got first first halt c got)
    due_first halt fine kept = (
      record {
        behind = ([], sym (append-nil got));
        heard = 0;
        are = subst (λ (xs : List (SeatState L)). HeardAll history xs 0) (sym none) refl;
        came = 0;
        back = refl;
        enough = omega arith;
      },
      same_so (IsDueLoss Ill history got got c.seats (IsFull first)) first first refl,
    )

    waited : (check : Check) (stop : Option Stop) (M more : List Move) → Because stop check → IsVain A P O M least rise stop → (let halt : Option Halt = None in KeepsOn Ill history first all halt halt c c_mid got got_mid) → (c_mid.failed ≡ false) × (c_mid.lost ≡ false)
        → IfWaited check (c_mid.guests ≡ []) → all ≡ M ++ more → link_moves more ≡ [] → records_of M ≡ before_end (records_of all) → AreSeats P O all c_mid.seats
        → IsCounted history (HeardAll history []) got got_now first all → Hands → c_now.lost ≡ false → IfWaited check Vain
    waited (checks.Waited wait) stop M more because vain keeps sound alone are unlinked logged placed counted hands kept =
        let earned = keeps.earns.goes got first earned_first refl sound.0 sound.1 in
        let is = subst (IsVain A P O M least rise) because vain in
        let seats = seats_vain gives may_fail history count idles closed limit A P O M all more is.2 are unlinked c_mid.seats placed earned.offered in
        subst (λ (H : List Record). AreVain gives may_fail history count idles closed limit A P O H got got_now) logged
        (all_vain gives may_fail history count idles closed limit A P O M all first c_mid.seats got got_mid got_now anew earned (hands alone kept) seats (full_came first all got got_now anew counted))
    waited (checks.Complete collected) stop M more because vain keeps sound alone are unlinked logged placed counted hands kept = tt
    waited (checks.CommandFailed rule why) stop M more because vain keeps sound alone are unlinked logged placed counted hands kept = tt
    waited (checks.InputsTooLarge rule total) stop M more because vain keeps sound alone are unlinked logged placed counted hands kept = tt
    waited (checks.LogFull records) stop M more because vain keeps sound alone are unlinked logged placed counted hands kept = tt
    waited (checks.NoRoom rule need bytes most) stop M more because vain keeps sound alone are unlinked logged placed counted hands kept = tt
    waited checks.Going stop M more because vain keeps sound alone are unlinked logged placed counted hands kept = tt
    waited checks.Halted stop M more because vain keeps sound alone are unlinked logged placed counted hands kept = tt

    -- What a whole run shows that began with no link.
    pub vain_whole : (r : Result Check Stopped) → OnOk r (let halt : Option Halt = None in KeepsOn Ill history first all halt halt c c_mid got got_mid) → OnOk r ((c_mid.failed ≡ false) × (c_mid.lost ≡ false)) → IfOk r (λ check. IfWaited check (c_mid.guests ≡ []))
        → IfOk r (EndsHere A P O least rise all) → AreSeats P O all c_mid.seats → (let halt : Option Halt = None in KeepsDue Ill history all all halt halt c_mid c_now got_mid got_now) → c_now.failed ≡ c_mid.failed → c_now.lost ≡ false → c_now.seats ≡ [] → Hands
        → IfOk r (λ check. IfWaited check Vain)
    vain_whole (Ok check) keeps sound alone ended placed last failed kept empty hands =
        let now = last.goes got first (keeps.due.goes got first due_first) refl (failed ∙ sound.0) kept in
        let counted = subst (λ (xs : List (SeatState L)). IsCounted history (HeardAll history xs) got got_now first all) empty now.0 in
        let because : Because ended.ends.stop check = subst (Because ended.ends.stop) (sym ended.ends.answer) (waits_by P O (before_end (records_of all)) ended.ends.stop) in
        waited check ended.ends.stop ended.ends.moves ended.more because ended.ends.vain keeps sound alone ended.are ended.none ended.ends.logged placed counted hands kept
    vain_whole (Err why) keeps sound alone ended placed last failed kept empty hands = tt
