-- What is due and what links had earned, step by step.
use Rattle.std.proofs.Common.{◌≡◌, ◌+◌, ◌⊎◌, inl, inr, ⊎_elim, ◌∙◌, ℕ, Bool, false, List, [], ◌∷◌, ◌++◌, Option, Some, None, Result, Ok, Err, length, refl, sym, ap, subst}
use Rattle.std.specs.Prelude.{OnOk}
use Rattle.std.proofs.lemmas.List.{append-nil}
use Rattle.flow_types.specs.declared.numbers.Amounts.{Amounts}
use Rattle.flow_types.specs.declared.numbers.LinkNo.{LinkNo}
use Rattle.flow_types.specs.declared.messages.Message.TheVariants as messages
use Rattle.run_history.specs.declared.moves.Move.{Move}
use Rattle.run_history.specs.declared.moves.Move.TheVariants as moves
use Rattle.run_history.specs.declared.answers.Check.{Check}
use Rattle.run_history.specs.declared.answers.Stop.{Stop}
use Rattle.run_history.specs.Moves.{joins_and_changes, next_link}
use Rattle.links.specs.declared.passing.Passed.{Passed}
use Rattle.links.specs.Passings.{received_in}
use Rattle.message_forms.specs.Streams.{Carries}
use Rattle.desk.specs.State.{DeskState}
use Rattle.peers.specs.declared.leave.Leave.{Leave}
use Rattle.outside.specs.Files.{Files}
use Rattle.local_run.specs.declared.ended.Stopped.{Stopped}
use Rattle.local_run.specs.declared.halt.Halt.{Halt}
use Rattle.local_run.specs.Links.{link_moves}
use Rattle.local_run.specs.Losses.{SparesAll}
use Rattle.local_run.specs.Underway.{halt_after}
use Rattle.wq_run.specs.Dues.{AddsSo, AreDue, AreDueBut, FaresSeat, GivesUp, HasHeard, IsDueLoss, IsFull, left_lost}
use Rattle.wq_run.specs.Earned.{AreEarned, HasEarned, KeepsEarned}
use Rattle.wq_run.specs.Keeping.{KeepsAt, KeepsOn, KeepsOnBut}
use Rattle.wq_run.specs.Seats.{CompanyState, Inside, IsUnseated, Meets, SeatState, inside_of}
use Rattle.wq_run.specs.Works.{EndsAt, HasEnd, with_check}
use Rattle.local_run.proofs.Going.{links_grown}
use Rattle.wq_run.proofs.Companies.{marked_met}
use Rattle.wq_run.proofs.Duly as duly
use Rattle.wq_run.proofs.Duly.{fine_before}
use Rattle.wq_run.proofs.Earned.{earn_guest, earn_part, earn_seat, earn_seated, earn_still, same_heard}
use Rattle.wq_run.proofs.Fares.{halted_never}

module _ {L : Type 0} (ill : LinkNo → L → Type 0) (history : L → List Passed) where
  abbrev Links : Type 0
  Links = List (Option LinkNo × L)

  -- nothing changes but moves that give nothing up
  pub due_spared : {M all : List Move} {halt halt_now : Option Halt} {c : CompanyState L} {got : Links} → (halt_now ≡ None → (halt ≡ None) × SparesAll M all) → link_moves all ≡ link_moves M → KeepsOn ill history M all halt halt_now c c got got
  due_spared spares unlinked = record {
    due = duly.due_spared ill history spares;
    earns = earn_still history ill unlinked refl (λ none fine kept. ((spares none).0, fine, kept, refl));
  }

  -- the run stopped
  pub due_halted : {M all : List Move} {halt halt_now : Option Halt} {c c_now : CompanyState L} {got got_now : Links} (why : Halt) → halt_now ≡ Some why → KeepsOn ill history M all halt halt_now c c_now got got_now
  due_halted {M} {all} {halt} {halt_now} why stopped = record { due = duly.due_halted ill history why stopped; earns = record { goes = λ before first earned none fine kept. absurd (halted_never why halt_now stopped none) } }

  -- it had stopped
  pub due_stopped : {M all : List Move} {halt halt_now : Option Halt} {c c_now : CompanyState L} {got got_now : Links} → (halt_now ≡ None → c_now.failed ≡ false → c_now.lost ≡ false → ⊥) → KeepsOn ill history M all halt halt_now c c_now got got_now
  due_stopped stopped = record {
    due = record { goes = λ before first due none fine kept. absurd (stopped none fine kept) };
    earns = record { goes = λ before first earned none fine kept. absurd (stopped none fine kept) };
  }

  -- the same company
  pub due_as : {M all : List Move} {halt halt_now : Option Halt} {c c_mid c_now : CompanyState L} {got got_now : Links} → c_mid ≡ c_now → KeepsOn ill history M all halt halt_now c c_mid got got_now → KeepsOn ill history M all halt halt_now c c_now got got_now
  due_as {M} {all} {halt} {halt_now} {c} {c_mid} {c_now} {got} {got_now} same keeps = subst (λ (x : CompanyState L). KeepsOn ill history M all halt halt_now c x got got_now) same keeps

  -- before it the company was this one
  pub due_of : {M all : List Move} {halt halt_now : Option Halt} {c other c_now : CompanyState L} {got got_now : Links} → other ≡ c → KeepsOn ill history M all halt halt_now other c_now got got_now → KeepsOn ill history M all halt halt_now c c_now got got_now
  due_of {M} {all} {halt} {halt_now} {c} {other} {c_now} {got} {got_now} same keeps = subst (λ (x : CompanyState L). KeepsOn ill history M all halt halt_now x c_now got got_now) same keeps

  pub earns_then : {M mid all : List Move} {halt halt_mid halt_now : Option Halt} {c c_mid c_now : CompanyState L} {got got_mid got_now : Links} → KeepsEarned ill history M mid halt halt_mid c c_mid got got_mid → KeepsEarned ill history mid all halt_mid halt_now c_mid c_now got_mid got_now
      → KeepsEarned ill history M all halt halt_now c c_now got got_now
  earns_then one two = record { goes = λ before first earned. two.goes before first (one.goes before first earned) }

  pub due_then : {M mid all : List Move} {halt halt_mid halt_now : Option Halt} {c c_mid c_now : CompanyState L} {got got_mid got_now : Links} → KeepsOn ill history M mid halt halt_mid c c_mid got got_mid → KeepsOn ill history mid all halt_mid halt_now c_mid c_now got_mid got_now
      → KeepsOn ill history M all halt halt_now c c_now got got_now
  due_then one two = record { due = duly.due_then ill history one.due two.due; earns = earns_then one.earns two.earns }

  pub due_none : {M : List Move} {halt : Option Halt} {c : CompanyState L} {got : Links} → KeepsOn ill history M M halt halt c c got got
  due_none = record { due = duly.due_none ill history; earns = record { goes = λ before first earned. earned } }

  earns_from : {M all : List Move} {halt halt_now : Option Halt} {c other c_now : CompanyState L} {got got_now : Links} → other.seats ≡ c.seats → other.failed ≡ c.failed → other.lost ≡ c.lost → KeepsEarned ill history M all halt halt_now other c_now got got_now
      → KeepsEarned ill history M all halt halt_now c c_now got got_now
  earns_from {M} {all} {halt} {halt_now} {c} {other} {c_now} {got} {got_now} seats failed lost keeps = record {
    goes = λ before first earned.
        keeps.goes before first (λ none fine kept. subst (λ (xs : List (SeatState L)). AreEarned ill history before first M xs got) (sym seats) (earned none (sym failed ∙ fine) (sym lost ∙ kept)));
  }

  -- before it the seats and the marks of the company were these
  pub due_from : {M all : List Move} {halt halt_now : Option Halt} {c other c_now : CompanyState L} {got got_now : Links} → other.seats ≡ c.seats → other.failed ≡ c.failed → other.lost ≡ c.lost → KeepsOn ill history M all halt halt_now other c_now got got_now
      → KeepsOn ill history M all halt halt_now c c_now got got_now
  due_from {M} {all} {halt} {halt_now} {c} {other} {c_now} {got} {got_now} seats failed lost keeps = record { due = duly.due_from ill history seats failed lost keeps.due; earns = earns_from seats failed lost keeps.earns }

  pub due_from_but : {M all : List Move} {halt halt_now : Option Halt} {c other c_now : CompanyState L} {got got_now : Links} (at : ℕ) → other.seats ≡ c.seats → other.failed ≡ c.failed → other.lost ≡ c.lost → KeepsOnBut ill history at M all halt halt_now other c_now got got_now
      → KeepsOnBut ill history at M all halt halt_now c c_now got got_now
  due_from_but {M} {all} {halt} {halt_now} {c} {other} {c_now} {got} {got_now} at seats failed lost keeps = record { due = duly.due_from_but ill history at seats failed lost keeps.due; earns = earns_from seats failed lost keeps.earns }

  -- The seat is left after a call there.
  pub due_then_left : {M mid all : List Move} {halt halt_mid halt_now : Option Halt} {c c_mid c_now : CompanyState L} {got got_now : Links} (at : ℕ) → ((before : Links) (first : List Move) → AreDue ill history before first M halt c got → AreDueBut ill history at before first mid halt_mid c_mid got)
      → KeepsEarned ill history M mid halt halt_mid c c_mid got got → KeepsOnBut ill history at mid all halt_mid halt_now c_mid c_now got got_now → KeepsOn ill history M all halt halt_now c c_now got got_now
  due_then_left at leaves earns left = record { due = duly.due_then_left ill history at leaves left.due; earns = earns_then earns left.earns }

  -- What may be left at the last place is left: nothing is asked of it where the run has stopped.
  pub due_last : {M all : List Move} {halt halt_now : Option Halt} {c c_mid c_now : CompanyState L} {got got_now : Links} (at : ℕ) → (halt ≡ None → c_mid.failed ≡ false → c_mid.lost ≡ false → ⊥) → KeepsOnBut ill history at M all halt halt_now c_mid c_now got got_now → KeepsOn ill history M all halt halt_now c c_now got got_now
  due_last at stopped keeps = record { due = duly.due_last ill history at stopped keeps.due; earns = record { goes = λ before first earned. keeps.earns.goes before first (λ none fine kept. absurd (stopped none fine kept)) } }

  -- a seat's link is handed back, and perhaps left
  pub due_part : {M mid all : List Move} {halt halt_now : Option Halt} {c c_now : CompanyState L} {got got_now : Links} (f : List (SeatState L)) (s : SeatState L) (b : List (SeatState L)) → c.seats ≡ f ++ (s ∷ b) → c_now.seats ≡ f ++ b
      → GivesUp s.link.0 M mid halt halt_now → SparesAll mid all → (link_moves all ≡ link_moves mid) ⊎ (link_moves all ≡ link_moves mid ++ (moves.Left s.link ∷ [])) → IsUnseated s.link.0 (f ++ b)
      → (c_now.failed ≡ false → c.failed ≡ false) → (c_now.lost ≡ false → (c.lost ≡ false) × (got_now ≡ got ++ ((Some s.link, s.peer.way) ∷ [])))
      → (halt ≡ None → c.failed ≡ false → c.lost ≡ false → ill s.link s.peer.way ⊎ IsFull M) → KeepsOnBut ill history (length f) M all halt halt_now c c_now got got_now
  due_part f s b are now gives spares left apart failing losing cause = record {
    due = duly.due_part ill history f s b are now gives spares failing losing cause;
    earns = earn_part history ill f s b are now gives.going failing losing
        (λ none. ⊎_elim (λ same. inl (same ∙ gives.unlinked none)) (λ one. inr (one ∙ ap (λ (l : List Move). l ++ (moves.Left s.link ∷ [])) (gives.unlinked none))) left) apart cause;
  }

  -- the seats stay, and nothing is handed back
  pub due_met : {M : List Move} {halt : Option Halt} {c c_now : CompanyState L} {got got_now : Links} {count count_now given given_now idles idles_now : ℕ} {inside inside_now : Inside} → c_now.seats ≡ c.seats → (c_now.lost ≡ false → got_now ≡ got)
      → Meets count count_now got got_now given given_now idles idles_now inside inside_now c.failed c_now.failed c.lost c_now.lost → KeepsOn ill history M M halt halt c c_now got got_now
  due_met {M} {halt} {c} {c_now} {got} {got_now} same none_back met = record {
    due = duly.due_met ill history same met;
    earns = earn_still history ill refl same (λ none fine kept. (none, fine_before c.failed c_now.failed met.stays fine, (met.counted kept).0, none_back kept));
  }

  -- A link without a number is handed back, which had earned it.
  pub due_guest : {M all : List Move} {halt : Option Halt} {c c_now : CompanyState L} {got got_now : Links} {count count_now given given_now idles idles_now : ℕ} {inside inside_now : Inside} (way : L) → SparesAll M all → link_moves all ≡ link_moves M → c_now.seats ≡ c.seats → (c_now.lost ≡ false → got_now ≡ got ++ ((None, way) ∷ []))
      → (c_now.lost ≡ false → HasEarned ill all None way) → Meets count count_now got got_now given given_now idles idles_now inside inside_now c.failed c_now.failed c.lost c_now.lost → KeepsOn ill history M all halt halt c c_now got got_now
  due_guest {M} {all} {halt} {c} {c_now} {got} {got_now} way spares unlinked same back earned met = record {
    due = duly.due_wider ill history spares same met;
    earns = earn_guest history ill way unlinked same (λ fine. fine_before c.failed c_now.failed met.stays fine) (λ kept. ((met.counted kept).0, back kept)) earned;
  }

  -- a guest gets its seat
  pub due_seated : {M all : List Move} {halt : Option Halt} {c c_now : CompanyState L} {got got_now : Links} {count count_now given given_now idles idles_now : ℕ} {inside inside_now : Inside} (s : SeatState L) (total largest : Amounts) (cache : ℕ) → ((before : Links) → AddsSo (IsDueLoss ill history before got_now c_now.seats (IsFull all)) M all)
      → joins_and_changes all ≡ joins_and_changes M + 1 → HasHeard history s.peer 1 → all ≡ M ++ (moves.Joined s.link total largest cache ∷ []) → s.link.0 ≡ next_link M → Carries (received_in (history s.peer.way)) (messages.Hello total largest cache)
      → (c_now.lost ≡ false → (got_now ≡ got) × IsUnseated s.link.0 c.seats × (c_now.seats ≡ c.seats ++ (s ∷ [])))
      → Meets count count_now got got_now given given_now idles idles_now inside inside_now c.failed c_now.failed c.lost c_now.lost → KeepsOn ill history M all halt halt c c_now got got_now
  due_seated {M} {all} {halt} {c} {c_now} s total largest cache adds one heard are number came seating met = record {
    due = duly.due_seated ill history s adds one heard (λ kept. (seating kept).2) met;
    earns = earn_seated history ill s total largest cache are number came (λ fine. fine_before c.failed c_now.failed met.stays fine) (λ kept. let seat = seating kept in ((met.counted kept).0, seat.0, seat.1, seat.2));
  }

  -- what a call at one seat makes of it
  pub dues_at : {A : Type 0} {M all : List Move} {halt halt_now : Option Halt} (c c_now : CompanyState L) (at : ℕ) (f : List (SeatState L)) (s s_now : SeatState L) (b : List (SeatState L)) (r : Result A Leave) → length f ≡ at → c.seats ≡ f ++ (s ∷ b) → c_now.seats ≡ f ++ (s_now ∷ b)
      → c_now.failed ≡ c.failed → c_now.lost ≡ c.lost → IsUnseated s.link.0 (f ++ b) → FaresSeat ill history M all halt halt_now s s_now r → KeepsAt ill history at M all halt halt_now c c_now r
  dues_at {A} {M} {all} {halt} {halt_now} c c_now at f s s_now b r place are now failed lost apart fares = record {
    dues = duly.dues_at ill history c c_now at f s s_now b r place are now failed lost fares;
    earns = λ got. earn_seat history ill f s s_now b are now failed lost fares.link fares.comes fares.going fares.states
        (λ none. same_heard history (received_in (history s_now.peer.way)) s.link.0 M all (fares.states none) (f ++ b) apart);
  }

  -- it did nothing
  pub at_none : {A : Type 0} {M : List Move} {halt : Option Halt} {c c_now : CompanyState L} (at : ℕ) (x : A) → c ≡ c_now → KeepsAt ill history at M M halt halt c c_now (Ok x)
  at_none {A} {M} {halt} {c} {c_now} at x same = record { dues = λ got. duly.due_as ill history same (duly.due_none ill history); earns = λ got. subst (λ (x : CompanyState L). KeepsEarned ill history M M halt halt c x got got) same (record { goes = λ before first earned. earned }) }

  -- what went well at a seat
  pub at_ok : {A : Type 0} {M all : List Move} {halt halt_now : Option Halt} {c c_now : CompanyState L} {at : ℕ} {x : A} (got : Links) → KeepsAt ill history at M all halt halt_now c c_now (Ok x) → KeepsOn ill history M all halt halt_now c c_now got got
  at_ok got keeps = record { due = keeps.dues got; earns = keeps.earns got }

  -- What has stopped stays so.
  pub stopped_on : {M all : List Move} {halt halt_now : Option Halt} {c c_now : CompanyState L} {got got_now : Links} → KeepsOn ill history M all halt halt_now c c_now got got_now
      → (halt ≡ None → c.failed ≡ false → c.lost ≡ false → ⊥) → halt_now ≡ None → c_now.failed ≡ false → c_now.lost ≡ false → ⊥
  stopped_on keeps stopped = duly.stopped_on ill history keeps.due stopped

  -- what is still held is given up, which is nothing where the run goes on
  pub due_settled : {S : Type 0} {c : CompanyState L} {got : Links} (d after : DeskState S) (halt : Option Halt) (r : Result (Unit {0}) Halt) → OnOk r ((halt ≡ None) × (after ≡ d)) → KeepsOn ill history d.moves after.moves halt (halt_after r None) c c got got
  due_settled {S} {c} {got} d after halt (Ok done) rests = record {
    due = duly.due_settled ill history d after halt (Ok done) rests;
    earns = earn_still history ill (ap (λ (b : DeskState S). link_moves b.moves) rests.1) refl (λ none fine kept. (rests.0, fine, kept, refl));
  }
  due_settled {S} {c} {got} d after halt (Err why) rests = due_halted why refl

-- A mark is set, which stays.
pub due_marked : {L : Type 0} (ill : LinkNo → L → Type 0) (history : L → List Passed) {M : List Move} {halt : Option Halt} {got : List (Option LinkNo × L)} (c c_now : CompanyState L) (lost_now : Bool) → (lost_now ≡ false → c.lost ≡ false) → c_now ≡ record c { lost = lost_now }
    → KeepsOn ill history M M halt halt c c_now got got
due_marked {L} ill history {M} {halt} {got} c c_now lost_now keeps is =
    let met : Meets 0 0 got got 0 0 0 0 (inside_of c) (inside_of c_now) c.failed c_now.failed c.lost c_now.lost =
    subst (λ (x : CompanyState L). Meets 0 0 got got 0 0 0 0 (inside_of c) (inside_of x) c.failed x.failed c.lost x.lost) (sym is) (marked_met keeps) in
    due_met ill history (ap (λ (x : CompanyState L). x.seats) is) (λ kept. refl) met

-- A link is left for this.
pub due_left : {L : Type 0} (ill : LinkNo → L → Type 0) (history : L → List Passed) {M : List Move} {halt : Option Halt} {got : List (Option LinkNo × L)} (leave : Leave) (c c_now : CompanyState L) → c_now ≡ record c { lost = left_lost leave c.lost } → (left_lost leave c.lost ≡ false → c.lost ≡ false)
    → KeepsOn ill history M M halt halt c c_now got got
due_left ill history leave c c_now is keeps = due_marked ill history c c_now (left_lost leave c.lost) keeps is

-- where the desk, the stop, the hall and the company are these
pub due_at : {S X L : Type 0} (ill : LinkNo → L → Type 0) (history : L → List Passed) (got : X → List (Option LinkNo × L)) (d first now last : DeskState S) (halt halt_now halt_then : Option Halt) (hall hall_now hall_then : X) (company other company_now company_then : CompanyState L)
    → d ≡ first → now ≡ last → halt_now ≡ halt_then → hall_now ≡ hall_then → company ≡ other → company_now ≡ company_then
    → KeepsOn ill history d.moves now.moves halt halt_now company company_now (got hall) (got hall_now) → KeepsOn ill history first.moves last.moves halt halt_then other company_then (got hall) (got hall_then)
due_at {S} {X} {L} ill history got d first now last halt halt_now halt_then hall hall_now hall_then company other company_now company_then begun ends halts halls before after due =
    subst (λ (x : DeskState S). KeepsOn ill history x.moves last.moves halt halt_then other company_then (got hall) (got hall_then)) begun
    (subst (λ (x : DeskState S). KeepsOn ill history d.moves x.moves halt halt_then other company_then (got hall) (got hall_then)) ends
    (subst (λ (h : Option Halt). KeepsOn ill history d.moves now.moves halt h other company_then (got hall) (got hall_then)) halts
    (subst (λ (x : X). KeepsOn ill history d.moves now.moves halt halt_now other company_then (got hall) (got x)) halls
    (subst (λ (c : CompanyState L). KeepsOn ill history d.moves now.moves halt halt_now c company_then (got hall) (got hall_now)) before
    (subst (λ (c : CompanyState L). KeepsOn ill history d.moves now.moves halt halt_now company c (got hall) (got hall_now)) after due)))))

-- an end states nothing of links
pub ends_unlinked : {S : Type 0} (M : List Move) (after : DeskState S) (stop : Option Stop) (check : Check) → EndsAt after M stop check → link_moves after.moves ≡ link_moves M
ends_unlinked M after stop check ends = ap link_moves ends.are ∙ links_grown M ends.more ∙ ap (λ (l : List Move). link_moves M ++ l) ends.none ∙ append-nil (link_moves M)

-- and gives nothing up
pub waiting_rests : {S : Type 0} (tells kept : Type 0) (files : S → Files) (d after : DeskState S) (r : Result Check Stopped) → HasEnd tells kept files d after (with_check r) → OnOk r (SparesAll d.moves after.moves × (link_moves after.moves ≡ link_moves d.moves))
waiting_rests tells kept files d after (Ok check) ends = (duly.ends_spare d.moves after d.stop check ends.2, ends_unlinked d.moves after d.stop check ends.2)
waiting_rests tells kept files d after (Err why) ends = tt
