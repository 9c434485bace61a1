-- Over sure links no attempt fails and none is given up: the company and the run, step by step.
use Rattle.std.proofs.Common.{◌≡◌, ◌≢◌, ◌≤◌, ◌<◌, ◌+◌, ◌⊎◌, inl, inr, length-append, slice_index_or, ◌∙◌, ℕ, Bool, true, false, cond, List, [], ◌∷◌, ◌++◌, Option, Some, None, Result, Ok, Err, length, refl, sym, ap, subst, arith, true≢false}
use Rattle.std.specs.Prelude.{OnOk, count_by, remove}
use Rattle.std.specs.List.{AllByRecursion}
use Rattle.std.proofs.lemmas.List.{append-nil}
use Rattle.std.proofs.lemmas.List.Sums.{sum_by-append}
use Rattle.flow_types.specs.declared.numbers.LinkNo.{LinkNo}
use Rattle.flow_types.specs.declared.job.Failure.{Failure}
use Rattle.flow_types.specs.declared.job.Job.{Job}
use Rattle.flow_types.specs.declared.job.Start.{Start}
use Rattle.flow_types.specs.Serial.{Contents, Function}
use Rattle.run_history.specs.declared.moves.Move.{Move}
use Rattle.run_history.specs.Links.{records_of}
use Rattle.run_history.specs.Moves.{is_change, is_join, joins_and_changes}
use Rattle.outside.specs.Disk.{Outcomes}
use Rattle.outside.specs.Files.{Files}
use Rattle.worker_pool.specs.declared.hand.Tally.{Tally}
use Rattle.links.specs.declared.passing.Passed.{Passed}
use Rattle.links.specs.Ill.{OffersCame}
use Rattle.links.specs.Passings.{received_in}
use Rattle.desk.specs.State.{DeskState}
use Rattle.peers.specs.declared.leave.Leave.{Leave}
use Rattle.peers.specs.declared.leave.Leave.TheVariants as leaves
use Rattle.peers.specs.States.{PeerState}
use Rattle.local_run.specs.declared.halt.Halt.{Halt}
use Rattle.local_run.specs.Losses.{SparesAll}
use Rattle.local_run.specs.Underway.{HeldState, Underway, halt_after}
use Rattle.local_run.proofs.Going.{records_grown}
use Rattle.wq_run.specs.Calm.{AddsWell, ComeFew, FaresWell, GoesWell, IsSureCompany, IsSureGuest, IsSureLinks, IsSureSeat, IsUnstopped, IsWantOr, KeepsCalm, KeepsCalmAt}
use Rattle.wq_run.specs.Dues.{AreDue, CameAll, FaresSeat, HeardAll, IsCounted, IsDueLoss, IsFull, IsIllLink, KeepsDue, left_lost}
use Rattle.wq_run.specs.Losses.{accounts_of}
use Rattle.wq_run.specs.Seats.{CompanyState, Inside, Manned, Meets, SeatState, links_in}
use Rattle.run_history.specs.declared.answers.Check.{Check}
use Rattle.local_run.specs.declared.ended.Stopped.{Stopped}
use Rattle.wq_run.specs.Works.{HasEnd, with_check}
use Rattle.wq_run.proofs.Calm.{failures_sure, on_ok, well_by, well_same, well_then}
use Rattle.wq_run.proofs.Duly.{fine_before, stopped_on}
use Rattle.wq_run.proofs.Duties.{ends_unlinked}
use Rattle.wq_run.proofs.Earned.{joins_stated, joins_still, unlinked_by}
use Rattle.wq_run.proofs.Fares.{halted_never, same_so}

-- ---- a full desk stays full

pub full_on : (M more all : List Move) → all ≡ M ++ more → IsFull M → IsFull all
full_on M more all are full =
    let joins = ap (count_by is_join) are ∙ sum_by-append (λ (m : Move). cond (is_join m) 1 0) M more in
    let changes = ap (count_by is_change) are ∙ sum_by-append (λ (m : Move). cond (is_change m) 1 0) M more in
    omega (arith, full, joins, changes)

none_by : (h : Option Halt) → ((why : Halt) → h ≡ Some why → ⊥) → h ≡ None
none_by None never = refl
none_by (Some why) never = absurd (never why refl)

false_by : (b : Bool) → (b ≡ true → ⊥) → b ≡ false
false_by true never = absurd (never refl)
false_by false never = refl

-- What goes on being due goes on from a run that nothing had stopped.
pub due_unstopped : {L : Type 0} (ill : LinkNo → L → Type 0) (history : L → List Passed) {M all : List Move} {halt halt_now : Option Halt} {c c_now : CompanyState L} {got got_now : List (Option LinkNo × L)} → KeepsDue ill history M all halt halt_now c c_now got got_now
    → IsUnstopped all halt_now c_now → (halt ≡ None) × (c.failed ≡ false) × (c.lost ≡ false)
due_unstopped {L} ill history {M} {all} {halt} {halt_now} {c} {c_now} {got} {got_now} keeps now = (
  none_by halt (λ why is. stopped_on ill history keeps (λ h f l. halted_never why halt is h) now.none now.fine now.kept),
  false_by c.failed (λ is. stopped_on ill history keeps (λ h f l. true≢false (sym is ∙ f)) now.none now.fine now.kept),
  false_by c.lost (λ is. stopped_on ill history keeps (λ h f l. true≢false (sym is ∙ l)) now.none now.fine now.kept),
)

-- ---- steps

module _ {L : Type 0} where
  pub calm_then : {one two three : Type 0} {M mid all : List Move} {halt halt_mid halt_now : Option Halt} {c c_mid c_now : CompanyState L} → KeepsCalm one two M mid halt halt_mid c c_mid → KeepsCalm two three mid all halt_mid halt_now c_mid c_now
      → KeepsCalm one three M all halt halt_now c c_now
  calm_then {one} {two} {three} {M} {mid} {all} first second = record {
    stands = λ now. first.stands (second.stands now);
    keeps = λ now calm. (let a = first.keeps (second.stands now) calm in let b = second.keeps now a.1 in (well_then M mid all a.0 b.0, b.1));
  }

  pub calm_none : {one : Type 0} {M : List Move} {halt : Option Halt} {c : CompanyState L} → KeepsCalm one one M M halt halt c c
  calm_none {one} {M} = record { stands = λ now. now; keeps = λ now calm. (well_same M M refl, calm) }

  -- it has stopped
  pub calm_never : {one two : Type 0} {M all : List Move} {halt halt_now : Option Halt} {c c_now : CompanyState L} → (IsUnstopped all halt_now c_now → ⊥) → KeepsCalm one two M all halt halt_now c c_now
  calm_never never = record { stands = λ now. absurd (never now); keeps = λ now calm. absurd (never now) }

  pub calm_stopped : {one two : Type 0} (ill : LinkNo → L → Type 0) (history : L → List Passed) {M all : List Move} {halt halt_now : Option Halt} {c c_now : CompanyState L} {got got_now : List (Option LinkNo × L)} → KeepsDue ill history M all halt halt_now c c_now got got_now
      → (halt ≡ None → c.failed ≡ false → c.lost ≡ false → ⊥) → KeepsCalm one two M all halt halt_now c c_now
  calm_stopped ill history due stops = calm_never (λ now. let was = due_unstopped ill history due now in stops was.0 was.1 was.2)

  pub calm_halted : {one two : Type 0} {M all : List Move} {halt halt_now : Option Halt} {c c_now : CompanyState L} (why : Halt) → halt_now ≡ Some why → KeepsCalm one two M all halt halt_now c c_now
  calm_halted {one} {two} {M} {all} {halt} {halt_now} why is = calm_never (λ now. halted_never why halt_now is now.none)

  -- the moves are the same
  pub calm_met : {one two : Type 0} {M : List Move} {halt : Option Halt} {c c_now : CompanyState L} {count count_now : ℕ} {got got_now : List (Option LinkNo × L)} {given given_now idles idles_now : ℕ} {inside inside_now : Inside}
      → Meets count count_now got got_now given given_now idles idles_now inside inside_now c.failed c_now.failed c.lost c_now.lost → (IsUnstopped M halt c_now → one → two) → KeepsCalm one two M M halt halt c c_now
  calm_met {one} {two} {M} {halt} {c} {c_now} met on = record {
    stands = λ now. record { none = now.none; fine = fine_before c.failed c_now.failed met.stays now.fine; kept = (met.counted now.kept).0; room = now.room };
    keeps = λ now calm. (well_same M M refl, on now calm);
  }

  -- the moves went well, and it went on from there
  pub calm_moved : {one two : Type 0} {M all : List Move} {halt : Option Halt} {c c_now : CompanyState L} {count count_now : ℕ} {got got_now : List (Option LinkNo × L)} {given given_now idles idles_now : ℕ} {inside inside_now : Inside}
      → AddsWell M all → Meets count count_now got got_now given given_now idles idles_now inside inside_now c.failed c_now.failed c.lost c_now.lost → (IsUnstopped all halt c_now → one → two) → KeepsCalm one two M all halt halt c c_now
  calm_moved {one} {two} {M} {all} {halt} {c} {c_now} well met on = record {
    stands = λ now. record { none = now.none; fine = fine_before c.failed c_now.failed met.stays now.fine; kept = (met.counted now.kept).0; room = λ full. now.room (full_on M well.more all well.are full) };
    keeps = λ now calm. (well, on now calm);
  }

  -- the same from a company with these marks
  pub calm_began : {one two : Type 0} {M all : List Move} {halt : Option Halt} (c mid c_now : CompanyState L) {count count_now : ℕ} {got got_now : List (Option LinkNo × L)} {given given_now idles idles_now : ℕ} {inside inside_now : Inside}
      → mid.failed ≡ c.failed → mid.lost ≡ c.lost → AddsWell M all → Meets count count_now got got_now given given_now idles idles_now inside inside_now mid.failed c_now.failed mid.lost c_now.lost → (IsUnstopped all halt c_now → one → two) → KeepsCalm one two M all halt halt c c_now
  calm_began {one} {two} {M} {all} {halt} c mid c_now failed lost well met on =
      let moved : KeepsCalm one two M all halt halt mid c_now = calm_moved well met on in
      record {
        stands = λ now. (let was = moved.stands now in record { none = was.none; fine = sym failed ∙ was.fine; kept = sym lost ∙ was.kept; room = was.room });
        keeps = moved.keeps;
      }

  pub calm_well : {one two : Type 0} {M all : List Move} {halt : Option Halt} {c : CompanyState L} → AddsWell M all → (one → two) → KeepsCalm one two M all halt halt c c
  calm_well {one} {two} {M} {all} well on = record {
    stands = λ now. record { none = now.none; fine = now.fine; kept = now.kept; room = λ full. now.room (full_on M well.more all well.are full) };
    keeps = λ now calm. (well, on calm);
  }

  -- what is still held is given up, which is nothing where the run goes on
  pub calm_settled : {S one two : Type 0} {c : CompanyState L} (d after : DeskState S) (halt : Option Halt) (r : Result (Unit {0}) Halt) → OnOk r ((halt ≡ None) × (after ≡ d)) → (count_by is_join after.moves ≡ count_by is_join d.moves → one → two) → KeepsCalm one two d.moves after.moves halt (halt_after r None) c c
  calm_settled {S} d after halt (Ok done) rests on =
      let same = ap (λ (b : DeskState S). b.moves) rests.1 in
      record {
        stands = λ now. record { none = rests.0; fine = now.fine; kept = now.kept; room = λ full. now.room (subst IsFull (sym same) full) };
        keeps = λ now calm. (well_same d.moves after.moves same, on (ap (count_by is_join) same) calm);
      }
  calm_settled d after halt (Err why) rests on = calm_halted why refl

  -- the companies are these
  pub calm_from : {two : Type 0} {M all : List Move} {halt halt_now : Option Halt} {c other c_now : CompanyState L} (Q : CompanyState L → Type 0) → other ≡ c → KeepsCalm (Q other) two M all halt halt_now other c_now → KeepsCalm (Q c) two M all halt halt_now c c_now
  calm_from {two} {M} {all} {halt} {halt_now} {c} {other} {c_now} Q same keeps = subst (λ (x : CompanyState L). KeepsCalm (Q x) two M all halt halt_now x c_now) same keeps

  pub calm_to : {one : Type 0} {M all : List Move} {halt halt_now : Option Halt} {c c_now other : CompanyState L} (Q : CompanyState L → Type 0) → c_now ≡ other → KeepsCalm one (Q c_now) M all halt halt_now c c_now → KeepsCalm one (Q other) M all halt halt_now c other
  calm_to {one} {M} {all} {halt} {halt_now} {c} {c_now} {other} Q same keeps = subst (λ (x : CompanyState L). KeepsCalm one (Q x) M all halt halt_now c x) same keeps

  -- what runs here goes on, over sure runners
  pub calm_here : {S one two : Type 0} {trust : Type 0} {gives : Function} {may_fail : Job → Failure → Type 0} {sources : Contents} {tells kept sure : Type 0} {files : S → Files} {may_leave : S → Outcomes} {moment : S → ℕ} {images_since : S → ℕ → Files → Type 0}
      {first d after : DeskState S} {held : HeldState} {waiting waiting_now : List Start} {heard heard_now : Tally} (held_now : HeldState) (c : CompanyState L) → sure
      → (m : Manned trust gives may_fail sources tells kept sure files may_leave moment images_since first d held waiting heard c.seats)
      → Underway trust gives may_fail sources tells kept sure files may_leave moment images_since m.away first after held_now.attempts waiting_now None heard_now held_now.halt
      → (held_now.halt ≡ None → (held.halt ≡ None) × SparesAll d.moves after.moves) → (count_by is_join after.moves ≡ count_by is_join d.moves → one → two) → KeepsCalm one two d.moves after.moves held.halt held_now.halt c c
  calm_here {S} {one} {two} {trust} {gives} {may_fail} {sources} {tells} {kept} {sure} {files} {may_leave} {moment} {images_since} {first} {d} {after} held_now c is m v spares on = record {
    stands = λ now. (let s = spares now.none in record { none = s.0; fine = now.fine; kept = now.kept; room = λ full. now.room (full_on d.moves s.1.more after.moves s.1.are full) });
    keeps = λ now calm.
        let s = spares now.none in (
          well_by d.moves after.moves s.1 (failures_sure is m.under v s.0 now.none),
          on (joins_still d.moves after.moves (unlinked_by trust gives may_fail sources tells files may_leave moment images_since m.away.links first d after m.under.goes v.goes)) calm,
        );
  }

-- ---- one seat among others

all_at : {X : Type 0} (Q : X → Type 0) (f : List X) (x : X) (b : List X) → AllByRecursion Q (f ++ (x ∷ b)) → Q x
all_at Q [] x b all = all.0
all_at Q (y ∷ f) x b all = all_at Q f x b all.1

all_set : {X : Type 0} (Q : X → Type 0) (f : List X) (x y : X) (b : List X) → AllByRecursion Q (f ++ (x ∷ b)) → Q y → AllByRecursion Q (f ++ (y ∷ b))
all_set Q [] x y b all is = (is, all.1)
all_set Q (z ∷ f) x y b all is = (all.0, all_set Q f x y b all.1 is)

pub all_last : {X : Type 0} (Q : X → Type 0) (xs : List X) (x : X) → AllByRecursion Q xs → Q x → AllByRecursion Q (xs ++ (x ∷ []))
all_last Q [] x all is = (is, tt)
all_last Q (y ∷ xs) x all is = (all.0, all_last Q xs x all.1 is)

pub all_first : {X : Type 0} (Q : X → Type 0) (xs : List X) (x : X) → length xs ≢ 0 → x ≡ slice_index_or xs 0 x → AllByRecursion Q xs → AllByRecursion Q (remove xs 0) × Q x
all_first Q [] x some is all = absurd (some refl)
all_first Q (y ∷ xs) x some is all = (all.1, subst Q (sym is) all.0)

module _ {L : Type 0} (gives : Function) (may_fail : Job → Failure → Type 0) (history : L → List Passed) (idles : L → ℕ) (sure : L → Type 0) where
  abbrev Seats : List (SeatState L) → Type 0
  Seats seats = AllByRecursion (IsSureSeat gives may_fail history sure) seats

  abbrev Guest : PeerState L → Type 0
  Guest p = IsSureGuest gives may_fail history idles sure p

  abbrev Links : Type 0 → List Move → CompanyState L → Type 0
  Links coming M c = IsSureLinks gives may_fail history idles sure coming M c

  abbrev Company : Type 0 → Type 0 → List Move → CompanyState L → Type 0
  Company coming unmet M c = IsSureCompany gives may_fail history idles sure coming unmet M c

  -- as many joined by these moves
  pub company_moved : {coming unmet : Type 0} {M all : List Move} {c : CompanyState L} → count_by is_join all ≡ count_by is_join M → Company coming unmet M c → Company coming unmet all c
  company_moved {coming} {unmet} {M} {all} {c} same is = record {
    links = record { hall = is.links.hall; seats = is.links.seats; guests = is.links.guests; joins = (let few = is.links.joins in omega (arith, same, few)) };
    met = is.met;
  }

  pub calm_at_seat : {A : Type 0} {ill : LinkNo → L → Type 0} {M all : List Move} {halt halt_now : Option Halt} (seats seats_now f : List (SeatState L)) (s s_now : SeatState L) (b : List (SeatState L)) (r : Result A Leave) → seats ≡ f ++ (s ∷ b) → seats_now ≡ f ++ (s_now ∷ b)
      → FaresSeat ill history M all halt halt_now s s_now r → (IsSureSeat gives may_fail history sure s → FaresWell M all halt_now r (IsSureSeat gives may_fail history sure s_now)) → KeepsCalmAt (Seats seats) (Seats seats_now) M all halt halt_now r
  calm_at_seat {A} {ill} {M} {all} seats seats_now f s s_now b r are now fares well = record {
    going = fares.going;
    joins = λ none. joins_stated (received_in (history s_now.peer.way)) s.link.0 M all (fares.states none);
    grows = λ none. (let adds = fares.loses none in (adds.more, adds.are));
    keeps = λ none calm.
        let all = subst Seats are calm in
        let it = well (all_at (IsSureSeat gives may_fail history sure) f s b all) none in (
          it.0,
          record {
            stays = on_ok r (IsSureSeat gives may_fail history sure s_now) (Seats seats_now) (λ is. subst Seats (sym now) (all_set (IsSureSeat gives may_fail history sure) f s s_now b all is)) it.1.stays;
            leaves = it.1.leaves;
          },
        );
  }

  -- no seat is there, and nothing is done
  pub calm_no_seat : {A : Type 0} {x : A} {M : List Move} {halt : Option Halt} (seats seats_now : List (SeatState L)) → seats_now ≡ seats → (let r : Result A Leave = Ok x in KeepsCalmAt (Seats seats) (Seats seats_now) M M halt halt r)
  calm_no_seat {A} {x} {M} {halt} seats seats_now same = record {
    going = λ none. none;
    joins = λ none. refl;
    grows = λ none. ([], sym (append-nil M));
    keeps = λ none calm. (well_same M M refl, record { stays = subst Seats (sym same) calm; leaves = tt });
  }

  met_as : {unmet unmet_now : Type 0} (n n_now : ℕ) → n_now ≡ n → (unmet → unmet_now) → unmet ⊎ (0 < n) → unmet_now ⊎ (0 < n_now)
  met_as n n_now same on (inl is) = inl (on is)
  met_as n n_now same on (inr some) = inr (omega (arith, same, some))

  -- the seat stays
  pub calm_stays : {A coming unmet : Type 0} {x : A} {M all : List Move} {halt halt_now : Option Halt} (c c_now : CompanyState L) → (let r : Result A Leave = Ok x in KeepsCalmAt (Seats c.seats) (Seats c_now.seats) M all halt halt_now r) → length c_now.seats ≡ length c.seats → c_now.guests ≡ c.guests
      → c_now.failed ≡ c.failed → c_now.lost ≡ c.lost → KeepsCalm (Company coming unmet M c) (Company coming unmet all c_now) M all halt halt_now c c_now
  calm_stays {A} {coming} {unmet} {x} {M} {all} c c_now at many guests failed lost = record {
    stands = λ now. (let more = at.grows now.none in record { none = at.going now.none; fine = sym failed ∙ now.fine; kept = sym lost ∙ now.kept; room = λ full. now.room (full_on M more.0 all more.1 full) });
    keeps = λ now calm.
        let it = at.keeps now.none calm.links.seats in
        let same = at.joins now.none in
        let few = calm.links.joins in
        let others = ap length guests in (
          it.0,
          record {
            links = record { hall = calm.links.hall; seats = it.1.stays; guests = subst (AllByRecursion Guest) (sym guests) calm.links.guests; joins = omega (arith, same, few, many) };
            met = met_as (links_in c) (links_in c_now) (omega (arith, many, others)) (λ is. is) calm.met;
          },
        );
  }

  pub never_left : (full : Type 0) (leave : Leave) (lost : Bool) → IsWantOr full leave → left_lost leave lost ≡ false → (full → ⊥) → ⊥
  never_left full leaves.Closed lost is kept room = room is
  never_left full leaves.Failed lost is kept room = room is
  never_left full leaves.Bad lost is kept room = room is
  never_left full leaves.Unexpected lost is kept room = room is
  never_left full leaves.Memory lost is kept room = true≢false kept

  left_kept : (leave : Leave) (lost : Bool) → left_lost leave lost ≡ false → lost ≡ false
  left_kept leaves.Closed lost kept = kept
  left_kept leaves.Failed lost kept = kept
  left_kept leaves.Bad lost kept = kept
  left_kept leaves.Unexpected lost kept = kept
  left_kept leaves.Memory lost kept = absurd (true≢false kept)

  -- The seat is to be left, which it is only where that stops the run.
  pub calm_leaves : {A coming coming_now unmet unmet_now : Type 0} {M mid all : List Move} {halt halt_mid halt_now : Option Halt} (c c_mid c_left c_now : CompanyState L) {count count_now : ℕ} {got got_now : List (Option LinkNo × L)} {given given_now idles idles_now : ℕ} {inside inside_now : Inside} (leave : Leave)
      → (let r : Result A Leave = Err leave in KeepsCalmAt (Seats c.seats) (Seats c_mid.seats) M mid halt halt_mid r) → c_mid.failed ≡ c.failed → c_mid.lost ≡ c.lost → c_left ≡ record c_mid { lost = left_lost leave c_mid.lost }
      → Meets count count_now got got_now given given_now idles idles_now inside inside_now c_left.failed c_now.failed c_left.lost c_now.lost → (halt_now ≡ None → (halt_mid ≡ None) × ((more : List Move) × (all ≡ mid ++ more)))
      → KeepsCalm (Company coming unmet M c) (Company coming_now unmet_now all c_now) M all halt halt_now c c_now
  calm_leaves {A} {coming} {coming_now} {unmet} {unmet_now} {M} {mid} {all} {halt} {halt_mid} {halt_now} c c_mid c_left c_now leave at failed lost left met grows = record {
    stands = λ now.
        let up = grows now.none in
        let first = at.grows up.0 in
        record {
          none = at.going up.0;
          fine = sym failed ∙ sym (ap (λ (x : CompanyState L). x.failed) left) ∙ fine_before c_left.failed c_now.failed met.stays now.fine;
          kept = sym lost ∙ left_kept leave c_mid.lost (sym (ap (λ (x : CompanyState L). x.lost) left) ∙ (met.counted now.kept).0);
          room = λ full. now.room (full_on mid up.1.0 all up.1.1 (full_on M first.0 mid first.1 full));
        };
    keeps = λ now calm.
        let up = grows now.none in
        let it = at.keeps up.0 calm.links.seats in
        absurd (never_left (IsFull mid) leave c_mid.lost it.1.leaves (sym (ap (λ (x : CompanyState L). x.lost) left) ∙ (met.counted now.kept).0) (λ full. now.room (full_on mid up.1.0 all up.1.1 full)));
  }

  -- ---- guests

  pub company_as : {coming coming_now unmet unmet_now : Type 0} {M : List Move} (c c_now : CompanyState L) → (coming → coming_now) → (unmet → unmet_now) → c_now.seats ≡ c.seats → c_now.guests ≡ c.guests → Company coming unmet M c → Company coming_now unmet_now M c_now
  company_as c c_now on still seats guests is =
      let many = ap length seats in
      let others = ap length guests in
      let few = is.links.joins in
      record {
        links = record { hall = on is.links.hall; seats = subst Seats (sym seats) is.links.seats; guests = subst (AllByRecursion Guest) (sym guests) is.links.guests; joins = omega (arith, few, many) };
        met = met_as (links_in c) (links_in c_now) (omega (arith, many, others)) still is.met;
      }

  -- a link is handed back, and there are others
  pub links_seated : {coming coming_now unmet : Type 0} {M all : List Move} (c c_now : CompanyState L) → (coming → coming_now) → c_now.seats ≡ c.seats → c_now.guests ≡ c.guests → all ≡ M → 0 < count_by is_join M → Links coming M c → Company coming_now unmet all c_now
  links_seated {coming} {coming_now} {unmet} {M} {all} c c_now on seats guests same some is =
      let many = ap length seats in
      let few = is.joins in
      let joins = ap (count_by is_join) same in
      record {
        links = record { hall = on is.hall; seats = subst Seats (sym seats) is.seats; guests = subst (AllByRecursion Guest) (sym guests) is.guests; joins = omega (arith, few, many, joins) };
        met = inr (omega (arith, some, few, many));
      }

  -- a guest more
  pub company_more : {coming coming_now unmet : Type 0} {M : List Move} (c c_now : CompanyState L) (p : PeerState L) → (coming → coming_now) → c_now.seats ≡ c.seats → c_now.guests ≡ c.guests ++ (p ∷ []) → Guest p → Links coming M c → Company coming_now unmet M c_now
  company_more c c_now p on seats guests guest is =
      let many = ap length seats in
      let more = ap length guests ∙ length-append c.guests (p ∷ []) in
      let few = is.joins in
      record {
        links = record { hall = on is.hall; seats = subst Seats (sym seats) is.seats; guests = subst (AllByRecursion Guest) (sym guests) (all_last Guest c.guests p is.guests guest); joins = omega (arith, few, many) };
        met = inr (omega (arith, more));
      }

  -- a seat more
  pub company_seated : {coming coming_now unmet : Type 0} {M all : List Move} (c c_now : CompanyState L) (s : SeatState L) → (coming → coming_now) → count_by is_join all ≤ count_by is_join M + 1 → c_now.seats ≡ c.seats ++ (s ∷ []) → c_now.guests ≡ c.guests → IsSureSeat gives may_fail history sure s → Links coming M c → Company coming_now unmet all c_now
  company_seated c c_now s on joins seats guests seat is =
      let more = ap length seats ∙ length-append c.seats (s ∷ []) in
      let few = is.joins in
      record {
        links = record { hall = on is.hall; seats = subst Seats (sym seats) (all_last (IsSureSeat gives may_fail history sure) c.seats s is.seats seat); guests = subst (AllByRecursion Guest) (sym guests) is.guests; joins = omega (arith, few, more, joins) };
        met = inr (omega (arith, more));
      }

  -- the first guest is taken out
  pub record FirstOut (coming : Type 0) (M : List Move) (c c_now : CompanyState L) (p : PeerState L) : Type 0 where
    pub links : Links coming M c_now
    pub guest : Guest p

  pub company_first : {coming unmet : Type 0} {M : List Move} (c c_now : CompanyState L) (p : PeerState L) → length c.guests ≢ 0 → p ≡ slice_index_or c.guests 0 p → c_now.seats ≡ c.seats → c_now.guests ≡ remove c.guests 0 → Company coming unmet M c → FirstOut coming M c c_now p
  company_first c c_now p some there seats guests is =
      let parts = all_first Guest c.guests p some there is.links.guests in
      let many = ap length seats in
      let few = is.links.joins in
      record {
        links = record { hall = is.links.hall; seats = subst Seats (sym seats) is.links.seats; guests = subst (AllByRecursion Guest) (sym guests) parts.0; joins = omega (arith, few, many) };
        guest = parts.1;
      }

-- where the desk, the stop, the hall and the company are these
pub calm_at : {S X L : Type 0} (Q : X → List Move → CompanyState L → Type 0) (d first now last : DeskState S) (halt halt_now halt_then : Option Halt) (hall hall_now hall_then : X) (company other company_now company_then : CompanyState L)
    → d ≡ first → now ≡ last → halt_now ≡ halt_then → hall_now ≡ hall_then → company ≡ other → company_now ≡ company_then
    → KeepsCalm (Q hall d.moves company) (Q hall_now now.moves company_now) d.moves now.moves halt halt_now company company_now → KeepsCalm (Q hall first.moves other) (Q hall_then last.moves company_then) first.moves last.moves halt halt_then other company_then
calm_at {S} {X} {L} Q d first now last halt halt_now halt_then hall hall_now hall_then company other company_now company_then begun ends halts halls before after calm =
    subst (λ (x : DeskState S). KeepsCalm (Q hall x.moves other) (Q hall_then last.moves company_then) x.moves last.moves halt halt_then other company_then) begun
    (subst (λ (x : DeskState S). KeepsCalm (Q hall d.moves other) (Q hall_then x.moves company_then) d.moves x.moves halt halt_then other company_then) ends
    (subst (λ (h : Option Halt). KeepsCalm (Q hall d.moves other) (Q hall_then now.moves company_then) d.moves now.moves halt h other company_then) halts
    (subst (λ (x : X). KeepsCalm (Q hall d.moves other) (Q x now.moves company_then) d.moves now.moves halt halt_now other company_then) halls
    (subst (λ (c : CompanyState L). KeepsCalm (Q hall d.moves c) (Q hall_now now.moves company_then) d.moves now.moves halt halt_now c company_then) before
    (subst (λ (c : CompanyState L). KeepsCalm (Q hall d.moves company) (Q hall_now now.moves c) d.moves now.moves halt halt_now company c) after calm)))))

-- ---- a whole run

pub goes_well : (M all : List Move) → AddsWell M all → GoesWell (records_of M) (records_of all)
goes_well M all well = record { more = records_of well.more; are = ap records_of well.are ∙ records_grown M well.more; none = well.none }

pub calm_whole : {L E A one : Type 0} (two : Type 0) (M all : List Move) (c c_now : CompanyState L) (r : Result A E) → (let none : Option Halt = None in OnOk r (KeepsCalm one two M all none none c c_now)) → OnOk r ((c_now.failed ≡ false) × (c_now.lost ≡ false)) → one → OnOk r (IsFull all → ⊥)
    → OnOk r (GoesWell (records_of M) (records_of all))
calm_whole two M all c c_now (Ok x) calm sound is room = goes_well M all (calm.keeps (record { none = refl; fine = sound.0; kept = sound.1; room = room }) is).0
calm_whole two M all c c_now (Err why) calm sound is room = tt

-- what is so of the company at the end
pub calm_ended : {L E A one : Type 0} (two : Type 0) (M all : List Move) (c c_now : CompanyState L) (r : Result A E) → (let none : Option Halt = None in OnOk r (KeepsCalm one two M all none none c c_now)) → OnOk r ((c_now.failed ≡ false) × (c_now.lost ≡ false)) → one → OnOk r (IsFull all → ⊥) → OnOk r two
calm_ended two M all c c_now (Ok x) calm sound is room = (calm.keeps (record { none = refl; fine = sound.0; kept = sound.1; room = room }) is).1
calm_ended two M all c c_now (Err why) calm sound is room = tt

module _ {L : Type 0} (gives : Function) (may_fail : Job → Failure → Type 0) (history : L → List Passed) (count idles : L → ℕ) (closed : L → Bool) (limit : ℕ) where
  abbrev Back : Type 0
  Back = List (Option LinkNo × L)

  abbrev Ill : LinkNo → L → Type 0
  Ill = IsIllLink gives may_fail history count idles closed limit

  -- the offers that came over links are those of their accounts
  offers_of : (links : Back) (n : ℕ) → CameAll history links n → OffersCame (accounts_of history count idles closed links) n
  offers_of [] n none = none
  offers_of (x ∷ links) n all = (all.2.messages, all.1, all.2.begins, offers_of links all.1 all.3, all.4 ∙ ap (λ (k : ℕ). k + all.1) all.2.many)

  none_full : (first all heard came : ℕ) → first ≡ 0 → heard ≡ 0 → all ≤ first + (heard + came) → 1000000 ≤ all → came < 1000000 → ⊥
  none_full first all heard came none few enough full room = omega (arith, none, few, enough, full, room)

  -- A desk that took no join and no change before isn't full where few offers came over the links of the call.
  pub few_whole : {A E : Type 0} (M all : List Move) (c c_mid c_now : CompanyState L) (got got_mid got_now : Back) (r : Result A E) → joins_and_changes M ≡ 0 → c.seats ≡ [] → (let none : Option Halt = None in OnOk r (KeepsDue Ill history M all none none c c_mid got got_mid))
      → OnOk r ((c_mid.failed ≡ false) × (c_mid.lost ≡ false)) → (let none : Option Halt = None in KeepsDue Ill history all all none none c_mid c_now got_mid got_now) → c_now.failed ≡ c_mid.failed → c_now.lost ≡ false → c_now.seats ≡ []
      → ComeFew history count idles closed got got_now → OnOk r (IsFull all → ⊥)
  few_whole M all c c_mid c_now got got_mid got_now (Ok x) first none due sound last failed kept seats few =
      let was : AreDue Ill history got M M None c got = λ halt fine lost. (
        record {
          behind = ([], sym (append-nil got));
          heard = 0;
          are = subst (λ (xs : List (SeatState L)). HeardAll history xs 0) (sym none) refl;
          came = 0;
          back = refl;
          enough = omega arith;
        },
        same_so (IsDueLoss Ill history got got c.seats (IsFull M)) M M refl,
      ) in
      let now = last.goes got M (due.goes got M was) refl (failed ∙ sound.0) kept in
      let counted = subst (λ (xs : List (SeatState L)). IsCounted history (HeardAll history xs) got got_now M all) seats now.0 in
      λ full. none_full (joins_and_changes M) (joins_and_changes all) counted.heard counted.came first counted.are counted.enough full (few counted.behind.0 counted.came counted.behind.1 (offers_of counted.behind.0 counted.came counted.back))
  few_whole M all c c_mid c_now got got_mid got_now (Err why) first none due sound last failed kept seats few = tt

pub waiting_well : {S : Type 0} (tells kept : Type 0) (files : S → Files) (d after : DeskState S) (r : Result Check Stopped) → HasEnd tells kept files d after (with_check r) → OnOk r (AddsWell d.moves after.moves × (count_by is_join after.moves ≡ count_by is_join d.moves))
waiting_well tells kept files d after (Ok check) ends = (ends.2.well, joins_still d.moves after.moves (ends_unlinked d.moves after d.stop check ends.2))
waiting_well tells kept files d after (Err why) ends = tt
