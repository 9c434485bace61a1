-- What is due goes on being due, step by step.
use Rattle.std.proofs.Common.{◌≡◌, ◌≤◌, ◌+◌, ◌⊎◌, inl, inr, ⊎_elim, ◌∙◌, ℕ, Bool, true, false, List, [], ◌∷◌, ◌++◌, Option, Some, None, Result, Ok, Err, length, length-append, refl, sym, ap, subst, arith, append_assoc, true≢false}
use Rattle.std.specs.Prelude.{All, OnOk}
use Rattle.std.specs.List.{list_all, list_any}
use Rattle.std.proofs.lemmas.List.{append-nil}
use Rattle.std.proofs.lemmas.Bool.{and_parts}
use Rattle.std.proofs.lemmas.List.Elements.{All-cons, All-nil, All-weaker}
use Rattle.flow_types.specs.declared.numbers.AttemptNo.{AttemptNo}
use Rattle.flow_types.specs.declared.numbers.LinkNo.{LinkNo}
use Rattle.flow_types.specs.declared.numbers.RuleNo.{RuleNo}
use Rattle.flow_types.specs.declared.job.Failure.{Failure}
use Rattle.flow_types.specs.declared.job.Job.{Job}
use Rattle.flow_types.specs.declared.records.Record.{Record}
use Rattle.flow_types.specs.declared.records.Record.TheVariants as records
use Rattle.flow_types.specs.Serial.{Function}
use Rattle.run_history.specs.declared.moves.Move.{Move}
use Rattle.run_history.specs.declared.moves.Move.TheVariants as moves
use Rattle.run_history.specs.declared.answers.Check.{Check}
use Rattle.run_history.specs.declared.answers.Stop.{Stop}
use Rattle.run_history.specs.History.{is_end}
use Rattle.run_history.specs.Links.{records_of}
use Rattle.run_history.specs.Moves.{joins_and_changes}
use Rattle.links.specs.declared.passing.Passed.{Passed}
use Rattle.links.specs.Ill.{OffersCame, too_many_offers}
use Rattle.links.specs.Passings.{received_in}
use Rattle.desk.specs.State.{DeskState}
use Rattle.peers.specs.declared.leave.Leave.{Leave}
use Rattle.peers.specs.declared.leave.Leave.TheVariants as leaves
use Rattle.outside.specs.Files.{Files}
use Rattle.local_run.specs.declared.ended.Stopped.{Stopped}
use Rattle.local_run.specs.declared.halt.Halt.{Halt}
use Rattle.local_run.specs.Links.{link_moves}
use Rattle.local_run.specs.Losses.{EndsHere, SparesAll, is_lost, starts_on}
use Rattle.local_run.specs.Underway.{halt_after}
use Rattle.wq_run.specs.Seats.{CompanyState, Inside, Meets, SeatState, inside_of}
use Rattle.wq_run.specs.Losses.{AreDueLosses, GaveBack, IsDueLossBy, IsDueTo, accounts_of}
use Rattle.wq_run.specs.Results.{AreResults, IsResultBy, IsShownBy, ShowsEnd}
use Rattle.wq_run.specs.Dues.{AddsSo, AreDue, AreDueBut, AreDueBy, CameAll, CameBack, DuesAt, FaresSeat, GivesUp, HasCome, HasHeard, HeardAll, HeardBut, IsBehind, IsCounted, IsDueBack, IsDueLoss, IsDueResult, IsFull, IsIllLink, IsShownAt, IsShownBack, IsShownOn, IsStartedOn, KeepsDue, KeepsDueBut, LeavesAt, LeavesFor, LosesDuly, MayLeaveAt, left_lost}
use Rattle.wq_run.specs.Works.{EndsAt, HasEnd, with_check}
use Rattle.wq_run.proofs.Counting.{meets_none}
use Rattle.wq_run.proofs.Heards.{came_append, came_nothing, came_one, heard_apart, heard_come, heard_left, heard_put, heard_split, joins_append, quiet_on}
use Rattle.wq_run.proofs.Fares.{adds_then, any_later, halted_never, records_after, same_so, shows_on, spares_same, spares_so, started_later, unlost_started}

-- ---- moves behind others

full_later : (M more all : List Move) → all ≡ M ++ more → IsFull M → IsFull all
full_later M more all are full =
    let both = joins_append M more all are in
    omega (arith, full, both)

pub fine_before : (failed failed_now : Bool) → (failed ≡ true → failed_now ≡ true) → failed_now ≡ false → failed ≡ false
fine_before true failed_now stays fine = absurd (true≢false (sym (stays refl) ∙ fine))
fine_before false failed_now stays fine = refl

-- ---- links that were handed back

module _ {L : Type 0} where
  came_later : (before got more all : List (Option LinkNo × L)) (link : LinkNo) (way : L) → all ≡ got ++ more → CameBack before link way got → CameBack before link way all
  came_later before got more all link way are came =
      let here : List (Option LinkNo × L) = (Some link, way) ∷ came.1 in
      (came.0, came.1 ++ more, are ∙ ap (λ (xs : List (Option LinkNo × L)). xs ++ more) came.2 ∙ append_assoc before (came.0 ++ here) more ∙ ap (λ (xs : List (Option LinkNo × L)). before ++ xs) (append_assoc came.0 here more))

  pub came_last : (before got all : List (Option LinkNo × L)) (link : LinkNo) (way : L) → IsBehind before got → all ≡ got ++ ((Some link, way) ∷ []) → CameBack before link way all
  came_last before got all link way behind are =
      (behind.0, [], are ∙ ap (λ (xs : List (Option LinkNo × L)). xs ++ ((Some link, way) ∷ [])) behind.1 ∙ append_assoc before behind.0 ((Some link, way) ∷ []))

  abbrev behind_later : (before got more all : List (Option LinkNo × L)) → all ≡ got ++ more → IsBehind before got → IsBehind before all
  behind_later before got more all are behind = (behind.0 ++ more, are ∙ ap (λ (xs : List (Option LinkNo × L)). xs ++ more) behind.1 ∙ append_assoc before behind.0 more)

module _ {L : Type 0} (ill : LinkNo → L → Type 0) (history : L → List Passed) where
  abbrev Links : Type 0
  Links = List (Option LinkNo × L)

  cause_later : (link : LinkNo) (way : L) (number : AttemptNo) (full full_now : Type 0) → (full → full_now) → ill link way ⊎ GaveBack (received_in (history way)) number ⊎ full → ill link way ⊎ GaveBack (received_in (history way)) number ⊎ full_now
  cause_later link way number full full_now on (inl is) = inl is
  cause_later link way number full full_now on (inr (inl is)) = inr (inl is)
  cause_later link way number full full_now on (inr (inr is)) = inr (inr (on is))

  due_back_later : (before got more all : Links) (full full_now : Type 0) (link : LinkNo) (number : AttemptNo) → all ≡ got ++ more → (full → full_now) → IsDueBack ill history before got full link number → IsDueBack ill history before all full_now link number
  due_back_later before got more all full full_now link number are on due = record {
    way = due.way;
    back = came_later before got more all link due.way are due.back;
    cause = cause_later link due.way number full full_now on due.cause;
  }

  -- ---- one step

  shown_back_later : (before got more all : Links) (link : LinkNo) (x : Record) → all ≡ got ++ more → IsShownBack history before got link x → IsShownBack history before all link x
  shown_back_later before got more all link x are back = record { way = back.way; back = came_later before got more all link back.way are back.back; shown = back.shown }

  -- what seats showed is shown by those that are there then, or by a link that was handed back
  abbrev pub SeatsOn : Links → Links → List (SeatState L) → List (SeatState L) → Type 0
  SeatsOn before got_now seats seats_now = (link : LinkNo) (x : Record) → IsShownAt history link.0 x seats → IsShownAt history link.0 x seats_now ⊎ IsShownBack history before got_now link x

  shown_on : (before got more got_now : Links) (seats seats_now : List (SeatState L)) (link : LinkNo) (x : Record) → got_now ≡ got ++ more → SeatsOn before got_now seats seats_now
      → IsShownAt history link.0 x seats ⊎ IsShownBack history before got link x → IsShownAt history link.0 x seats_now ⊎ IsShownBack history before got_now link x
  shown_on before got more got_now seats seats_now link x are there (inl at) = there link x at
  shown_on before got more got_now seats seats_now link x are there (inr back) = inr (shown_back_later before got more got_now link x are back)

  due_on : (before got more got_now : Links) (seats seats_now : List (SeatState L)) (full full_now : Type 0) (link : LinkNo) (moment : ℕ) (rule : RuleNo) (number : AttemptNo) → got_now ≡ got ++ more → (full → full_now) → SeatsOn before got_now seats seats_now
      → IsShownAt history link.0 (records.Lost moment rule number) seats ⊎ IsDueBack ill history before got full link number → IsShownAt history link.0 (records.Lost moment rule number) seats_now ⊎ IsDueBack ill history before got_now full_now link number
  due_on before got more got_now seats seats_now full full_now link moment rule number are on there (inl at) =
      ⊎_elim (λ here. inl here) (λ back. inr (record { way = back.way; back = back.back; cause = inr (inl back.shown) })) (there link (records.Lost moment rule number) at)
  due_on before got more got_now seats seats_now full full_now link moment rule number are on there (inr back) = inr (due_back_later before got more got_now full full_now link number are on back)

  result_on : (before got more got_now : Links) (seats seats_now : List (SeatState L)) (H behind all : List Record) (rule : RuleNo) (attempt : AttemptNo) (x : Record) → got_now ≡ got ++ more → SeatsOn before got_now seats seats_now → all ≡ H ++ behind
      → IsDueResult history before got seats H rule attempt x → IsDueResult history before got_now seats_now all rule attempt x
  result_on before got more got_now seats seats_now H behind all rule attempt x are there grown (inl here) = inl (any_later (starts_on 0 rule.0 attempt.0) H behind all grown here)
  result_on before got more got_now seats seats_now H behind all rule attempt x are there grown (inr is) =
      inr (is.0, any_later (starts_on is.0.0 rule.0 attempt.0) H behind all grown is.1, shown_on before got more got_now seats seats_now is.0 x are there is.2)

  loss_on : (before got more got_now : Links) (seats seats_now : List (SeatState L)) (full full_now : Type 0) (H behind all : List Record) → got_now ≡ got ++ more → (full → full_now) → SeatsOn before got_now seats seats_now → all ≡ H ++ behind
      → (x : Record) → IsDueLoss ill history before got seats full H x → IsDueLoss ill history before got_now seats_now full_now all x
  loss_on before got more got_now seats seats_now full full_now H behind all are on there grown (records.Opened moment run retries limit plan sources) is = tt
  loss_on before got more got_now seats seats_now full full_now H behind all are on there grown (records.Resumed moment run retries limit) is = tt
  loss_on before got more got_now seats seats_now full full_now H behind all are on there grown (records.Started moment rule attempt at) is = tt
  loss_on before got more got_now seats seats_now full full_now H behind all are on there grown (records.Done moment rule attempt outs) is = result_on before got more got_now seats seats_now H behind all rule attempt (records.Done moment rule attempt outs) are there grown is
  loss_on before got more got_now seats seats_now full full_now H behind all are on there grown (records.Failed moment rule attempt why) is = result_on before got more got_now seats seats_now H behind all rule attempt (records.Failed moment rule attempt why) are there grown is
  loss_on before got more got_now seats seats_now full full_now H behind all are on there grown (records.Lost moment rule attempt) is =
      (is.0, any_later (starts_on is.0.0 rule.0 attempt.0) H behind all grown is.1, due_on before got more got_now seats seats_now full full_now is.0 moment rule attempt are on there is.2)
  loss_on before got more got_now seats seats_now full full_now H behind all are on there grown (records.Dropped moment file) is = tt
  loss_on before got more got_now seats seats_now full full_now H behind all are on there grown (records.Ended moment kind) is = tt

  pub unlost_due : (before got : Links) (seats : List (SeatState L)) (full : Type 0) (all : List Record) (x : Record) → is_lost x ≡ false → EndsHere all x → IsDueLoss ill history before got seats full all x
  unlost_due before got seats full all (records.Opened moment run retries limit plan sources) none here = tt
  unlost_due before got seats full all (records.Resumed moment run retries limit) none here = tt
  unlost_due before got seats full all (records.Started moment rule attempt at) none here = tt
  unlost_due before got seats full all (records.Done moment rule attempt outs) none here = inl here
  unlost_due before got seats full all (records.Failed moment rule attempt why) none here = inl here
  unlost_due before got seats full all (records.Lost moment rule attempt) none here = absurd (true≢false none)
  unlost_due before got seats full all (records.Dropped moment file) none here = tt
  unlost_due before got seats full all (records.Ended moment kind) none here = tt

  -- What a step makes where the run goes on behind it: nothing had stopped it before, what was handed back stays, what was due by seats is due still, and what it gives up is due. Joins and changes were added for offers that came.
  pub record StepsOn (was now : ℕ → Type 0) (M all : List Move) (halt : Option Halt) (c c_now : CompanyState L) (before got got_now : Links) : Type 0 where
    pub halt_was : halt ≡ None
    pub failed_was : c.failed ≡ false
    pub lost_was : c.lost ≡ false
    pub more : Links
    pub are : got_now ≡ got ++ more
    pub there : SeatsOn before got_now c.seats c_now.seats
    pub adds : AddsSo (IsDueLoss ill history before got_now c_now.seats (IsFull all)) M all
    pub counts : (n : ℕ) → was n → (k : ℕ) × (j : ℕ) × now k × CameAll history more j × (joins_and_changes all + n ≤ joins_and_changes M + (k + j))

  step_counted : (was now : ℕ → Type 0) (before got more got_now : Links) (first M all : List Move) → got_now ≡ got ++ more
      → ((n : ℕ) → was n → (k : ℕ) × (j : ℕ) × now k × CameAll history more j × (joins_and_changes all + n ≤ joins_and_changes M + (k + j))) → IsCounted history was before got first M → IsCounted history now before got_now first all
  step_counted was now before got more got_now first M all are counts counted =
      let step = counts counted.heard counted.are in
      let enough = counted.enough in
      let added = step.4 in
      record {
        behind = behind_later before got more got_now are counted.behind;
        heard = step.0;
        are = step.2;
        came = counted.came + step.1;
        back = came_append history counted.behind.0 more counted.came step.1 (counted.came + step.1) refl counted.back step.3;
        enough = omega (arith, enough, added);
      }

  pub due_step_by : (was now : ℕ → Type 0) {M all : List Move} {halt halt_now : Option Halt} {c c_now : CompanyState L} {got got_now : Links}
      → ((before : Links) → halt_now ≡ None → c_now.failed ≡ false → c_now.lost ≡ false → (halt ≡ None → c.failed ≡ false → c.lost ≡ false → IsBehind before got) → StepsOn was now M all halt c c_now before got got_now)
      → (before : Links) (first : List Move) → AreDueBy ill history was before first M halt c got → AreDueBy ill history now before first all halt_now c_now got_now
  due_step_by was now {M} {all} {halt} {halt_now} {c} {c_now} {got} {got_now} steps before first due none fine kept =
      let s = steps before none fine kept (λ h f l. (due h f l).0.behind) in
      let past = due s.halt_was s.failed_was s.lost_was in (
        step_counted was now before got s.more got_now first M all s.are s.counts past.0,
        adds_then (IsDueLoss ill history before got c.seats (IsFull M)) (IsDueLoss ill history before got_now c_now.seats (IsFull all)) first M all
            (loss_on before got s.more got_now c.seats c_now.seats (IsFull M) (IsFull all) (records_of M) (records_of s.adds.more) (records_of all) s.are (full_later M s.adds.more all s.adds.are) s.there
            (records_after (IsDueLoss ill history before got_now c_now.seats (IsFull all)) M all s.adds))
            past.1 s.adds,
      )

  pub due_step : {M all : List Move} {halt halt_now : Option Halt} {c c_now : CompanyState L} {got got_now : Links}
      → ((before : Links) → halt_now ≡ None → c_now.failed ≡ false → c_now.lost ≡ false → (halt ≡ None → c.failed ≡ false → c.lost ≡ false → IsBehind before got) → StepsOn (HeardAll history c.seats) (HeardAll history c_now.seats) M all halt c c_now before got got_now)
      → KeepsDue ill history M all halt halt_now c c_now got got_now
  due_step {M} {all} {halt} {halt_now} {c} {c_now} {got} {got_now} steps = record { goes = due_step_by (HeardAll history c.seats) (HeardAll history c_now.seats) steps }

  -- as many were heard of the same seats, and nothing came back
  still_counts : (was now : ℕ → Type 0) (M all : List Move) → ((n : ℕ) → was n → now n) → joins_and_changes all ≡ joins_and_changes M
      → (n : ℕ) → was n → (k : ℕ) × (j : ℕ) × now k × (let none : Links = [] in CameAll history none j) × (joins_and_changes all + n ≤ joins_and_changes M + (k + j))
  still_counts was now M all on same n is = (n, 0, on n is, refl, omega (arith, same))

  -- ---- the seats

  same_seats : (before got_now : Links) (seats seats_now : List (SeatState L)) → seats_now ≡ seats → SeatsOn before got_now seats seats_now
  same_seats before got_now seats seats_now same link x at = inl (subst (IsShownAt history link.0 x) (sym same) at)

  more_seats : (link : ℕ) (x : Record) (seats more : List (SeatState L)) → IsShownAt history link x seats → IsShownAt history link x (seats ++ more)
  more_seats link x [] more at = absurd at
  more_seats link x (s ∷ seats) more (inl at) = inl at
  more_seats link x (s ∷ seats) more (inr at) = inr (more_seats link x seats more at)

  -- it is there where the seat stands among others
  pub back_here : (link : ℕ) (x : Record) (f : List (SeatState L)) (s : SeatState L) (b : List (SeatState L)) → s.link.0 ≡ link → ShowsEnd x (history s.peer.way) → IsShownAt history link x (f ++ (s ∷ b))
  back_here link x [] s b same shown = inl (same, shown)
  back_here link x (other ∷ f) s b same shown = inr (back_here link x f s b same shown)

  -- of a seat among others, or of the others
  pub back_parts : (link : ℕ) (x : Record) (f : List (SeatState L)) (s : SeatState L) (b : List (SeatState L)) → IsShownAt history link x (f ++ (s ∷ b)) → ((s.link.0 ≡ link) × ShowsEnd x (history s.peer.way)) ⊎ IsShownAt history link x (f ++ b)
  back_parts link x [] s b (inl here) = inl here
  back_parts link x [] s b (inr there) = inr there
  back_parts link x (other ∷ f) s b (inl here) = inr (inl here)
  back_parts link x (other ∷ f) s b (inr there) = ⊎_elim (λ here. inl here) (λ rest. inr (inr rest)) (back_parts link x f s b there)

  back_among : (link : ℕ) (x : Record) (f : List (SeatState L)) (s : SeatState L) (b : List (SeatState L)) → IsShownAt history link x (f ++ b) → IsShownAt history link x (f ++ (s ∷ b))
  back_among link x [] s b at = inr at
  back_among link x (other ∷ f) s b (inl at) = inl at
  back_among link x (other ∷ f) s b (inr at) = inr (back_among link x f s b at)

  link_is : (k : ℕ) (link : LinkNo) → k ≡ link.0 → (let l : LinkNo = record { 0 = k } in l) ≡ link
  link_is k link same = ap (λ (n : ℕ). let l : LinkNo = record { 0 = n } in l) same

  -- ---- steps

  -- nothing changes but moves that give nothing up
  pub due_spared : {M all : List Move} {halt halt_now : Option Halt} {c : CompanyState L} {got : Links} → (halt_now ≡ None → (halt ≡ None) × SparesAll M all) → KeepsDue ill history M all halt halt_now c c got got
  due_spared {M} {all} {halt} {halt_now} {c} {got} spares = due_step (λ before none fine kept was.
      let s = spares none in
      record {
        halt_was = s.0;
        failed_was = fine;
        lost_was = kept;
        more = [];
        are = sym (append-nil got);
        there = same_seats before got c.seats c.seats refl;
        adds = spares_so (IsDueLoss ill history before got c.seats (IsFull all)) M all (unlost_due before got c.seats (IsFull all)) s.1;
        counts = still_counts (HeardAll history c.seats) (HeardAll history c.seats) M all (λ n is. is) (quiet_on M s.1.more all s.1.are s.1.quiet);
      })

  -- the run stopped
  pub due_halted : {M all : List Move} {halt halt_now : Option Halt} {c c_now : CompanyState L} {got got_now : Links} (why : Halt) → halt_now ≡ Some why → KeepsDue ill history M all halt halt_now c c_now got got_now
  due_halted {M} {all} {halt} {halt_now} why stopped = record { goes = λ before first due none fine kept. absurd (halted_never why halt_now stopped none) }

  -- the same company
  pub due_as : {M all : List Move} {halt halt_now : Option Halt} {c c_mid c_now : CompanyState L} {got got_now : Links} → c_mid ≡ c_now → KeepsDue ill history M all halt halt_now c c_mid got got_now → KeepsDue ill history M all halt halt_now c c_now got got_now
  due_as {M} {all} {halt} {halt_now} {c} {c_mid} {c_now} {got} {got_now} same keeps = subst (λ (x : CompanyState L). KeepsDue ill history M all halt halt_now c x got got_now) same keeps

  given_due : (before got : Links) (full : Type 0) (past : List Passed) (seats : List (SeatState L)) (link : LinkNo) → ((x : Record) → ShowsEnd x past → IsShownAt history link.0 x seats) → (all : List Record) (x : Record) → IsShownOn past link.0 all x → IsDueLoss ill history before got seats full all x
  given_due before got full past seats link at all (records.Opened moment run retries limit plan sources) is = tt
  given_due before got full past seats link at all (records.Resumed moment run retries limit) is = tt
  given_due before got full past seats link at all (records.Started moment rule attempt on) is = tt
  given_due before got full past seats link at all (records.Done moment rule attempt outs) is = ⊎_elim (λ here. inl here) (λ there. inr (link, there.0, inl (at (records.Done moment rule attempt outs) there.1))) is
  given_due before got full past seats link at all (records.Failed moment rule attempt why) is = ⊎_elim (λ here. inl here) (λ there. inr (link, there.0, inl (at (records.Failed moment rule attempt why) there.1))) is
  given_due before got full past seats link at all (records.Lost moment rule attempt) is = (link, is.0, inl (at (records.Lost moment rule attempt) is.1))
  given_due before got full past seats link at all (records.Dropped moment file) is = tt
  given_due before got full past seats link at all (records.Ended moment kind) is = tt

  started_due : (before got : Links) (full : Type 0) (seats : List (SeatState L)) (link : LinkNo) → ((number : AttemptNo) → IsDueBack ill history before got full link number) → (all : List Record) (x : Record) → IsStartedOn link.0 all x → IsDueLoss ill history before got seats full all x
  started_due before got full seats link back all (records.Opened moment run retries limit plan sources) is = tt
  started_due before got full seats link back all (records.Resumed moment run retries limit) is = tt
  started_due before got full seats link back all (records.Started moment rule attempt on) is = tt
  started_due before got full seats link back all (records.Done moment rule attempt outs) is = inl is
  started_due before got full seats link back all (records.Failed moment rule attempt why) is = inl is
  started_due before got full seats link back all (records.Lost moment rule attempt) is = (link, is, inr (back attempt))
  started_due before got full seats link back all (records.Dropped moment file) is = tt
  started_due before got full seats link back all (records.Ended moment kind) is = tt

  -- what is so of each record that was added
  adds_as : (so so_now : List Record → Record → Type 0) (M all : List Move) → ((H : List Record) (x : Record) → so H x → so_now H x) → AddsSo so M all → AddsSo so_now M all
  adds_as so so_now M all step adds = record { more = adds.more; are = adds.are; each = All-weaker (so (records_of all)) (so_now (records_of all)) (step (records_of all)) (records_of adds.more) adds.each }

  -- a call at one seat, with what is told then of the seats
  seat_steps : {A : Type 0} (now : ℕ → Type 0) {M all : List Move} {halt halt_now : Option Halt} {c c_now : CompanyState L} {got : Links} (f : List (SeatState L)) (s s_now : SeatState L) (b : List (SeatState L)) (r : Result A Leave) → c.seats ≡ f ++ (s ∷ b) → c_now.seats ≡ f ++ (s_now ∷ b)
      → c_now.failed ≡ c.failed → c_now.lost ≡ c.lost → FaresSeat ill history M all halt halt_now s s_now r → ((k m : ℕ) → HasCome (received_in (history s_now.peer.way)) k → OnOk r (HasHeard history s_now.peer k) → HeardAll history (f ++ b) m → now (k + m))
      → (before : Links) → halt_now ≡ None → c_now.failed ≡ false → c_now.lost ≡ false → StepsOn (HeardAll history c.seats) now M all halt c c_now before got got
  seat_steps {A} now {M} {all} {halt} {halt_now} {c} {c_now} {got} f s s_now b r are ends failed lost fares put before none fine kept =
      let here : (x : Record) → ShowsEnd x (history s_now.peer.way) → IsShownAt history s.link.0 x c_now.seats =
      λ x shown. subst (IsShownAt history s.link.0 x) (sym ends) (back_here s.link.0 x f s_now b (ap (λ (l : LinkNo). l.0) fares.link) shown) in
      record {
        halt_was = fares.going none;
        failed_was = sym failed ∙ fine;
        lost_was = sym lost ∙ kept;
        more = [];
        are = sym (append-nil got);
        there = λ link x at. inl (subst (IsShownAt history link.0 x) (sym ends)
            (⊎_elim
            (λ shown. back_here link.0 x f s_now b (ap (λ (l : LinkNo). l.0) fares.link ∙ shown.0) (shows_on (history s.peer.way) (history s_now.peer.way) fares.comes x shown.1))
            (λ rest. back_among link.0 x f s_now b rest)
            (back_parts link.0 x f s b (subst (IsShownAt history link.0 x) are at))));
        adds = adds_as (IsShownOn (history s_now.peer.way) s.link.0) (IsDueLoss ill history before got c_now.seats (IsFull all)) M all
            (given_due before got (IsFull all) (history s_now.peer.way) c_now.seats s.link here) (fares.loses none);
        counts = λ n was.
            let split = heard_split history f s b n (subst (λ (xs : List (SeatState L)). HeardAll history xs n) are was) in
            let on = fares.counts none split.0 split.2 in
            let sum = split.4 in
            let enough = on.enough in
            (on.now + split.1, 0, put on.now split.1 on.came on.heard split.3, refl, omega (arith, sum, enough));
      }

  -- where it went well
  pub due_seat : {A : Type 0} {M all : List Move} {halt halt_now : Option Halt} {c c_now : CompanyState L} {got : Links} (f : List (SeatState L)) (s s_now : SeatState L) (b : List (SeatState L)) (x : A) → c.seats ≡ f ++ (s ∷ b) → c_now.seats ≡ f ++ (s_now ∷ b)
      → c_now.failed ≡ c.failed → c_now.lost ≡ c.lost → FaresSeat ill history M all halt halt_now s s_now (Ok x) → KeepsDue ill history M all halt halt_now c c_now got got
  due_seat {A} {M} {all} {halt} {halt_now} {c} {c_now} {got} f s s_now b x are ends failed lost fares = due_step (λ before none fine kept was.
      seat_steps (HeardAll history c_now.seats) f s s_now b (Ok x) are ends failed lost fares
      (λ k m came heard rest. subst (λ (xs : List (SeatState L)). HeardAll history xs (k + m)) (sym ends) (heard_put history f s_now b k m (k + m) refl heard rest)) before none fine kept)

  -- where it is to be left
  due_leaving : {A : Type 0} {M all : List Move} {halt halt_now : Option Halt} (c c_now : CompanyState L) (got : Links) (f : List (SeatState L)) (s s_now : SeatState L) (b : List (SeatState L)) (leave : Leave) → c.seats ≡ f ++ (s ∷ b) → c_now.seats ≡ f ++ (s_now ∷ b)
      → c_now.failed ≡ c.failed → c_now.lost ≡ c.lost → (let r : Result A Leave = Err leave in FaresSeat ill history M all halt halt_now s s_now r) → (before : Links) (first : List Move) → AreDue ill history before first M halt c got → AreDueBut ill history (length f) before first all halt_now c_now got
  due_leaving {A} {M} {all} {halt} {halt_now} c c_now got f s s_now b leave are ends failed lost fares = due_step_by (HeardAll history c.seats) (HeardBut history (length f) c_now.seats) {c = c} {c_now = c_now} {got = got} {got_now = got} (λ before none fine kept was.
      seat_steps (HeardBut history (length f) c_now.seats) {c = c} {c_now = c_now} f s s_now b (let r : Result A Leave = Err leave in r) are ends failed lost fares
      (λ k m came heard rest. subst (λ (xs : List (SeatState L)). HeardBut history (length f) xs (k + m)) (sym ends) (heard_left history f s_now b k m (k + m) refl came rest)) before none fine kept)

  -- A seat is left: all that ran there is given up, and its link is handed back.
  pub due_part : {M mid all : List Move} {halt halt_now : Option Halt} {c c_now : CompanyState L} {got got_now : Links} (f : List (SeatState L)) (s : SeatState L) (b : List (SeatState L)) → c.seats ≡ f ++ (s ∷ b) → c_now.seats ≡ f ++ b
      → GivesUp s.link.0 M mid halt halt_now → SparesAll mid all → (c_now.failed ≡ false → c.failed ≡ false) → (c_now.lost ≡ false → (c.lost ≡ false) × (got_now ≡ got ++ ((Some s.link, s.peer.way) ∷ [])))
      → (halt ≡ None → c.failed ≡ false → c.lost ≡ false → ill s.link s.peer.way ⊎ IsFull M) → KeepsDueBut ill history (length f) M all halt halt_now c c_now got got_now
  due_part {M} {mid} {all} {halt} {halt_now} {c} {c_now} {got} {got_now} f s b are now gives spares failing losing cause = let steps : (before : Links) → halt_now ≡ None → c_now.failed ≡ false → c_now.lost ≡ false → (halt ≡ None → c.failed ≡ false → c.lost ≡ false → IsBehind before got) → StepsOn (HeardBut history (length f) c.seats) (HeardAll history c_now.seats) M all halt c c_now before got got_now = λ before none fine kept was.
      let halt_was = gives.going none in
      let failed_was = failing fine in
      let back = losing kept in
      let behind = was halt_was failed_was back.0 in
      let later = spares_so (IsStartedOn s.link.0) mid all (unlost_started s.link.0) spares in
      let started = adds_then (IsStartedOn s.link.0) (IsStartedOn s.link.0) M mid all
      (started_later s.link.0 (records_of mid) (records_of later.more) (records_of all) (records_after (IsStartedOn s.link.0) mid all later)) (gives.loses none) later in
      let why : ill s.link s.peer.way ⊎ IsFull all = ⊎_elim (λ is. inl is) (λ full. inr (full_later M started.more all started.are full)) (cause halt_was failed_was back.0) in
      let due : (number : AttemptNo) → IsDueBack ill history before got_now (IsFull all) s.link number = λ number. record {
        way = s.peer.way;
        back = came_last before got got_now s.link s.peer.way behind back.1;
        cause = ⊎_elim (λ is. inl is) (λ full. inr (inr full)) why;
      } in
      record {
        halt_was = halt_was;
        failed_was = failed_was;
        lost_was = back.0;
        more = (Some s.link, s.peer.way) ∷ [];
        are = back.1;
        there = λ link x at.
            ⊎_elim
            (λ shown. inr (subst (λ (l : LinkNo). IsShownBack history before got_now l x) (link_is s.link.0 link shown.0)
            (record { way = s.peer.way; back = came_last before got got_now s.link s.peer.way behind back.1; shown = shown.1 })))
            (λ rest. inl (subst (IsShownAt history link.0 x) (sym now) rest))
            (back_parts link.0 x f s b (subst (IsShownAt history link.0 x) are at));
        adds = adds_as (IsStartedOn s.link.0) (IsDueLoss ill history before got_now c_now.seats (IsFull all)) M all (started_due before got_now (IsFull all) c_now.seats s.link due) started;
        counts = λ n past.
            let split = heard_apart history f s b n (subst (λ (xs : List (SeatState L)). HeardBut history (length f) xs n) are past) in
            let sum = split.4 in
            let first = gives.quiet none in
            let second = quiet_on mid spares.more all spares.are spares.quiet in
            (split.1, split.0, subst (λ (xs : List (SeatState L)). HeardAll history xs split.1) (sym now) split.3, came_one history (Some s.link) s.peer.way split.0 split.2, omega (arith, sum, first, second));
      } in
      record { goes = due_step_by (HeardBut history (length f) c.seats) (HeardAll history c_now.seats) steps }

  -- The hall and the company go on, with the same seats.
  pub due_wider : {M all : List Move} {halt : Option Halt} {c c_now : CompanyState L} {got got_now : Links} {count count_now given given_now idles idles_now : ℕ} {inside inside_now : Inside} → SparesAll M all
      → c_now.seats ≡ c.seats
      → Meets count count_now got got_now given given_now idles idles_now inside inside_now c.failed c_now.failed c.lost c_now.lost → KeepsDue ill history M all halt halt c c_now got got_now
  due_wider {M} {all} {halt} {c} {c_now} {got} {got_now} spares same met = due_step (λ before none fine kept was.
      let counted = met.counted kept in
      record {
        halt_was = none;
        failed_was = fine_before c.failed c_now.failed met.stays fine;
        lost_was = counted.0;
        more = counted.1.more;
        are = counted.1.are;
        there = λ link x at. inl (subst (IsShownAt history link.0 x) (sym same) at);
        adds = spares_so (IsDueLoss ill history before got_now c_now.seats (IsFull all)) M all (unlost_due before got_now c_now.seats (IsFull all)) spares;
        counts = λ n past.
            let quiet = quiet_on M spares.more all spares.are spares.quiet in
            (n, 0, subst (λ (xs : List (SeatState L)). HeardAll history xs n) (sym same) past, came_nothing history counted.1.more, omega (arith, quiet));
      })

  -- with the same seats
  pub due_met : {M : List Move} {halt : Option Halt} {c c_now : CompanyState L} {got got_now : Links} {count count_now given given_now idles idles_now : ℕ} {inside inside_now : Inside} → c_now.seats ≡ c.seats
      → Meets count count_now got got_now given given_now idles idles_now inside inside_now c.failed c_now.failed c.lost c_now.lost → KeepsDue ill history M M halt halt c c_now got got_now
  due_met {M} {halt} {c} {c_now} same met = due_wider (spares_same M M refl) same met

  -- a guest gets its seat, of which its hello was heard
  pub due_seated : {M all : List Move} {halt : Option Halt} {c c_now : CompanyState L} {got got_now : Links} {count count_now given given_now idles idles_now : ℕ} {inside inside_now : Inside} (s : SeatState L) → ((before : Links) → AddsSo (IsDueLoss ill history before got_now c_now.seats (IsFull all)) M all)
      → joins_and_changes all ≡ joins_and_changes M + 1 → HasHeard history s.peer 1 → (c_now.lost ≡ false → c_now.seats ≡ c.seats ++ (s ∷ []))
      → Meets count count_now got got_now given given_now idles idles_now inside inside_now c.failed c_now.failed c.lost c_now.lost → KeepsDue ill history M all halt halt c c_now got got_now
  due_seated {M} {all} {halt} {c} {c_now} {got} {got_now} s adds one heard seated met = due_step (λ before none fine kept was.
      let counted = met.counted kept in
      let seats = seated kept in
      record {
        halt_was = none;
        failed_was = fine_before c.failed c_now.failed met.stays fine;
        lost_was = counted.0;
        more = counted.1.more;
        are = counted.1.are;
        there = λ link x at. inl (subst (IsShownAt history link.0 x) (sym seats) (more_seats link.0 x c.seats (s ∷ []) at));
        adds = adds before;
        counts = λ n past. (
          1 + n,
          0,
          subst (λ (xs : List (SeatState L)). HeardAll history xs (1 + n)) (sym seats)
              (heard_put history c.seats s [] 1 n (1 + n) refl heard (subst (λ (xs : List (SeatState L)). HeardAll history xs n) (sym (append-nil c.seats)) past)),
          came_nothing history counted.1.more,
          omega (arith, one),
        );
      })

  -- one step behind another
  pub due_then : {M mid all : List Move} {halt halt_mid halt_now : Option Halt} {c c_mid c_now : CompanyState L} {got got_mid got_now : Links} → KeepsDue ill history M mid halt halt_mid c c_mid got got_mid → KeepsDue ill history mid all halt_mid halt_now c_mid c_now got_mid got_now
      → KeepsDue ill history M all halt halt_now c c_now got got_now
  due_then one two = record { goes = λ before first due. two.goes before first (one.goes before first due) }

  -- a seat is to be left, and is left
  pub due_then_left : {M mid all : List Move} {halt halt_mid halt_now : Option Halt} {c c_mid c_now : CompanyState L} {got got_now : Links} (at : ℕ) → ((before : Links) (first : List Move) → AreDue ill history before first M halt c got → AreDueBut ill history at before first mid halt_mid c_mid got)
      → KeepsDueBut ill history at mid all halt_mid halt_now c_mid c_now got got_now → KeepsDue ill history M all halt halt_now c c_now got got_now
  due_then_left at leaves left = record { goes = λ before first due. left.goes before first (leaves before first due) }

  pub due_none : {M : List Move} {halt : Option Halt} {c : CompanyState L} {got : Links} → KeepsDue ill history M M halt halt c c got got
  due_none = record { goes = λ before first due. due }

  -- A seat's link is handed back, at which nothing runs.
  pub due_handed : {M : List Move} {halt : Option Halt} {c c_now : CompanyState L} {got got_now : Links} (f : List (SeatState L)) (s : SeatState L) (b : List (SeatState L)) → c.seats ≡ f ++ (s ∷ b) → c_now.seats ≡ f ++ b
      → (c_now.failed ≡ false → c.failed ≡ false) → (c_now.lost ≡ false → (c.lost ≡ false) × (got_now ≡ got ++ ((Some s.link, s.peer.way) ∷ []))) → KeepsDue ill history M M halt halt c c_now got got_now
  due_handed {M} {halt} {c} {c_now} {got} {got_now} f s b are now failing losing = due_step (λ before none fine kept was.
      let failed_was = failing fine in
      let back = losing kept in
      let behind = was none failed_was back.0 in
      record {
        halt_was = none;
        failed_was = failed_was;
        lost_was = back.0;
        more = (Some s.link, s.peer.way) ∷ [];
        are = back.1;
        there = λ link x at.
            ⊎_elim
            (λ shown. inr (subst (λ (l : LinkNo). IsShownBack history before got_now l x) (link_is s.link.0 link shown.0)
            (record { way = s.peer.way; back = came_last before got got_now s.link s.peer.way behind back.1; shown = shown.1 })))
            (λ rest. inl (subst (IsShownAt history link.0 x) (sym now) rest))
            (back_parts link.0 x f s b (subst (IsShownAt history link.0 x) are at));
        adds = record { more = []; are = sym (append-nil M); each = All-nil (IsDueLoss ill history before got_now c_now.seats (IsFull M) (records_of M)) };
        counts = λ n past.
            let split = heard_split history f s b n (subst (λ (xs : List (SeatState L)). HeardAll history xs n) are past) in
            let sum = split.4 in
            (split.1, split.0, subst (λ (xs : List (SeatState L)). HeardAll history xs split.1) (sym now) split.3, came_one history (Some s.link) s.peer.way split.0 (heard_come history s.peer split.0 split.2), omega (arith, sum));
      })

  -- it may be left where memory wasn't wanting
  unlost_before : (leave : Leave) (lost : Bool) → left_lost leave lost ≡ false → lost ≡ false
  unlost_before leaves.Closed lost kept = kept
  unlost_before leaves.Failed lost kept = kept
  unlost_before leaves.Bad lost kept = kept
  unlost_before leaves.Unexpected lost kept = kept
  unlost_before leaves.Memory lost kept = absurd (true≢false kept)

  pub may_leave : (M : List Move) (at : ℕ) (seats : List (SeatState L)) (leave : Leave) (lost : Bool) → LeavesAt ill M at seats leave → left_lost leave lost ≡ false → MayLeaveAt ill M at seats
  may_leave M at seats leaves.Closed lost is kept = is
  may_leave M at seats leaves.Failed lost is kept = is
  may_leave M at seats leaves.Bad lost is kept = is
  may_leave M at seats leaves.Unexpected lost is kept = is
  may_leave M at seats leaves.Memory lost is kept = absurd (true≢false kept)

  pub leaves_at : (M : List Move) (f : List (SeatState L)) (s : SeatState L) (b seats : List (SeatState L)) (leave : Leave) → seats ≡ f ++ (s ∷ b) → LeavesFor ill M s leave → LeavesAt ill M (length f) seats leave
  leaves_at M f s b seats leaves.Closed are is = (f, s, b, are, refl, is)
  leaves_at M f s b seats leaves.Failed are is = (f, s, b, are, refl, is)
  leaves_at M f s b seats leaves.Bad are is = (f, s, b, are, refl, is)
  leaves_at M f s b seats leaves.Unexpected are is = (f, s, b, are, refl, is)
  leaves_at M f s b seats leaves.Memory are is = tt

  -- what a call at one seat makes of what is due
  pub dues_at : {A : Type 0} {M all : List Move} {halt halt_now : Option Halt} (c c_now : CompanyState L) (at : ℕ) (f : List (SeatState L)) (s s_now : SeatState L) (b : List (SeatState L)) (r : Result A Leave) → length f ≡ at → c.seats ≡ f ++ (s ∷ b) → c_now.seats ≡ f ++ (s_now ∷ b)
      → c_now.failed ≡ c.failed → c_now.lost ≡ c.lost → FaresSeat ill history M all halt halt_now s s_now r → DuesAt ill history at M all halt halt_now c c_now r
  dues_at {A} {M} {all} {halt} {halt_now} c c_now at f s s_now b (Ok x) place are now failed lost fares = λ got. due_seat f s s_now b x are now failed lost fares
  dues_at {A} {M} {all} {halt} {halt_now} c c_now at f s s_now b (Err leave) place are now failed lost fares = record {
    goes = λ got before first due. subst (λ (n : ℕ). AreDueBut ill history n before first all halt_now c_now got) place (due_leaving c c_now got f s s_now b leave are now failed lost fares before first due);
    leaves = λ none. subst (λ (n : ℕ). LeavesAt ill all n c_now.seats leave) place (leaves_at all f s_now b c_now.seats leave now (fares.leaves none));
  }

  -- Where the link of the seat is left for this, it is so of the company that knows.
  pub but_left : (M : List Move) (first : List Move) (halt : Option Halt) (got before : Links) (at : ℕ) (leave : Leave) (c c_now : CompanyState L) → c_now ≡ record c { lost = left_lost leave c.lost } → AreDueBut ill history at before first M halt c got → AreDueBut ill history at before first M halt c_now got
  but_left M first halt got before at leave c c_now is due none fine kept =
      let seats = ap (λ (x : CompanyState L). x.seats) is in
      let was = due none (sym (ap (λ (x : CompanyState L). x.failed) is) ∙ fine) (unlost_before leave c.lost (sym (ap (λ (x : CompanyState L). x.lost) is) ∙ kept)) in (
        subst (λ (xs : List (SeatState L)). IsCounted history (HeardBut history at xs) before got first M) (sym seats) was.0,
        subst (λ (xs : List (SeatState L)). LosesDuly ill history before got xs first M) (sym seats) was.1,
      )

  -- before it the seats and the marks of the company were these
  pub due_from : {M all : List Move} {halt halt_now : Option Halt} {c other c_now : CompanyState L} {got got_now : Links} → other.seats ≡ c.seats → other.failed ≡ c.failed → other.lost ≡ c.lost → KeepsDue ill history M all halt halt_now other c_now got got_now
      → KeepsDue ill history M all halt halt_now c c_now got got_now
  due_from {M} {all} {halt} {halt_now} {c} {other} {c_now} {got} {got_now} seats failed lost keeps = record {
    goes = λ before first due.
        keeps.goes before first (λ none fine kept.
        let was = due none (sym failed ∙ fine) (sym lost ∙ kept) in (
          subst (λ (xs : List (SeatState L)). IsCounted history (HeardAll history xs) before got first M) (sym seats) was.0,
          subst (λ (xs : List (SeatState L)). LosesDuly ill history before got xs first M) (sym seats) was.1,
        ));
  }

  -- the same from where a seat is to be left
  pub due_from_but : {M all : List Move} {halt halt_now : Option Halt} {c other c_now : CompanyState L} {got got_now : Links} (at : ℕ) → other.seats ≡ c.seats → other.failed ≡ c.failed → other.lost ≡ c.lost → KeepsDueBut ill history at M all halt halt_now other c_now got got_now
      → KeepsDueBut ill history at M all halt halt_now c c_now got got_now
  due_from_but {M} {all} {halt} {halt_now} {c} {other} {c_now} {got} {got_now} at seats failed lost keeps = record {
    goes = λ before first due.
        keeps.goes before first (λ none fine kept.
        let was = due none (sym failed ∙ fine) (sym lost ∙ kept) in (
          subst (λ (xs : List (SeatState L)). IsCounted history (HeardBut history at xs) before got first M) (sym seats) was.0,
          subst (λ (xs : List (SeatState L)). LosesDuly ill history before got xs first M) (sym seats) was.1,
        ));
  }

  -- What may be left at the last place is left: nothing is asked of it where the run has stopped.
  pub due_last : {M all : List Move} {halt halt_now : Option Halt} {c c_mid c_now : CompanyState L} {got got_now : Links} (at : ℕ) → (halt ≡ None → c_mid.failed ≡ false → c_mid.lost ≡ false → ⊥) → KeepsDueBut ill history at M all halt halt_now c_mid c_now got got_now → KeepsDue ill history M all halt halt_now c c_now got got_now
  due_last at stopped keeps = record { goes = λ before first due. keeps.goes before first (λ none fine kept. absurd (stopped none fine kept)) }

  -- before it the company was this one
  pub due_of : {M all : List Move} {halt halt_now : Option Halt} {c other c_now : CompanyState L} {got got_now : Links} → other ≡ c → KeepsDue ill history M all halt halt_now other c_now got got_now → KeepsDue ill history M all halt halt_now c c_now got got_now
  due_of {M} {all} {halt} {halt_now} {c} {other} {c_now} {got} {got_now} same keeps = subst (λ (x : CompanyState L). KeepsDue ill history M all halt halt_now x c_now got got_now) same keeps

  too_long : (all more : List Move) (m : Move) → all ≡ (all ++ (m ∷ [])) ++ more → ⊥
  too_long all more m are =
      let whole = ap length are in
      let both = length-append (all ++ (m ∷ [])) more in
      let one = length-append all (m ∷ []) in
      omega (arith, whole, both, one)

  -- What has stopped stays so.
  pub stopped_on : {M all : List Move} {halt halt_now : Option Halt} {c c_now : CompanyState L} {got got_now : Links} → KeepsDue ill history M all halt halt_now c c_now got got_now
      → (halt ≡ None → c.failed ≡ false → c.lost ≡ false → ⊥) → halt_now ≡ None → c_now.failed ≡ false → c_now.lost ≡ false → ⊥
  stopped_on {M} {all} {halt} {halt_now} {c} {c_now} {got} {got_now} keeps stopped none fine kept =
      let m : Move = moves.Left (record { 0 = 0 }) in
      let due = keeps.goes got (all ++ (m ∷ [])) (λ h f l. absurd (stopped h f l)) none fine kept in
      too_long all due.1.more m due.1.are

  -- what is still held is given up, which is nothing where the run goes on
  pub due_settled : {S : Type 0} {c : CompanyState L} {got : Links} (d after : DeskState S) (halt : Option Halt) (r : Result (Unit {0}) Halt) → OnOk r ((halt ≡ None) × (after ≡ d)) → KeepsDue ill history d.moves after.moves halt (halt_after r None) c c got got
  due_settled d after halt (Ok done) rests = due_spared (λ none. (rests.0, spares_same d.moves after.moves (ap (λ b. b.moves) rests.1)))
  due_settled d after halt (Err why) rests = due_halted why refl

-- A link is left for this.
pub left_met : {L : Type 0} {count : ℕ} {got : List (Option LinkNo × L)} {given idles : ℕ} (leave : Leave) (c : CompanyState L) → Meets count count got got given given idles idles (inside_of c) (inside_of c) c.failed c.failed c.lost (left_lost leave c.lost)
left_met {L} {count} {got} {given} {idles} leaves.Closed c = meets_none count got given idles (inside_of c) c.failed c.lost
left_met {L} {count} {got} {given} {idles} leaves.Failed c = meets_none count got given idles (inside_of c) c.failed c.lost
left_met {L} {count} {got} {given} {idles} leaves.Bad c = meets_none count got given idles (inside_of c) c.failed c.lost
left_met {L} {count} {got} {given} {idles} leaves.Unexpected c = meets_none count got given idles (inside_of c) c.failed c.lost
left_met {L} {count} {got} {given} {idles} leaves.Memory c =
    let met = meets_none count got given idles (inside_of c) c.failed c.lost in
    record { later = met.later; idles_later = met.idles_later; fails = met.fails; stays = met.stays; counted = λ is. absurd (true≢false is); numbers = met.numbers }

pub left_met_as : {L : Type 0} {count : ℕ} {got : List (Option LinkNo × L)} {given idles : ℕ} (leave : Leave) (c c_now : CompanyState L) → c_now ≡ record c { lost = left_lost leave c.lost }
    → Meets count count got got given given idles idles (inside_of c) (inside_of c_now) c.failed c_now.failed c.lost c_now.lost
left_met_as {L} {count} {got} {given} {idles} leave c c_now is =
    subst (λ (x : CompanyState L). Meets count count got got given given idles idles (inside_of c) (inside_of x) c.failed x.failed c.lost x.lost) (sym is) (left_met leave c)

-- where the desk, the stop, the hall and the company are these
pub due_at : {S X L : Type 0} (ill : LinkNo → L → Type 0) (history : L → List Passed) (got : X → List (Option LinkNo × L)) (d first now last : DeskState S) (halt halt_now halt_then : Option Halt) (hall hall_now hall_then : X) (company other company_now company_then : CompanyState L)
    → d ≡ first → now ≡ last → halt_now ≡ halt_then → hall_now ≡ hall_then → company ≡ other → company_now ≡ company_then
    → KeepsDue ill history d.moves now.moves halt halt_now company company_now (got hall) (got hall_now) → KeepsDue ill history first.moves last.moves halt halt_then other company_then (got hall) (got hall_then)
due_at {S} {X} {L} ill history got d first now last halt halt_now halt_then hall hall_now hall_then company other company_now company_then begun ends halts halls before after due =
    subst (λ (x : DeskState S). KeepsDue ill history x.moves last.moves halt halt_then other company_then (got hall) (got hall_then)) begun
    (subst (λ (x : DeskState S). KeepsDue ill history d.moves x.moves halt halt_then other company_then (got hall) (got hall_then)) ends
    (subst (λ (h : Option Halt). KeepsDue ill history d.moves now.moves halt h other company_then (got hall) (got hall_then)) halts
    (subst (λ (x : X). KeepsDue ill history d.moves now.moves halt halt_now other company_then (got hall) (got x)) halls
    (subst (λ (c : CompanyState L). KeepsDue ill history d.moves now.moves halt halt_now c company_then (got hall) (got hall_now)) before
    (subst (λ (c : CompanyState L). KeepsDue ill history d.moves now.moves halt halt_now company c (got hall) (got hall_now)) after due)))))

-- where no move is of a link none joined or changed
unlinked_quiet : (more : List Move) → link_moves more ≡ [] → joins_and_changes more ≡ 0
unlinked_quiet [] none = refl
unlinked_quiet (moves.Logged x ∷ more) none = let rest = unlinked_quiet more none in omega (arith, rest)
unlinked_quiet (moves.Joined link total largest cache ∷ more) none = absurd cc
unlinked_quiet (moves.Changed link total largest cache ∷ more) none = absurd cc
unlinked_quiet (moves.Left link ∷ more) none = absurd cc

-- the end of a run ends no attempt
ended_here : (all xs : List Record) → list_all is_end xs ≡ true → All (EndsHere all) xs
ended_here all [] is = All-nil (EndsHere all)
ended_here all (x ∷ xs) is = let parts = and_parts (is_end x) (list_all is_end xs) is in All-cons (EndsHere all) x xs (by x parts.0) (ended_here all xs parts.1)
  where
    by : (x : Record) → is_end x ≡ true → EndsHere all x
    by (records.Opened moment run retries limit plan sources) e = tt
    by (records.Resumed moment run retries limit) e = tt
    by (records.Started moment rule attempt on) e = tt
    by (records.Done moment rule attempt outs) e = absurd (true≢false (sym e))
    by (records.Failed moment rule attempt why) e = absurd (true≢false (sym e))
    by (records.Lost moment rule attempt) e = tt
    by (records.Dropped moment file) e = tt
    by (records.Ended moment kind) e = tt

-- an end gives nothing up
pub ends_spare : {S : Type 0} (M : List Move) (after : DeskState S) (stop : Option Stop) (check : Check) → EndsAt after M stop check → SparesAll M after.moves
ends_spare M after stop check ends = record { more = ends.more; are = ends.are; none = ends.spared; here = ended_here (records_of after.moves) (records_of ends.more) ends.ended; quiet = unlinked_quiet ends.more ends.none }

-- ---- a whole run

prefix_is : {A : Type 0} (f xs ys : List A) → f ++ xs ≡ f ++ ys → xs ≡ ys
prefix_is [] xs ys same = same
prefix_is (x ∷ f) xs ys same = prefix_is f xs ys cc

module _ {L : Type 0} (gives : Function) (may_fail : Job → Failure → Type 0) (history : L → List Passed) (count idles : L → ℕ) (closed : L → Bool) (limit : ℕ) where
  abbrev Came : Type 0
  Came = List (Option LinkNo × L)

  -- the offers that came over links are those of their accounts
  offers_of : (links : Came) (n : ℕ) → CameAll history links n → OffersCame (accounts_of history count idles closed links) n
  offers_of [] n none = none
  offers_of (x ∷ links) n all = (all.2.messages, all.1, all.2.begins, offers_of links all.1 all.3, all.4 ∙ ap (λ (k : ℕ). k + all.1) all.2.many)

  due_to : (before got links : Came) (link : LinkNo) (number : AttemptNo) (full : Type 0) → got ≡ before ++ links → (full → (n : ℕ) × (1000000 ≤ n) × OffersCame (accounts_of history count idles closed links) n)
      → IsDueBack (IsIllLink gives may_fail history count idles closed limit) history before got full link number → IsDueTo gives may_fail history count idles closed limit links link number
  due_to before got links link number full are many due = record {
    way = due.way;
    earlier = due.back.0;
    later = due.back.1;
    among = prefix_is before links (due.back.0 ++ ((Some link, due.way) ∷ due.back.1)) (sym are ∙ due.back.2);
    cause = ⊎_elim (λ ill. inl (ill (accounts_of history count idles closed links)))
        (λ rest. ⊎_elim (λ gave. inr gave) (λ is. let all = many is in inl (too_many_offers all.0 all.1 all.2)) rest)
        due.cause;
  }

  loss_by : (before got links : Came) (full : Type 0) → got ≡ before ++ links → (full → (n : ℕ) × (1000000 ≤ n) × OffersCame (accounts_of history count idles closed links) n) → (all : List Record) (x : Record)
      → IsDueLoss (IsIllLink gives may_fail history count idles closed limit) history before got [] full all x → IsDueLossBy gives may_fail history count idles closed limit links all x
  loss_by before got links full are many all (records.Opened moment run retries bound plan sources) is = tt
  loss_by before got links full are many all (records.Resumed moment run retries bound) is = tt
  loss_by before got links full are many all (records.Started moment rule attempt on) is = tt
  loss_by before got links full are many all (records.Done moment rule attempt outs) is = tt
  loss_by before got links full are many all (records.Failed moment rule attempt why) is = tt
  loss_by before got links full are many all (records.Lost moment rule attempt) is =
      (is.0, is.1, ⊎_elim (λ at. absurd at) (λ back. due_to before got links is.0 attempt full are many back) is.2)
  loss_by before got links full are many all (records.Dropped moment file) is = tt
  loss_by before got links full are many all (records.Ended moment kind) is = tt

  -- what is due once no seat is left
  all_due : (before got : Came) (M all : List Move) → joins_and_changes M ≡ 0 → IsCounted history (HeardAll history []) before got M all → LosesDuly (IsIllLink gives may_fail history count idles closed limit) history before got [] M all
      → AreDueLosses gives may_fail history count idles closed limit before got (records_of M) (records_of all)
  all_due before got M all first counted loses =
      let links = counted.behind.0 in
      let none = counted.are in
      let enough = counted.enough in
      record {
        links = links;
        back = counted.behind.1;
        more = records_of loses.more;
        are = records_after (IsDueLoss (IsIllLink gives may_fail history count idles closed limit) history before got [] (IsFull all)) M all loses;
        each = All-weaker (IsDueLoss (IsIllLink gives may_fail history count idles closed limit) history before got [] (IsFull all) (records_of all)) (IsDueLossBy gives may_fail history count idles closed limit links (records_of all))
            (loss_by before got links (IsFull all) counted.behind.1 (λ full. (counted.came, omega (arith, full, enough, none, first), offers_of links counted.came counted.back)) (records_of all)) (records_of loses.more) loses.each;
      }

  result_by : (before got links : Came) (all : List Record) (rule : RuleNo) (attempt : AttemptNo) (x : Record) → got ≡ before ++ links → (let none : List (SeatState L) = [] in IsDueResult history before got none all rule attempt x)
      → (list_any (starts_on 0 rule.0 attempt.0) all ≡ true) ⊎ IsShownBy history links all rule attempt x
  result_by before got links all rule attempt x are (inl here) = inl here
  result_by before got links all rule attempt x are (inr is) = inr (by is.2)
    where
      by : (let none : List (SeatState L) = [] in IsShownAt history is.0.0 x none) ⊎ IsShownBack history before got is.0 x → IsShownBy history links all rule attempt x
      by (inl at) = absurd at
      by (inr back) = record {
        link = is.0;
        started = is.1;
        way = back.way;
        earlier = back.back.0;
        later = back.back.1;
        among = prefix_is before links (back.back.0 ++ ((Some is.0, back.way) ∷ back.back.1)) (sym are ∙ back.back.2);
        shown = back.shown;
      }

  results_by : (before got links : Came) (full : Type 0) → got ≡ before ++ links → (all : List Record) (x : Record) → IsDueLoss (IsIllLink gives may_fail history count idles closed limit) history before got [] full all x → IsResultBy history links all x
  results_by before got links full are all (records.Opened moment run retries bound plan sources) is = tt
  results_by before got links full are all (records.Resumed moment run retries bound) is = tt
  results_by before got links full are all (records.Started moment rule attempt on) is = tt
  results_by before got links full are all (records.Done moment rule attempt outs) is = result_by before got links all rule attempt (records.Done moment rule attempt outs) are is
  results_by before got links full are all (records.Failed moment rule attempt why) is = result_by before got links all rule attempt (records.Failed moment rule attempt why) are is
  results_by before got links full are all (records.Lost moment rule attempt) is = tt
  results_by before got links full are all (records.Dropped moment file) is = tt
  results_by before got links full are all (records.Ended moment kind) is = tt

  -- nothing was lost by then
  due_first : (M : List Move) (c : CompanyState L) (got : Came) → c.seats ≡ [] → AreDue (IsIllLink gives may_fail history count idles closed limit) history got M M None c got
  due_first M c got none halt fine lost = (
    record {
      behind = ([], sym (append-nil got));
      heard = 0;
      are = subst (λ (xs : List (SeatState L)). HeardAll history xs 0) (sym none) refl;
      came = 0;
      back = refl;
      enough = omega arith;
    },
    same_so (IsDueLoss (IsIllLink gives may_fail history count idles closed limit) history got got c.seats (IsFull M)) M M refl,
  )

  -- Where the results of a whole run came from.
  pub results_whole : {A E : Type 0} (M all : List Move) (c c_mid c_now : CompanyState L) (got got_mid got_now : Came) (r : Result A E) → c.seats ≡ []
      → (let none : Option Halt = None in OnOk r (KeepsDue (IsIllLink gives may_fail history count idles closed limit) history M all none none c c_mid got got_mid))
      → OnOk r ((c_mid.failed ≡ false) × (c_mid.lost ≡ false)) → (let none : Option Halt = None in KeepsDue (IsIllLink gives may_fail history count idles closed limit) history all all none none c_mid c_now got_mid got_now) → c_now.failed ≡ c_mid.failed → c_now.lost ≡ false → c_now.seats ≡ []
      → OnOk r (AreResults history got got_now (records_of M) (records_of all))
  results_whole M all c c_mid c_now got got_mid got_now (Ok x) none due sound last failed kept seats =
      let now = last.goes got M (due.goes got M (due_first M c got none)) refl (failed ∙ sound.0) kept in
      let loses = subst (λ (xs : List (SeatState L)). LosesDuly (IsIllLink gives may_fail history count idles closed limit) history got got_now xs M all) seats now.1 in
      let links = now.0.behind.0 in
      record {
        links = links;
        back = now.0.behind.1;
        more = records_of loses.more;
        are = records_after (IsDueLoss (IsIllLink gives may_fail history count idles closed limit) history got got_now [] (IsFull all)) M all loses;
        each = All-weaker (IsDueLoss (IsIllLink gives may_fail history count idles closed limit) history got got_now [] (IsFull all) (records_of all)) (IsResultBy history links (records_of all))
            (results_by got got_now links (IsFull all) now.0.behind.1 (records_of all)) (records_of loses.more) loses.each;
      }
  results_whole M all c c_mid c_now got got_mid got_now (Err why) none due sound last failed kept seats = tt

  -- A whole run that began with nothing lost.
  pub due_whole : {A E : Type 0} (M all : List Move) (c c_mid c_now : CompanyState L) (got got_mid got_now : Came) (r : Result A E) → joins_and_changes M ≡ 0 → c.seats ≡ []
      → (let none : Option Halt = None in OnOk r (KeepsDue (IsIllLink gives may_fail history count idles closed limit) history M all none none c c_mid got got_mid))
      → OnOk r ((c_mid.failed ≡ false) × (c_mid.lost ≡ false)) → (let none : Option Halt = None in KeepsDue (IsIllLink gives may_fail history count idles closed limit) history all all none none c_mid c_now got_mid got_now) → c_now.failed ≡ c_mid.failed → c_now.lost ≡ false → c_now.seats ≡ []
      → OnOk r (AreDueLosses gives may_fail history count idles closed limit got got_now (records_of M) (records_of all))
  due_whole M all c c_mid c_now got got_mid got_now (Ok x) first none due sound last failed kept seats =
      let now = last.goes got M (due.goes got M (due_first M c got none)) refl (failed ∙ sound.0) kept in
      all_due got got_now M all first
      (subst (λ (xs : List (SeatState L)). IsCounted history (HeardAll history xs) got got_now M all) seats now.0)
      (subst (λ (xs : List (SeatState L)). LosesDuly (IsIllLink gives may_fail history count idles closed limit) history got got_now xs M all) seats now.1)
  due_whole M all c c_mid c_now got got_mid got_now (Err why) first none due sound last failed kept seats = tt

pub waiting_spares : {S : Type 0} (tells kept : Type 0) (files : S → Files) (d after : DeskState S) (r : Result Check Stopped) → HasEnd tells kept files d after (with_check r) → OnOk r (SparesAll d.moves after.moves)
waiting_spares tells kept files d after (Ok check) ends = ends_spare d.moves after d.stop check ends.2
waiting_spares tells kept files d after (Err why) ends = tt
