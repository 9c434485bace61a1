-- What rounds of a run come to, one behind another, to its end.
use Rattle.std.proofs.Common.{◌≡◌, ◌≤◌, ◌<◌, ◌+◌, ◌-◌, ◌∙◌, ⊎_elim, ℕ, Bool, true, false, List, [], ◌++◌, length, Option, Some, None, Result, Ok, Err, refl, sym, ap, subst, arith, true≢false}
use Rattle.std.specs.Prelude.{◌⊎◌, All, IfOk, OnOk, cond, is_some}
use Rattle.std.proofs.lemmas.List.{append-nil, append_assoc}
use Rattle.std.proofs.lemmas.List.Elements.{All-append, All-weaker}
use Rattle.flow_types.specs.declared.plan.Plan.{Plan}
use Rattle.flow_types.specs.declared.job.Job.{Job}
use Rattle.flow_types.specs.declared.job.Failure.{Failure}
use Rattle.flow_types.specs.declared.records.Record.{Record}
use Rattle.flow_types.specs.declared.numbers.LinkNo.{LinkNo}
use Rattle.std.proofs.lemmas.List.Sums.{sum_by-append}
use Rattle.flow_types.specs.Plans.{IsValid}
use Rattle.flow_types.specs.Serial.{Contents, Function}
use Rattle.run_history.specs.declared.answers.Check.{Check}
use Rattle.run_history.specs.declared.answers.Stop.{Stop}
use Rattle.run_history.specs.declared.answers.Stop.TheVariants as stops
use Rattle.run_history.specs.declared.moves.Move.{Move}
use Rattle.run_history.specs.declared.options.Options.{Options}
use Rattle.run_history.specs.Admissions.{Admitting, is_in_vain_by, stop_by}
use Rattle.run_history.specs.Answers.{before_end, end_over}
use Rattle.run_history.specs.Links.{is_live, records_of}
use Rattle.run_history.specs.Storage.{running_rules}
use Rattle.outside.specs.Disk.{IsImage, Outcomes}
use Rattle.outside.specs.Files.{Files}
use Rattle.desk.specs.declared.answers.Trouble.{Trouble}
use Rattle.desk.specs.State.{DeskState}
use Rattle.local_run.specs.declared.ended.Stopped.{Stopped}
use Rattle.local_run.specs.declared.ended.Stopped.TheVariants as stopped
use Rattle.local_run.specs.declared.halt.Halt.{Halt}
use Rattle.local_run.specs.declared.halt.Halt.TheVariants as halts
use Rattle.local_run.specs.Collecting.{IsUntouched}
use Rattle.local_run.specs.Course.{GoesOn, IsHalt}
use Rattle.local_run.specs.Losses.{LosesAway}
use Rattle.local_run.proofs.Alone.{alone_same}
use Rattle.local_run.proofs.Elsewhere.{live_links}
use Rattle.local_run.proofs.Going.{away_later, goes_links, goes_on, goes_records, goes_then, stays}
use Rattle.wq_run.specs.declared.rounds.Turn.{Turn}
use Rattle.wq_run.specs.declared.rounds.Turn.TheVariants as turns
use Rattle.wq_run.specs.Comes.{ComesOn}
use Rattle.local_run.specs.Ends.{IsApart, IsWholeRun, RunDamage}
use Rattle.wq_run.specs.Ends.{AreBack, EndsHere, EndsWaiting, IsSparedRunners, IsVain, LosesOnLinks, StopsBy}
use Rattle.local_run.specs.Links.{link_moves}
use Rattle.wq_run.proofs.Shares.{seats_live}
use Rattle.wq_run.specs.Seats.{AreSeats, CompanyState, Meets, SeatState, back_under, inside_of, links_in, one_under, seats_under}
use Rattle.peers.specs.States.{PeerState}
use Rattle.wq_run.specs.Works.{EndedBy, EndsNow, HaltedBy, HasEnd, IsOn, Rounds, TurnAdds, TurnsTo, Works, with_check}
use Rattle.wq_run.proofs.Services.{halt_by_count}
use Rattle.wq_run.proofs.Added.{Quietly, adds_none, adds_then, goes_quietly, run_halted, run_then, turn_then, with_adds}

-- ---- why it stopped

halt_later : (t : Trouble) (count mid now : ℕ) (why : Halt) → count ≤ mid → IsHalt t mid now why → IsHalt t count now why
halt_later t count mid now (halts.Damaged file logged found) less h = h
halt_later t count mid now halts.Runner less h = (h.0, (let rose = h.1 in omega (arith, rose, less)))
halt_later t count mid now halts.Site less h = h
halt_later t count mid now halts.Memory less h = h

vain_more : (A : Admitting) (P : Plan) (O : Options) (M : List Move) (limit rise more : ℕ) (stop : Option Stop) → rise ≤ more → IsVain A P O M limit rise stop → IsVain A P O M limit more stop
vain_more A P O M limit rise more None less h = tt
vain_more A P O M limit rise more (Some (stops.Waited idles)) less h = (h.0, (let few = h.1 in omega (arith, few, less)), h.2)
vain_more A P O M limit rise more (Some stops.Halt) less h = h

abbrev waiting_more : (A : Admitting) (P : Plan) (O : Options) (limit rise more : ℕ) (all : List Record) (check : Check) → rise ≤ more → EndsWaiting A P O limit rise all check → EndsWaiting A P O limit more all check
waiting_more A P O limit rise more all check less e = record {
  moves = e.moves;
  logged = e.logged;
  stop = e.stop;
  vain = vain_more A P O e.moves limit rise more e.stop less e.vain;
  answer = e.answer;
  over = e.over;
}

here_more : (A : Admitting) (P : Plan) (O : Options) (limit rise more : ℕ) (all : List Move) (check : Check) → rise ≤ more → EndsHere A P O limit rise all check → EndsHere A P O limit more all check
here_more A P O limit rise more all check less e = record {
  ends = waiting_more A P O limit rise more (records_of all) check less e.ends;
  more = e.more;
  are = e.are;
  none = e.none;
  unended = e.unended;
  ended = e.ended;
  same = e.same;
}

-- ---- what a stop for waiting sets

pub stop_waited : (A : Admitting) (P : Plan) (O : Options) (M : List Move) (stop : Option Stop) (n : ℕ) → stop ≡ None → is_some (stop_by A P O M stop (stops.Waited n)) ≡ true
    → (stop_by A P O M stop (stops.Waited n) ≡ Some (stops.Waited n)) × (is_in_vain_by A P O M ≡ true)
stop_waited A P O M stop n unset set =
    subst (λ (k : Option Stop). (stop_by A P O M k (stops.Waited n) ≡ Some (stops.Waited n)) × (is_in_vain_by A P O M ≡ true)) (sym unset)
    (by_vain (is_in_vain_by A P O M) refl (ap (λ (k : Option Stop). is_some (stop_by A P O M k (stops.Waited n))) (sym unset) ∙ set))
  where
    by_vain : (b : Bool) → is_in_vain_by A P O M ≡ b → is_some (stop_by A P O M None (stops.Waited n)) ≡ true → (stop_by A P O M None (stops.Waited n) ≡ Some (stops.Waited n)) × (is_in_vain_by A P O M ≡ true)
    by_vain true is set = (ap (λ (b : Bool). let waits : Option Stop = Some (stops.Waited n) in cond b waits None) is, is)
    by_vain false is set = absurd (true≢false (sym set ∙ ap (λ (b : Bool). let waits : Option Stop = Some (stops.Waited n) in is_some (cond b waits None)) is))

none_set : (k : Option Stop) → is_some k ≡ false → k ≡ None
none_set None is = refl
none_set (Some stop) is = absurd (true≢false is)

-- a desk at which no stop was set is as it was
pub unstopped : {S : Type 0} (d : DeskState S) (k : Option Stop) → d.stop ≡ None → is_some k ≡ false → record d { stop = k } ≡ d
unstopped d k unset is = ap (λ (s : Option Stop). record d { stop = s }) (none_set k is ∙ sym unset)

module _ {S : Type 0} (A : Admitting) (trust : Type 0) (gives : Function) (may_fail : Job → Failure → Type 0) (sources : Contents) (tells kept : Type 0) (files : S → Files) (may_leave : S → Outcomes) (moment : S → ℕ)
    (images_since : S → ℕ → Files → Type 0) where
  abbrev pub GoesBy : List Move → DeskState S → DeskState S → Type 0
  GoesBy links d after = GoesOn trust gives may_fail sources tells files may_leave moment images_since links d after

  abbrev pub RoundBy : Type 0 → ℕ → DeskState S → DeskState S → ℕ → ℕ → ℕ → ℕ → ℕ → ℕ → ℕ → ℕ → Result Turn Stopped → Type 0
  RoundBy sure limit d after count count_now failures failures_now hall hall_now idles idles_now result =
      Rounds A trust gives may_fail sources tells kept sure files may_leave moment images_since limit d after count count_now failures failures_now hall hall_now idles idles_now result

  abbrev pub WorkBy : Type 0 → ℕ → DeskState S → DeskState S → ℕ → ℕ → ℕ → ℕ → ℕ → ℕ → ℕ → ℕ → Result Check Stopped → Type 0
  WorkBy sure limit d after count count_now failures failures_now hall hall_now idles idles_now result =
      Works A trust gives may_fail sources tells kept sure files may_leave moment images_since limit d after count count_now failures failures_now hall hall_now idles idles_now result

  abbrev pub OnBy : {B : Type 0} → Type 0 → DeskState S → DeskState S → ℕ → ℕ → ℕ → ℕ → Result B Halt → Type 0
  OnBy sure d after count count_now failures failures_now result = ComesOn trust gives may_fail sources tells kept sure files may_leave moment images_since d after count count_now failures failures_now result

  abbrev pub EndBy : DeskState S → DeskState S → Result (Option Check) Stopped → Type 0
  EndBy d after result = EndsNow trust gives may_fail sources tells kept files may_leave moment images_since d after result

  halted_later : (sure more : Type 0) (after : DeskState S) (count mid now : ℕ) (why : Halt) → (more → sure) → count ≤ mid → HaltedBy tells kept sure files after mid now why → HaltedBy tells kept more files after count now why
  halted_later sure more after count mid now why so less h = record {
    is = halt_later after.trouble count mid now why less h.is;
    damage = h.damage;
    whole = h.whole;
    never = λ is. h.never (so is);
  }

  -- an end that stopped, over runners that rose
  halted_over : (sure : Type 0) (after : DeskState S) (count now : ℕ) (why : Halt) → count ≤ now → HaltedBy tells kept (Unit {0}) files after 0 0 why → HaltedBy tells kept sure files after count now why
  halted_over sure after count now why less h = record {
    is = halt_by_count after.trouble 0 count now why (let more : 0 + count ≤ now = omega (arith, less) in more) h.is;
    damage = h.damage;
    whole = h.whole;
    never = λ is. h.never tt;
  }

  ended_more : (sure more : Type 0) (limit : ℕ) (after : DeskState S) (count count_mid count_now hall hall_mid hall_now idles idles_mid idles_now : ℕ) (result : Result Check Stopped) → (more → sure) → count ≤ count_mid → hall ≤ hall_mid → idles ≤ idles_mid
      → EndedBy A tells kept sure files limit after count_mid count_now hall_mid hall_now idles_mid idles_now result → EndedBy A tells kept more files limit after count count_now hall hall_now idles idles_now result
  ended_more sure more limit after count count_mid count_now hall hall_mid hall_now idles idles_mid idles_now (Ok check) so c m i h =
      (h.0, here_more A after.plan after.options limit (idles_now - idles_mid) (idles_now - idles) after.moves check (omega (arith, i)) h.1)
  ended_more sure more limit after count count_mid count_now hall hall_mid hall_now idles idles_mid idles_now (Err (stopped.Refused why)) so c m i h = h
  ended_more sure more limit after count count_mid count_now hall hall_mid hall_now idles idles_mid idles_now (Err (stopped.Halted why)) so c m i h = halted_later sure more after count count_mid count_now why so c h
  ended_more sure more limit after count count_mid count_now hall hall_mid hall_now idles idles_mid idles_now (Err stopped.Hall) so c m i h = (h.0, (let rose = h.1 in omega (arith, rose, m)))
  ended_more sure more limit after count count_mid count_now hall hall_mid hall_now idles idles_mid idles_now (Err (stopped.Unheard fault)) so c m i h = h
  ended_more sure more limit after count count_mid count_now hall hall_mid hall_now idles idles_mid idles_now (Err (stopped.Unopened fault)) so c m i h = h

  turns_more : (sure more : Type 0) (limit : ℕ) (after : DeskState S) (count count_mid count_now hall hall_mid hall_now idles idles_mid idles_now : ℕ) (result : Result Turn Stopped) → (more → sure) → count ≤ count_mid → hall ≤ hall_mid → idles ≤ idles_mid
      → TurnsTo A tells kept sure files limit after count_mid count_now hall_mid hall_now idles_mid idles_now result → TurnsTo A tells kept more files limit after count count_now hall hall_now idles idles_now result
  turns_more sure more limit after count count_mid count_now hall hall_mid hall_now idles idles_mid idles_now (Ok turns.Again) so c m i h = h
  turns_more sure more limit after count count_mid count_now hall hall_mid hall_now idles idles_mid idles_now (Ok (turns.Vain n)) so c m i h = (h.0, h.1, (let few = h.2 in omega (arith, few, i)))
  turns_more sure more limit after count count_mid count_now hall hall_mid hall_now idles idles_mid idles_now (Ok (turns.Over check)) so c m i h =
      (h.0, ended_more sure more limit after count count_mid count_now hall hall_mid hall_now idles idles_mid idles_now (Ok check) so c m i h.1)
  turns_more sure more limit after count count_mid count_now hall hall_mid hall_now idles idles_mid idles_now (Err why) so c m i h =
      ended_more sure more limit after count count_mid count_now hall hall_mid hall_now idles idles_mid idles_now (Err why) so c m i h

  -- ---- a round

  pub is_on : (sure : Type 0) (d after : DeskState S) (count count_now failures failures_now : ℕ) → (let done : Result (Unit {0}) Halt = Ok tt in OnBy sure d after count count_now failures failures_now done) → IsOn d → IsOn after
  is_on sure d after count count_now failures failures_now came on = record { fine = came.closed.0; unset = came.closed.1 ∙ on.unset; unended = came.unended on.unended }

  -- what was served ends nothing
  quietly_on : (sure : Type 0) (d after : DeskState S) (count count_now failures failures_now : ℕ) (came : Result (Unit {0}) Halt) → OnBy sure d after count count_now failures failures_now came → IsOn d → Quietly (records_of d.moves) (records_of after.moves)
  quietly_on sure d after count count_now failures failures_now came on begun =
      goes_quietly trust gives may_fail sources tells files may_leave moment images_since on.links d after on.goes (on.unended begun.unended)

  -- what was served, told as a round's
  pub round_by : (sure : Type 0) (limit : ℕ) (d after : DeskState S) (count count_now failures failures_now hall hall_now idles idles_now : ℕ) (came : Result (Unit {0}) Halt) (result : Result Turn Stopped)
      → OnBy sure d after count count_now failures failures_now came → IsOn d → hall ≤ hall_now → idles ≤ idles_now → TurnsTo A tells kept sure files limit after count count_now hall hall_now idles idles_now result
      → (Quietly (records_of d.moves) (records_of after.moves) → TurnAdds (records_of d.moves) (records_of after.moves) result)
      → RoundBy sure limit d after count count_now failures failures_now hall hall_now idles idles_now result
  round_by sure limit d after count count_now failures failures_now hall hall_now idles idles_now came result on begun met looks turn adds = record {
    links = on.links;
    goes = on.goes;
    idle = on.idle;
    later = on.later;
    risen = on.risen;
    met = met;
    looks = looks;
    turn = turn;
    adds = adds (quietly_on sure d after count count_now failures failures_now came on begun);
  }

  pub round_halted : (sure : Type 0) (limit : ℕ) (d after : DeskState S) (count count_now failures failures_now hall hall_now idles idles_now : ℕ) (why : Halt)
      → (let stop : Result (Unit {0}) Halt = Err why in OnBy sure d after count count_now failures failures_now stop) → IsOn d → hall ≤ hall_now → idles ≤ idles_now
      → RoundBy sure limit d after count count_now failures failures_now hall hall_now idles idles_now (Err (stopped.Halted why))
  round_halted sure limit d after count count_now failures failures_now hall hall_now idles idles_now why on begun met looks =
      round_by sure limit d after count count_now failures failures_now hall hall_now idles idles_now (Err why) (Err (stopped.Halted why)) on begun met looks
      (record { is = on.halts; damage = on.damage; whole = on.whole; never = on.never }) (run_halted (records_of d.moves) (records_of after.moves) why)

  -- the run was ended, or stopped in that
  pub round_over : (sure : Type 0) (limit : ℕ) (d mid after : DeskState S) (count count_now failures failures_now hall hall_now idles idles_now : ℕ) (check : Check)
      → (let done : Result (Unit {0}) Halt = Ok tt in OnBy sure d mid count count_now failures failures_now done) → IsOn d → hall ≤ hall_now → idles ≤ idles_now → EndBy mid after (Ok (Some check))
      → RoundBy sure limit d after count count_now failures failures_now hall hall_now idles idles_now (Ok (turns.Over check))
  round_over sure limit d mid after count count_now failures failures_now hall hall_now idles idles_now check came on met looks ends =
      let unset = came.closed.1 ∙ on.unset in
      record {
        links = came.links;
        goes = goes_on trust gives may_fail sources tells files may_leave moment images_since came.links d mid after came.goes ends.goes;
        idle = ends.idle;
        later = came.later;
        risen = came.risen;
        met = met;
        looks = looks;
        turn = (
          ends.ends.1 ∙ unset,
          (
            ends.ends.0,
            record {
              ends = record {
                moves = mid.moves;
                logged = ends.ends.2.logged;
                stop = None;
                vain = tt;
                answer = ends.ends.2.answer ∙ ap (λ (k : Option Stop). end_over after.plan after.options (before_end (records_of after.moves)) k) unset;
                over = ends.ends.2.over;
              };
              more = ends.ends.2.more;
              are = ends.ends.2.are;
              none = ends.ends.2.none;
              unended = ends.ends.2.unended;
              ended = ends.ends.2.ended;
              same = ends.ends.2.same;
            },
          ),
        );
        adds = run_then (records_of d.moves) (records_of mid.moves) (records_of after.moves) (Ok check) (quietly_on sure d mid count count_now failures failures_now (Ok tt) came on) ends.adds;
      }

  end_turns : (sure : Type 0) (limit : ℕ) (d after : DeskState S) (count count_now hall hall_now idles idles_now : ℕ) (why : Stopped) → count ≤ count_now → HasEnd tells kept files d after (Err why)
      → EndedBy A tells kept sure files limit after count count_now hall hall_now idles idles_now (Err why)
  end_turns sure limit d after count count_now hall hall_now idles idles_now (stopped.Refused why) less h = h
  end_turns sure limit d after count count_now hall hall_now idles idles_now (stopped.Halted why) less h = halted_over sure after count count_now why less h
  end_turns sure limit d after count count_now hall hall_now idles idles_now stopped.Hall less h = absurd h
  end_turns sure limit d after count count_now hall hall_now idles idles_now (stopped.Unheard fault) less h = absurd h
  end_turns sure limit d after count count_now hall hall_now idles idles_now (stopped.Unopened fault) less h = absurd h

  pub round_unended : (sure : Type 0) (limit : ℕ) (d mid after : DeskState S) (count count_now failures failures_now hall hall_now idles idles_now : ℕ) (came : Result (Unit {0}) Halt) (why : Stopped)
      → OnBy sure d mid count count_now failures failures_now came → IsOn d → hall ≤ hall_now → idles ≤ idles_now → EndBy mid after (Err why)
      → RoundBy sure limit d after count count_now failures failures_now hall hall_now idles idles_now (Err why)
  round_unended sure limit d mid after count count_now failures failures_now hall hall_now idles idles_now came why on begun met looks ends = record {
    links = on.links;
    goes = goes_on trust gives may_fail sources tells files may_leave moment images_since on.links d mid after on.goes ends.goes;
    idle = ends.idle;
    later = on.later;
    risen = on.risen;
    met = met;
    looks = looks;
    turn = end_turns sure limit mid after count count_now hall hall_now idles idles_now why on.later ends.ends;
    adds = run_then (records_of d.moves) (records_of mid.moves) (records_of after.moves) (Err why) (quietly_on sure d mid count count_now failures failures_now came on begun) ends.adds;
  }

  -- a wait behind what was served
  pub round_waits : (sure : Type 0) (limit : ℕ) (d mid e after : DeskState S) (count count_now failures failures_now hall hall_mid hall_now idles idles_mid idles_now : ℕ) (came : Result (Unit {0}) Halt) (result : Result Turn Stopped)
      → OnBy sure d mid count count_now failures failures_now came → IsOn d → e ≡ mid → hall ≤ hall_mid → idles ≤ idles_mid
      → RoundBy (Unit {0}) limit e after count_now count_now failures_now failures_now hall_mid hall_now idles_mid idles_now result
      → RoundBy sure limit d after count count_now failures failures_now hall hall_now idles idles_now result
  round_waits sure limit d mid e after count count_now failures failures_now hall hall_mid hall_now idles idles_mid idles_now came result on begun same met looks r =
      record {
        links = on.links ++ r.links;
        goes = goes_then trust gives may_fail sources tells files may_leave moment images_since on.links r.links d mid after on.goes (subst (λ (x : DeskState S). GoesBy r.links x after) same r.goes);
        idle = r.idle;
        later = on.later;
        risen = on.risen;
        met = (let more = r.met in omega (arith, met, more));
        looks = (let more = r.looks in omega (arith, looks, more));
        turn = turns_more (Unit {0}) sure limit after count count_now count_now hall hall_mid hall_now idles idles_mid idles_now result (λ is. tt) on.later met looks r.turn;
        adds = turn_then (records_of d.moves) (records_of mid.moves) (records_of after.moves) result (quietly_on sure d mid count count_now failures failures_now came on begun)
            (subst (λ (x : DeskState S). TurnAdds (records_of x.moves) (records_of after.moves) result) same r.adds);
      }

  -- ---- all rounds

  -- no round ended the run
  pub record Stands (d now : DeskState S) (count count_now failures failures_now : ℕ) : Type 0 where
    pub links : List Move
    pub goes : GoesBy links d now
    pub on : IsOn now
    pub adds : Quietly (records_of d.moves) (records_of now.moves)
    pub idle : length (running_rules now.plan (records_of now.moves)) ≤ 0
    pub valid : IsValid now.plan
    pub later : count ≤ count_now
    pub risen : failures ≤ failures_now

  goes_here : (d : DeskState S) (k : Option Stop) → d.stop ≡ None → (tells → (image : Files) → images_since d.site (moment d.site) image → IsImage (may_leave d.site) image) → GoesBy [] d (record d { stop = k })
  goes_here d k unset only_now =
      stays trust gives may_fail sources tells files may_leave moment images_since d k d.trouble d.site (λ none. unset) (λ fine. fine)
      (λ told. alone_same files may_leave moment images_since (IsUntouched d.plan d.log (records_of d.moves)) d.site (only_now told))

  pub stands_begins : (d : DeskState S) (count failures : ℕ) → IsOn d → length (running_rules d.plan (records_of d.moves)) ≤ 0 → IsValid d.plan
      → (tells → (image : Files) → images_since d.site (moment d.site) image → IsImage (may_leave d.site) image) → Stands d d count count failures failures
  stands_begins d count failures on idle valid only_now = record {
    links = [];
    goes = goes_here d d.stop on.unset only_now;
    on = on;
    adds = adds_none (records_of d.moves);
    idle = idle;
    valid = valid;
    later = omega arith;
    risen = omega arith;
  }

  pub stands_then : (sure : Type 0) (limit : ℕ) (d mid after : DeskState S) (count count_mid count_now failures failures_mid failures_now hall hall_now idles idles_now : ℕ) (result : Result Turn Stopped) → Stands d mid count count_mid failures failures_mid
      → RoundBy sure limit mid after count_mid count_now failures_mid failures_now hall hall_now idles idles_now result → IsOn after → Stands d after count count_now failures failures_now
  stands_then sure limit d mid after count count_mid count_now failures failures_mid failures_now hall hall_now idles idles_now result s r on = record {
    links = s.links ++ r.links;
    goes = goes_then trust gives may_fail sources tells files may_leave moment images_since s.links r.links d mid after s.goes r.goes;
    on = on;
    adds = adds_then (records_of d.moves) (records_of mid.moves) (records_of after.moves) None s.adds (goes_quietly trust gives may_fail sources tells files may_leave moment images_since r.links mid after r.goes on.unended);
    idle = r.idle on.fine;
    valid = subst IsValid (sym r.goes.plan) s.valid;
    later = (let a = s.later in let b = r.later in omega (arith, a, b));
    risen = (let a = s.risen in let b = r.risen in omega (arith, a, b));
  }

  lost_goes : (links : List Move) (d after : DeskState S) → GoesBy links d after → after.stop ≡ None → LosesOnLinks (records_of d.moves) (records_of after.moves)
  lost_goes links d after goes unset = record {
    more = goes.more;
    are = goes_records trust gives may_fail sources tells files may_leave moment images_since links d after goes;
    each = goes.lost unset;
  }

  lost_then : (H mid all : List Record) → LosesOnLinks H mid → LosesOnLinks mid all → LosesOnLinks H all
  lost_then H mid all one two = record {
    more = one.more ++ two.more;
    are = two.are ∙ ap (λ (l : List Record). l ++ two.more) one.are ∙ append_assoc H one.more two.more;
    each = All-append (LosesAway all) one.more two.more
        (subst (λ (G : List Record). All (LosesAway G) one.more) (sym two.are) (All-weaker (LosesAway mid) (LosesAway (mid ++ two.more)) (away_later mid two.more) one.more one.each)) two.each;
  }

  -- the last round ended it, or it stopped there
  pub works_over : (sure more : Type 0) (limit : ℕ) (d mid after : DeskState S) (count count_mid count_now failures failures_mid failures_now hall hall_now idles idles_mid idles_now : ℕ) (check : Check) → (more → sure)
      → Stands d mid count count_mid failures failures_mid → idles ≤ idles_mid
      → RoundBy sure limit mid after count_mid count_now failures_mid failures_now hall hall_now idles_mid idles_now (Ok (turns.Over check))
      → WorkBy more limit d after count count_now failures failures_now hall hall_now idles idles_now (Ok check)
  works_over sure more limit d mid after count count_mid count_now failures failures_mid failures_now hall hall_now idles idles_mid idles_now check so s looks r =
      let goes = goes_then trust gives may_fail sources tells files may_leave moment images_since s.links r.links d mid after s.goes r.goes in
      record {
        links = s.links ++ r.links;
        goes = goes;
        idle = r.idle;
        later = (let a = s.later in let b = r.later in omega (arith, a, b));
        risen = (let a = s.risen in let b = r.risen in omega (arith, a, b));
        met = r.met;
        looks = (let b = r.looks in omega (arith, looks, b));
        ended = ended_more sure more limit after count count_mid count_now hall hall hall_now idles idles_mid idles_now (Ok check) so s.later (omega arith) looks r.turn.1;
        lost = lost_goes (s.links ++ r.links) d after goes r.turn.0;
        adds = run_then (records_of d.moves) (records_of mid.moves) (records_of after.moves) (Ok check) s.adds r.adds;
      }

  pub works_stopped : (sure more : Type 0) (limit : ℕ) (d mid after : DeskState S) (count count_mid count_now failures failures_mid failures_now hall hall_now idles idles_mid idles_now : ℕ) (why : Stopped) → (more → sure)
      → Stands d mid count count_mid failures failures_mid → idles ≤ idles_mid
      → RoundBy sure limit mid after count_mid count_now failures_mid failures_now hall hall_now idles_mid idles_now (Err why)
      → WorkBy more limit d after count count_now failures failures_now hall hall_now idles idles_now (Err why)
  works_stopped sure more limit d mid after count count_mid count_now failures failures_mid failures_now hall hall_now idles idles_mid idles_now why so s looks r = record {
    links = s.links ++ r.links;
    goes = goes_then trust gives may_fail sources tells files may_leave moment images_since s.links r.links d mid after s.goes r.goes;
    idle = r.idle;
    later = (let a = s.later in let b = r.later in omega (arith, a, b));
    risen = (let a = s.risen in let b = r.risen in omega (arith, a, b));
    met = r.met;
    looks = (let b = r.looks in omega (arith, looks, b));
    ended = ended_more sure more limit after count count_mid count_now hall hall hall_now idles idles_mid idles_now (Err why) so s.later (omega arith) looks r.turn;
    lost = tt;
    adds = run_then (records_of d.moves) (records_of mid.moves) (records_of after.moves) (Err why) s.adds r.adds;
  }

  -- waiting was in vain
  waits_by : (sure : Type 0) (limit n : ℕ) (d mid after : DeskState S) (count count_now hall hall_now idles idles_now : ℕ) (result : Result Check Stopped) → GoesBy [] (record mid { stop = Some (stops.Waited n) }) after
      → HasEnd tells kept files (record mid { stop = Some (stops.Waited n) }) after (with_check result) → is_in_vain_by A mid.plan mid.options mid.moves ≡ true → limit ≤ n → n ≤ idles_now - idles → count ≤ count_now
      → EndedBy A tells kept sure files limit after count count_now hall hall_now idles idles_now result
  waits_by sure limit n d mid after count count_now hall hall_now idles idles_now (Ok check) goes h vain most few less = (
    h.0,
    record {
      ends = record {
        moves = mid.moves;
        logged = h.2.logged;
        stop = Some (stops.Waited n);
        vain = (most, few, subst (λ (P : Plan). is_in_vain_by A P after.options mid.moves ≡ true) (sym goes.plan) (subst (λ (O : Options). is_in_vain_by A mid.plan O mid.moves ≡ true) (sym goes.options) vain));
        answer = h.2.answer;
        over = h.2.over;
      };
      more = h.2.more;
      are = h.2.are;
      none = h.2.none;
      unended = h.2.unended;
      ended = h.2.ended;
      same = h.2.same;
    },
  )
  waits_by sure limit n d mid after count count_now hall hall_now idles idles_now (Err why) goes h vain most few less =
      end_turns sure limit (record mid { stop = Some (stops.Waited n) }) after count count_now hall hall_now idles idles_now why less h

  waits_lost : (n : ℕ) (links : List Move) (d mid after : DeskState S) (result : Result Check Stopped) → GoesBy links d mid → mid.stop ≡ None → HasEnd tells kept files (record mid { stop = Some (stops.Waited n) }) after (with_check result)
      → OnOk result (LosesOnLinks (records_of d.moves) (records_of after.moves))
  waits_lost n links d mid after (Ok check) goes unset h = lost_then (records_of d.moves) (records_of mid.moves) (records_of after.moves) (lost_goes links d mid goes unset) h.2.lost
  waits_lost n links d mid after (Err why) goes unset h = tt

  pub works_vain : (sure : Type 0) (limit n : ℕ) (d mid set after : DeskState S) (count count_now failures failures_now hall hall_now idles idles_mid idles_now : ℕ) (result : Result Check Stopped) → Stands d mid count count_now failures failures_now
      → hall ≤ hall_now → idles ≤ idles_mid → idles_mid ≤ idles_now → limit ≤ n → n ≤ idles_now - idles_mid → (tells → (image : Files) → images_since mid.site (moment mid.site) image → IsImage (may_leave mid.site) image)
      → is_in_vain_by A mid.plan mid.options mid.moves ≡ true → set ≡ record mid { stop = Some (stops.Waited n) } → EndBy set after (with_check result)
      → WorkBy sure limit d after count count_now failures failures_now hall hall_now idles idles_now result
  works_vain sure limit n d mid set after count count_now failures failures_now hall hall_now idles idles_mid idles_now result s met looks later most few only_now vain is ends =
      let h : EndBy (record mid { stop = Some (stops.Waited n) }) after (with_check result) = subst (λ (x : DeskState S). EndBy x after (with_check result)) is ends in
      record {
        links = s.links;
        goes = goes_on trust gives may_fail sources tells files may_leave moment images_since s.links d (record mid { stop = Some (stops.Waited n) }) after
            (goes_on trust gives may_fail sources tells files may_leave moment images_since s.links d mid (record mid { stop = Some (stops.Waited n) }) s.goes (goes_here mid (Some (stops.Waited n)) s.on.unset only_now)) h.goes;
        idle = h.idle;
        later = s.later;
        risen = s.risen;
        met = met;
        looks = omega (arith, looks, later);
        ended = waits_by sure limit n d mid after count count_now hall hall_now idles idles_now result h.goes h.ends vain most (omega (arith, few, looks)) s.later;
        lost = waits_lost n s.links d mid after result s.goes s.on.unset h.ends;
        adds = run_then (records_of d.moves) (records_of mid.moves) (records_of after.moves) result s.adds (with_adds (records_of mid.moves) (records_of after.moves) result h.adds);
      }

-- the place where peers come failed since
pub hall_rose : (n count count_now : ℕ) (failed failed_now : Bool) → n ≤ count → (failed ≡ true → n < count) → (failed_now ≡ true → (failed ≡ true) ⊎ (count < count_now)) → count ≤ count_now → failed_now ≡ true → n < count_now
hall_rose n count count_now failed failed_now less before fails later is =
    ⊎_elim (λ was. let rose = before was in omega (arith, rose, later)) (λ rose. omega (arith, less, rose)) (fails is)

-- ---- a whole run

module _ {S : Type 0} (A : Admitting) (tells kept sure : Type 0) (files : S → Files) (limit : ℕ) (now : DeskState S) (count count_now hall hall_now idles idles_now : ℕ) where
  abbrev pub EndBySure : Result Check Stopped → Type 0
  EndBySure result = EndedBy A tells kept sure files limit now count count_now hall hall_now idles idles_now result

  pub stops_by : (before last : ℕ) (result : Result Check Stopped) → before ≤ hall → hall_now ≤ last → EndBySure result → StopsBy now.trouble count count_now before last result
  stops_by before last (Ok check) less more h = h.0
  stops_by before last (Err (stopped.Refused why)) less more h = h
  stops_by before last (Err (stopped.Halted halt)) less more h = h.is
  stops_by before last (Err stopped.Hall) less more h = (h.0, (let rose = h.1 in omega (arith, rose, less, more)))
  stops_by before last (Err (stopped.Unheard fault)) less more h = h
  stops_by before last (Err (stopped.Unopened fault)) less more h = h

  pub damage_by : (result : Result Check Stopped) → EndBySure result → tells → IsApart now.plan now.log → RunDamage now.plan (records_of now.moves) (files now.site) result
  damage_by (Ok check) h told apart = tt
  damage_by (Err (stopped.Refused why)) h told apart = tt
  damage_by (Err (stopped.Halted (halts.Damaged file logged found))) h told apart = h.damage told apart
  damage_by (Err (stopped.Halted halts.Runner)) h told apart = tt
  damage_by (Err (stopped.Halted halts.Site)) h told apart = tt
  damage_by (Err (stopped.Halted halts.Memory)) h told apart = tt
  damage_by (Err stopped.Hall) h told apart = tt
  damage_by (Err (stopped.Unheard fault)) h told apart = tt
  damage_by (Err (stopped.Unopened fault)) h told apart = tt

  pub whole_by : (result : Result Check Stopped) → EndBySure result → tells → kept → IsWholeRun result
  whole_by (Ok check) h told keeps = tt
  whole_by (Err (stopped.Refused why)) h told keeps = tt
  whole_by (Err (stopped.Halted (halts.Damaged file logged found))) h told keeps = h.whole told keeps
  whole_by (Err (stopped.Halted halts.Runner)) h told keeps = tt
  whole_by (Err (stopped.Halted halts.Site)) h told keeps = tt
  whole_by (Err (stopped.Halted halts.Memory)) h told keeps = tt
  whole_by (Err stopped.Hall) h told keeps = tt
  whole_by (Err (stopped.Unheard fault)) h told keeps = tt
  whole_by (Err (stopped.Unopened fault)) h told keeps = tt

  pub spared_by : (result : Result Check Stopped) → EndBySure result → sure → IsSparedRunners result
  spared_by (Ok check) h is = tt
  spared_by (Err (stopped.Refused why)) h is = tt
  spared_by (Err (stopped.Halted (halts.Damaged file logged found))) h is = tt
  spared_by (Err (stopped.Halted halts.Runner)) h is = h.never is
  spared_by (Err (stopped.Halted halts.Site)) h is = tt
  spared_by (Err (stopped.Halted halts.Memory)) h is = tt
  spared_by (Err stopped.Hall) h is = tt
  spared_by (Err (stopped.Unheard fault)) h is = tt
  spared_by (Err (stopped.Unopened fault)) h is = tt

  pub ends_by_waiting : (first last : ℕ) (result : Result Check Stopped) → first ≤ idles → idles_now ≤ last → EndBySure result → IfOk result (EndsHere A now.plan now.options limit (last - first) now.moves)
  ends_by_waiting first last (Ok check) before later h = here_more A now.plan now.options limit (idles_now - idles) (last - first) now.moves check (omega (arith, before, later)) h.1
  ends_by_waiting first last (Err why) before later h = tt

-- all links were handed back
pub are_back : {L : Type 0} (count count_now : ℕ) (got got_now : List (Option LinkNo × L)) (given given_now idles idles_now : ℕ) (c after : CompanyState L) → after.seats ≡ [] → after.guests ≡ [] → c.seats ≡ [] → links_in c ≡ 0 → after.lost ≡ false
    → Meets count count_now got got_now given given_now idles idles_now (inside_of c) (inside_of after) c.failed after.failed c.lost after.lost
    → AreBack got got_now given given_now
are_back {L} count count_now got got_now given given_now idles idles_now c after seats guests none empty kept m =
    let all = (m.counted kept).1 in
    let many = all.many in
    let zero_seats = ap (λ (xs : List (SeatState L)). length xs) seats in
    let zero_guests = ap (λ (xs : List (PeerState L)). length xs) guests in
    record {
      more = all.more;
      are = all.are;
      many = omega (arith, many, zero_seats, zero_guests, empty);
      apart = λ k.
          let once = m.numbers.once k in
          let first = ap (seats_under k) none in
          let sums = ap (back_under k) all.are ∙ sum_by-append (λ (x : Option LinkNo × L). one_under k x.0) got all.more in
          omega (arith, once, first, sums);
    }

module _ {S : Type 0} (trust : Type 0) (gives : Function) (may_fail : Job → Failure → Type 0) (sources : Contents) (tells : Type 0) (files : S → Files) (may_leave : S → Outcomes) (moment : S → ℕ)
    (images_since : S → ℕ → Files → Type 0) (d after : DeskState S) (goes : GoesOn trust gives may_fail sources tells files may_leave moment images_since [] d after) where
  lives_goes : (k : ℕ) → is_live d.options d.moves k ≡ true → is_live after.options after.moves k ≡ true
  lives_goes k lives =
      ap (λ (O : Options). is_live O after.moves k) goes.options
      ∙ live_links d.options after.moves k
      ∙ ap (λ (M : List Move). is_live d.options M k) (goes_links trust gives may_fail sources tells files may_leave moment images_since [] d after goes ∙ append-nil (link_moves d.moves))
      ∙ sym (live_links d.options d.moves k) ∙ lives

  -- seats stay seats where no link came or left
  pub seats_goes : {L : Type 0} (seats : List (SeatState L)) → AreSeats d.plan d.options d.moves seats → AreSeats after.plan after.options after.moves seats
  seats_goes seats are = seats_live d.plan after.plan d.options after.options d.moves after.moves goes.plan seats lives_goes are
