-- How a foreman's call ends.
use Rattle.std.proofs.Common.{◌≡◌, ℕ, Bool, true, false, List, [], Option, refl, sym, ◌∙◌, subst, arith}
use Rattle.flow_types.specs.declared.job.Failure.{Failure}
use Rattle.flow_types.specs.declared.job.Job.{Job}
use Rattle.flow_types.specs.declared.numbers.LinkNo.{LinkNo}
use Rattle.flow_types.specs.Serial.{Function}
use Rattle.peer_run.specs.declared.cause.PeerCause.{PeerCause}
use Rattle.peer_run.specs.declared.cause.PeerCause.TheVariants as causes
use Rattle.peer_run.specs.declared.halt.Halt.TheVariants as halts
use Rattle.peer_run.specs.Works.{Way}
use Rattle.foreman_run.specs.Lost.{Seen}
use Rattle.foreman_run.specs.declared.stop.Stop.{Stop}
use Rattle.foreman_run.specs.declared.stop.Stop.TheVariants as stops
use Rattle.foreman_run.specs.Ended.{AreHandedBack, HasStopped, RoseBy, cause_by}
use Rattle.foreman_run.specs.Ends.{StopsAt, StopsOver, stop_by}
use Rattle.foreman_run.specs.Hosts.{IsLetGo, LetsGo}
use Rattle.foreman_run.proofs.Going.{wants_late}
use Rattle.foreman_run.specs.Lowers.{LowerState}
use Rattle.foreman_run.specs.Met.{Met}
use Rattle.foreman_run.specs.Tied.{AreTied, Book, new_book, with_got, with_hall}
use Rattle.foreman_run.proofs.Hosted.{hosts_still}
use Rattle.foreman_run.proofs.Tying.{came_over}

rose_by : (lost before now : ℕ) (stop : Stop) → IsLetGo lost before now stop → RoseBy before now stop
rose_by lost before now (stops.Left halt) is = tt
rose_by lost before now stops.Hall is = is

none_lost : (lost after before now : ℕ) (stop : Stop) → cause_by after before now stop ≡ causes.Bye → IsLetGo lost before now stop → lost ≡ 0
none_lost lost after before now (stops.Left halts.Bye) is gone = gone
none_lost lost after before now (stops.Left halts.Closed) is gone = absurd (let h : ⊥ = cc in h)
none_lost lost after before now (stops.Left halts.Link) is gone = absurd (let h : ⊥ = cc in h)
none_lost lost after before now (stops.Left (halts.Bad at)) is gone = absurd (let h : ⊥ = cc in h)
none_lost lost after before now (stops.Left halts.Memory) is gone = absurd (let h : ⊥ = cc in h)
none_lost lost after before now stops.Hall is gone = absurd (let h : ⊥ = cc in h)

-- What became of the hall's links, by why it stopped.
pub handed_back : {X : Type 0} (before now : ℕ) (got got_now : List X) (given given_now after : ℕ) (stop : Stop) (cause : PeerCause) → cause ≡ cause_by after before now stop
    → LetsGo before now got got_now given given_now stop → AreHandedBack before now got got_now given given_now cause
handed_back before now got got_now given given_now after stop cause is go = (go.0, go.1, λ bye. none_lost go.0 after before now stop (sym is ∙ bye) go.2)

-- Nothing was done at the hall.
pub none_handed : {X : Type 0} (count : ℕ) (got : List X) (given : ℕ) (cause : PeerCause) → AreHandedBack count count got got given given cause
none_handed count got given cause = (0, hosts_still count got given 0 0 refl, λ bye. refl)

-- A foreman has left the link to its parent.
pub has_stopped : {L : Type 0} (gives : Function) (may_fail : Job → Failure → Type 0) (tells honest below_tells : Type 0) (seen : L → Seen) (cap : ℕ) (way : Way) (before now : ℕ) (got got_now : List (Option LinkNo × L)) (given given_now : ℕ) (stop : Stop)
    (cause : PeerCause) → cause ≡ cause_by way.faults before now stop → LetsGo before now got got_now given given_now stop
    → ((trusted : Bool) → (trusted ≡ true → honest) → StopsOver gives may_fail tells trusted below_tells seen cap (new_book got) got_now given given_now way [] stop)
    → HasStopped gives may_fail tells honest below_tells seen cap way before now got got_now given given_now cause
has_stopped gives may_fail tells honest below_tells seen cap way before now got got_now given given_now stop cause is go stopped =
    let over = stopped false (λ e. absurd (let h : ⊥ = cc in h)) in
    record {
      stop = stop;
      cause_is = is;
      rose = rose_by go.0 before now stop go.2;
      stops = over.stops_at.stops;
      from_links = came_over below_tells seen cap over.stops_at.stops.past (with_hall (new_book got) got_now over.upto) given given_now over.counted over.stops_at.tied;
      right = λ t h. (stopped true (λ e. h)).stops_at.stops.found.right t refl;
    }

-- Once all links were let go.
pub stops_by : {L : Type 0} (gives : Function) (may_fail : Job → Failure → Type 0) (tells : Type 0) (trusted : Bool) (below_tells : Type 0) (seen : L → Seen) (cap : ℕ) (book : Book L) (way : Way) (lowers : List (LowerState L)) (stop : Stop) (whole : Bool)
    → StopsAt gives may_fail tells trusted below_tells seen cap book way lowers stop → StopsAt gives may_fail tells trusted below_tells seen cap book way lowers (stop_by whole stop)
stops_by gives may_fail tells trusted below_tells seen cap book way lowers stop true s = s
stops_by gives may_fail tells trusted below_tells seen cap book way lowers (stops.Left halts.Bye) false s = wants_late gives may_fail tells trusted below_tells seen cap way book lowers s
stops_by gives may_fail tells trusted below_tells seen cap book way lowers (stops.Left halts.Closed) false s = s
stops_by gives may_fail tells trusted below_tells seen cap book way lowers (stops.Left halts.Link) false s = s
stops_by gives may_fail tells trusted below_tells seen cap book way lowers (stops.Left (halts.Bad at)) false s = s
stops_by gives may_fail tells trusted below_tells seen cap book way lowers (stops.Left halts.Memory) false s = s
stops_by gives may_fail tells trusted below_tells seen cap book way lowers stops.Hall false s = s

-- All links were let go, and how it stopped stays so.
pub over_by : {L : Type 0} (gives : Function) (may_fail : Job → Failure → Type 0) (tells : Type 0) (trusted : Bool) (below_tells : Type 0) (seen : L → Seen) (cap : ℕ) (book : Book L) (got got_now : List (Option LinkNo × L)) (given given_now given_then : ℕ) (way : Way)
    (lowers : List (LowerState L)) (stop : Stop) (whole : Bool) → given_then ≡ given_now
    → ((c : ℕ) (past : List Met) (b : Book L) → AreTied below_tells seen c past lowers (with_got b got) → AreTied below_tells seen c past [] (with_got b got_now))
    → StopsOver gives may_fail tells trusted below_tells seen cap book got given given_now way lowers stop
    → StopsOver gives may_fail tells trusted below_tells seen cap book got_now given given_then way [] (stop_by whole stop)
over_by gives may_fail tells trusted below_tells seen cap book got got_now given given_now given_then way lowers stop whole same ties over = record {
  upto = over.upto;
  counted = omega (arith, over.counted, same);
  stops_at = stops_by gives may_fail tells trusted below_tells seen cap (with_hall book got_now over.upto) way [] stop whole (record {
    stops = over.stops_at.stops;
    tied = ties cap over.stops_at.stops.past (with_hall book got over.upto) over.stops_at.tied;
  });
}

-- a stop that leaves the parent
pub left_of : (T : Type 0) (stop : Stop) (halt : Rattle.peer_run.specs.declared.halt.Halt.Halt) → stop ≡ stops.Left halt → (let r : Rattle.std.proofs.Common.Result T Stop = Rattle.std.proofs.Common.Err stop in Rattle.foreman_run.specs.Ends.LeavesParent r)
left_of T stop halt is = subst (λ (s : Stop). let r : Rattle.std.proofs.Common.Result T Stop = Rattle.std.proofs.Common.Err s in Rattle.foreman_run.specs.Ends.LeavesParent r) (sym is) tt
