-- How a foreman begins: it says its hello over a new link to its parent.
use Rattle.std.proofs.Common.{◌≡◌, ◌≤◌, ℕ, Bool, false, List, [], ◌∷◌, Option, Result, Ok, Err, None, refl, subst, arith}
use Rattle.flow_types.specs.declared.job.Failure.{Failure}
use Rattle.flow_types.specs.declared.job.Job.{Job}
use Rattle.flow_types.specs.declared.messages.Message.{Message}
use Rattle.flow_types.specs.declared.numbers.LinkNo.{LinkNo}
use Rattle.flow_types.specs.Serial.{Function}
use Rattle.links.specs.Passings.{Transmits, received_in}
use Rattle.links.specs.Peers.{IsRightLink, MaySay, Says}
use Rattle.message_forms.specs.Streams.{framed}
use Rattle.outside.specs.declared.fault.Fault.{Fault}
use Rattle.foreman_core.specs.Foremen.{Foreman, new_foreman}
use Rattle.peer_run.proofs.Sends.{sends_one}
use Rattle.peer_run.specs.Works.{EarState, Way}
use Rattle.foreman_run.specs.Lost.{Seen}
use Rattle.foreman_run.specs.declared.stop.Stop.{Stop}
use Rattle.foreman_run.specs.Ends.{FailsBy, StopsAt}
use Rattle.foreman_run.specs.Met.{hello}
use Rattle.foreman_run.specs.Tied.{new_book}
use Rattle.foreman_run.specs.Works.{Works}
use Rattle.foreman_run.proofs.Going.{Said, begins, said_all, said_not}

-- an ear that heard nothing
abbrev pub new_ear : EarState
new_ear = record { rest = []; body = []; stop = None; fed = 0 }

module _ {L : Type 0} (gives : Function) (may_fail : Job → Failure → Type 0) (tells : Type 0) (trusted : Bool) (below_tells : Type 0) (seen : L → Seen) (honest : L → Type 0) (cap : ℕ) (first : List (Option LinkNo × L)) where
  -- what a call that says this did
  abbrev pub SaysOne : Message → Result (Unit {0}) Fault → Way → Way → Type 0
  SaysOne m r old new =
      (tells → Transmits r (framed m) old.history new.history)
      × ((said : List Message) → tells → IsRightLink gives may_fail old.history said → MaySay gives may_fail (received_in old.history) m → Says gives may_fail m said new.history r)
      × (new.closed ≡ old.closed) × (old.faults ≤ new.faults)

  said_one : (m : Message) (r : Result (Unit {0}) Fault) (old new : Way) → SaysOne m r old new → Said gives may_fail tells trusted below_tells seen honest cap (new_book first) r (m ∷ []) old new
  said_one m (Ok x) old new s = ((λ t. sends_one {T = Unit {0}} (Ok x) m old.history new.history (s.0 t)), (λ said t right may. s.1 said t right may.0), s.2, s.3)
  said_one m (Err fault) old new s = ((λ t. sends_one {T = Unit {0}} (Err fault) m old.history new.history (s.0 t)), (λ said t right may. s.1 said t right may.0), s.2, s.3)

  said_hello : (m : Message) (r : Result (Unit {0}) Fault) (old new : Way) → m ≡ hello → SaysOne m r old new → Said gives may_fail tells trusted below_tells seen honest cap (new_book first) r (hello ∷ []) old new
  said_hello m r old new is s = subst (λ (x : Message). Said gives may_fail tells trusted below_tells seen honest cap (new_book first) r (x ∷ []) old new) is (said_one m r old new s)

  -- It was said.
  pub goes_on : (m : Message) (old new : Way) (ear : EarState) (core : Foreman) → core ≡ new_foreman cap → ear ≡ new_ear → old.history ≡ [] → old.closed ≡ false → m ≡ hello → SaysOne m (let r : Result (Unit {0}) Fault = Ok tt in r) old new
      → Works gives may_fail tells trusted below_tells seen honest cap (new_book first) new ear core [] [] [] false
  goes_on m old new ear core same is none_passed stays greets s =
      said_all gives may_fail tells trusted below_tells seen honest cap (new_book first) old new ear core [] (hello ∷ []) [] false (said_hello m (Ok tt) old new greets s)
      (begins gives may_fail tells trusted below_tells seen honest cap (new_book first) old ear core same none_passed stays (omega arith) is refl refl refl)

  -- It was cut short.
  pub stops_so : (m : Message) (old new : Way) (ear : EarState) (core : Foreman) (fault : Fault) (stop : Stop) → core ≡ new_foreman cap → ear ≡ new_ear → old.history ≡ [] → old.closed ≡ false → m ≡ hello → SaysOne m (let r : Result (Unit {0}) Fault = Err fault in r) old new
      → FailsBy 0 new stop → StopsAt gives may_fail tells trusted below_tells seen cap (new_book first) new [] stop
  stops_so m old new ear core fault stop same is none_passed stays greets s fails =
      said_not gives may_fail tells trusted below_tells seen honest cap (new_book first) old new ear core [] (hello ∷ []) [] fault stop (said_hello m (Err fault) old new greets s) fails
      (begins gives may_fail tells trusted below_tells seen honest cap (new_book first) old ear core same none_passed stays (omega arith) is refl refl refl)
