-- A worker says its hello.
use Rattle.std.proofs.Common.{◌≡◌, ◌≤◌, ℕ, false, List, [], ◌∷◌, None, Result, Ok, Err, refl, sym, ap, subst, arith}
use Rattle.flow_types.specs.declared.job.Failure.{Failure}
use Rattle.flow_types.specs.declared.job.Job.{Job}
use Rattle.flow_types.specs.declared.job.Outcome.{Outcome}
use Rattle.flow_types.specs.declared.messages.Message.{Message}
use Rattle.flow_types.specs.declared.numbers.Amounts.{Amounts}
use Rattle.flow_types.specs.Serial.{Function}
use Rattle.links.specs.declared.passing.Passed.{Passed}
use Rattle.links.specs.Passings.{received_in, Transmits}
use Rattle.links.specs.Peers.{IsRightLink, MaySay, Says}
use Rattle.message_forms.specs.Streams.{framed}
use Rattle.outside.specs.declared.fault.Fault.{Fault}
use Rattle.worker_core.specs.Workers.{Worker}
use Rattle.worker_pool.specs.Tallies.{none}
use Rattle.peer_run.specs.Met.{hello_of, new_worker}
use Rattle.peer_run.specs.Says.{SaysAll}
use Rattle.peer_run.specs.Works.{EarState, Way, Works}
use Rattle.peer_run.proofs.Going.{Said, begins}
use Rattle.peer_run.proofs.Sends.{sends_one}
use Rattle.peer_run.proofs.Steps.{hello_may}

says_one : {T : Type 0} (gives : Function) (may_fail : Job → Failure → Type 0) (m : Message) (said : List Message) (history : List Passed) (r : Result T Fault) → Says gives may_fail m said history r → SaysAll gives may_fail (m ∷ []) said history r
says_one gives may_fail m said history (Ok x) is = is
says_one gives may_fail m said history (Err fault) is = is

module _ (gives : Function) (may_fail : Job → Failure → Type 0) (tells told : Type 0) (fits : Job → Outcome → Type 0) where
  -- what the call did that says a worker's hello
  pub hello_said : (first : Worker) (m : Message) (old new : Way) (r : Result (Unit {0}) Fault) → m ≡ hello_of first
      → ((said : List Message) → tells → IsRightLink gives may_fail old.history said → MaySay gives may_fail (received_in old.history) m → Says gives may_fail m said new.history r)
      → (tells → Transmits r (framed m) old.history new.history) → new.closed ≡ old.closed → old.faults ≤ new.faults
      → Said gives may_fail tells told fits first 0 r (hello_of first ∷ []) old new
  hello_said first m old new r is said sent closed later =
      subst (λ (x : Message). Said gives may_fail tells told fits first 0 r (x ∷ []) old new) is (
        (λ t. sends_one r m old.history new.history (sent t)),
        (λ before t trusted right. says_one gives may_fail m before new.history r
            (said before t right (subst (MaySay gives may_fail (received_in old.history)) (sym is) (hello_may gives may_fail (received_in old.history) first)))),
        closed,
        later,
      )

  -- A new worker that has said its hello is at work.
  pub at_work : (total : Amounts) (cap : ℕ) (old new : Way) (ear : EarState) (core : Worker) → core ≡ new_worker total cap → old.history ≡ [] → old.closed ≡ false
      → ear ≡ record { rest = []; body = []; stop = None; fed = 0 }
      → Said gives may_fail tells told fits (new_worker total cap) 0 (let r : Result (Unit {0}) Fault = Ok tt in r) (hello_of (new_worker total cap) ∷ []) old new
      → Works gives may_fail tells told fits (new_worker total cap) 0 new ear core [] none false
  at_work total cap old new ear core same none_passed stays is said =
      begins gives may_fail tells told fits (new_worker total cap) 0 old new ear core same refl refl none_passed stays (omega arith)
      (ap (λ (e : EarState). e.rest) is) (ap (λ (e : EarState). e.stop) is) (ap (λ (e : EarState). e.fed) is) said
