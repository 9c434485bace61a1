-- What was sent, told by its bytes.
use Rattle.std.proofs.Common.{◌≡◌, ◌≤◌, ℕ, List, [], ◌∷◌, ◌++◌, length, take, drop, Some, Result, Ok, Err, inl, inr, sym, ap, ◌∙◌, append_assoc, append-nil, arith}
use Rattle.std.specs.Prelude.{slice_get}
use Rattle.std.proofs.lemmas.List.{take-append-drop}
use Rattle.flow_types.specs.declared.messages.Message.{Message}
use Rattle.links.specs.declared.passing.Passed.{Passed}
use Rattle.links.specs.Passings.{Transmits, received_in, sent_in}
use Rattle.message_forms.specs.Streams.{framed}
use Rattle.outside.specs.declared.fault.Fault.{Fault}
use Rattle.peer_run.specs.Says.{SendsAll}

-- what a call of send does to a link, told by what went out
pub sends_one : {T : Type 0} (r : Result T Fault) (m : Message) (old new : List Passed) → Transmits r (framed m) old new → SendsAll r (m ∷ []) old new
sends_one (Ok x) m old new is =
    (ap received_in is, ap sent_in is ∙ ap (λ (w : List ℕ). sent_in old ++ w) (sym (append-nil (framed m))))
sends_one (Err fault) m old new (inl is) =
    (ap received_in is, (framed m, ap (λ (h : List Passed). sent_in h ++ framed m) is ∙ ap (λ (w : List ℕ). sent_in old ++ w) (sym (append-nil (framed m)))))
sends_one (Err fault) m old new (inr (n, is)) = (
  ap received_in is,
  (
    drop n (framed m),
    ap (λ (h : List Passed). sent_in h ++ drop n (framed m)) is ∙ append_assoc (sent_in old) (take n (framed m)) (drop n (framed m))
        ∙ ap (λ (w : List ℕ). sent_in old ++ w) (take-append-drop n (framed m)) ∙ ap (λ (w : List ℕ). sent_in old ++ w) (sym (append-nil (framed m))),
  ),
)

-- a list of one item at most that has a first one
pub one_only : (ms : List Message) (m : Message) → length ms ≤ 1 → slice_get ms 0 ≡ Some m → ms ≡ m ∷ []
one_only [] m few is = absurd cc
one_only (x ∷ []) m few is = cc
one_only (x ∷ y ∷ ms) m few is = absurd (let wrong : ⊥ = omega (arith, few) in wrong)
