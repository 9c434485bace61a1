-- What an append leaves in each of its two steps.
use Rattle.std.proofs.Common.{Result, Ok, Err, OnOk, ◌≡◌, ◌≢◌, ◌<◌, ℕ, ◌+◌, ◌≤◌, List, [], ◌∷◌, ◌++◌, length, get_or, take, drop, Option, Some, None, inl, inr, sym, ◌∙◌, ap, subst, arith, append_assoc, length-append, length-take, take-append-drop}
use Rattle.std.proofs.lemmas.List.{take_at, drop_at, drop_more}
use Rattle.std.proofs.lemmas.Bool.{cases_eq}
use Rattle.outside.specs.Files.{content, written}
use Rattle.outside.specs.Disk.{Torn, IsTorn}
use Rattle.txn_log.specs.Gates.{IsClosed, Stands, staged, grown, StandsBeforeOrAfter}

pub closed_length : (gate : ℕ) (bytes : List ℕ) → IsClosed (take gate bytes) bytes → (length (take gate bytes) ≡ gate) × (gate < length bytes)
closed_length gate bytes closed =
    let long = ap length closed.split in (
      omega (arith, long, length-append (take gate bytes) (closed.gate ∷ closed.rest), length-take gate bytes),
      omega (arith, long, length-append (take gate bytes) (closed.gate ∷ closed.rest), length-take gate bytes),
    )

-- the front and the gate stand where what is behind them changes
front_stands : (front bytes new : List ℕ) → IsClosed front bytes → take (length front + 1) new ≡ take (length front + 1) bytes → IsClosed front new
front_stands front bytes new closed same =
    let with_gate : bytes ≡ (front ++ closed.gate ∷ []) ++ closed.rest = closed.split ∙ sym (append_assoc front (closed.gate ∷ []) closed.rest) in
    let size : length (front ++ closed.gate ∷ []) ≡ length front + 1 = omega (arith, length-append front (closed.gate ∷ [])) in
    let head : take (length front + 1) bytes ≡ front ++ closed.gate ∷ [] = ap (λ (l : List ℕ). take (length front + 1) l) with_gate ∙ take_at (front ++ closed.gate ∷ []) closed.rest (length front + 1) size in
    record {
      gate = closed.gate;
      rest = drop (length front + 1) new;
      shut = closed.shut;
      split = sym (take-append-drop (length front + 1) new) ∙ ap (λ (l : List ℕ). l ++ drop (length front + 1) new) (same ∙ head)
          ∙ append_assoc front (closed.gate ∷ []) (drop (length front + 1) new);
    }

pub behind_keeps : (front : List ℕ) (gate n : ℕ) (before after : Option (List ℕ)) → length front ≡ gate → Stands front before → IsTorn (gate + 1) n before after → Stands front after
behind_keeps front gate n None after size stands torn = absurd stands
behind_keeps front gate n (Some old) None size stands torn = absurd torn
behind_keeps front gate n (Some old) (Some new) size stands torn =
    front_stands front old new stands (subst (λ (k : ℕ). take (k + 1) new ≡ take (k + 1) old) (sym size) torn.before)

-- the front, a closed gate, the record and a closed gate behind it
pub record IsStaged (front record_bytes bytes : List ℕ) : Type 0 where
  pub gate : ℕ
  pub rest : List ℕ
  pub shut : gate ≢ 1
  pub split : bytes ≡ front ++ gate ∷ (record_bytes ++ 0 ∷ rest)

pub written_behind : (front behind bytes : List ℕ) (gate : ℕ) → length front ≡ gate → IsClosed front bytes → behind ≡ staged behind ++ 0 ∷ []
    → IsStaged front (staged behind) (written (gate + 1) behind bytes)
written_behind front behind bytes gate size closed shut =
    let with_gate : bytes ≡ (front ++ closed.gate ∷ []) ++ closed.rest = closed.split ∙ sym (append_assoc front (closed.gate ∷ []) closed.rest) in
    let long : length (front ++ closed.gate ∷ []) ≡ gate + 1 = omega (arith, length-append front (closed.gate ∷ []), size) in
    let head : take (gate + 1) bytes ≡ front ++ closed.gate ∷ [] = ap (λ (l : List ℕ). take (gate + 1) l) with_gate ∙ take_at (front ++ closed.gate ∷ []) closed.rest (gate + 1) long in
    let rest = drop (gate + 1 + length behind) bytes in
    record {
      gate = closed.gate;
      rest = rest;
      shut = closed.shut;
      split = ap (λ (l : List ℕ). l ++ behind ++ rest) head
          ∙ ap (λ (l : List ℕ). (front ++ closed.gate ∷ []) ++ l ++ rest) shut
          ∙ append_assoc (front ++ closed.gate ∷ []) (staged behind ++ 0 ∷ []) rest
          ∙ ap (λ (l : List ℕ). (front ++ closed.gate ∷ []) ++ l) (append_assoc (staged behind) (0 ∷ []) rest)
          ∙ append_assoc front (closed.gate ∷ []) (staged behind ++ 0 ∷ rest);
    }

module _ (front record_bytes bytes : List ℕ) (gate : ℕ) (size : length front ≡ gate) (staged : IsStaged front record_bytes bytes) where
  head : take gate bytes ≡ front
  head = ap (λ (l : List ℕ). take gate l) staged.split ∙ take_at front (staged.gate ∷ (record_bytes ++ 0 ∷ staged.rest)) gate size

  behind_gate : drop (gate + 1) bytes ≡ record_bytes ++ 0 ∷ staged.rest
  behind_gate =
      let long : length (front ++ staged.gate ∷ []) ≡ gate + 1 = omega (arith, length-append front (staged.gate ∷ []), size) in
      ap (λ (l : List ℕ). drop (gate + 1) l) (staged.split ∙ sym (append_assoc front (staged.gate ∷ []) (record_bytes ++ 0 ∷ staged.rest)))
      ∙ drop_at (front ++ staged.gate ∷ []) (record_bytes ++ 0 ∷ staged.rest) (gate + 1) long

  pub staged_long : gate + 1 ≤ length bytes
  staged_long = omega (arith, ap length staged.split, length-append front (staged.gate ∷ (record_bytes ++ 0 ∷ staged.rest)), size)

  -- whatever byte is at the gate, the record stands whole behind it
  any_gate : (byte : ℕ) (new : List ℕ) → new ≡ front ++ byte ∷ (record_bytes ++ 0 ∷ staged.rest) → StandsBeforeOrAfter front record_bytes (Some new)
  any_gate byte new is = elim (cases_eq byte 1) [
    | inl is_open ↦ inr record {
      gate = 0;
      rest = staged.rest;
      shut = λ (e : 0 ≡ 1). absurd (cc);
      split = is ∙ ap (λ (b : ℕ). front ++ b ∷ (record_bytes ++ 0 ∷ staged.rest)) is_open ∙ sym (append_assoc front (1 ∷ record_bytes) (0 ∷ staged.rest));
    }
    | inr shut ↦ inl record { gate = byte; rest = record_bytes ++ 0 ∷ staged.rest; shut = shut; split = is }
  ]

  pub torn_gate : (new : List ℕ) → Torn gate 1 bytes new → StandsBeforeOrAfter front record_bytes (Some new)
  torn_gate new torn =
      let byte = get_or new gate 0 in
      let rest : drop gate new ≡ byte ∷ (record_bytes ++ 0 ∷ staged.rest) =
      drop_more new gate 0 (omega (arith, torn.no_shorter, staged_long)) ∙ ap (λ (l : List ℕ). byte ∷ l) (torn.after ∙ behind_gate) in
      any_gate byte new (sym (take-append-drop gate new) ∙ ap (λ (l : List ℕ). l ++ drop gate new) (torn.before ∙ head) ∙ ap (λ (l : List ℕ). front ++ l) rest)

  pub written_gate : IsClosed (grown front record_bytes) (written gate (1 ∷ []) bytes)
  written_gate = record {
    gate = 0;
    rest = staged.rest;
    shut = λ (e : 0 ≡ 1). absurd (cc);
    split = ap (λ (l : List ℕ). l ++ (1 ∷ []) ++ drop (gate + 1) bytes) head
        ∙ ap (λ (l : List ℕ). front ++ (1 ∷ []) ++ l) behind_gate
        ∙ append_assoc front (1 ∷ []) (record_bytes ++ 0 ∷ staged.rest)
        ∙ sym (append_assoc front (1 ∷ record_bytes) (0 ∷ staged.rest));
  }

pub gate_crash : (front record_bytes bytes : List ℕ) (gate : ℕ) (before after : Option (List ℕ)) → length front ≡ gate → IsStaged front record_bytes bytes
    → before ≡ Some bytes → IsTorn gate 1 before after → StandsBeforeOrAfter front record_bytes after
gate_crash front record_bytes bytes gate before None size staged is torn = absurd (subst (λ (e : Option (List ℕ)). IsTorn gate 1 e None) is torn)
gate_crash front record_bytes bytes gate before (Some new) size staged is torn = torn_gate front record_bytes bytes gate size staged new (subst (λ (e : Option (List ℕ)). IsTorn gate 1 e (Some new)) is torn)

pub front_length : (gate : ℕ) (entry : Option (List ℕ)) → Stands (take gate (content entry)) entry → length (take gate (content entry)) ≡ gate
front_length gate None stands = absurd stands
front_length gate (Some bytes) stands = (closed_length gate bytes stands).0

pub staged_of : (gate : ℕ) (entry : Option (List ℕ)) (behind : List ℕ) → Stands (take gate (content entry)) entry → behind ≡ staged behind ++ 0 ∷ []
    → IsStaged (take gate (content entry)) (staged behind) (written (gate + 1) behind (content entry))
staged_of gate None behind stands shut = absurd stands
staged_of gate (Some bytes) behind stands shut = written_behind (take gate bytes) behind bytes gate (closed_length gate bytes stands).0 stands shut

pub on_ok : {T E A B : Type 0} (result : Result T E) → (A → B) → OnOk result A → OnOk result B
on_ok (Ok x) f a = f a
on_ok (Err e) f a = a

pub front_is : (front : List ℕ) (gate : ℕ) (entry : Option (List ℕ)) → Stands front entry → length front ≡ gate → take gate (content entry) ≡ front
front_is front gate None stands size = absurd stands
front_is front gate (Some bytes) stands size = ap (λ (l : List ℕ). take gate l) stands.split ∙ take_at front (stands.gate ∷ stands.rest) gate size
