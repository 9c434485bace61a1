-- What the next message takes off the front.
use Rattle.std.proofs.Common.{◌≡◌, ◌≤◌, ◌+◌, ℕ, Bool, true, false, ltb, List, ◌++◌, length, drop, Option, Some, None, Result, Ok, Err, inl, inr, refl, sym, ap, ◌∙◌, subst, arith}
use Rattle.std.specs.Prelude.{IfOk}
use Rattle.std.proofs.lemmas.Bool.{ltb-true}
use Rattle.byteorder.specs.Endian.{big_number}
use Rattle.byte_fields.proofs.Fields.{u32_is_field}
use Rattle.byte_fields.specs.Reading.{number_at}
use Rattle.byte_fields.specs.Laws.{IsBytes}
use Rattle.flow_types.specs.declared.messages.Message.{Message}
use Rattle.message_forms.specs.Streams.{IsBroken, IsFramed, frame, framed}
use Rattle.message_forms.specs.Streams as streams
use Rattle.wq_frames.proofs.Fronts.{is_frame}
use Rattle.wq_frames.proofs.Runs.{taken}
use Rattle.wq_frames.specs.declared.feeder.FeedFault.{FeedFault}
use Rattle.wq_frames.specs.declared.feeder.FeedFault.TheVariants as faults
use Rattle.wq_frames.specs.Frames.{Front, whole, too_long, part, front, front_by}
use Rattle.wq_frames.specs.Streams.{Stream, Advances, AdvancesFrom, at_rest, heard_as, heard_by}
use Rattle.wq_messages.proofs.Shown.{is_only}
use Rattle.std.proofs.lemmas.List.{length-append}
use Rattle.wq_messages.specs.declared.fault.MessageFault.{MessageFault}
use Rattle.wq_messages.specs.Reading.{message_of}
use Rattle.wq_messages.specs.Spelling.{most_body}
use Rattle.wq_messages.specs.Views.{HasMessage}
use Rattle.peer_run.specs.Ends.{Advanced}
use Rattle.peer_run.specs.Works.{EarState}

-- ---- what breaks the grammar

long_parts : (b1 b2 b3 : Bool) (n k : ℕ) (behind : List ℕ) → front_by b1 b2 b3 n behind ≡ too_long k → (b1 ≡ false) × (b2 ≡ true) × (n ≡ k)
long_parts true b2 b3 n k behind e = absurd cc
long_parts false true b3 n k behind e = (refl, refl, cc)
long_parts false false true n k behind e = absurd cc
long_parts false false false n k behind e = absurd cc

is_long : (bytes : List ℕ) (k : ℕ) → IsBytes bytes → front bytes ≡ too_long k → IsBroken bytes
is_long bytes k small e =
    let n = big_number 4 bytes in
    let p = long_parts (ltb (length bytes) 4) (ltb most_body n) (ltb (length bytes) (n + 4)) n k (drop 4 bytes) e in
    let read : number_at 4 bytes ≡ Ok (n, drop 4 bytes) = rw p.0 refl in
    let t = u32_is_field.takes bytes n (drop 4 bytes) small read in
    streams.too_long n (drop 4 bytes) (omega (arith, t.1)) (ltb-true most_body n p.1) t.0.parts

not_read : (read : Result Message MessageFault) (fault : FeedFault) → (let answer : Result Bool FeedFault = Err fault in answer ≡ heard_as read) → (m : Message) → read ≡ Ok m → ⊥
not_read (Ok x) fault e m is = cc
not_read (Err wrong) fault e m is = cc

is_bad : (bytes body rest : List ℕ) (fault : FeedFault) → IsBytes bytes → front bytes ≡ whole body rest
    → (let answer : Result Bool FeedFault = Err fault in answer ≡ heard_as (message_of body)) → IsBroken bytes
is_bad bytes body rest fault small e wrong =
    let p = is_frame bytes body rest small e in
    streams.bad body rest p.1.0 (λ m fits spelled. not_read (message_of body) fault wrong m (is_only body m fits (sym spelled))) p.0

breaks_at : (f : Front) (s u : Stream) (fault : FeedFault) → front s.rest ≡ f → IsBytes s.rest → Advances f s (Err fault) u → (fault ≡ faults.Memory → ⊥) → IsBroken s.rest
breaks_at (whole body rest) s u fault e small h other =
    elim h [
      | inl took ↦ is_bad s.rest body rest fault small e took.0
      | inr want ↦ let wrong = want.0 in absurd (other cc)
    ]
breaks_at (too_long n) s u fault e small h other = is_long s.rest n small e
breaks_at part s u fault e small h other = let wrong = h.0 in absurd cc

breaks_from : (s u : Stream) (stop : Option FeedFault) (fault : FeedFault) → stop ≡ None → IsBytes s.rest → AdvancesFrom stop s (Err fault) u → (fault ≡ faults.Memory → ⊥) → IsBroken s.rest
breaks_from s u None fault e small h other = breaks_at (front s.rest) s u fault refl small h other
breaks_from s u (Some x) fault e small h other = absurd cc

-- At a fault that isn't want of memory the grammar is left.
pub breaks : (s u : Stream) (fault : FeedFault) → s.stop ≡ None → IsBytes s.rest → AdvancesFrom s.stop s (Err fault) u → (fault ≡ faults.Memory → ⊥) → IsBroken s.rest
breaks s u fault going small h other = breaks_from s u s.stop fault going small h other

-- ---- where less than a whole frame is there

not_waited : (read : Result Message MessageFault) → (let waits : Result Bool FeedFault = Ok false in waits ≡ heard_as read) → ⊥
not_waited (Ok m) e = cc
not_waited (Err f) e = cc

waits_at : (f : Front) (s u : Stream) → Advances f s (Ok false) u → (f ≡ part) × (u ≡ s)
waits_at (whole body rest) s u h =
    elim h [
      | inl took ↦ absurd (not_waited (message_of body) took.0)
      | inr want ↦ let wrong = want.0 in absurd cc
    ]
waits_at (too_long n) s u h = let wrong = h.0 in absurd cc
waits_at part s u h = (refl, h.1)

waits_from : (s u : Stream) (stop : Option FeedFault) → stop ≡ None → AdvancesFrom stop s (Ok false) u → (front s.rest ≡ part) × (u ≡ s)
waits_from s u None e h = waits_at (front s.rest) s u h
waits_from s u (Some x) e h = absurd cc

pub waits : (s u : Stream) → s.stop ≡ None → AdvancesFrom s.stop s (Ok false) u → (front s.rest ≡ part) × (u ≡ s)
waits s u going h = waits_from s u s.stop going h

-- ---- what is left

-- what is left behind what was taken is no longer, and bytes
abbrev IsLess : List ℕ → List ℕ → Type 0
IsLess more less = (length less ≤ length more) × IsBytes less

less_same : (xs ys : List ℕ) → ys ≡ xs → IsBytes xs → IsLess xs ys
less_same xs ys e small = (omega (arith, ap length e), subst IsBytes (sym e) small)

less_behind : (xs front ys : List ℕ) → xs ≡ front ++ ys → IsBytes ys → IsLess xs ys
less_behind xs front ys e small = (omega (arith, ap length e, length-append front ys), small)

heard_rest : (read : Result Message MessageFault) (body rest : List ℕ) → (heard_by read (at_rest rest body)).rest ≡ rest
heard_rest (Ok m) body rest = refl
heard_rest (Err wrong) body rest = refl

less_at : (f : Front) (s u : Stream) (r : Result Bool FeedFault) → front s.rest ≡ f → IsBytes s.rest → Advances f s r u → IsLess s.rest u.rest
less_at (whole body rest) s u r e small h =
    elim h [
      | inl took ↦
          let p = is_frame s.rest body rest small e in
          let same : u.rest ≡ rest = ap (λ (v : Stream). v.rest) took.1 ∙ heard_rest (message_of body) body rest in
          subst (IsLess s.rest) (sym same) (less_behind s.rest (frame body) rest p.0 p.1.1.1)
      | inr want ↦ less_same s.rest u.rest (ap (λ (v : Stream). v.rest) want.1) small
    ]
less_at (too_long n) s u r e small h = less_same s.rest u.rest (ap (λ (v : Stream). v.rest) h.1) small
less_at part s u r e small h = less_same s.rest u.rest (ap (λ (v : Stream). v.rest) h.1) small

less_from : (s u : Stream) (stop : Option FeedFault) (r : Result Bool FeedFault) → stop ≡ None → IsBytes s.rest → AdvancesFrom stop s r u → IsLess s.rest u.rest
less_from s u None r e small h = less_at (front s.rest) s u r refl small h
less_from s u (Some x) r e small h = absurd cc

pub left_less : (s u : Stream) (r : Result Bool FeedFault) → s.stop ≡ None → IsBytes s.rest → AdvancesFrom s.stop s r u → (length u.rest ≤ length s.rest) × IsBytes u.rest
left_less s u r going small h = less_from s u s.stop r going small h

-- a stream of which so many bytes came
abbrev pub ear_of : Stream → ℕ → EarState
ear_of s fed = record { rest = s.rest; body = s.body; stop = s.stop; fed = fed }

-- What a feeder's step is for what came down.
pub advanced : (s u : Stream) (fed : ℕ) (r : Result Bool FeedFault) → s.stop ≡ None → IsBytes s.rest → AdvancesFrom s.stop s r u → IfOk r (λ (t : Bool). t ≡ true → HasMessage u.body)
    → Advanced (ear_of s fed) r (ear_of u fed)
advanced s u fed (Ok true) going small h has =
    let t = taken s u s.stop refl small h in
    (t.each, t.parts, t.going, refl, has refl)
advanced s u fed (Ok false) going small h has =
    let w = waits s u going h in
    (w.0, ap (λ (v : Stream). v.rest) w.1, ap (λ (v : Stream). v.stop) w.1 ∙ going, refl)
advanced s u fed (Err faults.Memory) going small h has = tt
advanced s u fed (Err (faults.TooLong n)) going small h has = breaks s u (faults.TooLong n) going small h (λ e. cc)
advanced s u fed (Err (faults.Bad wrong)) going small h has = breaks s u (faults.Bad wrong) going small h (λ e. cc)
