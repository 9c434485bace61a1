-- What a feeder's step takes off the front, and what came and was heard.
use Rattle.std.proofs.Common.{◌≡◌, ◌≤◌, ◌+◌, ℕ, Bool, true, false, ltb, List, [], ◌∷◌, ◌++◌, length, drop, append_assoc, append-nil, Option, Some, None, Result, Ok, Err, inl, inr, refl, sym, ap, ◌∙◌, subst, arith}
use Rattle.std.proofs.lemmas.Bool.{ltb-true}
use Rattle.byteorder.specs.Endian.{big_number}
use Rattle.byte_fields.proofs.Fields.{u32_is_field}
use Rattle.byte_fields.specs.Reading.{number_at}
use Rattle.byte_fields.specs.Laws.{IsBytes}
use Rattle.flow_types.specs.declared.messages.Message.{Message}
use Rattle.message_forms.proofs.Parses.{begin_together, frames_append, framed_append}
use Rattle.message_forms.specs.Streams.{AreFramed, Carries, IsAmong, IsBroken, IsFramed, IsStream, frame, framed, frames_of}
use Rattle.message_forms.specs.Streams as streams
use Rattle.wq_frames.proofs.Fronts.{is_frame, fronts}
use Rattle.wq_frames.proofs.Runs.{taken}
use Rattle.wq_frames.specs.declared.feeder.FeedFault.{FeedFault}
use Rattle.wq_frames.specs.declared.feeder.FeedFault.TheVariants as faults
use Rattle.wq_frames.specs.Frames.{Front, whole, too_long, part, front, front_by}
use Rattle.byte_fields.proofs.Prompt.{IsBytes-append}
use Rattle.wq_frames.specs.Streams.{Stream, fed, with_piece, Advances, AdvancesFrom, at_rest, heard_as, heard_by}
use Rattle.wq_messages.proofs.Shown.{is_only, spelled_apart}
use Rattle.std.proofs.lemmas.List.{length-append}
use Rattle.wq_messages.specs.declared.fault.MessageFault.{MessageFault}
use Rattle.wq_messages.specs.Reading.{message_of}
use Rattle.wq_messages.specs.Spelling.{most_body, spelling}
use Rattle.wq_messages.specs.Views.{shown}
use Rattle.peers.specs.Hears.{Takes}

-- ---- what breaks the grammar

long_parts : (b1 b2 b3 : Bool) (n k : ℕ) (behind : List ℕ) → front_by b1 b2 b3 n behind ≡ too_long k → (b1 ≡ false) × (b2 ≡ true) × (n ≡ k)
long_parts true b2 b3 n k behind e = absurd cc
long_parts false true b3 n k behind e = (refl, refl, cc)
long_parts false false true n k behind e = absurd cc
long_parts false false false n k behind e = absurd cc

is_long : (bytes : List ℕ) (k : ℕ) → IsBytes bytes → front bytes ≡ too_long k → IsBroken bytes
is_long bytes k small e =
    let n = big_number 4 bytes in
    let p = long_parts (ltb (length bytes) 4) (ltb most_body n) (ltb (length bytes) (n + 4)) n k (drop 4 bytes) e in
    let read : number_at 4 bytes ≡ Ok (n, drop 4 bytes) = rw p.0 refl in
    let t = u32_is_field.takes bytes n (drop 4 bytes) small read in
    streams.too_long n (drop 4 bytes) (omega (arith, t.1)) (ltb-true most_body n p.1) t.0.parts

not_read : (read : Result Message MessageFault) (fault : FeedFault) → (let answer : Result Bool FeedFault = Err fault in answer ≡ heard_as read) → (m : Message) → read ≡ Ok m → ⊥
not_read (Ok x) fault e m is = cc
not_read (Err wrong) fault e m is = cc

is_bad : (bytes body rest : List ℕ) (fault : FeedFault) → IsBytes bytes → front bytes ≡ whole body rest
    → (let answer : Result Bool FeedFault = Err fault in answer ≡ heard_as (message_of body)) → IsBroken bytes
is_bad bytes body rest fault small e wrong =
    let p = is_frame bytes body rest small e in
    streams.bad body rest p.1.0 (λ m fits spelled. not_read (message_of body) fault wrong m (is_only body m fits (sym spelled))) p.0

breaks_at : (f : Front) (s u : Stream) (fault : FeedFault) → front s.rest ≡ f → IsBytes s.rest → Advances f s (Err fault) u → (fault ≡ faults.Memory → ⊥) → IsBroken s.rest
breaks_at (whole body rest) s u fault e small h other =
    elim h [
      | inl took ↦ is_bad s.rest body rest fault small e took.0
      | inr want ↦ let wrong = want.0 in absurd (other cc)
    ]
breaks_at (too_long n) s u fault e small h other = is_long s.rest n small e
breaks_at part s u fault e small h other = let wrong = h.0 in absurd cc

breaks_from : (s u : Stream) (stop : Option FeedFault) (fault : FeedFault) → stop ≡ None → IsBytes s.rest → AdvancesFrom stop s (Err fault) u → (fault ≡ faults.Memory → ⊥) → IsBroken s.rest
breaks_from s u None fault e small h other = breaks_at (front s.rest) s u fault refl small h other
breaks_from s u (Some x) fault e small h other = absurd cc

-- At a fault that isn't want of memory the grammar is left.
pub breaks : (s u : Stream) (fault : FeedFault) → s.stop ≡ None → IsBytes s.rest → AdvancesFrom s.stop s (Err fault) u → (fault ≡ faults.Memory → ⊥) → IsBroken s.rest
breaks s u fault going small h other = breaks_from s u s.stop fault going small h other

-- ---- where less than a whole frame is there

not_waited : (read : Result Message MessageFault) → (let waits : Result Bool FeedFault = Ok false in waits ≡ heard_as read) → ⊥
not_waited (Ok m) e = cc
not_waited (Err f) e = cc

waits_at : (f : Front) (s u : Stream) → Advances f s (Ok false) u → (f ≡ part) × (u ≡ s)
waits_at (whole body rest) s u h =
    elim h [
      | inl took ↦ absurd (not_waited (message_of body) took.0)
      | inr want ↦ let wrong = want.0 in absurd cc
    ]
waits_at (too_long n) s u h = let wrong = h.0 in absurd cc
waits_at part s u h = (refl, h.1)

waits_from : (s u : Stream) (stop : Option FeedFault) → stop ≡ None → AdvancesFrom stop s (Ok false) u → (front s.rest ≡ part) × (u ≡ s)
waits_from s u None e h = waits_at (front s.rest) s u h
waits_from s u (Some x) e h = absurd cc

pub waits : (s u : Stream) → s.stop ≡ None → AdvancesFrom s.stop s (Ok false) u → (front s.rest ≡ part) × (u ≡ s)
waits s u going h = waits_from s u s.stop going h

-- ---- what is left

-- what is left behind what was taken is no longer, and bytes
abbrev IsLess : List ℕ → List ℕ → Type 0
IsLess more less = (length less ≤ length more) × IsBytes less

less_same : (xs ys : List ℕ) → ys ≡ xs → IsBytes xs → IsLess xs ys
less_same xs ys e small = (omega (arith, ap length e), subst IsBytes (sym e) small)

less_behind : (xs front ys : List ℕ) → xs ≡ front ++ ys → IsBytes ys → IsLess xs ys
less_behind xs front ys e small = (omega (arith, ap length e, length-append front ys), small)

heard_rest : (read : Result Message MessageFault) (body rest : List ℕ) → (heard_by read (at_rest rest body)).rest ≡ rest
heard_rest (Ok m) body rest = refl
heard_rest (Err wrong) body rest = refl

less_at : (f : Front) (s u : Stream) (r : Result Bool FeedFault) → front s.rest ≡ f → IsBytes s.rest → Advances f s r u → IsLess s.rest u.rest
less_at (whole body rest) s u r e small h =
    elim h [
      | inl took ↦
          let p = is_frame s.rest body rest small e in
          let same : u.rest ≡ rest = ap (λ (v : Stream). v.rest) took.1 ∙ heard_rest (message_of body) body rest in
          subst (IsLess s.rest) (sym same) (less_behind s.rest (frame body) rest p.0 p.1.1.1)
      | inr want ↦ less_same s.rest u.rest (ap (λ (v : Stream). v.rest) want.1) small
    ]
less_at (too_long n) s u r e small h = less_same s.rest u.rest (ap (λ (v : Stream). v.rest) h.1) small
less_at part s u r e small h = less_same s.rest u.rest (ap (λ (v : Stream). v.rest) h.1) small

less_from : (s u : Stream) (stop : Option FeedFault) (r : Result Bool FeedFault) → stop ≡ None → IsBytes s.rest → AdvancesFrom stop s r u → IsLess s.rest u.rest
less_from s u None r e small h = less_at (front s.rest) s u r refl small h
less_from s u (Some x) r e small h = absurd cc

pub left_less : (s u : Stream) (r : Result Bool FeedFault) → s.stop ≡ None → IsBytes s.rest → AdvancesFrom s.stop s r u → (length u.rest ≤ length s.rest) × IsBytes u.rest
left_less s u r going small h = less_from s u s.stop r going small h

-- ---- a step

-- What a step that took a message did, told by its bytes.
pub takes : (s u : Stream) → s.stop ≡ None → IsBytes s.rest → AdvancesFrom s.stop s (Ok true) u → Takes (shown u.body) s u
takes s u going small h =
    let t = taken s u s.stop refl small h in
    record { whole = t.each; parts = t.parts; going = t.going }

-- The same where the step answers that there was one.
pub takes_by : (s u : Stream) (b : Bool) → b ≡ true → s.stop ≡ None → IsBytes s.rest → (let r : Result Bool FeedFault = Ok b in AdvancesFrom s.stop s r u) → Takes (shown u.body) s u
takes_by s u true e going small h = takes s u going small h
takes_by s u false e going small h = absurd cc

small_from : (s u : Stream) (stop : Option FeedFault) (r : Result Bool FeedFault) → IsBytes s.rest → AdvancesFrom stop s r u → IsBytes u.rest
small_from s u None r small h = (less_at (front s.rest) s u r refl small h).1
small_from s u (Some fault) r small h = subst IsBytes (ap (λ (v : Stream). v.rest) (sym h.1)) small

-- What is left is bytes.
pub small_after : (s u : Stream) (r : Result Bool FeedFault) → IsBytes s.rest → AdvancesFrom s.stop s r u → IsBytes u.rest
small_after s u r small h = small_from s u s.stop r small h

fed_by : (s : Stream) (piece : List ℕ) (stop : Option FeedFault) → IsBytes s.rest → IsBytes piece → IsBytes (with_piece stop s piece).rest
fed_by s piece None small few = IsBytes-append s.rest piece small few
fed_by s piece (Some fault) small few = small

-- What is left is bytes once a piece was taken.
pub small_fed : (s u : Stream) (piece : List ℕ) → IsBytes s.rest → IsBytes piece → u ≡ fed s piece → IsBytes u.rest
small_fed s u piece small few is = subst IsBytes (ap (λ (v : Stream). v.rest) (sym is)) (fed_by s piece s.stop small few)

fed_at : (s : Stream) (piece : List ℕ) (stop : Option FeedFault) → stop ≡ None → ((with_piece stop s piece).rest ≡ s.rest ++ piece) × ((with_piece stop s piece).stop ≡ None)
fed_at s piece None e = (refl, refl)
fed_at s piece (Some fault) e = absurd cc

-- A piece was taken.
pub fed_going : (s u : Stream) (piece : List ℕ) → s.stop ≡ None → u ≡ fed s piece → (u.rest ≡ s.rest ++ piece) × (u.stop ≡ None)
fed_going s u piece going is =
    let at = fed_at s piece s.stop going in
    (ap (λ (v : Stream). v.rest) is ∙ at.0, ap (λ (v : Stream). v.stop) is ∙ at.1)

-- ---- what came

-- the frames of a row and of one message more, before what comes behind
frames_more : (ms : List Message) (m : Message) (rest : List ℕ) → frames_of ms ++ (framed m ++ rest) ≡ frames_of (ms ++ m ∷ []) ++ rest
frames_more ms m rest =
    sym (append_assoc (frames_of ms) (framed m) rest)
    ∙ ap (λ (w : List ℕ). (frames_of ms ++ w) ++ rest) (sym (append-nil (framed m)))
    ∙ ap (λ (w : List ℕ). w ++ rest) (sym (frames_append ms (m ∷ [])))

-- One message more was heard.
pub came_next : (bytes : List ℕ) (heard : List Message) (rest after : List ℕ) (m : Message) → IsStream bytes heard rest → IsFramed m → rest ≡ framed m ++ after
    → IsStream bytes (heard ++ m ∷ []) after
came_next bytes heard rest after m came is parts = record {
  framed_all = framed_append heard (m ∷ []) came.framed_all (is, tt);
  are = came.are ∙ ap (λ (w : List ℕ). frames_of heard ++ w) parts ∙ frames_more heard m after;
}

-- More bytes came.
pub came_more : (bytes more : List ℕ) (heard : List Message) (rest : List ℕ) → IsStream bytes heard rest → IsStream (bytes ++ more) heard (rest ++ more)
came_more bytes more heard rest came = record {
  framed_all = came.framed_all;
  are = ap (λ (w : List ℕ). w ++ more) came.are ∙ append_assoc (frames_of heard) rest more;
}

-- ---- where nothing whole is left

-- less than a whole frame begins with no frame
no_front : (b : Message) (rest behind : List ℕ) → IsFramed b → front rest ≡ part → rest ≡ framed b ++ behind → ⊥
no_front b rest behind is e same =
    let wrong : ⊥ = cc (sym e ∙ ap front same ∙ fronts (spelling b) behind is.1) in wrong

behind_first : (b : Message) (before : List Message) (m : Message) (rest : List ℕ)
    → frames_of (b ∷ (before ++ m ∷ [])) ++ rest ≡ framed b ++ (frames_of (before ++ m ∷ []) ++ rest)
behind_first b before m rest = append_assoc (framed b) (frames_of (before ++ m ∷ [])) rest

carried_by : (heard before : List Message) (m : Message) (rest after : List ℕ) → front rest ≡ part → AreFramed heard → AreFramed (before ++ m ∷ [])
    → frames_of heard ++ rest ≡ frames_of (before ++ m ∷ []) ++ after → IsAmong m heard
carried_by [] [] m rest after e all some same = absurd (no_front m rest ([] ++ after) some.0 e (same ∙ append_assoc (framed m) [] after))
carried_by [] (b ∷ before) m rest after e all some same = absurd (no_front b rest (frames_of (before ++ m ∷ []) ++ after) some.0 e (same ∙ behind_first b before m after))
carried_by (x ∷ heard) [] m rest after e all some same =
    let step = begin_together spelled_apart x m (frames_of heard ++ rest) ([] ++ after) all.0 some.0 (sym (append_assoc (framed x) (frames_of heard) rest) ∙ same ∙ append_assoc (framed m) [] after) in
    inl (sym step.0)
carried_by (x ∷ heard) (b ∷ before) m rest after e all some same =
    let step = begin_together spelled_apart x b (frames_of heard ++ rest) (frames_of (before ++ m ∷ []) ++ after) all.0 some.0 (sym (append_assoc (framed x) (frames_of heard) rest) ∙ same ∙ behind_first b before m after) in
    inr (carried_by heard before m rest after e all.1 some.1 step.1)

-- What came whole was heard, where less than a whole message is left.
pub carried_heard : (bytes : List ℕ) (heard : List Message) (rest : List ℕ) (m : Message) → IsStream bytes heard rest → front rest ≡ part → Carries bytes m → IsAmong m heard
carried_heard bytes heard rest m came e c =
    carried_by heard c.0 m rest c.1.0 e came.framed_all c.1.1.framed_all (sym came.are ∙ c.1.1.are)
