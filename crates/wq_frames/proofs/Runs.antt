-- A run of a feeder takes the frames of the messages that it gave.
use Rattle.std.proofs.Common.{◌≡◌, ◌≤◌, ℕ, Bool, inl, inr, true, false, List, [], ◌∷◌, ◌++◌, length, Option, Some, None, Result, Ok, Err, refl, sym, ap, subst, ◌∙◌, append_assoc, arith}
use Rattle.std.proofs.lemmas.List.{append-nil}
use Rattle.byte_fields.specs.Laws.{IsBytes}
use Rattle.byte_fields.proofs.Prompt.{IsBytes-append}
use Rattle.flow_types.specs.declared.messages.Message.{Message}
use Rattle.wq_messages.specs.declared.fault.MessageFault.{MessageFault}
use Rattle.wq_messages.specs.Spelling.{spelling, most_body}
use Rattle.wq_messages.specs.Reading.{message_of}
use Rattle.wq_messages.specs.Views.{shown, HasMessage}
use Rattle.wq_messages.proofs.Shown.{is_spelled, spelled_apart}
use Rattle.wq_frames.specs.declared.feeder.FeedFault.{FeedFault}
use Rattle.message_forms.specs.Streams.{frame, framed, frames_of, IsFramed, AreFramed}
use Rattle.wq_frames.specs.Frames.{Front, whole, too_long, part, front, is_whole, BeginsNoFrame}
use Rattle.wq_frames.specs.Streams.{Stream, at_rest, with_piece, heard_as, heard_by, Takes, Advances, AdvancesFrom}
use Rattle.wq_frames.specs.Runs.{Call, feeds, gives, waits, Runs, fed_in, given_in, RunsAreStreams, StreamsAreOne}
use Rattle.wq_frames.proofs.Bodies.{has_message}
use Rattle.wq_frames.proofs.Fronts.{is_frame, fronts}

-- a message was taken off the front
pub record Taken (rest : List ℕ) (m : Message) (u : Stream) : Type 0 where
  pub parts : rest ≡ framed m ++ u.rest
  pub each : IsFramed m
  pub going : u.stop ≡ None
  pub small : IsBytes u.rest

heard_at : (read : Result Message MessageFault) (body rest : List ℕ) (u : Stream)
    → (let took : Result Bool FeedFault = Ok true in took ≡ heard_as read) → u ≡ heard_by read (at_rest rest body)
    → (m : Message) × (read ≡ Ok m) × (u ≡ at_rest rest body)
heard_at (Ok m) body rest u e h = (m, refl, h)
heard_at (Err f) body rest u e h = absurd cc

taken_whole : (body rest : List ℕ) (s u : Stream) → front s.rest ≡ whole body rest → IsBytes s.rest
    → Takes body rest (Ok true) u → Taken s.rest (shown u.body) u
taken_whole body rest s u e small h =
    let got = heard_at (message_of body) body rest u h.0 h.1 in
    let p = is_frame s.rest body rest small e in
    let has : HasMessage body = has_message body got.0 got.1 in
    let spelled = is_spelled body p.1.1.0 has in
    let parts : s.rest ≡ framed (shown body) ++ rest = p.0 ∙ ap (λ (b : List ℕ). frame b ++ rest) spelled.1 in
    let fits : IsFramed (shown body) = (spelled.0, subst (λ (b : List ℕ). length b ≤ most_body) spelled.1 p.1.0) in
    let taken : Taken s.rest (shown body) (at_rest rest body) =
    record { parts = parts; each = fits; going = refl; small = p.1.1.1 } in
    subst (λ (v : Stream). Taken s.rest (shown v.body) v) (sym got.2) taken

taken_at : (f : Front) (s u : Stream) → front s.rest ≡ f → IsBytes s.rest → Advances f s (Ok true) u → Taken s.rest (shown u.body) u
taken_at (whole body rest) s u e small h =
    elim h [
      | inl took ↦ taken_whole body rest s u e small took
      | inr want ↦ let wrong = want.0 in absurd cc
    ]
taken_at (too_long n) s u e small h = let wrong = h.0 in absurd cc
taken_at part s u e small h = let wrong = h.0 in absurd cc

pub taken : (s u : Stream) (stop : Option FeedFault) → s.stop ≡ stop → IsBytes s.rest → AdvancesFrom stop s (Ok true) u → Taken s.rest (shown u.body) u
taken s u None e small h = taken_at (front s.rest) s u refl small h
taken s u (Some fault) e small h = let wrong = h.0 in absurd cc

not_waited : (read : Result Message MessageFault)
    → (let waits : Result Bool FeedFault = Ok false in waits ≡ heard_as read) → ⊥
not_waited (Ok m) e = cc
not_waited (Err f) e = cc

waited_at : (f : Front) (s u : Stream) → Advances f s (Ok false) u → u ≡ s
waited_at (whole body rest) s u h =
    elim h [
      | inl took ↦ absurd (not_waited (message_of body) took.0)
      | inr want ↦ let wrong = want.0 in absurd cc
    ]
waited_at (too_long n) s u h = let wrong = h.0 in absurd cc
waited_at part s u h = h.1

waited : (s u : Stream) (stop : Option FeedFault) → AdvancesFrom stop s (Ok false) u → u ≡ s
waited s u None h = waited_at (front s.rest) s u h
waited s u (Some fault) h = h.1

-- a run from any stream
record IsRun (s : Stream) (calls : List Call) (t : Stream) : Type 0 where
  parts : s.rest ++ fed_in calls ≡ frames_of (given_in calls) ++ t.rest
  each : AreFramed (given_in calls)
  going : t.stop ≡ None

fed_going : (s : Stream) (piece : List ℕ) (stop : Option FeedFault) → stop ≡ None → with_piece stop s piece ≡ at_rest (s.rest ++ piece) []
fed_going s piece None e = refl
fed_going s piece (Some fault) e = absurd cc

run : (calls : List Call) (s t : Stream) → s.stop ≡ None → IsBytes s.rest → Runs s calls t → IsRun s calls t
run [] s t going small h =
    record { parts = append-nil s.rest ∙ ap (λ (v : Stream). v.rest) h; each = tt; going = sym (ap (λ (v : Stream). v.stop) h) ∙ going }
run (feeds piece ∷ calls) s t going small h =
    let next = fed_going s piece s.stop going in
    let after : Stream = at_rest (s.rest ++ piece) [] in
    let later = run calls after t refl (IsBytes-append s.rest piece small h.0) (subst (λ (v : Stream). Runs v calls t) next h.1) in
    record { parts = sym (append_assoc s.rest piece (fed_in calls)) ∙ later.parts; each = later.each; going = later.going }
run (gives m ∷ calls) s t going small h =
    let u = h.0 in
    let took = taken s u s.stop refl small h.1 in
    let later = run calls u t took.going took.small h.2.1 in
    let is : shown u.body ≡ m = h.2.0 in
    let rest = fed_in calls in
    let given = frames_of (given_in calls) in
    let first : s.rest ≡ framed m ++ u.rest = took.parts ∙ ap (λ (n : Message). framed n ++ u.rest) is in
    let parts : s.rest ++ rest ≡ frames_of (m ∷ given_in calls) ++ t.rest =
    ap (λ (w : List ℕ). w ++ rest) first ∙ append_assoc (framed m) u.rest rest
    ∙ ap (λ (w : List ℕ). framed m ++ w) later.parts ∙ sym (append_assoc (framed m) given t.rest) in
    record { parts = parts; each = (subst IsFramed is took.each, later.each); going = later.going }
run (waits ∷ calls) s t going small h =
    let same = waited s h.0 s.stop h.1 in
    let later = run calls s t going small (subst (λ (v : Stream). Runs v calls t) same h.2) in
    record { parts = later.parts; each = later.each; going = later.going }

no_bytes : IsBytes []
no_bytes i = omega arith

pub runs_are_streams : RunsAreStreams
runs_are_streams calls t h =
    let whole_run = run calls (at_rest [] []) t refl no_bytes h in
    (record { framed_all = whole_run.each; are = whole_run.parts }, whole_run.going)

-- ---- one way only

abbrev rest_of : Front → List ℕ
rest_of (whole body rest) = rest
rest_of (too_long n) = []
rest_of part = []

abbrev body_of : Front → List ℕ
body_of (whole body rest) = body
body_of (too_long n) = []
body_of part = []

begins : (m : Message) (ms : List Message) (r : List ℕ) → IsFramed m → front (frames_of (m ∷ ms) ++ r) ≡ whole (spelling m) (frames_of ms ++ r)
begins m ms r fits =
    ap front (append_assoc (framed m) (frames_of ms) r)
    ∙ fronts (spelling m) (frames_of ms ++ r) fits.1

one_way : (ms ns : List Message) (r s : List ℕ) → AreFramed ms → AreFramed ns → frames_of ms ++ r ≡ frames_of ns ++ s → BeginsNoFrame r → BeginsNoFrame s → (ms ≡ ns) × (r ≡ s)
one_way [] [] r s hm hn e pr ps = (refl, e)
one_way [] (n ∷ ns) r s hm hn e pr ps =
    absurd (let wrong : ⊥ = cc (ap is_whole (ap front e ∙ begins n ns s hn.0), pr) in wrong)
one_way (m ∷ ms) [] r s hm hn e pr ps =
    absurd (let wrong : ⊥ = cc (ap is_whole (sym (ap front e) ∙ begins m ms r hm.0), ps) in wrong)
one_way (m ∷ ms) (n ∷ ns) r s hm hn e pr ps =
    let a = begins m ms r hm.0 in
    let b = begins n ns s hn.0 in
    let same : whole (spelling m) (frames_of ms ++ r) ≡ whole (spelling n) (frames_of ns ++ s) = sym a ∙ ap front e ∙ b in
    let first : m ≡ n = spelled_apart m n hm.0.0 hn.0.0 (ap body_of same) in
    let others = one_way ms ns r s hm.1 hn.1 (ap rest_of same) pr ps in
    (ap (λ (x : Message). x ∷ ms) first ∙ ap (λ (xs : List Message). n ∷ xs) others.0, others.1)

pub streams_are_one : StreamsAreOne
streams_are_one bytes ms ns r s hm hn pr ps = one_way ms ns r s hm.framed_all hn.framed_all (sym hm.are ∙ hn.are) pr ps
