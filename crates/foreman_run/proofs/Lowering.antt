-- What holds of a link to a worker as things pass over it, and why it is to be left.
use Rattle.std.proofs.Common.{◌≡◌, ◌≤◌, ◌<◌, ℕ, ◌+◌, Bool, true, false, List, [], ◌∷◌, ◌++◌, length, Result, Ok, Err, inl, inr, refl, sym, ap, ◌∙◌, subst, append_assoc, arith}
use Rattle.std.specs.Prelude.{◌⊎◌}
use Rattle.std.proofs.lemmas.List.{length-append}
use Rattle.byteorder.specs.Endian.{big_bytes}
use Rattle.flow_types.specs.declared.messages.Message.{Message}
use Rattle.flow_types.specs.declared.messages.Message.TheVariants as messages
use Rattle.flow_types.specs.declared.numbers.Amounts.{Amounts}
use Rattle.flow_types.specs.declared.numbers.LinkNo.{LinkNo}
use Rattle.links.specs.Ill.{MayBegin, most_idles_before_hello}
use Rattle.links.specs.declared.passing.Passed.TheVariants.{Received}
use Rattle.links.specs.Passings.{received_in, sent_in}
use Rattle.message_forms.proofs.Parses.{framed_append}
use Rattle.message_forms.specs.Streams.{IsBroken, IsStream, frame, framed, frames_of}
use Rattle.outside.specs.Causes.{HasCause}
use Rattle.outside.specs.declared.fault.Fault.{Fault}
use Rattle.outside.specs.declared.fault.Fault.TheVariants as outside
use Rattle.peer_run.proofs.Going.{frames_more}
use Rattle.peer_run.proofs.Sizes.{len, offer_len, spelled_len}
use Rattle.peer_run.specs.Ends.{Advanced}
use Rattle.peer_run.specs.Works.{EarState}
use Rattle.peers.proofs.Frames.{carried_heard}
use Rattle.wq_frames.proofs.Fronts.{fronts}
use Rattle.wq_frames.specs.Frames.{front, part, whole}
use Rattle.wq_messages.specs.Heads.{head_of}
use Rattle.wq_messages.specs.Spelling.{offer_bytes, spelling}
use Rattle.wq_messages.specs.Views.{shown}
use Rattle.wq_messages.specs.declared.heads.Head.{Head}
use Rattle.wq_messages.specs.declared.heads.Head.TheVariants as heads
use Rattle.wq_messages.specs.declared.heads.Ended.TheVariants as ends
use Rattle.foreman_core.specs.Members.{Every}
use Rattle.foreman_run.specs.Lost.{Seen, most_refusals, refusals_of, refused_by}
use Rattle.foreman_run.specs.Lost as loss
use Rattle.foreman_run.specs.Lowers.{CareState, IsHeld, IsLost, IsPlaced, LowerState, Passes, Went}
use Rattle.foreman_run.specs.Met.{Roll}
use Rattle.foreman_run.proofs.Losses.{refused_append}

-- ---- how long a hello's frame is

hello_len : (total largest : Amounts) (cache : ℕ) → length (spelling (messages.Hello total largest cache)) ≡ 35
hello_len total largest cache =
    omega (arith, spelled_len (messages.Hello total largest cache), length-append (big_bytes 2 1) (offer_bytes total largest cache), len 2 1, offer_len total largest cache)

framed_len : (total largest : Amounts) (cache : ℕ) → length (framed (messages.Hello total largest cache)) ≡ 39
framed_len total largest cache =
    let body = spelling (messages.Hello total largest cache) in
    omega (arith, length-append (big_bytes 4 (length body)) body, len 4 (length body), hello_len total largest cache)

-- A list that is no shorter than the beginning of what it begins has that beginning.
begins : (zs xs ys ws : List ℕ) → xs ++ ys ≡ zs ++ ws → length zs ≤ length xs → (more : List ℕ) × (xs ≡ zs ++ more)
begins [] xs ys ws same le = (xs, refl)
begins (z ∷ zs) [] ys ws same le = absurd (let wrong : ⊥ = omega (arith, le) in wrong)
begins (z ∷ zs) (x ∷ xs) ys ws same le =
    let first : x ≡ z = cc in
    let rest : xs ++ ys ≡ zs ++ ws = cc in
    let b = begins zs xs ys ws rest (omega (arith, le)) in
    (b.0, ap (λ (n : ℕ). n ∷ xs) first ∙ ap (λ (w : List ℕ). z ∷ w) b.1)

whole_part : (body rest : List ℕ) → whole body rest ≡ part → ⊥
whole_part body rest same = cc

-- Where as many bytes came as a hello's frame has, and no whole frame, they begin no hello.
pub stranger_by : (up : List ℕ) → front up ≡ part → 39 ≤ length up → (total largest : Amounts) (cache : ℕ) → MayBegin up (messages.Hello total largest cache) → ⊥
stranger_by up none long total largest cache (more, behind, same) =
    let m : Message = messages.Hello total largest cache in
    let b = begins (framed m) up more behind same (omega (arith, long, framed_len total largest cache)) in
    let taken : front up ≡ whole (spelling m) b.0 = ap front b.1 ∙ fronts (spelling m) b.0 (omega (arith, hello_len total largest cache)) in
    whole_part (spelling m) b.0 (sym taken ∙ none)

-- ---- answers that an attempt wasn't run

refused_mono : (a b : ℕ) (h : Head) → a ≤ b → refused_by a h ≤ refused_by b h
refused_mono a b (heads.Done attempt ends.NotRun) le = omega (arith, le)
refused_mono a b (heads.Done attempt ends.Success) le = omega arith
refused_mono a b (heads.Done attempt (ends.Failed why)) le = omega arith
refused_mono a b (heads.Hello total largest cache) le = le
refused_mono a b (heads.Put key) le = le
refused_mono a b heads.Task le = le
refused_mono a b (heads.Missing attempt) le = le
refused_mono a b (heads.Cancel attempt) le = le
refused_mono a b (heads.Unlink key) le = le
refused_mono a b (heads.Totals total largest cache) le = le
refused_mono a b heads.Bye le = le

pub refused_next : (n now : ℕ) (heard : List Message) (m : Message) → n ≤ refusals_of heard → now ≤ refused_by n (head_of m) → now ≤ refusals_of (heard ++ m ∷ [])
refused_next n now heard m le then =
    let mono = refused_mono n (refusals_of heard) (head_of m) le in
    omega (arith, then, mono, refused_append 0 heard (m ∷ []))

-- ---- what passes

-- The messages that came by now, one more among them.
pub came_next : (up : List ℕ) (heard : List Message) (m : Message) (old new : EarState) → Advanced old (Ok true) new → shown new.body ≡ m → IsStream up heard old.rest → IsStream up (heard ++ m ∷ []) new.rest
came_next up heard m old new took is came =
    subst (λ (x : Message). IsStream up (heard ++ x ∷ []) new.rest) is (record {
      framed_all = framed_append heard (shown new.body ∷ []) came.framed_all (took.0, tt);
      are = came.are ∙ ap (λ (r : List ℕ). frames_of heard ++ r) took.1 ∙ frames_more heard (shown new.body) new.rest;
    })

-- The other, where it isn't to be left.
pub late_or : (gone : Bool) (X : Type 0) → gone ≡ false → (gone ≡ true) ⊎ X → X
late_or gone X before (inl wrong) = absurd (let no_way : ⊥ = cc (sym before ∙ wrong) in no_way)
late_or gone X before (inr x) = x

module _ {L : Type 0} (tells : Type 0) (seen : L → Seen) (roll : Roll) (heard : List Message) where
  abbrev pub Holds : LowerState L → Type 0
  Holds l = IsHeld tells seen roll heard l

  -- A link that isn't to be left.
  pub still_held : (new : LowerState L) → new.gone ≡ false → IsPlaced roll new.link heard → (tells → Passes (seen new.way).history new.ear new.care new.link roll heard) → Holds new
  still_held new stays placed passes = record { placed = λ is. placed; passes = λ is. passes; lost = λ gone starved t. absurd (let wrong : ⊥ = cc (sym stays ∙ gone) in wrong) }

  -- A link that is to be left.
  pub gone_held : (new : LowerState L) → new.gone ≡ true → (new.starved ≡ false → tells → IsLost roll new.link (seen new.way)) → Holds new
  gone_held new gone why = record { placed = λ stays. absurd (let wrong : ⊥ = cc (sym gone ∙ stays) in wrong); passes = λ stays t. absurd (let wrong : ⊥ = cc (sym gone ∙ stays) in wrong); lost = λ is. why }

  -- It is to be left for want of memory.
  pub starved_held : (new : LowerState L) → new.gone ≡ true → new.starved ≡ true → Holds new
  starved_held new gone starved = gone_held new gone (λ fed t. absurd (let wrong : ⊥ = cc (sym starved ∙ fed) in wrong))

  -- It is to be left since it failed.
  pub failed_held : (new : LowerState L) (before : ℕ) → new.gone ≡ true → before < (seen new.way).faults → Holds new
  failed_held new before gone rose = gone_held new gone (λ fed t. loss.failed (let some : 0 < (seen new.way).faults = omega (arith, rose) in some))

  -- the same link, which is to be left
  abbrev pub left_so : LowerState L → Bool → LowerState L
  left_so l starved = record { link = l.link; way = l.way; ear = l.ear; care = l.care; gone = true; starved = starved }

  -- It is to be left since a call of it failed.
  pub fault_held : (T : Type 0) (mid new : LowerState L) (fault : Fault) (before : ℕ) → (fault ≡ outside.Failed → new ≡ left_so mid mid.starved) → (fault ≡ outside.Memory → new ≡ left_so mid true)
      → (let r : Result T Fault = Err fault in HasCause before (seen mid.way).faults r) → Holds new
  fault_held T mid new outside.Failed before failed memory cause =
      let is = failed refl in
      failed_held new before (ap (λ (l : LowerState L). l.gone) is) (subst (λ (l : LowerState L). before < (seen l.way).faults) (sym is) (cause.failed refl))
  fault_held T mid new outside.Memory before failed memory cause =
      let is = memory refl in
      starved_held new (ap (λ (l : LowerState L). l.gone) is) (ap (λ (l : LowerState L). l.starved) is)

  -- It is to be left since it is closed.
  pub closed_held : (new : LowerState L) → new.gone ≡ true → (seen new.way).closed ≡ true → Holds new
  closed_held new gone closed = gone_held new gone (λ fed t. loss.closed closed)

  -- Nothing passed.
  pub idle_held : (old new : LowerState L) → new.link ≡ old.link → new.ear.rest ≡ old.ear.rest → new.care ≡ old.care → old.gone ≡ false → new.gone ≡ false → (tells → (seen new.way).history ≡ (seen old.way).history) → Holds old → Holds new
  idle_held old new link rest care before stays same held = still_held new stays (subst (λ (k : LinkNo). IsPlaced roll k heard) (sym link) (held.placed before)) (λ t.
      let p = held.passes before t in
      record {
        said = p.said;
        said_framed = p.said_framed;
        are_sent = ap sent_in (same t) ∙ p.are_sent;
        went = subst (λ (k : LinkNo). Every (Went roll.down k) p.said) (sym link) p.went;
        came = record { framed_all = p.came.framed_all; are = ap received_in (same t) ∙ p.came.are ∙ ap (λ (r : List ℕ). frames_of heard ++ r) (sym rest) };
        unheard = λ g. p.unheard (ap (λ (c : CareState). c.greeted) (sym care) ∙ g);
        early = λ g. let le = p.early (ap (λ (c : CareState). c.greeted) (sym care) ∙ g) in omega (arith, le, ap (λ (c : CareState). c.early) care, ap length rest);
        refused = let le = p.refused in omega (arith, le, ap (λ (c : CareState). c.refused) care);
      })

  -- A piece came, and is kept.
  pub piece_held : (old new : LowerState L) (bytes : List ℕ) → new.link ≡ old.link → new.ear.rest ≡ old.ear.rest ++ bytes → new.care.greeted ≡ old.care.greeted → new.care.refused ≡ old.care.refused
      → new.care.early ≤ old.care.early + length bytes → old.gone ≡ false → new.gone ≡ false → (tells → (seen new.way).history ≡ Received bytes ∷ (seen old.way).history) → Holds old → Holds new
  piece_held old new bytes link rest greeted refused early before stays same held = still_held new stays (subst (λ (k : LinkNo). IsPlaced roll k heard) (sym link) (held.placed before)) (λ t.
      let p = held.passes before t in
      record {
        said = p.said;
        said_framed = p.said_framed;
        are_sent = ap sent_in (same t) ∙ p.are_sent;
        went = subst (λ (k : LinkNo). Every (Went roll.down k) p.said) (sym link) p.went;
        came = record {
          framed_all = p.came.framed_all;
          are = ap received_in (same t) ∙ ap (λ (r : List ℕ). r ++ bytes) p.came.are ∙ append_assoc (frames_of heard) old.ear.rest bytes ∙ ap (λ (r : List ℕ). frames_of heard ++ r) (sym rest);
        };
        unheard = λ g. p.unheard (sym greeted ∙ g);
        early = λ g. let le = p.early (sym greeted ∙ g) in omega (arith, le, early, ap length rest, length-append old.ear.rest bytes);
        refused = let le = p.refused in omega (arith, le, refused);
      })

  -- where nothing was heard, what came is what is left
  none_heard : (up rest : List ℕ) → IsStream up heard rest → heard ≡ [] → up ≡ rest
  none_heard up rest came none = came.are ∙ ap (λ (ms : List Message). frames_of ms ++ rest) none

  -- There is no whole message, and the first one can't come any more or is late.
  late_lost : (old : LowerState L) → front old.ear.rest ≡ part → old.care.greeted ≡ false → (39 ≤ old.care.early) ⊎ (most_idles_before_hello ≤ (seen old.way).idles)
      → Passes (seen old.way).history old.ear old.care old.link roll heard → IsLost roll old.link (seen old.way)
  late_lost old none greeted (inl many) p =
      let same = none_heard (received_in (seen old.way).history) old.ear.rest p.came (p.unheard greeted) in
      let long : 39 ≤ length (received_in (seen old.way).history) = omega (arith, many, p.early greeted, ap length same) in
      loss.misspoken (loss.stranger (λ total largest cache. stranger_by (received_in (seen old.way).history) (ap front same ∙ none) long total largest cache))
  late_lost old none greeted (inr late) p =
      loss.silent late (λ has.
      let there = carried_heard (received_in (seen old.way).history) heard old.ear.rest (messages.Hello has.0 has.1 has.2) p.came none has.3 in
      let wrong : ⊥ = subst (λ (ms : List Message). Rattle.message_forms.specs.Streams.IsAmong (messages.Hello has.0 has.1 has.2) ms) (p.unheard greeted) there in wrong)

  pub waits_held : (old new : LowerState L) → new.link ≡ old.link → new.way ≡ old.way → new.ear.rest ≡ old.ear.rest → new.care ≡ old.care → old.gone ≡ false → front old.ear.rest ≡ part
      → (new.gone ≡ true → (old.care.greeted ≡ false) × ((39 ≤ old.care.early) ⊎ (most_idles_before_hello ≤ (seen old.way).idles))) → Holds old → Holds new
  waits_held old new link way rest care before none why held = by new.gone refl
    where
      by : (b : Bool) → new.gone ≡ b → Holds new
      by false stays = idle_held old new link rest care before stays (λ t. ap (λ (w : L). (seen w).history) way) held
      by true gone = gone_held new gone (λ fed t.
          let late = why gone in
          subst (λ (w : L). IsLost roll new.link (seen w)) (sym way) (subst (λ (k : LinkNo). IsLost roll k (seen old.way)) (sym link) (late_lost old none late.0 late.1 (held.passes before t))))

  -- What came leaves the grammar.
  pub broken_held : (old new : LowerState L) → new.link ≡ old.link → new.way ≡ old.way → old.gone ≡ false → new.gone ≡ true → IsBroken old.ear.rest → Holds old → Holds new
  broken_held old new link way before gone broken held = gone_held new gone (λ fed t.
      let p = held.passes before t in
      subst (λ (w : L). IsLost roll new.link (seen w)) (sym way) (loss.misspoken (loss.broken heard (old.ear.rest, p.came, broken))))

  -- One message more was taken, and the worker answered too often that an attempt wasn't run.
  pub tired_held : (old mid new : LowerState L) → mid.link ≡ old.link → mid.way ≡ old.way → old.gone ≡ false → Advanced old.ear (Ok true) mid.ear → mid.care.refused ≡ old.care.refused
      → new.link ≡ mid.link → new.way ≡ mid.way → new.gone ≡ true → new.care.refused ≤ refused_by mid.care.refused (head_of (shown mid.ear.body)) → most_refusals ≤ new.care.refused → Holds old → Holds new
  tired_held old mid new link way before took refused link_now way_now gone le many held = gone_held new gone (λ fed t.
      let p = held.passes before t in
      let m : Message = shown mid.ear.body in
      let up : List ℕ = received_in (seen old.way).history in
      let more : new.care.refused ≤ refusals_of (heard ++ m ∷ []) =
      refused_next mid.care.refused new.care.refused heard m (let q = p.refused in omega (arith, q, refused)) le in
      let cause : IsLost roll new.link (seen old.way) = loss.refuses (heard ++ m ∷ []) (mid.ear.rest, came_next up heard m old.ear mid.ear took refl p.came) (omega (arith, many, more)) in
      subst (λ (w : L). IsLost roll new.link (seen w)) (sym (way_now ∙ way)) cause)
