-- Several messages that are said one after the other.
use Rattle.std.proofs.Common.{◌≡◌, ◌≤◌, ℕ, ◌+◌, List, [], ◌∷◌, ◌++◌, length, Result, Ok, Err, refl, sym, ap, ◌∙◌, subst, append_assoc, append-nil, arith}
use Rattle.std.specs.Prelude.{OnOk}
use Rattle.std.proofs.lemmas.List.{length-append}
use Rattle.flow_types.specs.declared.job.Failure.{Failure}
use Rattle.flow_types.specs.declared.job.Job.{Job}
use Rattle.byteorder.specs.Endian.{big_bytes}
use Rattle.byte_fields.specs.Spelling.{counted}
use Rattle.flow_types.specs.declared.messages.Key.{Key}
use Rattle.flow_types.specs.declared.messages.Message.{Message}
use Rattle.flow_types.specs.declared.messages.Message.TheVariants as messages
use Rattle.flow_types.specs.Serial.{Function}
use Rattle.links.specs.declared.passing.Passed.{Passed}
use Rattle.links.specs.Passings.{Transmits, received_in, sent_in}
use Rattle.links.specs.Peers.{IsRightLink, MaySay}
use Rattle.message_forms.proofs.Parses.{frames_append}
use Rattle.message_forms.specs.Streams.{IsFramed, framed, frames_of}
use Rattle.wq_messages.specs.Spelling.{IsKey, key_bytes, most_body, spelling}
use Rattle.outside.specs.declared.fault.Fault.{Fault}
use Rattle.peer_run.specs.Says.{Each, SaysAll, SendsAll}
use Rattle.peer_run.proofs.Sizes.{len, spelled_len}
use Rattle.peers.specs.Sends.{put_head}
use Rattle.peers.proofs.Sending.{put_parts}
use Rattle.foreman_run.specs.Says.{Adds, SaysOne}

-- what holds of each holds of the one behind some
pub each_behind : (P : Message → Type 0) (past : List Message) (m : Message) (left : List Message) → Each P (past ++ m ∷ left) → P m
each_behind P [] m left all = all.0
each_behind P (x ∷ past) m left all = each_behind P past m left all.1

abbrev pub done : Result (Unit {0}) Fault
done = Ok tt

sends_then : (ms ns : List Message) (h0 h1 h2 : List Passed) (r : Result (Unit {0}) Fault) → SendsAll done ms h0 h1 → SendsAll r ns h1 h2 → SendsAll r (ms ++ ns) h0 h2
sends_then ms ns h0 h1 h2 (Ok x) a b = (
  b.0 ∙ a.0,
  b.1 ∙ ap (λ (w : List ℕ). w ++ frames_of ns) a.1 ∙ append_assoc (sent_in h0) (frames_of ms) (frames_of ns) ∙ ap (λ (w : List ℕ). sent_in h0 ++ w) (sym (frames_append ms ns)),
)
sends_then ms ns h0 h1 h2 (Err fault) a b = (
  b.0 ∙ a.0,
  (
    b.1.0,
    b.1.1 ∙ ap (λ (w : List ℕ). w ++ frames_of ns) a.1 ∙ append_assoc (sent_in h0) (frames_of ms) (frames_of ns) ∙ ap (λ (w : List ℕ). sent_in h0 ++ w) (sym (frames_append ms ns)),
  ),
)

-- what was cut short of some is cut short of more
sends_less : (ms ns : List Message) (h0 h1 : List Passed) (fault : Fault) → (let r : Result (Unit {0}) Fault = Err fault in SendsAll r ms h0 h1) → (let r : Result (Unit {0}) Fault = Err fault in SendsAll r (ms ++ ns) h0 h1)
sends_less ms ns h0 h1 fault a = (
  a.0,
  (
    a.1.0 ++ frames_of ns,
    sym (append_assoc (sent_in h1) a.1.0 (frames_of ns)) ∙ ap (λ (w : List ℕ). w ++ frames_of ns) a.1.1 ∙ append_assoc (sent_in h0) (frames_of ms) (frames_of ns)
        ∙ ap (λ (w : List ℕ). sent_in h0 ++ w) (sym (frames_append ms ns)),
  ),
)

module _ (gives : Function) (may_fail : Job → Failure → Type 0) (tells : Type 0) where
  -- These of them are left, and the others were said.
  pub record SaidSoFar (ms left : List Message) (h0 h1 : List Passed) : Type 0 where
    pub past : List Message
    pub are : past ++ left ≡ ms
    pub sent : tells → SendsAll done past h0 h1
    pub said : (said : List Message) → tells → IsRightLink gives may_fail h0 said → Each (MaySay gives may_fail (received_in h0)) ms → IsRightLink gives may_fail h1 (said ++ past)

  -- None was said.
  pub said_none : (ms left : List Message) (h : List Passed) → left ≡ ms → SaidSoFar ms left h h
  said_none ms left h is = record {
    past = [];
    are = is;
    sent = λ t. (refl, sym (append-nil (sent_in h)));
    said = λ said t right may. subst (IsRightLink gives may_fail h) (sym (append-nil said)) right;
  }

  -- The next one may be said.
  pub next_told : (P : Message → Type 0) (ms left rest : List Message) (m : Message) (h0 h1 : List Passed) → left ≡ m ∷ rest → SaidSoFar ms left h0 h1 → Each P ms → P m
  next_told P ms left rest m h0 h1 is s all = each_behind P s.past m rest (subst (Each P) (sym (ap (λ (l : List Message). s.past ++ l) (sym is) ∙ s.are)) all)

  may_now : (ms left rest : List Message) (m : Message) (h0 h1 : List Passed) → left ≡ m ∷ rest → SaidSoFar ms left h0 h1 → tells → Each (MaySay gives may_fail (received_in h0)) ms → MaySay gives may_fail (received_in h1) m
  may_now ms left rest m h0 h1 is s t may =
      subst (λ (b : List ℕ). MaySay gives may_fail b m) (sym (s.sent t).0) (next_told (MaySay gives may_fail (received_in h0)) ms left rest m h0 h1 is s may)

  -- One more was said.
  pub said_more : (ms left rest : List Message) (m : Message) (h0 h1 h2 : List Passed) → left ≡ m ∷ rest → SaidSoFar ms left h0 h1 → SaysOne gives may_fail tells m h1 h2 done → SaidSoFar ms rest h0 h2
  said_more ms left rest m h0 h1 h2 is s one = record {
    past = s.past ++ m ∷ [];
    are = append_assoc s.past (m ∷ []) rest ∙ ap (λ (l : List Message). s.past ++ l) (sym is) ∙ s.are;
    sent = λ t. sends_then s.past (m ∷ []) h0 h1 h2 done (s.sent t) (one.sent t);
    said = λ said t right may. subst (IsRightLink gives may_fail h2) (append_assoc said s.past (m ∷ []))
        (one.said (said ++ s.past) t (s.said said t right may) (may_now ms left rest m h0 h1 is s t may));
  }

  -- One was cut short: so are all of them.
  pub said_short : (ms left rest : List Message) (m : Message) (h0 h1 h2 : List Passed) (fault : Fault) → left ≡ m ∷ rest → SaidSoFar ms left h0 h1
      → (let r : Result (Unit {0}) Fault = Err fault in SaysOne gives may_fail tells m h1 h2 r)
      → (let r : Result (Unit {0}) Fault = Err fault in (tells → SendsAll r ms h0 h2)
      × ((said : List Message) → tells → IsRightLink gives may_fail h0 said → Each (MaySay gives may_fail (received_in h0)) ms → SaysAll gives may_fail ms said h2 r))
  said_short ms left rest m h0 h1 h2 fault is s one =
      let r : Result (Unit {0}) Fault = Err fault in
      let all : (s.past ++ m ∷ []) ++ rest ≡ ms = append_assoc s.past (m ∷ []) rest ∙ ap (λ (l : List Message). s.past ++ l) (sym is) ∙ s.are in (
        (λ t. subst (λ (xs : List Message). SendsAll r xs h0 h2) all
            (sends_less (s.past ++ m ∷ []) rest h0 h2 fault (sends_then s.past (m ∷ []) h0 h1 h2 r (s.sent t) (one.sent t)))),
        (λ said t right may. one.said (said ++ s.past) t (s.said said t right may) (may_now ms left rest m h0 h1 is s t may)),
      )

  -- All were said.
  pub said_whole : (ms left : List Message) (h0 h1 : List Passed) → left ≡ [] → SaidSoFar ms left h0 h1
      → (tells → SendsAll done ms h0 h1) × ((said : List Message) → tells → IsRightLink gives may_fail h0 said → Each (MaySay gives may_fail (received_in h0)) ms → IsRightLink gives may_fail h1 (said ++ ms))
  said_whole ms left h0 h1 is s =
      let all : s.past ≡ ms = sym (append-nil s.past) ∙ ap (λ (l : List Message). s.past ++ l) (sym is) ∙ s.are in (
        (λ t. subst (λ (xs : List Message). SendsAll done xs h0 h1) all (s.sent t)),
        (λ said t right may. subst (λ (xs : List Message). IsRightLink gives may_fail h1 (said ++ xs)) all (s.said said t right may)),
      )

-- ---- a Put in two calls

put_len : (key : Key) (content : List ℕ) → length (spelling (messages.Put key content)) ≡ 17 + length content
put_len key content = omega (
  arith,
  spelled_len (messages.Put key content),
  length-append (key_bytes key) (counted content),
  length-append (big_bytes 8 key.run) (big_bytes 4 key.file.0),
  length-append (big_bytes 4 (length content)) content,
  len 8 key.run,
  len 4 key.file.0,
  len 4 (length content),
)

-- A content that can be told fits a frame.
pub put_short : (key : Key) (content : List ℕ) → length (spelling (messages.Put key content)) ≤ most_body → 17 + length content ≤ most_body
put_short key content short = omega (arith, short, put_len key content)

pub put_fits : (key : Key) (content : List ℕ) → IsKey key → 17 + length content ≤ most_body → IsFramed (messages.Put key content)
put_fits key content is short = ((is, omega (arith, short)), omega (arith, short, put_len key content))

-- The head went out, and then the content.
pub put_adds : (key : Key) (content head : List ℕ) (old mid new : List Passed) → head ≡ put_head key (length content) → (let r : Result (Unit {0}) Fault = Ok tt in Transmits r head old mid)
    → (let r : Result (Unit {0}) Fault = Ok tt in Transmits r content mid new) → Adds (framed (messages.Put key content)) old new
put_adds key content head old mid new is first second =
    let whole : head ++ content ≡ framed (messages.Put key content) = ap (λ (h : List ℕ). h ++ content) is ∙ put_parts key content in (
      ap sent_in second ∙ ap (λ (w : List ℕ). w ++ content) (ap sent_in first) ∙ append_assoc (sent_in old) head content ∙ ap (λ (w : List ℕ). sent_in old ++ w) whole,
      ap received_in second ∙ ap received_in first,
    )

-- The same, whatever came of the content.
pub put_sent : (r : Result (Unit {0}) Fault) (key : Key) (content head : List ℕ) (old mid new : List Passed) → head ≡ put_head key (length content)
    → (let first : Result (Unit {0}) Fault = Ok tt in Transmits first head old mid) → Transmits r content mid new → OnOk r (Adds (framed (messages.Put key content)) old new)
put_sent (Ok x) key content head old mid new is first second = put_adds key content head old mid new is first second
put_sent (Err fault) key content head old mid new is first second = tt

-- One frame went out, whatever came of it.
pub frame_sent : (r : Result (Unit {0}) Fault) (m : Message) (bytes : List ℕ) (old new : List Passed) → bytes ≡ framed m → Transmits r bytes old new → OnOk r (Adds (framed m) old new)
frame_sent (Ok x) m bytes old new is out = (ap sent_in out ∙ ap (λ (b : List ℕ). sent_in old ++ b) is, ap received_in out)
frame_sent (Err fault) m bytes old new is out = tt
