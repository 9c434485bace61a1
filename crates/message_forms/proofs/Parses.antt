-- A stream of frames is read in one way.
use Rattle.std.proofs.Common.{◌≡◌, ◌≤◌, ◌<◌, ◌^◌, inl, inr, ℕ, List, [], ◌∷◌, ◌++◌, length, Result, Ok, refl, sym, ap, subst, ◌∙◌, append_assoc, append-nil, arith}
use Rattle.byteorder.specs.Endian.{big_bytes, big_number}
use Rattle.byteorder.specs.Numbers.{big_number-reads_back}
use Rattle.byte_fields.specs.declared.fault.FieldFault.{FieldFault}
use Rattle.byte_fields.specs.Reading.{bytes_at}
use Rattle.byte_fields.specs.Spelling.{counted}
use Rattle.byte_fields.proofs.Fields.{counted_is_field}
use Rattle.flow_types.specs.declared.messages.Message.{Message}
use Rattle.wq_messages.specs.Spelling.{spelling, most_body}
use Rattle.wq_messages.specs.Laws.{SpelledApart}
use Rattle.wq_messages.proofs.Shown.{spelled_apart}
use Rattle.message_forms.specs.Laws.{RowsCarryTheirOwn, CarriedStays, BrokenBeginsNoFrame}
use Rattle.message_forms.specs.Streams.{frame, framed, frames_of, IsFramed, AreFramed, BeginsWith, Carries, IsAmong, too_long, bad}

-- ---- what comes behind

pub begins_more : (bytes more : List ℕ) (ms : List Message) → BeginsWith bytes ms → BeginsWith (bytes ++ more) ms
begins_more bytes more ms b = (
  b.0 ++ more,
  record {
    framed_all = b.1.framed_all;
    are = ap (λ (w : List ℕ). w ++ more) b.1.are ∙ append_assoc (frames_of ms) b.0 more;
  },
)

-- bytes carry what their beginning carries
pub carries_more : CarriedStays
carries_more bytes more m c = (c.0, begins_more bytes more (c.0 ++ m ∷ []) c.1)

-- ---- rows one after the other

pub frames_append : (xs ys : List Message) → frames_of (xs ++ ys) ≡ frames_of xs ++ frames_of ys
frames_append [] ys = refl
frames_append (x ∷ xs) ys =
    ap (λ (w : List ℕ). framed x ++ w) (frames_append xs ys)
    ∙ sym (append_assoc (framed x) (frames_of xs) (frames_of ys))

pub framed_append : (xs ys : List Message) → AreFramed xs → AreFramed ys → AreFramed (xs ++ ys)
framed_append [] ys left right = right
framed_append (x ∷ xs) ys left right = (left.0, framed_append xs ys left.1 right)

pub last_framed : (xs : List Message) (m : Message) → AreFramed (xs ++ m ∷ []) → IsFramed m
last_framed [] m all = all.0
last_framed (x ∷ xs) m all = last_framed xs m all.1

-- ---- one way to read

read_alike : (p q : List ℕ × List ℕ) → (let one : Result (List ℕ × List ℕ) FieldFault = Ok p in one ≡ Ok q) → p ≡ q
read_alike p q same = cc

-- two frames in front of the same bytes are one
pub same_frame : (a b x y : List ℕ) → length a ≤ most_body → length b ≤ most_body → frame a ++ x ≡ frame b ++ y → (a ≡ b) × (x ≡ y)
same_frame a b x y few_a few_b same =
    let left : bytes_at (counted a ++ x) ≡ Ok (a, x) = counted_is_field.again a x (omega arith) in
    let right : bytes_at (counted b ++ y) ≡ Ok (b, y) = counted_is_field.again b y (omega arith) in
    let both : (a, x) ≡ (b, y) = read_alike (a, x) (b, y) (sym left ∙ ap bytes_at same ∙ right) in
    (ap (λ (p : List ℕ × List ℕ). p.0) both, ap (λ (p : List ℕ × List ℕ). p.1) both)

pub begin_together : SpelledApart → (m n : Message) (x y : List ℕ) → IsFramed m → IsFramed n → framed m ++ x ≡ framed n ++ y → (m ≡ n) × (x ≡ y)
begin_together one m n x y is_m is_n same =
    let both = same_frame (spelling m) (spelling n) x y is_m.1 is_n.1 same in
    (one m n is_m.0 is_n.0 both.0, both.1)

-- ---- what a row of frames carries

-- no frame is empty
no_frame : (n : Message) (y : List ℕ) → [] ≡ framed n ++ y → ⊥
no_frame n y same = absurd cc

-- the frames of a row and of one message more, taken apart behind the first
behind_first : (b : Message) (before : List Message) (m : Message) (rest : List ℕ)
    → frames_of (b ∷ (before ++ m ∷ [])) ++ rest ≡ framed b ++ (frames_of (before ++ m ∷ []) ++ rest)
behind_first b before m rest = append_assoc (framed b) (frames_of (before ++ m ∷ [])) rest

pub carried_stands : SpelledApart → (ms before : List Message) (m : Message) (rest : List ℕ) → AreFramed ms → AreFramed (before ++ m ∷ [])
    → frames_of ms ≡ frames_of (before ++ m ∷ []) ++ rest → IsAmong m ms
carried_stands one [] [] m rest all some same = no_frame m ([] ++ rest) (same ∙ append_assoc (framed m) [] rest)
carried_stands one [] (b ∷ before) m rest all some same =
    no_frame b (frames_of (before ++ m ∷ []) ++ rest) (same ∙ behind_first b before m rest)
carried_stands one (x ∷ ms) [] m rest all some same =
    let step = begin_together one x m (frames_of ms) ([] ++ rest) all.0 some.0 (same ∙ append_assoc (framed m) [] rest) in
    inl (sym step.0)
carried_stands one (x ∷ ms) (b ∷ before) m rest all some same =
    let step = begin_together one x b (frames_of ms) (frames_of (before ++ m ∷ []) ++ rest) all.0 some.0 (same ∙ behind_first b before m rest) in
    inr (carried_stands one ms before m rest all.1 some.1 step.1)

-- what a row of frames carries is one of its messages
pub carried_among : SpelledApart → (ms : List Message) (m : Message) → AreFramed ms → Carries (frames_of ms) m → IsAmong m ms
carried_among one ms m all c = carried_stands one ms c.0 m c.1.0 all c.1.1.framed_all c.1.1.are

-- a further frame is carried
pub carries_next : (bytes : List ℕ) (ms : List Message) (m : Message) (more : List ℕ) → AreFramed ms → IsFramed m → bytes ≡ frames_of ms ++ (framed m ++ more) → Carries bytes m
carries_next bytes ms m more all is same = (
  ms,
  (
    more,
    record {
      framed_all = framed_append ms (m ∷ []) all (is, tt);
      are = same ∙ sym (append_assoc (frames_of ms) (framed m) more)
          ∙ ap (λ (w : List ℕ). (frames_of ms ++ w) ++ more) (sym (append-nil (framed m)))
          ∙ ap (λ (w : List ℕ). w ++ more) (sym (frames_append ms (m ∷ [])));
    },
  ),
)

-- what bytes carry, those bytes behind a frame carry too
carries_behind : (x : Message) (bytes : List ℕ) (m : Message) → IsFramed x → Carries bytes m → Carries (framed x ++ bytes) m
carries_behind x bytes m is c = (
  x ∷ c.0,
  (
    c.1.0,
    record {
      framed_all = (is, c.1.1.framed_all);
      are = ap (λ (w : List ℕ). framed x ++ w) c.1.1.are ∙ sym (behind_first x c.0 m c.1.0);
    },
  ),
)

-- a row of frames carries each of its messages
pub among_carried : (ms : List Message) (m : Message) → AreFramed ms → IsAmong m ms → Carries (frames_of ms) m
among_carried [] m all is = absurd is
among_carried (x ∷ ms) m all (inl same) =
    carries_next (frames_of (x ∷ ms)) [] m (frames_of ms) tt (subst IsFramed (sym same) all.0) (ap (λ (n : Message). framed n ++ frames_of ms) (sym same))
among_carried (x ∷ ms) m all (inr later) = carries_behind x (frames_of ms) m all.0 (among_carried ms m all.1 later)

pub rows_carry_their_own : RowsCarryTheirOwn
rows_carry_their_own ms m all = (carried_among spelled_apart ms m all, among_carried ms m all)

-- ---- where the grammar is left

-- the length in front of a frame
length_of_frame : (body rest : List ℕ) → length body < 2 ^ 32 → big_number 4 (frame body ++ rest) ≡ length body
length_of_frame body rest few =
    ap (big_number 4) (append_assoc (big_bytes 4 (length body)) body rest) ∙ big_number-reads_back 4 (length body) (body ++ rest) few

pub broken_begins_no_frame : BrokenBeginsNoFrame
broken_begins_no_frame bytes m (too_long n after small long is) begins =
    let few = begins.1.framed_all.0.1 in
    let same : frame (spelling m) ++ ([] ++ begins.0) ≡ big_bytes 4 n ++ after =
    sym (append_assoc (framed m) [] begins.0) ∙ sym begins.1.are ∙ is in
    let number : length (spelling m) ≡ n =
    sym (length_of_frame (spelling m) ([] ++ begins.0) (omega arith)) ∙ ap (big_number 4) same ∙ big_number-reads_back 4 n after small in
    absurd (omega arith)
broken_begins_no_frame bytes m (bad body after few none is) begins =
    let same : frame (spelling m) ++ ([] ++ begins.0) ≡ frame body ++ after =
    sym (append_assoc (framed m) [] begins.0) ∙ sym begins.1.are ∙ is in
    none m begins.1.framed_all.0.0 (same_frame (spelling m) body ([] ++ begins.0) after begins.1.framed_all.0.1 few same).0
