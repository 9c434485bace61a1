-- The laws of the decoder of frames.
use Rattle.std.proofs.Common.{◌≡◌, ◌≤◌, ◌+◌, ℕ, Bool, true, false, ltb, List, ◌++◌, length, take, drop, None, Result, Ok, Err, refl, sym, ap, ◌∙◌, subst, arith}
use Rattle.byteorder.specs.Endian.{big_number}
use Rattle.byteorder.specs.Numbers.{big_from-append}
use Rattle.std.proofs.lemmas.Bool.{ltb-false, le-ltb}
use Rattle.std.proofs.lemmas.List.{take-append-le, drop-append-le, length-append, length-drop}
use Rattle.wq_messages.specs.Spelling.{most_body}
use Rattle.bytes.specs.Filled.{Filled}
use Rattle.tokio_util.specs.Codec.Next.{Gives, decoded, partial, at_end, IsStable, PartialHasNoFrame, EndIsPartial}
use Rattle.wq_frames.specs.declared.codec.FrameFault.{FrameFault}
use Rattle.wq_frames.specs.declared.codec.FrameCodec.{FrameCodec}
use Rattle.wq_frames.specs.Frames.{Front, whole, too_long, part, front, front_by, Answers, IsPart}

-- What the decoder gives: at a whole frame or a length above the limit an answer, else nothing yet.
abbrev pub gives_frames : Gives FrameCodec Filled FrameFault
gives_frames c bytes (decoded r t after) = Answers (front bytes) bytes r after
gives_frames c bytes partial = IsPart (front bytes)
gives_frames c bytes (at_end r t after) = IsPart (front bytes) × (r ≡ Ok None) × (after ≡ bytes)

stable_whole : (xs : List ℕ) (r : Result Filled FrameFault) (ys more : List ℕ) (n : ℕ) → Answers (whole (take n (drop 4 xs)) (drop n (drop 4 xs))) xs r ys
    → Answers (whole (take n (drop 4 xs)) (drop n (drop 4 xs) ++ more)) (xs ++ more) r (ys ++ more)
stable_whole xs (Ok b) ys more n h = (h.0, ap (λ (w : List ℕ). w ++ more) h.1)
stable_whole xs (Err e) ys more n h = (h.0, ap (λ (w : List ℕ). w ++ more) h.1)

stable_long : (xs : List ℕ) (r : Result Filled FrameFault) (ys more : List ℕ) (n : ℕ) → Answers (too_long n) xs r ys → Answers (too_long n) (xs ++ more) r (ys ++ more)
stable_long xs (Ok b) ys more n h = absurd h
stable_long xs (Err e) ys more n h = (h.0, ap (λ (w : List ℕ). w ++ more) h.1)

number_stays : (xs more : List ℕ) → ltb (length xs) 4 ≡ false → big_number 4 (xs ++ more) ≡ big_number 4 xs
number_stays xs more h = big_from-append 4 xs more (ltb-false _ _ h)

-- the same head in front of more
head_stays : (xs more : List ℕ) → ltb (length xs) 4 ≡ false → front (xs ++ more) ≡ front_by false (ltb most_body (big_number 4 xs)) (ltb (length (xs ++ more)) (big_number 4 xs + 4)) (big_number 4 xs) (drop 4 (xs ++ more))
head_stays xs more e1 =
    let all = xs ++ more in
    let len = length all in
    let d = drop 4 all in
    let long : ltb len 4 ≡ false = le-ltb _ _ (omega (arith, ltb-false _ _ e1, length-append xs more)) in
    ap (λ (b : Bool). front_by b (ltb most_body (big_number 4 all)) (ltb len (big_number 4 all + 4)) (big_number 4 all) d) long
    ∙ ap (λ (n : ℕ). front_by false (ltb most_body n) (ltb len (n + 4)) n d) (number_stays xs more e1)

stable_by : (xs : List ℕ) (r : Result Filled FrameFault) (ys more : List ℕ) (b1 b2 b3 : Bool) → ltb (length xs) 4 ≡ b1 → ltb most_body (big_number 4 xs) ≡ b2 → ltb (length xs) (big_number 4 xs + 4) ≡ b3
    → Answers (front_by b1 b2 b3 (big_number 4 xs) (drop 4 xs)) xs r ys → Answers (front (xs ++ more)) (xs ++ more) r (ys ++ more)
stable_by xs r ys more true b2 b3 e1 e2 e3 h = absurd h
stable_by xs r ys more false true b3 e1 e2 e3 h =
    let n = big_number 4 xs in
    let same : front (xs ++ more) ≡ too_long n =
    head_stays xs more e1 ∙ ap (λ (b : Bool). front_by false b (ltb (length (xs ++ more)) (n + 4)) n (drop 4 (xs ++ more))) e2 in
    subst (λ (f : Front). Answers f (xs ++ more) r (ys ++ more)) (sym same) (stable_long xs r ys more n h)
stable_by xs r ys more false false true e1 e2 e3 h = absurd h
stable_by xs r ys more false false false e1 e2 e3 h =
    let n = big_number 4 xs in
    let four : 4 ≤ length xs = ltb-false _ _ e1 in
    let there : n + 4 ≤ length xs = ltb-false _ _ e3 in
    let all : ltb (length (xs ++ more)) (n + 4) ≡ false = le-ltb _ _ (omega (arith, there, length-append xs more)) in
    let behind : drop 4 (xs ++ more) ≡ drop 4 xs ++ more = drop-append-le 4 xs more four in
    let len : n ≤ length (drop 4 xs) = omega (arith, there, length-drop 4 xs) in
    let body : take n (drop 4 xs ++ more) ≡ take n (drop 4 xs) = take-append-le n (drop 4 xs) more len in
    let rest : drop n (drop 4 xs ++ more) ≡ drop n (drop 4 xs) ++ more = drop-append-le n (drop 4 xs) more len in
    let same : front (xs ++ more) ≡ whole (take n (drop 4 xs)) (drop n (drop 4 xs) ++ more) =
    head_stays xs more e1
    ∙ ap (λ (b : Bool). front_by false b (ltb (length (xs ++ more)) (n + 4)) n (drop 4 (xs ++ more))) e2
    ∙ ap (λ (b : Bool). front_by false false b n (drop 4 (xs ++ more))) all
    ∙ ap (λ (d : List ℕ). whole (take n d) (drop n d)) behind
    ∙ ap (λ (t : List ℕ). whole t (drop n (drop 4 xs ++ more))) body
    ∙ ap (λ (t : List ℕ). whole (take n (drop 4 xs)) t) rest in
    subst (λ (f : Front). Answers f (xs ++ more) r (ys ++ more)) (sym same) (stable_whole xs r ys more n h)

pub frames_stable : IsStable gives_frames
frames_stable s xs r t ys more h = stable_by xs r ys more _ _ _ refl refl refl h

pub frames_partial : PartialHasNoFrame gives_frames
frames_partial s xs x t ys =
    elim (front xs) as (λ f. IsPart f → Answers f xs (Ok x) ys → ⊥) [
      | whole body rest ↦ λ h k. absurd h
      | too_long n ↦ λ h k. absurd h
      | part ↦ λ h k. k
    ]

pub frames_end : EndIsPartial gives_frames
frames_end s xs r t ys h = h.0
