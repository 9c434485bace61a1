-- A front and the frame that it is.
use Rattle.std.proofs.Common.{◌≡◌, ◌≤◌, ◌<◌, ◌+◌, ◌^◌, ℕ, Bool, true, false, ltb, List, ◌++◌, length, take, drop, Ok, refl, sym, ap, ◌∙◌, subst, append_assoc, arith}
use Rattle.std.proofs.lemmas.Bool.{ltb-false, le-ltb}
use Rattle.std.proofs.lemmas.List.{take_at, drop_at, take-append-drop, length-append, length-take, length-drop}
use Rattle.byteorder.specs.Numbers.{big_number-reads_back}
use Rattle.byteorder.specs.Endian.{big_bytes, big_number}
use Rattle.byte_fields.specs.Laws.{IsBytes}
use Rattle.byte_fields.specs.Reading.{number_at}
use Rattle.byte_fields.proofs.Fields.{u32_is_field}
use Rattle.wq_messages.specs.Spelling.{most_body}
use Rattle.byte_fields.proofs.Fields.{IsBytes-take, IsBytes-drop}
use Rattle.message_forms.specs.Streams.{frame}
use Rattle.wq_frames.specs.Frames.{whole, front, front_by}
use Rattle.wq_frames.specs.Fronts.{FrontsAreFrames, FramesAreTaken}

parts : (b1 b2 b3 : Bool) (n : ℕ) (behind body rest : List ℕ) → front_by b1 b2 b3 n behind ≡ whole body rest → (b1 ≡ false) × (b2 ≡ false) × (b3 ≡ false) × (take n behind ≡ body) × (drop n behind ≡ rest)
parts true b2 b3 n behind body rest e = absurd cc
parts false true b3 n behind body rest e = absurd cc
parts false false true n behind body rest e = absurd cc
parts false false false n behind body rest e = (refl, refl, refl, cc, cc)

pub is_frame : FrontsAreFrames
is_frame bytes body rest small e =
    let n = big_number 4 bytes in
    let p = parts (ltb (length bytes) 4) (ltb most_body n) (ltb (length bytes) (n + 4)) n (drop 4 bytes) body rest e in
    let four : 4 ≤ length bytes = ltb-false _ _ p.0 in
    let there : n + 4 ≤ length bytes = ltb-false _ _ p.2 in
    let few : n ≤ most_body = ltb-false _ _ p.1 in
    let read : number_at 4 bytes ≡ Ok (n, drop 4 bytes) = rw p.0 refl in
    let t = u32_is_field.takes bytes n (drop 4 bytes) small read in
    let len : length (take n (drop 4 bytes)) ≡ n = omega (arith, there, length-take n (drop 4 bytes), length-drop 4 bytes) in
    let body_len : length body ≡ n = sym (ap (λ (b : List ℕ). length b) p.3) ∙ len in
    let behind : drop 4 bytes ≡ body ++ rest = sym (take-append-drop n (drop 4 bytes)) ∙ ap (λ (b : List ℕ). b ++ drop n (drop 4 bytes)) p.3 ∙ ap (λ (r : List ℕ). body ++ r) p.4 in (
      t.0.parts ∙ ap (λ (b : List ℕ). big_bytes 4 n ++ b) behind ∙ ap (λ (k : ℕ). big_bytes 4 k ++ (body ++ rest)) (sym body_len) ∙ sym (append_assoc (big_bytes 4 (length body)) body rest),
      (omega (arith, few, body_len), (subst IsBytes p.3 (IsBytes-take n (drop 4 bytes) (IsBytes-drop 4 bytes small)), subst IsBytes p.4 (IsBytes-drop n (drop 4 bytes) (IsBytes-drop 4 bytes small)))),
    )

front_of : (all : List ℕ) (n : ℕ) (behind : List ℕ) → big_number 4 all ≡ n → drop 4 all ≡ behind → ltb (length all) 4 ≡ false → ltb most_body n ≡ false → ltb (length all) (n + 4) ≡ false
    → front all ≡ whole (take n behind) (drop n behind)
front_of all n behind e d b1 b2 b3 =
    ap (λ (b : Bool). front_by b (ltb most_body (big_number 4 all)) (ltb (length all) (big_number 4 all + 4)) (big_number 4 all) (drop 4 all)) b1
    ∙ ap (λ (m : ℕ). front_by false (ltb most_body m) (ltb (length all) (m + 4)) m (drop 4 all)) e
    ∙ ap (λ (b : Bool). front_by false b (ltb (length all) (n + 4)) n (drop 4 all)) b2
    ∙ ap (λ (b : Bool). front_by false false b n (drop 4 all)) b3
    ∙ ap (λ (t : List ℕ). whole (take n t) (drop n t)) d

pub fronts : FramesAreTaken
fronts body rest few =
    let n = length body in
    let small : n < 2 ^ 32 = omega (arith, few) in
    let regrouped = append_assoc (big_bytes 4 n) body rest in
    let number : big_number 4 (frame body ++ rest) ≡ n = big_number-reads_back 4 n (body ++ rest) small in
    let behind : drop 4 (frame body ++ rest) ≡ body ++ rest = refl in
    let len : length (frame body ++ rest) ≡ n + 4 + length rest = omega (arith, length-append body rest) in
    front_of (frame body ++ rest) n (body ++ rest) number behind (le-ltb _ _ (omega (arith, len))) (le-ltb _ _ few) (le-ltb _ _ (omega (arith, len)))
    ∙ ap (λ (t : List ℕ). whole t (drop n (body ++ rest))) (take_at body rest n refl) ∙ ap (λ (t : List ℕ). whole body t) (drop_at body rest n refl)
