-- The tokens of a text, piece by piece.
use Rattle.std.proofs.Common.{◌≡◌, ℕ, zero, suc, ◌+◌, ◌-◌, ◌<◌, ◌≤◌, Bool, true, false, nat_lt, List, [], ◌∷◌, ◌++◌, length, take, drop, Option, Some, None, Result, Ok, Err, refl, sym, ap, ◌∙◌, arith}
use Rattle.std.proofs.lemmas.List.{drop_more, append_assoc, append-nil, drop-drop, drop_all}
use Rattle.std.specs.Str.{is_utf8}
use Rattle.std.specs.Str.Lossy.{utf8_valid_len}
use Rattle.jx_tokens.specs.declared.fault.JxFault.{JxFault}
use Rattle.jx_tokens.specs.declared.fault.JxFault.TheVariants as fault
use Rattle.jx_tokens.specs.declared.token.Kind.{Kind}
use Rattle.jx_tokens.specs.declared.token.Piece.TheVariants as piece
use Rattle.jx_tokens.specs.declared.token.Token.{Token}
use Rattle.jx_tokens.specs.Answers.{Fails, FailsAs}
use Rattle.jx_tokens.specs.Tokens.{Scan, scan, scan_of, onto, front, result_of, tokens_of, cut_off, cut_fault}

-- tokens that stand before
abbrev pub ahead : List Token → Scan → Scan
ahead ts s = record { tokens = ts ++ s.tokens; fault = s.fault }

pub ahead-ahead : (a b : List Token) (s : Scan) → ahead a (ahead b s) ≡ ahead (a ++ b) s
ahead-ahead a b s = ap (λ ts. let r : Scan = record { tokens = ts; fault = s.fault } in r) (sym (append_assoc a b s.tokens))

scan-skip : (k at : ℕ) (bs : List ℕ) → scan k at bs ≡ scan 0 (at + k) (drop k bs)
unfolding scan
scan-skip zero at bs = let e : at ≡ at + 0 = omega arith in ap (λ n. scan 0 n bs) e
scan-skip (suc k) at [] = refl
scan-skip (suc k) at (b ∷ bs) = let e : at + 1 + k ≡ at + suc k = omega arith in scan-skip k (at + 1) bs ∙ ap (λ n. scan 0 n (drop k bs)) e

pub scan-front : (d : List ℕ) (at : ℕ) → at < length d → scan 0 at (drop at d) ≡ onto at (front at (drop at d)) (λ k. scan k (at + 1) (drop (at + 1) d))
unfolding scan
scan-front d at h = let e = drop_more d at 0 h in ap (scan 0 at) e ∙ ap (λ l. onto at (front at l) (λ k. scan k (at + 1) (drop (at + 1) d))) (sym e)

scan-behind : (d : List ℕ) (at n : ℕ) → 0 < n → scan (n - 1) (at + 1) (drop (at + 1) d) ≡ scan 0 (at + n) (drop (at + n) d)
scan-behind d at n h =
    let there : at + 1 + (n - 1) ≡ at + n = omega arith in
    scan-skip (n - 1) (at + 1) (drop (at + 1) d) ∙ ap (scan 0 (at + 1 + (n - 1))) (drop-drop (n - 1) (at + 1) d) ∙ ap (λ m. scan 0 m (drop m d)) there

module _ (d : List ℕ) (at : ℕ) (h : at < length d) (ts : List Token) (all : Scan) (so_far : ahead ts (scan 0 at (drop at d)) ≡ all) where
  pub scan-gap : (n : ℕ) → 0 < n → front at (drop at d) ≡ Ok (piece.Gap n) → ahead ts (scan 0 (at + n) (drop (at + n) d)) ≡ all
  scan-gap n pos e =
      ap (ahead ts) (sym (scan-front d at h ∙ ap (λ r. onto at r (λ k. scan k (at + 1) (drop (at + 1) d))) e ∙ scan-behind d at n pos)) ∙ so_far

  pub scan-token : (k : Kind) (n : ℕ) → 0 < n → front at (drop at d) ≡ Ok (piece.Token k n)
      → ahead (ts ++ record { place = at; kind = k } ∷ []) (scan 0 (at + n) (drop (at + n) d)) ≡ all
  scan-token k n pos e =
      let one : List Token = record { place = at; kind = k } ∷ [] in
      sym (ahead-ahead ts one _)
      ∙ ap (ahead ts) (ap (ahead one) (sym (scan-behind d at n pos)) ∙ sym (scan-front d at h ∙ ap (λ r. onto at r (λ k. scan k (at + 1) (drop (at + 1) d))) e)) ∙ so_far

  pub scan-fault : (e : JxFault) → front at (drop at d) ≡ Err e → result_of all.tokens all.fault ≡ Err e
  scan-fault e is =
      ap (λ (s : Scan). result_of s.tokens s.fault) (sym so_far ∙ ap (ahead ts) (scan-front d at h ∙ ap (λ r. onto at r (λ k. scan k (at + 1) (drop (at + 1) d))) is))

pub scan-nil : (at : ℕ) → scan 0 at [] ≡ record { tokens = []; fault = None }
unfolding scan
scan-nil at = refl

pub scan-end : (d : List ℕ) (at : ℕ) (ts : List Token) (all : Scan) → length d ≤ at → ahead ts (scan 0 at (drop at d)) ≡ all → result_of all.tokens all.fault ≡ Ok ts
scan-end d at ts all h so_far =
    ap (λ (s : Scan). result_of s.tokens s.fault) (sym so_far ∙ ap (ahead ts) (ap (scan 0 at) (drop_all at d h) ∙ scan-nil at)) ∙ ap Ok (append-nil ts)

-- what is a fault of one reading is a fault of another where its faults are
pub fails_too : {Y Z : Type 0} (e : JxFault) (g : Result Y JxFault) (h : Result Z JxFault) → ((f : JxFault) → g ≡ Err f → h ≡ Err f) → Fails e g → Fails e h
fails_too fault.Memory g h t e = tt
fails_too (fault.NotUtf8 at) g h t e = t (fault.NotUtf8 at) e
fails_too (fault.Unexpected at) g h t e = t (fault.Unexpected at) e
fails_too (fault.OpenText at) g h t e = t (fault.OpenText at) e
fails_too (fault.FloatUnsupported at) g h t e = t (fault.FloatUnsupported at) e
fails_too (fault.IntTooWide at) g h t e = t (fault.IntTooWide at) e
fails_too (fault.TooDeep at) g h t e = t (fault.TooDeep at) e
fails_too fault.TooLarge g h t e = t fault.TooLarge e

-- ---- texts that stop being UTF-8

fault_is : (ts : List Token) (f : Option JxFault) (e : JxFault) → result_of ts f ≡ Err e → f ≡ Some e
fault_is ts None e h = cc
fault_is ts (Some x) e h = cc

pub cut_short : (n : ℕ) (ts : List Token) (f : Option JxFault) (e : JxFault) → Fails e (result_of ts f) → FailsAs (cut_off n e) (cut_fault n f)
cut_short n ts f fault.Memory h = tt
cut_short n ts f (fault.NotUtf8 at) h = ap (λ o. Err (cut_fault n o)) (fault_is ts f (fault.NotUtf8 at) h)
cut_short n ts f (fault.Unexpected at) h = ap (λ o. Err (cut_fault n o)) (fault_is ts f (fault.Unexpected at) h)
cut_short n ts f (fault.OpenText at) h = ap (λ o. Err (cut_fault n o)) (fault_is ts f (fault.OpenText at) h)
cut_short n ts f (fault.FloatUnsupported at) h = ap (λ o. Err (cut_fault n o)) (fault_is ts f (fault.FloatUnsupported at) h)
cut_short n ts f (fault.IntTooWide at) h = ap (λ o. Err (cut_fault n o)) (fault_is ts f (fault.IntTooWide at) h)
cut_short n ts f (fault.TooDeep at) h = ap (λ o. Err (cut_fault n o)) (fault_is ts f (fault.TooDeep at) h)
cut_short n ts f fault.TooLarge h = ap (λ o. Err (cut_fault n o)) (fault_is ts f fault.TooLarge h)

no_fault : (ts us : List Token) (f : Option JxFault) → result_of ts f ≡ Ok us → f ≡ None
no_fault ts us None h = refl
no_fault ts us (Some x) h = cc

pub cut_at_end : (n : ℕ) (ts us : List Token) (f : Option JxFault) → result_of ts f ≡ Ok us → FailsAs (fault.NotUtf8 n) (cut_fault n f)
cut_at_end n ts us f h = ap (λ o. Err (cut_fault n o)) (no_fault ts us f h)

-- ---- whole texts

pub tokens_of-large : (text : List ℕ) → nat_lt 16777216 (length text) ≡ true → tokens_of text ≡ Err fault.TooLarge
unfolding scan_of
tokens_of-large text large = rw large refl

pub tokens_of-utf8 : (text : List ℕ) → nat_lt 16777216 (length text) ≡ false → is_utf8 text ≡ true → tokens_of text ≡ result_of (scan 0 0 text).tokens (scan 0 0 text).fault
unfolding scan_of
tokens_of-utf8 text small good = rw (small, good) refl

pub tokens_of-cut : (text : List ℕ) → nat_lt 16777216 (length text) ≡ false → is_utf8 text ≡ false
    → tokens_of text ≡ Err (cut_fault (utf8_valid_len text) (scan 0 0 (take (utf8_valid_len text) text)).fault)
unfolding scan_of
tokens_of-cut text small bad = rw (small, bad) refl

fault_in : {Y : Type 0} → Result Y JxFault → JxFault
fault_in (Ok y) = fault.TooLarge
fault_in (Err e) = e

-- a fault of texts cut off is that of the tokens
pub cut_fails : (text : List ℕ) (n : ℕ) (e : JxFault) → nat_lt 16777216 (length text) ≡ false → is_utf8 text ≡ false → n ≡ utf8_valid_len text
    → FailsAs e (cut_fault n (scan 0 0 (take n text)).fault) → Fails e (tokens_of text)
unfolding fault_in
cut_fails text n e small bad is h =
    let all : Result (List Token) JxFault = tokens_of text in
    let x : JxFault = cut_fault n (scan 0 0 (take n text)).fault in
    let one : Result (Unit {0}) JxFault = Err x in
    let same : all ≡ Err x = tokens_of-cut text small bad ∙ ap (λ m. Err (cut_fault m (scan 0 0 (take m text)).fault)) (sym is) in
    fails_too e one all (λ f g. same ∙ ap (λ f. Err f) (ap fault_in g)) h

pub is_false : (b : Bool) → (b ≡ true → ⊥) → b ≡ false
is_false true h = absurd (h refl)
is_false false h = refl
