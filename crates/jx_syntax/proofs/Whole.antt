-- Whole texts, token by token.
use Rattle.std.proofs.Common.{◌≡◌, ℕ, ◌+◌, ◌<◌, ◌≤◌, Bool, true, false, cond, nat_lt, List, [], ◌∷◌, length, take, drop, Option, Some, None, Result, Ok, Err, refl, sym, ap, subst, ◌∙◌}
use Rattle.std.proofs.lemmas.List.{drop_all}
use Rattle.std.specs.Str.{is_utf8}
use Rattle.std.specs.Str.Lossy.{utf8_valid_len}
use Rattle.jx_tokens.specs.declared.fault.JxFault.{JxFault}
use Rattle.jx_tokens.specs.declared.fault.JxFault.TheVariants as fault
use Rattle.jx_tokens.specs.declared.token.Kind.{Kind}
use Rattle.jx_tokens.specs.declared.token.Piece.TheVariants as piece
use Rattle.jx_tokens.specs.declared.token.Token.{Token}
use Rattle.jx_tokens.specs.Answers.{Fails, FailsAs}
use Rattle.jx_tokens.specs.Tokens.{Scan, scan, scan_of, onto, front, cut_off, cut_fault}
use Rattle.jx_tokens.proofs.Scanned.{ahead, scan-front, scan-gap, scan-token, scan-nil, fails_too}
use Rattle.jx_syntax.specs.Grammar.{Derivation, is_wide}
use Rattle.jx_syntax.specs.Reading.{State, Move, stuck, goes, opens, wants, move, state_depth, blamed, moved, step, then_on, run, finished, ended, parsed, unless_fault, reading, cut_by, cut_reading}

-- ---- the loop

module _ (d : List ℕ) (at : ℕ) (h : at < length d) (st : State) where
  pub read_gap : (n : ℕ) → 0 < n → front at (drop at d) ≡ Ok (piece.Gap n) → reading st (scan 0 (at + n) (drop (at + n) d)) ≡ reading st (scan 0 at (drop at d))
  read_gap n pos e = ap (reading st) (scan-gap d at h [] (scan 0 at (drop at d)) refl n pos e)

  behind_step : (k : Kind) (s : Scan) (r : Result State JxFault) → r ≡ step 128 st (record { place = at; kind = k })
      → reading st (ahead (record { place = at; kind = k } ∷ []) s) ≡ then_on r (λ next. reading next s)
  unfolding run
  behind_step k s (Ok next) e = ap (λ (r : Result State JxFault). then_on (then_on r (λ n. run 128 n s.tokens)) (unless_fault s.fault)) (sym e)
  behind_step k s (Err x) e = ap (λ (r : Result State JxFault). then_on (then_on r (λ n. run 128 n s.tokens)) (unless_fault s.fault)) (sym e)

  token_read : (k : Kind) (n : ℕ) → 0 < n → front at (drop at d) ≡ Ok (piece.Token k n)
      → reading st (ahead (record { place = at; kind = k } ∷ []) (scan 0 (at + n) (drop (at + n) d))) ≡ reading st (scan 0 at (drop at d))
  token_read k n pos e = ap (reading st) (scan-token d at h [] (scan 0 at (drop at d)) refl k n pos e)

  pub read_token : (k : Kind) (n : ℕ) (next : State) → 0 < n → front at (drop at d) ≡ Ok (piece.Token k n) → step 128 st (record { place = at; kind = k }) ≡ Ok next
      → reading next (scan 0 (at + n) (drop (at + n) d)) ≡ reading st (scan 0 at (drop at d))
  read_token k n next pos e s = sym (behind_step k (scan 0 (at + n) (drop (at + n) d)) (Ok next) (sym s)) ∙ token_read k n pos e

  pub token_fails : (k : Kind) (n : ℕ) (x : JxFault) → 0 < n → front at (drop at d) ≡ Ok (piece.Token k n) → Fails x (step 128 st (record { place = at; kind = k })) → Fails x (reading st (scan 0 at (drop at d)))
  token_fails k n x pos e f =
      fails_too x (step 128 st (record { place = at; kind = k })) (reading st (scan 0 at (drop at d)))
      (λ y s. sym (token_read k n pos e) ∙ behind_step k (scan 0 (at + n) (drop (at + n) d)) (Err y) (sym s)) f

  pub front_fails : (x : JxFault) → Fails x (front at (drop at d)) → Fails x (reading st (scan 0 at (drop at d)))
  unfolding run
  front_fails x f =
      fails_too x (front at (drop at d)) (reading st (scan 0 at (drop at d)))
      (λ y e. ap (reading st) (scan-front d at h ∙ ap (λ r. onto at r (λ k. scan k (at + 1) (drop (at + 1) d))) e)) f

pub read_end : (d : List ℕ) (at : ℕ) (st : State) → length d ≤ at → reading st (scan 0 at (drop at d)) ≡ Ok st
unfolding run
read_end d at st h = ap (reading st) (ap (scan 0 at) (drop_all at d h) ∙ scan-nil at)

-- ---- texts that stop being UTF-8

plain_blame : (n p : ℕ) (b : Bool) → cut_off n (cond b (fault.IntTooWide p) (fault.Unexpected p)) ≡ cond b (fault.IntTooWide p) (fault.Unexpected p)
plain_blame n p true = refl
plain_blame n p false = refl

err_is : {A : Type 0} (e f : JxFault) → (let r : Result A JxFault = Err e in r) ≡ Err f → e ≡ f
err_is e f h = cc

plain_move : (n levels p : ℕ) (k : Kind) (m : Move) (e : JxFault) → moved 128 levels p k m ≡ Err e → cut_off n e ≡ e
plain_move n levels p k stuck e h = subst (λ (x : JxFault). cut_off n x ≡ x) (err_is (blamed p k) e h) (plain_blame n p (is_wide k))
plain_move n levels p k (goes next) e h = absurd cc
plain_move n levels p k (opens next) e h = plain_open (nat_lt levels 128) h where
  plain_open : (b : Bool) → cond b (let r : Result State JxFault = Ok next in r) (Err (fault.TooDeep p)) ≡ Err e → cut_off n e ≡ e
  plain_open true g = absurd cc
  plain_open false g = subst (λ (x : JxFault). cut_off n x ≡ x) (err_is (fault.TooDeep p) e g) refl

-- a token that can't stand where it does is no text without an end
plain_run : (n : ℕ) (ts : List Token) (st : State) (e : JxFault) → run 128 st ts ≡ Err e → cut_off n e ≡ e
unfolding run
plain_run n [] st e h = absurd cc
plain_run n (t ∷ ts) st e h = by_step (λ next g. plain_run n ts next e g) (step 128 st t) refl h where
  by_step : ((next : State) → run 128 next ts ≡ Err e → cut_off n e ≡ e) → (r : Result State JxFault) → step 128 st t ≡ r → then_on r (λ next. run 128 next ts) ≡ Err e → cut_off n e ≡ e
  by_step later (Ok next) q g = later next g
  by_step later (Err x) q g = plain_move n (state_depth st) t.place t.kind (move st t.place t.kind) e (q ∙ g)

-- a fault before the place is that of the text, but for a text in quotes that is cut off
pub cut_short : (n : ℕ) (s : Scan) (e : JxFault) → Fails e (reading (wants []) s) → FailsAs (cut_off n e) (cut_reading n s)
cut_short n s e h = by_run (run 128 (wants []) s.tokens) s.fault (plain_run n s.tokens (wants [])) e h where
  same : (r : Result State JxFault) (f : Option JxFault) → ((x : JxFault) → r ≡ Err x → cut_off n x ≡ x) → (x : JxFault) → then_on r (unless_fault f) ≡ Err x → cut_off n x ≡ cut_by n f r
  same (Ok st) None p x q = absurd cc
  same (Ok st) (Some f) p x q = ap (cut_off n) (sym (err_is f x q))
  same (Err y) f p x q = ap (cut_off n) (sym (err_is y x q)) ∙ p y refl

  by_run : (r : Result State JxFault) (f : Option JxFault) → ((x : JxFault) → r ≡ Err x → cut_off n x ≡ x) → (x : JxFault) → Fails x (then_on r (unless_fault f)) → FailsAs (cut_off n x) (cut_by n f r)
  by_run r f p fault.Memory g = tt
  by_run r f p (fault.NotUtf8 at) g = ap Err (sym (same r f p (fault.NotUtf8 at) g))
  by_run r f p (fault.Unexpected at) g = ap Err (sym (same r f p (fault.Unexpected at) g))
  by_run r f p (fault.OpenText at) g = ap Err (sym (same r f p (fault.OpenText at) g))
  by_run r f p (fault.FloatUnsupported at) g = ap Err (sym (same r f p (fault.FloatUnsupported at) g))
  by_run r f p (fault.IntTooWide at) g = ap Err (sym (same r f p (fault.IntTooWide at) g))
  by_run r f p (fault.TooDeep at) g = ap Err (sym (same r f p (fault.TooDeep at) g))
  by_run r f p fault.TooLarge g = ap Err (sym (same r f p fault.TooLarge g))

pub cut_at_end : (n : ℕ) (s : Scan) (st : State) → reading (wants []) s ≡ Ok st → FailsAs (fault.NotUtf8 n) (cut_reading n s)
cut_at_end n s st h = by_run (run 128 (wants []) s.tokens) s.fault h where
  by_run : (r : Result State JxFault) (f : Option JxFault) → then_on r (unless_fault f) ≡ Ok st → FailsAs (fault.NotUtf8 n) (cut_by n f r)
  by_run (Ok x) None g = refl
  by_run (Ok x) (Some f) g = absurd cc
  by_run (Err e) f g = absurd cc

-- ---- whole texts

pub parsed_large : (text : List ℕ) → nat_lt 16777216 (length text) ≡ true → parsed (length text) (scan_of text) ≡ Err fault.TooLarge
unfolding scan_of run
parsed_large text h = rw h refl

by_fault : (len : ℕ) (f : Option JxFault) (r : Result State JxFault) → then_on r (ended len f) ≡ then_on (then_on r (unless_fault f)) (finished len)
by_fault len None (Ok st) = refl
by_fault len (Some f) (Ok st) = refl
by_fault len f (Err e) = refl

-- a text in UTF-8 is read to its end
pub parsed_utf8 : (text : List ℕ) → nat_lt 16777216 (length text) ≡ false → is_utf8 text ≡ true → parsed (length text) (scan_of text) ≡ then_on (reading (wants []) (scan 0 0 text)) (finished (length text))
unfolding scan_of
parsed_utf8 text h u =
    let s : Scan = scan 0 0 text in
    rw (h, u) (by_fault (length text) s.fault (run 128 (wants []) s.tokens))

by_cut : (len n : ℕ) (f : Option JxFault) (r : Result State JxFault) → then_on r (ended len (Some (cut_fault n f))) ≡ Err (cut_by n f r)
by_cut len n f (Ok st) = refl
by_cut len n f (Err e) = refl

-- a text that stops being UTF-8 is read up to there
pub parsed_cut : (text : List ℕ) → nat_lt 16777216 (length text) ≡ false → is_utf8 text ≡ false
    → parsed (length text) (scan_of text) ≡ Err (cut_reading (utf8_valid_len text) (scan 0 0 (take (utf8_valid_len text) text)))
unfolding scan_of
parsed_cut text h u =
    let n = utf8_valid_len text in
    let s : Scan = scan 0 0 (take n text) in
    rw (h, u) (by_cut (length text) n s.fault (run 128 (wants []) s.tokens))

fault_in : {Y : Type 0} → Result Y JxFault → JxFault
fault_in (Ok y) = fault.TooLarge
fault_in (Err e) = e

-- a fault of a text cut off is that of the text
pub cut_fails : (text : List ℕ) (n : ℕ) (e : JxFault) → nat_lt 16777216 (length text) ≡ false → is_utf8 text ≡ false → n ≡ utf8_valid_len text
    → FailsAs e (cut_reading n (scan 0 0 (take n text))) → Fails e (parsed (length text) (scan_of text))
unfolding fault_in
cut_fails text n e small bad is h =
    let all : Result Derivation JxFault = parsed (length text) (scan_of text) in
    let x : JxFault = cut_reading n (scan 0 0 (take n text)) in
    let one : Result (Unit {0}) JxFault = Err x in
    let same : all ≡ Err x = parsed_cut text small bad ∙ ap (λ (m : ℕ). let r : Result Derivation JxFault = Err (cut_reading m (scan 0 0 (take m text))) in r) (sym is) in
    fails_too e one all (λ f g. same ∙ ap (λ (f : JxFault). let r : Result Derivation JxFault = Err f in r) (ap fault_in g)) h
