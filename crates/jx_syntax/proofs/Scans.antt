-- One token in front of a text, and what is scanned behind it.
use Rattle.std.proofs.Common.{◌≡◌, ℕ, suc, ◌+◌, ◌-◌, ◌<◌, List, [], ◌∷◌, ◌++◌, length, None, Ok, refl, sym, ap, ◌∙◌, arith}
use Rattle.std.proofs.lemmas.List.{append-nil}
use Rattle.jx_tokens.specs.declared.token.Kind.{Kind}
use Rattle.jx_tokens.specs.declared.token.Piece.TheVariants as piece
use Rattle.jx_tokens.specs.Tokens.{Scan, scan, onto, front}

-- a token before what is scanned behind it
abbrev pub put : ℕ → Kind → Scan → Scan
put at k s = record { tokens = record { place = at; kind = k } ∷ s.tokens; fault = s.fault }

scan_skips : (xs rest : List ℕ) (at : ℕ) → scan (length xs) at (xs ++ rest) ≡ scan 0 (at + length xs) rest
unfolding scan
scan_skips [] rest at = let e : at ≡ at + 0 = omega arith in ap (λ n. scan 0 n rest) e
scan_skips (x ∷ xs) rest at =
    let e : at + 1 + length xs ≡ at + suc (length xs) = omega arith in
    scan_skips xs rest (at + 1) ∙ ap (λ n. scan 0 n rest) e

-- the token in front is the first one
pub token_scans : (d rest : List ℕ) (k : Kind) (at : ℕ) → 0 < length d → front at (d ++ rest) ≡ Ok (piece.Token k (length d)) → scan 0 at (d ++ rest) ≡ put at k (scan 0 (at + length d) rest)
unfolding scan
token_scans [] rest k at lt e = absurd (omega arith)
token_scans (x ∷ xs) rest k at lt e =
    let one : suc (length xs) - 1 ≡ length xs = omega arith in
    let there : at + 1 + length xs ≡ at + suc (length xs) = omega arith in
    ap (λ r. onto at r (λ m. scan m (at + 1) (xs ++ rest))) e
    ∙ ap (put at k) (ap (λ m. scan m (at + 1) (xs ++ rest)) one ∙ scan_skips xs rest (at + 1) ∙ ap (λ n. scan 0 n rest) there)

pub scan-nil : (at : ℕ) → scan 0 at [] ≡ record { tokens = []; fault = None }
unfolding scan
scan-nil at = refl

-- a text that is one token
pub one_token : (d : List ℕ) (k : Kind) → 0 < length d → front 0 (d ++ []) ≡ Ok (piece.Token k (length d)) → scan 0 0 d ≡ put 0 k (record { tokens = []; fault = None })
one_token d k lt e = ap (scan 0 0) (sym (append-nil d)) ∙ token_scans d [] k 0 lt e ∙ ap (put 0 k) (scan-nil (0 + length d))
