use Rattle.std.proofs.Common.{List, ℕ, Ok, sym, ap, ◌∙◌}
use Rattle.std.proofs.lemmas.Bool.{lt-ltb, le-ltb}
use Rattle.std.proofs.lemmas.Str.{is_utf8-from_IsUtf8, IsUtf8-from_is_utf8}
use Rattle.std.specs.Str.{is_utf8}
use Rattle.jx_tokens.specs.declared.token.Token.{Token}
use Rattle.jx_tokens.specs.Tokens.{tokens_of, scan, result_of}
use Rattle.jx_tokens.proofs.Scanned.{tokens_of-large, tokens_of-utf8, cut_fails, fails_too, is_false}
use Rattle.jx_tokens.proofs.tokens.tokens_of.Goals as goal

pub returns-then-text-gt-MOST_BYTES : goal.returns-then-text-gt-MOST_BYTES
returns-then-text-gt-MOST_BYTES c = tokens_of-large c.args.text.now (lt-ltb _ _ c.if-text-gt-MOST_BYTES.true)

pub returns-in-Ok-scan : goal.returns-in-Ok-scan
returns-in-Ok-scan c =
    let text = c.args.text.now in
    let small = le-ltb _ _ c.if-text-gt-MOST_BYTES.false in
    let good = is_utf8-from_IsUtf8 _ c.in-Ok.ensures.cases.1 in
    tokens_of-utf8 text small good ∙ ap (λ (d : List ℕ). result_of (scan 0 0 d).tokens (scan 0 0 d).fault) (sym c.in-Ok.ensures.cases.0) ∙ c.in-Ok-scan.ensures
    ∙ ap (λ (ts : List Token). Ok ts) (sym c.of.ensures)

pub returns-in-Err-scan : goal.returns-in-Err-scan
returns-in-Err-scan c =
    let text = c.args.text.now in
    let whole = c.in-Ok.whole.now in
    let small = le-ltb _ _ c.if-text-gt-MOST_BYTES.false in
    let good = is_utf8-from_IsUtf8 _ c.in-Ok.ensures.cases.1 in
    fails_too c.in-Err-scan.fault (result_of (scan 0 0 whole).tokens (scan 0 0 whole).fault) (tokens_of text)
    (λ f h. tokens_of-utf8 text small good ∙ ap (λ (d : List ℕ). result_of (scan 0 0 d).tokens (scan 0 0 d).fault) (sym c.in-Ok.ensures.cases.0) ∙ h) c.in-Err-scan.ensures

pub returns-in-Err : goal.returns-in-Err
returns-in-Err c =
    let text = c.args.text.now in
    let small = le-ltb _ _ c.if-text-gt-MOST_BYTES.false in
    let bad = is_false (is_utf8 text) (λ e. c.in-Err.ensures.cases.0 (IsUtf8-from_is_utf8 _ e)) in
    cut_fails text c.valid_up_to.result c.cut.result small bad (c.valid_up_to.ensures ∙ c.in-Err.ensures.valid_len) c.cut.ensures
