use Rattle.std.proofs.Common.{◌≡◌, List, ℕ, [], length, Result, sym, ap, subst, ◌∙◌}
use Rattle.std.proofs.lemmas.Bool.{lt-ltb, le-ltb}
use Rattle.std.proofs.lemmas.Result.{err_from_is_err_and}
use Rattle.std.proofs.lemmas.Str.{is_utf8-from_IsUtf8, IsUtf8-from_is_utf8}
use Rattle.std.specs.Str.{is_utf8}
use Rattle.jx_tokens.specs.declared.fault.JxFault.{JxFault}
use Rattle.jx_tokens.specs.Tokens.{scan, scan_of}
use Rattle.jx_tokens.proofs.Scanned.{fails_too, is_false}
use Rattle.jx_syntax.specs.Grammar.{Derivation}
use Rattle.jx_syntax.specs.Reading.{State, wants, then_on, finished, parsed, reading}
use Rattle.jx_syntax.specs.Shown.{IsExpression}
use Rattle.jx_syntax.proofs.Whole.{parsed_large, parsed_utf8, cut_fails}
use Rattle.jx_syntax.proofs.parser.parsed.Goals as goal

pub returns-then-text-gt-MOST_BYTES : goal.returns-then-text-gt-MOST_BYTES
returns-then-text-gt-MOST_BYTES c = parsed_large c.args.text.now (lt-ltb _ _ c.if-text-gt-MOST_BYTES.true)

pub returns-in_err-reader-in-Ok : goal.returns-in_err-reader-in-Ok
returns-in_err-reader-in-Ok c =
    let text = c.args.text.now in
    let len = length text in
    let small = le-ltb _ _ c.if-text-gt-MOST_BYTES.false in
    let good = is_utf8-from_IsUtf8 _ c.in-Ok.ensures.cases.1 in
    let all : List ℕ → Result State JxFault = λ d. reading (wants []) (scan 0 0 d) in
    let x : JxFault = c.in_err-reader-in-Ok.field-0.0 in
    let given = err_from_is_err_and c.from_residual.result c.from_residual.ensures.1 in
    let failed = fails_too x (all c.in-Ok.whole.now) (parsed len (scan_of text))
    (λ f h. parsed_utf8 text small good ∙ ap (λ (r : Result State JxFault). then_on r (finished len)) (ap all (sym c.in-Ok.ensures.cases.0) ∙ h)) c.in_err-reader-in-Ok.ensures in
    rw (given.1, given.2) failed

pub returns-in_ok-reader-in-Ok : goal.returns-in_ok-reader-in-Ok
returns-in_ok-reader-in-Ok c =
    let text = c.args.text.now in
    let len = length text in
    let small = le-ltb _ _ c.if-text-gt-MOST_BYTES.false in
    let good = is_utf8-from_IsUtf8 _ c.in-Ok.ensures.cases.1 in
    let all : List ℕ → Result State JxFault = λ d. reading (wants []) (scan 0 0 d) in
    let h = c.in_ok-reader-in-Ok.ensures in
    let is : parsed len (scan_of text) ≡ finished len h.0 =
    parsed_utf8 text small good ∙ ap (λ (r : Result State JxFault). then_on r (finished len)) (ap all (sym c.in-Ok.ensures.cases.0) ∙ h.1) in
    subst (λ (r : Result Derivation JxFault). IsExpression c.finish.result r) (sym is) (c.finish.ensures.shown h.0 h.2)

pub returns-in-Err : goal.returns-in-Err
returns-in-Err c =
    let text = c.args.text.now in
    let small = le-ltb _ _ c.if-text-gt-MOST_BYTES.false in
    let bad = is_false (is_utf8 text) (λ e. c.in-Err.ensures.cases.0 (IsUtf8-from_is_utf8 _ e)) in
    cut_fails text c.valid_up_to.result c.cut.result small bad (c.valid_up_to.ensures ∙ c.in-Err.ensures.valid_len) c.cut.ensures
