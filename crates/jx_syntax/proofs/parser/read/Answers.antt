use Rattle.std.proofs.Common.{◌≡◌, ◌+◌, ◌<◌, ◌≤◌, [], length, drop, reverse, Result, Ok, refl, sym, ap, subst, ◌∙◌, arith}
use Rattle.std.proofs.lemmas.Result.{err_from_is_err_and}
use Rattle.jx_tokens.specs.declared.fault.JxFault.{JxFault}
use Rattle.jx_tokens.specs.declared.token.Piece.{Piece}
use Rattle.jx_tokens.specs.Answers.{Fails}
use Rattle.jx_tokens.specs.Tokens.{front, size}
use Rattle.jx_syntax.specs.Reading.{State, wants}
use Rattle.jx_syntax.specs.Shown.{Shows}
use Rattle.jx_syntax.proofs.Whole.{read_gap, read_token, token_fails, front_fails, read_end}
use Rattle.jx_syntax.proofs.Parsed.{nothing}
use Rattle.jx_syntax.proofs.parser.read.Goals as goal

pub loop-at-init : goal.loop-at-init
loop-at-init c =
    let shown : Shows c.new.result.items (reverse c.new-2.result.items) [] = rw (c.new.ensures.items, c.new-2.ensures.items) nothing in
    record { read = (wants [], ([], refl, shown, refl), refl); within = omega arith }

pub loop-at-preserved-in-Gap : goal.loop-at-preserved-in-Gap
loop-at-preserved-in-Gap c =
    let d = c.args.text.now in
    let l = c.loop-at in
    let w = l.invariant.read in
    let p : Piece = c.in-Ok.piece in
    let is : front l.at (drop l.at d) ≡ Ok p = c.in-Ok.ensures.value in
    let long : (0 < size p) × (l.at + size p ≤ length d) = c.in-Ok.ensures.size in
    let now = rw c.in-Gap.is at long in
    record {
      read = (w.0, w.1, read_gap d l.at c.loop-at-test.true w.0 c.in-Gap.len now.0 (is ∙ ap (λ (p : Piece). Ok p) c.in-Gap.is) ∙ w.2);
      within = now.1;
    }

pub returns-in_err-wanted-in-Token : goal.returns-in_err-wanted-in-Token
returns-in_err-wanted-in-Token c =
    let d = c.args.text.now in
    let l = c.loop-at in
    let w = l.invariant.read in
    let p : Piece = c.in-Ok.piece in
    let is : front l.at (drop l.at d) ≡ Ok p = c.in-Ok.ensures.value in
    let long : (0 < size p) × (l.at + size p ≤ length d) = c.in-Ok.ensures.size in
    let now = rw c.in-Token.is at long in
    let x : JxFault = c.in_err-wanted-in-Token.field-0.0 in
    let failed = token_fails d l.at c.loop-at-test.true w.0 c.in-Token.kind c.in-Token.len x now.0 (is ∙ ap (λ (p : Piece). Ok p) c.in-Token.is) (c.in_err-wanted-in-Token.ensures.shown w.0 w.1) in
    let given = err_from_is_err_and c.from_residual.result c.from_residual.ensures.1 in
    rw (given.1, given.2) (subst (λ (r : Result State JxFault). Fails x r) w.2 failed)

pub loop-at-preserved : goal.loop-at-preserved
loop-at-preserved c =
    let d = c.args.text.now in
    let l = c.loop-at in
    let w = l.invariant.read in
    let p : Piece = c.in-Ok.piece in
    let is : front l.at (drop l.at d) ≡ Ok p = c.in-Ok.ensures.value in
    let long : (0 < size p) × (l.at + size p ≤ length d) = c.in-Ok.ensures.size in
    let now = rw c.in-Token.is at long in
    let s = c.in_ok-wanted-in-Token.ensures.shown w.0 w.1 in
    record {
      read = (s.0, s.2, read_token d l.at c.loop-at-test.true w.0 c.in-Token.kind c.in-Token.len s.0 now.0 (is ∙ ap (λ (p : Piece). Ok p) c.in-Token.is) s.1 ∙ w.2);
      within = now.1;
    }

pub returns-in-Err : goal.returns-in-Err
returns-in-Err c =
    let l = c.loop-at in
    let w = l.invariant.read in
    let x : JxFault = c.in-Err.fault in
    subst (λ (r : Result State JxFault). Fails x r) w.2 (front_fails c.args.text.now l.at c.loop-at-test.true w.0 x c.in-Err.ensures.value)

pub returns : goal.returns
returns c =
    let l = c.loop-at in
    let w = l.invariant.read in
    (w.0, sym w.2 ∙ read_end c.args.text.now l.at w.0 c.loop-at-test.false, w.1)
