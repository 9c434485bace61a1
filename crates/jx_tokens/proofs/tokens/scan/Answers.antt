use Rattle.std.proofs.Common.{◌≡◌, ◌+◌, ◌<◌, ◌≤◌, Ok, List, length, drop, ap, ◌∙◌}
use Rattle.jx_tokens.specs.declared.token.Piece.{Piece}
use Rattle.jx_tokens.specs.declared.token.Token.{Token}
use Rattle.jx_tokens.specs.Tokens.{front, scan, result_of, size}
use Rattle.jx_tokens.proofs.Scanned.{ahead, scan-gap, scan-token, scan-fault, scan-end, fails_too}
use Rattle.jx_tokens.proofs.tokens.scan.Goals as goal

pub returns-in-Err : goal.returns-in-Err
returns-in-Err c =
    let d = c.args.text.now in
    let l = c.loop-at in
    let all = scan 0 0 d in
    fails_too c.in-Err.fault (front l.at (drop l.at d)) (result_of all.tokens all.fault) (scan-fault d l.at c.loop-at-test.true l.tokens.items all l.invariant.read) c.in-Err.ensures.value

pub loop-at-preserved-in-Gap : goal.loop-at-preserved-in-Gap
loop-at-preserved-in-Gap c =
    let d = c.args.text.now in
    let l = c.loop-at in
    let p : Piece = c.in-Ok.piece in
    let is : front l.at (drop l.at d) ≡ Ok p = c.in-Ok.ensures.value in
    let long : (0 < size p) × (l.at + size p ≤ length d) = c.in-Ok.ensures.size in
    let now = rw c.in-Gap.is at long in
    record {
      read = scan-gap d l.at c.loop-at-test.true l.tokens.items (scan 0 0 d) l.invariant.read c.in-Gap.len now.0 (is ∙ ap (λ (p : Piece). Ok p) c.in-Gap.is);
      within = now.1;
    }

pub loop-at-preserved : goal.loop-at-preserved
loop-at-preserved c =
    let d = c.args.text.now in
    let l = c.loop-at in
    let p : Piece = c.in-Ok.piece in
    let is : front l.at (drop l.at d) ≡ Ok p = c.in-Ok.ensures.value in
    let long : (0 < size p) × (l.at + size p ≤ length d) = c.in-Ok.ensures.size in
    let n = c.in-Token.len in
    let now = rw c.in-Token.is at long in
    record {
      read = ap (λ (ts : List Token). ahead ts (scan 0 (l.at + n) (drop (l.at + n) d))) c.in_ok-push-in-Token.ensures.items
          ∙ scan-token d l.at c.loop-at-test.true l.tokens.items (scan 0 0 d) l.invariant.read c.in-Token.kind n now.0 (is ∙ ap (λ (p : Piece). Ok p) c.in-Token.is);
      within = now.1;
    }

pub returns : goal.returns
returns c = scan-end c.args.text.now c.loop-at.at c.loop-at.tokens.items (scan 0 0 c.args.text.now) c.loop-at-test.false c.loop-at.invariant.read
