use Rattle.std.proofs.Common.{◌≡◌, List, ℕ, take, Ok, Result, sym, ap, subst, ◌∙◌}
use Rattle.jx_tokens.specs.Answers.{Fails, FailsAs}
use Rattle.jx_tokens.specs.Tokens.{Scan, scan, result_of, cut_fault}
use Rattle.jx_tokens.specs.declared.fault.JxFault.{JxFault}
use Rattle.jx_tokens.specs.declared.token.Token.{Token}
use Rattle.jx_tokens.proofs.Scanned.{cut_short, cut_at_end}
use Rattle.jx_tokens.proofs.tokens.cut.Goals as goal
use Rattle.jx_tokens.proofs.tokens.cut.Goals.{in-Ok-scan, in-Err-scan}

result_at : List ℕ → Result (List Token) JxFault
result_at d = result_of (scan 0 0 d).tokens (scan 0 0 d).fault

pub returns-after-scan : goal.returns-after-scan
unfolding result_at
returns-after-scan c =
    let n = c.args.at in
    let front : List ℕ = take n c.args.text.now in
    let s : Scan = scan 0 0 front in
    let same : c.in-Ok.front.now ≡ front = c.in-Ok.ensures.cases.0 in
    let P : JxFault → Type 0 = λ e. FailsAs e (cut_fault n s.fault) in
    elim c.match-scan.branch [
      | in-Ok-scan w ↦
          let read : result_at front ≡ Ok w.in-Ok-scan.field-0.items = ap result_at (sym same) ∙ w.in-Ok-scan.ensures in
          subst P (sym w.result-is) (cut_at_end n s.tokens w.in-Ok-scan.field-0.items s.fault read)
      | in-Err-scan w ↦
          let e = w.in-Err-scan.fault in
          let Q : List ℕ → Type 0 = λ d. Fails e (result_at d) in
          let read : Fails e (result_of s.tokens s.fault) = subst Q same w.in-Err-scan.ensures in
          subst P (sym (w.result-is ∙ w.cut_off.ensures)) (cut_short n s.tokens s.fault e read)
    ]

pub returns-in-Err : goal.returns-in-Err
returns-in-Err c = absurd (c.in-Err.ensures.cases.0 c.requires.front)
