use Rattle.std.proofs.Common.{◌≡◌, List, ℕ, [], take, Result, sym, ap, subst, ◌∙◌}
use Rattle.jx_tokens.specs.declared.fault.JxFault.{JxFault}
use Rattle.jx_tokens.specs.Answers.{Fails, FailsAs}
use Rattle.jx_tokens.specs.Tokens.{Scan, scan}
use Rattle.jx_syntax.specs.Reading.{State, wants, reading, cut_reading}
use Rattle.jx_syntax.proofs.Whole.{cut_short, cut_at_end}
use Rattle.jx_syntax.proofs.parser.cut.Goals as goal
use Rattle.jx_syntax.proofs.parser.cut.Goals.{in-Ok-read, in-Err-read}

pub returns-after-read : goal.returns-after-read
returns-after-read c =
    let n = c.args.at in
    let front : List ℕ = take n c.args.text.now in
    let s : Scan = scan 0 0 front in
    let same : c.in-Ok.front.now ≡ front = c.in-Ok.ensures.cases.0 in
    let P : JxFault → Type 0 = λ e. FailsAs e (cut_reading n s) in
    let all : List ℕ → Result State JxFault = λ d. reading (wants []) (scan 0 0 d) in
    elim c.match-read.branch [
      | in-Ok-read w ↦
          let h = w.in-Ok-read.ensures in
          subst P (sym w.result-is) (cut_at_end n s h.0 (ap all (sym same) ∙ h.1))
      | in-Err-read w ↦
          let e = w.in-Err-read.fault in
          let Q : List ℕ → Type 0 = λ d. Fails e (all d) in
          let read : Fails e (reading (wants []) s) = subst Q same w.in-Err-read.ensures in
          subst P (sym (w.result-is ∙ w.cut_off.ensures)) (cut_short n s e read)
    ]
