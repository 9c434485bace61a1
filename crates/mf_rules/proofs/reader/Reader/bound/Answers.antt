use Rattle.std.proofs.Common.{◌≡◌, false, List, Result, Ok, sym, ap, subst, ◌∙◌, ℕ, arith}
use Rattle.mf_text.specs.declared.fault.MakeFault.{MakeFault}
use Rattle.mf_text.specs.declared.fault.MakeFault.TheVariants.{BadNumber}
use Rattle.mf_text.specs.declared.output.Expanded.{Expanded}
use Rattle.mf_text.specs.Answers.{Fails}
use Rattle.mf_rules.specs.Values.{made_at}
use Rattle.mf_rules.specs.Faults.{least, bound_faults}
use Rattle.mf_rules.specs.Progress.{refused}
use Rattle.mf_rules.proofs.FaultLemmas.{match_free}
use Rattle.mf_rules.proofs.Standing.{made_is, whole_at, early_at, stands_bound}
use Rattle.mf_rules.proofs.reader.Reader.bound.Goals as goal

pub returns-in-Ok-stated_bound : goal.returns-in-Ok-stated_bound
returns-in-Ok-stated_bound c = λ answered env earlier s.
    let n : ℕ = c.args.number in
    let text : List ℕ = c.args.text.now in
    let made : Expanded = c.in-Ok.made in
    let is : made_at env earlier n text ≡ Ok made =
    made_is env earlier c.args.self.now n text c.as_str.result.now made s c.as_str.ensures.value c.in-Ok.ensures in
    let found = c.in-Ok-stated_bound.ensures in
    match_free c.push_bound.result _ _ _ c.push_bound.ensures.bounds (λ u h. (
      stands_bound env earlier c.args.self.now n text made.text c.in-Ok-stated_bound.bound c.push_bound.new.self s (whole_at env earlier n text made is found.1) (sym found.0) c.push_bound.ensures.rest h,
      ap (λ (r : Result Expanded MakeFault). least (bound_faults n r)) is ∙ found.2,
    ))

pub returns-in-Ok : goal.returns-in-Ok
returns-in-Ok c = λ answered env earlier s.
    let n : ℕ = c.args.number in
    let made : Expanded = c.in-Ok.made in
    let is : made_at env earlier n c.args.text.now ≡ Ok made =
    made_is env earlier c.args.self.now n c.args.text.now c.as_str.result.now made s c.as_str.ensures.value c.in-Ok.ensures in
    subst (λ (r : Result Expanded MakeFault). Fails c.in-Err-stated_bound.fault (refused (least (bound_faults n r)))) (sym is) c.in-Err-stated_bound.ensures

pub returns : goal.returns
returns c = λ answered env earlier s.
    let n : ℕ = c.args.number in
    early_at env earlier c.args.self.now n c.args.text.now c.as_str.result.now c.in-Err.fault (BadNumber n) false false _ s c.as_str.ensures.value c.in-Err.ensures (omega arith)
    (λ f e. ap (λ (r : Result Expanded MakeFault). bound_faults n r) e)
