use Rattle.std.proofs.Common.{◌≡◌, ◌++◌, ◌∷◌, List, [], map, reverse, Option, None, Ok, sym, ap, subst, ◌∙◌}
use Rattle.flow_types.specs.declared.flow.RawFlow.{RawFlow}
use Rattle.mf_text.specs.declared.fault.MakeFault.{MakeFault}
use Rattle.mf_text.specs.Answers.{Fails}
use Rattle.mf_forms.specs.Forms.{or_else}
use Rattle.mf_rules.specs.declared.steps.Formed.{Formed}
use Rattle.mf_rules.specs.declared.steps.Step.{Step}
use Rattle.mf_rules.specs.Faults.{line_fault, first_fault}
use Rattle.mf_rules.specs.Flow.{given_pairs, formed, unless_fault, flow_at}
use Rattle.mf_rules.proofs.Lists.{popped, all_popped, no_items, turned}
use Rattle.mf_rules.proofs.FaultLemmas.{fails_flow}
use Rattle.mf_rules.proofs.flow.read_lines.Goals as goal

pub loop-step-preserved : goal.loop-step-preserved
loop-step-preserved c =
    let inv = c.loop-step.invariant in
    let env = given_pairs c.args.env.now in
    let step : Step = c.in-Some.step in
    let next = popped c.pop.new.self.items step inv.later (sym c.in-Some.ensures.items ∙ inv.left) in
    let rest : List Formed = next.0 in
    let read = c.in-Ok.ensures env inv.earlier inv.stands in
    record {
      earlier = step.line ∷ inv.earlier;
      later = rest;
      left = next.1.1.0;
      whole = sym (turned step.line rest inv.earlier) ∙ ap (λ (l : List Formed). reverse l ++ inv.earlier) (sym next.1.0) ∙ inv.whole;
      faults =
          ap (λ (o : Option MakeFault). or_else o (first_fault env (step.line ∷ inv.earlier) rest))
          (sym read.1 ∙ ap (λ b. line_fault env inv.earlier step.line b) next.1.1.1)
          ∙ ap (λ (l : List Formed). first_fault env inv.earlier l) (sym next.1.0) ∙ inv.faults;
      stands = read.0;
    }

pub returns-in-Err : goal.returns-in-Err
returns-in-Err c =
    let inv = c.loop-step.invariant in
    let env = given_pairs c.args.env.now in
    let whole : List Formed = map formed c.args.lines.items in
    let step : Step = c.in-Some.step in
    let next = popped c.pop.new.self.items step inv.later (sym c.in-Some.ensures.items ∙ inv.left) in
    let rest : List Formed = next.0 in
    let o : Option MakeFault = line_fault env inv.earlier step.line step.is_answered in
    let clear : first_fault env [] whole ≡ or_else o (first_fault env (step.line ∷ inv.earlier) rest) =
    sym inv.faults ∙ ap (λ (l : List Formed). first_fault env inv.earlier l) next.1.0
    ∙ ap (λ b. or_else (line_fault env inv.earlier step.line b) (first_fault env (step.line ∷ inv.earlier) rest)) (sym next.1.1.1) in
    subst (λ (f : Option MakeFault). Fails c.in-Err.fault (unless_fault env f (reverse whole))) (sym clear)
    (fails_flow env c.in-Err.fault o (first_fault env (step.line ∷ inv.earlier) rest) (reverse whole) (c.in-Err.ensures env inv.earlier inv.stands))

pub returns : goal.returns
returns c =
    let inv = c.loop-step.invariant in
    let env = given_pairs c.args.env.now in
    let whole : List Formed = map formed c.args.lines.items in
    let none : inv.later ≡ [] = all_popped inv.later (no_items c.loop-step.steps.items (sym c.loop-step.steps.ok.0 ∙ c.in_default.ensures.cases.0) ∙ inv.left) in
    let is : inv.earlier ≡ reverse whole = ap (λ (l : List Formed). reverse l ++ inv.earlier) (sym none) ∙ inv.whole in
    let clear : first_fault env [] whole ≡ None = sym inv.faults ∙ ap (λ (l : List Formed). first_fault env inv.earlier l) none in
    let flow = c.in_ok-finish.ensures env inv.earlier inv.stands in
    ap (λ (o : Option MakeFault). unless_fault env o (reverse whole)) clear
    ∙ ap (λ (w : List Formed). Ok (flow_at env w)) (sym is) ∙ ap (λ (f : RawFlow). Ok f) (sym flow)
