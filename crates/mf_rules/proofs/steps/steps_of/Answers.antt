use Rattle.std.proofs.Common.{◌≡◌, Bool, List, [], ◌∷◌, ◌++◌, map, sym, ap, ◌∙◌}
use Rattle.mf_text.specs.declared.lines.Line.{Line}
use Rattle.mf_rules.specs.declared.steps.Formed.{Formed}
use Rattle.mf_rules.specs.declared.steps.Step.{Step}
use Rattle.mf_rules.specs.Faults.{is_answered_by}
use Rattle.mf_rules.specs.Flow.{formed}
use Rattle.mf_rules.specs.Progress.{stack_of}
use Rattle.mf_rules.proofs.Lists.{before_rest}
use Rattle.mf_rules.proofs.steps.steps_of.Goals as goal

pub loop-line-preserved : goal.loop-line-preserved
loop-line-preserved c =
    let inv = c.loop-line.invariant in
    let line : Formed = c.in_ok-line.line in
    let is : line ≡ formed c.in-Some.line = c.in_ok-line.ensures in
    record {
      later = line ∷ inv.later;
      whole =
          ap (λ (x : Formed). map formed c.pop.new.self.items ++ x ∷ inv.later) is
          ∙ sym (before_rest formed c.pop.new.self.items c.in-Some.line inv.later)
          ∙ ap (λ (xs : List Line). map formed xs ++ inv.later) (sym c.in-Some.ensures.items) ∙ inv.whole;
      steps =
          c.in-Ok.ensures.items
          ∙ ap (λ (xs : List Step). xs ++ record { line = line; is_answered = c.loop-line.is_answered } ∷ []) inv.steps
          ∙ ap (λ (b : Bool). stack_of inv.later ++ record { line = line; is_answered = b } ∷ []) inv.answered;
      answered = c.answers_before-before.ensures ∙ ap (λ (b : Bool). is_answered_by line.form b) inv.answered;
    }
