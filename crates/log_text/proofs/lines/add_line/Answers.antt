use Rattle.std.proofs.Common.{◌≡◌, ◌++◌, List, ℕ, OnOk, ap, sym, subst, ◌∙◌}
use Rattle.log_text.specs.Lines.{record_line, state_line}
use Rattle.log_text.proofs.lines.add_line.Goals as goal

pub returns-in-Failed : goal.returns-in-Failed
returns-in-Failed c H told =
    subst (λ (text : List ℕ). OnOk c.add_state-in-Failed.result (c.add_state-in-Failed.new.out.items ≡ c.args.out.now.items ++ text))
    (ap (λ (state : ℕ). state_line c.args.plan.now H c.in-Failed.moment c.in-Failed.rule.0 state c.in-Failed.attempt.0) (c.state_behind_failure-state.ensures H told)
    ∙ ap (record_line c.args.plan.now H) (sym c.in-Failed.is))
    (c.add_state-in-Failed.ensures H told)
