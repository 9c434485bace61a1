use Rattle.std.proofs.Common.{◌<◌, ◌++◌, ◌∷◌, [], ℕ, length, ap, sym, subst, ◌∙◌}
use Rattle.std.proofs.lemmas.Bool.{ltb-true}
use Rattle.flow_types.specs.declared.records.Record.{Record}
use Rattle.log_text.specs.declared.tally.Row.{Row}
use Rattle.log_text.specs.Tallies.{IsPut, Tells, is_below}
use Rattle.log_text.proofs.Noting.{tells-done, tells-failed, tells-lost, tells-started}
use Rattle.log_text.proofs.tally.Tally.note.Goals as goal

pub returns-in-Started-clause-tells : goal.returns-in-Started-clause-tells
returns-in-Started-clause-tells c H told =
    let n : ℕ = length c.args.self.now.rows.items in
    let inside : c.in-Started.rule.0 < n = ltb-true c.in-Started.rule.0 n (ap (is_below n) (sym c.in-Started.is) ∙ c.requires.inside) in
    subst (λ (x : Record). Tells c.put.new.self (H ++ (x ∷ []))) (sym c.in-Started.is)
    (tells-started c.args.self.now c.put.new.self H c.in-Started.moment c.in-Started.rule c.in-Started.attempt c.in-Started.link c.row-row.result told inside c.row-row.ensures
    (subst (λ (y : Row). IsPut c.args.self.now c.in-Started.rule.0 y c.put.new.self) c.started.ensures c.put.ensures.put))

pub returns-in-Done-clause-tells : goal.returns-in-Done-clause-tells
returns-in-Done-clause-tells c H told =
    let n : ℕ = length c.args.self.now.rows.items in
    let inside : c.in-Done.rule.0 < n = ltb-true c.in-Done.rule.0 n (ap (is_below n) (sym c.in-Done.is) ∙ c.requires.inside) in
    subst (λ (x : Record). Tells c.put-in-Done.new.self (H ++ (x ∷ []))) (sym c.in-Done.is)
    (tells-done c.args.self.now c.put-in-Done.new.self H c.in-Done.moment c.in-Done.rule c.in-Done.attempt c.in-Done.outs c.row-row-in-Done.result told inside c.row-row-in-Done.ensures
    (subst (λ (y : Row). IsPut c.args.self.now c.in-Done.rule.0 y c.put-in-Done.new.self) c.finished.ensures c.put-in-Done.ensures.put))

pub returns-in-Failed-clause-tells : goal.returns-in-Failed-clause-tells
returns-in-Failed-clause-tells c H told =
    let n : ℕ = length c.args.self.now.rows.items in
    let inside : c.in-Failed.rule.0 < n = ltb-true c.in-Failed.rule.0 n (ap (is_below n) (sym c.in-Failed.is) ∙ c.requires.inside) in
    subst (λ (x : Record). Tells c.put-in-Failed.new.self (H ++ (x ∷ []))) (sym c.in-Failed.is)
    (tells-failed c.args.self.now c.put-in-Failed.new.self H c.in-Failed.moment c.in-Failed.rule c.in-Failed.attempt c.in-Failed.why c.row-row-in-Failed.result told inside
    c.row-row-in-Failed.ensures (subst (λ (y : Row). IsPut c.args.self.now c.in-Failed.rule.0 y c.put-in-Failed.new.self) c.failed.ensures c.put-in-Failed.ensures.put))

pub returns-in-Lost-clause-tells : goal.returns-in-Lost-clause-tells
returns-in-Lost-clause-tells c H told =
    let n : ℕ = length c.args.self.now.rows.items in
    let inside : c.in-Lost.rule.0 < n = ltb-true c.in-Lost.rule.0 n (ap (is_below n) (sym c.in-Lost.is) ∙ c.requires.inside) in
    subst (λ (x : Record). Tells c.put-in-Lost.new.self (H ++ (x ∷ []))) (sym c.in-Lost.is)
    (tells-lost c.args.self.now c.put-in-Lost.new.self H c.in-Lost.moment c.in-Lost.rule c.in-Lost.attempt c.row-row-in-Lost.result told inside c.row-row-in-Lost.ensures
    (subst (λ (y : Row). IsPut c.args.self.now c.in-Lost.rule.0 y c.put-in-Lost.new.self) c.closed.ensures c.put-in-Lost.ensures.put))
