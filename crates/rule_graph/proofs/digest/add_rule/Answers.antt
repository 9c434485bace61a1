use Rattle.rule_graph.proofs.Hashed.{adds_more}
use Rattle.rule_graph.proofs.digest.add_rule.Goals as goal

pub returns : goal.returns
returns c =
    adds_more _ _ _ _ _
    (adds_more _ _ _ _ _
    (adds_more _ _ _ _ _ (adds_more _ _ _ _ _ c.add_text.ensures c.add_pairs.ensures) c.add_ports.ensures)
    c.add_ports-2.ensures)
    c.add_long_number.ensures
