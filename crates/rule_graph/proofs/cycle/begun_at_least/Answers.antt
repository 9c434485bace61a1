use Rattle.std.proofs.Common.{◌++◌, ap, ◌∙◌}
use Rattle.rule_graph.proofs.Places.{turned_of}
use Rattle.rule_graph.proofs.cycle.begun_at_least.Goals as goal

pub returns : goal.returns
returns c =
    turned_of c.args.rules.now c.extend_from_slice.new.self.items c.split_at.result.0.now c.split_at.result.1.now c.place_of_least.result c.place_of_least.ensures.inside
    c.split_at.ensures.front c.split_at.ensures.back
    (c.in_ok-extend_from_slice.ensures.items ∙ ap (λ xs. xs ++ c.split_at.result.0.now) c.in_ok-turned.ensures.items)
    c.place_of_least.ensures.least
