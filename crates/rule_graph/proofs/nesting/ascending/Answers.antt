use Rattle.std.proofs.Common.{map, ap, ◌∙◌}
use Rattle.std.specs.BTreeSet.{insert_key}
use Rattle.std.specs.Cmp.Lexicographic.{slice_cmp}
use Rattle.std.specs.Ordering.{nat_cmp}
use Rattle.rule_graph.proofs.Ports.{bytes_of, insert_bytes}
use Rattle.rule_graph.proofs.Folders.{ascending_more}
use Rattle.rule_graph.proofs.nesting.ascending.Goals as goal

pub loop-name-preserved : goal.loop-name-preserved
loop-name-preserved c =
    let keys = c.loop-name.sorted.keys in
    let key = c.in_ok-from_slice.field-0 in
    ap (map bytes_of) c.in_ok-insert.ensures.keys ∙ insert_bytes keys key
    ∙ ap (insert_key (slice_cmp nat_cmp) (map bytes_of keys)) (c.in_ok-from_slice.ensures.items ∙ c.as_slice.ensures)
    ∙ ap (λ names. insert_key (slice_cmp nat_cmp) names c.name-item.result) c.loop-name.invariant
    ∙ ascending_more c.args.names.now c.loop-name.name-index c.name-item.result c.loop-name-test.true c.name-item.is
