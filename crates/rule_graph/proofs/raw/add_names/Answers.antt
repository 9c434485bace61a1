use Rattle.std.proofs.Common.{ℕ, [], ◌∷◌, List, ap, sym, ◌∙◌, map, fold, take}
use Rattle.std.specs.Ordering.{nat_cmp}
use Rattle.std.specs.Cmp.Lexicographic.{slice_cmp}
use Rattle.std.specs.BTreeSet.{insert_key}
use Rattle.std.proofs.lemmas.List.Sums.{fold-append}
use Rattle.flow_types.specs.Names.{form_of}
use Rattle.rule_graph.specs.declared.raw.RawPort.{RawPort}
use Rattle.rule_graph.specs.Flows.{raw_port, with_port}
use Rattle.rule_graph.proofs.Ports.{bytes_of, insert_bytes, map_take_more}
use Rattle.rule_graph.proofs.raw.add_names.Goals as goal

pub loop-file-preserved : goal.loop-file-preserved
loop-file-preserved c =
    let so_far : List RawPort = map raw_port (take c.loop-file.file-index c.as_slice-file-items.result.now) in
    let start : List (List ℕ) = map bytes_of c.args.names.now.keys in
    let keys = c.loop-file.names.keys in
    let key = c.in_ok-form_of.field-0 in
    ap (map bytes_of) c.in_ok-insert.ensures.keys ∙ insert_bytes keys key
    ∙ ap (insert_key (slice_cmp nat_cmp) (map bytes_of keys)) (c.in_ok-form_of.ensures ∙ ap form_of (c.as_bytes.ensures.value ∙ c.as_str.ensures.value))
    ∙ ap (λ names. with_port names (raw_port c.file-item.result)) c.loop-file.invariant
    ∙ sym (fold-append with_port start so_far (raw_port c.file-item.result ∷ []))
    ∙ ap (fold with_port start) (sym (map_take_more raw_port c.as_slice-file-items.result.now c.loop-file.file-index c.file-item.result c.loop-file-test.true c.file-item.is))
