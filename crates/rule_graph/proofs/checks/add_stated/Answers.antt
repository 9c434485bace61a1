use Rattle.std.proofs.Common.{ℕ, List, [], ◌∷◌, ◌++◌, ap, sym, ◌∙◌, append_assoc, map, take}
use Rattle.flow_types.specs.declared.flow.RawFile.{RawFile}
use Rattle.flow_types.specs.Names.{form_of}
use Rattle.rule_graph.specs.Flows.{remote_text}
use Rattle.rule_graph.proofs.Ports.{map_take_more}
use Rattle.rule_graph.proofs.checks.add_stated.Goals as goal

pub loop-file-preserved : goal.loop-file-preserved
loop-file-preserved c =
    let named : RawFile → List ℕ = λ file. form_of (remote_text file) in
    let start : List (List ℕ) = c.args.names.now.items in
    let so_far : List (List ℕ) = map named (take c.loop-file.file-index c.as_slice-file-items.result.now) in
    c.in_ok-push.ensures.items
    ∙ ap (λ names. names ++ c.in_ok-form.field-0 ∷ []) c.loop-file.invariant
    ∙ append_assoc start so_far (c.in_ok-form.field-0 ∷ [])
    ∙ ap (λ name. start ++ (so_far ++ name ∷ [])) (c.in_ok-form.ensures ∙ ap form_of c.remote_text.ensures)
    ∙ ap (λ names. start ++ names) (sym (map_take_more named c.as_slice-file-items.result.now c.loop-file.file-index c.file-item.result c.loop-file-test.true c.file-item.is))
