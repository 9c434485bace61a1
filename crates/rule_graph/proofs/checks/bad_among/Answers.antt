use Rattle.std.proofs.Common.{◌+◌, [], ◌∷◌, drop, sym, ◌∙◌}
use Rattle.std.specs.Prelude.{find}
use Rattle.rule_graph.specs.Flows.{remote_text}
use Rattle.rule_graph.specs.Faults.{is_no_name, file_texts}
use Rattle.rule_graph.proofs.RuleFaults.{files_left, step_none, step_some}
use Rattle.rule_graph.proofs.checks.bad_among.Goals as goal

pub loop-file-preserved : goal.loop-file-preserved
loop-file-preserved c =
    let files = c.as_slice-file-items.result.now in
    let file = c.file-item.result in
    step_none c.in_ok-text.text (find is_no_name (file.local ∷ remote_text file ∷ []))
    (find is_no_name (file_texts (drop (c.loop-file.file-index + 1) files))) (find is_no_name (file_texts (drop c.loop-file.file-index files)))
    (find is_no_name (file_texts c.args.files.now))
    c.in_ok-text.ensures (sym c.is_some.ensures ∙ c.if-is_some.false)
    (files_left files c.loop-file.file-index file c.loop-file-test.true c.file-item.is) c.loop-file.invariant

pub returns-then-is_some : goal.returns-then-is_some
returns-then-is_some c =
    let files = c.as_slice-file-items.result.now in
    let file = c.file-item.result in
    step_some c.in_ok-text.text (find is_no_name (file.local ∷ remote_text file ∷ []))
    (find is_no_name (file_texts (drop (c.loop-file.file-index + 1) files))) (find is_no_name (file_texts (drop c.loop-file.file-index files)))
    (find is_no_name (file_texts c.args.files.now))
    c.in_ok-text.ensures (sym c.is_some.ensures ∙ c.if-is_some.true)
    (files_left files c.loop-file.file-index file c.loop-file-test.true c.file-item.is) c.loop-file.invariant
