use Rattle.std.proofs.Common.{◌∙◌, ◌<◌, List, ℕ, Bool, false, length, arith}
use Rattle.rule_graph.specs.Flows.{is_text_of}
use Rattle.rule_graph.proofs.Tables.{marks_more, written_back}
use Rattle.rule_graph.proofs.numbering.kept_of.Goals as goal

pub loop-text-preserved : goal.loop-text-preserved
loop-text-preserved c =
    let texts : List (List ℕ) = c.as_slice-text-items.result.now in
    let inside : c.loop-text.text-index < length texts = omega (arith, c.loop-text-test.true) in
    let old : List Bool = c.loop-text.table.items in
    written_back c.put_text.new.table old c.loop-text.table.len (c.put_text.auto.table ∙ c.deref_mut.ensures.len) c.loop-text.table.ok.0
    ∙ marks_more c.args.names.now (λ n. false) is_text_of texts c.loop-text.text-index c.text-item.result old c.put_text.new.table inside c.text-item.is
    (λ of before. c.in_ok-put_text.ensures of (c.deref_mut.ensures.value ∙ before)) c.loop-text.invariant
