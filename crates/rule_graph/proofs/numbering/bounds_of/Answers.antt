use Rattle.std.proofs.Common.{◌∙◌, ◌<◌, List, ℕ, cond, length, arith}
use Rattle.flow_types.specs.declared.flow.SizeBound.{SizeBound}
use Rattle.flow_types.specs.Plans.{most_bytes}
use Rattle.rule_graph.specs.Flows.{is_text_of}
use Rattle.rule_graph.proofs.Tables.{folds_more, written_back}
use Rattle.rule_graph.proofs.numbering.bounds_of.Goals as goal

pub loop-line-preserved : goal.loop-line-preserved
loop-line-preserved c =
    let lines : List SizeBound = c.as_slice-line-items.result.now in
    let inside : c.loop-line.line-index < length lines = omega (arith, c.loop-line-test.true) in
    let old : List ℕ = c.loop-line.table.items in
    let says : List ℕ → ℕ → SizeBound → ℕ = λ n bound line. cond (is_text_of n line.name) line.bytes bound in
    written_back c.put_text.new.table old c.loop-line.table.len (c.put_text.auto.table ∙ c.deref_mut.ensures.len) c.loop-line.table.ok.0
    ∙ folds_more c.args.names.now says most_bytes lines c.loop-line.line-index c.line-item.result old c.put_text.new.table inside c.line-item.is
    (λ of before. c.in_ok-put_text.ensures of (c.deref_mut.ensures.value ∙ before)) c.loop-line.invariant
