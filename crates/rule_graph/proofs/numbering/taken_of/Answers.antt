use Rattle.std.proofs.Common.{◌∙◌, ◌<◌, ◌||◌, List, ℕ, Bool, ap, sym, true, false, length, arith, cond}
use Rattle.flow_types.specs.declared.flow.RawRule.{RawRule}
use Rattle.rule_graph.specs.Flows.{has_local, raw_inputs}
use Rattle.rule_graph.specs.Stated.{has_file}
use Rattle.rule_graph.proofs.Repeats.{inputs_local}
use Rattle.rule_graph.proofs.Tables.{marks_more, written_back, or_is, map_same}
use Rattle.rule_graph.proofs.numbering.taken_of.Goals as goal

pub loop-rule-preserved : goal.loop-rule-preserved
loop-rule-preserved c =
    let says_of : List ℕ → RawRule → Bool = λ n rule. has_local n (raw_inputs rule) in
    let rules : List RawRule = c.as_slice-rule-items.result.now in
    let inside : c.loop-rule.rule-index < length rules = omega (arith, c.loop-rule-test.true) in
    let old : List Bool = c.loop-rule.table.items in
    written_back c.mark_files.new.table old c.loop-rule.table.len (c.mark_files.auto.table ∙ c.deref_mut.ensures.len) c.loop-rule.table.ok.0
    ∙ marks_more c.args.names.now (λ n. false) says_of rules c.loop-rule.rule-index c.rule-item.result old c.mark_files.new.table inside c.rule-item.is
    (λ of before.
    c.in_ok-mark_files.ensures of (c.deref_mut.ensures.value ∙ before)
    ∙ map_same (λ n. of n || has_file n c.rule-item.result.inputs) (λ n. cond (says_of n c.rule-item.result) true (of n)) c.args.names.now
    (λ n. ap (λ b. of n || b) (sym (inputs_local n c.rule-item.result)) ∙ or_is (of n) (says_of n c.rule-item.result)))
    c.loop-rule.invariant
