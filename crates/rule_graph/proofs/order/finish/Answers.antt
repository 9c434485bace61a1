use Rattle.std.proofs.Common.{◌≡◌, ◌<◌, ℕ, true, ap, sym, ◌∙◌, arith, length}
use Rattle.std.proofs.lemmas.List.{length-set}
use Rattle.rule_graph.proofs.Wiring.{port_inside}
use Rattle.rule_graph.proofs.Marking.{marks_more}
use Rattle.rule_graph.proofs.order.finish.Goals as goal

pub loop-port-preserved : goal.loop-port-preserved
loop-port-preserved c =
    let at_i : c.loop-port.port-index < length c.as_slice-port-items.result.now = omega (arith, c.loop-port-test.true) in
    let low : c.port-item.result.file.0 < length c.args.progress.now.made.items =
    port_inside (length c.args.progress.now.made.items) c.args.outputs.now c.as_slice-port-items.result.now c.loop-port.port-index c.port-item.result
    c.as_slice-port-items.ensures c.requires.inside at_i c.port-item.is in
    let inside : c.port-item.result.file.0 < length c.loop-port.progress.made.items = omega (arith, low, c.loop-port.invariant.files) in
    record {
      under_way = λ P taken is_index before. c.in_ok-mark.ensures.under_way P taken is_index (c.loop-port.invariant.under_way P taken is_index before);
      made = λ f f_inside.
          marks_more c.args.progress.now.made.items c.loop-port.progress.made.items c.mark.new.progress.made.items f c.as_slice-port-items.result.now
          c.loop-port.port-index c.port-item.result at_i c.port-item.is inside c.in_ok-mark.ensures.made (c.loop-port.invariant.made f f_inside);
      files = ap length c.in_ok-mark.ensures.made ∙ length-set c.loop-port.progress.made.items c.port-item.result.file.0 true ∙ c.loop-port.invariant.files;
      rules = c.in_ok-mark.ensures.rules ∙ c.loop-port.invariant.rules;
    }
