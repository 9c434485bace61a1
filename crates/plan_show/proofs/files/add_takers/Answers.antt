use Rattle.std.proofs.Common.{◌<◌, ℕ, List, ap, ◌∙◌, arith, length}
use Rattle.std.proofs.lemmas.List.{length-set}
use Rattle.plan_show.proofs.Taking.{port_inside, taken-more}
use Rattle.plan_show.proofs.files.add_takers.Goals as goal

pub loop-port-preserved : goal.loop-port-preserved
loop-port-preserved c =
    let old : List (List ℕ) = c.loop-port.index.items in
    let at_i : c.loop-port.port-index < length c.as_slice-port-items.result.now = omega (arith, c.loop-port-test.true) in
    let low : c.port-item.result.file.0 < length c.args.index.now.items =
    port_inside (length c.args.index.now.items) c.args.inputs.now c.as_slice-port-items.result.now c.loop-port.port-index c.port-item.result
    c.as_slice-port-items.ensures c.requires at_i c.port-item.is in
    let inside : c.port-item.result.file.0 < length old = omega (arith, low, c.loop-port.invariant.len) in
    record {
      len = ap length c.in_ok-add_taker.ensures ∙ length-set old c.port-item.result.file.0 _ ∙ c.loop-port.invariant.len;
      each = λ f below.
          taken-more old c.add_taker.new.index.items _ c.args.rule f c.as_slice-port-items.result.now c.loop-port.port-index c.port-item.result at_i c.port-item.is
          inside c.in_ok-add_taker.ensures below (c.loop-port.invariant.each f below);
    }
