use Rattle.std.proofs.Common.{◌≡◌, ◌<◌, ℕ, List, [], refl, ap, sym, ◌∙◌, arith, length, subst, All, get_or}
use Rattle.std.proofs.lemmas.List.{length-set}
use Rattle.rule_graph.specs.Progress.{times_in}
use Rattle.rule_graph.proofs.Wiring.{takers_step, others_same, inside_more, port_inside}
use Rattle.rule_graph.proofs.order.add_takers.Goals as goal

pub loop-port-preserved : goal.loop-port-preserved
loop-port-preserved c =
    let old : List (List ℕ) = c.loop-port.index.items in
    let at_i : c.loop-port.port-index < length c.as_slice-port-items.result.now = omega (arith, c.loop-port-test.true) in
    let low : c.port-item.result.file.0 < length c.args.index.now.items =
    port_inside (length c.args.index.now.items) c.args.inputs.now c.as_slice-port-items.result.now c.loop-port.port-index c.port-item.result
    c.as_slice-port-items.ensures c.requires at_i c.port-item.is in
    let inside : c.port-item.result.file.0 < length old = omega (arith, low, c.loop-port.invariant.len) in
    record {
      len = ap length c.in_ok-add_taker.ensures ∙ length-set old c.port-item.result.file.0 _ ∙ c.loop-port.invariant.len;
      inside = λ n lower all.
          let P : List (List ℕ) → Type 0 = All (All (λ t. t < n)) in
          subst P (sym c.in_ok-add_taker.ensures) (inside_more old c.port-item.result.file.0 c.args.rule n inside lower (c.loop-port.invariant.inside n lower all));
      own = λ f f_inside.
          takers_step old c.add_taker.new.index.items c.port-item.result.file.0 c.args.rule f (times_in c.args.rule (get_or c.args.index.now.items f []))
          c.as_slice-port-items.result.now c.loop-port.port-index c.port-item.result inside c.in_ok-add_taker.ensures at_i c.port-item.is refl (c.loop-port.invariant.own f f_inside);
      others = λ t f other.
          ap (λ index. times_in t (get_or index f [])) c.in_ok-add_taker.ensures
          ∙ others_same old c.port-item.result.file.0 f c.args.rule t inside other ∙ c.loop-port.invariant.others t f other;
    }
