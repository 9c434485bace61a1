use Rattle.std.proofs.Common.{◌<◌, ◌+◌, List, ℕ, sym, subst, length}
use Rattle.flow_types.specs.declared.plan.Port.{Port}
use Rattle.rule_progress.proofs.Filling.{IsAdding, adding-step}
use Rattle.rule_progress.proofs.takers.add_ports.Goals as goal

pub loop-port-preserved : goal.loop-port-preserved
loop-port-preserved c =
    let here = sym c.port-item.is in
    let first : c.port-item.result.file.0 < length c.args.files.now.items = subst (λ (p : Port). p.file.0 < length c.args.files.now.items) here (c.requires c.loop-port.port-index c.port-item.result c.loop-port-test.true) in
    let less : c.port-item.result.file.0 < length c.loop-port.files.items = subst (λ n. c.port-item.result.file.0 < n) (sym c.loop-port.invariant.same) first in
    subst (λ (xs : List (List ℕ)). IsAdding c.args.files.now.items c.args.ports.now c.args.rule.0 (c.loop-port.port-index + 1) xs) (sym c.in_ok-add_port.ensures)
    (adding-step c.args.files.now.items c.loop-port.files.items c.args.ports.now c.args.rule.0 c.loop-port.port-index c.port-item.result c.loop-port-test.true here less c.loop-port.invariant)
