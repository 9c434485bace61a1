use Rattle.std.proofs.Common.{◌≡◌, ◌+◌, List, [], ◌∷◌, ◌++◌, ap, sym, ◌∙◌, subst, map, take}
use Rattle.rule_graph.specs.declared.raw.RawPort.{RawPort}
use Rattle.rule_graph.specs.Flows.{raw_port, each_once}
use Rattle.rule_graph.proofs.Ports.{Key, port_of, IsSeen, seen_more, is_new, is_old, once_new, once_old, map_take_more}
use Rattle.rule_graph.proofs.raw.raw_inputs.Goals as goal
use Rattle.rule_graph.proofs.raw.raw_inputs.Goals.{then-branch+in_ok-push, else-branch}

pub loop-file-preserved : goal.loop-file-preserved
loop-file-preserved c =
    let so_far : List RawPort = map raw_port (take c.loop-file.file-index c.as_slice-file-items.result.now) in
    let key : Key = c.in_ok-key_of.field-0 in
    let port : c.in_ok-port.port ≡ port_of key = c.in_ok-key_of.ensures in
    let more : map raw_port (take (c.loop-file.file-index + 1) c.as_slice-file-items.result.now) ≡ so_far ++ port_of key ∷ [] =
    map_take_more raw_port c.as_slice-file-items.result.now c.loop-file.file-index c.file-item.result c.loop-file-test.true c.file-item.is
    ∙ ap (λ p. so_far ++ p ∷ []) (sym c.in_ok-port.ensures ∙ port) in
    record {
      seen = subst (IsSeen c.insert.new.self) (sym more) (seen_more c.loop-file.seen c.insert.new.self key so_far c.in_ok-insert.ensures.updates c.loop-file.invariant.seen);
      once = elim c.if-branch.branch [
        | then-branch+in_ok-push w ↦
            ap (λ v. v.items) w.ports-is ∙ w.in_ok-push.ensures.items
            ∙ ap (λ ports. ports ++ c.in_ok-port.port ∷ []) c.loop-file.invariant.once
            ∙ ap (λ p. each_once so_far ++ p ∷ []) port
            ∙ sym (once_new so_far (port_of key) (sym (c.loop-file.invariant.seen key) ∙ is_new c.in_ok-insert.field-0 _ c.in_ok-insert.ensures.added w.if-branch.true))
            ∙ ap each_once (sym more)
        | else-branch w ↦
            ap (λ v. v.items) w.ports-is ∙ c.loop-file.invariant.once
            ∙ sym (once_old so_far (port_of key) (sym (c.loop-file.invariant.seen key) ∙ is_old c.in_ok-insert.field-0 _ c.in_ok-insert.ensures.added w.if-branch.false))
            ∙ ap each_once (sym more)
      ];
    }
