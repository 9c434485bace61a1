use Rattle.std.proofs.Common.{◌≡◌, ◌+◌, ℕ, List, [], ◌∷◌, ◌++◌, Bool, sym, ◌∙◌, subst, take}
use Rattle.std.specs.Option.{option_map}
use Rattle.std.proofs.lemmas.List.{take_all}
use Rattle.flow_types.specs.declared.plan.Port.{Port}
use Rattle.flow_types.specs.Plans.{files_of}
use Rattle.rule_graph.specs.Walking.{IsLeastOf, is_never_made}
use Rattle.rule_graph.proofs.Wiring.{files-more}
use Rattle.rule_graph.proofs.LeastInput.{least_keeps, least_takes}
use Rattle.rule_graph.proofs.cycle.least_input.Goals as goal
use Rattle.rule_graph.proofs.cycle.least_input.Goals.{then-is_never_made, else-is_never_made}

pub loop-port-preserved : goal.loop-port-preserved
loop-port-preserved c =
    let test : ℕ → Bool = is_never_made c.args.plan.now in
    let items : List Port = c.as_slice-port-items.result.now in
    let i : ℕ = c.loop-port.port-index in
    let x : ℕ = c.port-item.result.file.0 in
    let more : files_of (take (i + 1) items) ≡ files_of (take i items) ++ (x ∷ []) = files-more items i c.port-item.result c.loop-port-test.true c.port-item.is in
    let before = c.loop-port.invariant in
    let made = c.is_never_made.ensures in
    subst (λ files. IsLeastOf test files (option_map (λ file. file.0) c.if-is_never_made.least)) (sym more)
    (elim c.if-is_never_made.branch [
      | then-is_never_made w ↦
          subst (λ least. IsLeastOf test (files_of (take i items) ++ (x ∷ [])) (option_map (λ file. file.0) least)) (sym w.least-is)
          (least_takes test (files_of (take i items)) x w.lesser.result.0 c.loop-port.least (sym made ∙ w.if-is_never_made.true) before w.lesser.ensures)
      | else-is_never_made w ↦
          subst (λ least. IsLeastOf test (files_of (take i items) ++ (x ∷ [])) (option_map (λ file. file.0) least)) (sym w.least-is)
          (least_keeps test (files_of (take i items)) x (option_map (λ file. file.0) c.loop-port.least) (sym made ∙ w.if-is_never_made.false) before)
    ])

pub returns : goal.returns
returns c =
    subst (λ ports. IsLeastOf (is_never_made c.args.plan.now) (files_of ports) (option_map (λ file. file.0) c.loop-port.least))
    (take_all c.loop-port.port-index c.as_slice-port-items.result.now c.loop-port-test.false ∙ c.as_slice-port-items.ensures)
    c.loop-port.invariant
