use Rattle.std.proofs.Common.{◌≡◌, List, ℕ, ◌∷◌, false, true, ap, sym, ◌∙◌}
use Rattle.std.specs.List.{list_any}
use Rattle.std.specs.Str.{bytes_eq}
use Rattle.rule_graph.proofs.Ports.{is_new, is_old}
use Rattle.rule_graph.proofs.RuleFaults.{past_more, repeat_new, repeat_old}
use Rattle.rule_graph.proofs.checks.repeated.Goals as goal

pub loop-name-preserved : goal.loop-name-preserved
loop-name-preserved c =
    let past : List (List ℕ) = c.loop-name.invariant.0 in
    let key = c.in_ok-from_slice.field-0 in
    let name : List ℕ = c.name-item.result in
    let same : key.items ≡ name = c.in_ok-from_slice.ensures.items ∙ c.as_slice.ensures in
    let fresh : list_any (bytes_eq name) past ≡ false =
    ap (λ n. list_any (bytes_eq n) past) (sym same) ∙ sym (c.loop-name.invariant.1 key) ∙ is_new c.in_ok-insert.field-0 _ c.in_ok-insert.ensures.added c.if-not-branch.false in (
      name ∷ past,
      past_more c.loop-name.seen c.insert.new.self key name past same c.in_ok-insert.ensures.updates c.loop-name.invariant.1,
      sym (repeat_new past c.args.names.now c.loop-name.name-index name c.loop-name-test.true c.name-item.is fresh) ∙ c.loop-name.invariant.2,
    )

pub returns-then-not-branch : goal.returns-then-not-branch
returns-then-not-branch c =
    let past : List (List ℕ) = c.loop-name.invariant.0 in
    let key = c.in_ok-from_slice.field-0 in
    let name : List ℕ = c.name-item.result in
    let same : key.items ≡ name = c.in_ok-from_slice.ensures.items ∙ c.as_slice.ensures in
    let seen : list_any (bytes_eq name) past ≡ true =
    ap (λ n. list_any (bytes_eq n) past) (sym same) ∙ sym (c.loop-name.invariant.1 key) ∙ is_old c.in_ok-insert.field-0 _ c.in_ok-insert.ensures.added c.if-not-branch.true in
    sym (repeat_old past c.args.names.now c.loop-name.name-index name c.loop-name-test.true c.name-item.is seen) ∙ c.loop-name.invariant.2
