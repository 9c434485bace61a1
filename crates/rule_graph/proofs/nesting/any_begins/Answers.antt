use Rattle.std.proofs.Common.{ℕ, List, [], ◌<◌, length, ap, sym, ◌∙◌, arith}
use Rattle.std.specs.Prelude.{nat_eq}
use Rattle.std.specs.List.{starts_with}
use Rattle.rule_graph.proofs.Folders.{begins_at, begins_nowhere, get_same}
use Rattle.rule_graph.proofs.nesting.any_begins.Goals as goal

pub returns-then-at-names : goal.returns-then-at-names
returns-then-at-names c =
    sym (begins_nowhere c.args.names.now c.args.start.now (λ k inside. c.first_from-at.ensures.before k (omega (arith, inside, c.if-at-names.true))))

pub returns : goal.returns
returns c =
    let names : List (List ℕ) = c.args.names.now in
    let at : ℕ = c.first_from-at.result in
    let inside : at < length names = omega (arith, c.first_from-at.ensures.within, c.if-at-names.false) in
    c.starts_with.ensures.value
    ∙ ap (λ name. starts_with nat_eq name c.args.start.now) (c.as_slice.ensures ∙ c.index-names-at.is ∙ get_same names at c.index-names-at.result [] inside)
    ∙ begins_at names at c.args.start.now c.requires inside c.first_from-at.ensures.before (c.first_from-at.ensures.from inside)
