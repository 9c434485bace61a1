use Rattle.std.proofs.Common.{◌≡◌, List, subst, sym}
use Rattle.flow_types.specs.declared.numbers.LinkNo.{LinkNo}
use Rattle.running_rules.specs.Tasks.{IsBehind, IsFirstOf, IsSpan, Tasks}
use Rattle.running_rules.proofs.Spans.{span-of}
use Rattle.running_rules.proofs.running.Running.span.Goals as goal

pub returns : goal.returns
returns c =
    let k = c.args.link.0 in
    subst (λ (T : Tasks). IsSpan T k c.first_of.result c.behind.result) c.self.view_is
    (span-of _ k c.first_of.result c.behind.result c.self.invariant.0
    (subst (λ (xs : List LinkNo). IsFirstOf k xs c.first_of.result) c.deref.ensures.value c.first_of.ensures)
    (subst (λ (xs : List LinkNo). IsBehind k xs c.behind.result) c.deref-2.ensures.value c.behind.ensures))
