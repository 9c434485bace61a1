use Rattle.std.proofs.Common.{◌≡◌, ◌<◌, ◌≤◌, ◌∷◌, ◌++◌, [], List, reverse, refl, sym, ap, subst, ◌∙◌, arith}
use Rattle.std.proofs.lemmas.List.{nil_from_length}
use Rattle.jx_syntax.specs.declared.node.Node.{Node}
use Rattle.jx_syntax.specs.declared.pending.Pending.{Pending}
use Rattle.jx_syntax.specs.declared.pending.Pending.TheVariants as pending
use Rattle.jx_syntax.specs.Grammar.{binds, sign_binds}
use Rattle.jx_syntax.specs.Reading.{depth}
use Rattle.jx_syntax.specs.Tree.{tree_of}
use Rattle.jx_syntax.specs.Shown.{Shows, IsLast}
use Rattle.jx_syntax.proofs.Steps.{on_top}
use Rattle.jx_syntax.proofs.Applied.{left_applied, before_applied, left_kept, before_kept, none_kept, other_kept}
use Rattle.jx_syntax.proofs.pending.Reader.applied.Goals as goal

pub returns-in_default-clause-shown : goal.returns-in_default-clause-shown
returns-in_default-clause-shown c = λ fs x h deep l.
    let ns : List Node = c.args.self.now.nodes.items in
    let none : c.pop.new.self.items ≡ [] = nil_from_length c.pop.new.self.items (omega (arith, c.in_default.ensures.len, c.in_default.ensures.cases.1, c.pop.new.self.ok.0)) in
    let old : c.args.self.now.stack.items ≡ [] = nil_from_length c.args.self.now.stack.items (omega (arith, c.in_default.ensures.cases.0, c.args.self.now.stack.ok.0)) in
    let h0 : Shows ns [] fs = subst (λ (qs : List Pending). Shows ns (reverse qs) fs) old h in
    ((subst (λ (qs : List Pending). Shows ns (reverse qs) fs) (old ∙ sym none) h, deep, l), none_kept ns [] c.args.level fs x h0)

pub returns-then-level_of-level-clause-shown : goal.returns-then-level_of-level-clause-shown
returns-then-level_of-level-clause-shown c = λ fs x h deep l.
    let ns : List Node = c.args.self.now.nodes.items in
    let old : List Pending = c.args.self.now.stack.items in
    let rest : List Pending = c.pop.new.self.items in
    let q : Pending = (pending.Left c.in-Left.place c.in-Left.operator c.in-Left.left) in
    let top : Shows ns (q ∷ reverse rest) fs = on_top ns old rest c.in-Some.top q fs c.in-Some.ensures.items c.in-Left.is h in
    let same : c.push.new.self.items ≡ old = c.in_ok-push-in-Left.ensures.items ∙ ap (λ (t : Pending). rest ++ t ∷ []) (sym c.in-Left.is) ∙ sym c.in-Some.ensures.items in
    let lt : binds c.in-Left.operator < c.args.level = omega (arith, c.level_of.ensures, c.if-level_of-level.true) in (
      (subst (λ (qs : List Pending). Shows ns (reverse qs) fs) (sym same) h, deep, l),
      left_kept ns (reverse rest) c.args.level fs x c.in-Left.place c.in-Left.operator c.in-Left.left top lt,
    )

pub returns-then-sign_level-level-clause-shown : goal.returns-then-sign_level-level-clause-shown
returns-then-sign_level-level-clause-shown c = λ fs x h deep l.
    let ns : List Node = c.args.self.now.nodes.items in
    let old : List Pending = c.args.self.now.stack.items in
    let rest : List Pending = c.pop.new.self.items in
    let q : Pending = (pending.Before c.in-Before.place c.in-Before.sign) in
    let top : Shows ns (q ∷ reverse rest) fs = on_top ns old rest c.in-Some.top q fs c.in-Some.ensures.items c.in-Before.is h in
    let same : c.push-then-sign_level-level.new.self.items ≡ old = c.in_ok-push-in-Before.ensures.items ∙ ap (λ (t : Pending). rest ++ t ∷ []) (sym c.in-Before.is) ∙ sym c.in-Some.ensures.items in
    let lt : sign_binds c.in-Before.sign < c.args.level = omega (arith, c.sign_level.ensures, c.if-sign_level-level.true) in (
      (subst (λ (qs : List Pending). Shows ns (reverse qs) fs) (sym same) h, deep, l),
      before_kept ns (reverse rest) c.args.level fs x c.in-Before.place c.in-Before.sign top lt,
    )

pub returns-in_ok-applied-in-Left-clause-shown : goal.returns-in_ok-applied-in-Left-clause-shown
returns-in_ok-applied-in-Left-clause-shown c = λ fs x h deep l.
    let ns : List Node = c.args.self.now.nodes.items in
    let old : List Pending = c.args.self.now.stack.items in
    let rest : List Pending = c.pop.new.self.items in
    let q : Pending = (pending.Left c.in-Left.place c.in-Left.operator c.in-Left.left) in
    let top : Shows ns (q ∷ reverse rest) fs = on_top ns old rest c.in-Some.top q fs c.in-Some.ensures.items c.in-Left.is h in
    let le : c.args.level ≤ binds c.in-Left.operator = omega (arith, c.level_of.ensures, c.if-level_of-level.false) in
    let ms : List Node = c.put.new.self.nodes.items in
    let r = left_applied ns ms (reverse rest) c.args.operand c.args.level fs x c.in-Left.place c.in-Left.operator c.in-Left.left top l c.in_ok-applied-in-Left.ensures.nodes le in
    let shown : Shows ms (reverse c.put.new.self.stack.items) r.0 = rw c.in_ok-applied-in-Left.ensures.stack r.2 in
    let last : IsLast ms c.in_ok-applied-in-Left.applied (tree_of r.1) = rw c.in_ok-applied-in-Left.ensures.index r.4 in
    ((r.0, r.1), (shown, c.in_ok-applied-in-Left.ensures.depth ∙ deep ∙ r.3, last), r.5)

pub returns-in_ok-applied-in-Before-clause-shown : goal.returns-in_ok-applied-in-Before-clause-shown
returns-in_ok-applied-in-Before-clause-shown c = λ fs x h deep l.
    let ns : List Node = c.args.self.now.nodes.items in
    let old : List Pending = c.args.self.now.stack.items in
    let rest : List Pending = c.pop.new.self.items in
    let q : Pending = (pending.Before c.in-Before.place c.in-Before.sign) in
    let top : Shows ns (q ∷ reverse rest) fs = on_top ns old rest c.in-Some.top q fs c.in-Some.ensures.items c.in-Before.is h in
    let le : c.args.level ≤ sign_binds c.in-Before.sign = omega (arith, c.sign_level.ensures, c.if-sign_level-level.false) in
    let ms : List Node = c.put-in-Before.new.self.nodes.items in
    let r = before_applied ns ms (reverse rest) c.args.operand c.args.level fs x c.in-Before.place c.in-Before.sign top l c.in_ok-applied-in-Before.ensures.nodes le in
    let shown : Shows ms (reverse c.put-in-Before.new.self.stack.items) r.0 = rw c.in_ok-applied-in-Before.ensures.stack r.2 in
    let last : IsLast ms c.in_ok-applied-in-Before.applied (tree_of r.1) = rw c.in_ok-applied-in-Before.ensures.index r.4 in
    let low : c.put-in-Before.new.self.depth ≡ depth r.0 = omega (arith, c.in_ok-applied-in-Before.ensures.depth, c.saturating_sub-self.ensures, deep, r.3) in
    ((r.0, r.1), (shown, low, last), r.5)

pub returns-in_ok-push-in_default-top : goal.returns-in_ok-push-in_default-top
returns-in_ok-push-in_default-top c = record {
  memory = tt;
  shorter = tt;
  shown = λ fs x h deep l.
      let ns : List Node = c.args.self.now.nodes.items in
      let old : List Pending = c.args.self.now.stack.items in
      let rest : List Pending = c.pop.new.self.items in
      let q : Pending = c.in-Some.top in
      let top : Shows ns (q ∷ reverse rest) fs = on_top ns old rest q q fs c.in-Some.ensures.items refl h in
      let same : c.push-in_default-top.new.self.items ≡ old = c.in_ok-push-in_default-top.ensures.items ∙ sym c.in-Some.ensures.items in (
        (subst (λ (qs : List Pending). Shows ns (reverse qs) fs) (sym same) h, deep, l),
        other_kept ns (reverse rest) c.args.level fs x q top c.in_default-top.not-Left c.in_default-top.not-Before,
      );
}
