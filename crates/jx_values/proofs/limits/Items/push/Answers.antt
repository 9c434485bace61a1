use Rattle.std.proofs.Common.{◌≡◌, ℕ, ◌+◌, ◌&&◌, nat_le, ◌∙◌, sym, ap, map, List, length, Ok, arith}
use Rattle.jx_syntax.specs.declared.value.JxValue.{JxValue}
use Rattle.jx_meaning.specs.Values.{plain}
use Rattle.jx_values.proofs.SizeLemmas.{around}
use Rattle.jx_values.proofs.Room.{small, one_fits, refused, taken, grown, pushed_items}
use Rattle.jx_values.proofs.limits.Items.push.Goals as goal

pub returns-then-not-may_be_list : goal.returns-then-not-may_be_list
returns-then-not-may_be_list c =
    let xs : List JxValue = c.self.inside.items.items in
    let v : c.args.self.now ≡ xs = sym c.self.view_is in
    let len : length xs ≡ c.len.result = omega (arith, c.len.ensures, c.self.inside.items.ok.0) in
    rw v (refused c.args.place (map plain xs) (plain c.args.item)
    (one_fits xs c.args.item c.self.inside.inside c.around.result c.size_of.result c.self.invariant c.size_of.ensures (c.around.ensures ∙ ap around c.beside-inside.ensures)
    ∙ ap (λ (n : ℕ). nat_le (n + 1) 1000000 && small c.around.result) len ∙ sym c.may_be_list.ensures ∙ c.if-not-may_be_list.true))

pub invariant_of-self-2 : goal.invariant_of-self-2
invariant_of-self-2 c =
    grown c.self.inside.items.items c.push.new.self.items c.args.item c.self.inside.inside c.size_of.result c.beside-inside.result c.self.invariant c.size_of.ensures c.beside-inside.ensures c.in_ok-push.ensures.items

pub returns : goal.returns
returns c =
    let xs : List JxValue = c.self.inside.items.items in
    let v : c.args.self.now ≡ xs = sym c.self.view_is in
    let len : length xs ≡ c.len.result = omega (arith, c.len.ensures, c.self.inside.items.ok.0) in
    rw v (taken c.args.place (map plain xs) (plain c.args.item)
    (one_fits xs c.args.item c.self.inside.inside c.around.result c.size_of.result c.self.invariant c.size_of.ensures (c.around.ensures ∙ ap around c.beside-inside.ensures)
    ∙ ap (λ (n : ℕ). nat_le (n + 1) 1000000 && small c.around.result) len ∙ sym c.may_be_list.ensures ∙ c.if-not-may_be_list.false)
    ∙ ap Ok (pushed_items xs c.push.new.self.items c.args.item c.in_ok-push.ensures.items))
