use Rattle.std.proofs.Common.{ℕ, ◌+◌, ◌++◌, ◌&&◌, nat_le, ◌∙◌, sym, ap, map, List, length, Ok}
use Rattle.jx_syntax.specs.declared.value.JxValue.{JxValue}
use Rattle.jx_meaning.specs.Values.{list, plain, values}
use Rattle.jx_values.specs.Sizes.{items_size}
use Rattle.jx_values.proofs.Room.{small, both_fit, too_large, fits, joined_list}
use Rattle.jx_values.proofs.operators.joined_lists.Goals as goal

pub returns-then-not-may_be_list : goal.returns-then-not-may_be_list
returns-then-not-may_be_list c =
    let xs : List JxValue = c.args.xs in
    let ys : List JxValue = c.args.ys in
    too_large c.args.place (list (values (map plain xs ++ map plain ys)))
    (both_fit xs ys c.items_size.result c.items_size-2.result c.beside-inside.result c.around.result
    (c.items_size.ensures ∙ ap (λ (l : List JxValue). items_size (values (map plain l))) c.as_slice.ensures)
    (c.items_size-2.ensures ∙ ap (λ (l : List JxValue). items_size (values (map plain l))) c.as_slice-2.ensures) c.beside-inside.ensures c.around.ensures
    ∙ ap (λ (n : ℕ). nat_le (n + length ys) 1000000 && small c.around.result) (sym c.len.ensures)
    ∙ ap (λ (n : ℕ). nat_le (c.len.result + n) 1000000 && small c.around.result) (sym c.len-2.ensures)
    ∙ sym c.may_be_list.ensures ∙ c.if-not-may_be_list.true)

pub returns : goal.returns
returns c =
    let xs : List JxValue = c.args.xs in
    let ys : List JxValue = c.args.ys in
    fits c.args.place (list (values (map plain xs ++ map plain ys)))
    (both_fit xs ys c.items_size.result c.items_size-2.result c.beside-inside.result c.around.result
    (c.items_size.ensures ∙ ap (λ (l : List JxValue). items_size (values (map plain l))) c.as_slice.ensures)
    (c.items_size-2.ensures ∙ ap (λ (l : List JxValue). items_size (values (map plain l))) c.as_slice-2.ensures) c.beside-inside.ensures c.around.ensures
    ∙ ap (λ (n : ℕ). nat_le (n + length ys) 1000000 && small c.around.result) (sym c.len.ensures)
    ∙ ap (λ (n : ℕ). nat_le (c.len.result + n) 1000000 && small c.around.result) (sym c.len-2.ensures)
    ∙ sym c.may_be_list.ensures ∙ c.if-not-may_be_list.false)
    ∙ ap Ok (joined_list xs ys c.of.result (c.of.ensures ∙ c.in_ok-append.ensures.items
    ∙ ap (λ (l : List JxValue). l ++ c.into_vec-more.result.items) c.into_vec-items.ensures ∙ ap (λ (l : List JxValue). xs ++ l) c.into_vec-more.ensures))
