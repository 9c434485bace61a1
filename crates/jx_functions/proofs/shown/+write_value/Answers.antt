use Rattle.std.proofs.Common.{◌≡◌, ℕ, true, false, List, [], ◌∷◌, ◌++◌, map, Option, OnOk, sym, ap, subst, ◌∙◌, rules, to_z, of_z, w64}
use Rattle.std.specs.Fmt.{signed_decimal}
use Rattle.jx_syntax.specs.declared.value.JxValue.{JxValue}
use Rattle.jx_syntax.specs.declared.value.JxPair.{JxPair}
use Rattle.jx_syntax.specs.Written.{quoted}
use Rattle.jx_meaning.specs.Values.{plain, values, pairs}
use Rattle.jx_meaning.specs.Texts.{written_items, written_pairs}
use Rattle.jx_values.specs.Kinds.{plain_pair}
use Rattle.jx_functions.specs.Drafts.{extended}
use Rattle.jx_functions.proofs.Drafting.{twice}
use Rattle.jx_functions.proofs.Showing.{of_null, of_truth, of_number, of_text, of_list, of_object, one_item, no_item, one_pair, no_pair}
use Rattle.jx_functions.proofs.shown.+write_value.Goals as goal

pub returns-in-Null : goal.returns-in-Null
returns-in-Null t c = subst (λ (l : List ℕ). OnOk c.add.result (c.add.new.self ≡ extended c.args.draft.now l)) (sym (of_null c.args.value.now c.in-Null.is)) c.add.ensures

pub returns-then-t : goal.returns-then-t
returns-then-t t c =
    subst (λ (l : List ℕ). OnOk c.add-then-t.result (c.add-then-t.new.self ≡ extended c.args.draft.now l)) (sym (of_truth c.args.value.now c.in-Truth.t true c.in-Truth.is c.if-t.true)) c.add-then-t.ensures

pub returns-else-t : goal.returns-else-t
returns-else-t t c =
    subst (λ (l : List ℕ). OnOk c.add-in-Truth.result (c.add-in-Truth.new.self ≡ extended c.args.draft.now l)) (sym (of_truth c.args.value.now c.in-Truth.t false c.in-Truth.is c.if-t.false)) c.add-in-Truth.ensures

pub returns-in-Number : goal.returns-in-Number
returns-in-Number t c =
    let same : to_z w64 (of_z w64 c.in-Number.n) ≡ c.in-Number.n = search rules in
    subst (λ (l : List ℕ). OnOk c.add_number.result (c.add_number.new.self ≡ extended c.args.draft.now l)) (ap signed_decimal same ∙ sym (of_number c.args.value.now c.in-Number.n c.in-Number.is)) c.add_number.ensures

pub returns-in-Text : goal.returns-in-Text
returns-in-Text t c =
    subst (λ (l : List ℕ). OnOk c.add_quoted.result (c.add_quoted.new.self ≡ extended c.args.draft.now l))
    (ap quoted c.as_str.ensures.value ∙ sym (of_text c.args.value.now c.in-Text.t c.in-Text.is)) c.add_quoted.ensures

pub loop-item-preserved : goal.loop-item-preserved
loop-item-preserved t c =
    one_item c.loop-item.draft c.separate.new.draft c.write_value.new.draft _ c.loop-item.first c.as_slice-item-items.result.now c.loop-item.item-index c.item-item.result (93 ∷ []) c.loop-item-test.true
    c.item-item.is c.in_ok-separate-in-List.ensures c.in_ok-write_value-in-List.ensures c.loop-item.invariant

pub returns-after-loop-item : goal.returns-after-loop-item
returns-after-loop-item t c =
    let vs : List JxValue = c.as_slice-item-items.result.now in
    let whole : List ℕ = written_items true (values (map plain vs)) ++ 93 ∷ [] in
    subst (λ (o : Option (List ℕ)). OnOk c.add-in-List-2.result (c.add-in-List-2.new.self ≡ o))
    (no_item c.loop-item.draft _ c.loop-item.first vs c.loop-item.item-index (93 ∷ []) c.loop-item-test.false c.loop-item.invariant
    ∙ ap (λ (o : Option (List ℕ)). extended o whole) c.in_ok-add-in-List.ensures ∙ twice c.args.draft.now (91 ∷ []) whole
    ∙ ap (λ (l : List JxValue). extended c.args.draft.now (91 ∷ (written_items true (values (map plain l)) ++ 93 ∷ []))) c.as_slice-item-items.ensures
    ∙ ap (extended c.args.draft.now) (sym (of_list c.args.value.now c.in-List.items c.in-List.is)))
    c.add-in-List-2.ensures

pub loop-pair-preserved : goal.loop-pair-preserved
loop-pair-preserved t c =
    one_pair c.loop-pair.draft c.separate-in-loop-pair.new.draft c.add_quoted-in-loop-pair.new.self c.add-in-loop-pair.new.self c.write_value-in-loop-pair.new.draft _ c.loop-pair.first
    c.as_slice-pair-items.result.now c.loop-pair.pair-index c.pair-item.result c.as_str-in-loop-pair.result.now (125 ∷ []) c.loop-pair-test.true c.pair-item.is c.as_str-in-loop-pair.ensures.value
    c.in_ok-separate-in-Object.ensures c.in_ok-add_quoted-in-Object.ensures c.in_ok-add-in-Object-2.ensures c.in_ok-write_value-in-Object.ensures c.loop-pair.invariant

pub returns-after-loop-pair : goal.returns-after-loop-pair
returns-after-loop-pair t c =
    let ps : List JxPair = c.as_slice-pair-items.result.now in
    let whole : List ℕ = written_pairs true (pairs (map plain_pair ps)) ++ 125 ∷ [] in
    subst (λ (o : Option (List ℕ)). OnOk c.add-in-Object-2.result (c.add-in-Object-2.new.self ≡ o))
    (no_pair c.loop-pair.draft _ c.loop-pair.first ps c.loop-pair.pair-index (125 ∷ []) c.loop-pair-test.false c.loop-pair.invariant
    ∙ ap (λ (o : Option (List ℕ)). extended o whole) c.in_ok-add-in-Object.ensures ∙ twice c.args.draft.now (123 ∷ []) whole
    ∙ ap (λ (l : List JxPair). extended c.args.draft.now (123 ∷ (written_pairs true (pairs (map plain_pair l)) ++ 125 ∷ []))) c.as_slice-pair-items.ensures
    ∙ ap (extended c.args.draft.now) (sym (of_object c.args.value.now c.in-Object.pairs c.in-Object.is)))
    c.add-in-Object-2.ensures
