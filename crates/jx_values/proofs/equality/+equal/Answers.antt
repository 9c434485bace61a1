use Rattle.std.proofs.Common.{◌≡◌, ◌==◌, ◌&&◌, ℕ, Bool, true, false, refl, List, length, map, option_map, option_copied, Option, Some, None, sym, ap, ◌∙◌, rules, arith}
use Rattle.std.specs.Prelude.{ℤ}
use Rattle.std.specs.Bool.{beq}
use Rattle.std.specs.Ordering.{int_eq}
use Rattle.std.specs.Str.{bytes_eq}
use Rattle.jx_syntax.specs.declared.value.JxValue.{JxValue}
use Rattle.jx_syntax.specs.declared.value.JxPair.{JxPair}
use Rattle.jx_meaning.specs.Values.{Value, Entry, plain, values, entries, pairs, all_equal, all_found, find}
use Rattle.jx_values.specs.Kinds.{plain_pair}
use Rattle.jx_values.proofs.Equalities.{holds, of_null, of_truth, of_number, of_text, of_list, of_object, lengths_differ, none_left, no_pair_left, item_differs, item_agrees, pair_is, same_lengths, found_decides}
use Rattle.jx_values.proofs.equality.+equal.Goals as goal

pub are_equal-returns-in-Null : goal.are_equal-returns-in-Null
are_equal-returns-in-Null t c = c.is_null.ensures ∙ sym (of_null c.args.a.now c.args.b.now c.in-Null.is)

pub are_equal-returns-in-Some : goal.are_equal-returns-in-Some
are_equal-returns-in-Some t c =
    sym (of_truth c.args.a.now c.args.b.now c.in-Truth.x c.in-Truth.is ∙ ap (λ (o : Option Bool). holds o (beq c.in-Truth.x)) (sym c.truth_in.ensures ∙ c.in-Some.is))

pub are_equal-returns-in-None : goal.are_equal-returns-in-None
are_equal-returns-in-None t c =
    sym (of_truth c.args.a.now c.args.b.now c.in-Truth.x c.in-Truth.is ∙ ap (λ (o : Option Bool). holds o (beq c.in-Truth.x)) (sym c.truth_in.ensures ∙ c.in-None.is))

pub are_equal-returns-in-Some-number_in : goal.are_equal-returns-in-Some-number_in
are_equal-returns-in-Some-number_in t c =
    let e : c.eq.result ≡ int_eq c.in-Number.x c.in-Some-number_in.y = search rules in
    e ∙ sym (of_number c.args.a.now c.args.b.now c.in-Number.x c.in-Number.is ∙ ap (λ (o : Option ℤ). holds o (int_eq c.in-Number.x)) (sym c.number_in.ensures ∙ c.in-Some-number_in.is))

pub are_equal-returns-in-None-number_in : goal.are_equal-returns-in-None-number_in
are_equal-returns-in-None-number_in t c =
    sym (of_number c.args.a.now c.args.b.now c.in-Number.x c.in-Number.is ∙ ap (λ (o : Option ℤ). holds o (int_eq c.in-Number.x)) (sym c.number_in.ensures ∙ c.in-None-number_in.is))

pub are_equal-returns-in-Some-text_in : goal.are_equal-returns-in-Some-text_in
are_equal-returns-in-Some-text_in t c =
    c.eq-in-Some-text_in.ensures ∙ ap (λ (l : List ℕ). bytes_eq l c.in-Some-text_in.y.now) c.as_str.ensures.value ∙ sym (of_text c.args.a.now c.args.b.now c.in-Text.x c.in-Text.is ∙ ap (λ (o : Option (List ℕ)). holds o (bytes_eq c.in-Text.x)) (sym c.text_in.ensures ∙ ap option_copied c.in-Some-text_in.is))

pub are_equal-returns-in-None-text_in : goal.are_equal-returns-in-None-text_in
are_equal-returns-in-None-text_in t c =
    sym (of_text c.args.a.now c.args.b.now c.in-Text.x c.in-Text.is ∙ ap (λ (o : Option (List ℕ)). holds o (bytes_eq c.in-Text.x)) (sym c.text_in.ensures ∙ ap option_copied c.in-None-text_in.is))

pub are_equal-returns-in-Some-items_in : goal.are_equal-returns-in-Some-items_in
are_equal-returns-in-Some-items_in t c =
    c.lists_are_equal.ensures ∙ ap (λ (l : List JxValue). all_equal (values (map plain l)) (values (map plain c.in-Some-items_in.ys.now))) c.as_slice.ensures
    ∙ sym (of_list c.args.a.now c.args.b.now c.in-List.xs c.in-List.is
    ∙ ap (λ (o : Option (List Value)). holds o (λ ws. all_equal (values (map plain c.in-List.xs)) (values ws))) (sym c.items_in.ensures ∙ ap (λ o. option_map (map plain) (option_copied o)) c.in-Some-items_in.is))

pub are_equal-returns-in-None-items_in : goal.are_equal-returns-in-None-items_in
are_equal-returns-in-None-items_in t c =
    sym (of_list c.args.a.now c.args.b.now c.in-List.xs c.in-List.is
    ∙ ap (λ (o : Option (List Value)). holds o (λ ws. all_equal (values (map plain c.in-List.xs)) (values ws))) (sym c.items_in.ensures ∙ ap (λ o. option_map (map plain) (option_copied o)) c.in-None-items_in.is))

pub are_equal-returns-in-Some-entries_in : goal.are_equal-returns-in-Some-entries_in
are_equal-returns-in-Some-entries_in t c =
    let ps : List JxPair = c.in-Object.ps in
    let qs : List JxPair = c.in-Some-entries_in.qs.now in
    c.objects_are_equal.ensures ∙ ap (λ (l : List JxPair). (length l == length qs) && all_found (pairs (map plain_pair l)) (map plain_pair qs)) c.as_slice-in-Some-entries_in.ensures
    ∙ ap (λ (b : Bool). b && all_found (pairs (map plain_pair ps)) (map plain_pair qs)) (sym (same_lengths ps qs))
    ∙ sym (of_object c.args.a.now c.args.b.now ps c.in-Object.is
    ∙ ap (λ (o : Option (List Entry)). holds o (λ es. (length (entries (pairs (map plain_pair ps))) == length es) && all_found (pairs (map plain_pair ps)) es))
    (sym c.entries_in.ensures ∙ ap (λ o. option_map (map plain_pair) (option_copied o)) c.in-Some-entries_in.is))

pub are_equal-returns-in-None-entries_in : goal.are_equal-returns-in-None-entries_in
are_equal-returns-in-None-entries_in t c =
    let ps : List JxPair = c.in-Object.ps in
    sym (of_object c.args.a.now c.args.b.now ps c.in-Object.is
    ∙ ap (λ (o : Option (List Entry)). holds o (λ es. (length (entries (pairs (map plain_pair ps))) == length es) && all_found (pairs (map plain_pair ps)) es))
    (sym c.entries_in.ensures ∙ ap (λ o. option_map (map plain_pair) (option_copied o)) c.in-None-entries_in.is))

pub lists_are_equal-returns-then-xs-ys : goal.lists_are_equal-returns-then-xs-ys
lists_are_equal-returns-then-xs-ys t c = sym (lengths_differ c.args.xs.now c.args.ys.now c.if-xs-ys.true)

pub lists_are_equal-returns-then-not-are_equal : goal.lists_are_equal-returns-then-not-are_equal
lists_are_equal-returns-then-not-are_equal t c =
    item_differs c.args.xs.now c.args.ys.now c.loop-x.x-index c.loop-x.i c.x-item.result c.index-ys-i.result c.are_equal.result _ c.loop-x-test.true c.loop-x.invariant.long c.loop-x.invariant.same
    c.x-item.is c.index-ys-i.is c.loop-x.invariant.rest c.are_equal.ensures c.if-not-are_equal.true

pub lists_are_equal-loop-x-preserved : goal.lists_are_equal-loop-x-preserved
lists_are_equal-loop-x-preserved t c = record {
  same = omega arith;
  long = c.loop-x.invariant.long;
  rest = item_agrees c.args.xs.now c.args.ys.now c.loop-x.x-index c.loop-x.i c.x-item.result c.index-ys-i.result c.are_equal.result _ c.loop-x-test.true c.loop-x.invariant.long c.loop-x.invariant.same
      c.x-item.is c.index-ys-i.is c.loop-x.invariant.rest c.are_equal.ensures c.if-not-are_equal.false;
}

pub lists_are_equal-returns : goal.lists_are_equal-returns
lists_are_equal-returns t c = sym (none_left c.args.xs.now c.args.ys.now c.loop-x.x-index c.loop-x-test.false (let h = c.loop-x.invariant.long in let k = c.loop-x-test.false in omega arith)) ∙ c.loop-x.invariant.rest

pub objects_are_equal-returns-then-not-are_equal : goal.objects_are_equal-returns-then-not-are_equal
objects_are_equal-returns-then-not-are_equal t c =
    let ps : List JxPair = c.args.ps.now in
    let qs : List JxPair = c.args.qs.now in
    let p : JxPair = c.p-item.result in
    found_decides ps qs false c.if-ps-qs.false (sym (pair_is ps (map plain_pair qs) c.loop-p.p-index p (Some (plain c.in-Some.value.now)) false _ c.loop-p-test.true c.p-item.is
    (ap (λ o. option_map plain (option_copied o)) (sym c.in-Some.is) ∙ c.find.ensures ∙ ap (λ (k : List ℕ). find k (map plain_pair qs)) c.as_str.ensures.value)
    (sym c.are_equal.ensures ∙ c.if-not-are_equal.true) c.loop-p.invariant))

pub objects_are_equal-returns-in-None : goal.objects_are_equal-returns-in-None
objects_are_equal-returns-in-None t c =
    let ps : List JxPair = c.args.ps.now in
    let qs : List JxPair = c.args.qs.now in
    let p : JxPair = c.p-item.result in
    found_decides ps qs false c.if-ps-qs.false (sym (pair_is ps (map plain_pair qs) c.loop-p.p-index p None false _ c.loop-p-test.true c.p-item.is
    (ap (λ o. option_map plain (option_copied o)) (sym c.in-None.is) ∙ c.find.ensures ∙ ap (λ (k : List ℕ). find k (map plain_pair qs)) c.as_str.ensures.value)
    refl c.loop-p.invariant))

pub objects_are_equal-loop-p-preserved : goal.objects_are_equal-loop-p-preserved
objects_are_equal-loop-p-preserved t c =
    let ps : List JxPair = c.args.ps.now in
    let qs : List JxPair = c.args.qs.now in
    let p : JxPair = c.p-item.result in
    pair_is ps (map plain_pair qs) c.loop-p.p-index p (Some (plain c.in-Some.value.now)) true _ c.loop-p-test.true c.p-item.is
    (ap (λ o. option_map plain (option_copied o)) (sym c.in-Some.is) ∙ c.find.ensures ∙ ap (λ (k : List ℕ). find k (map plain_pair qs)) c.as_str.ensures.value)
    (sym c.are_equal.ensures ∙ c.if-not-are_equal.false) c.loop-p.invariant

pub objects_are_equal-returns : goal.objects_are_equal-returns
objects_are_equal-returns t c =
    found_decides c.args.ps.now c.args.qs.now true c.if-ps-qs.false (sym c.loop-p.invariant ∙ no_pair_left c.args.ps.now (map plain_pair c.args.qs.now) c.loop-p.p-index c.loop-p-test.false)
