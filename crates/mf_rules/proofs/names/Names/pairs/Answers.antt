use Rattle.std.proofs.Common.{◌≡◌, ℕ, ◌+◌, ◌≤◌, Bool, true, false, cond, List, [], ◌∷◌, ◌++◌, map, length, Option, Some, None, unwrap_or, refl, sym, ap, ◌∙◌, append_assoc, string_bytes, String, Global, arith}
use Rattle.std.proofs.lemmas.Bool.{ltb-true, ltb-false}
use Rattle.std.proofs.lemmas.List.{append-nil}
use Rattle.std.proofs.lemmas.Map.Iter.{rest_more, rest_all}
use Rattle.std.specs.Map.Iter.{deref}
use Rattle.std.specs.FinMap as finite
use Rattle.flow_types.specs.declared.flow.Pair.{Pair}
use Rattle.mf_rules.specs.Tables.{NameSet, names_in, pairs_of, environment_size}
use Rattle.mf_rules.proofs.NameLemmas.{keys-seen, too_large, small, size-push}
use Rattle.mf_rules.proofs.names.Names.pairs.Goals as goal

pub loop-name-init : goal.loop-name-init
loop-name-init c =
    let given = c.into_iter-name-iterator.ensures.into_iter_gives in
    let keys : names_in c.args.self.now ≡ map string_bytes c.self.inside.names.keys =
    sym (ap (λ (s : NameSet). names_in s) c.self.view_is) ∙ keys-seen c.self.inside.names given.4 in
    record {
      whole = rw (c.new-pairs.ensures.items, given.0) (sym (ap (λ (ns : List (List ℕ)). pairs_of (finite.get c.args.values.now) ns) keys));
      counted = rw c.new-pairs.ensures.items refl;
      small = omega arith;
    }

some_total : (b : Bool) (n total : ℕ) → Some total ≡ cond b None (Some n) → (b ≡ false) × (total ≡ n)
some_total true n total e = cc
some_total false n total e = (refl, cc)

none_total : (b : Bool) (n : ℕ) → None ≡ cond b None (Some n) → b ≡ true
none_total true n e = refl
none_total false n e = cc

next_pair : (value : List ℕ → Option (List ℕ)) (ps : List Pair) (k v : List ℕ) (iter rest : List (String Global)) (name : String Global) (all : List Pair)
    → ps ++ pairs_of value (map string_bytes iter) ≡ all → iter ≡ name ∷ rest → k ≡ string_bytes name → v ≡ unwrap_or (value (string_bytes name)) []
    → ps ++ record { name = k; value = v } ∷ pairs_of value (map string_bytes rest) ≡ all
next_pair value ps k v iter rest name all whole is ki vi = rw (ki, vi) (rw is at whole)

pub loop-name-preserved : goal.loop-name-preserved
loop-name-preserved c =
    let value : List ℕ → Option (List ℕ) = finite.get c.args.values.now in
    let name : String Global = c.in-Some.name.now in
    let ps : List Pair = c.loop-name.pairs.items in
    let pair : Pair = c.in_ok-pair.pair in
    let all : List Pair = pairs_of value (names_in c.args.self.now) in
    let is = rest_more deref c.loop-name.name-iterator c.next.new.self c.next.result c.in-Some.name c.in-Some.is c.next.ensures.steps in
    let vi : c.value_or_empty-value.result.now ≡ unwrap_or (value (string_bytes name)) [] =
    c.value_or_empty-value.ensures ∙ ap (λ (k : List ℕ). unwrap_or (value k) []) c.as_str.ensures.value in
    let whole = next_pair value ps c.as_str-in-loop-name-2.result.now c.value_or_empty-value.result.now c.loop-name.name-iterator c.next.new.self name all c.loop-name.invariant.whole is c.as_str-in-loop-name-2.ensures.value vi in
    let total = some_total _ _ c.in-Some-total_size.total c.in-Some-total_size.ensures in
    let more : c.push.new.self.items ≡ ps ++ pair ∷ [] = c.in-Ok.ensures.items in
    let size : environment_size c.push.new.self.items ≡ environment_size ps + (length pair.name + length pair.value + 8) = ap environment_size more ∙ size-push ps pair in
    record {
      whole =
          ap (λ (xs : List Pair). xs ++ pairs_of value (map string_bytes c.next.new.self)) more
          ∙ append_assoc ps (pair ∷ []) (pairs_of value (map string_bytes c.next.new.self))
          ∙ ap (λ (p : Pair). ps ++ p ∷ pairs_of value (map string_bytes c.next.new.self)) c.in_ok-pair.ensures ∙ whole;
      counted =
          total.1
          ∙ ap (λ (k : List ℕ). c.loop-name.size + (length k + length c.value_or_empty-value.result.now + 8)) (c.as_str-in-loop-name.ensures.value ∙ sym c.as_str-in-loop-name-2.ensures.value)
          ∙ ap (λ (m : ℕ). m + (length c.as_str-in-loop-name-2.result.now + length c.value_or_empty-value.result.now + 8)) c.loop-name.invariant.counted
          ∙ ap (λ (p : Pair). environment_size ps + (length p.name + length p.value + 8)) (sym c.in_ok-pair.ensures) ∙ sym size;
      small = let h = ltb-false _ _ total.0 in omega (arith, h, total.1);
    }

pub returns-in_default : goal.returns-in_default
returns-in_default c =
    let value : List ℕ → Option (List ℕ) = finite.get c.args.values.now in
    let name : String Global = c.in-Some.name.now in
    let ps : List Pair = c.loop-name.pairs.items in
    let all : List Pair = pairs_of value (names_in c.args.self.now) in
    let is = rest_more deref c.loop-name.name-iterator c.next.new.self c.next.result c.in-Some.name c.in-Some.is c.next.ensures.steps in
    let vi : c.value_or_empty-value.result.now ≡ unwrap_or (value (string_bytes name)) [] =
    c.value_or_empty-value.ensures ∙ ap (λ (k : List ℕ). unwrap_or (value k) []) c.as_str.ensures.value in
    let whole = next_pair value ps c.as_str-in-loop-name.result.now c.value_or_empty-value.result.now c.loop-name.name-iterator c.next.new.self name all c.loop-name.invariant.whole is c.as_str-in-loop-name.ensures.value vi in
    let over = ltb-true _ _ (none_total _ _ c.in_default.ensures) in
    sym (too_large ps (record { name = c.as_str-in-loop-name.result.now; value = c.value_or_empty-value.result.now }) (pairs_of value (map string_bytes c.next.new.self)) all whole (omega (arith, over, c.loop-name.invariant.counted)))

pub returns : goal.returns
returns c =
    let value : List ℕ → Option (List ℕ) = finite.get c.args.values.now in
    let ps : List Pair = c.loop-name.pairs.items in
    let all : List Pair = pairs_of value (names_in c.args.self.now) in
    let done = rest_all deref c.loop-name.name-iterator c.next.new.self c.next.result c.in-None.is c.next.ensures.steps in
    let whole : ps ≡ all = sym (append-nil ps) ∙ ap (λ (l : List (String Global)). ps ++ pairs_of value (map string_bytes l)) (sym done) ∙ c.loop-name.invariant.whole in
    let is : c.of.result ≡ all = c.of.ensures ∙ c.shrink_to_fit.ensures.items ∙ whole in
    let fits : environment_size all ≤ 1048576 = omega (arith, ap environment_size whole, c.loop-name.invariant.counted, c.loop-name.invariant.small) in
    ap (λ (l : List Pair). Some l) is ∙ sym (small all fits)
