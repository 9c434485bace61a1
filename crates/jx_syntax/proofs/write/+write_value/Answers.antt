use Rattle.std.proofs.Common.{◌≡◌, ℕ, List, ◌+◌, ◌++◌, ◌∷◌, [], take, map, string_bytes, sym, ap, ◌∙◌, arith}
use Rattle.std.proofs.lemmas.List.{take_all}
use Rattle.jx_syntax.specs.declared.value.JxValue.{JxValue}
use Rattle.jx_syntax.specs.declared.value.JxPair.{JxPair}
use Rattle.jx_syntax.specs.declared.value.JxValue.TheVariants as value
use Rattle.jx_syntax.specs.Written.{value_text, pair_text, separated, quoted}
use Rattle.jx_syntax.proofs.Writing.{is_nil, is_nil-push, one_more, one_pair, map-take-more, between, text-list, text-object}
use Rattle.jx_syntax.proofs.write.+write_value.Goals as goal

pub loop-item-preserved : goal.loop-item-preserved
loop-item-preserved t c =
    let vs : List JxValue = c.as_slice-item-items.result.now in
    let v : JxValue = c.item-item.result in
    let i = c.loop-item.item-index in
    let before = map value_text (take i vs) in
    let start = string_bytes c.push.new.self in
    let pieces : map value_text (take (i + 1) vs) ≡ before ++ value_text v ∷ [] = map-take-more value_text vs i v c.loop-item-test.true c.item-item.is in
    record {
      text = one_more (string_bytes c.loop-item.out) (string_bytes c.separate.new.out) (string_bytes c.write_value.new.out) start before (value_text v) c.loop-item.first
          c.loop-item.invariant.text c.loop-item.invariant.first c.in_ok-separate-in-List.ensures c.in_ok-write_value-in-List.ensures
          ∙ ap (λ p. start ++ separated p) (sym pieces);
      first = sym (ap (λ (p : List (List ℕ)). is_nil p) pieces ∙ is_nil-push before (value_text v));
    }

pub loop-pair-preserved : goal.loop-pair-preserved
loop-pair-preserved t c =
    let ps : List JxPair = c.as_slice-pair-items.result.now in
    let p : JxPair = c.pair-item.result in
    let i = c.loop-pair.pair-index in
    let before = map pair_text (take i ps) in
    let start = string_bytes c.push-in-Object.new.self in
    let comma = string_bytes c.separate-in-loop-pair.new.out in
    let key = string_bytes c.write_quoted-in-loop-pair.new.out in
    let now = string_bytes c.write_value-in-loop-pair.new.out in
    let pieces : map pair_text (take (i + 1) ps) ≡ before ++ pair_text p ∷ [] = map-take-more pair_text ps i p c.loop-pair-test.true c.pair-item.is in
    let colon = string_bytes c.push-in-loop-pair.new.self in
    let quotes : key ≡ comma ++ quoted p.key = c.in_ok-write_quoted-in-Object.ensures ∙ ap (λ k. comma ++ quoted k) c.as_str-in-loop-pair.ensures.value in
    let pair : now ≡ comma ++ pair_text p = one_pair comma key colon now p quotes c.in_ok-push-in-Object-2.ensures.bytes c.in_ok-write_value-in-Object.ensures in
    record {
      text = one_more (string_bytes c.loop-pair.out) comma now start before (pair_text p) c.loop-pair.first
          c.loop-pair.invariant.text c.loop-pair.invariant.first c.in_ok-separate-in-Object.ensures pair
          ∙ ap (λ p. start ++ separated p) (sym pieces);
      first = sym (ap (λ (p : List (List ℕ)). is_nil p) pieces ∙ is_nil-push before (pair_text p));
    }

pub returns-in_ok-push-in-List-2 : goal.returns-in_ok-push-in-List-2
returns-in_ok-push-in-List-2 t c =
    let vs : List JxValue = c.as_slice-item-items.result.now in
    let out = string_bytes c.args.out.now in
    let all : string_bytes c.loop-item.out ≡ string_bytes c.push.new.self ++ separated (map value_text vs) =
    c.loop-item.invariant.text ∙ ap (λ (l : List JxValue). string_bytes c.push.new.self ++ separated (map value_text l)) (take_all c.loop-item.item-index vs c.loop-item-test.false) in
    between out (string_bytes c.push.new.self) (string_bytes c.loop-item.out) (string_bytes c.push-in-List.new.self) (separated (map value_text vs)) 91 93
    (omega arith) (omega arith) c.in_ok-push-in-List.ensures.bytes all c.in_ok-push-in-List-2.ensures.bytes
    ∙ ap (λ x. out ++ x) (sym (text-list vs) ∙ ap (λ (l : List JxValue). value_text (value.List l)) c.as_slice-item-items.ensures ∙ ap value_text (sym c.in-List.is))

pub returns-in_ok-push-in-Object-3 : goal.returns-in_ok-push-in-Object-3
returns-in_ok-push-in-Object-3 t c =
    let ps : List JxPair = c.as_slice-pair-items.result.now in
    let out = string_bytes c.args.out.now in
    let all : string_bytes c.loop-pair.out ≡ string_bytes c.push-in-Object.new.self ++ separated (map pair_text ps) =
    c.loop-pair.invariant.text ∙ ap (λ (l : List JxPair). string_bytes c.push-in-Object.new.self ++ separated (map pair_text l)) (take_all c.loop-pair.pair-index ps c.loop-pair-test.false) in
    between out (string_bytes c.push-in-Object.new.self) (string_bytes c.loop-pair.out) (string_bytes c.push-in-Object-2.new.self) (separated (map pair_text ps)) 123 125
    (omega arith) (omega arith) c.in_ok-push-in-Object.ensures.bytes all c.in_ok-push-in-Object-3.ensures.bytes
    ∙ ap (λ x. out ++ x) (sym (text-object ps) ∙ ap (λ (l : List JxPair). value_text (value.Object l)) c.as_slice-pair-items.ensures ∙ ap value_text (sym c.in-Object.is))
