use Rattle.std.proofs.Common.{◌≡◌, ◌<◌, ◌^◌, map, option_map, option_copied, length, sym, ap, ◌∙◌, rules, arith, to_z, w64, pos}
use Rattle.jx_meaning.specs.Values.{plain}
use Rattle.jx_functions.proofs.Calls.{list_len, text_len}
use Rattle.jx_functions.proofs.measures.len.Goals as goal

pub overflow_cast-result-in-Some-text_in : goal.overflow_cast-result-in-Some-text_in
overflow_cast-result-in-Some-text_in c =
    let w : length c.in-Some-text_in.text.now < 2 ^ 63 = search rules in
    let lt : c.char_count.result < 2 ^ 63 = omega (arith, w, c.char_count.ensures.within) in
    search rules

pub returns-in-Some : goal.returns-in-Some
returns-in-Some c =
    let e : to_z w64 (length c.in-Some.items.now) ≡ pos (length c.in-Some.items.now) = search rules in
    list_len c.args.place (plain c.args.value.now) c.in-Some.items.now (to_z w64 (length c.in-Some.items.now)) (sym c.items_in.ensures ∙ ap (λ o. option_map (map plain) (option_copied o)) c.in-Some.is) e

pub returns-in-Some-text_in : goal.returns-in-Some-text_in
returns-in-Some-text_in c =
    let w : length c.in-Some-text_in.text.now < 2 ^ 63 = search rules in
    let lt : c.char_count.result < 2 ^ 63 = omega (arith, w, c.char_count.ensures.within) in
    let e : to_z w64 c.char_count.result ≡ pos c.char_count.result = search rules in
    text_len c.args.place (plain c.args.value.now) c.in-Some-text_in.text.now (to_z w64 c.char_count.result) (sym c.items_in.ensures ∙ ap (λ o. option_map (map plain) (option_copied o)) c.in-None.is)
    (sym c.text_in.ensures ∙ ap option_copied c.in-Some-text_in.is) (e ∙ ap pos c.char_count.ensures.value)
