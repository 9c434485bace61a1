-- What is said of a value by what is said of the values within.
use Rattle.std.proofs.Common.{◌≡◌, ℕ, suc, ℤ, pos, negsuc, cond, Bool, ◌&&◌, List, map, rules}
use Rattle.std.specs.Prelude.{codes}
use Rattle.std.specs.Str.{is_utf8}
use Rattle.std.specs.Fmt.{signed_decimal}
use Rattle.jx_syntax.specs.declared.value.JxValue.{JxValue}
use Rattle.jx_syntax.specs.declared.value.JxValue.TheVariants as value
use Rattle.jx_syntax.specs.declared.value.JxValue.TheFolds.{the_lemmas}
use Rattle.jx_syntax.specs.declared.value.JxPair.{JxPair}
use Rattle.jx_syntax.specs.Written.{value_text, quoted}
use Rattle.jx_syntax.specs.Values.{levels, pair_levels, greatest, is_held, pair_is_held, all_hold, in_range}

pub levels-list : (vs : List JxValue) → levels (value.List vs) ≡ suc (greatest (map levels vs))
levels-list vs = search (rules, the_lemmas)

pub levels-object : (ps : List JxPair) → levels (value.Object ps) ≡ suc (greatest (map pair_levels ps))
levels-object ps = search (rules, the_lemmas)

pub levels-pair : (p : JxPair) → pair_levels p ≡ levels p.value
levels-pair p = search (rules, the_lemmas)

pub held-list : (vs : List JxValue) → is_held (value.List vs) ≡ all_hold (map is_held vs)
held-list vs = search (rules, the_lemmas)

pub held-object : (ps : List JxPair) → is_held (value.Object ps) ≡ all_hold (map pair_is_held ps)
held-object ps = search (rules, the_lemmas)

pub held-pair : (p : JxPair) → pair_is_held p ≡ (is_utf8 p.key && is_held p.value)
held-pair p = search (rules, the_lemmas)

pub null_text : value_text value.Null ≡ codes "null"
null_text = search (rules, the_lemmas)

pub null_levels : levels value.Null ≡ 0
null_levels = search (rules, the_lemmas)

pub truth_text : (b : Bool) → value_text (value.Truth b) ≡ cond b (codes "true") (codes "false")
truth_text b = search (rules, the_lemmas)

pub truth_levels : (b : Bool) → levels (value.Truth b) ≡ 0
truth_levels b = search (rules, the_lemmas)

pub number_text : (z : ℤ) → value_text (value.Number z) ≡ signed_decimal z
number_text z = search (rules, the_lemmas)

pub plain_levels : (n : ℕ) → levels (value.Number (pos n)) ≡ 0
plain_levels n = search (rules, the_lemmas)

pub minus_levels : (n : ℕ) → levels (value.Number (negsuc n)) ≡ 1
minus_levels n = search (rules, the_lemmas)

pub number_held : (z : ℤ) → is_held (value.Number z) ≡ in_range z
number_held z = search (rules, the_lemmas)

pub text_text : (t : List ℕ) → value_text (value.Text t) ≡ quoted t
text_text t = search (rules, the_lemmas)

pub text_levels : (t : List ℕ) → levels (value.Text t) ≡ 0
text_levels t = search (rules, the_lemmas)

pub text_held : (t : List ℕ) → is_held (value.Text t) ≡ is_utf8 t
text_held t = search (rules, the_lemmas)
