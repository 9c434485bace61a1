-- Induction over values.
use Rattle.std.proofs.Common.{◌≡◌, ℕ, ℤ, Bool, List, map, sym, subst}
use Rattle.jx_syntax.specs.declared.value.JxValue.{JxValue}
use Rattle.jx_syntax.specs.declared.value.JxPair.{JxPair}
use Rattle.jx_syntax.specs.declared.value.JxValue.TheVariants as value
use Rattle.jx_syntax.specs.declared.value.JxValue.TheOpen.{JxValue-F, JxPair-F}
use Rattle.jx_syntax.specs.declared.value.JxValue.TheViews.{roll-JxValue, roll-JxPair}
use Rattle.jx_syntax.specs.declared.value.JxValue.TheFolds.{ind-JxValue, map-JxValue, map-JxPair}

-- what holds of each kind of value, and of lists and objects of such values, holds of all values
pub by_layers : (P : JxValue → Type 0) (Q : JxPair → Type 0)
    → P value.Null → ((b : Bool) → P (value.Truth b)) → ((z : ℤ) → P (value.Number z)) → ((t : List ℕ) → P (value.Text t))
    → ((es : List ((v : JxValue) × P v)) → P (value.List (map (λ e. e.0) es)))
    → ((es : List ((p : JxPair) × Q p)) → P (value.Object (map (λ e. e.0) es)))
    → ((key : List ℕ) (v : JxValue) → P v → Q (record { key = key; value = v }))
    → (v : JxValue) → P v
by_layers P Q null truth number text list object pair = ind-JxValue P Q layer pair_layer
  where
    layer : (x : JxValue-F JxValue JxPair) (y : JxValue-F ((v : JxValue) × P v) ((p : JxPair) × Q p))
        → map-JxValue ((v : JxValue) × P v) ((p : JxPair) × Q p) JxValue JxPair (λ e. e.0) (λ e. e.0) y ≡ x → P (roll-JxValue x)
    layer x JxValue-F.Null is = subst (λ z. P (roll-JxValue z)) is (subst P (sym value.rolls-Null) null)
    layer x (JxValue-F.Truth b) is = subst (λ z. P (roll-JxValue z)) is (subst P (sym (value.rolls-Truth b)) (truth b))
    layer x (JxValue-F.Number z) is = subst (λ z. P (roll-JxValue z)) is (subst P (sym (value.rolls-Number z)) (number z))
    layer x (JxValue-F.Text t) is = subst (λ z. P (roll-JxValue z)) is (subst P (sym (value.rolls-Text t)) (text t))
    layer x (JxValue-F.List es) is = subst (λ z. P (roll-JxValue z)) is (subst P (sym (value.rolls-List (map (λ e. e.0) es))) (list es))
    layer x (JxValue-F.Object es) is = subst (λ z. P (roll-JxValue z)) is (subst P (sym (value.rolls-Object (map (λ e. e.0) es))) (object es))

    pair_layer : (x : JxPair-F JxValue JxPair) (y : JxPair-F ((v : JxValue) × P v) ((p : JxPair) × Q p))
        → map-JxPair ((v : JxValue) × P v) ((p : JxPair) × Q p) JxValue JxPair (λ e. e.0) (λ e. e.0) y ≡ x → Q (roll-JxPair x)
    pair_layer x y is = subst (λ z. Q (roll-JxPair z)) is (pair y.key y.value.0 y.value.1)
