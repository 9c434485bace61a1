use Rattle.std.proofs.Common.{◌≡◌, ℕ, ◌+◌, cond, List, drop, Option, None, Some, is_some, refl, sym, ap, ◌∙◌, string_bytes}
use Rattle.std.proofs.lemmas.List.{at_drop_all}
use Rattle.std.specs.FinMap as finite
use Rattle.std.specs.Str.{bytes_eq}
use Rattle.std.specs.Ordering.{nat_cmp}
use Rattle.std.specs.Cmp.Lexicographic.{slice_cmp}
use Rattle.mf_text.specs.Names.{Values}
use Rattle.mf_rules.specs.Tables.{NameSet}
use Rattle.mf_rules.specs.Flow.{given_pairs}
use Rattle.mf_rules.specs.Values.{first_pair, or_given}
use Rattle.mf_rules.proofs.VariableLemmas.{one_pair, pairs_from, same_functions, GivenPair}
use Rattle.mf_rules.proofs.variables.Variables.new.Goals as goal

pub loop-name-init : goal.loop-name-init
loop-name-init c = λ x.
    ap (λ (o : Option (List ℕ)). or_given o (first_pair (given_pairs c.args.env.now) x))
    (ap (λ (m : Values). finite.get m x) c.new-values.ensures ∙ finite.get-empty (slice_cmp nat_cmp) x)

pub loop-name-preserved : goal.loop-name-preserved
loop-name-preserved c = λ x.
    let m : Values = c.loop-name.values in
    let env : List GivenPair = c.args.env.now in
    let i : ℕ = c.loop-name.name-index in
    let pair : GivenPair = c.loop-name-item.result in
    let rest : Option (List ℕ) = first_pair (given_pairs (drop (i + 1) env)) x in
    let k : List ℕ = c.as_str.result.now in
    let v : List ℕ = c.as_str-in-loop-name.result.now in
    one_pair m c.set_first.new.values k v x rest (finite.contains_key m k) refl c.in_ok-set_first.ensures
    ∙ ap (λ (y : List ℕ). or_given (finite.get m x) (cond (bytes_eq y x) (Some v) rest)) c.as_str.ensures.value
    ∙ ap (λ (y : List ℕ). or_given (finite.get m x) (cond (bytes_eq (string_bytes pair.0) x) (Some y) rest)) c.as_str-in-loop-name.ensures.value
    ∙ ap (λ (o : Option (List ℕ)). or_given (finite.get m x) o) (sym (pairs_from env i pair x c.loop-name-test.true c.loop-name-item.is))
    ∙ c.loop-name.invariant x

nothing_left : (o : Option (List ℕ)) → or_given o None ≡ o
nothing_left None = refl
nothing_left (Some v) = refl

pub returns : goal.returns
returns c =
    let env : List GivenPair = c.args.env.now in
    let m : Values = c.loop-name.values in
    let found : (x : List ℕ) → finite.get m x ≡ first_pair (given_pairs env) x = λ x.
    sym (nothing_left (finite.get m x))
    ∙ ap (λ (o : Option (List ℕ)). or_given (finite.get m x) o) (sym (at_drop_all (λ (l : List GivenPair). first_pair (given_pairs l) x) env c.loop-name.name-index c.loop-name-test.false))
    ∙ c.loop-name.invariant x in
    record {
      values = same_functions (λ x. found x);
      of_text = λ x. ap (λ (s : NameSet). finite.contains_key s x) c.new.ensures ∙ ap (λ (o : Option (Unit {0})). is_some o) (finite.get-empty (slice_cmp nat_cmp) x);
      marked = c.new-2.ensures;
    }
