-- A file more is made, and its takers hear of it.
use Rattle.std.proofs.Common.{◌≡◌, ℕ, ◌+◌, ◌<◌, Bool, true, false, cond, not, ◌&&◌, ◌||◌, List, [], ◌∷◌, ◌++◌, length, take, get_or, set, refl, ap, sym, ◌∙◌, arith, subst, get_or-set_same, get_or-set_other}
use Rattle.std.specs.Prelude.{◌==◌, nat_lt}
use Rattle.std.specs.List.{list_any}
use Rattle.std.specs.Ordering.{nat_cmp}
use Rattle.std.specs.BTreeSet.{contains}
use Rattle.std.proofs.Math.Bool.{or-false}
use Rattle.std.proofs.lemmas.List.{length-set}
use Rattle.std.proofs.lemmas.Bool.{eqb-true, eqb-false, lt-ltb}
use Rattle.std.proofs.lemmas.List.Folds.{list_any-append}
use Rattle.flow_types.specs.declared.plan.Plan.{Plan}
use Rattle.flow_types.specs.declared.plan.Port.{Port}
use Rattle.flow_types.specs.Plans.{takes, files_of, contains_number}
use Rattle.rule_graph.specs.declared.order.Progress.{Progress}
use Rattle.rule_graph.specs.Progress.{unmade, times_in, IsIndex, IsUnderWay}
use Rattle.rule_graph.proofs.Wiring.{unmade-mark, files-more}

-- once a file is marked, its takers are those that don't know yet
pub marked_under_way : (P : Plan) (taken : List ℕ) (index : List (List ℕ)) (takers : List ℕ) (file : ℕ) (old new : Progress) → IsIndex P index → IsUnderWay P taken [] old
    → file < length old.made.items → get_or old.made.items file false ≡ false
    → new.made.items ≡ set old.made.items file true → new.missing ≡ old.missing → new.ready ≡ old.ready
    → takers ≡ get_or index file [] → IsUnderWay P taken takers new
marked_under_way P taken index takers file old new is_index way inside fresh made missing ready row = record {
  files = ap length made ∙ length-set old.made.items file true ∙ way.files;
  rules = ap (λ v. length v.items) missing ∙ way.rules;
  counts = λ t t_inside.
      let before : get_or old.missing.items t 0 ≡ unmade old.made.items (takes P t) + 0 = way.counts t t_inside in
      let mark : unmade old.made.items (takes P t) ≡ unmade (set old.made.items file true) (takes P t) + times_in file (takes P t) =
      unmade-mark old.made.items file (takes P t) fresh inside in
      let now : unmade new.made.items (takes P t) ≡ unmade (set old.made.items file true) (takes P t) = ap (λ made. unmade made (takes P t)) made in
      let same : get_or new.missing.items t 0 ≡ get_or old.missing.items t 0 = ap (λ v. get_or v.items t 0) missing in
      let f_inside : file < length P.files = omega (arith, inside, way.files) in
      let known : times_in t takers ≡ times_in file (takes P t) =
      ap (times_in t) row ∙ is_index.counts t file f_inside ∙ ap (λ b. let n : ℕ = cond b (times_in file (takes P t)) 0 in n) (lt-ltb t (length P.rules) t_inside) in
      omega (arith, before, mark, now, same, known);
  ready = λ t.
      ap (λ r. contains nat_cmp r t) ready ∙ way.ready t
      ∙ ap (λ v. nat_lt t (length P.rules) && (get_or v.items t 0 == 0) && not (contains_number t taken)) (sym missing);
  done = λ t some. ap (λ v. get_or v.items t 0) missing ∙ way.done t some;
}

mark_at : (made : List Bool) (place f : ℕ) (b : Bool) → (place == f) ≡ b → place < length made → get_or (set made place true) f false ≡ (get_or made f false || b)
mark_at made place f true same inside =
    ap (λ k. get_or (set made place true) k false) (sym (eqb-true place f same)) ∙ get_or-set_same made place true false inside ∙ true_or (get_or made f false)
  where
    true_or : (b : Bool) → true ≡ (b || true)
    true_or true = refl
    true_or false = refl
mark_at made place f false other inside = get_or-set_other made place f true false (λ e. eqb-false place f other (sym e)) ∙ sym (or-false (get_or made f false))

or_assoc : (a b c : Bool) → ((a || b) || c) ≡ (a || (b || c))
or_assoc true b c = refl
or_assoc false b c = refl

-- the marks after one output more
pub marks_more : (start old new : List Bool) (f : ℕ) (ports : List Port) (i : ℕ) (port : Port) → i < length ports → port ≡ get_or ports i port
    → port.file.0 < length old → new ≡ set old port.file.0 true
    → get_or old f false ≡ (get_or start f false || contains_number f (files_of (take i ports)))
    → get_or new f false ≡ (get_or start f false || contains_number f (files_of (take (i + 1) ports)))
marks_more start old new f ports i port at_i here inside is before =
    let place : ℕ = port.file.0 in
    ap (λ made. get_or made f false) is ∙ mark_at old place f (place == f) refl inside
    ∙ ap (λ b. b || (place == f)) before
    ∙ or_assoc (get_or start f false) (contains_number f (files_of (take i ports))) (place == f)
    ∙ ap (λ b. get_or start f false || b)
    (ap (λ b. contains_number f (files_of (take i ports)) || b) (sym (or-false (place == f)))
    ∙ sym (list_any-append (λ y. y == f) (files_of (take i ports)) (place ∷ []))
    ∙ ap (contains_number f) (sym (files-more ports i port at_i here)))
