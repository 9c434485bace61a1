use Rattle.std.proofs.Common.{◌≡◌, ℕ, ◌+◌, true, List, [], ◌∷◌, ◌++◌, drop, Option, cond, is_some, Ok, Err, refl, sym, ap, subst, ◌∙◌}
use Rattle.std.proofs.lemmas.List.{take_all, at_drop_all}
use Rattle.std.specs.FinMap as finite
use Rattle.mf_text.specs.declared.fault.MakeFault.{MakeFault}
use Rattle.mf_text.specs.declared.fault.MakeFault.TheVariants.{UnknownName}
use Rattle.mf_text.specs.Answers.{Fails}
use Rattle.mf_text.specs.Names.{Values}
use Rattle.mf_rules.specs.Tables.{set_of}
use Rattle.mf_rules.specs.Faults.{least, first_unknown}
use Rattle.mf_rules.specs.Progress.{refused}
use Rattle.mf_rules.proofs.Assigning.{marked_more, names_from, known_name, unknown_name}
use Rattle.mf_rules.proofs.variables.Variables.mark.Goals as goal

pub loop-name-init : goal.loop-name-init
loop-name-init c = record { values = refl; of_text = refl; marked = λ marks h. h; faults = refl }

pub loop-name-preserved : goal.loop-name-preserved
loop-name-preserved c =
    let inv = c.loop-name.invariant in
    let names : List (List ℕ) = c.args.names.now in
    let i : ℕ = c.loop-name.name-index in
    let name : List ℕ = c.name-item.result in
    let value : List ℕ → Option (List ℕ) = finite.get c.args.self.now.values in
    let same = c.as_str.ensures.value in
    let has : is_some (value name) ≡ true =
    sym (ap (λ (m : Values). finite.contains_key m name) inv.values) ∙ ap (λ (k : List ℕ). finite.contains_key c.loop-name.self.values k) (sym same) ∙ c.in-Ok.ensures.marked.1 in
    record {
      values = c.in-Ok.ensures.values ∙ inv.values;
      of_text = c.in-Ok.ensures.of_text ∙ inv.of_text;
      marked = λ marks h. marked_more names marks i name c.loop-name.self.marked c.mark_one.new.self.marked c.loop-name-test.true c.name-item.is (inv.marked marks h)
          (c.in-Ok.ensures.marked.0 ∙ ap (λ (k : List ℕ). finite.insert c.loop-name.self.marked k tt) same);
      faults = sym (ap (λ (l : List (List ℕ)). first_unknown value c.args.number l) (names_from names i name c.loop-name-test.true c.name-item.is) ∙ known_name value c.args.number name (drop (i + 1) names) has) ∙ inv.faults;
    }

pub returns-in-Err : goal.returns-in-Err
returns-in-Err c =
    let inv = c.loop-name.invariant in
    let names : List (List ℕ) = c.args.names.now in
    let i : ℕ = c.loop-name.name-index in
    let n : ℕ = c.args.number in
    let name : List ℕ = c.name-item.result in
    let value : List ℕ → Option (List ℕ) = finite.get c.args.self.now.values in
    let here : first_unknown value n names ≡ first_unknown value n (name ∷ drop (i + 1) names) =
    sym inv.faults ∙ ap (λ (l : List (List ℕ)). first_unknown value n l) (names_from names i name c.loop-name-test.true c.name-item.is) in
    let fails : Fails {Y = Unit {0}} c.in-Err.fault (cond (finite.contains_key c.args.self.now.values name) (Ok tt) (Err (UnknownName n name))) =
    subst (λ (m : Values). Fails {Y = Unit {0}} c.in-Err.fault (cond (finite.contains_key m name) (Ok tt) (Err (UnknownName n name)))) inv.values
    (subst (λ (k : List ℕ). Fails {Y = Unit {0}} c.in-Err.fault (cond (finite.contains_key c.loop-name.self.values k) (Ok tt) (Err (UnknownName n k)))) c.as_str.ensures.value c.in-Err.ensures.marked) in
    subst (λ (l : List MakeFault). Fails c.in-Err.fault (refused (least l))) (sym here)
    (unknown_name c.in-Err.fault value n name (drop (i + 1) names) (finite.contains_key c.args.self.now.values name) refl fails)

pub returns : goal.returns
returns c =
    let inv = c.loop-name.invariant in
    let names : List (List ℕ) = c.args.names.now in
    let i : ℕ = c.loop-name.name-index in
    let value : List ℕ → Option (List ℕ) = finite.get c.args.self.now.values in
    let clear : first_unknown value c.args.number names ≡ [] =
    sym inv.faults ∙ at_drop_all (λ (l : List (List ℕ)). first_unknown value c.args.number l) names i c.loop-name-test.false in (
      record {
        values = inv.values;
        of_text = inv.of_text;
        marked = λ marks h. inv.marked marks h ∙ ap (λ (l : List (List ℕ)). set_of (l ++ marks)) (take_all i names c.loop-name-test.false);
      },
      ap least clear,
    )
