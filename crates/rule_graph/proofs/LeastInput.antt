-- The least input whose maker is left over, found input by input.
use Rattle.std.proofs.Common.{◌≡◌, ℕ, ◌<◌, ◌≤◌, Bool, true, false, ◌&&◌, List, [], ◌∷◌, ◌++◌, length, Option, Some, None, refl, ap, sym, ◌∙◌, arith, subst, ◌⊎◌, inl, inr}
use Rattle.std.specs.Prelude.{◌==◌, min, find, slice_get}
use Rattle.std.specs.Option.{option_map, option_map_or, option_and_then}
use Rattle.std.proofs.lemmas.Bool.{and_parts, and_from, or_cases, or_left, or_right, cases_lt, true≢false, false_from_ne_true}
use Rattle.std.proofs.lemmas.List.Folds.{list_any-append}
use Rattle.std.proofs.lemmas.Option.{slice_get_within}
use Rattle.flow_types.specs.declared.plan.Plan.{Plan}
use Rattle.flow_types.specs.declared.plan.Rule.{Rule}
use Rattle.flow_types.specs.declared.plan.FileRow.{FileRow}
use Rattle.flow_types.specs.declared.numbers.FileNo.{FileNo}
use Rattle.flow_types.specs.Plans.{takes, maker_of, files_of, contains_number, file_numbers}
use Rattle.rule_graph.specs.Cycles.{is_made_among, maker_before}
use Rattle.rule_graph.specs.Walking.{IsLeastOf}
use Rattle.rule_graph.proofs.Rounds.{find_at, find_none}
use Rattle.rule_graph.proofs.Chains.{in_cons, in_first}

in_pushed : (xs : List ℕ) (x y : ℕ) → contains_number y (xs ++ (x ∷ [])) ≡ true → (contains_number y xs ≡ true) ⊎ (x ≡ y)
in_pushed xs x y some =
    elim (or_cases (contains_number y xs) (contains_number y (x ∷ [])) (sym (list_any-append (λ z. z == y) xs (x ∷ [])) ∙ some)) [
      | inl before ↦ inl before
      | inr now ↦ elim (in_cons x y [] now) [ inl here ↦ inr here | inr none ↦ absurd (true≢false (sym none)) ]
    ]

kept_in : (xs : List ℕ) (x y : ℕ) → contains_number y xs ≡ true → contains_number y (xs ++ (x ∷ [])) ≡ true
kept_in xs x y some = list_any-append (λ z. z == y) xs (x ∷ []) ∙ or_left (contains_number y xs) (contains_number y (x ∷ [])) some

last_in : (xs : List ℕ) (x : ℕ) → contains_number x (xs ++ (x ∷ [])) ≡ true
last_in xs x = list_any-append (λ z. z == x) xs (x ∷ []) ∙ or_right (contains_number x xs) (contains_number x (x ∷ [])) (in_first x [])

-- a number more that doesn't pass
pub least_keeps : (test : ℕ → Bool) (xs : List ℕ) (x : ℕ) (least : Option ℕ) → test x ≡ false → IsLeastOf test xs least → IsLeastOf test (xs ++ (x ∷ [])) least
least_keeps test xs x None fails is = λ y some.
    elim (in_pushed xs x y some) [ inl before ↦ is y before | inr here ↦ ap test (sym here) ∙ fails ]
least_keeps test xs x (Some least) fails is = (
  kept_in xs x least is.0,
  is.1,
  λ y some passes.
      elim (in_pushed xs x y some) [
        | inl before ↦ is.2 y before passes
        | inr here ↦ absurd (true≢false (sym passes ∙ ap test (sym here) ∙ fails))
      ],
)

-- a number more that passes
pub least_takes : (test : ℕ → Bool) (xs : List ℕ) (x r : ℕ) (least : Option FileNo) → test x ≡ true → IsLeastOf test xs (option_map (λ file. file.0) least)
    → r ≡ option_map_or (λ other. min other.0 x) least x → IsLeastOf test (xs ++ (x ∷ [])) (Some r)
least_takes test xs x r None passes is e = (
  subst (λ k. contains_number k (xs ++ (x ∷ [])) ≡ true) (sym e) (last_in xs x),
  ap test e ∙ passes,
  λ y some test_y.
      elim (in_pushed xs x y some) [
        | inl before ↦ absurd (true≢false (sym test_y ∙ is y before))
        | inr here ↦ omega (arith, e, here)
      ],
)
least_takes test xs x r (Some other) passes is e =
    elim (cases_lt other.0 x) [
      | inl below ↦
          (let same : other.0 ≡ r = omega (arith, e, below) in (
            subst (λ k. contains_number k (xs ++ (x ∷ [])) ≡ true) same (kept_in xs x other.0 is.0),
            ap test (sym same) ∙ is.1,
            λ y some test_y.
                elim (in_pushed xs x y some) [
                  | inl before ↦ (let le : other.0 ≤ y = is.2 y before test_y in omega (arith, same, le))
                  | inr here ↦ omega (arith, same, below, here)
                ],
          ))
      | inr above ↦
          (let same : x ≡ r = omega (arith, e, above) in (
            subst (λ k. contains_number k (xs ++ (x ∷ [])) ≡ true) same (last_in xs x),
            ap test (sym same) ∙ passes,
            λ y some test_y.
                elim (in_pushed xs x y some) [
                  | inl before ↦ (let le : other.0 ≤ y = is.2 y before test_y in omega (arith, same, le, above))
                  | inr here ↦ omega (arith, same, here)
                ],
          ))
    ]

some_maker : (P : Plan) (f : ℕ) (rules : List ℕ) (found : Option FileRow) → slice_get P.files f ≡ found
    → option_map_or (λ m. contains_number m rules) (option_map_or (λ row. option_map_or (λ r. let maker : Option ℕ = Some r.0 in maker) row.maker None) found None) false ≡ true
    → f < length P.files
some_maker P f rules None is made = absurd (true≢false (sym made))
some_maker P f rules (Some row) is made = slice_get_within P.files f row is

made_inside : (P : Plan) (rules : List ℕ) (f : ℕ) → is_made_among P rules f ≡ true → f < length P.files
made_inside P rules f made = some_maker P f rules (slice_get P.files f) refl made

-- the maker of the least input is the rule before
pub before_of : (P : Plan) (rules : List ℕ) (r : ℕ) (files : List ℕ) (f : ℕ) → takes P r ≡ files → IsLeastOf (is_made_among P rules) files (Some f)
    → maker_of P f ≡ maker_before P rules r
before_of P rules r files f same least =
    let test : ℕ → Bool = λ f. contains_number f (takes P r) && is_made_among P rules f in
    let taken : contains_number f (takes P r) ≡ true = ap (contains_number f) same ∙ least.0 in
    let inside : f < length P.files = made_inside P rules f least.1 in
    let found : find test (file_numbers P) ≡ Some f =
    find_at test 0 (length P.files) f (omega arith) (omega (arith, inside)) (and_from (contains_number f (takes P r)) (is_made_among P rules f) taken least.1)
    (λ q below.
    false_from_ne_true (test q) (λ passes.
    let parts = and_parts (contains_number q (takes P r)) (is_made_among P rules q) passes in
    let le : f ≤ q = least.2 q (ap (contains_number q) (sym same) ∙ parts.0) parts.1 in
    let wrong : ⊥ = omega (arith, le, below) in wrong)) in
    sym (ap (option_and_then (maker_of P)) found)

-- where no input has such a maker, no rule stands before
pub none_before : (P : Plan) (rules : List ℕ) (r : ℕ) (files : List ℕ) → takes P r ≡ files → IsLeastOf (is_made_among P rules) files None
    → (let none : Option ℕ = None in none ≡ maker_before P rules r)
none_before P rules r files same least =
    let test : ℕ → Bool = λ f. contains_number f (takes P r) && is_made_among P rules f in
    let none : find test (file_numbers P) ≡ None =
    find_none test 0 (length P.files)
    (λ q low.
    false_from_ne_true (test q) (λ passes.
    let parts = and_parts (contains_number q (takes P r)) (is_made_among P rules q) passes in
    true≢false (sym parts.1 ∙ least q (ap (contains_number q) (sym same) ∙ parts.0)))) in
    sym (ap (option_and_then (maker_of P)) none)

pub takes_row : (P : Plan) (r : ℕ) (found : Option Rule) → slice_get P.rules r ≡ found → takes P r ≡ option_map_or (λ rule. files_of rule.inputs) found []
takes_row P r found is = ap (λ found. option_map_or (λ rule. files_of rule.inputs) found []) is
