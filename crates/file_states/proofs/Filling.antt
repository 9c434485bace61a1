-- The states of the first files, and the rows that are left for the others.
use Rattle.std.proofs.Common.{◌≡◌, ◌≤◌, ◌<◌, ◌+◌, ◌-◌, ℕ, suc, Bool, true, false, cond, List, [], ◌∷◌, ◌++◌, length, Some, refl, ap, sym, ◌∙◌, arith}
use Rattle.std.specs.Prelude.{filter, map, slice_get, is_none, ◌==◌}
use Rattle.std.specs.List.{range_with_len}
use Rattle.std.specs.Option.{option_map_or}
use Rattle.std.proofs.lemmas.Bool.{eqb-true, eq-eqb}
use Rattle.std.proofs.lemmas.List.FromFn.{map-range_with_len_more}
use Rattle.flow_types.specs.declared.plan.Plan.{Plan}
use Rattle.flow_types.specs.declared.plan.FileRow.{FileRow}
use Rattle.flow_types.specs.declared.numbers.Content.{Content}
use Rattle.flow_types.specs.Plans.{is_source, sources_of}
use Rattle.run_history.specs.declared.states.FileState.{FileState}
use Rattle.run_history.specs.declared.states.FileState.TheVariants as file
use Rattle.run_history.specs.States.{present_with, row_of}
use Rattle.file_states.specs.States.{first_state}

-- the sources among n files from number i on
abbrev pub sources_from : Plan → ℕ → ℕ → List ℕ
sources_from P i n = filter (is_source P) (range_with_len i n)

-- The first i files have their states, and these rows are those of the sources from i on.
pub record IsFilled (P : Plan) (sources : List Content) (i : ℕ) (states : List FileState) (rows : List Content) : Type 0 where
  pub filled : states ≡ map (first_state P sources) (range_with_len 0 i)
  pub left : (n : ℕ) → i + n ≡ length P.files → length rows ≡ length (sources_from P i n)
  pub rest : (n f : ℕ) → i + n ≡ length P.files → i ≤ f → row_of f (sources_of P) sources ≡ row_of f (sources_from P i n) rows

-- what stays to be shown where file i was filled in
abbrev Fills : Plan → List Content → ℕ → Bool → List Content → FileState → List Content → Type 0
Fills P sources i b rows state more =
    (cond b (present_with (row_of i (sources_of P) sources)) file.Absent ≡ state)
    × ((n : ℕ) → i + 1 + n ≡ length P.files → length more ≡ length (sources_from P (i + 1) n))
    × ((n f : ℕ) → i + 1 + n ≡ length P.files → i + 1 ≤ f → row_of f (sources_of P) sources ≡ row_of f (sources_from P (i + 1) n) more)

-- the rows of the sources from file i on, where this tells whether it is one
abbrev rows_left : Plan → ℕ → ℕ → Bool → List ℕ
rows_left P i n b = cond b (i ∷ sources_from P (i + 1) n) (sources_from P (i + 1) n)

unfolded : (P : Plan) (i n m : ℕ) (b : Bool) → is_source P i ≡ b → n ≡ suc m → sources_from P i n ≡ rows_left P i m b
unfolded P i n m b is more = ap (sources_from P i) more ∙ ap (rows_left P i m) is

head_row : (i : ℕ) (fs : List ℕ) (row : Content) (rows : List Content) → row_of i (i ∷ fs) (row ∷ rows) ≡ Some row
head_row i fs row rows = ap (λ b. cond b (Some row) (row_of i fs rows)) (eq-eqb i i refl)

later_row : (i f : ℕ) (fs : List ℕ) (row : Content) (rows : List Content) → i + 1 ≤ f → row_of f (i ∷ fs) (row ∷ rows) ≡ row_of f fs rows
later_row i f fs row rows later = ap (λ b. cond b (Some row) (row_of f fs rows)) (not_here (i == f) refl)
  where
    not_here : (b : Bool) → (i == f) ≡ b → b ≡ false
    not_here true is = let same : i ≡ f = eqb-true i f is in absurd (omega (arith, same, later))
    not_here false is = refl

fill_source : (P : Plan) (sources : List Content) (i : ℕ) (rows more : List Content) (state : FileState) → i < length P.files → is_source P i ≡ true
    → ((content : Content) (rest : List Content) → rows ≡ content ∷ rest → (state ≡ file.Present content) × (more ≡ rest))
    → ((n : ℕ) → i + n ≡ length P.files → length rows ≡ length (sources_from P i n))
    → ((n f : ℕ) → i + n ≡ length P.files → i ≤ f → row_of f (sources_of P) sources ≡ row_of f (sources_from P i n) rows) → Fills P sources i true rows state more
fill_source P sources i [] more state inside is source left rest =
    let n0 : ℕ = length P.files - i - 1 in
    let none : 0 ≡ length (sources_from P i (n0 + 1)) = left (n0 + 1) (omega (arith, inside)) in
    let long : length (sources_from P i (n0 + 1)) ≡ suc (length (sources_from P (i + 1) n0)) = ap length (unfolded P i (n0 + 1) n0 true is (omega arith)) in
    absurd (omega (arith, none, long))
fill_source P sources i (row ∷ rows) more state inside is source left rest =
    let said = source row rows refl in
    let n0 : ℕ = length P.files - i - 1 in
    let all : i + (n0 + 1) ≡ length P.files = omega (arith, inside) in
    let here : row_of i (sources_of P) sources ≡ Some row =
    rest (n0 + 1) i all (omega arith) ∙ ap (λ fs. row_of i fs (row ∷ rows)) (unfolded P i (n0 + 1) n0 true is (omega arith)) ∙ head_row i (sources_from P (i + 1) n0) row rows in (
      ap present_with here ∙ sym said.0,
      λ n most.
          let all_rows : suc (length rows) ≡ length (sources_from P i (n + 1)) = left (n + 1) (omega (arith, most)) in
          let long : length (sources_from P i (n + 1)) ≡ suc (length (sources_from P (i + 1) n)) = ap length (unfolded P i (n + 1) n true is (omega arith)) in
          let same : length rows ≡ length (sources_from P (i + 1) n) = omega (arith, all_rows, long) in
          ap length said.1 ∙ same,
      λ n f most later. rest (n + 1) f (omega (arith, most)) (omega (arith, later)) ∙ ap (λ fs. row_of f fs (row ∷ rows)) (unfolded P i (n + 1) n true is (omega arith))
          ∙ later_row i f (sources_from P (i + 1) n) row rows later ∙ ap (row_of f (sources_from P (i + 1) n)) (sym said.1),
    )

fill_made : (P : Plan) (sources : List Content) (i : ℕ) (rows more : List Content) (state : FileState) → is_source P i ≡ false → state ≡ file.Absent → more ≡ rows
    → ((n : ℕ) → i + n ≡ length P.files → length rows ≡ length (sources_from P i n))
    → ((n f : ℕ) → i + n ≡ length P.files → i ≤ f → row_of f (sources_of P) sources ≡ row_of f (sources_from P i n) rows) → Fills P sources i false rows state more
fill_made P sources i rows more state is absent same left rest = (
  sym absent,
  λ n most. ap length same ∙ left (n + 1) (omega (arith, most)) ∙ ap length (unfolded P i (n + 1) n false is (omega arith)),
  λ n f most later. rest (n + 1) f (omega (arith, most)) (omega (arith, later)) ∙ ap (λ fs. row_of f fs rows) (unfolded P i (n + 1) n false is (omega arith))
      ∙ ap (row_of f (sources_from P (i + 1) n)) (sym same),
)

pub fill-step : (P : Plan) (sources : List Content) (i : ℕ) (states : List FileState) (rows more : List Content) (row : FileRow) (state : FileState)
    → i < length P.files → slice_get P.files i ≡ Some row
    → (is_none row.maker ≡ false → (state ≡ file.Absent) × (more ≡ rows))
    → (is_none row.maker ≡ true → (content : Content) (rest : List Content) → rows ≡ content ∷ rest → (state ≡ file.Present content) × (more ≡ rest))
    → IsFilled P sources i states rows → IsFilled P sources (i + 1) (states ++ (state ∷ [])) more
fill-step P sources i states rows more row state inside here made source before =
    by_kind (is_none row.maker) refl
  where
    tells : is_source P i ≡ is_none row.maker
    tells = ap (λ r. option_map_or (λ x. is_none x.maker) r false) here

    filled_in : (b : Bool) → is_source P i ≡ b → Fills P sources i b rows state more → IsFilled P sources (i + 1) (states ++ (state ∷ [])) more
    filled_in b is fills = record {
      filled = ap (λ xs. xs ++ (state ∷ [])) before.filled ∙ ap (λ x. map (first_state P sources) (range_with_len 0 i) ++ (x ∷ [])) (sym (ap (λ c. cond c (present_with (row_of i (sources_of P) sources)) file.Absent) is ∙ fills.0))
          ∙ sym (map-range_with_len_more (first_state P sources) 0 i i (omega arith));
      left = fills.1;
      rest = fills.2;
    }

    by_kind : (b : Bool) → is_none row.maker ≡ b → IsFilled P sources (i + 1) (states ++ (state ∷ [])) more
    by_kind true none = filled_in true (tells ∙ none) (fill_source P sources i rows more state inside (tells ∙ none) (source none) before.left before.rest)
    by_kind false some = filled_in false (tells ∙ some) (fill_made P sources i rows more state (tells ∙ some) (made some).0 (made some).1 before.left before.rest)
