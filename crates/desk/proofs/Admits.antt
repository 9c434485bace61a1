-- The starts of a desk stay admitted.
use Rattle.std.proofs.Common.{◌≡◌, ◌⊎◌, ⊎_elim, inl, inr, ◌∙◌, ℕ, true, true≢false, List, [], ◌∷◌, ◌++◌, length, take, Option, Some, None, refl, sym, ap, subst}
use Rattle.std.specs.Prelude.{is_some, slice_get, suc, zero}
use Rattle.std.proofs.lemmas.Option.{slice_get_past}
use Rattle.flow_types.specs.declared.plan.Plan.{Plan}
use Rattle.flow_types.specs.declared.records.Record.{Record}
use Rattle.flow_types.specs.declared.records.Record.TheVariants as records
use Rattle.run_history.specs.declared.options.Options.{Options}
use Rattle.run_history.specs.Admissions.{Admitting}
use Rattle.run_history.specs.History.{is_opening}
use Rattle.task_core.specs.States.{TableState}
use Rattle.task_core.specs.Stands.{IsStill}
use Rattle.desk.specs.Admitted.{AreAdmitted, IsAdmitted}

-- the value, where there is one
abbrev value_or : {X : Type 0} → X → Option X → X
value_or x (Some y) = y
value_or x None = x

-- an element of a list and one more stands in the list, or is that one
at_end : {X : Type 0} (xs : List X) (x y : X) (i : ℕ) → slice_get (xs ++ (x ∷ [])) i ≡ Some y
    → ((slice_get xs i ≡ Some y) × (take i (xs ++ (x ∷ [])) ≡ take i xs)) ⊎ ((x ≡ y) × (take i (xs ++ (x ∷ [])) ≡ xs))
at_end [] x y zero is = inr (ap (value_or x) is, refl)
at_end [] x y (suc i) is = absurd (true≢false (ap is_some (sym is)))
at_end (z ∷ xs) x y zero is = inl (is, refl)
at_end {X} (z ∷ xs) x y (suc i) is =
    ⊎_elim (λ inside. inl (inside.0, ap (λ (l : List X). z ∷ l) inside.1)) (λ last. inr (last.0, ap (λ (l : List X). z ∷ l) last.1)) (at_end xs x y i is)

module _ (A : Admitting) where
  -- one record more
  pub admitted_push : (P : Plan) (O : Options) (base : ℕ) (H : List Record) (x : Record) → AreAdmitted A P O H base → IsAdmitted A P O H x → AreAdmitted A P O (H ++ (x ∷ [])) base
  admitted_push P O base H x all one i moment rule attempt link since is =
      ⊎_elim
      (λ inside. ap (λ (l : List Record). A P O l rule.0) inside.1 ∙ all i moment rule attempt link since inside.0)
      (λ last. ap (λ (l : List Record). A P O l rule.0) last.1 ∙ subst (IsAdmitted A P O H) last.0 one)
      (at_end H x (records.Started moment rule attempt link) i is)

  -- no record yet since the start
  none_since : (P : Plan) (O : Options) (H : List Record) → AreAdmitted A P O H (length H)
  none_since P O H i moment rule attempt link since is = absurd (true≢false (ap is_some (sym is ∙ slice_get_past H i since)))

  opening_admitted : (P : Plan) (O : Options) (H : List Record) (x : Record) → is_opening x ≡ true → IsAdmitted A P O H x
  opening_admitted P O H (records.Opened moment run retries limit plan sources) opens = tt
  opening_admitted P O H (records.Resumed moment run retries limit) opens = tt
  opening_admitted P O H (records.Started moment rule attempt link) opens = absurd (true≢false (sym opens))
  opening_admitted P O H (records.Done moment rule attempt outs) opens = tt
  opening_admitted P O H (records.Failed moment rule attempt why) opens = tt
  opening_admitted P O H (records.Lost moment rule attempt) opens = tt
  opening_admitted P O H (records.Dropped moment file) opens = tt
  opening_admitted P O H (records.Ended moment kind) opens = tt

  -- a desk that begins
  pub admitted_first : (P : Plan) (O : Options) (base : ℕ) (H H2 : List Record) (x : Record) → base ≡ length H → is_opening x ≡ true → H2 ≡ H ++ (x ∷ []) → AreAdmitted A P O H2 base
  admitted_first P O base H H2 x is opens grew =
      subst (λ (n : ℕ). AreAdmitted A P O H2 n) (sym is)
      (subst (λ (l : List Record). AreAdmitted A P O l (length H)) (sym grew) (admitted_push P O (length H) H x (none_since P O H) (opening_admitted P O H x opens)))

  -- a table of the same
  pub admitted_still : (t after : TableState) (H : List Record) (base : ℕ) → IsStill t after → AreAdmitted A t.plan t.options H base → AreAdmitted A after.plan after.options H base
  admitted_still t after H base still all =
      subst (λ (P : Plan). AreAdmitted A P after.options H base) (sym still.0) (subst (λ (O : Options). AreAdmitted A t.plan O H base) (sym still.1) all)

  -- a table that stayed as it was
  pub admitted_same : (t after : TableState) (H : List Record) (base : ℕ) → after ≡ t → AreAdmitted A t.plan t.options H base → AreAdmitted A after.plan after.options H base
  admitted_same t after H base same all = subst (λ (v : TableState). AreAdmitted A v.plan v.options H base) (sym same) all

  -- and one record more
  pub admitted_recorded : (t after : TableState) (H H2 : List Record) (x : Record) (base : ℕ) → IsStill t after → AreAdmitted A t.plan t.options H base → IsAdmitted A t.plan t.options H x → H2 ≡ H ++ (x ∷ [])
      → AreAdmitted A after.plan after.options H2 base
  admitted_recorded t after H H2 x base still all one grew =
      admitted_still t after H2 base still (subst (λ (l : List Record). AreAdmitted A t.plan t.options l base) (sym grew) (admitted_push t.plan t.options base H x all one))

  -- no record more
  pub admitted_kept : (P : Plan) (O : Options) (H H2 : List Record) (base : ℕ) → H2 ≡ H → AreAdmitted A P O H base → AreAdmitted A P O H2 base
  admitted_kept P O H H2 base same all = subst (λ (l : List Record). AreAdmitted A P O l base) (sym same) all
