-- One more record of a legal history.
use Rattle.std.proofs.Common.{◌≡◌, ℕ, Bool, true, false, cond, ◌||◌, List, [], ◌∷◌, ◌++◌, refl, ap, sym, ◌∙◌, append-nil, append_assoc}
use Rattle.std.specs.List.{list_any}
use Rattle.std.proofs.lemmas.List.Folds.{list_any-append}
use Rattle.std.proofs.lemmas.List.Elements.{filter_map-append}
use Rattle.std.proofs.lemmas.Bool.{and_parts}
use Rattle.flow_types.specs.declared.plan.Plan.{Plan}
use Rattle.flow_types.specs.declared.records.Record.{Record}
use Rattle.run_history.specs.declared.moves.Move.{Move}
use Rattle.run_history.specs.declared.moves.Move.TheVariants as moves
use Rattle.run_history.specs.History.{is_cleaned}
use Rattle.run_history.specs.Legal.{is_allowed, is_numbered, is_legal_from, is_legal}
use Rattle.run_history.specs.Links.{records_of, logged_in}
use Rattle.run_history.proofs.Bools.{both}

any_same : (xs : List Record) (x : Record) → is_cleaned x ≡ false → list_any is_cleaned (xs ++ (x ∷ [])) ≡ list_any is_cleaned xs
any_same xs x more = list_any-append is_cleaned xs (x ∷ []) ∙ ap (λ b. list_any is_cleaned xs || (b || false)) more ∙ or_false (list_any is_cleaned xs)
  where
    or_false : (b : Bool) → (b || (false || false)) ≡ b
    or_false true = refl
    or_false false = refl

pub legal_from-push : (P : Plan) (digest : List ℕ) (before xs : List Record) (x : Record) → is_cleaned x ≡ false → is_legal_from P digest before xs ≡ true
    → is_allowed P digest (before ++ xs) x ≡ true → is_legal_from P digest before (xs ++ (x ∷ [])) ≡ true
legal_from-push P digest before [] x more legal allowed =
    both _ true (ap (λ b. cond (b || false) (is_numbered before x) (is_allowed P digest before x)) more ∙ ap (λ H. is_allowed P digest H x) (sym (append-nil before)) ∙ allowed) refl
legal_from-push P digest before (y ∷ ys) x more legal allowed =
    let parts = and_parts _ _ legal in
    both _ _
    (ap (λ b. cond (is_cleaned y || b) (is_numbered before y) (is_allowed P digest before y)) (any_same ys x more) ∙ parts.0)
    (legal_from-push P digest (before ++ (y ∷ [])) ys x more parts.1 (ap (λ H. is_allowed P digest H x) (append_assoc before (y ∷ []) ys) ∙ allowed))

pub legal-push : (P : Plan) (digest : List ℕ) (H : List Record) (x : Record) → is_legal P digest H ≡ true → is_cleaned x ≡ false → is_allowed P digest H x ≡ true
    → is_legal P digest (H ++ (x ∷ [])) ≡ true
legal-push P digest H x legal more allowed = legal_from-push P digest [] H x more legal allowed

pub records-push : (M : List Move) (x : Record) → records_of (M ++ (moves.Logged x ∷ [])) ≡ records_of M ++ (x ∷ [])
records-push M x = filter_map-append logged_in M (moves.Logged x ∷ [])

-- a move that logs nothing
pub records-same : (M : List Move) (m : Move) → records_of (m ∷ []) ≡ [] → records_of (M ++ (m ∷ [])) ≡ records_of M
records-same M m none = filter_map-append logged_in M (m ∷ []) ∙ ap (λ (H : List Record). records_of M ++ H) none ∙ append-nil (records_of M)
