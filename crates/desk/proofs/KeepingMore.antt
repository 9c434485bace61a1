-- Images of a run that begins.
use Rattle.std.proofs.Common.{◌≡◌, ⊎_elim, ℕ, List, length, Option, Some, None, subst, arith, length-append, [], ◌∷◌, ◌++◌}
use Rattle.std.specs.Prelude.{IfSome}
use Rattle.flow_types.specs.declared.plan.Plan.{Plan}
use Rattle.flow_types.specs.declared.records.Record.{Record}
use Rattle.run_history.specs.declared.options.Options.{Options}
use Rattle.outside.specs.Files.{Files}
use Rattle.desk.specs.Begins.{KeepsOpening}
use Rattle.desk.specs.Examples.{KeepsMore}
use Rattle.desk.specs.Kept.{Keeps, Test, WasKept}
use Rattle.desk.specs.State.{DeskState}

-- an image of the desk
pub desk_more : {S : Type 0} (fits : Test) (P : Plan) (log : List ℕ) (H : List Record) (d : DeskState S) (G : List Record) (cut : Type 0) (image : Files) → d.plan ≡ P → d.log ≡ log → d.base ≡ length H
    → WasKept fits d.plan d.log d.base G cut image → KeepsMore fits P log (length H) image
desk_more fits P log H d G cut image plan name base was = record {
  records = was.records;
  since = let since = was.since in omega (arith, since, base);
  kept = subst (λ (Q : Plan). Keeps fits Q log was.records image) plan (subst (λ (n : List ℕ). Keeps fits d.plan n was.records image) name was.kept);
}

-- an image of a start that was refused
pub opening_more : (fits : Test) (P : Plan) (O : Options) (log : List ℕ) (H : List Record) (at : ℕ) (tells : Type 0) (files image : Files) → KeepsOpening fits P O log H at tells files image → KeepsMore fits P log (length H) image
opening_more fits P O log H at tells files image left =
    ⊎_elim (λ (k : Keeps fits P log H image). record { records = H; since = omega arith; kept = k })
    (λ more. record { records = H ++ (more.0 ∷ []); since = omega (arith, length-append H (more.0 ∷ [])); kept = more.2 }) left

-- what is said of an answer, where there is one
pub if_some : {A : Type 0} {P Q : A → Type 0} (answer : Option A) → ((x : A) → P x → Q x) → IfSome answer P → IfSome answer Q
if_some None go is = tt
if_some (Some x) go is = go x is
