use Rattle.std.proofs.Common.{◌≡◌, suc, Bool, true, false, List, [], ◌∷◌, length, refl, ap, ◌∙◌}
use Rattle.std.specs.Prelude.{◌≢◌, ◌&&◌, nat_le}
use Rattle.flow_types.specs.declared.numbers.Content.{Content}
use Rattle.flow_types.specs.declared.plan.Plan.{Plan}
use Rattle.flow_types.specs.declared.plan.Port.{Port}
use Rattle.flow_types.specs.Plans.{bound_of, files_of}
use Rattle.run_history.specs.Legal.{are_within}
use Rattle.world_contents.proofs.rows.are_within.Goals as goal

neither : (b : Bool) → false ≡ b && false
neither true = refl
neither false = refl

-- without a row for each port they aren't within
apart : (P : Plan) (ports : List Port) (rows : List Content) → length ports ≢ length rows → false ≡ are_within P (files_of ports) rows
apart P [] [] unlike = absurd (unlike refl)
apart P [] (row ∷ rows) unlike = refl
apart P (port ∷ ports) [] unlike = refl
apart P (port ∷ ports) (row ∷ rows) unlike =
    let within : Bool = nat_le row.size (bound_of P port.file.0) in
    neither within ∙ ap (λ b. within && b) (apart P ports rows (λ same. unlike (ap (λ n. suc n) same)))

pub returns-then-ports-rows : goal.returns-then-ports-rows
returns-then-ports-rows c = apart c.args.plan.now c.args.ports.now c.args.rows.now c.if-ports-rows.true
