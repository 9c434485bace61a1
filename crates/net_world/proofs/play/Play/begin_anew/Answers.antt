use Rattle.std.proofs.Common.{◌∙◌, ℕ, List, ap, sym, length, if◌then◌else◌}
use Rattle.std.specs.Prelude.{Option, None}
use Rattle.flow_types.specs.declared.plan.Plan.{Plan as PlanValue}
use Rattle.run_history.specs.Links.{records_of}
use Rattle.run_history.specs.Storage.{is_present}
use Rattle.world_contents.specs.Holdings.{held_in}
use Rattle.world_laws.specs.Worlds.{present_only}
use Rattle.net_world.proofs.play.Play.begin_anew.Goals as goal

pub returns-clause-held : goal.returns-clause-held
returns-clause-held c P O w shown f =
    c.keep_present.ensures.held w.moves shown.table.stands (shown.places ∙ sym (ap (λ (Q : PlanValue). length Q.files) shown.table.plan)) f
    ∙ ap (λ (Q : PlanValue). present_only Q (records_of w.moves) (held_in c.args.self.now.contents.items) f) shown.table.plan
    ∙ ap (λ (content : Option (List ℕ)). if is_present P (records_of w.moves) f then content else None) (sym (shown.contents f))
