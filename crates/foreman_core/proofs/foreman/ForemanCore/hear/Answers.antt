use Rattle.std.proofs.Common.{◌≡◌, ◌∙◌, ◌<◌, length, Err, Some, ap, subst, sym, rules}
use Rattle.std.specs.Prelude.{slice_get}
use Rattle.link_session.specs.declared.word.SessionFault.TheVariants as faults
use Rattle.foreman_core.specs.declared.links.Below.{Below}
use Rattle.foreman_core.specs.Answers.{Leads}
use Rattle.foreman_core.specs.Drafts.{resumed}
use Rattle.foreman_core.specs.Foremen.{Foreman}
use Rattle.foreman_core.specs.Steps.{on_told}
use Rattle.foreman_core.proofs.Hearing.{Means, hears_by, means_by}
use Rattle.foreman_core.proofs.Undoing.{read_at}
use Rattle.foreman_core.proofs.foreman.ForemanCore.hear.Goals as goal

pub returns-in-Ok : goal.returns-in-Ok
returns-in-Ok c =
    let f = c.args.self.now in
    let m = c.args.message.now in
    let own = c.in_ok-session.session in
    let session = c.on_message.new.self in
    let links = resumed f.links c.args.on session (slice_get f.links c.args.on) in
    let own_is : (b : Below) → slice_get f.links c.args.on ≡ Some b → own ≡ b.session =
    λ b got. c.in_ok-session.ensures ∙ ap (λ w. w.session) (read_at c.self.inside.links.items f.links c.args.on b c.index.result.now (ap (λ (g : Foreman). g.links) c.self.view_is) c.index.ensures got) in
    let means : Means f.links c.args.on m c.on_message.result links = means_by f.links c.args.on m own session c.on_message.result own_is c.on_message.ensures.told in
    let within : c.args.on < length f.links = search rules in
    hears_by f c.args.link c.args.on m c.on_message.result links c.turn.result c.turn.new.self within means (λ wants. cc)
    (subst (λ a. Leads (on_told f c.args.link c.args.on m links a) f c.turn.result c.turn.new.self) (sym c.in-Ok.is) c.turn.ensures)

pub returns-in-Err-Unexpected : goal.returns-in-Err-Unexpected
returns-in-Err-Unexpected c =
    let f = c.args.self.now in
    let m = c.args.message.now in
    let own = c.in_ok-session.session in
    let session = c.on_message.new.self in
    let links = resumed f.links c.args.on session (slice_get f.links c.args.on) in
    let own_is : (b : Below) → slice_get f.links c.args.on ≡ Some b → own ≡ b.session =
    λ b got. c.in_ok-session.ensures ∙ ap (λ w. w.session) (read_at c.self.inside.links.items f.links c.args.on b c.index.result.now (ap (λ (g : Foreman). g.links) c.self.view_is) c.index.ensures got) in
    let means : Means f.links c.args.on m c.on_message.result links = means_by f.links c.args.on m own session c.on_message.result own_is c.on_message.ensures.told in
    let within : c.args.on < length f.links = search rules in
    let is : c.on_message.result ≡ Err faults.Unexpected = c.in-Err-Unexpected.is ∙ ap (λ why. Err why) c.in-Err-Unexpected.field-0-is in
    hears_by f c.args.link c.args.on m c.on_message.result links c.leave.result c.leave.new.self within means (λ wants. cc)
    (subst (λ a. Leads (on_told f c.args.link c.args.on m links a) f c.leave.result c.leave.new.self) (sym is) c.leave.ensures)
