use Rattle.std.proofs.Common.{◌≡◌, ◌<◌, ℕ, [], ◌∷◌, length, Option, Some, ap, ◌∙◌, rules}
use Rattle.std.specs.Prelude.{position, slice_get}
use Rattle.flow_types.specs.declared.messages.Message.TheVariants as messages
use Rattle.foreman_core.specs.declared.links.Upstream.{Upstream}
use Rattle.foreman_core.specs.Drafts.{Drafted}
use Rattle.foreman_core.specs.Foremen.{Foreman, is_at}
use Rattle.foreman_core.proofs.Ending.{ends_below}
use Rattle.foreman_core.proofs.Undoing.{read_at}
use Rattle.foreman_core.proofs.foreman.ForemanCore.end.Goals as goal

pub returns : goal.returns
returns c =
    let f : Foreman = c.args.self.now in
    let a = c.index.result.now.task.attempt in
    let within : c.in-Some.at < length f.attempts = search rules in
    let here : Option ℕ = Some c.in-Some.at in
    let place : here ≡ position (is_at c.args.link c.args.number) f.attempts = search rules in
    let ended : Drafted = record { next = f.next; up = messages.Done a c.args.outcome ∷ []; down = [] } in
    let drafted : c.tell.new.self ≡ ended = search rules in
    let is : (u : Upstream) → slice_get f.attempts c.in-Some.at ≡ Some u → c.index.result.now ≡ u =
    λ u got. read_at c.self.inside.attempts.items f.attempts c.in-Some.at u c.index.result.now (ap (λ (g : Foreman). g.attempts) c.self.view_is) c.index.ensures got in
    ends_below f c.args.link c.args.number c.args.outcome c.in-Some.at c.tell.new.self c.end_at.result c.end_at.new.self within place
    (λ u got. drafted ∙ ap (λ (w : Upstream). let told : Drafted = record { next = f.next; up = messages.Done w.task.attempt c.args.outcome ∷ []; down = [] } in told) (is u got)) c.end_at.ensures
