use Rattle.std.proofs.Common.{◌≡◌, ◌<◌, [], ◌∷◌, length, Some, sym, ap, ◌∙◌, rules}
use Rattle.std.specs.Prelude.{slice_get}
use Rattle.foreman_core.specs.declared.links.Upstream.{Upstream}
use Rattle.foreman_core.specs.Drafts.{Drafted}
use Rattle.foreman_core.specs.Foremen.{Foreman}
use Rattle.foreman_core.specs.Steps.{not_run}
use Rattle.foreman_core.proofs.Ending.{cancels_kept}
use Rattle.foreman_core.proofs.Undoing.{read_at}
use Rattle.foreman_core.proofs.foreman.ForemanCore.cancel_at.Goals as goal

pub returns-in-None : goal.returns-in-None
returns-in-None c =
    let f : Foreman = c.args.self.now in
    let told : Drafted = record { next = f.next; up = not_run c.index.result.now ∷ []; down = [] } in
    let within : c.args.at < length f.attempts = search rules in
    let drafted : c.tell_not_run.new.self ≡ told = search rules in
    let is : (u : Upstream) → slice_get f.attempts c.args.at ≡ Some u → c.index.result.now ≡ u =
    λ u got. read_at c.self.inside.attempts.items f.attempts c.args.at u c.index.result.now (ap (λ (g : Foreman). g.attempts) c.self.view_is) c.index.ensures got in
    let here : (u : Upstream) → slice_get f.attempts c.args.at ≡ Some u → c.index-2.result.now ≡ u =
    λ u got. read_at c.self.inside.attempts.items f.attempts c.args.at u c.index-2.result.now (ap (λ (g : Foreman). g.attempts) c.self.view_is) c.index-2.ensures got in
    cancels_kept f c.args.at c.tell_not_run.new.self c.end_at.result c.end_at.new.self within (λ u got. sym (ap (λ w. w.spot) (here u got)) ∙ c.in-None.is)
    (λ u got. drafted ∙ ap (λ (w : Upstream). let what : Drafted = record { next = f.next; up = not_run w ∷ []; down = [] } in what) (is u got)) c.end_at.ensures
