use Rattle.std.proofs.Common.{◌≡◌, ◌<◌, [], length, Some, refl, ap, ◌∙◌, rules}
use Rattle.std.specs.Prelude.{slice_get}
use Rattle.foreman_core.specs.declared.links.Upstream.{Upstream}
use Rattle.foreman_core.specs.Drafts.{Drafted}
use Rattle.foreman_core.specs.Foremen.{Foreman}
use Rattle.foreman_core.proofs.Ending.{keeps_by}
use Rattle.foreman_core.proofs.Undoing.{read_at, respotted_back}
use Rattle.foreman_core.proofs.foreman.ForemanCore.keep_at.Goals as goal

pub returns-in-Ok : goal.returns-in-Ok
returns-in-Ok c =
    let inside : Foreman = record { cache = c.self.inside.cache; attempts = c.self.inside.attempts.items; links = c.self.inside.links.items; next = c.self.inside.next } in
    let none : Drafted = record { next = inside.next; up = []; down = [] } in
    let nothing : c.of-draft.result ≡ none = search rules in
    let within : c.args.at < length inside.attempts = search rules in
    keeps_by c.args.self.now inside c.respot.new.attempts.items c.args.at c.of-draft.result c.in-Ok.acts c.finish.new.self c.self.view_is within c.respot.ensures nothing c.in-Ok.ensures.step

pub returns-in-Err : goal.returns-in-Err
returns-in-Err c =
    let inside : Foreman = record { cache = c.self.inside.cache; attempts = c.self.inside.attempts.items; links = c.self.inside.links.items; next = c.self.inside.next } in
    let after : Foreman = record { cache = c.self-2.inside.cache; attempts = c.self-2.inside.attempts.items; links = c.self-2.inside.links.items; next = c.self-2.inside.next } in
    let within : c.args.at < length inside.attempts = search rules in
    let was : (u : Upstream) → slice_get inside.attempts c.args.at ≡ Some u → c.index.result.now.spot ≡ u.spot = λ u got. ap (λ w. w.spot) (read_at inside.attempts inside.attempts c.args.at u c.index.result.now refl c.index.ensures got) in
    respotted_back c.args.self.now inside after c.respot.new.attempts.items c.respot-in-Err.new.attempts.items c.args.at c.index.result.now.spot c.self.view_is within c.respot.ensures was (c.self-2.view_is ∙ c.in-Err.ensures.step) c.respot-in-Err.ensures
