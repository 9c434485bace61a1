use Rattle.std.proofs.Common.{◌≡◌, ◌<◌, length, Some, refl, ap, ◌∙◌, rules}
use Rattle.std.specs.Prelude.{slice_get}
use Rattle.foreman_core.specs.declared.links.Below.{Below}
use Rattle.foreman_core.specs.Foremen.{Foreman}
use Rattle.foreman_core.proofs.Undoing.{read_at, stated_anew_back}
use Rattle.foreman_core.proofs.foreman.ForemanCore.restate.Goals as goal

pub returns-in-Err : goal.returns-in-Err
returns-in-Err c =
    let inside : Foreman = record { cache = c.self.inside.cache; attempts = c.self.inside.attempts.items; links = c.self.inside.links.items; next = c.self.inside.next } in
    let after : Foreman = record { cache = c.self-2.inside.cache; attempts = c.self-2.inside.attempts.items; links = c.self-2.inside.links.items; next = c.self-2.inside.next } in
    let b = c.index-b.result.now in
    let within : c.args.on < length inside.links = search rules in
    let was : (w : Below) → slice_get inside.links c.args.on ≡ Some w → b ≡ w = λ w got. read_at inside.links inside.links c.args.on w b refl c.index-b.ensures got in
    stated_anew_back c.args.self.now inside after c.state_in.new.links.items c.state_in-in-Err.new.links.items c.args.on c.args.total c.args.largest b.total b.largest c.args.cache b.cache c.self.view_is within c.state_in.ensures
    (λ w got. (ap (λ x. x.total) (was w got), ap (λ x. x.largest) (was w got), ap (λ x. x.cache) (was w got))) (c.self-2.view_is ∙ c.in-Err.ensures) c.state_in-in-Err.ensures
