use Rattle.std.proofs.Common.{◌≡◌, ◌<◌, length, Some, refl, sym, ap, subst, ◌∙◌, rules}
use Rattle.std.specs.Prelude.{slice_get}
use Rattle.foreman_core.specs.declared.links.Below.{Below}
use Rattle.foreman_core.specs.Foremen.{Foreman}
use Rattle.foreman_core.proofs.Ending.{ends_closed}
use Rattle.foreman_core.proofs.Undoing.{read_at, reopened}
use Rattle.foreman_core.proofs.foreman.ForemanCore.end_on.Goals as goal

pub returns-in-Ok : goal.returns-in-Ok
returns-in-Ok c =
    let inside : Foreman = record { cache = c.self.inside.cache; attempts = c.self.inside.attempts.items; links = c.self.inside.links.items; next = c.self.inside.next } in
    ends_closed c.args.self.now inside c.close_in.new.links.items c.args.on c.args.number c.args.at c.args.draft c.in-Ok.acts c.end_at.new.self c.self.view_is c.close_in.ensures c.in-Ok.ensures

pub returns-in-Err : goal.returns-in-Err
returns-in-Err c = λ u got.
    let inside : Foreman = record { cache = c.self.inside.cache; attempts = c.self.inside.attempts.items; links = c.self.inside.links.items; next = c.self.inside.next } in
    let after : Foreman = record { cache = c.self-2.inside.cache; attempts = c.self-2.inside.attempts.items; links = c.self-2.inside.links.items; next = c.self-2.inside.next } in
    let within : c.args.on < length inside.links = search rules in
    let own : (b : Below) → slice_get inside.links c.args.on ≡ Some b → c.in_ok-session.session ≡ b.session = λ b here. c.in_ok-session.ensures ∙ ap (λ w. w.session) (read_at inside.links inside.links c.args.on b c.index.result.now refl c.index.ensures here) in
    let there : slice_get inside.attempts c.args.at ≡ Some u = subst (λ (f : Foreman). slice_get f.attempts c.args.at ≡ Some u) (sym c.self.view_is) got in
    reopened c.args.self.now inside after c.close_in.new.links.items c.resume_in.new.links.items c.args.on c.args.number c.in_ok-session.session c.self.view_is within c.close_in.ensures own
    (c.self-2.view_is ∙ c.in-Err.ensures u there) c.resume_in.ensures
