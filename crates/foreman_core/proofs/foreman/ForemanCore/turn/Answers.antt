use Rattle.std.proofs.Common.{◌<◌, length, ◌∙◌, rules}
use Rattle.foreman_core.specs.Foremen.{Foreman}
use Rattle.foreman_core.proofs.Ending.{turns_by}
use Rattle.foreman_core.proofs.Undoing.{turned_back}
use Rattle.foreman_core.proofs.foreman.ForemanCore.turn.Goals as goal

pub returns-in-Ok : goal.returns-in-Ok
returns-in-Ok c =
    let inside : Foreman = record { cache = c.self.inside.cache; attempts = c.self.inside.attempts.items; links = c.self.inside.links.items; next = c.self.inside.next } in
    turns_by c.args.self.now inside c.exchange_in-own.new.links.items c.args.link c.args.on c.args.message.now c.args.word c.args.session c.in-Ok.acts c.on_word.new.self c.self.view_is c.exchange_in-own.ensures.links c.in-Ok.ensures

pub returns-in-Err : goal.returns-in-Err
returns-in-Err c =
    let inside : Foreman = record { cache = c.self.inside.cache; attempts = c.self.inside.attempts.items; links = c.self.inside.links.items; next = c.self.inside.next } in
    let after : Foreman = record { cache = c.self-2.inside.cache; attempts = c.self-2.inside.attempts.items; links = c.self-2.inside.links.items; next = c.self-2.inside.next } in
    let within : c.args.on < length inside.links = search rules in
    turned_back c.args.self.now inside after c.exchange_in-own.new.links.items c.resume_in.new.links.items c.args.on c.args.session c.exchange_in-own.result c.self.view_is within c.exchange_in-own.ensures.links c.exchange_in-own.ensures.own
    (c.self-2.view_is ∙ c.in-Err.ensures) c.resume_in.ensures
