use Rattle.std.proofs.Common.{rules, sym, subst}
use Rattle.foreman_run.specs.Lost.{seen_of}
use Rattle.foreman_run.specs.Lowers.{IsHeld, LowerState, Went}
use Rattle.foreman_run.proofs.Companies.{sent_one}
use Rattle.foreman_run.proofs.lower.Lower.send.Goals as goal

pub returns-in-Ok-clause-held : goal.returns-in-Ok-clause-held
returns-in-Ok-clause-held g c = λ roll heard there held.
    let old : LowerState _ = record { link = c.self.inside.link; way = c.self.inside.way; ear = c.self.inside.ear; care = c.self.inside.care; gone = c.self.inside.gone; starved = c.self.inside.starved } in
    let m = c.args.message in
    sent_one g.L.Link.tells (seen_of g.L.Link.history g.L.Link.is_closed g.L.Link.count g.L.Link.idle_count) g.L.Link.honest roll heard old _ m (search rules) (search rules) (search rules) (search rules) (search rules) c.in-Ok.ensures.fits (λ t. c.in-Ok.ensures.sent t)
    (subst (λ (l : LowerState _). Went roll.down l.link m) (sym c.self.view_is) there) (subst (IsHeld g.L.Link.tells (seen_of g.L.Link.history g.L.Link.is_closed g.L.Link.count g.L.Link.idle_count) roll heard) (sym c.self.view_is) held)
