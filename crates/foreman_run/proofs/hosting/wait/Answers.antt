use Rattle.std.proofs.Common.{rules, ◌≡◌, ◌+◌, length, arith}
use Rattle.foreman_run.specs.Lost.{seen_of}
use Rattle.foreman_run.proofs.Hosted.{gave, on_by}
use Rattle.foreman_run.proofs.Tying.{gains_later}
use Rattle.foreman_run.proofs.hosting.wait.Goals as goal

pub returns-in-Ok-Link-clause-hosts : goal.returns-in-Ok-Link-clause-hosts
returns-in-Ok-Link-clause-hosts g c =
    let one : g.H.Hall.given c.wait.new.self ≡ g.H.Hall.given c.args.hall.now + 1 = search rules in
    on_by (g.H.Hall.count c.args.hall.now) (g.H.Hall.count c.wait.new.self) (g.H.Hall.count c.let_in.new.hall) (g.H.Hall.got c.args.hall.now) (g.H.Hall.got c.wait.new.self) (g.H.Hall.got c.let_in.new.hall) (g.H.Hall.given c.args.hall.now) (g.H.Hall.given c.wait.new.self) (g.H.Hall.given c.let_in.new.hall)
    (length c.args.company.now) (1 + length c.args.company.now) (length c.let_in.new.company) c.let_in.result
    (gave (g.H.Hall.count c.args.hall.now) (g.H.Hall.count c.wait.new.self) (g.H.Hall.got c.args.hall.now) (g.H.Hall.got c.wait.new.self) (g.H.Hall.given c.args.hall.now) (g.H.Hall.given c.wait.new.self) (length c.args.company.now) (1 + length c.args.company.now) c.wait.ensures.cause.later c.wait.ensures.got (omega (arith, one)))
    c.let_in.ensures.hosts

pub returns-in-Ok-Link-clause-gains : goal.returns-in-Ok-Link-clause-gains
returns-in-Ok-Link-clause-gains g c = gains_later (seen_of g.H.Way.Link.history g.H.Way.Link.is_closed g.H.Way.Link.count g.H.Way.Link.idle_count) g.H.Way.Link.honest (g.H.Way.Link.honest c.in-Ok-Link.way) (g.H.Hall.honest c.args.hall.now) c.args.numbered.now c.let_in.new.numbered (g.H.Hall.got c.args.hall.now) (g.H.Hall.got c.wait.new.self) (g.H.Hall.got c.let_in.new.hall)
    c.args.company.now c.let_in.new.company c.let_in.result c.wait.ensures.got (λ h. search rules) c.let_in.ensures.gains
