use Rattle.std.proofs.Common.{rules, ◌≡◌, Option, Result, Ok, sym, subst, ◌∙◌}
use Rattle.foreman_run.specs.Lost.{seen_of}
use Rattle.flow_types.specs.declared.lists.Memory.{Memory}
use Rattle.foreman_core.specs.declared.acts.ForemanActs.{ForemanActs}
use Rattle.foreman_run.specs.Heard.{Hears}
use Rattle.foreman_run.specs.Lowers.{HearsOn}
use Rattle.foreman_run.specs.Says.{CanGoDown}
use Rattle.peer_run.specs.Says.{CanBeTold, Each}
use Rattle.peer_run.specs.Works.{way_of}
use Rattle.foreman_run.proofs.Attending.{changed_there, down_told, heard_there, wants_there}
use Rattle.foreman_run.proofs.Companies.{got_there}
use Rattle.foreman_run.proofs.hearing.hear_at.Goals as goal

pub returns-in-Err-clause-goes : goal.returns-in-Err-clause-goes
returns-in-Err-clause-goes g c = λ trusted cap book ear works.
    let are : c.company.inside.lowers.items ≡ c.args.company.now = search rules in
    let there = got_there c.company.inside.lowers.items c.args.company.now c.args.at c.in-Some.lower.now are c.in-Some.ensures.item.0 c.in-Some.ensures.item.1 in
    wants_there g.F.Commands.gives g.F.Commands.may_fail g.U.Link.tells trusted g.L.Link.tells (seen_of g.L.Link.history g.L.Link.is_closed g.L.Link.count g.L.Link.idle_count) g.L.Link.honest cap book (way_of g.U.Link.history g.U.Link.is_closed g.U.Link.count c.args.link.now) ear c.args.core.now c.company.inside.lowers.items c.args.company.now c.args.at c.in-Some.lower.now c.hear.new.lower
    are there c.in-Err.ensures.link c.in-Err.ensures.way works

pub returns-in-Ok-None-clause-goes : goal.returns-in-Ok-None-clause-goes
returns-in-Ok-None-clause-goes g c = λ trusted cap book ear works.
    let are : c.company.inside.lowers.items ≡ c.args.company.now = search rules in
    let there = got_there c.company.inside.lowers.items c.args.company.now c.args.at c.in-Some.lower.now are c.in-Some.ensures.item.0 c.in-Some.ensures.item.1 in
    let old = c.in-Some.lower.now in
    let core = c.args.core.now in
    let h = subst (λ (o : Option ForemanActs). let r : Result (Option ForemanActs) Memory = Ok o in Hears g.L.Link.tells (seen_of g.L.Link.history g.L.Link.is_closed g.L.Link.count g.L.Link.idle_count) core c.hear.new.core old c.hear.new.lower r) c.in-Ok-None.field-0-is c.in-Ok-None.ensures.hears in
    changed_there g.F.Commands.gives g.F.Commands.may_fail g.U.Link.tells trusted g.L.Link.tells (seen_of g.L.Link.history g.L.Link.is_closed g.L.Link.count g.L.Link.idle_count) g.L.Link.honest cap book (way_of g.U.Link.history g.U.Link.is_closed g.U.Link.count c.args.link.now) ear core c.hear.new.core c.company.inside.lowers.items c.args.company.now c.args.at old c.listen.new.self are there h.0 (c.listen.ensures.link ∙ c.in-Ok-None.ensures.link)
    (λ sent heard held. c.listen.ensures.held sent heard (h.1 sent heard held)) (λ t. subst (λ w. HearsOn (g.L.Link.history w) (g.L.Link.history c.listen.new.self.way)) c.in-Ok-None.ensures.way (c.listen.ensures.comes t)) (λ o. c.listen.ensures.honest (subst g.L.Link.honest (sym c.in-Ok-None.ensures.way) o)) works

pub perform-requires-clause-up : goal.perform-requires-clause-up
perform-requires-clause-up g c κs within =
    let old = c.in-Some.lower.now in
    let new = c.hear.new.lower in
    let core = c.args.core.now in
    let h = subst (λ (o : Option ForemanActs). let r : Result (Option ForemanActs) Memory = Ok o in Hears g.L.Link.tells (seen_of g.L.Link.history g.L.Link.is_closed g.L.Link.count g.L.Link.idle_count) core c.hear.new.core old new r) c.in-Ok-Some.field-0-is c.in-Ok-Some.ensures.hears in
    let w = c.requires.works.1 in
    subst (λ (a : ForemanActs). Each CanBeTold a.up) (sym h.2) (down_told g.F.Commands.gives g.F.Commands.may_fail g.U.Link.tells w.trusted g.L.Link.tells (seen_of g.L.Link.history g.L.Link.is_closed g.L.Link.count g.L.Link.idle_count) g.L.Link.honest w.cap w.book (way_of g.U.Link.history g.U.Link.is_closed g.U.Link.count c.args.link.now) c.requires.works.0 core c.args.company.now old new h.1 w.works).0

pub perform-requires-clause-down : goal.perform-requires-clause-down
perform-requires-clause-down g c κs within =
    let old = c.in-Some.lower.now in
    let new = c.hear.new.lower in
    let core = c.args.core.now in
    let h = subst (λ (o : Option ForemanActs). let r : Result (Option ForemanActs) Memory = Ok o in Hears g.L.Link.tells (seen_of g.L.Link.history g.L.Link.is_closed g.L.Link.count g.L.Link.idle_count) core c.hear.new.core old new r) c.in-Ok-Some.field-0-is c.in-Ok-Some.ensures.hears in
    let w = c.requires.works.1 in
    subst (λ (a : ForemanActs). CanGoDown a.down) (sym h.2) (down_told g.F.Commands.gives g.F.Commands.may_fail g.U.Link.tells w.trusted g.L.Link.tells (seen_of g.L.Link.history g.L.Link.is_closed g.L.Link.count g.L.Link.idle_count) g.L.Link.honest w.cap w.book (way_of g.U.Link.history g.U.Link.is_closed g.U.Link.count c.args.link.now) c.requires.works.0 core c.args.company.now old new h.1 w.works).1

pub returns-in-Ok-clause-goes : goal.returns-in-Ok-clause-goes
returns-in-Ok-clause-goes g c = λ trusted cap book ear works.
    let are : c.company.inside.lowers.items ≡ c.args.company.now = search rules in
    let there = got_there c.company.inside.lowers.items c.args.company.now c.args.at c.in-Some.lower.now are c.in-Some.ensures.item.0 c.in-Some.ensures.item.1 in
    let old = c.in-Some.lower.now in
    let new = c.hear.new.lower in
    let core = c.args.core.now in
    let h = subst (λ (o : Option ForemanActs). let r : Result (Option ForemanActs) Memory = Ok o in Hears g.L.Link.tells (seen_of g.L.Link.history g.L.Link.is_closed g.L.Link.count g.L.Link.idle_count) core c.hear.new.core old new r) c.in-Ok-Some.field-0-is c.in-Ok-Some.ensures.hears in
    c.in-Ok.ensures.goes trusted cap book ear c.hear.new.core
    (heard_there g.F.Commands.gives g.F.Commands.may_fail g.U.Link.tells trusted g.L.Link.tells (seen_of g.L.Link.history g.L.Link.is_closed g.L.Link.count g.L.Link.idle_count) g.L.Link.honest cap book (way_of g.U.Link.history g.U.Link.is_closed g.U.Link.count c.args.link.now) ear core c.hear.new.core c.company.inside.lowers.items c.args.company.now c.args.at old new c.in-Ok-Some.acts c.honest_links_were_honest.ensures are there c.in-Ok-Some.ensures.link c.in-Ok-Some.ensures.way h.0 h.1 h.2 h.3 h.4 h.5 h.6 works)

pub returns-in-Err-perform-clause-goes : goal.returns-in-Err-perform-clause-goes
returns-in-Err-perform-clause-goes g c = λ trusted cap book ear works.
    let are : c.company.inside.lowers.items ≡ c.args.company.now = search rules in
    let there = got_there c.company.inside.lowers.items c.args.company.now c.args.at c.in-Some.lower.now are c.in-Some.ensures.item.0 c.in-Some.ensures.item.1 in
    let old = c.in-Some.lower.now in
    let new = c.hear.new.lower in
    let core = c.args.core.now in
    let h = subst (λ (o : Option ForemanActs). let r : Result (Option ForemanActs) Memory = Ok o in Hears g.L.Link.tells (seen_of g.L.Link.history g.L.Link.is_closed g.L.Link.count g.L.Link.idle_count) core c.hear.new.core old new r) c.in-Ok-Some.field-0-is c.in-Ok-Some.ensures.hears in
    c.in-Err-perform.ensures.goes trusted cap book ear c.hear.new.core
    (heard_there g.F.Commands.gives g.F.Commands.may_fail g.U.Link.tells trusted g.L.Link.tells (seen_of g.L.Link.history g.L.Link.is_closed g.L.Link.count g.L.Link.idle_count) g.L.Link.honest cap book (way_of g.U.Link.history g.U.Link.is_closed g.U.Link.count c.args.link.now) ear core c.hear.new.core c.company.inside.lowers.items c.args.company.now c.args.at old new c.in-Ok-Some.acts c.honest_links_were_honest.ensures are there c.in-Ok-Some.ensures.link c.in-Ok-Some.ensures.way h.0 h.1 h.2 h.3 h.4 h.5 h.6 works)
