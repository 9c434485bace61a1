use Rattle.std.proofs.Common.{rules, ◌≡◌, [], false, true, sym, ap, subst, ◌∙◌}
use Rattle.foreman_run.specs.Lost.{seen_of}
use Rattle.worker_core.specs.Workers.{goes_up}
use Rattle.foreman_core.specs.declared.acts.ForemanActs.{ForemanActs}
use Rattle.foreman_core.specs.Foremen.{Foreman}
use Rattle.foreman_core.specs.Steps.{hears_up}
use Rattle.peer_run.specs.Works.{way_of}
use Rattle.foreman_run.proofs.Attending.{bye_met, is_refused, is_taken, not_bye, other_met, up_told, with_acts}
use Rattle.foreman_run.proofs.Going.{is_amiss, wants}
use Rattle.peer_run.specs.Says.{CanBeTold, Each}
use Rattle.foreman_run.specs.Says.{CanGoDown}
use Rattle.foreman_run.specs.Works.{Works}
use Rattle.foreman_run.proofs.parent.obey.Goals as goal

pub returns-in-Err-Unexpected-clause-goes : goal.returns-in-Err-Unexpected-clause-goes
returns-in-Err-Unexpected-clause-goes g c = λ trusted cap book ear next at took works.
    let up = is_refused (goes_up c.args.message) (hears_up c.args.core.now c.args.message) c.args.core.now c.on_up.new.self c.in-Err-Unexpected.field-0 c.in-Err-Unexpected.ensures c.in-Err-Unexpected.field-0-is in
    is_amiss g.F.Commands.gives g.F.Commands.may_fail g.U.Link.tells trusted g.L.Link.tells (seen_of g.L.Link.history g.L.Link.is_closed g.L.Link.count g.L.Link.idle_count) g.L.Link.honest cap book (way_of g.U.Link.history g.U.Link.is_closed g.U.Link.count c.args.link.now) ear next c.args.core.now c.args.company.now c.args.at c.args.message at took up works

pub returns-in-Err-Memory-clause-goes : goal.returns-in-Err-Memory-clause-goes
returns-in-Err-Memory-clause-goes g c = λ trusted cap book ear next at took works.
    wants g.F.Commands.gives g.F.Commands.may_fail g.U.Link.tells trusted g.L.Link.tells (seen_of g.L.Link.history g.L.Link.is_closed g.L.Link.count g.L.Link.idle_count) g.L.Link.honest cap book (way_of g.U.Link.history g.U.Link.is_closed g.U.Link.count c.args.link.now) ear c.args.core.now c.args.company.now [] [] false works

pub returns-then-acts-clause-goes : goal.returns-then-acts-clause-goes
returns-then-acts-clause-goes g c = λ trusted cap book ear next at took works.
    let core = c.args.core.now in
    let m = c.args.message in
    let ok = is_taken (goes_up m) (hears_up core m) core c.on_up.new.self c.in-Ok.acts c.in-Ok.ensures in
    let said : c.in-Ok.acts.bye ≡ true = search rules in
    let bye : (hears_up core m).acts.bye ≡ true = sym (ap (λ (a : ForemanActs). a.bye) ok.1) ∙ said in
    subst (λ (f : Foreman). Works g.F.Commands.gives g.F.Commands.may_fail g.U.Link.tells trusted g.L.Link.tells (seen_of g.L.Link.history g.L.Link.is_closed g.L.Link.count g.L.Link.idle_count) g.L.Link.honest cap book (way_of g.U.Link.history g.U.Link.is_closed g.U.Link.count c.args.link.now) next f c.args.company.now [] [] true) (sym ok.2)
    (bye_met g.F.Commands.gives g.F.Commands.may_fail g.U.Link.tells trusted g.L.Link.tells (seen_of g.L.Link.history g.L.Link.is_closed g.L.Link.count g.L.Link.idle_count) g.L.Link.honest cap book (way_of g.U.Link.history g.U.Link.is_closed g.U.Link.count c.args.link.now) ear next core c.args.company.now m took ok.0 bye works)

pub perform-requires-clause-up : goal.perform-requires-clause-up
perform-requires-clause-up g c κs within =
    let w = c.requires.works in
    let core = c.args.core.now in
    let m = c.args.message in
    let ok = is_taken (goes_up m) (hears_up core m) core c.on_up.new.self c.in-Ok.acts c.in-Ok.ensures in
    let said : c.in-Ok.acts.bye ≡ false = search rules in
    let bye : (hears_up core m).acts.bye ≡ false = sym (ap (λ (a : ForemanActs). a.bye) ok.1) ∙ said in
    subst (λ (a : ForemanActs). Each CanBeTold a.up) (sym ok.1)
    (up_told g.F.Commands.gives g.F.Commands.may_fail g.U.Link.tells w.3.trusted g.L.Link.tells (seen_of g.L.Link.history g.L.Link.is_closed g.L.Link.count g.L.Link.idle_count) g.L.Link.honest w.3.cap w.3.book (way_of g.U.Link.history g.U.Link.is_closed g.U.Link.count c.args.link.now) w.0 w.1 core c.args.company.now m w.2 (not_bye g.F.Commands.gives g.F.Commands.may_fail g.U.Link.tells w.3.trusted g.L.Link.tells (seen_of g.L.Link.history g.L.Link.is_closed g.L.Link.count g.L.Link.idle_count) g.L.Link.honest w.3.cap w.3.book (way_of g.U.Link.history g.U.Link.is_closed g.U.Link.count c.args.link.now) w.0 w.1 core m w.2 bye) w.3.works).0

pub perform-requires-clause-down : goal.perform-requires-clause-down
perform-requires-clause-down g c κs within =
    let w = c.requires.works in
    let core = c.args.core.now in
    let m = c.args.message in
    let ok = is_taken (goes_up m) (hears_up core m) core c.on_up.new.self c.in-Ok.acts c.in-Ok.ensures in
    let said : c.in-Ok.acts.bye ≡ false = search rules in
    let bye : (hears_up core m).acts.bye ≡ false = sym (ap (λ (a : ForemanActs). a.bye) ok.1) ∙ said in
    subst (λ (a : ForemanActs). CanGoDown a.down) (sym ok.1)
    (up_told g.F.Commands.gives g.F.Commands.may_fail g.U.Link.tells w.3.trusted g.L.Link.tells (seen_of g.L.Link.history g.L.Link.is_closed g.L.Link.count g.L.Link.idle_count) g.L.Link.honest w.3.cap w.3.book (way_of g.U.Link.history g.U.Link.is_closed g.U.Link.count c.args.link.now) w.0 w.1 core c.args.company.now m w.2 (not_bye g.F.Commands.gives g.F.Commands.may_fail g.U.Link.tells w.3.trusted g.L.Link.tells (seen_of g.L.Link.history g.L.Link.is_closed g.L.Link.count g.L.Link.idle_count) g.L.Link.honest w.3.cap w.3.book (way_of g.U.Link.history g.U.Link.is_closed g.U.Link.count c.args.link.now) w.0 w.1 core m w.2 bye) w.3.works).1

pub returns-in-Ok-perform-clause-goes : goal.returns-in-Ok-perform-clause-goes
returns-in-Ok-perform-clause-goes g c = λ trusted cap book ear next at took works.
    let core = c.args.core.now in
    let m = c.args.message in
    let ok = is_taken (goes_up m) (hears_up core m) core c.on_up.new.self c.in-Ok.acts c.in-Ok.ensures in
    let said : c.in-Ok.acts.bye ≡ false = search rules in
    let bye : (hears_up core m).acts.bye ≡ false = sym (ap (λ (a : ForemanActs). a.bye) ok.1) ∙ said in
    c.in-Ok-perform.ensures.goes trusted cap book next c.on_up.new.self
    (with_acts g.F.Commands.gives g.F.Commands.may_fail g.U.Link.tells trusted g.L.Link.tells (seen_of g.L.Link.history g.L.Link.is_closed g.L.Link.count g.L.Link.idle_count) g.L.Link.honest cap book (way_of g.U.Link.history g.U.Link.is_closed g.U.Link.count c.args.link.now) next c.on_up.new.self c.args.company.now (hears_up core m) c.in-Ok.acts ok.2 ok.1
    (other_met g.F.Commands.gives g.F.Commands.may_fail g.U.Link.tells trusted g.L.Link.tells (seen_of g.L.Link.history g.L.Link.is_closed g.L.Link.count g.L.Link.idle_count) g.L.Link.honest cap book (way_of g.U.Link.history g.U.Link.is_closed g.U.Link.count c.args.link.now) ear next core c.args.company.now m took ok.0 bye works))

pub returns-in-Err-clause-goes : goal.returns-in-Err-clause-goes
returns-in-Err-clause-goes g c = λ trusted cap book ear next at took works.
    let core = c.args.core.now in
    let m = c.args.message in
    let ok = is_taken (goes_up m) (hears_up core m) core c.on_up.new.self c.in-Ok.acts c.in-Ok.ensures in
    let said : c.in-Ok.acts.bye ≡ false = search rules in
    let bye : (hears_up core m).acts.bye ≡ false = sym (ap (λ (a : ForemanActs). a.bye) ok.1) ∙ said in
    c.in-Err.ensures.goes trusted cap book next c.on_up.new.self
    (with_acts g.F.Commands.gives g.F.Commands.may_fail g.U.Link.tells trusted g.L.Link.tells (seen_of g.L.Link.history g.L.Link.is_closed g.L.Link.count g.L.Link.idle_count) g.L.Link.honest cap book (way_of g.U.Link.history g.U.Link.is_closed g.U.Link.count c.args.link.now) next c.on_up.new.self c.args.company.now (hears_up core m) c.in-Ok.acts ok.2 ok.1
    (other_met g.F.Commands.gives g.F.Commands.may_fail g.U.Link.tells trusted g.L.Link.tells (seen_of g.L.Link.history g.L.Link.is_closed g.L.Link.count g.L.Link.idle_count) g.L.Link.honest cap book (way_of g.U.Link.history g.U.Link.is_closed g.U.Link.count c.args.link.now) ear next core c.args.company.now m took ok.0 bye works))
