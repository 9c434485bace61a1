use Rattle.std.proofs.Common.{rules, ◌≡◌, List, Ok, Err, Result, true, sym, ap, subst, ◌∙◌}
use Rattle.flow_types.specs.declared.messages.Message.{Message}
use Rattle.flow_types.specs.declared.numbers.AttemptNo.{AttemptNo}
use Rattle.links.specs.Passings.{received_in}
use Rattle.links.specs.Peers.{MaySay}
use Rattle.outside.specs.declared.fault.Fault.{Fault}
use Rattle.worker_core.specs.Workers.{Worker, reports, runs}
use Rattle.peer_run.specs.Says.{CanBeTold, Each}
use Rattle.peer_run.specs.Works.{IsToldPool, Works, way_of}
use Rattle.peer_run.proofs.Attempts.{running_out}
use Rattle.peer_run.proofs.Going.{Said, asked_for, fails_by, reported, reported_not, reported_wants, result_may}
use Rattle.peer_run.proofs.Sizes.{done_told}
use Rattle.peer_run.proofs.Steps.{reports_each}
use Rattle.peer_run.proofs.work.hear.Goals as goal

pub on_report-requires : goal.on_report-requires
on_report-requires g c =
    let s = c.in-Some.ensures.some in
    subst (λ (a : AttemptNo). runs a c.args.core.now ≡ true) s.2 (running_out c.args.core.now s.0 c.in-Some.report.outcome c.args.pool.now.waiting c.hear.new.self.waiting s.1 c.requires.running).0.0

pub returns-in_default-on_report-clause-goes : goal.returns-in_default-on_report-clause-goes
returns-in_default-on_report-clause-goes g c = λ first faults ear left works.
    let told = IsToldPool g.F.Commands.gives g.F.Commands.may_fail g.B.Terms.fits in
    let way = way_of g.L.Link.history g.L.Link.is_closed g.L.Link.count c.args.link.now in
    let s = c.in-Some.ensures.some in
    reported_wants g.F.Commands.gives g.F.Commands.may_fail g.L.Link.tells told g.B.Terms.fits first faults way ear c.args.core.now c.args.pool.now.waiting c.hear.new.self.waiting c.args.pool.now.heard c.hear.new.self.heard left s.0 c.in-Some.report.outcome s.1 s.3 s.4 works

pub say_first-requires-clause-told : goal.say_first-requires-clause-told
say_first-requires-clause-told g c κs within =
    let s = c.in-Some.ensures.some in
    let o = c.in-Some.report.outcome in
    let sends : c.as_slice.result.now ≡ (reports c.args.core.now c.in-Some.report.attempt o).acts.send = search rules in
    let ran = running_out c.args.core.now s.0 o c.args.pool.now.waiting c.hear.new.self.waiting s.1 c.requires.running in
    subst (Each CanBeTold) (sym sends) (reports_each CanBeTold c.args.core.now c.in-Some.report.attempt o (done_told c.in-Some.report.attempt s.0.job o ran.0.1 (c.requires.shaped s.0.job o s.3))).1

pub returns-in-Ok-say_first-clause-goes : goal.returns-in-Ok-say_first-clause-goes
returns-in-Ok-say_first-clause-goes g c = λ first faults ear left works.
    let told = IsToldPool g.F.Commands.gives g.F.Commands.may_fail g.B.Terms.fits in
    let old = way_of g.L.Link.history g.L.Link.is_closed g.L.Link.count c.args.link.now in
    let new = way_of g.L.Link.history g.L.Link.is_closed g.L.Link.count c.say_first.new.link in
    let s = c.in-Some.ensures.some in
    let o = c.in-Some.report.outcome in
    let core = c.args.core.now in
    let sends : c.as_slice.result.now ≡ (reports core c.in-Some.report.attempt o).acts.send = search rules in
    let at_start : (reports core c.in-Some.report.attempt o).acts.send ≡ (reports core s.0.attempt o).acts.send = ap (λ (a : AttemptNo). (reports core a o).acts.send) (sym s.2) in
    let answer : Result (Unit {0}) Fault = Ok tt in
    let said : Said g.F.Commands.gives g.F.Commands.may_fail g.L.Link.tells told g.B.Terms.fits first faults answer c.as_slice.result.now old new = (
      (λ t. c.in-Ok-say_first.ensures.sent t),
      (λ said t trusted link. c.in-Ok-say_first.ensures.said said t link
          (subst (Each (MaySay g.F.Commands.gives g.F.Commands.may_fail (received_in old.history))) (sym (sends ∙ at_start))
          (reports_each (MaySay g.F.Commands.gives g.F.Commands.may_fail (received_in old.history)) core s.0.attempt o
          (result_may g.F.Commands.gives g.F.Commands.may_fail g.L.Link.tells told g.B.Terms.fits first faults (received_in old.history) s.0 o
          (asked_for g.F.Commands.gives g.F.Commands.may_fail g.L.Link.tells told g.B.Terms.fits first faults old ear core c.args.pool.now.waiting c.hear.new.self.waiting c.args.pool.now.heard left s.0 s.1 works t) (trusted s.0.job o s.3))).1)),
      c.in-Ok-say_first.ensures.closed,
      c.in-Ok-say_first.ensures.cause.later,
    ) in
    let same : (reports core s.0.attempt o).worker ≡ c.on_report.new.self = ap (λ (a : AttemptNo). (reports core a o).worker) s.2 ∙ sym c.in-Ok.ensures.1 in
    subst (λ (w : Worker). Works g.F.Commands.gives g.F.Commands.may_fail g.L.Link.tells told g.B.Terms.fits first faults new ear w c.hear.new.self.waiting c.hear.new.self.heard left) same
    (reported g.F.Commands.gives g.F.Commands.may_fail g.L.Link.tells told g.B.Terms.fits first faults old new ear core c.args.pool.now.waiting c.hear.new.self.waiting c.args.pool.now.heard c.hear.new.self.heard left s.0 o s.1 s.3 s.4
    (subst (λ (ms : List Message). Said g.F.Commands.gives g.F.Commands.may_fail g.L.Link.tells told g.B.Terms.fits first faults answer ms old new) (sends ∙ at_start) said) works)

pub returns-clause-goes : goal.returns-clause-goes
returns-clause-goes g c = λ first faults ear left works.
    let told = IsToldPool g.F.Commands.gives g.F.Commands.may_fail g.B.Terms.fits in
    let old = way_of g.L.Link.history g.L.Link.is_closed g.L.Link.count c.args.link.now in
    let new = way_of g.L.Link.history g.L.Link.is_closed g.L.Link.count c.say_first.new.link in
    let s = c.in-Some.ensures.some in
    let o = c.in-Some.report.outcome in
    let core = c.args.core.now in
    let sends : c.as_slice.result.now ≡ (reports core c.in-Some.report.attempt o).acts.send = search rules in
    let at_start : (reports core c.in-Some.report.attempt o).acts.send ≡ (reports core s.0.attempt o).acts.send = ap (λ (a : AttemptNo). (reports core a o).acts.send) (sym s.2) in
    let answer : Result (Unit {0}) Fault = Err c.in-Err.fault in
    let said : Said g.F.Commands.gives g.F.Commands.may_fail g.L.Link.tells told g.B.Terms.fits first faults answer c.as_slice.result.now old new = (
      (λ t. c.in-Err.ensures.sent t),
      (λ said t trusted link. c.in-Err.ensures.said said t link
          (subst (Each (MaySay g.F.Commands.gives g.F.Commands.may_fail (received_in old.history))) (sym (sends ∙ at_start))
          (reports_each (MaySay g.F.Commands.gives g.F.Commands.may_fail (received_in old.history)) core s.0.attempt o
          (result_may g.F.Commands.gives g.F.Commands.may_fail g.L.Link.tells told g.B.Terms.fits first faults (received_in old.history) s.0 o
          (asked_for g.F.Commands.gives g.F.Commands.may_fail g.L.Link.tells told g.B.Terms.fits first faults old ear core c.args.pool.now.waiting c.hear.new.self.waiting c.args.pool.now.heard left s.0 s.1 works t) (trusted s.0.job o s.3))).1)),
      c.in-Err.ensures.closed,
      c.in-Err.ensures.cause.later,
    ) in
    reported_not g.F.Commands.gives g.F.Commands.may_fail g.L.Link.tells told g.B.Terms.fits first faults old new ear core c.args.pool.now.waiting c.hear.new.self.waiting c.args.pool.now.heard c.hear.new.self.heard left s.0 o c.in-Err.fault c.halt_by.result s.1 s.3 s.4
    (subst (λ (ms : List Message). Said g.F.Commands.gives g.F.Commands.may_fail g.L.Link.tells told g.B.Terms.fits first faults answer ms old new) (sends ∙ at_start) said)
    (fails_by faults old.faults new c.in-Err.fault c.halt_by.result c.in-Err.ensures.cause works.later c.halt_by.ensures.link c.halt_by.ensures.memory) works
