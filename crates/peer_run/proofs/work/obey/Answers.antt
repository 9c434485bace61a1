use Rattle.std.proofs.Common.{rules, ◌≡◌, ◌++◌, List, [], Ok, Err, Result, false, sym, ap, subst, ◌∙◌}
use Rattle.flow_types.specs.declared.job.Start.{Start}
use Rattle.flow_types.specs.declared.messages.Message.{Message}
use Rattle.links.specs.Passings.{received_in}
use Rattle.links.specs.Peers.{MaySay}
use Rattle.outside.specs.declared.fault.Fault.{Fault}
use Rattle.worker_core.specs.declared.acts.Acts.{Acts}
use Rattle.worker_pool.specs.declared.hand.Tally.{Tally}
use Rattle.worker_core.specs.Workers.{Worker, goes_up, hears}
use Rattle.peer_run.specs.Says.{CanBeTold, Each}
use Rattle.peer_run.specs.Works.{IsToldPool, Works, way_of}
use Rattle.peer_run.proofs.Going.{Said, fails_by, is_amiss, obeyed, obeyed_not, wants}
use Rattle.peer_run.proofs.Steps.{hears_may, hears_ok, hears_says, hears_up, not_bye}
use Rattle.peer_run.proofs.work.obey.Goals as goal

pub returns-in-Err-Unexpected-clause-goes : goal.returns-in-Err-Unexpected-clause-goes
returns-in-Err-Unexpected-clause-goes g c = λ first faults ear next at took works.
    let told = IsToldPool g.F.Commands.gives g.F.Commands.may_fail g.B.Terms.fits in
    let way = way_of g.L.Link.history g.L.Link.is_closed g.L.Link.count c.args.link.now in
    let up = hears_up (goes_up c.args.message) (hears c.args.core.now c.args.message) c.args.core.now c.on_message.new.self c.in-Err-Unexpected.field-0 c.in-Err-Unexpected.ensures c.in-Err-Unexpected.field-0-is in
    is_amiss g.F.Commands.gives g.F.Commands.may_fail g.L.Link.tells told g.B.Terms.fits first faults way ear next c.args.core.now c.args.pool.now.waiting c.args.pool.now.heard c.args.at c.args.message at took up works

pub returns-in-Err-Memory-clause-goes : goal.returns-in-Err-Memory-clause-goes
returns-in-Err-Memory-clause-goes g c = λ first faults ear next at took works.
    let told = IsToldPool g.F.Commands.gives g.F.Commands.may_fail g.B.Terms.fits in
    let way = way_of g.L.Link.history g.L.Link.is_closed g.L.Link.count c.args.link.now in
    wants g.F.Commands.gives g.F.Commands.may_fail g.L.Link.tells told g.B.Terms.fits first faults way ear c.args.core.now c.args.pool.now.waiting c.args.pool.now.heard false works

pub say_first-requires-clause-told : goal.say_first-requires-clause-told
say_first-requires-clause-told g c κs within =
    let core = c.args.core.now in
    let ok = hears_ok (goes_up c.args.message) (hears core c.args.message) core c.on_message.new.self c.in-Ok.acts c.in-Ok.ensures in
    let first : c.as_slice.result.now ≡ c.in-Ok.acts.send = search rules in
    let sends : c.as_slice.result.now ≡ (hears core c.args.message).acts.send = first ∙ ap (λ (a : Acts). a.send) ok.1 in
    subst (Each CanBeTold) (sym sends) (hears_says core c.args.message c.requires.counts).1

pub returns-in-Err-clause-goes : goal.returns-in-Err-clause-goes
returns-in-Err-clause-goes g c = λ first faults ear next at took works.
    let told = IsToldPool g.F.Commands.gives g.F.Commands.may_fail g.B.Terms.fits in
    let old = way_of g.L.Link.history g.L.Link.is_closed g.L.Link.count c.args.link.now in
    let new = way_of g.L.Link.history g.L.Link.is_closed g.L.Link.count c.say_first.new.link in
    let core = c.args.core.now in
    let m = c.args.message in
    let ok = hears_ok (goes_up m) (hears core m) core c.on_message.new.self c.in-Ok.acts c.in-Ok.ensures in
    let front : c.as_slice.result.now ≡ c.in-Ok.acts.send = search rules in
    let sends : c.as_slice.result.now ≡ (hears core m).acts.send = front ∙ ap (λ (a : Acts). a.send) ok.1 in
    let answer : Result (Unit {0}) Fault = Err c.in-Err.fault in
    let said : Said g.F.Commands.gives g.F.Commands.may_fail g.L.Link.tells told g.B.Terms.fits first faults answer c.as_slice.result.now old new = (
      (λ t. c.in-Err.ensures.sent t),
      (λ said t trusted link. c.in-Err.ensures.said said t link
          (subst (Each (MaySay g.F.Commands.gives g.F.Commands.may_fail (received_in old.history))) (sym sends) (hears_may g.F.Commands.gives g.F.Commands.may_fail (received_in old.history) core m))),
      c.in-Err.ensures.closed,
      c.in-Err.ensures.cause.later,
    ) in
    let some : (hears core m).acts.send ≡ [] → ⊥ = λ none. let wrong : ⊥ = cc (c.in-Err.ensures.none (sends ∙ none)) in wrong in
    obeyed_not g.F.Commands.gives g.F.Commands.may_fail g.L.Link.tells told g.B.Terms.fits first faults old new ear next core c.args.pool.now.waiting c.args.pool.now.heard m c.in-Err.fault c.halt_by.result took ok.0 (not_bye core m some)
    (subst (λ (ms : List Message). Said g.F.Commands.gives g.F.Commands.may_fail g.L.Link.tells told g.B.Terms.fits first faults answer ms old new) sends said)
    (fails_by faults old.faults new c.in-Err.fault c.halt_by.result c.in-Err.ensures.cause works.later c.halt_by.ensures.link c.halt_by.ensures.memory) works

pub returns-clause-goes : goal.returns-clause-goes
returns-clause-goes g c = λ first faults ear next at took works.
    let told = IsToldPool g.F.Commands.gives g.F.Commands.may_fail g.B.Terms.fits in
    let old = way_of g.L.Link.history g.L.Link.is_closed g.L.Link.count c.args.link.now in
    let new = way_of g.L.Link.history g.L.Link.is_closed g.L.Link.count c.say_first.new.link in
    let core = c.args.core.now in
    let m = c.args.message in
    let ok = hears_ok (goes_up m) (hears core m) core c.on_message.new.self c.in-Ok.acts c.in-Ok.ensures in
    let front : c.as_slice.result.now ≡ c.in-Ok.acts.send = search rules in
    let sends : c.as_slice.result.now ≡ (hears core m).acts.send = front ∙ ap (λ (a : Acts). a.send) ok.1 in
    let given : c.into_vec.result.items ≡ c.in-Ok.acts.start = search rules in
    let answer : Result (Unit {0}) Fault = Ok tt in
    let said : Said g.F.Commands.gives g.F.Commands.may_fail g.L.Link.tells told g.B.Terms.fits first faults answer c.as_slice.result.now old new = (
      (λ t. c.in_default.ensures.sent t),
      (λ said t trusted link. c.in_default.ensures.said said t link
          (subst (Each (MaySay g.F.Commands.gives g.F.Commands.may_fail (received_in old.history))) (sym sends) (hears_may g.F.Commands.gives g.F.Commands.may_fail (received_in old.history) core m))),
      c.in_default.ensures.closed,
      c.in_default.ensures.cause.later,
    ) in
    let after = c.give_first.new.pool.waiting in
    let bye = c.in-Ok.acts.bye in
    subst (λ (w : Worker). Works g.F.Commands.gives g.F.Commands.may_fail g.L.Link.tells told g.B.Terms.fits first faults new next w after c.give_first.new.pool.heard bye) (sym ok.2)
    (subst (λ (h : Tally). Works g.F.Commands.gives g.F.Commands.may_fail g.L.Link.tells told g.B.Terms.fits first faults new next (hears core m).worker after h bye) (sym c.give_first.ensures.heard)
    (obeyed g.F.Commands.gives g.F.Commands.may_fail g.L.Link.tells told g.B.Terms.fits first faults old new ear next core c.args.pool.now.waiting after c.args.pool.now.heard m bye took c.requires.counts ok.0
    (subst (λ (ms : List Message). Said g.F.Commands.gives g.F.Commands.may_fail g.L.Link.tells told g.B.Terms.fits first faults answer ms old new) sends said)
    (c.give_first.ensures.waiting ∙ ap (λ (xs : List Start). c.args.pool.now.waiting ++ xs) (given ∙ ap (λ (a : Acts). a.start) ok.1))
    (ap (λ (a : Acts). a.bye) ok.1) works))
