use Rattle.std.proofs.Common.{rules, ◌≡◌, ◌+◌, ◌∙◌, [], Bool, true, false, length, sym, subst, arith}
use Rattle.foreman_run.specs.Lost.{seen_of}
use Rattle.peer_run.specs.Works.{way_of}
use Rattle.foreman_run.specs.Hosts.{Hosts}
use Rattle.foreman_run.specs.Tied.{with_hall}
use Rattle.foreman_run.specs.Works.{Works}
use Rattle.foreman_run.proofs.Going.{is_over}
use Rattle.foreman_run.proofs.Hosted.{on_last, on_then, on_till}
use Rattle.foreman_run.proofs.rounds.serve.Goals as goal

pub round-requires-clause-works : goal.round-requires-clause-works
round-requires-clause-works g c κs within =
    let w = c.requires.works in
    record { trusted = w.trusted; untrusted = w.untrusted; cap = w.cap; book = w.book; works = c.loop.invariant.goes w.trusted w.cap w.book (λ e. absurd (let h : ⊥ = cc (sym e ∙ w.untrusted) in h)) w.works }

pub loop-preserved : goal.loop-preserved
loop-preserved g c = let on : c.in-Ok-false.field-0 ≡ false = search rules in record {
  goes = λ trusted cap book trusts works. subst (λ (h : _). Works g.F.Commands.gives g.F.Commands.may_fail g.U.Link.tells trusted g.H.Way.Link.tells (seen_of g.H.Way.Link.history g.H.Way.Link.is_closed g.H.Way.Link.count g.H.Way.Link.idle_count) g.H.Way.Link.honest cap (with_hall book (g.H.Hall.got h) c.round.new.numbered) (way_of g.U.Link.history g.U.Link.is_closed g.U.Link.count c.round.new.parent) c.round.new.ear c.round.new.core c.round.new.company [] [] false) (sym c.rest-in-Ok-false.ensures) (subst (λ (b : Bool). Works g.F.Commands.gives g.F.Commands.may_fail g.U.Link.tells trusted g.H.Way.Link.tells (seen_of g.H.Way.Link.history g.H.Way.Link.is_closed g.H.Way.Link.count g.H.Way.Link.idle_count) g.H.Way.Link.honest cap (with_hall book (g.H.Hall.got c.round.new.hall) c.round.new.numbered) (way_of g.U.Link.history g.U.Link.is_closed g.U.Link.count c.round.new.parent) c.round.new.ear c.round.new.core c.round.new.company [] [] b) on
      (c.in-Ok-false.ensures.goes trusted cap book (λ e. c.loop.invariant.honest (trusts e)) (c.loop.invariant.goes trusted cap book trusts works)));
  hosts = subst (λ (h : _). Hosts (g.H.Hall.count c.args.hall.now) (g.H.Hall.count h) (g.H.Hall.got c.args.hall.now) (g.H.Hall.got h) (g.H.Hall.given c.args.hall.now) (g.H.Hall.given h) (length c.args.company.now) (length c.round.new.company) 0) (sym c.rest-in-Ok-false.ensures)
      (on_then (g.H.Hall.count c.args.hall.now) (g.H.Hall.count c.loop.hall) (g.H.Hall.count c.round.new.hall) (g.H.Hall.got c.args.hall.now) (g.H.Hall.got c.loop.hall) (g.H.Hall.got c.round.new.hall) (g.H.Hall.given c.args.hall.now) (g.H.Hall.given c.loop.hall) (g.H.Hall.given c.round.new.hall) (length c.args.company.now) (length c.loop.company) (length c.round.new.company) false c.loop.invariant.hosts c.in-Ok-false.ensures.hosts);
  counted = subst (λ (h : _). c.round.new.numbered + g.H.Hall.given c.args.hall.now ≡ g.H.Hall.given h) (sym c.rest-in-Ok-false.ensures) (omega (arith, c.in-Ok-false.ensures.counted, c.loop.invariant.counted));
  listens = subst (λ (h : _). g.H.Hall.listens h) (sym c.rest-in-Ok-false.ensures) c.in-Ok-false.ensures.listens;
  honest = λ is. subst (λ (h : _). g.H.Hall.honest h) (sym c.rest-in-Ok-false.ensures) (c.in-Ok-false.ensures.honest (c.loop.invariant.honest is));
}

pub returns-in-Ok-true-clause-stops : goal.returns-in-Ok-true-clause-stops
returns-in-Ok-true-clause-stops g c = λ trusted cap book trusts works.
    let over : c.in-Ok-true.field-0 ≡ true = search rules in
    record {
      upto = c.round.new.numbered;
      counted = omega (arith, c.in-Ok-true.ensures.counted, c.loop.invariant.counted);
      stops_at = is_over g.F.Commands.gives g.F.Commands.may_fail g.U.Link.tells trusted g.H.Way.Link.tells (seen_of g.H.Way.Link.history g.H.Way.Link.is_closed g.H.Way.Link.count g.H.Way.Link.idle_count) g.H.Way.Link.honest cap (with_hall book (g.H.Hall.got c.round.new.hall) c.round.new.numbered) (way_of g.U.Link.history g.U.Link.is_closed g.U.Link.count c.round.new.parent) c.round.new.ear c.round.new.core c.round.new.company
          (subst (λ (b : Bool). Works g.F.Commands.gives g.F.Commands.may_fail g.U.Link.tells trusted g.H.Way.Link.tells (seen_of g.H.Way.Link.history g.H.Way.Link.is_closed g.H.Way.Link.count g.H.Way.Link.idle_count) g.H.Way.Link.honest cap (with_hall book (g.H.Hall.got c.round.new.hall) c.round.new.numbered) (way_of g.U.Link.history g.U.Link.is_closed g.U.Link.count c.round.new.parent) c.round.new.ear c.round.new.core c.round.new.company [] [] b) over
          (c.in-Ok-true.ensures.goes trusted cap book (λ e. c.loop.invariant.honest (trusts e)) (c.loop.invariant.goes trusted cap book trusts works)));
    }

pub returns-in-Ok-true-clause-hosts : goal.returns-in-Ok-true-clause-hosts
returns-in-Ok-true-clause-hosts g c = on_last (g.H.Hall.count c.args.hall.now) (g.H.Hall.count c.loop.hall) (g.H.Hall.count c.round.new.hall) (g.H.Hall.got c.args.hall.now) (g.H.Hall.got c.loop.hall) (g.H.Hall.got c.round.new.hall) (g.H.Hall.given c.args.hall.now) (g.H.Hall.given c.loop.hall) (g.H.Hall.given c.round.new.hall) (length c.args.company.now) (length c.loop.company) (length c.round.new.company) true c.loop.invariant.hosts c.in-Ok-true.ensures.hosts

pub returns-in-Err-clause-stops : goal.returns-in-Err-clause-stops
returns-in-Err-clause-stops g c = λ trusted cap book trusts works.
    record {
      upto = c.round.new.numbered;
      counted = omega (arith, c.in-Err.ensures.counted, c.loop.invariant.counted);
      stops_at = c.in-Err.ensures.goes trusted cap book (λ e. c.loop.invariant.honest (trusts e)) (c.loop.invariant.goes trusted cap book trusts works);
    }

pub returns-in-Err-clause-hosts : goal.returns-in-Err-clause-hosts
returns-in-Err-clause-hosts g c = on_till Bool (g.H.Hall.count c.args.hall.now) (g.H.Hall.count c.loop.hall) (g.H.Hall.count c.round.new.hall) (g.H.Hall.got c.args.hall.now) (g.H.Hall.got c.loop.hall) (g.H.Hall.got c.round.new.hall) (g.H.Hall.given c.args.hall.now) (g.H.Hall.given c.loop.hall) (g.H.Hall.given c.round.new.hall) (length c.args.company.now) (length c.loop.company) (length c.round.new.company) c.in-Err.stop c.loop.invariant.hosts c.in-Err.ensures.hosts
