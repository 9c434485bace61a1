use Rattle.std.proofs.Common.{[], false, refl, sym, subst, arith}
use Rattle.foreman_run.specs.Lost.{seen_of}
use Rattle.peer_run.specs.Works.{way_of}
use Rattle.foreman_run.specs.Ends.{StopsOver}
use Rattle.foreman_run.specs.Hosts.{IsLetGo}
use Rattle.foreman_run.specs.Tied.{new_book, with_hall}
use Rattle.foreman_run.specs.Works.{Works}
use Rattle.foreman_run.proofs.Beginning.{goes_on, stops_so}
use Rattle.foreman_run.proofs.Going.{fails_by, hall_early, wants_early}
use Rattle.foreman_run.proofs.Hosted.{left_none, lets_later, lets_none_go}
use Rattle.foreman_run.proofs.Tying.{tied_book}
use Rattle.foreman_run.proofs.top.work.Goals as goal

pub returns-in-Err-Failed-clause-stops : goal.returns-in-Err-Failed-clause-stops
returns-in-Err-Failed-clause-stops g c = λ trusted trusts. hall_early g.F.Commands.gives g.F.Commands.may_fail g.U.Link.tells trusted g.H.Way.Link.tells (seen_of g.H.Way.Link.history g.H.Way.Link.is_closed g.H.Way.Link.count g.H.Way.Link.idle_count) c.args.cap (way_of g.U.Link.history g.U.Link.is_closed g.U.Link.count c.args.parent.now) (g.H.Hall.got c.args.hall.now) (g.H.Hall.got c.listen.new.self) (g.H.Hall.given c.args.hall.now) (g.H.Hall.given c.listen.new.self) c.requires.fresh.nothing_passed c.requires.fresh.not_closed c.in-Err-Failed.ensures.got c.in-Err-Failed.ensures.given

pub returns-in-Err-Memory-clause-stops : goal.returns-in-Err-Memory-clause-stops
returns-in-Err-Memory-clause-stops g c = λ trusted trusts. wants_early g.F.Commands.gives g.F.Commands.may_fail g.U.Link.tells trusted g.H.Way.Link.tells (seen_of g.H.Way.Link.history g.H.Way.Link.is_closed g.H.Way.Link.count g.H.Way.Link.idle_count) c.args.cap (way_of g.U.Link.history g.U.Link.is_closed g.U.Link.count c.args.parent.now) (g.H.Hall.got c.args.hall.now) (g.H.Hall.got c.listen.new.self) (g.H.Hall.given c.args.hall.now) (g.H.Hall.given c.listen.new.self) c.requires.fresh.nothing_passed c.requires.fresh.not_closed c.in-Err-Memory.ensures.got c.in-Err-Memory.ensures.given

pub returns-in_default-clause-stops : goal.returns-in_default-clause-stops
returns-in_default-clause-stops g c = λ trusted trusts. wants_early g.F.Commands.gives g.F.Commands.may_fail g.U.Link.tells trusted g.H.Way.Link.tells (seen_of g.H.Way.Link.history g.H.Way.Link.is_closed g.H.Way.Link.count g.H.Way.Link.idle_count) c.args.cap (way_of g.U.Link.history g.U.Link.is_closed g.U.Link.count c.args.parent.now) (g.H.Hall.got c.args.hall.now) (g.H.Hall.got c.listen.new.self) (g.H.Hall.given c.args.hall.now) (g.H.Hall.given c.listen.new.self) c.requires.fresh.nothing_passed c.requires.fresh.not_closed c.in-Ok.ensures.got c.in-Ok.ensures.given

pub serve_all-requires-clause-works : goal.serve_all-requires-clause-works
serve_all-requires-clause-works g c κs within = record {
  trusted = false;
  untrusted = refl;
  cap = c.args.cap;
  book = new_book (g.H.Hall.got c.args.hall.now);
  works = subst (λ got. Works g.F.Commands.gives g.F.Commands.may_fail g.U.Link.tells false g.H.Way.Link.tells (seen_of g.H.Way.Link.history g.H.Way.Link.is_closed g.H.Way.Link.count g.H.Way.Link.idle_count) g.H.Way.Link.honest c.args.cap (with_hall (new_book (g.H.Hall.got c.args.hall.now)) got 0) (way_of g.U.Link.history g.U.Link.is_closed g.U.Link.count c.say.new.link) c.in-Ok-new.ear c.new-core.result [] [] [] false) (sym c.in-Ok.ensures.got)
      (goes_on g.F.Commands.gives g.F.Commands.may_fail g.U.Link.tells false g.H.Way.Link.tells (seen_of g.H.Way.Link.history g.H.Way.Link.is_closed g.H.Way.Link.count g.H.Way.Link.idle_count) g.H.Way.Link.honest c.args.cap (g.H.Hall.got c.args.hall.now) c.hello.result (way_of g.U.Link.history g.U.Link.is_closed g.U.Link.count c.args.parent.now) (way_of g.U.Link.history g.U.Link.is_closed g.U.Link.count c.say.new.link) c.in-Ok-new.ear c.new-core.result c.new-core.ensures c.in-Ok-new.ensures c.requires.fresh.nothing_passed c.requires.fresh.not_closed c.hello.ensures
      ((λ t. c.in-Ok-say.ensures.sent t), (λ said t right may. c.in-Ok-say.ensures.said said t right may), c.in-Ok-say.ensures.closed, c.in-Ok-say.ensures.cause.later));
}

pub returns-in-Ok-say-clause-stops : goal.returns-in-Ok-say-clause-stops
returns-in-Ok-say-clause-stops g c = λ trusted trusts.
    subst (λ (n : _). StopsOver g.F.Commands.gives g.F.Commands.may_fail g.U.Link.tells trusted g.H.Way.Link.tells (seen_of g.H.Way.Link.history g.H.Way.Link.is_closed g.H.Way.Link.count g.H.Way.Link.idle_count) c.args.cap (new_book (g.H.Hall.got c.args.hall.now)) (g.H.Hall.got c.serve_all.new.hall) n (g.H.Hall.given c.serve_all.new.hall) (way_of g.U.Link.history g.U.Link.is_closed g.U.Link.count c.serve_all.new.parent) [] c.serve_all.result) c.in-Ok.ensures.given
    (c.serve_all.ensures.stops trusted c.args.cap (new_book (g.H.Hall.got c.args.hall.now)) (λ e. c.in-Ok.ensures.honest (trusts e))
    (subst (λ got. Works g.F.Commands.gives g.F.Commands.may_fail g.U.Link.tells trusted g.H.Way.Link.tells (seen_of g.H.Way.Link.history g.H.Way.Link.is_closed g.H.Way.Link.count g.H.Way.Link.idle_count) g.H.Way.Link.honest c.args.cap (with_hall (new_book (g.H.Hall.got c.args.hall.now)) got 0) (way_of g.U.Link.history g.U.Link.is_closed g.U.Link.count c.say.new.link) c.in-Ok-new.ear c.new-core.result [] [] [] false) (sym c.in-Ok.ensures.got)
    (goes_on g.F.Commands.gives g.F.Commands.may_fail g.U.Link.tells trusted g.H.Way.Link.tells (seen_of g.H.Way.Link.history g.H.Way.Link.is_closed g.H.Way.Link.count g.H.Way.Link.idle_count) g.H.Way.Link.honest c.args.cap (g.H.Hall.got c.args.hall.now) c.hello.result (way_of g.U.Link.history g.U.Link.is_closed g.U.Link.count c.args.parent.now) (way_of g.U.Link.history g.U.Link.is_closed g.U.Link.count c.say.new.link) c.in-Ok-new.ear c.new-core.result c.new-core.ensures c.in-Ok-new.ensures c.requires.fresh.nothing_passed c.requires.fresh.not_closed c.hello.ensures
    ((λ t. c.in-Ok-say.ensures.sent t), (λ said t right may. c.in-Ok-say.ensures.said said t right may), c.in-Ok-say.ensures.closed, c.in-Ok-say.ensures.cause.later))))

pub returns-in-Ok-say-clause-hosts : goal.returns-in-Ok-say-clause-hosts
returns-in-Ok-say-clause-hosts g c =
    lets_later (g.H.Hall.count c.args.hall.now) (g.H.Hall.count c.listen.new.self) (g.H.Hall.count c.serve_all.new.hall) (g.H.Hall.got c.args.hall.now) (g.H.Hall.got c.listen.new.self) (g.H.Hall.got c.serve_all.new.hall)
    (g.H.Hall.given c.args.hall.now) (g.H.Hall.given c.listen.new.self) (g.H.Hall.given c.serve_all.new.hall) c.serve_all.result c.in-Ok.ensures.cause.later c.in-Ok.ensures.got c.in-Ok.ensures.given c.serve_all.ensures.hosts

pub returns-clause-stops : goal.returns-clause-stops
returns-clause-stops g c = λ trusted trusts.
    let s = stops_so g.F.Commands.gives g.F.Commands.may_fail g.U.Link.tells trusted g.H.Way.Link.tells (seen_of g.H.Way.Link.history g.H.Way.Link.is_closed g.H.Way.Link.count g.H.Way.Link.idle_count) g.H.Way.Link.honest c.args.cap (g.H.Hall.got c.args.hall.now) c.hello.result (way_of g.U.Link.history g.U.Link.is_closed g.U.Link.count c.args.parent.now) (way_of g.U.Link.history g.U.Link.is_closed g.U.Link.count c.say.new.link) c.in-Ok-new.ear c.new-core.result c.in-Err.fault c.of.result c.new-core.ensures c.in-Ok-new.ensures c.requires.fresh.nothing_passed c.requires.fresh.not_closed c.hello.ensures
    ((λ t. c.in-Err.ensures.sent t), (λ said t right may. c.in-Err.ensures.said said t right may), c.in-Err.ensures.closed, c.in-Err.ensures.cause.later)
    (fails_by 0 (g.U.Link.count c.args.parent.now) (way_of g.U.Link.history g.U.Link.is_closed g.U.Link.count c.say.new.link) c.in-Err.fault c.of.result c.in-Err.ensures.cause (omega arith) c.of.ensures.link c.of.ensures.memory) in
    record {
      upto = 0;
      counted = omega (arith, c.in-Ok.ensures.given);
      stops_at = record {
        stops = s.stops;
        tied = tied_book g.H.Way.Link.tells (seen_of g.H.Way.Link.history g.H.Way.Link.is_closed g.H.Way.Link.count g.H.Way.Link.idle_count) c.args.cap s.stops.past [] (new_book (g.H.Hall.got c.args.hall.now)) (g.H.Hall.got c.listen.new.self) c.in-Ok.ensures.got s.tied;
      };
    }

pub returns-clause-hosts : goal.returns-clause-hosts
returns-clause-hosts g c =
    let is : IsLetGo 0 (g.H.Hall.count c.args.hall.now) (g.H.Hall.count c.listen.new.self) c.of.result = subst (IsLetGo 0 (g.H.Hall.count c.args.hall.now) (g.H.Hall.count c.listen.new.self)) (sym c.of.ensures.left.1) (left_none (g.H.Hall.count c.args.hall.now) (g.H.Hall.count c.listen.new.self) c.of.ensures.left.0) in
    lets_none_go (g.H.Hall.count c.args.hall.now) (g.H.Hall.count c.listen.new.self) (g.H.Hall.got c.args.hall.now) (g.H.Hall.got c.listen.new.self) (g.H.Hall.given c.args.hall.now) (g.H.Hall.given c.listen.new.self) c.of.result c.in-Ok.ensures.cause.later c.in-Ok.ensures.got c.in-Ok.ensures.given is
