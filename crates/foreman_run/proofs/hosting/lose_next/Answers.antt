use Rattle.std.proofs.Common.{rules, ◌≡◌, ◌++◌, ◌∷◌, [], Some, false, length, refl, sym, subst, arith}
use Rattle.foreman_run.specs.Lost.{seen_of}
use Rattle.flow_types.specs.declared.numbers.LinkNo.{LinkNo}
use Rattle.peer_run.specs.Works.{way_of}
use Rattle.foreman_run.specs.Ends.{StopsAt}
use Rattle.foreman_run.specs.Tied.{MayHandBack, with_due, with_got, with_hall}
use Rattle.foreman_run.specs.Works.{Works}
use Rattle.foreman_run.proofs.Going.{handed, handed_not, starves}
use Rattle.foreman_run.proofs.Hosted.{hosts_beside}
use Rattle.foreman_run.proofs.Tying.{length_parts}
use Rattle.foreman_run.proofs.hosting.lose_next.Goals as goal

pub lose-requires-clause-works : goal.lose-requires-clause-works
lose-requires-clause-works g c κs within =
    let w = c.requires.works.2 in
    let got = g.H.Hall.got c.args.hall.now ++ ((Some c.in-Some.lower.link, c.in-Some.lower.way) ∷ []) in (
      c.requires.works.0,
      record {
        trusted = w.trusted;
        untrusted = w.untrusted;
        cap = w.cap;
        book = with_due (with_got (with_hall w.book (g.H.Hall.got c.args.hall.now) c.requires.works.1) got) (Some c.in-Some.lower.link);
        works = handed g.F.Commands.gives g.F.Commands.may_fail g.U.Link.tells w.trusted g.H.Way.Link.tells (seen_of g.H.Way.Link.history g.H.Way.Link.is_closed g.H.Way.Link.count g.H.Way.Link.idle_count) g.H.Way.Link.honest w.cap (with_hall w.book (g.H.Hall.got c.args.hall.now) c.requires.works.1) (way_of g.U.Link.history g.U.Link.is_closed g.U.Link.count c.args.parent.now) c.requires.works.0 c.args.core.now c.args.company.now c.take_gone.new.self c.in-Some.lower
            got c.in-Some.ensures.some (search rules) refl w.works;
      },
    )

pub returns-in-Ok-clause-goes : goal.returns-in-Ok-clause-goes
returns-in-Ok-clause-goes g c = λ trusted cap book ear works.
    let is : g.H.Hall.got c.hand_back.new.hall ≡ g.H.Hall.got c.args.hall.now ++ ((Some c.in-Some.lower.link, c.in-Some.lower.way) ∷ []) = search rules in
    let same : c.link-link.result ≡ c.in-Some.lower.link = search rules in
    let fed : c.in-Some.lower.starved ≡ false = search rules in
    c.lose.ensures.goes trusted cap (with_got book (g.H.Hall.got c.hand_back.new.hall)) ear
    (subst (λ (k : LinkNo). Works g.F.Commands.gives g.F.Commands.may_fail g.U.Link.tells trusted g.H.Way.Link.tells (seen_of g.H.Way.Link.history g.H.Way.Link.is_closed g.H.Way.Link.count g.H.Way.Link.idle_count) g.H.Way.Link.honest cap (with_due (with_got book (g.H.Hall.got c.hand_back.new.hall)) (Some k)) (way_of g.U.Link.history g.U.Link.is_closed g.U.Link.count c.args.parent.now) ear c.args.core.now c.take_gone.new.self [] [] false) (sym same)
    (handed g.F.Commands.gives g.F.Commands.may_fail g.U.Link.tells trusted g.H.Way.Link.tells (seen_of g.H.Way.Link.history g.H.Way.Link.is_closed g.H.Way.Link.count g.H.Way.Link.idle_count) g.H.Way.Link.honest cap (with_got book (g.H.Hall.got c.args.hall.now)) (way_of g.U.Link.history g.U.Link.is_closed g.U.Link.count c.args.parent.now) ear c.args.core.now c.args.company.now c.take_gone.new.self c.in-Some.lower
    (g.H.Hall.got c.hand_back.new.hall) c.in-Some.ensures.some fed is works))

pub returns-in-Err-clause-goes : goal.returns-in-Err-clause-goes
returns-in-Err-clause-goes g c = λ trusted cap book ear works.
    let is : g.H.Hall.got c.hand_back.new.hall ≡ g.H.Hall.got c.args.hall.now = search rules in
    subst (StopsAt g.F.Commands.gives g.F.Commands.may_fail g.U.Link.tells trusted g.H.Way.Link.tells (seen_of g.H.Way.Link.history g.H.Way.Link.is_closed g.H.Way.Link.count g.H.Way.Link.idle_count) cap (with_got book (g.H.Hall.got c.hand_back.new.hall)) (way_of g.U.Link.history g.U.Link.is_closed g.U.Link.count c.args.parent.now) c.take_gone.new.self) (sym c.in-Err.ensures.memory)
    (handed_not g.F.Commands.gives g.F.Commands.may_fail g.U.Link.tells trusted g.H.Way.Link.tells (seen_of g.H.Way.Link.history g.H.Way.Link.is_closed g.H.Way.Link.count g.H.Way.Link.idle_count) g.H.Way.Link.honest cap (with_got book (g.H.Hall.got c.args.hall.now)) (way_of g.U.Link.history g.U.Link.is_closed g.U.Link.count c.args.parent.now) ear c.args.core.now c.args.company.now c.take_gone.new.self c.in-Some.lower
    (g.H.Hall.got c.hand_back.new.hall) c.in-Some.ensures.some is works)

pub returns-then-is_starved-clause-goes : goal.returns-then-is_starved-clause-goes
returns-then-is_starved-clause-goes g c = λ trusted cap book ear works.
    let back : MayHandBack c.in-Some.lower.link c.in-Some.lower.way (g.H.Hall.got c.args.hall.now) (g.H.Hall.got c.refuse.new.hall) = search rules in
    subst (StopsAt g.F.Commands.gives g.F.Commands.may_fail g.U.Link.tells trusted g.H.Way.Link.tells (seen_of g.H.Way.Link.history g.H.Way.Link.is_closed g.H.Way.Link.count g.H.Way.Link.idle_count) cap (with_got book (g.H.Hall.got c.refuse.new.hall)) (way_of g.U.Link.history g.U.Link.is_closed g.U.Link.count c.args.parent.now) c.take_gone.new.self) (sym c.refuse.ensures.memory)
    (starves g.F.Commands.gives g.F.Commands.may_fail g.U.Link.tells trusted g.H.Way.Link.tells (seen_of g.H.Way.Link.history g.H.Way.Link.is_closed g.H.Way.Link.count g.H.Way.Link.idle_count) g.H.Way.Link.honest cap (with_got book (g.H.Hall.got c.args.hall.now)) (way_of g.U.Link.history g.U.Link.is_closed g.U.Link.count c.args.parent.now) ear c.args.core.now c.args.company.now c.take_gone.new.self c.in-Some.lower
    (g.H.Hall.got c.refuse.new.hall) c.in-Some.ensures.some.0 back works)

pub returns-in-Err-clause-hosts : goal.returns-in-Err-clause-hosts
returns-in-Err-clause-hosts g c =
    let h = c.in-Err.ensures.hosts in
    let many = length_parts c.in-Some.lower c.args.company.now c.take_gone.new.self c.in-Some.ensures.some.0 in (
      h.0,
      hosts_beside (length c.take_gone.new.self) (g.H.Hall.count c.args.hall.now) (g.H.Hall.count c.hand_back.new.hall) (g.H.Hall.got c.args.hall.now) (g.H.Hall.got c.hand_back.new.hall) (g.H.Hall.given c.args.hall.now) (g.H.Hall.given c.hand_back.new.hall) 1 0 h.0 (length c.args.company.now) (length c.take_gone.new.self)
          (omega (arith, many)) (omega arith) h.1,
      h.2,
    )
