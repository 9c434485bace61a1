use Rattle.std.proofs.Common.{rules, ◌≡◌, ◌++◌, ◌∷◌, [], refl, subst}
use Rattle.foreman_run.specs.Lost.{seen_of}
use Rattle.foreman_run.specs.Lowers.{new_lower}
use Rattle.foreman_run.specs.Tied.{MayHandBack}
use Rattle.foreman_run.proofs.Companies.{joined}
use Rattle.foreman_run.proofs.Tying.{misses_by}
use Rattle.foreman_run.proofs.hosting.let_in.Goals as goal

pub returns-in-Ok-add-clause-gains : goal.returns-in-Ok-add-clause-gains
returns-in-Ok-add-clause-gains g c =
    let old = c.args.company.now in
    let is : c.in-Ok.lower ≡ new_lower c.args.link c.args.way = search rules in
    let more : c.add.new.self ≡ old ++ c.in-Ok.lower ∷ [] = search rules in
    (c.requires.next, refl, joined g.H.Way.Link.tells (seen_of g.H.Way.Link.history g.H.Way.Link.is_closed g.H.Way.Link.count g.H.Way.Link.idle_count) g.H.Way.Link.honest (g.H.Way.Link.honest c.args.way) c.args.numbered.now old c.add.new.self c.args.link c.args.way c.in-Ok.lower c.requires.next c.requires.fresh.nothing_passed (λ is. is) is more)

pub returns-in-Err-clause-gains : goal.returns-in-Err-clause-gains
returns-in-Err-clause-gains g c =
    let same : c.in-Err.way ≡ c.args.way = search rules in (
      misses_by (seen_of g.H.Way.Link.history g.H.Way.Link.is_closed g.H.Way.Link.count g.H.Way.Link.idle_count) c.args.numbered.now c.args.link.0 c.args.link c.args.way (g.H.Hall.got c.args.hall.now) (g.H.Hall.got c.refuse.new.hall) c.requires.next c.requires.next c.requires.fresh.nothing_passed
          (subst (λ w. MayHandBack c.args.link w (g.H.Hall.got c.args.hall.now) (g.H.Hall.got c.refuse.new.hall)) same c.refuse.ensures.back),
      refl,
    )

pub returns-in-Err-add-clause-gains : goal.returns-in-Err-add-clause-gains
returns-in-Err-add-clause-gains g c =
    let same : c.into_way.result ≡ c.args.way = search rules in
    let kept : c.add.new.self ≡ c.args.company.now = search rules in (
      misses_by (seen_of g.H.Way.Link.history g.H.Way.Link.is_closed g.H.Way.Link.count g.H.Way.Link.idle_count) c.args.numbered.now c.args.link.0 c.args.link c.args.way (g.H.Hall.got c.args.hall.now) (g.H.Hall.got c.refuse-in-Err-add.new.hall) c.requires.next c.requires.next c.requires.fresh.nothing_passed
          (subst (λ w. MayHandBack c.args.link w (g.H.Hall.got c.args.hall.now) (g.H.Hall.got c.refuse-in-Err-add.new.hall)) same c.refuse-in-Err-add.ensures.back),
      kept,
    )
