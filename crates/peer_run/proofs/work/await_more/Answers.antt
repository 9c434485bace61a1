use Rattle.std.proofs.Common.{◌≡◌, false, ap, refl, sym, subst, arith}
use Rattle.peer_run.specs.Works.{IsToldPool, Way, Works, way_of}
use Rattle.peer_run.proofs.Going.{nothing_came}
use Rattle.peer_run.proofs.work.await_more.Goals as goal

pub returns-then-ready : goal.returns-then-ready
returns-then-ready g c = record {
  goes = λ first faults before core waiting heard took works.
      let told = IsToldPool g.F.Commands.gives g.F.Commands.may_fail g.B.Terms.fits in
      let same : c.look-ready.new.link ≡ c.args.link.now = c.look-ready.ensures in
      c.listen.ensures.goes first faults before core waiting heard took
      (subst (λ (way : Way). Works g.F.Commands.gives g.F.Commands.may_fail g.L.Link.tells told g.B.Terms.fits first faults way before core waiting heard false)
      (sym (ap (way_of g.L.Link.history g.L.Link.is_closed g.L.Link.count) same)) works);
}

pub returns-then-not-sent : goal.returns-then-not-sent
returns-then-not-sent g c = record {
  goes = λ first faults before core waiting heard took works.
      let told = IsToldPool g.F.Commands.gives g.F.Commands.may_fail g.B.Terms.fits in
      let old = way_of g.L.Link.history g.L.Link.is_closed g.L.Link.count c.args.link.now in
      let new = way_of g.L.Link.history g.L.Link.is_closed g.L.Link.count c.look-ready.new.link in
      let same : new ≡ old = ap (way_of g.L.Link.history g.L.Link.is_closed g.L.Link.count) c.look-ready.ensures in
      subst (λ (w : Way). Works g.F.Commands.gives g.F.Commands.may_fail g.L.Link.tells told g.B.Terms.fits first faults w c.args.ear.now core waiting heard false) (sym same)
      (nothing_came g.F.Commands.gives g.F.Commands.may_fail g.L.Link.tells told g.B.Terms.fits first faults old old before c.args.ear.now core waiting heard (λ t. refl) works.closed (omega arith) took.1 took.2 took.3 works);
}

pub returns-else-not-sent : goal.returns-else-not-sent
returns-else-not-sent g c = record {
  goes = λ first faults before core waiting heard took works.
      let told = IsToldPool g.F.Commands.gives g.F.Commands.may_fail g.B.Terms.fits in
      let old = way_of g.L.Link.history g.L.Link.is_closed g.L.Link.count c.args.link.now in
      let new = way_of g.L.Link.history g.L.Link.is_closed g.L.Link.count c.look-ready.new.link in
      let same : new ≡ old = ap (way_of g.L.Link.history g.L.Link.is_closed g.L.Link.count) c.look-ready.ensures in
      subst (λ (w : Way). Works g.F.Commands.gives g.F.Commands.may_fail g.L.Link.tells told g.B.Terms.fits first faults w c.args.ear.now core waiting heard false) (sym same)
      (nothing_came g.F.Commands.gives g.F.Commands.may_fail g.L.Link.tells told g.B.Terms.fits first faults old old before c.args.ear.now core waiting heard (λ t. refl) works.closed (omega arith) took.1 took.2 took.3 works);
}
