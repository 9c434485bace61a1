use Rattle.std.proofs.Common.{rules, ◌∙◌, arith, inl, refl, sym, subst}
use Rattle.wq_seats.specs.Shown.{ShowsOn}
use Rattle.wq_seats.proofs.Going.{goes_same, goes_then}
use Rattle.wq_seats.proofs.Keeping.{keeps_same, keeps_then}
use Rattle.wq_seats.proofs.Showing.{right_then, shows_then}
use Rattle.wq_seats.proofs.Hearing.{silent_from}
use Rattle.wq_seats.proofs.seat.Seat.hear_all.Goals as goal

pub loop-at-init : goal.loop-at-init
loop-at-init g c = record {
  way = refl;
  gone = refl;
  goes = goes_same c.args.book.now;
  works = λ files next tells w. w;
  shows = λ files next tells w a o task end. inl end;
  right = λ files next tells honest w a o task end. inl end;
  keeps = keeps_same c.args.book.now.held c.args.self.now;
  first = λ zero. (refl, refl);
}

pub loop-at-preserved : goal.loop-at-preserved
loop-at-preserved g c = record {
  way = c.hear.ensures.way ∙ c.loop-at.invariant.way;
  gone = c.hear.ensures.gone ∙ c.loop-at.invariant.gone;
  goes = goes_then c.args.book.now c.loop-at.book c.hear.new.book c.loop-at.invariant.goes c.hear.ensures.goes;
  works = λ files next tells w. c.in-Ok-More.ensures.works files next tells (c.loop-at.invariant.works files next tells w);
  shows = λ files next tells w. shows_then g.L.Link.history c.args.book.now.held c.loop-at.book.held c.hear.new.book.held c.args.self.now.peer.way (c.loop-at.invariant.shows files next tells w)
      (subst (ShowsOn g.L.Link.history c.loop-at.book.held c.hear.new.book.held) (c.hear.ensures.way ∙ c.loop-at.invariant.way) (c.hear.ensures.shows files next tells (c.loop-at.invariant.works files next tells w)));
  right = λ files next tells honest w. right_then g.F.Commands.gives g.F.Commands.may_fail files c.args.book.now.held c.loop-at.book.held c.hear.new.book.held (c.loop-at.invariant.right files next tells honest w)
      (c.hear.ensures.right files next tells (subst g.L.Link.honest (sym c.loop-at.invariant.way) honest) (c.loop-at.invariant.works files next tells w));
  keeps = keeps_then c.args.book.now.held c.loop-at.book.held c.hear.new.book.held c.args.self.now c.loop-at.self c.hear.new.self c.loop-at.invariant.keeps c.hear.ensures.keeps;
  first = λ zero. absurd (let wrong : ⊥ = omega (arith, zero) in wrong);
}

pub returns-in-Ok-Nothing : goal.returns-in-Ok-Nothing
returns-in-Ok-Nothing g c = record {
  way = c.hear.ensures.way ∙ c.loop-at.invariant.way;
  gone = c.hear.ensures.gone ∙ c.loop-at.invariant.gone;
  goes = goes_then c.args.book.now c.loop-at.book c.hear.new.book c.loop-at.invariant.goes c.hear.ensures.goes;
  works = λ files next tells w. c.in-Ok-Nothing.ensures.works files next tells (c.loop-at.invariant.works files next tells w);
  shows = λ files next tells w. shows_then g.L.Link.history c.args.book.now.held c.loop-at.book.held c.hear.new.book.held c.args.self.now.peer.way (c.loop-at.invariant.shows files next tells w)
      (subst (ShowsOn g.L.Link.history c.loop-at.book.held c.hear.new.book.held) (c.hear.ensures.way ∙ c.loop-at.invariant.way) (c.hear.ensures.shows files next tells (c.loop-at.invariant.works files next tells w)));
  right = λ files next tells honest w. right_then g.F.Commands.gives g.F.Commands.may_fail files c.args.book.now.held c.loop-at.book.held c.hear.new.book.held (c.loop-at.invariant.right files next tells honest w)
      (c.hear.ensures.right files next tells (subst g.L.Link.honest (sym c.loop-at.invariant.way) honest) (c.loop-at.invariant.works files next tells w));
  keeps = keeps_then c.args.book.now.held c.loop-at.book.held c.hear.new.book.held c.args.self.now c.loop-at.self c.hear.new.self c.loop-at.invariant.keeps c.hear.ensures.keeps;
  calm = λ files next tells w sure. tt;
  silent = λ files next tells w is.
      let first = c.loop-at.invariant.first (c.left_after.ensures is) in
      silent_from c.args.book.now c.loop-at.book c.hear.new.book c.args.self.now c.loop-at.self c.hear.new.self first.0 first.1 (c.in-Ok-Nothing.ensures.silent files next tells (c.loop-at.invariant.works files next tells w) (search rules));
}

pub returns-in-Ok-Lacks : goal.returns-in-Ok-Lacks
returns-in-Ok-Lacks g c = record {
  way = c.hear.ensures.way ∙ c.loop-at.invariant.way;
  gone = c.hear.ensures.gone ∙ c.loop-at.invariant.gone;
  goes = goes_then c.args.book.now c.loop-at.book c.hear.new.book c.loop-at.invariant.goes c.hear.ensures.goes;
  works = λ files next tells w. c.in-Ok-Lacks.ensures.works files next tells (c.loop-at.invariant.works files next tells w);
  shows = λ files next tells w. shows_then g.L.Link.history c.args.book.now.held c.loop-at.book.held c.hear.new.book.held c.args.self.now.peer.way (c.loop-at.invariant.shows files next tells w)
      (subst (ShowsOn g.L.Link.history c.loop-at.book.held c.hear.new.book.held) (c.hear.ensures.way ∙ c.loop-at.invariant.way) (c.hear.ensures.shows files next tells (c.loop-at.invariant.works files next tells w)));
  right = λ files next tells honest w. right_then g.F.Commands.gives g.F.Commands.may_fail files c.args.book.now.held c.loop-at.book.held c.hear.new.book.held (c.loop-at.invariant.right files next tells honest w)
      (c.hear.ensures.right files next tells (subst g.L.Link.honest (sym c.loop-at.invariant.way) honest) (c.loop-at.invariant.works files next tells w));
  keeps = keeps_then c.args.book.now.held c.loop-at.book.held c.hear.new.book.held c.args.self.now c.loop-at.self c.hear.new.self c.loop-at.invariant.keeps c.hear.ensures.keeps;
  calm = λ files next tells w sure. tt;
  silent = λ files next tells w is. absurd (let wrong : ⊥ = cc in wrong);
}

pub returns-in-Err : goal.returns-in-Err
returns-in-Err g c = record {
  way = c.hear.ensures.way ∙ c.loop-at.invariant.way;
  gone = c.hear.ensures.gone ∙ c.loop-at.invariant.gone;
  goes = goes_then c.args.book.now c.loop-at.book c.hear.new.book c.loop-at.invariant.goes c.hear.ensures.goes;
  works = λ files next tells w. tt;
  shows = λ files next tells w. shows_then g.L.Link.history c.args.book.now.held c.loop-at.book.held c.hear.new.book.held c.args.self.now.peer.way (c.loop-at.invariant.shows files next tells w)
      (subst (ShowsOn g.L.Link.history c.loop-at.book.held c.hear.new.book.held) (c.hear.ensures.way ∙ c.loop-at.invariant.way) (c.hear.ensures.shows files next tells (c.loop-at.invariant.works files next tells w)));
  right = λ files next tells honest w. right_then g.F.Commands.gives g.F.Commands.may_fail files c.args.book.now.held c.loop-at.book.held c.hear.new.book.held (c.loop-at.invariant.right files next tells honest w)
      (c.hear.ensures.right files next tells (subst g.L.Link.honest (sym c.loop-at.invariant.way) honest) (c.loop-at.invariant.works files next tells w));
  keeps = keeps_then c.args.book.now.held c.loop-at.book.held c.hear.new.book.held c.args.self.now c.loop-at.self c.hear.new.self c.loop-at.invariant.keeps c.hear.ensures.keeps;
  calm = λ files next tells w sure. c.in-Err.ensures.calm files next tells (c.loop-at.invariant.works files next tells w) (subst g.L.Link.sure (sym c.loop-at.invariant.way) sure);
  silent = λ files next tells w. tt;
}
