use Rattle.std.proofs.Common.{rules, ◌≡◌, ◌++◌, ◌∷◌, ℕ, ◌+◌, List, length, Ok, Err, Result, sym, ap, subst, ◌∙◌}
use Rattle.links.specs.declared.passing.Got.{Got}
use Rattle.links.specs.declared.passing.Got.TheVariants as got
use Rattle.links.specs.declared.passing.Passed.TheVariants.{Received}
use Rattle.links.specs.Passings.{Receives, closed_after}
use Rattle.outside.specs.declared.fault.Fault.{Fault}
use Rattle.peer_run.specs.declared.halt.Halt.TheVariants as halts
use Rattle.peer_run.specs.Works.{IsToldPool, way_of}
use Rattle.peer_run.proofs.Going.{fails_by, hears_not, is_closed, piece_came}
use Rattle.peer_run.proofs.work.listen.Goals as goal

pub returns-in-Ok : goal.returns-in-Ok
returns-in-Ok g c = record {
  goes = λ first faults before core waiting heard took works.
      let told = IsToldPool g.F.Commands.gives g.F.Commands.may_fail g.B.Terms.fits in
      let old = way_of g.L.Link.history g.L.Link.is_closed g.L.Link.count c.args.link.now in
      let new = way_of g.L.Link.history g.L.Link.is_closed g.L.Link.count c.recv.new.self in
      let bytes = c.as_slice.result.now in
      let same : bytes ≡ c.in-Ok-Piece.piece = search rules in
      piece_came g.F.Commands.gives g.F.Commands.may_fail g.L.Link.tells told g.B.Terms.fits first faults old new before c.feed.new.self core waiting heard bytes
      (λ t. subst (λ (x : Got). Receives (Ok x) old.history new.history) c.in-Ok-Piece.field-0-is (c.in-Ok-Piece.ensures.history t) ∙ ap (λ (b : List ℕ). Received b ∷ old.history) (sym same))
      (subst (λ (x : Got). let r : Result Got Fault = Ok x in new.closed ≡ closed_after r old.closed) c.in-Ok-Piece.field-0-is c.in-Ok-Piece.ensures.closed ∙ works.closed) c.recv.ensures.cause.later
      (c.in-Ok.ensures.0 ∙ ap (λ (r : List ℕ). r ++ bytes) took.1) c.in-Ok.ensures.1 (c.in-Ok.ensures.2 ∙ ap (λ (n : ℕ). n + length bytes) took.3) works;
}

pub returns-in-Ok-Piece : goal.returns-in-Ok-Piece
returns-in-Ok-Piece g c = record {
  goes = λ first faults before core waiting heard took works.
      let told = IsToldPool g.F.Commands.gives g.F.Commands.may_fail g.B.Terms.fits in
      let old = way_of g.L.Link.history g.L.Link.is_closed g.L.Link.count c.args.link.now in
      let new = way_of g.L.Link.history g.L.Link.is_closed g.L.Link.count c.recv.new.self in
      let answer : Result Got Fault = Ok (got.Piece c.in-Ok-Piece.piece) in
      hears_not g.F.Commands.gives g.F.Commands.may_fail g.L.Link.tells told g.B.Terms.fits first faults old new before core waiting heard answer halts.Memory
      (λ t. subst (λ (x : Got). Receives (Ok x) old.history new.history) c.in-Ok-Piece.field-0-is (c.in-Ok-Piece.ensures.history t))
      (subst (λ (x : Got). let r : Result Got Fault = Ok x in new.closed ≡ closed_after r old.closed) c.in-Ok-Piece.field-0-is c.in-Ok-Piece.ensures.closed ∙ works.closed) tt works;
}

pub returns-in-Ok-Closed : goal.returns-in-Ok-Closed
returns-in-Ok-Closed g c = record {
  goes = λ first faults before core waiting heard took works.
      let told = IsToldPool g.F.Commands.gives g.F.Commands.may_fail g.B.Terms.fits in
      let old = way_of g.L.Link.history g.L.Link.is_closed g.L.Link.count c.args.link.now in
      let new = way_of g.L.Link.history g.L.Link.is_closed g.L.Link.count c.recv.new.self in
      is_closed g.F.Commands.gives g.F.Commands.may_fail g.L.Link.tells told g.B.Terms.fits first faults old new before c.args.ear.now core waiting heard took
      (λ t. subst (λ (x : Got). Receives (Ok x) old.history new.history) c.in-Ok-Closed.field-0-is (c.in-Ok-Closed.ensures.history t))
      (subst (λ (x : Got). let r : Result Got Fault = Ok x in new.closed ≡ closed_after r old.closed) c.in-Ok-Closed.field-0-is c.in-Ok-Closed.ensures.closed) works;
}

pub returns : goal.returns
returns g c = record {
  goes = λ first faults before core waiting heard took works.
      let told = IsToldPool g.F.Commands.gives g.F.Commands.may_fail g.B.Terms.fits in
      let old = way_of g.L.Link.history g.L.Link.is_closed g.L.Link.count c.args.link.now in
      let new = way_of g.L.Link.history g.L.Link.is_closed g.L.Link.count c.recv.new.self in
      let answer : Result Got Fault = Err c.in-Err.fault in
      hears_not g.F.Commands.gives g.F.Commands.may_fail g.L.Link.tells told g.B.Terms.fits first faults old new before core waiting heard answer c.halt_by.result
      (λ t. c.in-Err.ensures.history t) (c.in-Err.ensures.closed ∙ works.closed)
      (fails_by faults old.faults new c.in-Err.fault c.halt_by.result c.in-Err.ensures.cause works.later c.halt_by.ensures.link c.halt_by.ensures.memory) works;
}
