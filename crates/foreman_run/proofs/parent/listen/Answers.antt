use Rattle.std.proofs.Common.{rules, ◌≡◌, ◌++◌, ◌∷◌, ℕ, ◌+◌, List, [], false, length, Ok, Err, Result, sym, ap, subst, ◌∙◌}
use Rattle.foreman_run.specs.Lost.{seen_of}
use Rattle.links.specs.declared.passing.Got.{Got}
use Rattle.links.specs.declared.passing.Got.TheVariants as got
use Rattle.links.specs.declared.passing.Passed.TheVariants.{Received}
use Rattle.links.specs.Passings.{Receives, closed_after}
use Rattle.outside.specs.declared.fault.Fault.{Fault}
use Rattle.peer_run.specs.declared.halt.Halt.TheVariants as halts
use Rattle.peer_run.specs.Works.{way_of}
use Rattle.foreman_run.specs.declared.stop.Stop.TheVariants as stops
use Rattle.foreman_run.proofs.Going.{fails_by, hears_not, is_closed, piece_came}
use Rattle.foreman_run.specs.Works.{Works}
use Rattle.foreman_run.proofs.parent.listen.Goals as goal

pub returns-in-Ok-clause-goes : goal.returns-in-Ok-clause-goes
returns-in-Ok-clause-goes g c = λ trusted cap book before core lowers took found.
    let old = way_of g.U.Link.history g.U.Link.is_closed g.U.Link.count c.ready.new.self in
    let works = subst (λ l. Works g.F.Commands.gives g.F.Commands.may_fail g.U.Link.tells trusted g.L.Link.tells (seen_of g.L.Link.history g.L.Link.is_closed g.L.Link.count g.L.Link.idle_count) g.L.Link.honest cap book (way_of g.U.Link.history g.U.Link.is_closed g.U.Link.count l) before core lowers [] [] false) (sym c.ready.ensures) found in
    let new = way_of g.U.Link.history g.U.Link.is_closed g.U.Link.count c.recv.new.self in
    let bytes = c.as_slice.result.now in
    let same : bytes ≡ c.in-Ok-Piece.piece = search rules in
    piece_came g.F.Commands.gives g.F.Commands.may_fail g.U.Link.tells trusted g.L.Link.tells (seen_of g.L.Link.history g.L.Link.is_closed g.L.Link.count g.L.Link.idle_count) g.L.Link.honest cap book old new before c.feed.new.self core lowers bytes
    (λ t. subst (λ (x : Got). Receives (Ok x) old.history new.history) c.in-Ok-Piece.field-0-is (c.in-Ok-Piece.ensures.history t) ∙ ap (λ (b : List ℕ). Received b ∷ old.history) (sym same))
    (subst (λ (x : Got). let r : Result Got Fault = Ok x in new.closed ≡ closed_after r old.closed) c.in-Ok-Piece.field-0-is c.in-Ok-Piece.ensures.closed ∙ works.closed) c.recv.ensures.cause.later
    (c.in-Ok.ensures.0 ∙ ap (λ (r : List ℕ). r ++ bytes) took.1) c.in-Ok.ensures.1 (c.in-Ok.ensures.2 ∙ ap (λ (n : ℕ). n + length bytes) took.3) works

pub returns-in-Ok-Piece-clause-goes : goal.returns-in-Ok-Piece-clause-goes
returns-in-Ok-Piece-clause-goes g c = λ trusted cap book before core lowers took found.
    let old = way_of g.U.Link.history g.U.Link.is_closed g.U.Link.count c.ready.new.self in
    let works = subst (λ l. Works g.F.Commands.gives g.F.Commands.may_fail g.U.Link.tells trusted g.L.Link.tells (seen_of g.L.Link.history g.L.Link.is_closed g.L.Link.count g.L.Link.idle_count) g.L.Link.honest cap book (way_of g.U.Link.history g.U.Link.is_closed g.U.Link.count l) before core lowers [] [] false) (sym c.ready.ensures) found in
    let new = way_of g.U.Link.history g.U.Link.is_closed g.U.Link.count c.recv.new.self in
    let answer : Result Got Fault = Ok (got.Piece c.in-Ok-Piece.piece) in
    hears_not g.F.Commands.gives g.F.Commands.may_fail g.U.Link.tells trusted g.L.Link.tells (seen_of g.L.Link.history g.L.Link.is_closed g.L.Link.count g.L.Link.idle_count) g.L.Link.honest cap book old new before core lowers answer (stops.Left halts.Memory)
    (λ t. subst (λ (x : Got). Receives (Ok x) old.history new.history) c.in-Ok-Piece.field-0-is (c.in-Ok-Piece.ensures.history t))
    (subst (λ (x : Got). let r : Result Got Fault = Ok x in new.closed ≡ closed_after r old.closed) c.in-Ok-Piece.field-0-is c.in-Ok-Piece.ensures.closed ∙ works.closed) tt works

pub returns-in-Ok-Closed-clause-goes : goal.returns-in-Ok-Closed-clause-goes
returns-in-Ok-Closed-clause-goes g c = λ trusted cap book before core lowers took found.
    let old = way_of g.U.Link.history g.U.Link.is_closed g.U.Link.count c.ready.new.self in
    let works = subst (λ l. Works g.F.Commands.gives g.F.Commands.may_fail g.U.Link.tells trusted g.L.Link.tells (seen_of g.L.Link.history g.L.Link.is_closed g.L.Link.count g.L.Link.idle_count) g.L.Link.honest cap book (way_of g.U.Link.history g.U.Link.is_closed g.U.Link.count l) before core lowers [] [] false) (sym c.ready.ensures) found in
    let new = way_of g.U.Link.history g.U.Link.is_closed g.U.Link.count c.recv.new.self in
    is_closed g.F.Commands.gives g.F.Commands.may_fail g.U.Link.tells trusted g.L.Link.tells (seen_of g.L.Link.history g.L.Link.is_closed g.L.Link.count g.L.Link.idle_count) g.L.Link.honest cap book old new before c.args.ear.now core lowers took
    (λ t. subst (λ (x : Got). Receives (Ok x) old.history new.history) c.in-Ok-Closed.field-0-is (c.in-Ok-Closed.ensures.history t))
    (subst (λ (x : Got). let r : Result Got Fault = Ok x in new.closed ≡ closed_after r old.closed) c.in-Ok-Closed.field-0-is c.in-Ok-Closed.ensures.closed) works

pub returns-clause-goes : goal.returns-clause-goes
returns-clause-goes g c = λ trusted cap book before core lowers took found.
    let old = way_of g.U.Link.history g.U.Link.is_closed g.U.Link.count c.ready.new.self in
    let works = subst (λ l. Works g.F.Commands.gives g.F.Commands.may_fail g.U.Link.tells trusted g.L.Link.tells (seen_of g.L.Link.history g.L.Link.is_closed g.L.Link.count g.L.Link.idle_count) g.L.Link.honest cap book (way_of g.U.Link.history g.U.Link.is_closed g.U.Link.count l) before core lowers [] [] false) (sym c.ready.ensures) found in
    let new = way_of g.U.Link.history g.U.Link.is_closed g.U.Link.count c.recv.new.self in
    let answer : Result Got Fault = Err c.in-Err.fault in
    hears_not g.F.Commands.gives g.F.Commands.may_fail g.U.Link.tells trusted g.L.Link.tells (seen_of g.L.Link.history g.L.Link.is_closed g.L.Link.count g.L.Link.idle_count) g.L.Link.honest cap book old new before core lowers answer c.of.result
    (λ t. c.in-Err.ensures.history t) (c.in-Err.ensures.closed ∙ works.closed)
    (fails_by book.faults old.faults new c.in-Err.fault c.of.result c.in-Err.ensures.cause works.later c.of.ensures.link c.of.ensures.memory) works
