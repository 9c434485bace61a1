use Rattle.std.proofs.Common.{◌≡◌, ◌<◌, ◌≤◌, length, Some, subst, sym}
use Rattle.run_history.specs.Links.{records_of}
use Rattle.run_history.specs.Storage.{complete_count}
use Rattle.desk.specs.State.{DeskState}
use Rattle.turns.specs.Turns.{In, Knows, Stand}
use Rattle.board.specs.Goes.{GoesOn}
use Rattle.board.proofs.board.Board.close.Goals as goal

pub returns-clause-knows : goal.returns-clause-knows
returns-clause-knows g c =
    let s = g.S.Site in
    subst (λ (d : DeskState g.row.S.Denot). Knows (GoesOn s.tells s.files s.may_leave s.moment s.images_since) c.args.pass d) (sym c.desk.view_is) c.close.ensures.knows

pub returns-clause-told : goal.returns-clause-told
returns-clause-told g c = subst (λ (d : DeskState g.row.S.Denot). c.args.pass.told ≤ complete_count d.plan (records_of d.moves)) (sym c.desk.view_is) c.close.ensures.told

pub returns-clause-within : goal.returns-clause-within
returns-clause-within g c d is p mine =
    let was = subst (λ (s : Stand (DeskState g.row.S.Denot)). s.start ≡ Some d) (sym c.self.view_is) is in
    subst (λ (e : DeskState g.row.S.Denot). (length d.moves ≤ p) × (p < length e.moves)) (sym c.desk.view_is) (c.close.ensures.within d was p mine)

pub returns-clause-all : goal.returns-clause-all
returns-clause-all g c parts d is p from =
    let was = subst (λ (s : Stand (DeskState g.row.S.Denot)). s.start ≡ Some d) (sym c.self.view_is) is in
    subst (λ (e : DeskState g.row.S.Denot). p < length e.moves → In p c.args.pass.mine) (sym c.desk.view_is) (c.close.ensures.all parts d was p from)
