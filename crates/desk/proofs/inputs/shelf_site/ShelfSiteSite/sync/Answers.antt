use Rattle.std.proofs.Common.{List, sym, subst}
use Rattle.desk.specs.declared.inputs.shelf.Shelved.{Shelved}
use Rattle.desk.specs.Shelves.{AreThere}
use Rattle.desk.proofs.Shelving.{still_there}
use Rattle.desk.proofs.inputs.shelf_site.ShelfSiteSite.sync.Goals as goal

pub invariant_of-self : goal.invariant_of-self
invariant_of-self g c told =
    subst (λ (kept : List Shelved). AreThere kept (g.S.Site.files c.sync.new.self)) (sym c.forget.ensures)
    (still_there c.args.name.now (g.S.Site.files c.self.inside.site) (g.S.Site.files c.sync.new.self) c.self.inside.shelf (c.self.invariant told) (c.sync.ensures.files told).others)
