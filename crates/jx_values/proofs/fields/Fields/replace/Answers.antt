use Rattle.std.proofs.Common.{◌≡◌, refl, sym}
use Rattle.jx_values.proofs.fields.Fields.replace.Goals as goal

pub returns : goal.returns
returns c =
    let v : c.args.self.now ≡ c.self.inside.fields.items = sym c.self.view_is in
    rw v (c.index_mut.result.now, c.index_mut.ensures.value, refl)
