use Rattle.std.proofs.Common.{◌≡◌, ◌∙◌, sym}
use Rattle.jx_values.proofs.Keys.{replaced_where_found}
use Rattle.jx_values.proofs.fields.Fields.place.Goals as goal

pub returns-in-Some : goal.returns-in-Some
returns-in-Some c =
    let r = c.replace.ensures in
    let s : c.as_slice.result.now ≡ c.args.self.now = c.as_slice.ensures.value ∙ c.self.view_is in
    replaced_where_found c.args.self.now c.as_slice.result.now c.replace.new.self c.args.key c.as_str.result.now c.in-Some.at c.args.value r.0
    s c.as_str.ensures.value (rw (sym s) c.in-Some.ensures.within) r.1 r.2 c.in-Some.ensures.found
