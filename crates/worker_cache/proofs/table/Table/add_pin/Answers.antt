use Rattle.std.proofs.Common.{ap, sym, ◌∙◌}
use Rattle.std.specs.Option.{option_copied_mut}
use Rattle.worker_cache.specs.Caches.{with_pin}
use Rattle.worker_cache.proofs.Tables.{changed_to, same_to}
use Rattle.worker_cache.proofs.table.Table.add_pin.Goals as goal

pub returns-in_default : goal.returns-in_default
returns-in_default c =
    same_to with_pin c.args.key c.self.inside.rows.entries c.args.self.now c.get_mut.follows.lender-at-none.entries (ap (λ m. m.entries) c.get_mut.follows.holds-at-none)
    (sym (ap option_copied_mut c.in_default.is) ∙ c.get_mut.ensures.value) c.self.view_is

pub returns : goal.returns
returns c =
    let new = c.count_pin.new.held in
    changed_to with_pin c.args.key c.self.inside.rows.entries c.args.self.now (c.get_mut.follows.lender new).entries c.in-Some.held.now new
    (c.get_mut.follows.holds new).0 c.in-Some.ensures.value c.count_pin.ensures c.self.view_is
