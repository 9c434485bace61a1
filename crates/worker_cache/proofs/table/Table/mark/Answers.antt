use Rattle.std.proofs.Common.{ap, sym, refl, true, ◌∙◌}
use Rattle.std.specs.Option.{option_copied_mut}
use Rattle.worker_cache.specs.declared.held.Held.{Held}
use Rattle.worker_cache.specs.Caches.{with_mark}
use Rattle.worker_cache.proofs.Tables.{changed_to, same_to}
use Rattle.worker_cache.proofs.table.Table.mark.Goals as goal

pub returns-in_default : goal.returns-in_default
returns-in_default c =
    same_to with_mark c.args.key c.self.inside.rows.entries c.args.self.now c.get_mut.follows.lender-at-none.entries (ap (λ m. m.entries) c.get_mut.follows.holds-at-none)
    (sym (ap option_copied_mut c.in_default.is) ∙ c.get_mut.ensures.value) c.self.view_is

pub returns : goal.returns
returns c =
    let held = c.in-Some.held.now in
    let new : Held = record { content = held.content; pins = held.pins; unlinked = true } in
    changed_to with_mark c.args.key c.self.inside.rows.entries c.args.self.now (c.get_mut.follows.lender new).entries held new
    (c.get_mut.follows.holds new).0 c.in-Some.ensures.value refl c.self.view_is
