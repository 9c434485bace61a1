use Rattle.std.proofs.Common.{rules, ◌≡◌, true, false, refl, subst, sym}
use Rattle.std.specs.Prelude.{Ok}
use Rattle.std.proofs.lemmas.Result.{on_ok_weaker}
use Rattle.task_core.specs.Stands.{Notes}
use Rattle.net_world.proofs.CrashShows.{not_resumed_shown, resumed_shown}
use Rattle.net_world.proofs.play.Play.resume.Goals as goal

pub returns-then-not-branch : goal.returns-then-not-branch
returns-then-not-branch c P O w shown =
    let refused : c.note.result ≡ Ok false = search rules in
    not_resumed_shown P O w c.args.self.now c.in_ok-table.table c.note.new.self c.plan_digest-digest.result.0 c.resumption-entry.result c.note.result refused shown
    (c.in_ok-table.ensures P O w shown) (search rules) c.resumption-entry.ensures.entry c.note.ensures

pub returns : goal.returns
returns c = on_ok_weaker c.note-2.result (λ pushed P O w shown.
    let stood : c.note.result ≡ Ok true = search rules in
    resumed_shown P O w c.args.self.now _ c.in_ok-table.table c.plan_digest-digest.result.0 c.resumption-entry.result c.note.result stood shown
    (c.in_ok-table.ensures P O w shown) (search rules) c.resumption-entry.ensures.entry
    (λ M stands. subst (Notes c.in_ok-table.table c.plan_digest-digest.result.0 M c.resumption-entry.result c.note.result) (sym c.begin_anew.ensures.table) (c.note.ensures M stands))
    (search rules) (c.begin_anew.ensures.held P O w shown) c.begin_anew.ensures.places c.begin_anew.ensures.lines (search rules) (search rules) refl)
    c.note-2.ensures
