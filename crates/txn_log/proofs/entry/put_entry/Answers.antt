use Rattle.std.proofs.Common.{◌++◌, [], ◌∷◌, List, ℕ, take, Option, subst, sym, ◌∙◌, ap}
use Rattle.byte_fields.specs.Spelling.{counted}
use Rattle.log_records.specs.Spelling.{spelling}
use Rattle.outside.proofs.Moments.{weakened}
use Rattle.outside.specs.Files.{content}
use Rattle.txn_log.specs.Gates.{closed_gate, staged, grown, Stands}
use Rattle.txn_log.specs.Logs.{IsAppended}
use Rattle.txn_log.proofs.Growing.{staged_entry, stands_at, appended_log, grown_log, place-push, both_ok}
use Rattle.txn_log.proofs.entry.put_entry.Goals as goal

pub append_behind-requires-clause-shut : goal.append_behind-requires-clause-shut
append_behind-requires-clause-shut g c κs within =
    c.stage.ensures.text ∙ ap (λ (l : List ℕ). l ++ closed_gate ∷ []) (sym (staged_entry c.stage.new.into (counted (spelling c.args.entry.now)) c.stage.ensures.text))

pub append_behind-requires-clause-reads : goal.append_behind-requires-clause-reads
append_behind-requires-clause-reads g c κs within told =
    let now = (g.met.S.Site g.world.𝓛 g.world.𝓜 g.world.𝓡 ((λ s x. x), (λ x. x), (λ x. x), λ x. x)).reads_image told c.args.site.now c.args.name.now in
    let is = c.requires.stands told in
    stands_at is.0 c.args.gate _ _ is.1.place (is.1.each _ now) (is.1.each _ now)

pub append_behind-requires-clause-stands : goal.append_behind-requires-clause-stands
append_behind-requires-clause-stands g c κs within told file left =
    let now = (g.met.S.Site g.world.𝓛 g.world.𝓜 g.world.𝓡 ((λ s x. x), (λ x. x), (λ x. x), λ x. x)).reads_image told c.args.site.now c.args.name.now in
    let is = c.requires.stands told in
    stands_at is.0 c.args.gate _ file is.1.place (is.1.each _ now) (is.1.each file left)

pub returns-clause-done : goal.returns-clause-done
returns-clause-done g c =
    both_ok c.append_behind.result (λ stands durable told records is.
    let now = (g.met.S.Site g.world.𝓛 g.world.𝓜 g.world.𝓡 ((λ s x. x), (λ x. x), (λ x. x), λ x. x)).reads_image told c.args.site.now c.args.name.now in
    record {
      place = place-push records c.args.entry.now c.args.gate is.place;
      each = λ file left. grown_log records c.args.entry.now c.args.gate (g.S.Site.files c.args.site.now c.args.name.now) c.stage.new.into is.place (is.each _ now)
          c.stage.ensures.fits c.stage.ensures.text file
          (subst (λ (e : Option (List ℕ)). Stands (grown (take c.args.gate (content (g.S.Site.files c.args.site.now c.args.name.now))) (staged c.stage.new.into)) e) (sym (durable told file left)) (stands told));
    })
    c.append_behind.ensures.acknowledged c.append_behind.ensures.durable

pub returns-clause-any_moment : goal.returns-clause-any_moment
returns-clause-any_moment g c told records is =
    let now = (g.met.S.Site g.world.𝓛 g.world.𝓜 g.world.𝓡 ((λ s x. x), (λ x. x), (λ x. x), λ x. x)).reads_image told c.args.site.now c.args.name.now in
    weakened g.S.Site.moment g.S.Site.images_since c.args.site.now c.append_behind.new.site _
    (IsAppended c.args.name.now records c.args.entry.now (g.S.Site.may_leave c.args.site.now))
    (c.append_behind.ensures.any_moment told)
    (λ image step. appended_log records c.args.entry.now c.args.gate (g.S.Site.files c.args.site.now c.args.name.now) c.stage.new.into is.place (is.each _ now)
    c.stage.ensures.fits c.stage.ensures.text c.args.name.now (g.S.Site.may_leave c.args.site.now) image step)
