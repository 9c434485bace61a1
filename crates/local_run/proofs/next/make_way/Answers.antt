use Rattle.std.proofs.Common.{Err, Ok, Option, ap, subst, sym, true≢false}
use Rattle.flow_types.specs.declared.numbers.FileNo.{FileNo}
use Rattle.local_run.proofs.Dropping.{collects_longer}
use Rattle.desk.specs.Collections.{Collects}
use Rattle.desk.specs.State.{DeskState}
use Rattle.desk.specs.declared.answers.CollectRefused.{CollectRefused}
use Rattle.desk.specs.declared.answers.CollectRefused.TheVariants as refused
use Rattle.local_run.proofs.Alone.{collection_alone}
use Rattle.local_run.proofs.DropsBegun.{collects_on}
use Rattle.local_run.specs.Underway.{IsSurePool}
use Rattle.local_run.proofs.Sparing.{collects_spares, same_spares}
use Rattle.local_run.proofs.next.make_way.Goals as goal

pub returns-in-Ok-Some-clause-underway : goal.returns-in-Ok-Some-clause-underway
returns-in-Ok-Some-clause-underway g c away first held waiting heard u =
    let d = c.args.desk.now in
    collects_on g.T.Terms.trust g.F.Commands.gives g.F.Commands.may_fail g.T.Terms.sources g.S.Site.tells g.T.Terms.kept (IsSurePool g.B.Terms.fits) g.S.Site.files g.S.Site.may_leave g.S.Site.moment g.S.Site.images_since away g.S.Site.count first d c.collect.new.self held waiting heard c.now.result (Ok c.in-Ok-Some.field-0) c.in-Ok-Some.ensures.removed
    (λ told. collection_alone g.S.Site.files g.S.Site.may_leave g.S.Site.moment g.S.Site.images_since d c.collect.new.self.site (c.collect.ensures.others told) (c.collect.ensures.reads told)) c.in-Ok-Some.ensures.reply u

pub returns-in-Err-LogPlaces-clause-underway : goal.returns-in-Err-LogPlaces-clause-underway
returns-in-Err-LogPlaces-clause-underway g c away first held waiting heard u =
    let d = c.args.desk.now in
    collects_on g.T.Terms.trust g.F.Commands.gives g.F.Commands.may_fail g.T.Terms.sources g.S.Site.tells g.T.Terms.kept (IsSurePool g.B.Terms.fits) g.S.Site.files g.S.Site.may_leave g.S.Site.moment g.S.Site.images_since away g.S.Site.count first d c.collect.new.self held waiting heard c.now.result (Err refused.LogPlaces) tt
    (λ told. collection_alone g.S.Site.files g.S.Site.may_leave g.S.Site.moment g.S.Site.images_since d c.collect.new.self.site (c.collect.ensures.others told) (c.collect.ensures.reads told)) (subst (λ (why : CollectRefused). Collects g.S.Site.count d c.now.result (Err why) c.collect.new.self) c.in-Err-LogPlaces.field-0-is c.in-Err-LogPlaces.ensures.reply) u

pub returns-in-Err-Broken-clause-underway : goal.returns-in-Err-Broken-clause-underway
returns-in-Err-Broken-clause-underway g c away first held waiting heard u =
    let d = c.args.desk.now in
    collects_on g.T.Terms.trust g.F.Commands.gives g.F.Commands.may_fail g.T.Terms.sources g.S.Site.tells g.T.Terms.kept (IsSurePool g.B.Terms.fits) g.S.Site.files g.S.Site.may_leave g.S.Site.moment g.S.Site.images_since away g.S.Site.count first d c.collect.new.self held waiting heard c.now.result (Err (refused.Broken _ _)) tt
    (λ told. collection_alone g.S.Site.files g.S.Site.may_leave g.S.Site.moment g.S.Site.images_since d c.collect.new.self.site (c.collect.ensures.others told) (c.collect.ensures.reads told)) (subst (λ (why : CollectRefused). Collects g.S.Site.count d c.now.result (Err why) c.collect.new.self) c.in-Err-Broken.field-0-is c.in-Err-Broken.ensures.reply) u

pub returns-in-Err-Memory-clause-underway : goal.returns-in-Err-Memory-clause-underway
returns-in-Err-Memory-clause-underway g c away first held waiting heard u =
    let d = c.args.desk.now in
    collects_on g.T.Terms.trust g.F.Commands.gives g.F.Commands.may_fail g.T.Terms.sources g.S.Site.tells g.T.Terms.kept (IsSurePool g.B.Terms.fits) g.S.Site.files g.S.Site.may_leave g.S.Site.moment g.S.Site.images_since away g.S.Site.count first d c.collect.new.self held waiting heard c.now.result (Err refused.Memory) tt
    (λ told. collection_alone g.S.Site.files g.S.Site.may_leave g.S.Site.moment g.S.Site.images_since d c.collect.new.self.site (c.collect.ensures.others told) (c.collect.ensures.reads told)) (subst (λ (why : CollectRefused). Collects g.S.Site.count d c.now.result (Err why) c.collect.new.self) c.in-Err-Memory.field-0-is c.in-Err-Memory.ensures.reply) u

pub returns-in-Ok-Some-clause-grew : goal.returns-in-Ok-Some-clause-grew
returns-in-Ok-Some-clause-grew g c dropped = collects_longer g.S.Site.count c.args.desk.now c.now.result c.in-Ok-Some.field-0-0 c.collect.new.self
    (subst (λ (dropped : Option FileNo). Collects g.S.Site.count c.args.desk.now c.now.result (Ok dropped) c.collect.new.self) c.in-Ok-Some.field-0-is c.in-Ok-Some.ensures.reply)

pub returns-in-Err-LogPlaces-clause-grew : goal.returns-in-Err-LogPlaces-clause-grew
returns-in-Err-LogPlaces-clause-grew g c dropped = absurd (true≢false (sym dropped))

pub returns-in-Ok-Some-clause-spares : goal.returns-in-Ok-Some-clause-spares
returns-in-Ok-Some-clause-spares g c = collects_spares g.S.Site.count c.args.desk.now c.collect.new.self c.now.result c.in-Ok-Some.field-0 c.in-Ok-Some.ensures.reply

pub returns-in-Err-LogPlaces-clause-spares : goal.returns-in-Err-LogPlaces-clause-spares
returns-in-Err-LogPlaces-clause-spares g c =
    same_spares c.args.desk.now.moves c.collect.new.self.moves
    (ap (λ (b : DeskState g.row.S.Denot). b.moves) (subst (λ (why : CollectRefused). Collects g.S.Site.count c.args.desk.now c.now.result (Err why) c.collect.new.self) c.in-Err-LogPlaces.field-0-is c.in-Err-LogPlaces.ensures.reply).2)
