use Rattle.std.proofs.Common.{◌<◌, ◌∙◌, List, Ok, Err, ap, length, sym, subst, arith}
use Rattle.std.specs.Prelude.{slice_get}
use Rattle.flow_types.specs.declared.numbers.FileNo.{FileNo}
use Rattle.flow_types.specs.declared.plan.Plan.{Plan}
use Rattle.desk.specs.Kept.{IsLegal}
use Rattle.cleaning.specs.declared.answers.CleanFault.TheVariants as cleans
use Rattle.cleaning.specs.declared.answers.CleanRefused.{CleanRefused}
use Rattle.cleaning.specs.Cleanings.{numbers_of}
use Rattle.cleaning.proofs.Absent.{begun_by, unbegun_by}
use Rattle.cleaning.proofs.Ending.{Over, empty_still, full_still, memory_still, still_over}
use Rattle.cleaning.proofs.Looked.{legal_of}
use Rattle.cleaning.proofs.sweeping.clean_over.Goals as goal

pub returns-then-not-is_begun : goal.returns-then-not-is_begun
returns-then-not-is_begun g c =
    still_over g.S.Site.tells g.S.Site.files g.S.Site.may_leave g.S.Site.moment g.S.Site.images_since g.S.Site.count c.args.table.now.plan c.args.log.name c.args.records c.args.moment c.args.site.now
    (Ok (record { records = c.args.records; removed = 0 }))
    (λ told image. (g.met.S.Site g.world.𝓛 g.world.𝓜 g.world.𝓡 ((λ s x. x), (λ x. x), (λ x. x), λ x. x)).only_now told c.args.site.now image)
    (empty_still c.args.table.now.plan c.args.records c.args.moment c.requires.admitted (unbegun_by c.args.records c.args.table.now.begun c.requires.stands.begun c.if-not-is_begun.ensures))

pub returns-then-len-ge-FULL_LOG : goal.returns-then-len-ge-FULL_LOG
returns-then-len-ge-FULL_LOG g c =
    subst (λ (r : CleanRefused). Over g.S.Site.tells g.S.Site.files g.S.Site.may_leave g.S.Site.moment g.S.Site.images_since g.S.Site.count c.args.table.now.plan c.args.log.name c.args.records c.args.moment c.args.site.now c.args.site.now (Err r)) (sym c.full.ensures)
    (still_over g.S.Site.tells g.S.Site.files g.S.Site.may_leave g.S.Site.moment g.S.Site.images_since g.S.Site.count c.args.table.now.plan c.args.log.name c.args.records c.args.moment c.args.site.now
    (Err (record { why = cleans.LogFull (length c.args.records); records = c.args.records }))
    (λ told image. (g.met.S.Site g.world.𝓛 g.world.𝓜 g.world.𝓡 ((λ s x. x), (λ x. x), (λ x. x), λ x. x)).only_now told c.args.site.now image)
    (full_still c.args.table.now.plan c.args.records c.args.moment c.requires.admitted (begun_by c.args.records c.args.table.now.begun c.requires.stands.begun c.if-not-is_begun.ensures) (omega (arith, c.len.ensures, c.if-len-ge-FULL_LOG.true))))

pub clean_files-requires-clause-begun : goal.clean_files-requires-clause-begun
clean_files-requires-clause-begun g c κs within = begun_by c.args.records c.args.table.now.begun c.requires.stands.begun c.if-not-is_begun.ensures

pub clean_files-requires-clause-legal : goal.clean_files-requires-clause-legal
clean_files-requires-clause-legal g c κs within = subst (λ (P : Plan). IsLegal P c.args.records) (sym c.plan.ensures.plan) (legal_of c.args.table.now.plan c.args.records c.requires.admitted)

pub clean_files-requires-clause-inside : goal.clean_files-requires-clause-inside
clean_files-requires-clause-inside g c κs within k f is =
    subst (λ (P : Plan). f < length P.files) (sym c.plan.ensures.plan) (c.in-Ok.ensures.inside k f (sym (ap (λ (files : List FileNo). slice_get (numbers_of files) k) c.as_slice.ensures) ∙ is))

pub returns-in-Err : goal.returns-in-Err
returns-in-Err g c =
    still_over g.S.Site.tells g.S.Site.files g.S.Site.may_leave g.S.Site.moment g.S.Site.images_since g.S.Site.count c.args.table.now.plan c.args.log.name c.args.records c.args.moment c.args.site.now
    (Err (record { why = cleans.Memory; records = c.args.records }))
    (λ told image. (g.met.S.Site g.world.𝓛 g.world.𝓜 g.world.𝓡 ((λ s x. x), (λ x. x), (λ x. x), λ x. x)).only_now told c.args.site.now image)
    (memory_still c.args.table.now.plan c.args.records c.args.moment c.requires.admitted (begun_by c.args.records c.args.table.now.begun c.requires.stands.begun c.if-not-is_begun.ensures) (omega (arith, c.len.ensures, c.if-len-ge-FULL_LOG.false)))
