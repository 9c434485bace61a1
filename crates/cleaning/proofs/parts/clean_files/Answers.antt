use Rattle.std.proofs.Common.{ℕ, List, Err, ap, length, subst}
use Rattle.desk.specs.Kept.{IsElse}
use Rattle.local_run.specs.Course.{LeavesAlone}
use Rattle.cleaning.specs.declared.answers.CleanFault.TheVariants as cleans
use Rattle.cleaning.specs.Cleanings.{AreGone}
use Rattle.cleaning.proofs.Ending.{cut_over, done_over}
use Rattle.cleaning.proofs.Listed.{counted}
use Rattle.cleaning.proofs.parts.clean_files.Goals as goal

pub returns-in-Ok : goal.returns-in-Ok
returns-in-Ok g c =
    done_over g.S.Site.tells g.S.Site.files g.S.Site.may_leave g.S.Site.moment g.S.Site.images_since g.S.Site.count c.args.plan.now c.args.log.name c.args.records c.args.moment c.args.site.now c.clean_part.new.site c.clean_part.new.history
    c.requires.legal c.clean_part.ensures.kept c.clean_part.ensures.serial
    (λ told. subst (λ (fs : List ℕ). LeavesAlone g.S.Site.files g.S.Site.may_leave g.S.Site.moment g.S.Site.images_since (IsElse c.args.plan.now c.args.log.name fs) c.args.site.now c.clean_part.new.site) c.requires.these (c.clean_part.ensures.others told))
    c.clean_part.ensures.cause.later (length c.args.made.now) c.in-Ok.ensures.done c.requires.admitted (counted c.args.plan.now c.args.records c.args.made.now c.requires.these) c.requires.begun
    (λ told. subst (λ (fs : List ℕ). AreGone c.args.plan.now fs (g.S.Site.files c.clean_part.new.site)) c.requires.these (c.in-Ok.ensures.gone told)) (λ told keeps. c.in-Ok.ensures.now told)

pub returns-in-Err-Failed : goal.returns-in-Err-Failed
returns-in-Err-Failed g c =
    cut_over g.S.Site.tells g.S.Site.files g.S.Site.may_leave g.S.Site.moment g.S.Site.images_since g.S.Site.count c.args.plan.now c.args.log.name c.args.records c.args.moment c.args.site.now c.clean_part.new.site c.clean_part.new.history
    c.requires.legal c.clean_part.ensures.kept c.clean_part.ensures.serial
    (λ told. subst (λ (fs : List ℕ). LeavesAlone g.S.Site.files g.S.Site.may_leave g.S.Site.moment g.S.Site.images_since (IsElse c.args.plan.now c.args.log.name fs) c.args.site.now c.clean_part.new.site) c.requires.these (c.clean_part.ensures.others told))
    c.clean_part.ensures.cause.later cleans.Site c.clean_part.ensures.records c.requires.admitted c.clean_part.ensures.records tt tt
    (λ is. c.in-Err-Failed.ensures.cause.failed (ap Err c.in-Err-Failed.field-0-is))

pub returns : goal.returns
returns g c =
    cut_over g.S.Site.tells g.S.Site.files g.S.Site.may_leave g.S.Site.moment g.S.Site.images_since g.S.Site.count c.args.plan.now c.args.log.name c.args.records c.args.moment c.args.site.now c.clean_part.new.site c.clean_part.new.history
    c.requires.legal c.clean_part.ensures.kept c.clean_part.ensures.serial
    (λ told. subst (λ (fs : List ℕ). LeavesAlone g.S.Site.files g.S.Site.may_leave g.S.Site.moment g.S.Site.images_since (IsElse c.args.plan.now c.args.log.name fs) c.args.site.now c.clean_part.new.site) c.requires.these (c.clean_part.ensures.others told))
    c.clean_part.ensures.cause.later cleans.Memory c.clean_part.ensures.records c.requires.admitted c.clean_part.ensures.records tt tt
    (λ is. absurd is)
