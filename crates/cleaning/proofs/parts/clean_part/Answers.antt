use Rattle.std.proofs.Common.{sym}
use Rattle.desk.specs.Kept.{IsElse}
use Rattle.file_store.specs.Outputs.{IsOther}
use Rattle.local_run.specs.Runs.{Held, SerialFits}
use Rattle.local_run.proofs.Alone.{alone_less, alone_then}
use Rattle.cleaning.specs.Cleanings.{numbers_of}
use Rattle.cleaning.proofs.Kept.{any_ok, cleaning_moments, ending_moments, end_alone, keeps_cleaned}
use Rattle.cleaning.proofs.parts.clean_part.Goals as goal

pub returns-in-Err-clause-kept : goal.returns-in-Err-clause-kept
returns-in-Err-clause-kept g c told keeps =
    ending_moments g.S.Site.may_leave g.S.Site.moment g.S.Site.images_since Held c.args.plan.now c.args.log.now.name c.args.history.now c.args.moment c.args.site.now c.end_part.new.site (g.S.Site.files c.args.site.now) c.requires.legal c.requires.apart
    ((g.met.S.Site g.world.𝓛 g.world.𝓜 g.world.𝓡 ((λ s x. x), (λ x. x), (λ x. x), λ x. x)).reads_image told c.args.site.now) (c.end_part.ensures.any_moment told) keeps

pub returns-clause-kept : goal.returns-clause-kept
returns-clause-kept g c told keeps =
    cleaning_moments g.S.Site.may_leave g.S.Site.moment g.S.Site.images_since Held c.args.plan.now c.args.log.now.name c.args.history.now c.args.moment c.args.site.now c.end_part.new.site c.remove_files.new.site (g.S.Site.files c.args.site.now)
    (numbers_of c.args.made.now) c.requires.legal c.requires.apart ((g.met.S.Site g.world.𝓛 g.world.𝓜 g.world.𝓡 ((λ s x. x), (λ x. x), (λ x. x), λ x. x)).reads_image told c.args.site.now) (c.end_part.ensures.any_moment told) (c.remove_files.ensures.others told).crash.any_moment
    (λ file left. (c.in-Ok.ensures.gate told).each file left) keeps

pub returns-in-Err-clause-serial : goal.returns-in-Err-clause-serial
returns-in-Err-clause-serial g c told gives sources keeps =
    ending_moments g.S.Site.may_leave g.S.Site.moment g.S.Site.images_since (SerialFits gives sources) c.args.plan.now c.args.log.now.name c.args.history.now c.args.moment c.args.site.now c.end_part.new.site (g.S.Site.files c.args.site.now) c.requires.legal c.requires.apart
    ((g.met.S.Site g.world.𝓛 g.world.𝓜 g.world.𝓡 ((λ s x. x), (λ x. x), (λ x. x), λ x. x)).reads_image told c.args.site.now) (c.end_part.ensures.any_moment told) keeps

pub returns-clause-serial : goal.returns-clause-serial
returns-clause-serial g c told gives sources keeps =
    cleaning_moments g.S.Site.may_leave g.S.Site.moment g.S.Site.images_since (SerialFits gives sources) c.args.plan.now c.args.log.now.name c.args.history.now c.args.moment c.args.site.now c.end_part.new.site c.remove_files.new.site (g.S.Site.files c.args.site.now)
    (numbers_of c.args.made.now) c.requires.legal c.requires.apart ((g.met.S.Site g.world.𝓛 g.world.𝓜 g.world.𝓡 ((λ s x. x), (λ x. x), (λ x. x), λ x. x)).reads_image told c.args.site.now) (c.end_part.ensures.any_moment told) (c.remove_files.ensures.others told).crash.any_moment
    (λ file left. (c.in-Ok.ensures.gate told).each file left) keeps

pub returns-clause-now : goal.returns-clause-now
returns-clause-now g c =
    any_ok c.remove_files.result _ (λ told image now. keeps_cleaned Held c.args.plan.now c.args.log.now.name c.args.history.now c.args.moment image c.requires.legal
    ((c.in-Ok.ensures.gate told).each (image c.args.log.now.name)
    ((c.remove_files.ensures.others told).crash.now c.args.log.now.name (image c.args.log.now.name) (λ k f at same. c.requires.apart f (sym same)) (now c.args.log.now.name))))

pub returns-in-Err-clause-others : goal.returns-in-Err-clause-others
returns-in-Err-clause-others g c told =
    end_alone g.S.Site.files g.S.Site.may_leave g.S.Site.moment g.S.Site.images_since c.args.plan.now c.args.log.now.name (numbers_of c.args.made.now) c.args.history.now c.args.moment c.args.site.now c.end_part.new.site
    (c.end_part.ensures.crash told) (c.end_part.ensures.any_moment told) (c.end_part.ensures.reads told)

pub returns-clause-others : goal.returns-clause-others
returns-clause-others g c told =
    let fs = numbers_of c.args.made.now in
    let other = IsElse c.args.plan.now c.args.log.now.name fs in
    alone_then g.S.Site.files g.S.Site.may_leave g.S.Site.moment g.S.Site.images_since other c.args.site.now c.end_part.new.site c.remove_files.new.site
    (end_alone g.S.Site.files g.S.Site.may_leave g.S.Site.moment g.S.Site.images_since c.args.plan.now c.args.log.now.name fs c.args.history.now c.args.moment c.args.site.now c.end_part.new.site
    (c.end_part.ensures.crash told) (c.end_part.ensures.any_moment told) (c.end_part.ensures.reads told))
    (alone_less g.S.Site.files g.S.Site.may_leave g.S.Site.moment g.S.Site.images_since (IsOther c.args.plan.now fs) other c.end_part.new.site c.remove_files.new.site (λ m is. is.1) (c.remove_files.ensures.others told).crash (c.remove_files.ensures.others told).reads)
