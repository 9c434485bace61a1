use Rattle.std.proofs.Common.{inr, List, Err, ap, refl, sym, subst}
use Rattle.flow_types.specs.declared.records.Record.{Record}
use Rattle.outside.specs.Disk.{LeavesOnly}
use Rattle.desk.specs.Kept.{IsElse}
use Rattle.local_run.specs.Course.{IsUnmade}
use Rattle.local_run.specs.Moments.{IsBefore}
use Rattle.local_run.specs.Runs.{Held, SerialFits}
use Rattle.local_run.proofs.Joining.{is_named, keeping}
use Rattle.cleaning.specs.declared.answers.CleanRefused.{CleanRefused}
use Rattle.cleaning.specs.Cleanings.{CleanEnds, CleansLog, GivesRecords, HasGone, IsCutClean, IsCutFor, IsOfSite, WasAdmitted, present_made, records_in}
use Rattle.cleaning.proofs.Looked.{unread_damage, unread_ends, unread_site, unread_whole}
use Rattle.cleaning.proofs.Reading.{read_alone, read_keeps, read_moments, reads_all}
use Rattle.cleaning.proofs.Whole.{beside_alone, cleans_log, inside_joined, moments_joined, moments_keep, never_unread, risen_since, unmade_alone, unmoved_before, unmoved_reads, unread_moments}
use Rattle.cleaning.proofs.sweeping.clean.Goals as goal

pub returns-in-Ok-clause-log : goal.returns-in-Ok-clause-log
returns-in-Ok-clause-log g c told =
    cleans_log (g.S.Site.files c.args.site.now c.args.name) c.in-Ok.records c.args.moment c.clean_read.result (c.in-Ok.ensures.answer told) c.clean_read.ensures.behind c.clean_read.ensures.records

pub returns-in-Err-clause-log : goal.returns-in-Err-clause-log
returns-in-Err-clause-log g c told = subst (λ (r : CleanRefused). CleansLog (g.S.Site.files c.args.site.now c.args.name) (Err r)) (sym c.unread.ensures) (c.in-Err.ensures.answer told)

pub returns-in-Ok-clause-ends : goal.returns-in-Ok-clause-ends
returns-in-Ok-clause-ends g c told H spelled = subst (λ (K : List Record). CleanEnds c.args.plan.now K c.clean_read.result) (c.in-Ok.ensures.exact told H spelled) c.clean_read.ensures.ends

pub returns-in-Err-clause-ends : goal.returns-in-Err-clause-ends
returns-in-Err-clause-ends g c told H spelled =
    subst (λ (r : CleanRefused). CleanEnds c.args.plan.now H (Err r)) (sym c.unread.ensures) (unread_ends c.args.plan.now H c.in-Err.why (c.in-Err.ensures.exact told H spelled))

pub returns-in-Ok-clause-records : goal.returns-in-Ok-clause-records
returns-in-Ok-clause-records g c told H spelled = subst (λ (K : List Record). GivesRecords K c.args.moment c.clean_read.result) (c.in-Ok.ensures.exact told H spelled) c.clean_read.ensures.records

pub returns-in-Err-clause-records : goal.returns-in-Err-clause-records
returns-in-Err-clause-records g c told H spelled = subst (λ (r : CleanRefused). GivesRecords H c.args.moment (Err r)) (sym c.unread.ensures) refl

pub returns-in-Err-clause-legal : goal.returns-in-Err-clause-legal
returns-in-Err-clause-legal g c = λ admitted. absurd (subst (λ (r : CleanRefused). WasAdmitted r.why) c.unread.ensures admitted)

pub returns-in-Ok-clause-gone : goal.returns-in-Ok-clause-gone
returns-in-Ok-clause-gone g c told H spelled =
    subst (λ (K : List Record). HasGone c.args.plan.now K (g.S.Site.files c.clean_read.new.site) c.clean_read.result) (c.in-Ok.ensures.exact told H spelled) (c.clean_read.ensures.gone told)

pub returns-in-Ok-clause-moments : goal.returns-in-Ok-clause-moments
returns-in-Ok-clause-moments g c told H spelled resumable =
    moments_joined g.S.Site.files g.S.Site.may_leave g.S.Site.moment g.S.Site.images_since c.args.plan.now c.args.name c.in-Ok.log.name c.in-Ok.ensures.named.same_name c.in-Ok.records H (c.in-Ok.ensures.exact told H spelled) c.args.site.now c.recover.new.site c.clean_read.new.site (c.recover.ensures.any_moment told)
    Held (records_in c.clean_read.result) (IsCutClean c.clean_read.result)
    (c.clean_read.ensures.kept told
    (keeping g.S.Site.may_leave g.S.Site.moment g.S.Site.images_since c.args.plan.now c.args.name c.in-Ok.log.name c.in-Ok.ensures.named.same_name c.in-Ok.records H (c.in-Ok.ensures.exact told H spelled) (g.S.Site.files c.args.site.now) c.args.site.now c.recover.new.site Held c.requires.apart c.files_spell_one_list.ensures.one ((g.met.S.Site g.world.𝓛 g.world.𝓜 g.world.𝓡 ((λ s x. x), (λ x. x), (λ x. x), λ x. x)).reads_image told c.args.site.now c.args.name) (c.in-Ok.ensures.answer told) (c.in-Ok.ensures.stands told).at.each (c.recover.ensures.crash told) resumable))

pub returns-in-Err-clause-moments : goal.returns-in-Err-clause-moments
returns-in-Err-clause-moments g c told H spelled resumable =
    unread_moments g.S.Site.files g.S.Site.may_leave g.S.Site.moment g.S.Site.images_since c.args.plan.now c.args.name c.args.site.now c.recover.new.site Held H c.unread.result.records (IsCutFor c.unread.result.why) (c.recover.ensures.any_moment told)

pub returns-in-Ok-clause-contents : goal.returns-in-Ok-clause-contents
returns-in-Ok-clause-contents g c told H spelled gives sources resumable =
    moments_joined g.S.Site.files g.S.Site.may_leave g.S.Site.moment g.S.Site.images_since c.args.plan.now c.args.name c.in-Ok.log.name c.in-Ok.ensures.named.same_name c.in-Ok.records H (c.in-Ok.ensures.exact told H spelled) c.args.site.now c.recover.new.site c.clean_read.new.site (c.recover.ensures.any_moment told)
    (SerialFits gives sources) (records_in c.clean_read.result) (IsCutClean c.clean_read.result)
    (c.clean_read.ensures.serial told gives sources
    (keeping g.S.Site.may_leave g.S.Site.moment g.S.Site.images_since c.args.plan.now c.args.name c.in-Ok.log.name c.in-Ok.ensures.named.same_name c.in-Ok.records H (c.in-Ok.ensures.exact told H spelled) (g.S.Site.files c.args.site.now) c.args.site.now c.recover.new.site (SerialFits gives sources) c.requires.apart c.files_spell_one_list.ensures.one ((g.met.S.Site g.world.𝓛 g.world.𝓜 g.world.𝓡 ((λ s x. x), (λ x. x), (λ x. x), λ x. x)).reads_image told c.args.site.now c.args.name) (c.in-Ok.ensures.answer told) (c.in-Ok.ensures.stands told).at.each (c.recover.ensures.crash told) resumable))

pub returns-in-Err-clause-contents : goal.returns-in-Err-clause-contents
returns-in-Err-clause-contents g c told H spelled gives sources resumable =
    unread_moments g.S.Site.files g.S.Site.may_leave g.S.Site.moment g.S.Site.images_since c.args.plan.now c.args.name c.args.site.now c.recover.new.site (SerialFits gives sources) H c.unread.result.records (IsCutFor c.unread.result.why) (c.recover.ensures.any_moment told)

pub returns-in-Ok-clause-resumable : goal.returns-in-Ok-clause-resumable
returns-in-Ok-clause-resumable g c told some =
    let reads = (g.met.S.Site g.world.𝓛 g.world.𝓜 g.world.𝓡 ((λ s x. x), (λ x. x), (λ x. x), λ x. x)).reads_image told c.args.site.now in
    let G = c.in-Ok.records in
    moments_keep g.S.Site.files g.S.Site.may_leave g.S.Site.moment g.S.Site.images_since c.args.plan.now c.args.name c.args.site.now c.clean_read.new.site G (records_in c.clean_read.result) (IsCutClean c.clean_read.result) some
    (moments_joined g.S.Site.files g.S.Site.may_leave g.S.Site.moment g.S.Site.images_since c.args.plan.now c.args.name c.in-Ok.log.name c.in-Ok.ensures.named.same_name G G refl c.args.site.now c.recover.new.site c.clean_read.new.site (c.recover.ensures.any_moment told)
    Held (records_in c.clean_read.result) (IsCutClean c.clean_read.result)
    (c.clean_read.ensures.kept told
    (keeping g.S.Site.may_leave g.S.Site.moment g.S.Site.images_since c.args.plan.now c.args.name c.in-Ok.log.name c.in-Ok.ensures.named.same_name G G refl (g.S.Site.files c.args.site.now) c.args.site.now c.recover.new.site Held c.requires.apart c.files_spell_one_list.ensures.one (reads c.args.name) (c.in-Ok.ensures.answer told) (c.in-Ok.ensures.stands told).at.each (c.recover.ensures.crash told) (inr some))))

pub returns-in-Err-clause-resumable : goal.returns-in-Err-clause-resumable
returns-in-Err-clause-resumable g c told some = read_keeps g.S.Site.files g.S.Site.may_leave g.S.Site.moment g.S.Site.images_since c.args.name c.args.site.now c.recover.new.site (c.recover.ensures.any_moment told) c.args.plan.now some

pub returns-in-Ok-clause-now : goal.returns-in-Ok-clause-now
returns-in-Ok-clause-now g c told H spelled resumable uncut image left =
    is_named g.S.Site.may_leave g.S.Site.moment g.S.Site.images_since c.args.plan.now c.args.name c.in-Ok.log.name c.in-Ok.ensures.named.same_name c.in-Ok.records H (c.in-Ok.ensures.exact told H spelled) (g.S.Site.files c.args.site.now) c.args.site.now c.recover.new.site Held (records_in c.clean_read.result) image
    (c.clean_read.ensures.now told
    (keeping g.S.Site.may_leave g.S.Site.moment g.S.Site.images_since c.args.plan.now c.args.name c.in-Ok.log.name c.in-Ok.ensures.named.same_name c.in-Ok.records H (c.in-Ok.ensures.exact told H spelled) (g.S.Site.files c.args.site.now) c.args.site.now c.recover.new.site Held c.requires.apart c.files_spell_one_list.ensures.one ((g.met.S.Site g.world.𝓛 g.world.𝓜 g.world.𝓡 ((λ s x. x), (λ x. x), (λ x. x), λ x. x)).reads_image told c.args.site.now c.args.name) (c.in-Ok.ensures.answer told) (c.in-Ok.ensures.stands told).at.each (c.recover.ensures.crash told) resumable) uncut image left)

pub returns-in-Err-clause-now : goal.returns-in-Err-clause-now
returns-in-Err-clause-now g c told H spelled resumable uncut =
    absurd (unread_whole c.args.plan.now H c.in-Err.why (subst (λ (r : CleanRefused). IsCutFor r.why → ⊥) c.unread.ensures uncut) (c.in-Err.ensures.exact told H spelled))

pub returns-in-Ok-clause-inside : goal.returns-in-Ok-clause-inside
returns-in-Ok-clause-inside g c told H spelled =
    inside_joined g.S.Site.files g.S.Site.may_leave g.S.Site.moment g.S.Site.images_since c.args.plan.now c.args.name c.in-Ok.log.name c.in-Ok.ensures.named.same_name c.in-Ok.records H (c.in-Ok.ensures.exact told H spelled) c.args.site.now c.recover.new.site c.clean_read.new.site (c.recover.ensures.any_moment told)
    (read_alone g.S.Site.files g.S.Site.may_leave g.S.Site.moment g.S.Site.images_since c.args.name c.args.site.now c.recover.new.site (c.recover.ensures.any_moment told) (c.recover.ensures.crash told) (c.recover.ensures.others told)) (c.clean_read.ensures.others told)

pub returns-in-Err-clause-inside : goal.returns-in-Err-clause-inside
returns-in-Err-clause-inside g c told H spelled =
    beside_alone g.S.Site.files g.S.Site.may_leave g.S.Site.moment g.S.Site.images_since c.args.plan.now c.args.name c.args.site.now c.recover.new.site (IsElse c.args.plan.now c.args.name (present_made c.args.plan.now H)) (λ m is. is.0)
    (read_alone g.S.Site.files g.S.Site.may_leave g.S.Site.moment g.S.Site.images_since c.args.name c.args.site.now c.recover.new.site (c.recover.ensures.any_moment told) (c.recover.ensures.crash told) (c.recover.ensures.others told))

pub returns-in-Ok-clause-others : goal.returns-in-Ok-clause-others
returns-in-Ok-clause-others g c told =
    let G = c.in-Ok.records in
    unmade_alone g.S.Site.files g.S.Site.may_leave g.S.Site.moment g.S.Site.images_since c.args.plan.now c.args.name c.args.site.now c.clean_read.new.site G
    (inside_joined g.S.Site.files g.S.Site.may_leave g.S.Site.moment g.S.Site.images_since c.args.plan.now c.args.name c.in-Ok.log.name c.in-Ok.ensures.named.same_name G G refl c.args.site.now c.recover.new.site c.clean_read.new.site (c.recover.ensures.any_moment told)
    (read_alone g.S.Site.files g.S.Site.may_leave g.S.Site.moment g.S.Site.images_since c.args.name c.args.site.now c.recover.new.site (c.recover.ensures.any_moment told) (c.recover.ensures.crash told) (c.recover.ensures.others told)) (c.clean_read.ensures.others told))

pub returns-in-Err-clause-others : goal.returns-in-Err-clause-others
returns-in-Err-clause-others g c told =
    beside_alone g.S.Site.files g.S.Site.may_leave g.S.Site.moment g.S.Site.images_since c.args.plan.now c.args.name c.args.site.now c.recover.new.site (IsUnmade c.args.plan.now c.args.name) (λ m is. is.0)
    (read_alone g.S.Site.files g.S.Site.may_leave g.S.Site.moment g.S.Site.images_since c.args.name c.args.site.now c.recover.new.site (c.recover.ensures.any_moment told) (c.recover.ensures.crash told) (c.recover.ensures.others told))

pub returns-in-Ok-clause-reads : goal.returns-in-Ok-clause-reads
returns-in-Ok-clause-reads g c =
    unmoved_reads g.S.Site.tells g.S.Site.files c.args.name c.args.site.now c.recover.new.site c.clean_read.new.site c.clean_read.result c.clean_read.ensures.unmoved (λ told begun m. c.in-Ok.ensures.same told begun m)

pub returns-in-Err-clause-reads : goal.returns-in-Err-clause-reads
returns-in-Err-clause-reads g c told uncut begun =
    reads_all c.args.name (g.S.Site.files c.args.site.now) (g.S.Site.files c.recover.new.site)
    (c.in-Err.ensures.unchanged told (unread_damage c.in-Err.why (subst (λ (r : CleanRefused). IsCutFor r.why → ⊥) c.unread.ensures uncut))) (c.recover.ensures.others told)

pub returns-in-Ok-clause-unread : goal.returns-in-Ok-clause-unread
returns-in-Ok-clause-unread g c =
    never_unread g.S.Site.tells (LeavesOnly g.S.Site.moment g.S.Site.images_since c.args.site.now c.clean_read.new.site (IsBefore c.args.name (g.S.Site.files c.args.site.now c.args.name) (g.S.Site.may_leave c.args.site.now))) c.clean_read.result c.clean_read.ensures.behind

pub returns-in-Err-clause-unread : goal.returns-in-Err-clause-unread
returns-in-Err-clause-unread g c told unread =
    read_moments g.S.Site.files g.S.Site.may_leave g.S.Site.moment g.S.Site.images_since c.args.name c.args.site.now c.recover.new.site (c.recover.ensures.any_moment told)

pub returns-in-Ok-clause-before : goal.returns-in-Ok-clause-before
returns-in-Ok-clause-before g c =
    unmoved_before g.S.Site.tells g.S.Site.moment g.S.Site.images_since (IsBefore c.args.name (g.S.Site.files c.args.site.now c.args.name) (g.S.Site.may_leave c.args.site.now)) c.args.site.now c.recover.new.site c.clean_read.new.site c.clean_read.result c.clean_read.ensures.unmoved
    (λ told. read_moments g.S.Site.files g.S.Site.may_leave g.S.Site.moment g.S.Site.images_since c.args.name c.args.site.now c.recover.new.site (c.recover.ensures.any_moment told))

pub returns-in-Err-clause-before : goal.returns-in-Err-clause-before
returns-in-Err-clause-before g c told uncut =
    read_moments g.S.Site.files g.S.Site.may_leave g.S.Site.moment g.S.Site.images_since c.args.name c.args.site.now c.recover.new.site (c.recover.ensures.any_moment told)

pub returns-in-Ok-clause-cause : goal.returns-in-Ok-clause-cause
returns-in-Ok-clause-cause g c =
    risen_since (g.S.Site.count c.args.site.now) (g.S.Site.count c.recover.new.site) (g.S.Site.count c.clean_read.new.site) c.clean_read.result c.recover.ensures.later c.clean_read.ensures.cause

pub returns-in-Err-clause-cause : goal.returns-in-Err-clause-cause
returns-in-Err-clause-cause g c is = c.in-Err.ensures.cause (ap Err (unread_site c.in-Err.why (subst (λ (r : CleanRefused). IsOfSite r.why) c.unread.ensures is)))
