use Rattle.std.proofs.Common.{List, Err, ap, refl, sym, subst}
use Rattle.flow_types.specs.declared.records.Record.{Record}
use Rattle.desk.specs.Kept.{Keeps}
use Rattle.local_run.specs.Runs.{Held, SerialFits}
use Rattle.local_run.proofs.Joining.{is_named, keeping}
use Rattle.cleaning.specs.declared.answers.LookRefused.{LookRefused}
use Rattle.cleaning.specs.Looks.{IsCutFault, IsSiteFault, LookEnds, ReadsLog, WasRead}
use Rattle.cleaning.proofs.Looked.{look_ends, look_legal, look_reads, unread_damage, unread_ends, unread_site}
use Rattle.cleaning.proofs.Reading.{read_alone, read_keeps, read_moments, reads_all}
use Rattle.cleaning.proofs.looking.look.Goals as goal

pub returns-in-Ok-clause-log : goal.returns-in-Ok-clause-log
returns-in-Ok-clause-log g c told = look_reads c.args.plan.now c.in-Ok.records (g.S.Site.files c.args.site.now c.args.name) c.look_over.result (c.in-Ok.ensures.answer told) c.look_over.ensures

pub returns-in-Err-clause-log : goal.returns-in-Err-clause-log
returns-in-Err-clause-log g c told = subst (λ (r : LookRefused). ReadsLog (g.S.Site.files c.args.site.now c.args.name) (Err r)) (sym c.unread.ensures) (c.in-Err.ensures.answer told)

pub returns-in-Ok-clause-ends : goal.returns-in-Ok-clause-ends
returns-in-Ok-clause-ends g c told H spelled = look_ends c.args.plan.now c.in-Ok.records H c.look_over.result (c.in-Ok.ensures.exact told H spelled) c.look_over.ensures

pub returns-in-Err-clause-ends : goal.returns-in-Err-clause-ends
returns-in-Err-clause-ends g c told H spelled =
    subst (λ (r : LookRefused). LookEnds c.args.plan.now H (Err r)) (sym c.unread.ensures) (unread_ends c.args.plan.now H c.in-Err.why (c.in-Err.ensures.exact told H spelled), refl)

pub returns-in-Ok-clause-legal : goal.returns-in-Ok-clause-legal
returns-in-Ok-clause-legal g c = look_legal c.args.plan.now c.in-Ok.records c.look_over.result c.look_over.ensures

pub returns-in-Ok-clause-moments : goal.returns-in-Ok-clause-moments
returns-in-Ok-clause-moments g c told = read_moments g.S.Site.files g.S.Site.may_leave g.S.Site.moment g.S.Site.images_since c.args.name c.args.site.now c.recover.new.site (c.recover.ensures.any_moment told)

pub returns-in-Err-clause-moments : goal.returns-in-Err-clause-moments
returns-in-Err-clause-moments g c told = read_moments g.S.Site.files g.S.Site.may_leave g.S.Site.moment g.S.Site.images_since c.args.name c.args.site.now c.recover.new.site (c.recover.ensures.any_moment told)

pub returns-in-Ok-clause-resumable : goal.returns-in-Ok-clause-resumable
returns-in-Ok-clause-resumable g c told some = read_keeps g.S.Site.files g.S.Site.may_leave g.S.Site.moment g.S.Site.images_since c.args.name c.args.site.now c.recover.new.site (c.recover.ensures.any_moment told) c.args.plan.now some

pub returns-in-Err-clause-resumable : goal.returns-in-Err-clause-resumable
returns-in-Err-clause-resumable g c told some = read_keeps g.S.Site.files g.S.Site.may_leave g.S.Site.moment g.S.Site.images_since c.args.name c.args.site.now c.recover.new.site (c.recover.ensures.any_moment told) c.args.plan.now some

pub returns-in-Ok-clause-kept : goal.returns-in-Ok-clause-kept
returns-in-Ok-clause-kept g c told H spelled resumable read image now =
    subst (λ (K : List Record). Keeps Held c.args.plan.now c.args.name K image) (c.in-Ok.ensures.exact told H spelled)
    (is_named g.S.Site.may_leave g.S.Site.moment g.S.Site.images_since c.args.plan.now c.args.name c.in-Ok.log.name c.in-Ok.ensures.named.same_name c.in-Ok.records H (c.in-Ok.ensures.exact told H spelled) (g.S.Site.files c.args.site.now) c.args.site.now c.recover.new.site Held c.in-Ok.records image
    (keeping g.S.Site.may_leave g.S.Site.moment g.S.Site.images_since c.args.plan.now c.args.name c.in-Ok.log.name c.in-Ok.ensures.named.same_name c.in-Ok.records H (c.in-Ok.ensures.exact told H spelled) (g.S.Site.files c.args.site.now) c.args.site.now c.recover.new.site Held c.requires.apart c.files_spell_one_list.ensures.one ((g.met.S.Site g.world.𝓛 g.world.𝓜 g.world.𝓡 ((λ s x. x), (λ x. x), (λ x. x), λ x. x)).reads_image told c.args.site.now c.args.name) (c.in-Ok.ensures.answer told) (c.in-Ok.ensures.stands told).at.each (c.recover.ensures.crash told) resumable image now))

pub returns-in-Err-clause-kept : goal.returns-in-Err-clause-kept
returns-in-Err-clause-kept g c told H spelled resumable read image now = absurd (subst (λ (r : LookRefused). WasRead r.why) c.unread.ensures read)

pub returns-in-Ok-clause-contents : goal.returns-in-Ok-clause-contents
returns-in-Ok-clause-contents g c told H spelled gives sources resumable read image now =
    subst (λ (K : List Record). Keeps (SerialFits gives sources) c.args.plan.now c.args.name K image) (c.in-Ok.ensures.exact told H spelled)
    (is_named g.S.Site.may_leave g.S.Site.moment g.S.Site.images_since c.args.plan.now c.args.name c.in-Ok.log.name c.in-Ok.ensures.named.same_name c.in-Ok.records H (c.in-Ok.ensures.exact told H spelled) (g.S.Site.files c.args.site.now) c.args.site.now c.recover.new.site (SerialFits gives sources) c.in-Ok.records image
    (keeping g.S.Site.may_leave g.S.Site.moment g.S.Site.images_since c.args.plan.now c.args.name c.in-Ok.log.name c.in-Ok.ensures.named.same_name c.in-Ok.records H (c.in-Ok.ensures.exact told H spelled) (g.S.Site.files c.args.site.now) c.args.site.now c.recover.new.site (SerialFits gives sources) c.requires.apart c.files_spell_one_list.ensures.one ((g.met.S.Site g.world.𝓛 g.world.𝓜 g.world.𝓡 ((λ s x. x), (λ x. x), (λ x. x), λ x. x)).reads_image told c.args.site.now c.args.name) (c.in-Ok.ensures.answer told) (c.in-Ok.ensures.stands told).at.each (c.recover.ensures.crash told) resumable image now))

pub returns-in-Err-clause-contents : goal.returns-in-Err-clause-contents
returns-in-Err-clause-contents g c told H spelled gives sources resumable read image now = absurd (subst (λ (r : LookRefused). WasRead r.why) c.unread.ensures read)

pub returns-in-Ok-clause-others : goal.returns-in-Ok-clause-others
returns-in-Ok-clause-others g c told = read_alone g.S.Site.files g.S.Site.may_leave g.S.Site.moment g.S.Site.images_since c.args.name c.args.site.now c.recover.new.site (c.recover.ensures.any_moment told) (c.recover.ensures.crash told) (c.recover.ensures.others told)

pub returns-in-Err-clause-others : goal.returns-in-Err-clause-others
returns-in-Err-clause-others g c told = read_alone g.S.Site.files g.S.Site.may_leave g.S.Site.moment g.S.Site.images_since c.args.name c.args.site.now c.recover.new.site (c.recover.ensures.any_moment told) (c.recover.ensures.crash told) (c.recover.ensures.others told)

pub returns-in-Ok-clause-reads : goal.returns-in-Ok-clause-reads
returns-in-Ok-clause-reads g c told uncut begun m = c.in-Ok.ensures.same told begun m

pub returns-in-Err-clause-reads : goal.returns-in-Err-clause-reads
returns-in-Err-clause-reads g c told uncut begun =
    reads_all c.args.name (g.S.Site.files c.args.site.now) (g.S.Site.files c.recover.new.site)
    (c.in-Err.ensures.unchanged told (unread_damage c.in-Err.why (subst (λ (r : LookRefused). IsCutFault r.why → ⊥) c.unread.ensures uncut))) (c.recover.ensures.others told)

pub returns-in-Err-clause-cause : goal.returns-in-Err-clause-cause
returns-in-Err-clause-cause g c is = c.in-Err.ensures.cause (ap Err (unread_site c.in-Err.why (subst (λ (r : LookRefused). IsSiteFault r.why) c.unread.ensures is)))
