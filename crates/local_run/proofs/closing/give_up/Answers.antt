use Rattle.std.proofs.Common.{Err, refl, subst}
use Rattle.flow_types.specs.declared.records.Record.TheVariants as records
use Rattle.run_history.specs.Admissions.{stop_by}
use Rattle.run_history.specs.declared.answers.Stop.TheVariants as stops
use Rattle.desk.specs.declared.answers.CloseRefused.{CloseRefused}
use Rattle.desk.specs.State.{Closes}
use Rattle.local_run.specs.Underway.{IsSurePool}
use Rattle.local_run.proofs.Closings.{halts_now, is_broken}
use Rattle.local_run.proofs.RunsClosed.{lost_ending}
use Rattle.local_run.proofs.UnderClosed.{closes_plain, give_up_goes, lost_stops, stopped_memory, stopped_site}
use Rattle.local_run.proofs.closing.give_up.Goals as goal

pub returns-in-Ok-clause-underway : goal.returns-in-Ok-clause-underway
returns-in-Ok-clause-underway g c away first held waiting heard halt u stop =
    let d = c.args.desk.now in
    let mid = c.stop_by-stops.new.self in
    let after = c.lose.new.self in
    let a = c.args.attempt in
    let k = stop_by g.A.Admission.admitted d.plan d.options d.moves d.stop stops.Halt in
    let x = records.Lost c.now.result a.rule a.number in
    let goes = give_up_goes g.T.Terms.trust g.F.Commands.gives g.F.Commands.may_fail g.T.Terms.sources g.S.Site.tells g.T.Terms.kept (IsSurePool g.B.Terms.fits) g.S.Site.files g.S.Site.may_leave g.S.Site.moment g.S.Site.images_since away g.S.Site.count d mid after k a c.now.result c.lose.result c.stop_by-stops.ensures.stop (λ none. halts_now g.A.Admission.admitted d.plan d.options d.moves d.stop none) c.lose.ensures.others c.lose.ensures.reads c.lose.ensures.reply in
    closes_plain g.T.Terms.trust g.F.Commands.gives g.F.Commands.may_fail g.T.Terms.sources g.S.Site.tells g.T.Terms.kept (IsSurePool g.B.Terms.fits) g.S.Site.files g.S.Site.may_leave g.S.Site.moment g.S.Site.images_since away g.S.Site.count first d mid after k a x c.lose.result held waiting heard halt _ (lost_ending c.now.result a.rule a.number) refl c.stop_by-stops.ensures.stop goes c.lose.ensures.reply
    (lost_stops g.T.Terms.trust g.F.Commands.gives g.F.Commands.may_fail g.T.Terms.sources g.S.Site.tells g.T.Terms.kept (IsSurePool g.B.Terms.fits) g.S.Site.files g.S.Site.may_leave g.S.Site.moment g.S.Site.images_since away g.S.Site.count d mid after k a x c.lose.result heard c.args.why c.requires.valid (lost_ending c.now.result a.rule a.number) c.stop_by-stops.ensures.stop c.in-Ok.is c.lose.ensures.reply goes c.requires.runs c.lose.ensures.reads stop)
    (λ going. absurd going) u

pub returns-in-Err-Broken-clause-underway : goal.returns-in-Err-Broken-clause-underway
returns-in-Err-Broken-clause-underway g c away first held waiting heard halt u stop =
    let d = c.args.desk.now in
    let mid = c.stop_by-stops.new.self in
    let after = c.lose.new.self in
    let a = c.args.attempt in
    let k = stop_by g.A.Admission.admitted d.plan d.options d.moves d.stop stops.Halt in
    let x = records.Lost c.now.result a.rule a.number in
    let goes = give_up_goes g.T.Terms.trust g.F.Commands.gives g.F.Commands.may_fail g.T.Terms.sources g.S.Site.tells g.T.Terms.kept (IsSurePool g.B.Terms.fits) g.S.Site.files g.S.Site.may_leave g.S.Site.moment g.S.Site.images_since away g.S.Site.count d mid after k a c.now.result c.lose.result c.stop_by-stops.ensures.stop (λ none. halts_now g.A.Admission.admitted d.plan d.options d.moves d.stop none) c.lose.ensures.others c.lose.ensures.reads c.lose.ensures.reply in
    closes_plain g.T.Terms.trust g.F.Commands.gives g.F.Commands.may_fail g.T.Terms.sources g.S.Site.tells g.T.Terms.kept (IsSurePool g.B.Terms.fits) g.S.Site.files g.S.Site.may_leave g.S.Site.moment g.S.Site.images_since away g.S.Site.count first d mid after k a x c.lose.result held waiting heard halt _ (lost_ending c.now.result a.rule a.number) refl c.stop_by-stops.ensures.stop goes c.lose.ensures.reply
    (stopped_site g.S.Site.tells g.T.Terms.kept (IsSurePool g.B.Terms.fits) g.S.Site.files after heard
    (is_broken g.S.Site.count mid _ _ after (subst (λ (w : CloseRefused). Closes g.S.Site.count mid a.rule a.number a.link x (Err w) after) c.in-Err-Broken.field-0-is c.in-Err-Broken.ensures.reply)))
    (λ going. absurd going) u

pub returns-in-Err-Memory-clause-underway : goal.returns-in-Err-Memory-clause-underway
returns-in-Err-Memory-clause-underway g c away first held waiting heard halt u stop =
    let d = c.args.desk.now in
    let mid = c.stop_by-stops.new.self in
    let after = c.lose.new.self in
    let a = c.args.attempt in
    let k = stop_by g.A.Admission.admitted d.plan d.options d.moves d.stop stops.Halt in
    let x = records.Lost c.now.result a.rule a.number in
    let goes = give_up_goes g.T.Terms.trust g.F.Commands.gives g.F.Commands.may_fail g.T.Terms.sources g.S.Site.tells g.T.Terms.kept (IsSurePool g.B.Terms.fits) g.S.Site.files g.S.Site.may_leave g.S.Site.moment g.S.Site.images_since away g.S.Site.count d mid after k a c.now.result c.lose.result c.stop_by-stops.ensures.stop (λ none. halts_now g.A.Admission.admitted d.plan d.options d.moves d.stop none) c.lose.ensures.others c.lose.ensures.reads c.lose.ensures.reply in
    closes_plain g.T.Terms.trust g.F.Commands.gives g.F.Commands.may_fail g.T.Terms.sources g.S.Site.tells g.T.Terms.kept (IsSurePool g.B.Terms.fits) g.S.Site.files g.S.Site.may_leave g.S.Site.moment g.S.Site.images_since away g.S.Site.count first d mid after k a x c.lose.result held waiting heard halt _ (lost_ending c.now.result a.rule a.number) refl c.stop_by-stops.ensures.stop goes c.lose.ensures.reply
    (stopped_memory g.S.Site.tells g.T.Terms.kept (IsSurePool g.B.Terms.fits) g.S.Site.files after heard)
    (λ going. absurd going) u
