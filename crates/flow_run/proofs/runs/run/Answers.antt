use Rattle.std.proofs.Common.{◌≡◌, ◌∙◌, arith, length, refl, sym, true, true≢false}
use Rattle.std.specs.Prelude.{sum_by}
use Rattle.flow_types.specs.Serial.{serial}
use Rattle.desk.specs.Kept.{Fits}
use Rattle.worker_pool.specs.Crews.{AllTell}
use Rattle.local_run.specs.Course.{TellsJobs}
use Rattle.local_run.specs.Runs.{Held, IsCutRun, IsKeeping, IsStanding, SerialFits, read_sources}
use Rattle.local_run.specs.Ends.{run_fault}
use Rattle.local_run.proofs.Done.{all_done}
use Rattle.local_run.proofs.Results.{closed_admitted, idle_spent}
use Rattle.local_run.proofs.Fitting.{adds_always, keeps_fits, standing_keeps, trusted_keeps, was_fits}
use Rattle.flow_run.proofs.Reaching.{all_complete, all_reached}
use Rattle.flow_run.proofs.runs.run.Goals as goal

pub run_by-requires-clause-before : goal.run_by-requires-clause-before
run_by-requires-clause-before g c κs within told kept image was = was

pub run_by-requires-clause-kept : goal.run_by-requires-clause-kept
run_by-requires-clause-kept g c κs within told kept image is =
    trusted_keeps (g.S.Site.tells
    × IsKeeping c.args.plan c.args.log.name c.args.history (g.S.Site.may_leave c.args.site)
    × IsStanding g.F.Commands.gives (read_sources c.args.plan (g.S.Site.files c.args.site)) c.args.plan c.args.log.name c.args.history (g.S.Site.may_leave c.args.site)
    × TellsJobs c.args.plan c.args.options (AllTell g.R.Runner.tells c.args.runners.now) (serial c.args.plan g.F.Commands.gives (read_sources c.args.plan (g.S.Site.files c.args.site)))
    × (c.args.options.wq ≡ true → g.H.Hall.honest c.args.hall.now)) g.F.Commands.gives (read_sources c.args.plan (g.S.Site.files c.args.site)) c.args.plan c.args.log.name c.args.history (g.S.Site.may_leave c.args.site) (λ trusted. trusted.2) kept image is

pub run_by-requires-clause-sources : goal.run_by-requires-clause-sources
run_by-requires-clause-sources g c κs within told kept trusted empty f is = refl

pub run_by-requires-clause-relied : goal.run_by-requires-clause-relied
run_by-requires-clause-relied g c κs within = record { relies = λ trusted. trusted; trusts = λ trusted. trusted; plan_is = refl; options_is = refl; run_is = refl; due_is = refl }

pub run_by-requires-clause-honest : goal.run_by-requires-clause-honest
run_by-requires-clause-honest g c κs within trusted = trusted.4

pub run_by-requires-clause-keen : goal.run_by-requires-clause-keen
run_by-requires-clause-keen g c κs within link beyond is = absurd (let none : link ≡ 0 = is in omega (arith, beyond, none))

pub run_by-requires-clause-base : goal.run_by-requires-clause-base
run_by-requires-clause-base g c κs within trusted = (trusted.0, trusted.1, trusted.3)

pub returns-clause-kept : goal.returns-clause-kept
returns-clause-kept g c told keeping image left =
    was_fits (Fits (g.S.Site.tells
    × IsKeeping c.args.plan c.args.log.name c.args.history (g.S.Site.may_leave c.args.site)
    × IsStanding g.F.Commands.gives (read_sources c.args.plan (g.S.Site.files c.args.site)) c.args.plan c.args.log.name c.args.history (g.S.Site.may_leave c.args.site)
    × TellsJobs c.args.plan c.args.options (AllTell g.R.Runner.tells c.args.runners.now) (serial c.args.plan g.F.Commands.gives (read_sources c.args.plan (g.S.Site.files c.args.site)))
    × (c.args.options.wq ≡ true → g.H.Hall.honest c.args.hall.now)) g.F.Commands.gives (read_sources c.args.plan (g.S.Site.files c.args.site))) Held c.args.plan c.args.log.name (λ f content file fit. fit.0) (g.S.Site.images_since c.args.site g.B.Born.born image) (length c.args.history) c.run_by.result.records (IsCutRun c.run_by.result.how) image
    (c.run_by.ensures.kept told keeping image left)

pub returns-clause-now : goal.returns-clause-now
returns-clause-now g c told keeping whole image now =
    keeps_fits (Fits (g.S.Site.tells
    × IsKeeping c.args.plan c.args.log.name c.args.history (g.S.Site.may_leave c.args.site)
    × IsStanding g.F.Commands.gives (read_sources c.args.plan (g.S.Site.files c.args.site)) c.args.plan c.args.log.name c.args.history (g.S.Site.may_leave c.args.site)
    × TellsJobs c.args.plan c.args.options (AllTell g.R.Runner.tells c.args.runners.now) (serial c.args.plan g.F.Commands.gives (read_sources c.args.plan (g.S.Site.files c.args.site)))
    × (c.args.options.wq ≡ true → g.H.Hall.honest c.args.hall.now)) g.F.Commands.gives (read_sources c.args.plan (g.S.Site.files c.args.site))) Held c.args.plan c.args.log.name (λ f content file fit. fit.0) c.run_by.result.records image (c.run_by.ensures.now told keeping whole image now)

pub returns-clause-serial : goal.returns-clause-serial
returns-clause-serial g c honest told standing tells image left =
    let keeping = standing_keeps g.F.Commands.gives (read_sources c.args.plan (g.S.Site.files c.args.site)) c.args.plan c.args.log.name c.args.history (g.S.Site.may_leave c.args.site) standing in
    was_fits (Fits (g.S.Site.tells
    × IsKeeping c.args.plan c.args.log.name c.args.history (g.S.Site.may_leave c.args.site)
    × IsStanding g.F.Commands.gives (read_sources c.args.plan (g.S.Site.files c.args.site)) c.args.plan c.args.log.name c.args.history (g.S.Site.may_leave c.args.site)
    × TellsJobs c.args.plan c.args.options (AllTell g.R.Runner.tells c.args.runners.now) (serial c.args.plan g.F.Commands.gives (read_sources c.args.plan (g.S.Site.files c.args.site)))
    × (c.args.options.wq ≡ true → g.H.Hall.honest c.args.hall.now)) g.F.Commands.gives (read_sources c.args.plan (g.S.Site.files c.args.site))) (SerialFits g.F.Commands.gives (read_sources c.args.plan (g.S.Site.files c.args.site))) c.args.plan c.args.log.name (λ f content file fit. (fit.0, fit.1 (told, keeping, standing, tells, honest))) (g.S.Site.images_since c.args.site g.B.Born.born image)
    (length c.args.history) c.run_by.result.records (IsCutRun c.run_by.result.how) image (c.run_by.ensures.kept told keeping image left)

pub returns-clause-more : goal.returns-clause-more
returns-clause-more g c honest told standing tells =
    adds_always (g.S.Site.tells
    × IsKeeping c.args.plan c.args.log.name c.args.history (g.S.Site.may_leave c.args.site)
    × IsStanding g.F.Commands.gives (read_sources c.args.plan (g.S.Site.files c.args.site)) c.args.plan c.args.log.name c.args.history (g.S.Site.may_leave c.args.site)
    × TellsJobs c.args.plan c.args.options (AllTell g.R.Runner.tells c.args.runners.now) (serial c.args.plan g.F.Commands.gives (read_sources c.args.plan (g.S.Site.files c.args.site)))
    × (c.args.options.wq ≡ true → g.H.Hall.honest c.args.hall.now)) g.F.Commands.gives g.F.Commands.may_fail (read_sources c.args.plan (g.S.Site.files c.args.site)) c.args.plan c.args.history c.run_by.result.records (told, standing_keeps g.F.Commands.gives (read_sources c.args.plan (g.S.Site.files c.args.site)) c.args.plan c.args.log.name c.args.history (g.S.Site.may_leave c.args.site) standing, standing, tells, honest) c.run_by.ensures.more

pub returns-clause-grows : goal.returns-clause-grows
returns-clause-grows g c = (c.run_by.ensures.more.more, c.run_by.ensures.more.are)

pub returns-clause-spent : goal.returns-clause-spent
returns-clause-spent g c closed =
    idle_spent c.args.plan c.run_by.result.records (c.run_by.ensures.legal (closed_admitted c.run_by.result.how closed)) (c.run_by.ensures.idle closed)

pub returns-clause-closed : goal.returns-clause-closed
returns-clause-closed g c here = c.run_by.ensures.ending here

pub returns-clause-whole : goal.returns-clause-whole
returns-clause-whole g c told keeping = c.run_by.ensures.whole told keeping

pub returns-clause-completes : goal.returns-clause-completes
returns-clause-completes g c told standing tells here fit room free sure stood =
    let keeping = (standing_keeps g.F.Commands.gives (read_sources c.args.plan (g.S.Site.files c.args.site)) c.args.plan c.args.log.name c.args.history (g.S.Site.may_leave c.args.site) standing) in
    all_done c.args.options.limit (run_fault c.args.plan c.args.options c.args.history (g.S.Site.files c.args.site)) c.run_by.result.how (g.S.Site.count c.args.site) (g.S.Site.count c.run_by.result.site)
    (sum_by g.R.Runner.count c.args.runners.now) (sum_by g.R.Runner.count c.run_by.new.runners) (c.run_by.ensures.starts told) free (c.run_by.ensures.whole told keeping) (c.run_by.ensures.sure here.here sure) c.run_by.ensures.causes stood
    (λ is. true≢false (sym (c.run_by.ensures.hall is).0 ∙ here.here))
    (c.run_by.ensures.completes here told keeping (told, keeping, standing, tells, (λ is. absurd (true≢false (sym is ∙ here.here)))) fit room sure)

pub returns-clause-reaches : goal.returns-clause-reaches
returns-clause-reaches g c away tells honest surely sure few told standing jobs fit room free stood met =
    let keeping = (standing_keeps g.F.Commands.gives (read_sources c.args.plan (g.S.Site.files c.args.site)) c.args.plan c.args.log.name c.args.history (g.S.Site.may_leave c.args.site) standing) in
    all_reached c.args.options.limit (run_fault c.args.plan c.args.options c.args.history (g.S.Site.files c.args.site)) c.run_by.result.how (g.S.Site.count c.args.site) (g.S.Site.count c.run_by.result.site)
    (sum_by g.R.Runner.count c.args.runners.now) (sum_by g.R.Runner.count c.run_by.new.runners) (c.run_by.ensures.starts told) free (c.run_by.ensures.whole told keeping) (c.run_by.ensures.never sure) c.run_by.ensures.causes stood
    (λ is. (let rose = (c.run_by.ensures.hall is).1 in let wrong : ⊥ = omega (arith, rose, met) in wrong))
    (c.run_by.ensures.reaches away tells surely sure few told keeping (told, keeping, standing, jobs, (λ is. honest)) fit room)

pub returns-clause-manned : goal.returns-clause-manned
returns-clause-manned g c away least tells honest surely manned sure few once needs told standing jobs fit room free stood met =
    let keeping = (standing_keeps g.F.Commands.gives (read_sources c.args.plan (g.S.Site.files c.args.site)) c.args.plan c.args.log.name c.args.history (g.S.Site.may_leave c.args.site) standing) in
    all_complete c.args.options.limit (run_fault c.args.plan c.args.options c.args.history (g.S.Site.files c.args.site)) c.run_by.result.how (g.S.Site.count c.args.site) (g.S.Site.count c.run_by.result.site)
    (sum_by g.R.Runner.count c.args.runners.now) (sum_by g.R.Runner.count c.run_by.new.runners) (c.run_by.ensures.starts told) free (c.run_by.ensures.whole told keeping) (c.run_by.ensures.never sure) c.run_by.ensures.causes stood
    (λ is. (let rose = (c.run_by.ensures.hall is).1 in let wrong : ⊥ = omega (arith, rose, met) in wrong))
    (c.run_by.ensures.manned away least tells surely manned sure few once needs told keeping (told, keeping, standing, jobs, (λ is. honest)) fit room)
