use Rattle.std.proofs.Common.{None, Option, Some, [], ap, arith, false, refl, rules, subst, sym, true≢false, ◌-◌, ◌∙◌, ◌≡◌}
use Rattle.std.specs.Prelude.{sum_by}
use Rattle.worker_pool.specs.Crews.{AllSure}
use Rattle.wq_run.specs.Seats.{AreSeats, CompanyState, gathered, links_in}
use Rattle.wq_run.specs.Dues.{IsIllLink}
use Rattle.flow_types.specs.declared.plan.Plan.{Plan}
use Rattle.run_history.specs.declared.options.Options.{Options}
use Rattle.wq_run.proofs.Manned.{company_begins, manned_whole, none_asked, same_asked, stated_ended}
use Rattle.wq_run.proofs.Services.{met_then}
use Rattle.wq_run.proofs.Working.{are_back, damage_by, ends_by_waiting, spared_by, stops_by, whole_by}
use Rattle.run_history.specs.Links.{records_of}
use Rattle.wq_run.specs.Vain.{NeedsAtMost}
use Rattle.wq_run.proofs.Duly.{due_whole, results_whole}
use Rattle.wq_run.proofs.Heards.{ok_step}
use Rattle.wq_run.proofs.Whole.{vain_whole}
use Rattle.wq_run.specs.Calm.{Asked, IsComing, IsSureOf, IsSureCompany, IsUnmet}
use Rattle.wq_run.proofs.Added.{run_wants}
use Rattle.wq_run.proofs.Calmly.{calm_ended, calm_whole, few_whole}
use Rattle.wq_run.proofs.course.work.Goals as goal

pub run_all-done-requires-clause-on : goal.run_all-done-requires-clause-on
run_all-done-requires-clause-on g c κs within = record { fine = c.requires.fine; unset = c.requires.unset; unended = c.requires.unended }

pub run_all-done-requires-clause-seats : goal.run_all-done-requires-clause-seats
run_all-done-requires-clause-seats g c κs within = subst (λ (x : CompanyState g.row.H-Way.Denot). AreSeats c.args.desk.now.plan c.args.desk.now.options c.args.desk.now.moves x.seats) (sym c.new-company.ensures) tt

pub run_all-done-requires-clause-none : goal.run_all-done-requires-clause-none
run_all-done-requires-clause-none g c κs within = ap (λ (x : CompanyState g.row.H-Way.Denot). gathered x.seats) c.new-company.ensures

pub run_all-done-requires-clause-listens : goal.run_all-done-requires-clause-listens
run_all-done-requires-clause-listens g c κs within = record { coming = c.requires.listens; fair = c.requires.honest }

pub disband-requires-clause-none : goal.disband-requires-clause-none
disband-requires-clause-none g c κs within = c.run_all-done.ensures.none

pub returns-then-has_lost : goal.returns-then-has_lost
returns-then-has_lost g c =
    let w = c.run_all-done.ensures.works (g.H.Hall.count c.args.hall.now) (omega arith) (λ failed. absurd (true≢false (sym failed ∙ ap (λ (x : CompanyState g.row.H-Way.Denot). x.failed) c.new-company.ensures))) in
    let met = w.met in
    let last = c.disband.ensures.met.later in
    let looks = w.looks in
    let looked = c.disband.ensures.met.idles_later in
    record {
      goes = (w.links, w.goes);
      idle = w.idle;
      stops = tt;
      added = run_wants (records_of c.args.desk.now.moves) (records_of c.run_all-done.new.desk.moves) c.run_all-done.result w.adds;
      later = w.later;
      risen = w.risen;
      met = omega (arith, met, last);
      listens = (c.disband.ensures.listens c.run_all-done.ensures.listens).coming;
      damage = λ told apart. tt;
      whole = λ told keeps. tt;
      never = λ is. tt;
      lost = tt;
      due_losses = λ tells first. tt;
      results = λ tells. tt;
      vain = λ tells first. tt;
      ends = tt;
      back = λ uncut. absurd (uncut tt);
      manned = λ least tells first sure manned all few limited most. tt;
      calm = λ tells first sure all few. tt;
      stays = c.run_all-done.ensures.stays;
    }

pub returns : goal.returns
returns g c =
    let w = c.run_all-done.ensures.works (g.H.Hall.count c.args.hall.now) (omega arith) (λ failed. absurd (true≢false (sym failed ∙ ap (λ (x : CompanyState g.row.H-Way.Denot). x.failed) c.new-company.ensures))) in
    let met = w.met in
    let last = c.disband.ensures.met.later in
    let looks = w.looks in
    let looked = c.disband.ensures.met.idles_later in
    record {
      goes = (w.links, w.goes);
      idle = w.idle;
      stops = stops_by g.A.Admission.admitted g.S.Site.tells g.T.Terms.kept (AllSure g.R.Runner.sure c.args.runners.now) g.S.Site.files c.args.workers.limit c.run_all-done.new.desk (sum_by g.R.Runner.count c.args.runners.now) (sum_by g.R.Runner.count c.run_all-done.new.runners) (g.H.Hall.count c.args.hall.now) (g.H.Hall.count c.run_all-done.new.hall) (g.H.Hall.idle_count c.args.hall.now) (g.H.Hall.idle_count c.run_all-done.new.hall) (g.H.Hall.count c.args.hall.now) (g.H.Hall.count c.disband.new.hall) c.run_all-done.result (omega arith) (omega (arith, last)) w.ended;
      added = w.adds;
      later = w.later;
      risen = w.risen;
      met = omega (arith, met, last);
      listens = (c.disband.ensures.listens c.run_all-done.ensures.listens).coming;
      damage = damage_by g.A.Admission.admitted g.S.Site.tells g.T.Terms.kept (AllSure g.R.Runner.sure c.args.runners.now) g.S.Site.files c.args.workers.limit c.run_all-done.new.desk (sum_by g.R.Runner.count c.args.runners.now) (sum_by g.R.Runner.count c.run_all-done.new.runners) (g.H.Hall.count c.args.hall.now) (g.H.Hall.count c.run_all-done.new.hall) (g.H.Hall.idle_count c.args.hall.now) (g.H.Hall.idle_count c.run_all-done.new.hall) c.run_all-done.result w.ended;
      whole = whole_by g.A.Admission.admitted g.S.Site.tells g.T.Terms.kept (AllSure g.R.Runner.sure c.args.runners.now) g.S.Site.files c.args.workers.limit c.run_all-done.new.desk (sum_by g.R.Runner.count c.args.runners.now) (sum_by g.R.Runner.count c.run_all-done.new.runners) (g.H.Hall.count c.args.hall.now) (g.H.Hall.count c.run_all-done.new.hall) (g.H.Hall.idle_count c.args.hall.now) (g.H.Hall.idle_count c.run_all-done.new.hall) c.run_all-done.result w.ended;
      never = spared_by g.A.Admission.admitted g.S.Site.tells g.T.Terms.kept (AllSure g.R.Runner.sure c.args.runners.now) g.S.Site.files c.args.workers.limit c.run_all-done.new.desk (sum_by g.R.Runner.count c.args.runners.now) (sum_by g.R.Runner.count c.run_all-done.new.runners) (g.H.Hall.count c.args.hall.now) (g.H.Hall.count c.run_all-done.new.hall) (g.H.Hall.idle_count c.args.hall.now) (g.H.Hall.idle_count c.run_all-done.new.hall) c.run_all-done.result w.ended;
      lost = w.lost;
      due_losses = λ tells first.
          let company : CompanyState g.row.H-Way.Denot = c.new-company.result in
          let none : company.seats ≡ [] = ap (λ (x : CompanyState g.row.H-Way.Denot). x.seats) c.new-company.ensures in
          let kept : c.disband.new.company.lost ≡ false = search rules in
          due_whole g.F.Commands.gives g.F.Commands.may_fail g.H.Way.Link.history g.H.Way.Link.count g.H.Way.Link.idle_count g.H.Way.Link.is_closed c.args.workers.limit c.args.desk.now.moves c.run_all-done.new.desk.moves company c.run_all-done.new.company c.disband.new.company (g.H.Hall.got c.args.hall.now) (g.H.Hall.got c.run_all-done.new.hall) (g.H.Hall.got c.disband.new.hall) c.run_all-done.result first none (ok_step c.run_all-done.result _ _ (λ keeps. keeps.due) (c.run_all-done.ensures.due tells)) c.run_all-done.ensures.sound (c.disband.ensures.due c.args.workers.limit c.run_all-done.new.desk.moves tells) c.disband.ensures.failed kept c.disband.ensures.seats;
      results = λ tells.
          let company : CompanyState g.row.H-Way.Denot = c.new-company.result in
          let none : company.seats ≡ [] = ap (λ (x : CompanyState g.row.H-Way.Denot). x.seats) c.new-company.ensures in
          let kept : c.disband.new.company.lost ≡ false = search rules in
          results_whole g.F.Commands.gives g.F.Commands.may_fail g.H.Way.Link.history g.H.Way.Link.count g.H.Way.Link.idle_count g.H.Way.Link.is_closed c.args.workers.limit c.args.desk.now.moves c.run_all-done.new.desk.moves company c.run_all-done.new.company c.disband.new.company (g.H.Hall.got c.args.hall.now) (g.H.Hall.got c.run_all-done.new.hall) (g.H.Hall.got c.disband.new.hall) c.run_all-done.result none (ok_step c.run_all-done.result _ _ (λ keeps. keeps.due) (c.run_all-done.ensures.due tells)) c.run_all-done.ensures.sound (c.disband.ensures.due c.args.workers.limit c.run_all-done.new.desk.moves tells) c.disband.ensures.failed kept c.disband.ensures.seats;
      vain = λ tells first.
          let company : CompanyState g.row.H-Way.Denot = c.new-company.result in
          let none : company.seats ≡ [] = ap (λ (x : CompanyState g.row.H-Way.Denot). x.seats) c.new-company.ensures in
          let kept : c.disband.new.company.lost ≡ false = search rules in
          vain_whole g.F.Commands.gives g.F.Commands.may_fail g.H.Way.Link.history g.H.Way.Link.count g.H.Way.Link.idle_count g.H.Way.Link.is_closed c.args.workers.limit g.A.Admission.admitted c.run_all-done.new.desk.plan c.run_all-done.new.desk.options c.args.workers.limit (g.H.Hall.idle_count c.disband.new.hall - g.H.Hall.idle_count c.args.hall.now) c.args.desk.now.moves c.run_all-done.new.desk.moves company c.run_all-done.new.company c.disband.new.company (g.H.Hall.got c.args.hall.now) (g.H.Hall.got c.run_all-done.new.hall) (g.H.Hall.got c.disband.new.hall) first none c.run_all-done.result
          (c.run_all-done.ensures.due tells) c.run_all-done.ensures.sound c.run_all-done.ensures.alone (ends_by_waiting g.A.Admission.admitted g.S.Site.tells g.T.Terms.kept (AllSure g.R.Runner.sure c.args.runners.now) g.S.Site.files c.args.workers.limit c.run_all-done.new.desk (sum_by g.R.Runner.count c.args.runners.now) (sum_by g.R.Runner.count c.run_all-done.new.runners) (g.H.Hall.count c.args.hall.now) (g.H.Hall.count c.run_all-done.new.hall) (g.H.Hall.idle_count c.args.hall.now) (g.H.Hall.idle_count c.run_all-done.new.hall) (g.H.Hall.idle_count c.args.hall.now) (g.H.Hall.idle_count c.disband.new.hall) c.run_all-done.result (omega arith) (omega (arith, looked)) w.ended) c.run_all-done.ensures.seats (c.disband.ensures.due c.args.workers.limit c.run_all-done.new.desk.moves tells) c.disband.ensures.failed kept c.disband.ensures.seats
          (λ alone lost. c.disband.ensures.hands tells alone lost);
      ends = ends_by_waiting g.A.Admission.admitted g.S.Site.tells g.T.Terms.kept (AllSure g.R.Runner.sure c.args.runners.now) g.S.Site.files c.args.workers.limit c.run_all-done.new.desk (sum_by g.R.Runner.count c.args.runners.now) (sum_by g.R.Runner.count c.run_all-done.new.runners) (g.H.Hall.count c.args.hall.now) (g.H.Hall.count c.run_all-done.new.hall) (g.H.Hall.idle_count c.args.hall.now) (g.H.Hall.idle_count c.run_all-done.new.hall) (g.H.Hall.idle_count c.args.hall.now) (g.H.Hall.idle_count c.disband.new.hall) c.run_all-done.result (omega arith) (omega (arith, looked)) w.ended;
      back = λ uncut.
          let company : CompanyState g.row.H-Way.Denot = c.new-company.result in
          let met = met_then c.run_all-done.ensures.met c.disband.ensures.met in
          let none : company.seats ≡ [] = ap (λ (x : CompanyState g.row.H-Way.Denot). x.seats) c.new-company.ensures in
          let empty : links_in company ≡ 0 = ap links_in c.new-company.ensures in
          let b = are_back (g.H.Hall.count c.args.hall.now) (g.H.Hall.count c.disband.new.hall) (g.H.Hall.got c.args.hall.now) (g.H.Hall.got c.disband.new.hall) (g.H.Hall.given c.args.hall.now) (g.H.Hall.given c.disband.new.hall) (g.H.Hall.idle_count c.args.hall.now) (g.H.Hall.idle_count c.disband.new.hall)
          company c.disband.new.company c.disband.ensures.seats c.disband.ensures.guests none empty (search rules) met in
          b;
      calm = λ tells first sure all few.
          let company : CompanyState g.row.H-Way.Denot = c.new-company.result in
          let none : company.seats ≡ [] = ap (λ (x : CompanyState g.row.H-Way.Denot). x.seats) c.new-company.ensures in
          let kept : c.disband.new.company.lost ≡ false = search rules in
          let asked : Option Asked = None in
          let began : IsSureCompany g.F.Commands.gives g.F.Commands.may_fail g.H.Way.Link.history g.H.Way.Link.idle_count (IsSureOf g.H.Way.Link.sure g.H.Way.Link.offers asked) (IsComing g.H.Hall.sure g.H.Hall.staffed asked c.args.hall.now) (IsUnmet g.H.Hall.manned g.H.Hall.idle_count asked c.args.hall.now) c.args.desk.now.moves company =
          company_begins g.F.Commands.gives g.F.Commands.may_fail g.H.Way.Link.history g.H.Way.Link.idle_count (IsSureOf g.H.Way.Link.sure g.H.Way.Link.offers asked) c.args.desk.now.moves company c.new-company.ensures first
          (record { surely = sure; offering = λ a so. absurd (none_asked a so) }) (record { still = λ a so. absurd (none_asked a so) }) in
          let room = few_whole g.F.Commands.gives g.F.Commands.may_fail g.H.Way.Link.history g.H.Way.Link.count g.H.Way.Link.idle_count g.H.Way.Link.is_closed c.args.workers.limit c.args.desk.now.moves c.run_all-done.new.desk.moves company c.run_all-done.new.company c.disband.new.company (g.H.Hall.got c.args.hall.now) (g.H.Hall.got c.run_all-done.new.hall) (g.H.Hall.got c.disband.new.hall) c.run_all-done.result first none (ok_step c.run_all-done.result _ _ (λ keeps. keeps.due) (c.run_all-done.ensures.due tells)) c.run_all-done.ensures.sound (c.disband.ensures.due c.args.workers.limit c.run_all-done.new.desk.moves tells) c.disband.ensures.failed kept c.disband.ensures.seats
          few in
          calm_whole (IsSureCompany g.F.Commands.gives g.F.Commands.may_fail g.H.Way.Link.history g.H.Way.Link.idle_count (IsSureOf g.H.Way.Link.sure g.H.Way.Link.offers asked) (IsComing g.H.Hall.sure g.H.Hall.staffed asked c.run_all-done.new.hall) (IsUnmet g.H.Hall.manned g.H.Hall.idle_count asked c.run_all-done.new.hall) c.run_all-done.new.desk.moves c.run_all-done.new.company) c.args.desk.now.moves c.run_all-done.new.desk.moves company c.run_all-done.new.company c.run_all-done.result (c.run_all-done.ensures.calm asked tells all) c.run_all-done.ensures.sound began room;
      manned = λ least tells first sure manned all few limited most.
          let company : CompanyState g.row.H-Way.Denot = c.new-company.result in
          let none : company.seats ≡ [] = ap (λ (x : CompanyState g.row.H-Way.Denot). x.seats) c.new-company.ensures in
          let kept : c.disband.new.company.lost ≡ false = search rules in
          let asked : Asked = record { least = least; idles = g.H.Hall.idle_count c.args.hall.now } in
          let staffed = (c.manned_halls_are_staffed.ensures c.args.hall.now least manned).0 in
          let began : IsSureCompany g.F.Commands.gives g.F.Commands.may_fail g.H.Way.Link.history g.H.Way.Link.idle_count (IsSureOf g.H.Way.Link.sure g.H.Way.Link.offers (Some asked)) (IsComing g.H.Hall.sure g.H.Hall.staffed (Some asked) c.args.hall.now) (IsUnmet g.H.Hall.manned g.H.Hall.idle_count (Some asked) c.args.hall.now) c.args.desk.now.moves company =
          company_begins g.F.Commands.gives g.F.Commands.may_fail g.H.Way.Link.history g.H.Way.Link.idle_count (IsSureOf g.H.Way.Link.sure g.H.Way.Link.offers (Some asked)) c.args.desk.now.moves company c.new-company.ensures first
          (record { surely = sure; offering = λ a so. subst (λ (x : Asked). g.H.Hall.staffed c.args.hall.now x.least) (same_asked asked a so) staffed })
          (record { still = λ a so. subst (λ (x : Asked). g.H.Hall.manned c.args.hall.now x.least × (g.H.Hall.idle_count c.args.hall.now ≡ x.idles)) (same_asked asked a so) (manned, refl) }) in
          let room = few_whole g.F.Commands.gives g.F.Commands.may_fail g.H.Way.Link.history g.H.Way.Link.count g.H.Way.Link.idle_count g.H.Way.Link.is_closed c.args.workers.limit c.args.desk.now.moves c.run_all-done.new.desk.moves company c.run_all-done.new.company c.disband.new.company (g.H.Hall.got c.args.hall.now) (g.H.Hall.got c.run_all-done.new.hall) (g.H.Hall.got c.disband.new.hall) c.run_all-done.result first none (ok_step c.run_all-done.result _ _ (λ keeps. keeps.due) (c.run_all-done.ensures.due tells)) c.run_all-done.ensures.sound (c.disband.ensures.due c.args.workers.limit c.run_all-done.new.desk.moves tells) c.disband.ensures.failed kept c.disband.ensures.seats
          few in
          let ended = calm_ended (IsSureCompany g.F.Commands.gives g.F.Commands.may_fail g.H.Way.Link.history g.H.Way.Link.idle_count (IsSureOf g.H.Way.Link.sure g.H.Way.Link.offers (Some asked)) (IsComing g.H.Hall.sure g.H.Hall.staffed (Some asked) c.run_all-done.new.hall) (IsUnmet g.H.Hall.manned g.H.Hall.idle_count (Some asked) c.run_all-done.new.hall) c.run_all-done.new.desk.moves c.run_all-done.new.company) c.args.desk.now.moves c.run_all-done.new.desk.moves company c.run_all-done.new.company c.run_all-done.result (c.run_all-done.ensures.calm (Some asked) tells all) c.run_all-done.ensures.sound began room in
          let stated = stated_ended g.F.Commands.gives g.F.Commands.may_fail g.H.Way.Link.history g.H.Way.Link.count g.H.Way.Link.idle_count g.H.Way.Link.is_closed c.args.workers.limit (IsIllLink g.F.Commands.gives g.F.Commands.may_fail g.H.Way.Link.history g.H.Way.Link.count g.H.Way.Link.idle_count g.H.Way.Link.is_closed c.args.workers.limit) c.args.desk.now.moves c.run_all-done.new.desk.moves company c.run_all-done.new.company (g.H.Hall.got c.args.hall.now) (g.H.Hall.got c.run_all-done.new.hall) c.run_all-done.result none (c.run_all-done.ensures.due tells) c.run_all-done.ensures.sound in
          let needs = subst (λ (P : Plan). NeedsAtMost P c.run_all-done.new.desk.options least) (sym w.goes.plan) (subst (λ (O : Options). NeedsAtMost c.args.desk.now.plan O least) (sym w.goes.options) most) in
          manned_whole g.F.Commands.gives g.F.Commands.may_fail g.H.Way.Link.history g.H.Way.Link.count g.H.Way.Link.idle_count g.H.Way.Link.is_closed c.args.workers.limit g.H.Way.Link.sure g.H.Way.Link.offers asked (λ way. c.offers_were_stated.ensures way least) g.A.Admission.admitted c.run_all-done.new.desk.plan c.run_all-done.new.desk.options needs (g.H.Hall.idle_count c.run_all-done.new.hall - g.H.Hall.idle_count c.args.hall.now) c.run_all-done.new.desk.moves c.run_all-done.new.company
          (IsComing g.H.Hall.sure g.H.Hall.staffed (Some asked) c.run_all-done.new.hall) (IsUnmet g.H.Hall.manned g.H.Hall.idle_count (Some asked) c.run_all-done.new.hall) limited
          (λ unmet. let same : g.H.Hall.idle_count c.run_all-done.new.hall ≡ g.H.Hall.idle_count c.args.hall.now = (unmet.still asked refl).1 in omega (arith, same)) c.run_all-done.ensures.seats c.run_all-done.result ended stated c.run_all-done.ensures.alone
          (ends_by_waiting g.A.Admission.admitted g.S.Site.tells g.T.Terms.kept (AllSure g.R.Runner.sure c.args.runners.now) g.S.Site.files c.args.workers.limit c.run_all-done.new.desk (sum_by g.R.Runner.count c.args.runners.now) (sum_by g.R.Runner.count c.run_all-done.new.runners) (g.H.Hall.count c.args.hall.now) (g.H.Hall.count c.run_all-done.new.hall) (g.H.Hall.idle_count c.args.hall.now) (g.H.Hall.idle_count c.run_all-done.new.hall) (g.H.Hall.idle_count c.args.hall.now) (g.H.Hall.idle_count c.run_all-done.new.hall) c.run_all-done.result (omega arith) (omega arith) w.ended);
      stays = c.run_all-done.ensures.stays;
    }

pub run_all-done-requires-clause-going : goal.run_all-done-requires-clause-going
run_all-done-requires-clause-going g c κs within = ap (λ (x : CompanyState g.row.H-Way.Denot). x.failed) c.new-company.ensures
