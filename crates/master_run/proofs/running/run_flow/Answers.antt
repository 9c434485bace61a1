use Rattle.std.proofs.Common.{◌≡◌, ◌+◌, ◌++◌, ◌∙◌, ℕ, List, map, sum_by, refl, sym, ap, subst}
use Rattle.std.proofs.lemmas.List.{map-append}
use Rattle.std.proofs.lemmas.List.Sums.{sum_by-append}
use Rattle.worker_pool.specs.Crews.{AllSure, AllTell}
use Rattle.worker_pool.proofs.Crews.{crew_left}
use Rattle.master_run.specs.Ends.{counts}
use Rattle.master_run.specs.Reaching.{GoesSurely, IsMannedFor}
use Rattle.master_run.specs.Serves.{Serves}
use Rattle.master_run.proofs.Reaching.{goes_widened}
use Rattle.master_run.proofs.Widened.{logged_of_all, none_first, wider_fault, widened}
use Rattle.master_run.proofs.running.run_flow.Goals as goal

pub returns-clause-serves : goal.returns-clause-serves
returns-clause-serves g c =
    let count = g.R.Runner.count in
    let front = c.split_at_mut-working.result.0.now in
    let back = c.split_at_mut-working.result.1.now in
    let new = c.run_by_all.new.runners in
    let site = g.S.Site.count c.run_by_all.result.site in
    let whole : map count c.args.runners.now ≡ map count front ++ map count back = ap (map count) c.split_at_mut-working.ensures.value ∙ map-append count front back in
    let now : map count (new ++ back) ≡ map count new ++ map count back = map-append count new back in
    subst (λ (xs : List ℕ). Serves g.Q.Made.Admission.admitted g.S.Site.tells g.S.Site.files g.S.Site.may_leave g.S.Site.moment g.S.Site.images_since g.B.Born.born g.F.Commands.gives g.F.Commands.may_fail (AllTell g.R.Runner.tells c.args.runners.now) (AllSure g.R.Runner.sure c.args.runners.now) (g.H.Hall.honest c.args.hall.now) (counts c.args.before xs (g.H.Hall.count c.args.hall.now) (g.H.Hall.idle_count c.args.hall.now) 0) (counts site (map count (new ++ back)) (g.H.Hall.count c.run_by_all.new.hall) (g.H.Hall.idle_count c.run_by_all.new.hall) 0) c.args.ask c.args.site c.run_by_all.result.site c.run_by_all.result.records c.run_by_all.result.cause) (sym whole)
    (subst (λ (xs : List ℕ). Serves g.Q.Made.Admission.admitted g.S.Site.tells g.S.Site.files g.S.Site.may_leave g.S.Site.moment g.S.Site.images_since g.B.Born.born g.F.Commands.gives g.F.Commands.may_fail (AllTell g.R.Runner.tells c.args.runners.now) (AllSure g.R.Runner.sure c.args.runners.now) (g.H.Hall.honest c.args.hall.now) (counts c.args.before (map count front ++ map count back) (g.H.Hall.count c.args.hall.now) (g.H.Hall.idle_count c.args.hall.now) 0) (counts site xs (g.H.Hall.count c.run_by_all.new.hall) (g.H.Hall.idle_count c.run_by_all.new.hall) 0) c.args.ask c.args.site c.run_by_all.result.site c.run_by_all.result.records c.run_by_all.result.cause) (sym now)
    (widened g.Q.Made.Admission.admitted g.S.Site.tells g.S.Site.files g.S.Site.may_leave g.S.Site.moment g.S.Site.images_since g.B.Born.born g.F.Commands.gives g.F.Commands.may_fail
    (AllTell g.R.Runner.tells front) (AllTell g.R.Runner.tells c.args.runners.now) (AllSure g.R.Runner.sure front) (AllSure g.R.Runner.sure c.args.runners.now) (g.H.Hall.honest c.args.hall.now) (g.H.Hall.honest c.args.hall.now)
    (counts c.args.before (map count front) (g.H.Hall.count c.args.hall.now) (g.H.Hall.idle_count c.args.hall.now) 0) (counts site (map count new) (g.H.Hall.count c.run_by_all.new.hall) (g.H.Hall.idle_count c.run_by_all.new.hall) 0) (counts c.args.before (map count front ++ map count back) (g.H.Hall.count c.args.hall.now) (g.H.Hall.idle_count c.args.hall.now) 0) (counts site (map count new ++ map count back) (g.H.Hall.count c.run_by_all.new.hall) (g.H.Hall.idle_count c.run_by_all.new.hall) 0)
    c.args.ask c.args.site c.run_by_all.result.site c.run_by_all.result.records c.run_by_all.result.cause
    (λ job all. crew_left (λ r. g.R.Runner.tells r job) c.args.runners.now front back c.split_at_mut-working.ensures.value all)
    (λ all. crew_left g.R.Runner.sure c.args.runners.now front back c.split_at_mut-working.ensures.value all)
    (λ met. met)
    (wider_fault c.args.before site (g.H.Hall.count c.args.hall.now) (g.H.Hall.count c.run_by_all.new.hall) (g.H.Hall.idle_count c.args.hall.now) (g.H.Hall.idle_count c.run_by_all.new.hall) 0 0 (map count front) (map count new) (map count back) (map count back) c.run_by_all.result.cause)
    (none_first c.args.before site (g.H.Hall.count c.args.hall.now) (g.H.Hall.count c.run_by_all.new.hall) (g.H.Hall.idle_count c.args.hall.now) (g.H.Hall.idle_count c.run_by_all.new.hall) (map count front) (map count new) (map count back)) refl
    c.run_by_all.ensures.serves))

pub returns-clause-failed : goal.returns-clause-failed
returns-clause-failed g c alone told H spelled whole =
    let failures = g.R.Runner.failures in
    let front = c.split_at_mut-working.result.0.now in
    let back = c.split_at_mut-working.result.1.now in
    let new = c.run_by_all.new.runners in
    let was : sum_by failures c.args.runners.now ≡ sum_by failures front + sum_by failures back = ap (λ l. sum_by failures l) c.split_at_mut-working.ensures.value ∙ sum_by-append failures front back in
    logged_of_all H c.run_by_all.result.records (sum_by failures front) (sum_by failures new) (sum_by failures back) (sum_by failures c.args.runners.now) (sum_by failures (new ++ back)) was (sum_by-append failures new back) (c.run_by_all.ensures.failed alone told H spelled whole)

pub returns-clause-sure_links : goal.returns-clause-sure_links
returns-clause-sure_links g c t H spelled wq work sure links =
    let count = g.R.Runner.count in
    let front = c.split_at_mut-working.result.0.now in
    let back = c.split_at_mut-working.result.1.now in
    let new = c.run_by_all.new.runners in
    let site = g.S.Site.count c.run_by_all.result.site in
    let hall = g.H.Hall.count c.args.hall.now in
    let hall_now = g.H.Hall.count c.run_by_all.new.hall in
    let idles = g.H.Hall.idle_count c.args.hall.now in
    let idles_now = g.H.Hall.idle_count c.run_by_all.new.hall in
    let manned = IsMannedFor (g.H.Hall.manned c.args.hall.now) c.args.ask in
    let whole : map count c.args.runners.now ≡ map count front ++ map count back = ap (map count) c.split_at_mut-working.ensures.value ∙ map-append count front back in
    let now : map count (new ++ back) ≡ map count new ++ map count back = map-append count new back in
    subst (λ (xs : List ℕ). GoesSurely g.F.Commands.gives (AllTell g.R.Runner.tells c.args.runners.now) manned c.args.ask (g.S.Site.files c.args.site) (g.S.Site.may_leave c.args.site) H (counts c.args.before xs hall idles 0) (counts site (map count (new ++ back)) hall_now idles_now 0) c.run_by_all.result.records c.run_by_all.result.cause) (sym whole)
    (subst (λ (xs : List ℕ). GoesSurely g.F.Commands.gives (AllTell g.R.Runner.tells c.args.runners.now) manned c.args.ask (g.S.Site.files c.args.site) (g.S.Site.may_leave c.args.site) H (counts c.args.before (map count front ++ map count back) hall idles 0) (counts site xs hall_now idles_now 0) c.run_by_all.result.records c.run_by_all.result.cause) (sym now)
    (goes_widened g.F.Commands.gives (AllTell g.R.Runner.tells front) (AllTell g.R.Runner.tells c.args.runners.now) manned c.args.ask (g.S.Site.files c.args.site) (g.S.Site.may_leave c.args.site) H
    (counts c.args.before (map count front) hall idles 0) (counts site (map count new) hall_now idles_now 0) (counts c.args.before (map count front ++ map count back) hall idles 0) (counts site (map count new ++ map count back) hall_now idles_now 0)
    c.run_by_all.result.records c.run_by_all.result.cause
    (λ job all. crew_left (λ r. g.R.Runner.tells r job) c.args.runners.now front back c.split_at_mut-working.ensures.value all)
    (none_first c.args.before site hall hall_now idles idles_now (map count front) (map count new) (map count back))
    (c.run_by_all.ensures.sure_links t H spelled wq work (crew_left g.R.Runner.sure c.args.runners.now front back c.split_at_mut-working.ensures.value sure) links)))
