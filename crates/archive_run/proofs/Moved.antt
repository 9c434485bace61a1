-- The same call seen with other words of what its runners tell, or over equal lists of runners.
use Rattle.std.proofs.Common.{◌≡◌, ℕ, List, map, subst}
use Rattle.std.proofs.Common.{String, Global}
use Rattle.flow_types.specs.declared.job.Job.{Job}
use Rattle.flow_types.specs.declared.plan.Plan.{Plan}
use Rattle.flow_types.specs.declared.records.Record.{Record}
use Rattle.flow_types.specs.Serial.{Contents, job_of, serial}
use Rattle.run_history.specs.Admissions.{all_admitted}
use Rattle.run_history.specs.declared.options.Options.{Options as RunOptions}
use Rattle.local_run.specs.Course.{TellsJobs}
use Rattle.local_run.specs.Runs.{read_sources}
use Rattle.report.specs.declared.cause.Cause.{Cause}
use Rattle.master_run.specs.Counts.{Counts}
use Rattle.master_run.specs.Ends.{counts}
use Rattle.master_run.specs.Reaching.{IsFree}
use Rattle.master_run.specs.Objects.{CommandWords, HallWords, RunnerWords, SinkWords, SiteWords, Stand, stand}
use Rattle.master_run.specs.Tops.{HoldsByTrust, IsTrusted, TopEnds}
use Rattle.master_run.specs.declared.ask.Ask.{Ask}

-- who tells of more jobs tells of those of a plan
more_told : (P : Plan) (O : RunOptions) (told wider : Job → Type 0) (contents : Contents) → ((job : Job) → wider job → told job) → TellsJobs P O wider contents → TellsJobs P O told contents
more_told P O told wider contents all jobs = λ r row at may. all (job_of P row contents) (jobs r row at may)

module _ {A B L C D : Type 0} {F : CommandWords} {S : SiteWords A} {H : HallWords B L} {R : RunnerWords C} {O : SinkWords D}
    {line : List (String Global)} {env : List (String Global × String Global)} {old new : Stand A B C D} {cause : Cause} {written : List Record} where
  -- what rests on trust, where it is asked of more jobs
  trusted : (told wider : Job → Type 0) → ((job : Job) → wider job → told job) → (ask : Ask) (past : List Record)
      → HoldsByTrust F S H R O all_admitted line env old new cause written told ask past → HoldsByTrust F S H R O all_admitted line env old new cause written wider ask past
  trusted told wider all ask past holds =
      let jobs : TellsJobs ask.plan ask.options wider (serial ask.plan F.gives (read_sources ask.plan (S.files old.site))) → TellsJobs ask.plan ask.options told (serial ask.plan F.gives (read_sources ask.plan (S.files old.site))) =
      more_told ask.plan ask.options told wider (serial ask.plan F.gives (read_sources ask.plan (S.files old.site))) all in
      let trust : IsTrusted F S H R O all_admitted line env old new cause written wider ask past → IsTrusted F S H R O all_admitted line env old new cause written told ask past =
      λ is. record { linked = is.linked; resumable = is.resumable; jobs = jobs is.jobs } in
      record {
        contents = λ is. holds.contents (trust is);
        honest = λ is. holds.honest (trust is);
        completes = λ alone work resumable free sources inputs room sure told_jobs. holds.completes alone work resumable free sources inputs room sure (jobs told_jobs);
        sure_links = λ away work sure links.
            let goes = holds.sure_links away work sure links in
            let freed : (before after : Counts) → IsFree F.gives wider ask (S.files old.site) (S.may_leave old.site) past before after → IsFree F.gives told ask (S.files old.site) (S.may_leave old.site) past before after =
            λ before after is. record {
              resumable = is.resumable;
              free = is.free;
              fit = is.fit;
              room = is.room;
              jobs = jobs is.jobs;
              stood = is.stood;
            } in
            record {
              well = goes.well;
              reached = λ is. goes.reached (freed (counts (S.count old.site) (map R.count old.runners) (H.count old.hall) (H.idle_count old.hall) (O.count old.out)) (counts (S.count new.site) (map R.count new.runners) (H.count new.hall) (H.idle_count new.hall) (O.count new.out)) is);
              manned = λ is_manned is. goes.manned is_manned (freed (counts (S.count old.site) (map R.count old.runners) (H.count old.hall) (H.idle_count old.hall) (O.count old.out)) (counts (S.count new.site) (map R.count new.runners) (H.count new.hall) (H.idle_count new.hall) (O.count new.out)) is);
            };
      }

  -- a call over runners that tell of some jobs is one over runners that tell of fewer
  pub retold : {code : ℕ} (told wider : Job → Type 0) → ((job : Job) → wider job → told job) → TopEnds F S H R O line env old new cause written told code → TopEnds F S H R O line env old new cause written wider code
  retold {code} told wider all ends = record {
    status = ends.status;
    always = ends.always;
    by_files = ends.by_files;
    by_log = ends.by_log;
    by_links = ends.by_links;
    by_trust = λ t ask asked past spelled. trusted told wider all ask past (ends.by_trust t ask asked past spelled);
    text = ends.text;
  }

module _ {A B L C D : Type 0} {F : CommandWords} {S : SiteWords A} {H : HallWords B L} {R : RunnerWords C} {O : SinkWords D}
    {line : List (String Global)} {env : List (String Global × String Global)} {cause : Cause} {written : List Record} {told : Job → Type 0} {code : ℕ} where
  -- a call over a list of runners is one over an equal list
  pub moved : {site site_now : A} {hall hall_now : B} {out out_now : D} {from to from_now to_now : List C} → from ≡ to → from_now ≡ to_now
      → TopEnds F S H R O line env (stand site hall from out) (stand site_now hall_now from_now out_now) cause written told code
      → TopEnds F S H R O line env (stand site hall to out) (stand site_now hall_now to_now out_now) cause written told code
  moved {site} {site_now} {hall} {hall_now} {out} {out_now} {from} {to} {from_now} {to_now} is is_now ends =
      subst (λ now. TopEnds F S H R O line env (stand site hall to out) (stand site_now hall_now now out_now) cause written told code) is_now
      (subst (λ first. TopEnds F S H R O line env (stand site hall first out) (stand site_now hall_now from_now out_now) cause written told code) is ends)

  -- a call with some words is one with equal words
  pub reworded : {old new : Stand A B C D} {other : List (String Global)} → line ≡ other → TopEnds F S H R O line env old new cause written told code → TopEnds F S H R O other env old new cause written told code
  reworded {old} {new} {other} is ends = subst (λ words. TopEnds F S H R O words env old new cause written told code) is ends
