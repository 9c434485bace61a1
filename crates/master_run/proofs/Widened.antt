-- What a call does by some of the runners, as one by all of them.
use Rattle.std.proofs.Common.{◌≡◌, ◌+◌, ◌-◌, ◌++◌, ℕ, List, [], None, Some, refl, subst, arith}
use Rattle.std.proofs.lemmas.List.{append_cancel_right}
use Rattle.flow_types.specs.declared.plan.Plan.{Plan}
use Rattle.flow_types.specs.declared.job.Job.{Job}
use Rattle.flow_types.specs.declared.job.Failure.{Failure}
use Rattle.flow_types.specs.declared.records.Record.{Record}
use Rattle.flow_types.specs.Serial.{Contents, Function, job_of, serial}
use Rattle.outside.specs.Disk.{Outcomes}
use Rattle.outside.specs.Files.{Files}
use Rattle.run_history.specs.Admissions.{Admitting}
use Rattle.run_history.specs.declared.options.Options.{Options}
use Rattle.local_run.specs.Course.{TellsJobs}
use Rattle.local_run.specs.Runs.{read_sources}
use Rattle.report.specs.declared.cause.Cause.{Cause}
use Rattle.report.specs.declared.cause.Cause.TheVariants as causes
use Rattle.report.specs.declared.cause.Kind.{Kind}
use Rattle.master_run.specs.declared.ask.Ask.{Ask}
use Rattle.master_run.specs.Counts.{Counts}
use Rattle.master_run.specs.Ends.{FaultEnd, LogEnds, NoneRose, counts, idle_rise}
use Rattle.master_run.specs.Headline.{FailureEnd, LogsFailed}
use Rattle.master_run.specs.Serves.{Serves}
use Rattle.master_run.proofs.Counted.{stands_before}

-- who tells of more jobs tells of these
pub tells_less : (P : Plan) (O : Options) (told wide : Job → Type 0) (contents : Contents) → ((job : Job) → wide job → told job) → TellsJobs P O wide contents → TellsJobs P O told contents
tells_less P O told wide contents each jobs r row at may = each (job_of P row contents) (jobs r row at may)

-- a fault of one of the first is one of one of all
pub wider_fault : (s0 s1 h0 h1 i0 i1 k0 k1 : ℕ) (front0 front1 back0 back1 : List ℕ) (cause : Cause) → FaultEnd (counts s0 front0 h0 i0 k0) (counts s1 front1 h1 i1 k1) cause
    → FaultEnd (counts s0 (front0 ++ back0) h0 i0 k0) (counts s1 (front1 ++ back1) h1 i1 k1) cause
wider_fault s0 s1 h0 h1 i0 i1 k0 k1 front0 front1 back0 back1 (causes.SiteFault old new) f = f
wider_fault s0 s1 h0 h1 i0 i1 k0 k1 front0 front1 back0 back1 (causes.RunnerFault old new) f = (f.0, stands_before front0 back0 f.0 old f.1, stands_before front1 back1 f.0 new f.2, f.3)
wider_fault s0 s1 h0 h1 i0 i1 k0 k1 front0 front1 back0 back1 (causes.HallFault old new) f = f
wider_fault s0 s1 h0 h1 i0 i1 k0 k1 front0 front1 back0 back1 (causes.SinkFault old new) f = f
wider_fault s0 s1 h0 h1 i0 i1 k0 k1 front0 front1 back0 back1 _ f = tt

-- where nobody was looked for
pub none_rises : (n : ℕ) → 0 - 0 ≡ n - n
none_rises n = omega arith

-- of a call that met no hall
pub unmet_fault : (s0 s1 h i : ℕ) (xs : List ℕ) (cause : Cause) → FaultEnd (counts s0 [] 0 0 0) (counts s1 [] 0 0 0) cause → FaultEnd (counts s0 xs h i 0) (counts s1 xs h i 0) cause
unmet_fault s0 s1 h i xs (causes.SiteFault old new) f = f
unmet_fault s0 s1 h i xs (causes.RunnerFault old new) f = absurd (let wrong : None ≡ Some old = f.1 in cc)
unmet_fault s0 s1 h i xs (causes.HallFault old new) f = absurd (let wrong : ⊥ = omega (arith, f.2) in wrong)
unmet_fault s0 s1 h i xs (causes.SinkFault old new) f = f
unmet_fault s0 s1 h i xs _ f = tt

-- where none of all rose, none of the first did
pub none_first : (s0 s1 h0 h1 i0 i1 : ℕ) (front0 front1 back : List ℕ) → NoneRose (counts s0 (front0 ++ back) h0 i0 0) (counts s1 (front1 ++ back) h1 i1 0) → NoneRose (counts s0 front0 h0 i0 0) (counts s1 front1 h1 i1 0)
none_first s0 s1 h0 h1 i0 i1 front0 front1 back none = record { site = none.site; runners = append_cancel_right front1 front0 back none.runners; sink = refl }

-- the failures of all, where those of some are known
pub failures_of_all : (some0 some1 rest all0 all1 : ℕ) (kind : Kind) → all0 ≡ some0 + rest → all1 ≡ some1 + rest → FailureEnd some0 some1 kind → FailureEnd all0 all1 kind
failures_of_all some0 some1 rest all0 all1 kind was is f = record { later = omega (arith, was, is, f.later); rose = λ failed. omega (arith, was, is, f.rose failed) }

pub logged_of_all : (H all : List Record) (some0 some1 rest all0 all1 : ℕ) → all0 ≡ some0 + rest → all1 ≡ some1 + rest → LogsFailed H all some0 some1 → LogsFailed H all all0 all1
logged_of_all H all some0 some1 rest all0 all1 was is logs = omega (arith, was, is, logs)

module _ {S : Type 0} (E : Admitting) (tells : Type 0) (files : S → Files) (may_leave : S → Outcomes) (moment : S → ℕ) (images_since : S → ℕ → Files → Type 0) (born : ℕ)
    (gives : Function) (may_fail : Job → Failure → Type 0) (told wide_told : Job → Type 0) (sure wide_sure links wide_links : Type 0) (b a wb wa : Counts) (ask : Ask) (old new : S) (records : List Record) (cause : Cause) where
  pub widened : ((job : Job) → wide_told job → told job) → (wide_sure → sure) → (wide_links → links) → (FaultEnd b a cause → FaultEnd wb wa cause) → (NoneRose wb wa → NoneRose b a) → idle_rise b a ≡ idle_rise wb wa
      → Serves E tells files may_leave moment images_since born gives may_fail told sure links b a ask old new records cause
      → Serves E tells files may_leave moment images_since born gives may_fail wide_told wide_sure wide_links wb wa ask old new records cause
  widened each is links_are fault none same s = record {
    ends = λ t. subst (λ (n : ℕ). LogEnds E ask n (files old) (files new) records cause) same (s.ends t);
    late = s.late;
    faults = fault s.faults;
    has_log = s.has_log;
    added = s.added;
    legal = s.legal;
    logged = s.logged;
    closed = s.closed;
    spent = s.spent;
    lost = s.lost;
    lost_away = s.lost_away;
    moments = s.moments;
    resumable = s.resumable;
    now = s.now;
    unread = s.unread;
    untouched = s.untouched;
    quiet = s.quiet;
    others = s.others;
    reads = s.reads;
    contents = λ t H spelled met jobs. s.contents t H spelled (λ wq. links_are (met wq)) (fewer jobs);
    honest = λ t H spelled met resumable jobs. s.honest t H spelled (λ wq. links_are (met wq)) resumable (fewer jobs);
    modes = s.modes;
    places = s.places;
    gone = s.gone;
    cleaned = s.cleaned;
    sure_end = λ alone w. s.sure_end alone (is w);
    never = λ w. s.never (is w);
    completes = λ t H spelled alone work resumable free there fit room w jobs rose. s.completes t H spelled alone work resumable free there fit room (is w) (fewer jobs) (none rose);
  }
    where
      fewer : TellsJobs ask.plan ask.options wide_told (serial ask.plan gives (read_sources ask.plan (files old))) → TellsJobs ask.plan ask.options told (serial ask.plan gives (read_sources ask.plan (files old)))
      fewer jobs = tells_less ask.plan ask.options told wide_told (serial ask.plan gives (read_sources ask.plan (files old))) each jobs
