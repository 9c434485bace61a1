-- A call that ended by want of memory before anything was done does all that a call does.
use Rattle.std.proofs.Common.{rules, ◌≡◌, ◌-◌, ◌∷◌, ◌++◌, ℕ, Bool, List, [], Option, Some, None, Result, Ok, Err, All, inl, inr, subst, sym, refl, arith, true≢false}
use Rattle.std.proofs.Common.{String, Global}
use Rattle.std.proofs.lemmas.List.Elements.{All-nil}
use Rattle.flow_types.specs.declared.job.Failure.{Failure}
use Rattle.flow_types.specs.declared.job.Job.{Job}
use Rattle.flow_types.specs.declared.plan.Plan.{Plan}
use Rattle.flow_types.specs.declared.records.Record.{Record}
use Rattle.flow_types.specs.declared.records.Record.TheVariants as records
use Rattle.flow_types.specs.Serial.{Contents, Function, serial}
use Rattle.run_history.specs.Admissions.{all_admitted}
use Rattle.run_history.specs.declared.options.Mode.{Mode}
use Rattle.run_history.specs.declared.options.Options.{Options as RunOptions}
use Rattle.outside.specs.Disk.{IsImage, Outcomes}
use Rattle.outside.specs.Files.{Files}
use Rattle.flow_types.specs.declared.numbers.LinkNo.{LinkNo}
use Rattle.links.specs.declared.passing.Passed.{Passed}
use Rattle.master_run.specs.OnePlan.{AreLogged, RunLeaves}
use Rattle.command_words.specs.declared.options.Options.{Options}
use Rattle.command_words.specs.declared.options.Work.{Work}
use Rattle.command_words.specs.declared.options.Work.TheVariants as works
use Rattle.local_run.specs.Collecting.{CollectsBy}
use Rattle.local_run.specs.Course.{FailsHonestly}
use Rattle.local_run.specs.Moments.{IsBefore}
use Rattle.local_run.specs.Runs.{Adds, BeginsWith, read_sources}
use Rattle.flow_run.specs.Places.{PlacedBy, StartsWhere}
use Rattle.master_run.specs.Added.{AddsBy}
use Rattle.report.specs.declared.cause.Cause.{Cause}
use Rattle.report.specs.declared.cause.Cause.TheVariants as causes
use Rattle.master_run.specs.declared.ask.Ask.{Ask}
use Rattle.master_run.specs.Asked.{ask_of, choice, request}
use Rattle.master_run.specs.Ends.{CallEnds, GoesOn, WordsEnd, Yields, clean_refusal, log_refusal, run_refusal}
use Rattle.master_run.specs.Headline.{DropsUnneeded}
use Rattle.master_run.specs.Objects.{CommandWords, HallWords, RunnerWords, SinkWords, SiteWords, Stand, stand}
use Rattle.master_run.specs.Tops.{HoldsAlways, HoldsByTrust, HoldsOfFiles, HoldsOfLinks, HoldsOfRecords, TopEnds}

yields : (refusal : Option Cause) (rest : Type 0) → rest → Yields refusal causes.Memory rest
yields (Some refusal) rest is = λ wrong. absurd (true≢false wrong)
yields None rest is = is

goes_on : (work : Work) (ask : Ask) (rise : ℕ) (H : List Record) (files : Files) → GoesOn all_admitted work ask rise H files files [] causes.Memory
goes_on works.Run ask rise H files = yields (run_refusal ask.plan ask.options H files) _ (inr tt)
goes_on works.Clean ask rise H files = yields (clean_refusal ask.plan H) _ (λ wrong. absurd (true≢false wrong))
goes_on works.PrintLog ask rise H files = yields (log_refusal ask.plan H) _ (λ wrong. absurd (true≢false wrong))

call_ends : (asked : Result Ask Cause) (rise : ℕ) (files : Files) → CallEnds all_admitted asked rise files files [] causes.Memory
call_ends (Err refusal) rise files = ((λ wrong. absurd (true≢false wrong)), refl, refl)
call_ends (Ok ask) rise files = record {
  damaged = λ at wrong. absurd (cc);
  read = inr (inr refl);
  whole = λ H spelled. goes_on ask.work ask rise H files;
}

words_end : (chosen : Result Options Cause) → WordsEnd chosen causes.Memory
words_end (Err refusal) = λ wrong. absurd (true≢false wrong)
words_end (Ok options) = refl

nothing_at : {A : Type 0} (x : Record) (before after : List Record) → (let none : List Record = [] in none ≡ before ++ (x ∷ after)) → A
nothing_at x [] after wrong = absurd (cc)
nothing_at x (y ∷ before) after wrong = absurd (cc)

none_of : (H more : List Record) → (let none : List Record = [] in none ≡ H ++ more) → more ≡ []
none_of [] more is = sym is
none_of (x ∷ H) more is = absurd (cc)

drops_none : (P : Plan) (H : List Record) → BeginsWith H [] → DropsUnneeded P H []
drops_none P H begins = record {
  more = begins.0;
  are = begins.1;
  each = λ before after moment f at. nothing_at (records.Dropped moment f) before after (subst (λ (xs : List Record). xs ≡ before ++ (records.Dropped moment f ∷ after)) (none_of H begins.0 begins.1) at);
}

adds_by : (work : Work) (O : RunOptions) (H : List Record) → AddsBy work O H [] causes.Memory
adds_by works.Run O H = inl (inr refl)
adds_by works.Clean O H = inl refl
adds_by works.PrintLog O H = inr refl

adds_none : (gives : Function) (may_fail : Job → Failure → Type 0) (sources : Contents) (P : Plan) (H : List Record) → BeginsWith H [] → Adds (Unit {0}) gives may_fail sources P H []
adds_none gives may_fail sources P H begins = record {
  more = begins.0;
  are = begins.1;
  honest = λ trust. subst (λ (xs : List Record). All (FailsHonestly P may_fail (serial P gives sources)) xs) (sym (none_of H begins.0 begins.1)) (All-nil (FailsHonestly P may_fail (serial P gives sources)));
}

collects_none : (P : Plan) (mode : Mode) (H : List Record) → BeginsWith H [] → CollectsBy P mode H []
collects_none P mode H begins = record {
  more = begins.0;
  are = begins.1;
  each = λ before after x at. nothing_at x before after (subst (λ (xs : List Record). xs ≡ before ++ (x ∷ after)) (none_of H begins.0 begins.1) at);
}

places_none : (P : Plan) (O : RunOptions) (H : List Record) → BeginsWith H [] → PlacedBy P O H []
places_none P O H begins = record {
  more = begins.0;
  are = begins.1;
  each = subst (λ (xs : List Record). All (StartsWhere P O) xs) (sym (none_of H begins.0 begins.1)) (All-nil (StartsWhere P O));
}

entry_before : (log : List ℕ) (file : Option (List ℕ)) (outcomes : Outcomes) (image : Files) → IsImage outcomes image → IsBefore log file outcomes image
entry_before log file outcomes image is = record { spelled = inl (is log); others = λ m other. is m }

no_plan : Plan
no_plan = record { rules = []; files = [] }

-- a run that wasn't begun leaves what a run may
run_leaves : {L : Type 0} (spells : List Record → Type 0) (told listens : Type 0) (gives : Function) (may_fail : Job → Failure → Type 0) (history : L → List Passed) (count idles : L → ℕ) (closed : L → Bool) (ask : Ask) (rise : ℕ) (got : List (Option LinkNo × L))
    → RunLeaves spells told listens gives may_fail history count idles closed all_admitted ask rise got got [] causes.Memory
run_leaves spells told listens gives may_fail history count idles closed ask rise got = record {
  past = [];
  spelled = λ wrong. absurd (true≢false (sym wrong));
  added = inl (inl refl);
  places = places_none ask.plan ask.options [] ([], refl);
  admitted = λ i moment rule attempt link from at. refl;
  modes = collects_none ask.plan ask.options.mode [] ([], refl);
  lost = λ alone keeps. absurd (true≢false keeps);
  lost_away = λ keeps. absurd (true≢false keeps);
  due_losses = λ tells keeps. absurd (true≢false keeps);
  ended = λ wrong. absurd (true≢false (sym wrong));
  heard = λ asked. inr refl;
  failed = tt;
}

module _ {A B L C D : Type 0} (F : CommandWords) (S : SiteWords A) (H : HallWords B L) (R : RunnerWords C) (O : SinkWords D) (told : Job → Type 0)
    (line : List (String Global)) (env : List (String Global × String Global)) (site : A) (hall : B) (runners : List C) (out : D)
    (only : S.tells → (image : Files) → S.images_since site (S.moment site) image → IsImage (S.may_leave site) image) where
  abbrev pub here : Stand A B C D
  here = stand site hall runners out

  early_always : HoldsAlways F S H R O all_admitted line env here here causes.Memory []
  early_always = record {
    words = words_end (choice line);
    faults = tt;
    one_plan = record {
      plan = no_plan;
      read = λ wrong. absurd (true≢false (sym wrong));
      legal = λ wrong. absurd (true≢false (sym wrong));
      storage = λ wrong. absurd (true≢false (sym wrong));
      leaves = λ options chosen work. run_leaves (λ past. S.tells → AreLogged (request line env (S.files site)) (S.files site) past) H.Way.tells (H.listens hall) F.gives F.may_fail H.Way.history H.Way.count H.Way.idle_count H.Way.is_closed (ask_of options no_plan) (H.idle_count hall - H.idle_count hall) (H.got hall);
      opened = λ options chosen wrong. absurd (true≢false (sym wrong));
      collects = λ options chosen wrong. absurd (true≢false (sym wrong));
      waited = λ options chosen. tt;
      vain = λ tells options chosen. tt;
    };
    closed = λ wrong. absurd (true≢false (sym wrong));
    back = λ uncut. absurd (uncut refl);
    alone = λ local. refl;
    risen = omega arith;
    failures = λ local. record { later = omega arith; rose = λ wrong. absurd (cc) };
    sure = λ local all. refl;
    never = λ all. refl;
    spare = λ options chosen. refl;
  }

  early_files : S.tells → HoldsOfFiles F S H R O all_admitted line env here here causes.Memory []
  early_files t = record {
    ends = call_ends (request line env (S.files site)) (H.idle_count hall - H.idle_count hall) (S.files site);
    untouched = λ wrong. refl;
    quiet = λ wrong. absurd (true≢false (sym wrong));
    others = λ ask asked. record {
      now = λ m file beside left. left;
      any_moment = record {
        later = omega arith;
        each = λ image left m beside. only t image left m;
        before = λ time image early was. inl was;
      };
    };
    reads = λ ask asked m beside. refl;
    resumable = λ ask asked keeps image left. keeps image (only t image left);
  }

  early_log : S.tells → (ask : Ask) (past : List Record) → HoldsOfRecords F S H R O all_admitted line env here here causes.Memory [] ask past
  early_log t ask past = record {
    records = inr (refl, refl);
    unread = λ nothing. record {
      later = omega arith;
      each = λ image left. entry_before ask.log (S.files site ask.log) (S.may_leave site) image (only t image left);
      before = λ time image early was. inl was;
    };
    logged = inr (inr refl, refl);
    added = adds_by ask.work ask.options past;
    modes = collects_none ask.plan ask.options.mode past;
    needed = drops_none ask.plan past;
    gone = λ uncut. absurd (uncut refl);
    cleaned = tt;
    places = places_none ask.plan ask.options past;
    spent = λ uncut. absurd (uncut refl);
    lost = λ alone keeps. absurd (true≢false keeps);
    lost_away = λ keeps. absurd (true≢false keeps);
    logged_failures = λ alone uncut. absurd (uncut refl);
    moments = λ resumable image left. inl (entry_before ask.log (S.files site ask.log) (S.may_leave site) image (only t image left));
    now = λ resumable uncut. absurd (uncut refl);
  }

  early_links : (ask : Ask) (past : List Record) → HoldsOfLinks F S H R O all_admitted line env here here causes.Memory [] ask past
  early_links ask past = record {
    due_losses = λ options chosen keeps. absurd (true≢false keeps);
    results = λ away work keeps. absurd (true≢false keeps);
  }

  early_trust : S.tells → (ask : Ask) (past : List Record) → HoldsByTrust F S H R O all_admitted line env here here causes.Memory [] told ask past
  early_trust t ask past = record {
    contents = λ trust image left. inl (entry_before ask.log (S.files site ask.log) (S.may_leave site) image (only t image left));
    honest = λ trust. adds_none F.gives F.may_fail (read_sources ask.plan (S.files site)) ask.plan past;
    completes = λ alone work resumable free sources inputs room sure jobs stood. refl;
    sure_links = λ away work sure links. record {
      well = λ keeps. absurd (true≢false keeps);
      reached = λ is. refl;
      manned = λ is_manned is. refl;
    };
  }

  -- it does
  pub early_ends : TopEnds F S H R O line env here here causes.Memory [] told 8
  early_ends = record {
    status = refl;
    always = early_always;
    by_files = early_files;
    by_log = λ t ask asked past spelled. early_log t ask past;
    by_links = λ tells t ask asked past spelled. early_links ask past;
    by_trust = λ t ask asked past spelled. early_trust t ask past;
    text = λ tells. record {
      plan = no_plan;
      told = causes.Memory;
      is_read = λ wrong. absurd (true≢false (sym wrong));
      is_standing = λ standing. refl;
      whole = λ same wrong. absurd (true≢false wrong);
      of_end = λ wrong. absurd (true≢false (sym wrong));
      part = (0, search rules);
    };
  }

  -- and so does one whose end is equal to that
  pub early : (site_now : A) (runners_now : List C) (code : ℕ) (cause : Cause) (written : List Record) → site_now ≡ site → runners_now ≡ runners → code ≡ 8 → cause ≡ causes.Memory → written ≡ []
      → TopEnds F S H R O line env here (stand site_now hall runners_now out) cause written told code
  early site_now runners_now code cause written same_site same_runners is_code is_cause none =
      subst (λ (x : A). TopEnds F S H R O line env here (stand x hall runners_now out) cause written told code) (sym same_site)
      (subst (λ (x : List C). TopEnds F S H R O line env here (stand site hall x out) cause written told code) (sym same_runners)
      (subst (λ (x : ℕ). TopEnds F S H R O line env here here cause written told x) (sym is_code)
      (subst (λ (x : Cause). TopEnds F S H R O line env here here x written told 8) (sym is_cause)
      (subst (λ (x : List Record). TopEnds F S H R O line env here here causes.Memory x told 8) (sym none) early_ends))))
