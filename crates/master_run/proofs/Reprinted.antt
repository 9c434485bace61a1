-- What holds of a call holds of it once its text was printed.
use Rattle.std.proofs.Common.{◌≡◌, ◌<◌, ◌-◌, ◌⊎◌, ⊎_elim, inl, inr, ◌∙◌, ℕ, Bool, true, false, List, [], length, ok_or, Option, Some, None, Result, Ok, Err, IsErrOf, refl, sym, ap, subst, arith, true≢false, if◌then◌else◌}
use Rattle.flow_types.specs.declared.plan.Plan.{Plan}
use Rattle.flow_types.specs.declared.records.Record.{Record}
use Rattle.run_history.specs.Admissions.{Admitting}
use Rattle.run_history.specs.Answers.{before_end, end_over}
use Rattle.flow_types.specs.declared.job.Job.{Job}
use Rattle.flow_types.specs.declared.job.Failure.{Failure}
use Rattle.flow_types.specs.Serial.{Function}
use Rattle.outside.specs.Disk.{Outcomes}
use Rattle.outside.specs.Files.{Files}
use Rattle.outside.specs.declared.fault.Fault.{Fault}
use Rattle.outside.specs.declared.fault.Fault.TheVariants as faults
use Rattle.command_words.specs.Choices.{options_of}
use Rattle.command_words.specs.declared.options.Options.{Options}
use Rattle.command_words.specs.declared.options.Work.{Work}
use Rattle.command_words.specs.declared.options.Work.TheVariants as works
use Rattle.report.specs.declared.cause.Cause.{Cause}
use Rattle.report.specs.declared.cause.Cause.TheVariants as causes
use Rattle.report.specs.declared.cause.Kind.{Kind}
use Rattle.report.specs.declared.cause.Kind.TheVariants as kinds
use Rattle.report.specs.Causes.{is_cut, is_end, is_failing, is_refusal, kind_of, may_lose, may_replace, was_read}
use Rattle.desk.specs.Kept.{IsLegal}
use Rattle.local_run.specs.Runs.{Held, SerialFits, read_sources}
use Rattle.master_run.specs.declared.ask.Ask.{Ask}
use Rattle.run_history.specs.declared.answers.Wait.{Wait}
use Rattle.master_run.specs.Ends.{Answers, CallEnds, ComesToEnd, FaultEnd, GoesOn, IsCause, IsReadOr, IsStop, LogEnds, RunEnds, WordsEnd, Yields, clean_refusal, counts, end_cause, log_refusal, run_refusal}
use Rattle.run_history.specs.History.{since_opening}
use Rattle.run_history.specs.Spent.{SpentOnce}
use Rattle.master_run.specs.Headline.{FailureEnd, HasLog, IfWaited, IsLegalOr, is_run_end, is_runner_fault}
use Rattle.master_run.specs.Prints.{IsPrinted, is_no_memory, printed_cause}
use Rattle.master_run.specs.Serves.{IsCut, Serves}
use Rattle.master_run.specs.Words.{chosen}
use Rattle.master_run.proofs.Adding.{memory_adds, sink_adds}
use Rattle.master_run.proofs.Moved.{all_after}

-- The cause that stands is the same, or that of the sink's fault at the end of what was asked for, or want of memory.
abbrev pub Stands : ℕ → ℕ → Cause → Cause → Type 0
Stands b a cause stands = (stands ≡ cause) ⊎ (((stands ≡ causes.SinkFault b a) × (b < a) × (is_end (kind_of cause) ≡ true)) ⊎ (stands ≡ causes.Memory))

by_end : (b a : ℕ) (cause : Cause) (ends : Bool) → is_end (kind_of cause) ≡ ends → b < a → Stands b a cause (if ends then causes.SinkFault b a else cause)
by_end b a cause true is rose = inr (inl (refl, rose, is))
by_end b a cause false is rose = inl refl

by_answer : (b a : ℕ) (cause : Cause) (printed : Result (Unit {0}) Fault) → (IsErrOf printed faults.Failed → b < a) → Stands b a cause (printed_cause b a cause printed)
by_answer b a cause (Ok done) rose = inl refl
by_answer b a cause (Err faults.Failed) rose = by_end b a cause (is_end (kind_of cause)) refl (rose refl)
by_answer b a cause (Err faults.Memory) rose = inr (inr refl)

-- what stands once the sink answered
pub stands : (b a : ℕ) (cause now : Cause) → IsPrinted b a cause now → Stands b a cause now
stands b a cause now is = subst (Stands b a cause) (sym is.is_cause) (by_answer b a cause is.printed is.rose)

-- what holds of each of the three that may stand
pub of_each : (P : Cause → Type 0) (b a : ℕ) (cause now : Cause) → Stands b a cause now → P cause → (b < a → is_end (kind_of cause) ≡ true → P (causes.SinkFault b a)) → P causes.Memory → P now
of_each P b a cause now stood own sink memory =
    ⊎_elim (λ (same : now ≡ cause). subst P (sym same) own)
    (λ rest. ⊎_elim (λ (it : (now ≡ causes.SinkFault b a) × (b < a) × (is_end (kind_of cause) ≡ true)). subst P (sym it.0) (sink it.1 it.2)) (λ (same : now ≡ causes.Memory). subst P (sym same) memory) rest) stood

-- The end of what was asked for is what the definition says, so the sink's fault may come in its place.
end_expected : (expected cause : Cause) → is_end (kind_of cause) ≡ true → IsCause expected cause → is_end (kind_of expected) ≡ true
end_expected expected cause ends is =
    ⊎_elim (λ (same : cause ≡ expected). ap (λ (c : Cause). is_end (kind_of c)) (sym same) ∙ ends)
    (λ (sink : (is_end (kind_of expected) ≡ true) × (kind_of cause ≡ kinds.SinkBroke)). sink.0) is

end_stays : (kind : Kind) → is_end kind ≡ true → may_replace kind ≡ false
end_stays kinds.Completed ends = refl
end_stays kinds.Told ends = refl
end_stays kinds.LogPrinted ends = refl
end_stays kinds.RuleFailed ends = refl
end_stays kinds.WrongWords ends = refl
end_stays kinds.WrongFlow ends = refl
end_stays kinds.WrongLog ends = refl
end_stays kinds.WrongFile ends = refl
end_stays kinds.PastLimit ends = refl
end_stays kinds.LogFilled ends = refl
end_stays kinds.SiteBroke ends = absurd (true≢false (sym ends))
end_stays kinds.RunnerBroke ends = refl
end_stays kinds.HallBroke ends = refl
end_stays kinds.SinkBroke ends = refl
end_stays kinds.WaitedOut ends = refl
end_stays kinds.NoMemory ends = absurd (true≢false (sym ends))

-- the sink's fault in the place of an answer
sink_answers : (b a : ℕ) (expected cause : Cause) → is_end (kind_of cause) ≡ true → Answers expected cause → Answers expected (causes.SinkFault b a)
sink_answers b a expected cause ends answers = λ stays. inr (end_expected expected cause ends (answers (end_stays (kind_of cause) ends)), refl)

memory_answers : (expected : Cause) → Answers expected causes.Memory
memory_answers expected = λ stays. absurd (true≢false stays)

sink_yields : (b a : ℕ) (refusal : Option Cause) (cause : Cause) (rest now : Type 0) → is_end (kind_of cause) ≡ true → (rest → now) → Yields refusal cause rest → Yields refusal (causes.SinkFault b a) now
sink_yields b a None cause rest now ends goes yields = goes yields
sink_yields b a (Some refusal) cause rest now ends goes yields = sink_answers b a refusal cause ends yields

memory_yields : (refusal : Option Cause) (rest : Type 0) → rest → Yields refusal causes.Memory rest
memory_yields None rest holds = holds
memory_yields (Some refusal) rest holds = memory_answers refusal

no_stop : (wq : Bool) (P : Plan) (records : List Record) (after : Files) (cause : Cause) → is_end (kind_of cause) ≡ true → IsStop wq P records after cause → ⊥
no_stop wq P records after (causes.SourceChanged file logged found) ends stop = true≢false (sym ends)
no_stop wq P records after (causes.FileDamaged file logged found) ends stop = true≢false (sym ends)
no_stop wq P records after (causes.SiteFault old new) ends stop = true≢false (sym ends)
no_stop wq P records after (causes.RunnerFault old new) ends stop = true≢false (sym ends)
no_stop wq P records after (causes.HallFault old new) ends stop = true≢false (sym ends)
no_stop wq P records after causes.Memory ends stop = true≢false (sym ends)
no_stop wq P records after _ ends stop = stop

sink_comes : (E : Admitting) (b a : ℕ) (wq : Bool) (ask : Ask) (rise : ℕ) (records : List Record) (cause : Cause) → is_end (kind_of cause) ≡ true → ComesToEnd E wq ask rise records cause → ComesToEnd E wq ask rise records (causes.SinkFault b a)
sink_comes E b a false ask rise records cause ends by = (by.0, inr (end_expected (end_cause (length ask.plan.rules) (end_over ask.plan ask.options (before_end records) None)) cause ends by.1, refl))
sink_comes E b a true ask rise records cause ends by = record {
  ended = by.ended;
  waiting = by.waiting;
  is_cause = inr (end_expected (end_cause (length ask.plan.rules) by.ended) cause ends by.is_cause, refl);
}

sink_run : (E : Admitting) (b a : ℕ) (ask : Ask) (rise : ℕ) (records : List Record) (after : Files) (cause : Cause) → is_end (kind_of cause) ≡ true → RunEnds E ask rise records after cause → RunEnds E ask rise records after (causes.SinkFault b a)
sink_run E b a ask rise records after cause ends run =
    ⊎_elim (λ (by : ComesToEnd E ask.options.wq ask rise records cause). inl (sink_comes E b a ask.options.wq ask rise records cause ends by))
    (λ (stop : IsStop ask.options.wq ask.plan records after cause). absurd (no_stop ask.options.wq ask.plan records after cause ends stop)) run

sink_goes : (E : Admitting) (b a : ℕ) (work : Work) (ask : Ask) (rise : ℕ) (H : List Record) (before after : Files) (records : List Record) (cause : Cause) → is_end (kind_of cause) ≡ true
    → GoesOn E work ask rise H before after records cause → GoesOn E work ask rise H before after records (causes.SinkFault b a)
sink_goes E b a works.Run ask rise H before after records cause ends goes =
    sink_yields b a (run_refusal ask.plan ask.options H before) cause (RunEnds E ask rise records after cause) (RunEnds E ask rise records after (causes.SinkFault b a)) ends (sink_run E b a ask rise records after cause ends) goes
sink_goes E b a works.Clean ask rise H before after records cause ends goes =
    sink_yields b a (clean_refusal ask.plan H) cause _ _ ends (sink_answers b a _ cause ends) goes
sink_goes E b a works.PrintLog ask rise H before after records cause ends goes =
    sink_yields b a (log_refusal ask.plan H) cause _ _ ends (sink_answers b a _ cause ends) goes

memory_goes : (E : Admitting) (work : Work) (ask : Ask) (rise : ℕ) (H : List Record) (before after : Files) (records : List Record) → GoesOn E work ask rise H before after records causes.Memory
memory_goes E works.Run ask rise H before after records = memory_yields (run_refusal ask.plan ask.options H before) (RunEnds E ask rise records after causes.Memory) (inr tt)
memory_goes E works.Clean ask rise H before after records = memory_yields (clean_refusal ask.plan H) _ (memory_answers _)
memory_goes E works.PrintLog ask rise H before after records = memory_yields (log_refusal ask.plan H) _ (memory_answers _)

sink_read : (b a : ℕ) (file : Option (List ℕ)) (cause : Cause) → is_end (kind_of cause) ≡ true → IsReadOr file cause → IsReadOr file (causes.SinkFault b a)
sink_read b a file cause ends read =
    ⊎_elim (λ spelled. inl spelled)
    (λ rest. ⊎_elim (λ (damaged : (at : ℕ) × (cause ≡ causes.LogDamaged at)). absurd (true≢false (sym ends ∙ ap (λ (c : Cause). is_end (kind_of c)) damaged.1)))
    (λ (replaced : may_replace (kind_of cause) ≡ true). absurd (true≢false (sym replaced ∙ end_stays (kind_of cause) ends))) rest) read

pub printed_log : (E : Admitting) (b a : ℕ) (ask : Ask) (rise : ℕ) (before after : Files) (records : List Record) (cause now : Cause) → Stands b a cause now → LogEnds E ask rise before after records cause → LogEnds E ask rise before after records now
printed_log E b a ask rise before after records cause now stood ends =
    of_each (λ (c : Cause). LogEnds E ask rise before after records c) b a cause now stood ends
    (λ rose is. record {
      damaged = λ at wrong. absurd (cc);
      read = sink_read b a (before ask.log) cause is ends.read;
      whole = λ H spelled. sink_goes E b a ask.work ask rise H before after records cause is (ends.whole H spelled);
    })
    (record {
      damaged = λ at wrong. absurd (cc);
      read = inr (inr refl);
      whole = λ H spelled. memory_goes E ask.work ask rise H before after records;
    })

-- how the call ends, once its text was printed
pub printed_ends : (E : Admitting) (b a : ℕ) (asked : Result Ask Cause) (rise : ℕ) (before after : Files) (records : List Record) (cause now : Cause) → Stands b a cause now → CallEnds E asked rise before after records cause
    → CallEnds E asked rise before after records now
printed_ends E b a (Ok ask) rise before after records cause now stood ends = printed_log E b a ask rise before after records cause now stood ends
printed_ends E b a (Err refusal) rise before after records cause now stood ends =
    (of_each (λ (c : Cause). Answers refusal c) b a cause now stood ends.0 (λ rose is. sink_answers b a refusal cause is ends.0) (memory_answers refusal), ends.1, ends.2)

memory_words : (words : Result Options Cause) → WordsEnd words causes.Memory
memory_words (Err refusal) = λ other. absurd (true≢false other)
memory_words (Ok options) = refl

-- What the words ask for is refused by no end of what was asked for.
abbrev RefusedEarly : {T : Type 0} → Result T Cause → Type 0
RefusedEarly (Ok value) = Unit {0}
RefusedEarly (Err cause) = is_end (kind_of cause) ≡ false

early_words : (words : List (List ℕ)) → RefusedEarly (chosen words)
early_words words = by_options (options_of words)
  where
    by_options : (o : Option Options) → RefusedEarly (ok_or o causes.Usage)
    by_options None = refl
    by_options (Some options) = tt

end_memory : (kind : Kind) → is_end kind ≡ true → is_no_memory kind ≡ false
end_memory kinds.NoMemory ends = absurd (true≢false (sym ends))
end_memory _ ends = refl

sink_words : (b a : ℕ) (words : Result Options Cause) (cause : Cause) → RefusedEarly words → is_end (kind_of cause) ≡ true → WordsEnd words cause → WordsEnd words (causes.SinkFault b a)
sink_words b a (Err refusal) cause early ends said = λ other. absurd (true≢false (sym ends ∙ ap (λ (c : Cause). is_end (kind_of c)) (said (end_memory (kind_of cause) ends)) ∙ early))
sink_words b a (Ok options) cause early ends said = refl

-- what is said of the words
pub printed_words : (words : List (List ℕ)) (b a : ℕ) (cause now : Cause) → Stands b a cause now → WordsEnd (chosen words) cause → WordsEnd (chosen words) now
printed_words words b a cause now stood said =
    of_each (WordsEnd (chosen words)) b a cause now stood said (λ rose is. sink_words b a (chosen words) cause (early_words words) is said) (memory_words (chosen words))

wider_fault : (sb : ℕ) (rb : List ℕ) (hb ib b sa : ℕ) (ra : List ℕ) (ha ia a : ℕ) (cause : Cause) → FaultEnd (counts sb rb hb ib 0) (counts sa ra ha ia 0) cause → FaultEnd (counts sb rb hb ib b) (counts sa ra ha ia a) cause
wider_fault sb rb hb ib b sa ra ha ia a (causes.SiteFault old new) fault = fault
wider_fault sb rb hb ib b sa ra ha ia a (causes.RunnerFault old new) fault = fault
wider_fault sb rb hb ib b sa ra ha ia a (causes.HallFault old new) fault = fault
wider_fault sb rb hb ib b sa ra ha ia a (causes.SinkFault old new) fault = absurd (let wrong : ⊥ = omega (arith, fault.2) in wrong)
wider_fault sb rb hb ib b sa ra ha ia a _ fault = tt

-- of faults: the sink's is told only where its count rose
pub printed_fault : (sb : ℕ) (rb : List ℕ) (hb ib b sa : ℕ) (ra : List ℕ) (ha ia a : ℕ) (cause now : Cause) → Stands b a cause now → FaultEnd (counts sb rb hb ib 0) (counts sa ra ha ia 0) cause → FaultEnd (counts sb rb hb ib b) (counts sa ra ha ia a) now
printed_fault sb rb hb ib b sa ra ha ia a cause now stood fault =
    of_each (FaultEnd (counts sb rb hb ib b) (counts sa ra ha ia a)) b a cause now stood (wider_fault sb rb hb ib b sa ra ha ia a cause fault) (λ rose is. (refl, refl, rose)) tt

-- where a kind is the end of what was asked for
pub end_read : (kind : Kind) → is_end kind ≡ true → was_read kind ≡ true
end_read kinds.Completed ends = refl
end_read kinds.Told ends = refl
end_read kinds.LogPrinted ends = refl
end_read kinds.RuleFailed ends = refl
end_read kinds.WrongWords ends = absurd (true≢false (sym ends))
end_read kinds.WrongFlow ends = absurd (true≢false (sym ends))
end_read kinds.WrongLog ends = absurd (true≢false (sym ends))
end_read kinds.WrongFile ends = refl
end_read kinds.PastLimit ends = refl
end_read kinds.LogFilled ends = refl
end_read kinds.SiteBroke ends = absurd (true≢false (sym ends))
end_read kinds.RunnerBroke ends = refl
end_read kinds.HallBroke ends = refl
end_read kinds.SinkBroke ends = refl
end_read kinds.WaitedOut ends = refl
end_read kinds.NoMemory ends = absurd (true≢false (sym ends))

end_whole : (kind : Kind) → is_end kind ≡ true → is_cut kind ≡ true → ⊥
end_whole kinds.SiteBroke ends cut = true≢false (sym ends)
end_whole kinds.NoMemory ends cut = true≢false (sym ends)
end_whole _ ends cut = true≢false (sym cut)

pub end_loses : (kind : Kind) → is_end kind ≡ true → may_lose kind ≡ false
end_loses kinds.WrongFile ends = absurd (true≢false (sym ends))
end_loses kinds.SiteBroke ends = absurd (true≢false (sym ends))
end_loses kinds.RunnerBroke ends = absurd (true≢false (sym ends))
end_loses kinds.HallBroke ends = absurd (true≢false (sym ends))
end_loses kinds.NoMemory ends = absurd (true≢false (sym ends))
end_loses _ ends = refl

log_after : (H all : List Record) (kind now : Kind) → (may_replace kind ≡ true → may_replace now ≡ true) → HasLog H all kind → HasLog H all now
log_after H all kind now replaces has = ⊎_elim (λ begins. inl begins) (λ (none : (all ≡ []) × (may_replace kind ≡ true)). inr (none.0, replaces none.1)) has

legal_after : (P : Plan) (H all : List Record) (kind now : Kind) → (was_read kind ≡ false → was_read now ≡ false) → IsLegalOr P H all kind → IsLegalOr P H all now
legal_after P H all kind now unread legal = ⊎_elim (λ is. inl is) (λ (other : ((all ≡ H) ⊎ (all ≡ [])) × (was_read kind ≡ false)). inr (other.0, unread other.1)) legal

module _ {S : Type 0} (E : Admitting) (tells : Type 0) (files : S → Files) (may_leave : S → Outcomes) (moment : S → ℕ) (images_since : S → ℕ → Files → Type 0) (born : ℕ)
    (gives : Function) (may_fail : Job → Failure → Type 0) (told : Job → Type 0) (sure honest_links : Type 0) (sb : ℕ) (rb : List ℕ) (hb ib b sa : ℕ) (ra : List ℕ) (ha ia a : ℕ) (ask : Ask) (old new : S) (records : List Record) where
  -- what holds once the text was printed
  pub printed_serves : (cause now : Cause) → Stands b a cause now
      → Serves E tells files may_leave moment images_since born gives may_fail told sure honest_links (counts sb rb hb ib 0) (counts sa ra ha ia 0) ask old new records cause
      → Serves E tells files may_leave moment images_since born gives may_fail told sure honest_links (counts sb rb hb ib b) (counts sa ra ha ia a) ask old new records now
  printed_serves cause now stood s =
      of_each (λ (c : Cause). Serves E tells files may_leave moment images_since born gives may_fail told sure honest_links (counts sb rb hb ib b) (counts sa ra ha ia a) ask old new records c) b a cause now stood
      (record {
        ends = s.ends;
        late = s.late;
        faults = wider_fault sb rb hb ib b sa ra ha ia a cause s.faults;
        has_log = s.has_log;
        added = s.added;
        legal = s.legal;
        logged = s.logged;
        closed = s.closed;
        spent = s.spent;
        lost = s.lost;
        lost_away = s.lost_away;
        moments = s.moments;
        resumable = s.resumable;
        now = s.now;
        untouched = s.untouched;
        quiet = s.quiet;
        unread = s.unread;
        others = s.others;
        reads = s.reads;
        contents = s.contents;
        honest = s.honest;
        modes = s.modes;
        places = s.places;
        gone = s.gone;
        cleaned = s.cleaned;
        sure_end = s.sure_end;
        never = s.never;
        completes = λ t H spelled alone work resumable free there fit room is_sure jobs none.
            s.completes t H spelled alone work resumable free there fit room is_sure jobs (record { site = none.site; runners = none.runners; sink = refl });
      })
      (λ rose is. record {
        ends = λ t. printed_log E b a ask (ia - ib) (files old) (files new) records cause (causes.SinkFault b a) (inr (inl (refl, rose, is))) (s.ends t);
        late = refl;
        faults = (refl, refl, rose);
        added = λ t H spelled. sink_adds ask.work ask.options H records b a cause is (s.added t H spelled);
        has_log = λ t H spelled. log_after H records (kind_of cause) kinds.SinkBroke (λ replaced. absurd (true≢false (sym replaced ∙ end_stays (kind_of cause) is))) (s.has_log t H spelled);
        legal = λ read. s.legal (end_read (kind_of cause) is);
        logged = λ t H spelled. legal_after ask.plan H records (kind_of cause) kinds.SinkBroke (λ unread. absurd (true≢false (sym (end_read (kind_of cause) is) ∙ unread))) (s.logged t H spelled);
        closed = λ wrong. absurd (true≢false (sym wrong));
        spent = λ t H spelled whole. s.spent t H spelled (end_whole (kind_of cause) is);
        lost = λ t H spelled alone loses. s.lost t H spelled alone (end_loses (kind_of cause) is);
        lost_away = λ t H spelled loses. s.lost_away t H spelled (end_loses (kind_of cause) is);
        moments = λ t H spelled. all_after files may_leave images_since born ask old new records Held H cause (causes.SinkFault b a) (λ cut. absurd (end_whole (kind_of cause) is cut)) (s.moments t H spelled);
        resumable = s.resumable;
        now = λ t H spelled resumable whole. s.now t H spelled resumable (end_whole (kind_of cause) is);
        untouched = λ t wrong. absurd (true≢false (sym wrong));
        quiet = λ t wrong. absurd (true≢false (sym wrong));
        unread = s.unread;
        others = s.others;
        reads = λ t m spared. s.reads t m (spared.0, λ cut. absurd (end_whole (kind_of cause) is cut));
        contents = λ t H spelled met jobs. all_after files may_leave images_since born ask old new records (SerialFits gives (read_sources ask.plan (files old))) H cause (causes.SinkFault b a) (λ cut. absurd (end_whole (kind_of cause) is cut)) (s.contents t H spelled met jobs);
        honest = s.honest;
        modes = s.modes;
        places = s.places;
        gone = λ t H spelled whole. s.gone t H spelled (end_whole (kind_of cause) is);
        cleaned = λ t H spelled. tt;
        sure_end = λ alone is_sure. refl;
        never = λ is_sure. refl;
        completes = λ t H spelled alone work resumable free there fit room is_sure jobs none. absurd (let wrong : ⊥ = omega (arith, rose, none.sink) in wrong);
      })
      (record {
        ends = λ t. printed_log E b a ask (ia - ib) (files old) (files new) records cause causes.Memory (inr (inr refl)) (s.ends t);
        late = refl;
        faults = tt;
        added = λ t H spelled. memory_adds ask.work ask.options H records cause (s.added t H spelled);
        has_log = λ t H spelled. log_after H records (kind_of cause) kinds.NoMemory (λ replaced. refl) (s.has_log t H spelled);
        legal = λ wrong. absurd (true≢false (sym wrong));
        logged = λ t H spelled. legal_after ask.plan H records (kind_of cause) kinds.NoMemory (λ unread. refl) (s.logged t H spelled);
        closed = λ wrong. absurd (true≢false (sym wrong));
        spent = λ t H spelled whole. absurd (whole refl);
        lost = λ t H spelled alone wrong. absurd (true≢false wrong);
        lost_away = λ t H spelled wrong. absurd (true≢false wrong);
        moments = λ t H spelled. all_after files may_leave images_since born ask old new records Held H cause causes.Memory (λ cut. refl) (s.moments t H spelled);
        resumable = s.resumable;
        now = λ t H spelled resumable whole. absurd (whole refl);
        untouched = λ t wrong. absurd (true≢false (sym wrong));
        quiet = λ t wrong. absurd (true≢false (sym wrong));
        unread = s.unread;
        others = s.others;
        reads = λ t m spared. s.reads t m (spared.0, λ cut. spared.1 refl);
        contents = λ t H spelled met jobs. all_after files may_leave images_since born ask old new records (SerialFits gives (read_sources ask.plan (files old))) H cause causes.Memory (λ cut. refl) (s.contents t H spelled met jobs);
        honest = s.honest;
        modes = s.modes;
        places = s.places;
        gone = λ t H spelled whole. absurd (whole refl);
        cleaned = λ t H spelled. tt;
        sure_end = λ alone is_sure. refl;
        never = λ is_sure. refl;
        completes = λ t H spelled alone work resumable free there fit room is_sure jobs none. refl;
      })

-- ---- of the parts that hold over every site

pub after_legal : (P : Plan) (all : List Record) (b a : ℕ) (cause now : Cause) → Stands b a cause now → (was_read (kind_of cause) ≡ true → IsLegal P all) → was_read (kind_of now) ≡ true → IsLegal P all
after_legal P all b a cause now stood legal =
    of_each (λ (c : Cause). was_read (kind_of c) ≡ true → IsLegal P all) b a cause now stood legal (λ rose is read. legal (end_read (kind_of cause) is)) (λ wrong. absurd (true≢false (sym wrong)))

-- where a call was read a plan was
pub after_planned : (A : Type 0) (b a : ℕ) (cause now : Cause) → Stands b a cause now → (was_read (kind_of cause) ≡ true → A) → was_read (kind_of now) ≡ true → A
after_planned A b a cause now stood planned =
    of_each (λ (c : Cause). was_read (kind_of c) ≡ true → A) b a cause now stood planned (λ rose is read. planned (end_read (kind_of cause) is)) (λ wrong. absurd (true≢false (sym wrong)))

pub after_closed : (all : List Record) (b a : ℕ) (cause now : Cause) → Stands b a cause now → (is_run_end (kind_of cause) ≡ true → SpentOnce (since_opening all)) → is_run_end (kind_of now) ≡ true → SpentOnce (since_opening all)
after_closed all b a cause now stood closed =
    of_each (λ (c : Cause). is_run_end (kind_of c) ≡ true → SpentOnce (since_opening all)) b a cause now stood closed (λ rose is wrong. absurd (true≢false (sym wrong))) (λ wrong. absurd (true≢false (sym wrong)))

pub after_sure : (b a : ℕ) (cause now : Cause) → Stands b a cause now → is_failing (kind_of cause) ≡ false → is_failing (kind_of now) ≡ false
after_sure b a cause now stood sure = of_each (λ (c : Cause). is_failing (kind_of c) ≡ false) b a cause now stood sure (λ rose is. refl) refl

pub after_failed : (f0 f1 b a : ℕ) (cause now : Cause) → Stands b a cause now → FailureEnd f0 f1 (kind_of cause) → FailureEnd f0 f1 (kind_of now)
after_failed f0 f1 b a cause now stood failed =
    of_each (λ (c : Cause). FailureEnd f0 f1 (kind_of c)) b a cause now stood failed (λ rose is. record { later = failed.later; rose = λ wrong. absurd (cc) }) (record { later = failed.later; rose = λ wrong. absurd (cc) })

-- what holds of a refusal
pub after_refused : (A : Type 0) (b a : ℕ) (cause now : Cause) → Stands b a cause now → (is_refusal (kind_of cause) ≡ true → A) → is_refusal (kind_of now) ≡ true → A
after_refused A b a cause now stood holds =
    of_each (λ (c : Cause). is_refusal (kind_of c) ≡ true → A) b a cause now stood holds (λ rose is wrong. absurd (true≢false (sym wrong))) (λ wrong. absurd (true≢false (sym wrong)))

-- what holds unless the call was cut short
pub after_cut : (A : Type 0) (b a : ℕ) (cause now : Cause) → Stands b a cause now → ((IsCut cause → ⊥) → A) → (IsCut now → ⊥) → A
after_cut A b a cause now stood holds =
    of_each (λ (c : Cause). (IsCut c → ⊥) → A) b a cause now stood holds (λ rose is whole. holds (end_whole (kind_of cause) is)) (λ whole. absurd (whole refl))

-- what holds unless attempts may be lost
pub after_kept : (A : Type 0) (b a : ℕ) (cause now : Cause) → Stands b a cause now → (may_lose (kind_of cause) ≡ false → A) → may_lose (kind_of now) ≡ false → A
after_kept A b a cause now stood holds =
    of_each (λ (c : Cause). may_lose (kind_of c) ≡ false → A) b a cause now stood holds (λ rose is keeps. holds (end_loses (kind_of cause) is)) (λ wrong. absurd (true≢false wrong))

-- what holds where a run ends
pub after_run : (A : Type 0) (b a : ℕ) (cause now : Cause) → Stands b a cause now → (is_run_end (kind_of cause) ≡ true → A) → is_run_end (kind_of now) ≡ true → A
after_run A b a cause now stood holds =
    of_each (λ (c : Cause). is_run_end (kind_of c) ≡ true → A) b a cause now stood holds (λ rose is wrong. absurd (true≢false (sym wrong))) (λ wrong. absurd (true≢false (sym wrong)))

-- no runner's fault is told that wasn't
pub after_spared : (b a : ℕ) (cause now : Cause) → Stands b a cause now → is_runner_fault (kind_of cause) ≡ false → is_runner_fault (kind_of now) ≡ false
after_spared b a cause now stood spared = of_each (λ (c : Cause). is_runner_fault (kind_of c) ≡ false) b a cause now stood spared (λ rose is. refl) refl

-- what is said of a wait
pub after_waited : (fact : Wait → Type 0) (b a : ℕ) (cause now : Cause) → Stands b a cause now → IfWaited cause fact → IfWaited now fact
after_waited fact b a cause now stood waited = of_each (λ (c : Cause). IfWaited c fact) b a cause now stood waited (λ rose is. tt) tt
