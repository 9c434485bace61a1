-- What a call adds to the records of its log.
use Rattle.std.proofs.Common.{◌≡◌, ◌≢◌, ◌⊎◌, ⊎_elim, inl, inr, ◌∙◌, ℕ, Bool, true, false, List, [], Option, Some, None, Result, Ok, Err, refl, sym, subst, true≢false, if◌then◌else◌}
use Rattle.flow_types.specs.declared.plan.Plan.{Plan}
use Rattle.flow_types.specs.declared.numbers.Content.{Content}
use Rattle.flow_types.specs.declared.numbers.FileNo.{FileNo}
use Rattle.flow_types.specs.declared.records.Record.{Record}
use Rattle.flow_types.specs.declared.records.EndKind.{EndKind}
use Rattle.flow_types.specs.declared.records.EndKind.TheVariants as ends
use Rattle.flow_types.specs.Plans.{is_empty, is_source}
use Rattle.run_history.specs.declared.answers.Check.{Check}
use Rattle.run_history.specs.declared.answers.Check.TheVariants as check
use Rattle.run_history.specs.declared.options.Options.{Options as RunOptions}
use Rattle.run_history.specs.declared.states.Found.{Found}
use Rattle.run_history.specs.History.{part}
use Rattle.log_recover.specs.declared.fault.RecoverFault.TheVariants as recovery
use Rattle.outside.specs.declared.fault.Fault.TheVariants as devices
use Rattle.desk.specs.declared.answers.StartFault.TheVariants as faults
use Rattle.local_run.specs.declared.halt.Halt.TheVariants as halts
use Rattle.local_run.specs.declared.ended.Stopped.{Stopped}
use Rattle.local_run.specs.declared.ended.Stopped.TheVariants as stopped
use Rattle.local_run.specs.Added.{AddsOneRun, AddsRun, EndsAs}
use Rattle.local_run.specs.Runs.{IsRefusedRun}
use Rattle.cleaning.specs.declared.answers.CleanFault.{CleanFault}
use Rattle.cleaning.specs.declared.answers.CleanFault.TheVariants as cleans
use Rattle.cleaning.specs.declared.answers.LookFault.{LookFault}
use Rattle.cleaning.specs.declared.answers.LookFault.TheVariants as looks
use Rattle.cleaning.specs.Cleanings.{AreEither, IsCleanFault, IsLeft, ended_records}
use Rattle.cleaning.specs.Looks.{GivesBack, IsLookFault}
use Rattle.command_words.specs.declared.options.Work.{Work}
use Rattle.command_words.specs.declared.options.Work.TheVariants as works
use Rattle.report.specs.declared.cause.Cause.{Cause}
use Rattle.report.specs.declared.cause.Cause.TheVariants as causes
use Rattle.report.specs.Causes.{is_cut, is_end, kind_of}
use Rattle.master_run.specs.declared.rises.Rise.{Rise}
use Rattle.master_run.specs.Added.{AddsBy, AddsEnded, AddsNone, AddsSome, AddsStopped, CleanAddsBy, PrintAddsBy, RunAddsBy}
use Rattle.master_run.specs.Runs.{clean_cause, look_cause, run_cause}
use Rattle.master_run.proofs.Cared.{ended_either}

-- the same run, of which less is said of its Ended
one_as : (O : RunOptions) (H all : List Record) (of now : Option EndKind → Type 0) → ((kind : Option EndKind) → of kind → now kind) → AddsOneRun O H all of → AddsOneRun O H all now
one_as O H all of now less one = record {
  opening = one.opening;
  opens = one.opens;
  like = one.like;
  kind = one.kind;
  is = less one.kind one.is;
  adds = one.adds;
}

-- ---- of a run, by how it ended

-- one that was started
started : (O : RunOptions) (H all : List Record) (how : Result Check Stopped) (now : Option EndKind → Type 0) → (IsRefusedRun how → ⊥) → ((kind : Option EndKind) → EndsAs how kind → now kind) → AddsRun O H all how → AddsOneRun O H all now
started O H all how now runs less adds = ⊎_elim (λ (none : IsRefusedRun how × (all ≡ H)). absurd (runs none.0)) (λ (one : AddsOneRun O H all (EndsAs how)). one_as O H all (EndsAs how) now less one) adds

no_clean : (kind : Option EndKind) → kind ≡ None → kind ≢ Some ends.Cleaned
no_clean kind none is = let wrong : None ≡ Some ends.Cleaned = sym none ∙ is in cc

damage_adds : (source : Bool) (file : FileNo) (logged : Content) (found : Found) (O : RunOptions) (H all : List Record) → (all ≡ H) ⊎ AddsStopped O H all
    → RunAddsBy O H all (if source then causes.SourceChanged file logged found else causes.FileDamaged file logged found)
damage_adds true file logged found O H all adds = adds
damage_adds false file logged found O H all adds = adds

pub run_adds : (s r h : Rise) (P : Plan) (O : RunOptions) (H all : List Record) (how : Result Check Stopped) → (IsRefusedRun how → all ≡ H) → AddsRun O H all how → RunAddsBy O H all (run_cause s r h P how)
run_adds s r h P O H all (Ok (check.Complete collected)) same adds = started O H all (Ok (check.Complete collected)) (λ kind. kind ≡ Some ends.Complete) (λ no_run. no_run) (λ kind is. is) adds
run_adds s r h P O H all (Ok (check.CommandFailed rule why)) same adds = started O H all (Ok (check.CommandFailed rule why)) (λ kind. kind ≡ Some ends.CommandFailed) (λ no_run. no_run) (λ kind is. is) adds
run_adds s r h P O H all (Ok (check.InputsTooLarge rule total)) same adds = started O H all (Ok (check.InputsTooLarge rule total)) (λ kind. kind ≡ Some ends.InputsTooLarge) (λ no_run. no_run) (λ kind is. is) adds
run_adds s r h P O H all (Ok (check.NoRoom rule need bytes limit)) same adds = started O H all (Ok (check.NoRoom rule need bytes limit)) (λ kind. kind ≡ Some ends.NoRoom) (λ no_run. no_run) (λ kind is. is) adds
run_adds s r h P O H all (Ok (check.Waited wait)) same adds = started O H all (Ok (check.Waited wait)) (λ kind. kind ≡ Some ends.Waited) (λ no_run. no_run) (λ kind is. is) adds
run_adds s r h P O H all (Ok (check.LogFull count)) same adds = inr (started O H all (Ok (check.LogFull count)) (λ kind. kind ≡ None) (λ no_run. no_run) (λ kind is. is) adds)
run_adds s r h P O H all (Ok check.Going) same adds = inr (started O H all (Ok check.Going) (λ kind. kind ≢ Some ends.Cleaned) (λ no_run. no_run) no_clean adds)
run_adds s r h P O H all (Ok check.Halted) same adds = inr (started O H all (Ok check.Halted) (λ kind. kind ≢ Some ends.Cleaned) (λ no_run. no_run) no_clean adds)
run_adds s r h P O H all (Err (stopped.Refused (faults.OtherFlow logged found))) same adds = same tt
run_adds s r h P O H all (Err (stopped.Refused (faults.NotLegal at))) same adds = same tt
run_adds s r h P O H all (Err (stopped.Refused (faults.LogFull count))) same adds = inl (same tt)
run_adds s r h P O H all (Err (stopped.Refused (faults.StoredAboveLimit bytes limit))) same adds = same tt
run_adds s r h P O H all (Err (stopped.Refused (faults.SourceMissing file))) same adds = same tt
run_adds s r h P O H all (Err (stopped.Refused (faults.SourceTooLarge file size))) same adds = same tt
run_adds s r h P O H all (Err (stopped.Refused (faults.SourceChanged file logged found))) same adds = inl (same tt)
run_adds s r h P O H all (Err (stopped.Refused (faults.FileDamaged file logged found))) same adds = inl (same tt)
run_adds s r h P O H all (Err (stopped.Refused (faults.Site old new))) same adds = inl (inl (same tt))
run_adds s r h P O H all (Err (stopped.Refused faults.Memory)) same adds = inl (inl (same tt))
run_adds s r h P O H all (Err (stopped.Halted (halts.Damaged file logged found))) same adds =
    damage_adds (is_source P file.0) file logged found O H all (inr (started O H all (Err (stopped.Halted (halts.Damaged file logged found))) (λ kind. kind ≡ None) (λ no_run. no_run) (λ kind is. is) adds))
run_adds s r h P O H all (Err (stopped.Halted halts.Runner)) same adds = started O H all (Err (stopped.Halted halts.Runner)) (λ kind. kind ≡ None) (λ no_run. no_run) (λ kind is. is) adds
run_adds s r h P O H all (Err (stopped.Halted halts.Site)) same adds = inr (started O H all (Err (stopped.Halted halts.Site)) (λ kind. kind ≡ None) (λ no_run. no_run) (λ kind is. is) adds)
run_adds s r h P O H all (Err (stopped.Halted halts.Memory)) same adds = inr (started O H all (Err (stopped.Halted halts.Memory)) (λ kind. kind ≢ Some ends.Cleaned) (λ no_run. no_run) (λ kind is. is) adds)
run_adds s r h P O H all (Err stopped.Hall) same adds = inr (started O H all (Err stopped.Hall) (λ kind. kind ≡ None) (λ no_run. no_run) (λ kind is. is) adds)
run_adds s r h P O H all (Err (stopped.Unheard devices.Failed)) same adds = inl (same tt)
run_adds s r h P O H all (Err (stopped.Unheard devices.Memory)) same adds = inl (inl (same tt))
run_adds s r h P O H all (Err (stopped.Unopened devices.Failed)) same adds = inl (inl (same tt))
run_adds s r h P O H all (Err (stopped.Unopened devices.Memory)) same adds = inl (inl (same tt))

-- ---- of a cleaning and of a printing, by what they were refused for

pub look_adds : (s : Rise) (P : Plan) (H given : List Record) (why : LookFault) → IsLookFault P H why → GivesBack H why given → PrintAddsBy H given (look_cause s why)
look_adds s P H given (looks.Log recovery.Site) is gives = inr gives
look_adds s P H given (looks.Log recovery.BadHeader) is gives = absurd is
look_adds s P H given (looks.Log (recovery.BadRecord at)) is gives = absurd is
look_adds s P H given (looks.Log recovery.Memory) is gives = inr gives
look_adds s P H given (looks.OtherFlow logged found) is gives = gives
look_adds s P H given (looks.NotLegal at) is gives = gives
look_adds s P H given looks.Memory is gives = inl gives

look_cleans : (s : Rise) (P : Plan) (H given : List Record) (moment : ℕ) (why : LookFault) → IsLookFault P H why → GivesBack H why given → CleanAddsBy H given (look_cause s why)
look_cleans s P H given moment (looks.Log recovery.Site) is gives = inl gives
look_cleans s P H given moment (looks.Log recovery.BadHeader) is gives = absurd is
look_cleans s P H given moment (looks.Log (recovery.BadRecord at)) is gives = absurd is
look_cleans s P H given moment (looks.Log recovery.Memory) is gives = inl gives
look_cleans s P H given moment (looks.OtherFlow logged found) is gives = gives
look_cleans s P H given moment (looks.NotLegal at) is gives = gives
look_cleans s P H given moment looks.Memory is gives = inr (moment, inl gives)

pub clean_adds : (s : Rise) (P : Plan) (H given : List Record) (moment : ℕ) (why : CleanFault) → IsCleanFault P H why → IsLeft H moment why given → CleanAddsBy H given (clean_cause s why)
clean_adds s P H given moment (cleans.Look why) is left = look_cleans s P H given moment why is left
clean_adds s P H given moment (cleans.LogFull count) is left = left
clean_adds s P H given moment cleans.Site is left = inr (moment, left)
clean_adds s P H given moment cleans.Memory is left = inr (moment, left)

-- ---- of a call that read no log

pub unread_adds : (work : Work) (O : RunOptions) (H : List Record) (cause : Cause) → is_cut (kind_of cause) ≡ true → AddsBy work O H [] cause
unread_adds works.Run O H (causes.SiteFault old new) cut = inl (inr refl)
unread_adds works.Run O H causes.Memory cut = inl (inr refl)
unread_adds works.Run O H _ cut = absurd (true≢false (sym cut))
unread_adds works.Clean O H (causes.SiteFault old new) cut = inl refl
unread_adds works.Clean O H causes.Memory cut = inl refl
unread_adds works.Clean O H _ cut = absurd (true≢false (sym cut))
unread_adds works.PrintLog O H (causes.SiteFault old new) cut = inr refl
unread_adds works.PrintLog O H causes.Memory cut = inr refl
unread_adds works.PrintLog O H _ cut = absurd (true≢false (sym cut))

-- ---- once its text was printed

ended_some : (O : RunOptions) (H all : List Record) (kind : EndKind) → Some kind ≢ Some ends.Cleaned → AddsEnded O H all kind → AddsSome O H all
ended_some O H all kind other one = one_as O H all (λ k. k ≡ Some kind) (λ k. k ≢ Some ends.Cleaned) (λ k is cleans. other (sym is ∙ cleans)) one

stopped_some : (O : RunOptions) (H all : List Record) → AddsStopped O H all → AddsSome O H all
stopped_some O H all one = one_as O H all (λ k. k ≡ None) (λ k. k ≢ Some ends.Cleaned) no_clean one

same_or_stopped : (O : RunOptions) (H all : List Record) → (all ≡ H) ⊎ AddsStopped O H all → AddsNone H all ⊎ AddsSome O H all
same_or_stopped O H all adds = ⊎_elim (λ (same : all ≡ H). inl (inl same)) (λ (one : AddsStopped O H all). inr (stopped_some O H all one)) adds

run_some : (O : RunOptions) (H all : List Record) (cause : Cause) → is_end (kind_of cause) ≡ true → RunAddsBy O H all cause → (all ≡ H) ⊎ AddsSome O H all
run_some O H all (causes.Complete rules collected) is adds = inr (ended_some O H all ends.Complete (λ wrong. cc) adds)
run_some O H all (causes.CommandFailed rule why) is adds = inr (ended_some O H all ends.CommandFailed (λ wrong. cc) adds)
run_some O H all (causes.InputsTooLarge rule total) is adds = inr (ended_some O H all ends.InputsTooLarge (λ wrong. cc) adds)
run_some O H all (causes.NoRoom rule need bytes limit) is adds = inr (ended_some O H all ends.NoRoom (λ wrong. cc) adds)
run_some O H all (causes.Waited wait) is adds = inr (ended_some O H all ends.Waited (λ wrong. cc) adds)
run_some O H all (causes.LogFull count) is adds = ⊎_elim (λ (same : all ≡ H). inl same) (λ (one : AddsStopped O H all). inr (stopped_some O H all one)) adds
run_some O H all (causes.Cleaned removed) is adds = inl adds
run_some O H all (causes.Printed lines) is adds = inl adds
run_some O H all _ is adds = absurd (true≢false (sym is))

clean_either : (H all : List Record) (moment : ℕ) → all ≡ ended_records H moment → AreEither H moment all
clean_either H all moment is = subst (AreEither H moment) (sym is) (ended_either H moment (is_empty (part H)))

clean_some : (H all : List Record) (cause : Cause) → is_end (kind_of cause) ≡ true → CleanAddsBy H all cause → (moment : ℕ) × AreEither H moment all
clean_some H all (causes.Cleaned removed) is adds = (adds.0, clean_either H all adds.0 adds.1)
clean_some H all (causes.SinkFault old new) is adds = absurd (true≢false (sym is))
clean_some H all (causes.SiteFault old new) is adds = absurd (true≢false (sym is))
clean_some H all causes.Memory is adds = absurd (true≢false (sym is))
clean_some H all _ is adds = (0, inl adds)

print_some : (H all : List Record) (cause : Cause) → is_end (kind_of cause) ≡ true → PrintAddsBy H all cause → all ≡ H
print_some H all (causes.SiteFault old new) is adds = absurd (true≢false (sym is))
print_some H all causes.Memory is adds = absurd (true≢false (sym is))
print_some H all _ is adds = adds

-- where the sink's fault stands in the place of the end of what was asked for
pub sink_adds : (work : Work) (O : RunOptions) (H all : List Record) (b a : ℕ) (cause : Cause) → is_end (kind_of cause) ≡ true → AddsBy work O H all cause → AddsBy work O H all (causes.SinkFault b a)
sink_adds works.Run O H all b a cause is adds = run_some O H all cause is adds
sink_adds works.Clean O H all b a cause is adds = clean_some H all cause is adds
sink_adds works.PrintLog O H all b a cause is adds = print_some H all cause is adds

run_any : (O : RunOptions) (H all : List Record) (cause : Cause) → RunAddsBy O H all cause → AddsNone H all ⊎ AddsSome O H all
run_any O H all (causes.Complete rules collected) adds = inr (ended_some O H all ends.Complete (λ wrong. cc) adds)
run_any O H all (causes.CommandFailed rule why) adds = inr (ended_some O H all ends.CommandFailed (λ wrong. cc) adds)
run_any O H all (causes.InputsTooLarge rule total) adds = inr (ended_some O H all ends.InputsTooLarge (λ wrong. cc) adds)
run_any O H all (causes.NoRoom rule need bytes limit) adds = inr (ended_some O H all ends.NoRoom (λ wrong. cc) adds)
run_any O H all (causes.Waited wait) adds = inr (ended_some O H all ends.Waited (λ wrong. cc) adds)
run_any O H all (causes.LogFull count) adds = same_or_stopped O H all adds
run_any O H all (causes.SourceChanged file logged found) adds = same_or_stopped O H all adds
run_any O H all (causes.FileDamaged file logged found) adds = same_or_stopped O H all adds
run_any O H all (causes.RunnerFault old new) adds = inr (stopped_some O H all adds)
run_any O H all (causes.HallFault old new) adds = same_or_stopped O H all adds
run_any O H all (causes.SiteFault old new) adds = ⊎_elim (λ (none : AddsNone H all). inl none) (λ (one : AddsStopped O H all). inr (stopped_some O H all one)) adds
run_any O H all (causes.SinkFault old new) adds = ⊎_elim (λ (same : all ≡ H). inl (inl same)) (λ (one : AddsSome O H all). inr one) adds
run_any O H all causes.Memory adds = adds
run_any O H all _ adds = inl (inl adds)

clean_any : (H all : List Record) (cause : Cause) → CleanAddsBy H all cause → (all ≡ []) ⊎ ((moment : ℕ) × AreEither H moment all)
clean_any H all (causes.Cleaned removed) adds = inr (adds.0, clean_either H all adds.0 adds.1)
clean_any H all (causes.SinkFault old new) adds = inr adds
clean_any H all (causes.SiteFault old new) adds = adds
clean_any H all causes.Memory adds = adds
clean_any H all _ adds = inr (0, inl adds)

print_any : (H all : List Record) (cause : Cause) → PrintAddsBy H all cause → AddsNone H all
print_any H all (causes.SiteFault old new) adds = adds
print_any H all causes.Memory adds = adds
print_any H all _ adds = inl adds

-- where memory was wanting
pub memory_adds : (work : Work) (O : RunOptions) (H all : List Record) (cause : Cause) → AddsBy work O H all cause → AddsBy work O H all causes.Memory
memory_adds works.Run O H all cause adds = run_any O H all cause adds
memory_adds works.Clean O H all cause adds = clean_any H all cause adds
memory_adds works.PrintLog O H all cause adds = print_any H all cause adds
