-- What workers tell: reports that a frame takes.
use Rattle.std.proofs.Common.{◌≡◌, ◌≤◌, ◌+◌, ℕ, Bool, true, false, not, cond, List, [], ◌∷◌, length, take, drop, filter, Option, Some, None, refl, ap, sym, subst, arith}
use Rattle.std.specs.Prelude.{insert, nat_lt, position, slice_get}
use Rattle.std.specs.Option.{option_map_or}
use Rattle.std.proofs.lemmas.Bool.{and_parts, leb-true}
use Rattle.std.proofs.lemmas.List.{length-append, length-map, take-append-drop}
use Rattle.flow_types.specs.declared.plan.Plan.{Plan}
use Rattle.flow_types.specs.declared.plan.Port.{Port}
use Rattle.flow_types.specs.declared.plan.Rule.{Rule}
use Rattle.flow_types.specs.declared.job.Job.{Job}
use Rattle.flow_types.specs.declared.job.Outcome.{Outcome}
use Rattle.flow_types.specs.declared.job.Outcome.TheVariants as outcomes
use Rattle.flow_types.specs.declared.job.Task.{Task}
use Rattle.flow_types.specs.declared.job.Want.{Want}
use Rattle.flow_types.specs.declared.messages.Message.{Message}
use Rattle.flow_types.specs.declared.messages.Message.TheVariants as messages
use Rattle.flow_types.specs.declared.numbers.AttemptNo.{AttemptNo}
use Rattle.flow_types.specs.declared.numbers.FileNo.{FileNo}
use Rattle.flow_types.specs.declared.records.Record.{Record}
use Rattle.flow_types.specs.Plans.{IsValid, is_within_limits}
use Rattle.links.specs.Honesty.{HasRun, task_job}
use Rattle.outside.specs.Jobs.{AllFit, IsShaped}
use Rattle.worker_cache.specs.Caches.{Rows, is_full, is_held}
use Rattle.worker_core.specs.declared.running.Running.{Running}
use Rattle.worker_core.specs.Workers.{Worker, ends_at, files_of, files_with, hears, holds_all, inserted, inserted_at, is_file, key_of, missing_message, missing_of, misses, place_of, quiet, reports, runs as runs_attempt, starts, told}
use Rattle.worker_core.proofs.Missing.{missing_ascends}
use Rattle.world_peers.specs.declared.sent.Party.{Party}
use Rattle.world_peers.specs.declared.sent.Party.TheVariants.{Master, Peer}
use Rattle.world_peers.specs.declared.sent.Sent.{Sent}
use Rattle.world_laws.specs.Members.{Every}
use Rattle.world_laws.specs.Worlds.{want_at}
use Rattle.world_laws.specs.Laws.{FitsFrame, IsReport}
use Rattle.world_laws.proofs.Bounds.{all_got}
use Rattle.world_laws.proofs.Invariant.{Setting, due, IsOurAnswer, IsOurTask, IsRight, IsRightMessage, IsRightTask}
use Rattle.world_laws.proofs.Members.{every_nil, every_one}
use Rattle.world_peers.proofs.Spellings.{end_short, lack_short}

-- ---- rules of a valid plan

few : (P : Plan) (r : ℕ) (rule : Rule) → IsValid P → slice_get P.rules r ≡ Some rule → (length rule.inputs ≤ 4096) × (length rule.outputs ≤ 1024)
few P r rule valid at =
    let limits : is_within_limits rule ≡ true = all_got is_within_limits P.rules r rule valid.within_limits at in
    let first = and_parts _ _ limits in
    let second = and_parts _ _ first.0 in
    let third = and_parts _ _ second.0 in
    let fourth = and_parts _ _ third.0 in
    let fifth = and_parts _ _ fourth.0 in
    (leb-true (length rule.inputs) 4096 fifth.0, leb-true (length rule.outputs) 1024 fourth.1)

pub few_inputs : (S : Setting) (H : List Record) (t : Task) → IsValid S.plan → IsOurTask S H t → length t.inputs ≤ 4096
few_inputs S H t valid ours = subst (λ u. length u.inputs ≤ 4096) (sym ours.1) (few S.plan ours.0.number ours.0.rule valid ours.0.in_plan).0

pub few_outputs : (S : Setting) (H : List Record) (t : Task) → IsValid S.plan → IsOurTask S H t → length t.outputs ≤ 1024
few_outputs S H t valid ours =
    let rule : Rule = ours.0.rule in
    subst (λ u. length u.outputs ≤ 1024) (sym ours.1)
    (subst (λ n. n ≤ 1024) (sym (length-map rule.outputs (want_at S.plan))) (few S.plan ours.0.number rule valid ours.0.in_plan).1)

-- ---- a worker

fewer_by : (b : Bool) (f : FileNo) (fs kept : List FileNo) → length kept ≤ length fs → length (cond b (f ∷ kept) kept) ≤ length (f ∷ fs)
fewer_by true f fs kept le = omega (arith, le)
fewer_by false f fs kept le = omega (arith, le)

fewer : (q : FileNo → Bool) (files : List FileNo) → length (filter q files) ≤ length files
fewer q [] = omega arith
fewer q (f ∷ fs) = fewer_by (q f) f fs (filter q fs) (fewer q fs)

insert_len : (files : List FileNo) (at : ℕ) (x : FileNo) → length (insert files at x) ≡ 1 + length files
insert_len files at x =
    omega (arith, length-append (take at files) (x ∷ drop at files), ap length (take-append-drop at files), length-append (take at files) (drop at files))

inserted_by : (x : FileNo) (files : List FileNo) (at : ℕ) (b : Bool) → length (cond b files (insert files at x)) ≤ 1 + length files
inserted_by x files at true = omega arith
inserted_by x files at false = omega (arith, insert_len files at x)

inserted_len : (x : FileNo) (files : List FileNo) (found : Option ℕ) → length (inserted_at x files found) ≤ 1 + length files
inserted_len x files None = omega (arith, length-append files (x ∷ []))
inserted_len x files (Some at) = inserted_by x files at (is_file x (slice_get files at))

files_len : (files : List FileNo) (ports : List Port) → length (files_with files ports) ≤ length files + length ports
files_len files [] = omega arith
files_len files (port ∷ ports) =
    let step : length (inserted port.file files) ≤ 1 + length files = inserted_len port.file files (position (λ f. not (nat_lt f.0 port.file.0)) files) in
    omega (arith, files_len (inserted port.file files) ports, step)

missing_len : (rows : Rows) (run : ℕ) (inputs : List Port) → length (missing_of rows run (files_of inputs)) ≤ length inputs
missing_len rows run inputs = omega (arith, fewer (λ file. not (is_held (key_of run file) rows)) (files_of inputs), files_len [] inputs)

-- missing inputs are told by a report
pub lack_fits : (rows : Rows) (t : Task) → length t.inputs ≤ 4096 → holds_all rows t.run t.inputs ≡ false → FitsFrame (messages.Missing t.attempt (missing_of rows t.run (files_of t.inputs)))
lack_fits rows t inputs lacks =
    (missing_ascends rows t.run t.inputs lacks, lack_short t.attempt (missing_of rows t.run (files_of t.inputs)) (omega (arith, inputs, missing_len rows t.run t.inputs)))

lack_report : (w : Worker) (t : Task) → length t.inputs ≤ 4096 → holds_all w.cache.rows t.run t.inputs ≡ false → IsReport (missing_message w t)
lack_report w t inputs lacks = lack_fits w.cache.rows t inputs lacks

task_said : (w : Worker) (t : Task) (running held : Bool) → length t.inputs ≤ 4096 → holds_all w.cache.rows t.run t.inputs ≡ held
    → Every IsReport (cond running (quiet w) (cond held (starts w t) (misses w t))).acts.send
task_said w t true held inputs is = every_nil IsReport
task_said w t false true inputs is = every_nil IsReport
task_said w t false false inputs is = every_one IsReport (missing_message w t) (lack_report w t inputs is)

put_said : (w : Worker) (full : Bool) (kept : Worker) → Every IsReport (cond full (quiet w) (quiet kept)).acts.send
put_said w true kept = every_nil IsReport
put_said w false kept = every_nil IsReport

-- on a message that goes down a worker sends reports alone
pub hears_said : (w : Worker) (m : Message) → ((t : Task) → m ≡ messages.Task t → length t.inputs ≤ 4096) → Every IsReport (hears w m).acts.send
hears_said w (messages.Put key content) inputs = put_said w (is_full key (length content) w.cache.cap w.cache.rows) _
hears_said w (messages.Task t) inputs = task_said w t (runs_attempt t.attempt w) (holds_all w.cache.rows t.run t.inputs) (inputs t refl) refl
hears_said w (messages.Unlink key) inputs = every_nil IsReport
hears_said w (messages.Cancel attempt) inputs = every_nil IsReport
hears_said w (messages.Done attempt outcome) inputs = every_nil IsReport
hears_said w (messages.Hello total largest cache) inputs = every_nil IsReport
hears_said w (messages.Missing attempt files) inputs = every_nil IsReport
hears_said w (messages.Totals total largest cache) inputs = every_nil IsReport
hears_said w messages.Bye inputs = every_nil IsReport

fit_len : (wants : List Want) (contents : List (List ℕ)) → AllFit wants contents → length contents ≡ length wants
fit_len [] [] fits = refl
fit_len [] (c ∷ cs) fits = absurd fits
fit_len (w ∷ ws) [] fits = absurd fits
fit_len (w ∷ ws) (c ∷ cs) fits = omega (arith, fit_len ws cs fits.1)

-- the end of a job with few outputs is a report
pub end_report : (attempt : AttemptNo) (job : Job) (outcome : Outcome) → length job.outputs ≤ 1024 → (HasRun outcome → IsShaped job outcome) → FitsFrame (messages.Done attempt outcome)
end_report attempt job (outcomes.Success contents) outputs shaped =
    let fits = shaped tt in
    let many : length contents ≤ 1024 = omega (arith, fit_len job.outputs contents fits.0, outputs) in
    (many, end_short attempt (outcomes.Success contents) (many, fits.1))
end_report attempt job (outcomes.Failed why) outputs shaped = (tt, end_short attempt (outcomes.Failed why) tt)
end_report attempt job outcomes.NotRun outputs shaped = (tt, end_short attempt outcomes.NotRun tt)

tell_said : (attempt : AttemptNo) (outcome : Outcome) (silent : Bool) → FitsFrame (messages.Done attempt outcome) → Every IsReport (told silent attempt outcome)
tell_said attempt outcome true fits = every_nil IsReport
tell_said attempt outcome false fits = every_one IsReport (messages.Done attempt outcome) fits

end_said : (w : Worker) (attempt : AttemptNo) (outcome : Outcome) (at : ℕ) (found : Option Running) → FitsFrame (messages.Done attempt outcome) → Every IsReport (ends_at w attempt outcome at found).acts.send
end_said w attempt outcome at None fits = every_nil IsReport
end_said w attempt outcome at (Some r) fits = tell_said attempt outcome r.silent fits

placed_said : (w : Worker) (attempt : AttemptNo) (outcome : Outcome) (found : Option ℕ) → FitsFrame (messages.Done attempt outcome)
    → Every IsReport (option_map_or (λ at. ends_at w attempt outcome at (slice_get w.running at)) found (quiet w)).acts.send
placed_said w attempt outcome None fits = every_nil IsReport
placed_said w attempt outcome (Some at) fits = end_said w attempt outcome at (slice_get w.running at) fits

pub reports_said : (w : Worker) (attempt : AttemptNo) (outcome : Outcome) → FitsFrame (messages.Done attempt outcome) → Every IsReport (reports w attempt outcome).acts.send
reports_said w attempt outcome fits = placed_said w attempt outcome (place_of attempt w.running) fits

-- ---- tasks of the bag

-- a task of the bag is a rule's, so it has few inputs and few outputs
pub task_few : (S : Setting) (H : List Record) (bag : List Sent) (from : Party) (t : Task) → IsValid S.plan → Every (IsRight S H bag) bag → IsRightTask S H bag from t
    → (length t.inputs ≤ 4096) × (length t.outputs ≤ 1024)
task_few S H bag Master t valid right ours = (few_inputs S H t valid ours, few_outputs S H t valid ours)
task_few S H bag (Peer p) t valid right handed =
    let ours : IsOurTask S H handed.0 = right _ handed.1 in
    let inputs : t.inputs ≡ handed.0.inputs = ap (λ (u : Task). u.inputs) handed.2 in
    let outputs : t.outputs ≡ handed.0.outputs = ap (λ (u : Task). u.outputs) handed.2 in
    (subst (λ ports. length ports ≤ 4096) (sym inputs) (few_inputs S H handed.0 valid ours), subst (λ wants. length wants ≤ 1024) (sym outputs) (few_outputs S H handed.0 valid ours))

-- an answer is a report
pub answer_report : (S : Setting) (H : List Record) (bag : List Sent) (from to : Party) (attempt : AttemptNo) (outcome : Outcome) → IsValid S.plan → Every (IsRight S H bag) bag
    → IsOurAnswer S bag from to attempt outcome → FitsFrame (messages.Done attempt outcome)
answer_report S H bag from to attempt outcome valid right answer =
    end_report attempt (task_job answer.0 (due S)) outcome (task_few S H bag from answer.0 valid right (right _ answer.2)).1 (λ run. (answer.3 run).0)

-- a task in a message has few inputs
pub inputs_few : (S : Setting) (H : List Record) (bag : List Sent) (from to : Party) (m : Message) (t : Task) → IsValid S.plan → Every (IsRight S H bag) bag → IsRightMessage S H bag from to m
    → m ≡ messages.Task t → length t.inputs ≤ 4096
inputs_few S H bag from to m t valid right is same = (task_few S H bag from t valid right (subst (IsRightMessage S H bag from to) same is)).0
