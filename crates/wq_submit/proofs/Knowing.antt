-- Tasks that take in files alone that are there, over the calls of a queue.
use Rattle.std.proofs.Common.{◌≡◌, ◌≤◌, ◌<◌, ◌∙◌, inl, inr, cond, ltb, ℕ, zero, suc, Bool, true, false, List, [], ◌∷◌, ◌++◌, length, map, Option, Some, None, Result, Ok, Err, refl, sym, ap, subst, arith}
use Rattle.std.specs.Prelude.{◌&&◌, IfOk, OnErr, OnOk, if◌then◌else◌, nat_le, remove, slice_get, unwrap_or}
use Rattle.std.specs.List.{AllByRecursion}
use Rattle.std.specs.Option.{option_map_or}
use Rattle.std.proofs.lemmas.Bool.{and_parts, leb-true, lt-ltb, ltb-true}
use Rattle.std.proofs.lemmas.List.Sums.{sum_by-cons}
use Rattle.flow_types.specs.declared.job.Failure.{Failure}
use Rattle.flow_types.specs.declared.job.Given.{Given}
use Rattle.flow_types.specs.declared.job.Job.{Job}
use Rattle.flow_types.specs.declared.job.Outcome.{Outcome}
use Rattle.flow_types.specs.declared.numbers.AttemptNo.{AttemptNo}
use Rattle.flow_types.specs.Plans.{most_bytes, most_input_bytes}
use Rattle.flow_types.specs.declared.numbers.FileNo.{FileNo}
use Rattle.flow_types.specs.declared.plan.Port.{Port}
use Rattle.flow_types.specs.Serial.{Function, given_by}
use Rattle.outside.specs.Jobs.{IsHonest}
use Rattle.task_book.specs.declared.refused.SubmitRefused.{SubmitRefused}
use Rattle.task_book.specs.declared.refused.SubmitRefused.TheVariants as refusals
use Rattle.task_book.specs.declared.task.Held.{Held}
use Rattle.task_book.specs.declared.task.Submission.{Submission}
use Rattle.task_book.specs.declared.task.TaskId.{TaskId}
use Rattle.task_book.specs.Kept.{Kept, cancelled_at, next_id, submitted_to, waiting_as}
use Rattle.task_book.specs.Stages.{Ends, EndsOn}
use Rattle.task_book.specs.Submissions.{has_names_apart, input_bytes, is_good, is_short, is_small, most_held, output_bytes, submit_refusal, unknown_file}
use Rattle.wq_company.specs.Companies.{AreKnown}
use Rattle.wq_seats.specs.Works.{IsKnown, work_of}
use Rattle.wq_seats.specs.Shown.{AreRight, job_of}
use Rattle.wq_seats.proofs.Lacking.{first_there}
use Rattle.wq_company.proofs.Knowing.{Known}

-- ---- the calls of a queue, over what is so of each task

module _ (P : TaskId × Submission → Type 0) where
  pub known_left : (held : List Held) (at : ℕ) → AllByRecursion P (map work_of held) → AllByRecursion P (map work_of (remove held at))
  known_left [] zero all = tt
  known_left [] (suc at) all = tt
  known_left (h ∷ held) zero all = all.1
  known_left (h ∷ held) (suc at) all = (all.0, known_left held at all.1)

  pub known_cancelled : (k m : Kept) (id : TaskId) (p : Option ℕ) → m ≡ cancelled_at k id p → AllByRecursion P (map work_of k.held) → AllByRecursion P (map work_of m.held)
  known_cancelled k m id None is all = subst (λ (x : Kept). AllByRecursion P (map work_of x.held)) (sym is) all
  known_cancelled k m id (Some at) is all = subst (λ (x : Kept). AllByRecursion P (map work_of x.held)) (sym is) (known_left k.held at all)

  pub known_last : (held : List Held) (id : TaskId) (task : Submission) → P (id, task) → AllByRecursion P (map work_of held) → AllByRecursion P (map work_of (held ++ waiting_as id task ∷ []))
  known_last [] id task is all = (is, tt)
  known_last (h ∷ held) id task is all = (all.0, known_last held id task is all.1)

  -- a task comes, where this is so of it
  pub known_with : (k n : Kept) (task : Submission) (r : Result TaskId SubmitRefused) → IfOk r (λ id. (id ≡ next_id k) × (n ≡ submitted_to k task)) → OnErr r (n ≡ k) → OnOk r (P (next_id k, task))
      → AllByRecursion P (map work_of k.held) → AllByRecursion P (map work_of n.held)
  known_with k n task (Ok id) ok err is all = subst (λ (x : Kept). AllByRecursion P (map work_of x.held)) (sym ok.1) (known_last k.held (next_id k) task is all)
  known_with k n task (Err why) ok err is all = subst (λ (x : Kept). AllByRecursion P (map work_of x.held)) (sym err) all

-- ---- more files

known_more_ports : (n m : ℕ) (ports : List Port) → n ≤ m → unknown_file n ports ≡ None → unknown_file m ports ≡ None
known_more_ports n m [] less is = refl
known_more_ports n m (port ∷ ports) less is = by (ltb port.file.0 n) refl (known_more_ports n m ports less)
  where
    by : (b : Bool) → ltb port.file.0 n ≡ b → (unknown_file n ports ≡ None → unknown_file m ports ≡ None) → unknown_file m (port ∷ ports) ≡ None
    by true low rest =
        let was : unknown_file n ports ≡ None = sym (ap (λ (b : Bool). cond b (unknown_file n ports) (Some port.file)) low) ∙ is in
        let below : ltb port.file.0 m ≡ true = let less_n = ltb-true port.file.0 n low in lt-ltb port.file.0 m (omega (arith, less_n, less)) in
        ap (λ (b : Bool). cond b (unknown_file m ports) (Some port.file)) below ∙ rest was
    by false high rest = absurd (let none : Some port.file ≡ None = sym (ap (λ (b : Bool). cond b (unknown_file n ports) (Some port.file)) high) ∙ is in let wrong : ⊥ = cc in wrong)

longer : (files : List (List ℕ)) (content : List ℕ) → length files ≤ length (files ++ content ∷ [])
longer [] content = omega arith
longer (x ∷ files) content = let more = longer files content in omega (arith, more)

get_more : (files more : List (List ℕ)) (f : ℕ) → f < length files → slice_get (files ++ more) f ≡ slice_get files f
get_more [] more f less = absurd (let wrong : ⊥ = omega (arith, less) in wrong)
get_more (x ∷ files) more zero less = refl
get_more (x ∷ files) more (suc f) less = get_more files more f (omega (arith, less))

abbrev bytes_in : List (List ℕ) → Port → ℕ
bytes_in files port = length (unwrap_or (slice_get files port.file.0) [])

bytes_same : (files more : List (List ℕ)) (ports : List Port) → unknown_file (length files) ports ≡ None → input_bytes (files ++ more) ports ≡ input_bytes files ports
bytes_same files more [] is = refl
bytes_same files more (port ∷ ports) is =
    let parts = first_there (length files) port ports is in
    let one : bytes_in (files ++ more) port ≡ bytes_in files port = ap (λ (p : Option (List ℕ)). length (unwrap_or p [])) (get_more files more port.file.0 parts.0) in
    let rest = bytes_same files more ports parts.1 in
    let now = sum_by-cons (bytes_in (files ++ more)) port ports in
    let was = sum_by-cons (bytes_in files) port ports in
    omega (arith, one, rest, now, was)

known_one : (files : List (List ℕ)) (content : List ℕ) (task : Submission) → IsKnown files task → IsKnown (files ++ content ∷ []) task
known_one files content task is = record {
  there = known_more_ports (length files) (length (files ++ content ∷ [])) task.inputs (longer files content) is.there;
  small = let same = bytes_same files (content ∷ []) task.inputs is.there in let was = is.small in omega (arith, same, was);
}

known_all : (files : List (List ℕ)) (content : List ℕ) (works : List (TaskId × Submission)) → AreKnown files works → AreKnown (files ++ content ∷ []) works
known_all files content [] all = tt
known_all files content (w ∷ works) all = (known_one files content w.1 all.0, known_all files content works all.1)

-- a file comes
pub known_added : {E : Type 0} (files now : List (List ℕ)) (content : List ℕ) (r : Result FileNo E) (works : List (TaskId × Submission)) → IfOk r (λ file. (file.0 ≡ length files) × (now ≡ files ++ content ∷ [])) → OnErr r (now ≡ files)
    → AreKnown files works → AreKnown now works
known_added files now content (Ok file) works ok err all = subst (λ (fs : List (List ℕ)). AreKnown fs works) (sym ok.1) (known_all files content works all)
known_added files now content (Err why) works ok err all = subst (λ (fs : List (List ℕ)). AreKnown fs works) (sym err) all

-- ---- a task comes

refused_not : (b : Bool) (p : Option FileNo) (rest : Option SubmitRefused) → (if b then Some refusals.TooMany else option_map_or (λ number. Some (refusals.UnknownFile number)) p rest) ≡ None → (p ≡ None) × (rest ≡ None)
refused_not true p rest is = absurd (let wrong : ⊥ = cc in wrong)
refused_not false None rest is = (refl, is)
refused_not false (Some file) rest is = absurd (let wrong : ⊥ = cc in wrong)

good_by : (b : Bool) → (if b then None else Some refusals.BadSubmission) ≡ None → b ≡ true
good_by true is = refl
good_by false is = absurd (let wrong : ⊥ = cc in wrong)

pub taken_known : (files : List (List ℕ)) (held : ℕ) (task : Submission) → submit_refusal files held task ≡ None → IsKnown files task
taken_known files held task is =
    let parts = refused_not (nat_le most_held held) (unknown_file (length files) task.inputs) (if is_good files task then None else Some refusals.BadSubmission) is in
    let good = good_by (is_good files task) parts.1 in
    let small = (and_parts (is_short task) (is_small files task) (and_parts (is_short task && is_small files task) (has_names_apart task) good).0).1 in
    let few = (and_parts (nat_le (output_bytes task.outputs) most_bytes) (nat_le (input_bytes files task.inputs) most_input_bytes) small).1 in
    record { there = parts.0; small = leb-true (input_bytes files task.inputs) most_input_bytes few }

taken_by : (files : List (List ℕ)) (held : ℕ) (task : Submission) (r : Result TaskId SubmitRefused) → OnOk r (submit_refusal files held task ≡ None) → OnOk r (IsKnown files task)
taken_by files held task (Ok id) taken = taken_known files held task taken
taken_by files held task (Err why) taken = tt

pub known_submitted : (files : List (List ℕ)) (k n : Kept) (task : Submission) (r : Result TaskId SubmitRefused) → IfOk r (λ id. (id ≡ next_id k) × (n ≡ submitted_to k task)) → OnErr r (n ≡ k)
    → OnOk r (submit_refusal files (length k.held) task ≡ None) → AreKnown files (map work_of k.held) → AreKnown files (map work_of n.held)
known_submitted files k n task r ok err taken all = known_with (Known files) k n task r ok err (taken_by files (length k.held) task r taken) all

-- ---- what came to its end did so as its job does, over more files

-- what is given to a job of a file
abbrev given_in : List (List ℕ) → Port → Given
given_in files port = record { remote = port.remote; content = unwrap_or (slice_get files port.file.0) [] }

inputs_same : (files more : List (List ℕ)) (ports : List Port) → unknown_file (length files) ports ≡ None → map (given_in (files ++ more)) ports ≡ map (given_in files) ports
inputs_same files more [] is = refl
inputs_same files more (port ∷ ports) is = by (ltb port.file.0 (length files)) refl (inputs_same files more ports)
  where
    by : (b : Bool) → ltb port.file.0 (length files) ≡ b → (unknown_file (length files) ports ≡ None → map (given_in (files ++ more)) ports ≡ map (given_in files) ports) → map (given_in (files ++ more)) (port ∷ ports) ≡ map (given_in files) (port ∷ ports)
    by true low rest =
        let was : unknown_file (length files) ports ≡ None = sym (ap (λ (b : Bool). cond b (unknown_file (length files) ports) (Some port.file)) low) ∙ is in
        let one : given_in (files ++ more) port ≡ given_in files port =
        ap (λ (p : Option (List ℕ)). let g : Given = record { remote = port.remote; content = unwrap_or p [] } in g) (get_more files more port.file.0 (ltb-true port.file.0 (length files) low)) in
        ap (λ (g : Given). g ∷ map (given_in (files ++ more)) ports) one ∙ ap (λ (gs : List Given). given_in files port ∷ gs) (rest was)
    by false high rest = absurd (let none : Some port.file ≡ None = sym (ap (λ (b : Bool). cond b (unknown_file (length files) ports) (Some port.file)) high) ∙ is in let wrong : ⊥ = cc in wrong)

job_same : (files more : List (List ℕ)) (task : Submission) → unknown_file (length files) task.inputs ≡ None → job_of (files ++ more) task ≡ job_of files task
job_same files more task is = ap (λ (gs : List Given). let job : Job = record { command = task.command; env = task.env; inputs = gs; outputs = task.outputs } in job) (inputs_same files more task.inputs is)

ends_known : (files : List (List ℕ)) (held : List Held) (a : AttemptNo) (o : Outcome) (task : Submission) → AreKnown files (map work_of held) → Ends held a o task → unknown_file (length files) task.inputs ≡ None
ends_known files [] a o task all end = absurd end
ends_known files (h ∷ held) a o task all (inl this) = ap (λ (t : Submission). unknown_file (length files) t.inputs) (sym this.1) ∙ all.0.there
ends_known files (h ∷ held) a o task all (inr rest) = ends_known files held a o task all.1 rest

module _ (gives : Function) (may_fail : Job → Failure → Type 0) where
  right_more : (files : List (List ℕ)) (content : List ℕ) (held : List Held) → AreKnown files (map work_of held) → AreRight gives may_fail files held → AreRight gives may_fail (files ++ content ∷ []) held
  right_more files content held known all a o task end =
      subst (λ (j : Job). IsHonest (given_by gives j) (may_fail j) o) (sym (job_same files (content ∷ []) task (ends_known files held a o task known end))) (all a o task end)

  -- a file comes
  pub right_added : {E : Type 0} (files now : List (List ℕ)) (content : List ℕ) (r : Result FileNo E) (held : List Held) → IfOk r (λ file. (file.0 ≡ length files) × (now ≡ files ++ content ∷ [])) → OnErr r (now ≡ files)
      → AreKnown files (map work_of held) → AreRight gives may_fail files held → AreRight gives may_fail now held
  right_added files now content (Ok file) held ok err known all = subst (λ (fs : List (List ℕ)). AreRight gives may_fail fs held) (sym ok.1) (right_more files content held known all)
  right_added files now content (Err why) held ok err known all = subst (λ (fs : List (List ℕ)). AreRight gives may_fail fs held) (sym err) all

  -- no further task came to its end
  pub right_on : (files : List (List ℕ)) (old new : List Held) → EndsOn old new → AreRight gives may_fail files old → AreRight gives may_fail files new
  right_on files old new on all a o task end = all a o task (on a o task end)
