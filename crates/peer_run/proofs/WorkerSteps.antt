-- A worker's steps: what it holds was put, what it starts was asked for, and what it says may be said.
use Rattle.std.proofs.Common.{◌≡◌, ℕ, Bool, true, false, cond, List, [], ◌∷◌, Option, Some, None, map, refl, sym, ap, ◌∙◌, subst}
use Rattle.std.specs.Prelude.{slice_get, unwrap_or, length, ◌==◌, ◌||◌, is_some}
use Rattle.std.proofs.lemmas.Bool.{and_parts, eqb-true}
use Rattle.flow_types.specs.declared.numbers.FileNo.{FileNo}
use Rattle.flow_types.specs.declared.plan.Port.{Port}
use Rattle.flow_types.specs.declared.job.Given.{Given}
use Rattle.flow_types.specs.declared.job.Job.{Job}
use Rattle.flow_types.specs.declared.job.Failure.{Failure}
use Rattle.flow_types.specs.declared.job.Outcome.{Outcome}
use Rattle.flow_types.specs.declared.job.Start.{Start}
use Rattle.flow_types.specs.declared.job.Task.{Task}
use Rattle.flow_types.specs.declared.messages.Key.{Key}
use Rattle.flow_types.specs.declared.messages.Message.{Message}
use Rattle.flow_types.specs.declared.messages.Message.TheVariants as messages
use Rattle.flow_types.specs.Plans.{files_of, contains_number}
use Rattle.flow_types.specs.Serial.{Contents, Function, given_by}
use Rattle.message_forms.specs.Streams.{Carries}
use Rattle.links.specs.Honesty.{Answers, WerePut}
use Rattle.outside.specs.Jobs.{IsHonest}
use Rattle.worker_cache.specs.declared.held.Held.{Held}
use Rattle.worker_cache.specs.Caches.{Rows, place, held_place, if_linked, is_linked, is_held, content_of, content_in, row_at, is_full, put_in}
use Rattle.worker_core.specs.Workers.{Worker, key_of, holds_all, pinned_all, touched_all, content_or_none, given_of, job_of, runs, starts, misses, hears, quiet, with_rows, Acted, files_of as task_files}
use Rattle.peer_run.specs.Asked.{IsAsked, WasPut, AreAsked, AllRows}
use Rattle.peer_run.proofs.HeldContents.{all_got, all_touched, all_pinned, all_put, all_unlinked, place_held}

-- a key that is held has a row with its content
pub record HasRow (rows : Rows) (key : Key) : Type 0 where
  pub at : ℕ
  pub row : Key × Held
  pub there : slice_get rows at ≡ Some row
  pub same : key ≡ row.0
  pub content_is : content_of key rows ≡ Some row.1.content

row_if : (rows : Rows) (key : Key) (at : ℕ) (linked : Bool) → place key rows ≡ Some at → is_linked (slice_get rows at) ≡ linked
    → held_place key rows ≡ cond linked (Some at) None → is_some (held_place key rows) ≡ true → HasRow rows key
row_if rows key at true is linked place_is held =
    let found = place_held key rows at is in
    record {
      at = at;
      row = found.0;
      there = found.1;
      same = found.2;
      content_is = ap (λ (p : Option ℕ). content_in (row_at rows p)) place_is ∙ ap content_in found.1;
    }
row_if rows key at false is linked place_is held = absurd (let none : ⊥ = cc in none)

row_of : (rows : Rows) (key : Key) (found : Option ℕ) → place key rows ≡ found → is_some (held_place key rows) ≡ true → HasRow rows key
row_of rows key None is held = absurd (let none : ⊥ = (let e : held_place key rows ≡ if_linked rows None = ap (if_linked rows) is in cc) in none)
row_of rows key (Some at) is held =
    row_if rows key at (is_linked (slice_get rows at)) is refl (ap (if_linked rows) is) held

pub held_row : (rows : Rows) (key : Key) → is_held key rows ≡ true → HasRow rows key
held_row rows key held = row_of rows key (place key rows) refl held

-- where all inputs are held, each file of theirs has a row
file_row : (rows : Rows) (run : ℕ) (inputs : List Port) (f : ℕ) → holds_all rows run inputs ≡ true → contains_number f (files_of inputs) ≡ true
    → HasRow rows (key_of run (record { 0 = f }))
file_row rows run [] f all has = absurd (let none : ⊥ = cc in none)
file_row rows run (port ∷ ports) f all has =
    let parts = and_parts (is_held (key_of run port.file) rows) (holds_all rows run ports) all in
    by (port.file.0 == f) refl has parts.0 (λ later. file_row rows run ports f parts.1 later)
  where
    by : (b : Bool) → (port.file.0 == f) ≡ b → (b || contains_number f (files_of ports)) ≡ true → is_held (key_of run port.file) rows ≡ true
        → (contains_number f (files_of ports) ≡ true → HasRow rows (key_of run (record { 0 = f }))) → HasRow rows (key_of run (record { 0 = f }))
    by true is h held later = subst (λ (n : ℕ). HasRow rows (key_of run (record { 0 = n }))) (eqb-true port.file.0 f is) (held_row rows (key_of run port.file) held)
    by false is h held later = later h

-- the contents that a task finds
abbrev pub found_by : Rows → ℕ → Contents
found_by rows run f = content_of (key_of run (record { 0 = f })) rows

pub found_put : (down : List ℕ) (rows : Rows) (task : Task) → AllRows (WasPut down) rows → holds_all rows task.run task.inputs ≡ true → WerePut down task (found_by rows task.run)
found_put down rows task all holds f has =
    let there = file_row rows task.run task.inputs f holds has in (
      there.row.1.content,
      there.content_is,
      subst (λ (k : Key). WasPut down k there.row.1.content) (sym there.same) (all_got (WasPut down) rows there.at there.row there.there all),
    )

or_none : (found : Option (List ℕ)) → content_or_none found ≡ unwrap_or found []
or_none None = refl
or_none (Some content) = refl

same_given : (rows : Rows) (run : ℕ) (ports : List Port)
    → map (given_of rows run) ports ≡ map (λ port. record { remote = port.remote; content = unwrap_or (found_by rows run port.file.0) [] }) ports
same_given rows run [] = refl
same_given rows run (port ∷ ports) =
    ap (λ (content : List ℕ). let given : Given = record { remote = port.remote; content = content } in given ∷ map (given_of rows run) ports)
    (or_none (content_of (key_of run port.file) rows))
    ∙ ap (λ (more : List Given). let given : Given = record { remote = port.remote; content = unwrap_or (found_by rows run port.file.0) [] } in given ∷ more)
    (same_given rows run ports)

-- What is started was asked for.
pub start_asked : (down : List ℕ) (rows : Rows) (task : Task) → AllRows (WasPut down) rows → holds_all rows task.run task.inputs ≡ true → Carries down (messages.Task task)
    → IsAsked down (record { attempt = task.attempt; job = job_of rows task })
start_asked down rows task all holds carried = record {
  task = task;
  of_attempt = refl;
  asked = carried;
  contents = found_by rows task.run;
  were_put = found_put down rows task all holds;
  job_is = ap (λ (inputs : List Given). let job : Job = record { command = task.command; env = task.env; inputs = inputs; outputs = task.outputs } in job)
      (same_given rows task.run task.inputs);
}

-- An outcome that fits what was asked for answers.
pub asked_answers : (gives : Function) (may_fail : Job → Failure → Type 0) (down : List ℕ) (start : Start) (outcome : Outcome) → IsAsked down start
    → IsHonest (given_by gives start.job) (may_fail start.job) outcome → Answers gives may_fail down start.attempt outcome
asked_answers gives may_fail down start outcome asked ends = record {
  task = asked.task;
  of_attempt = asked.of_attempt;
  asked = asked.asked;
  contents = asked.contents;
  were_put = asked.were_put;
  ends_so = subst (λ (job : Job). IsHonest (given_by gives job) (may_fail job) outcome) asked.job_is ends;
}

-- what holds of a worker after a message
abbrev pub IsFed : List ℕ → Acted → Type 0
IsFed down acted = AllRows (WasPut down) acted.worker.cache.rows × AreAsked down acted.acts.start

all_pinned_all : (P : Key → List ℕ → Type 0) (run : ℕ) (inputs : List Port) (rows : Rows) → AllRows P rows → AllRows P (pinned_all run inputs rows)
all_pinned_all P run [] rows all = all
all_pinned_all P run (port ∷ ports) rows all = all_pinned_all P run ports _ (all_pinned P (key_of run port.file) rows all)

all_touched_all : (P : Key → List ℕ → Type 0) (run : ℕ) (files : List FileNo) (rows : Rows) → AllRows P rows → AllRows P (touched_all run files rows)
all_touched_all P run [] rows all = all
all_touched_all P run (file ∷ files) rows all = all_touched_all P run files _ (all_touched P (key_of run file) rows all)

task_fed : (down : List ℕ) (w : Worker) (task : Task) (running holds : Bool) → holds_all w.cache.rows task.run task.inputs ≡ holds → Carries down (messages.Task task)
    → AllRows (WasPut down) w.cache.rows → IsFed down (cond running (quiet w) (cond holds (starts w task) (misses w task)))
task_fed down w task true holds is carried all = (all, tt)
task_fed down w task false true is carried all =
    (all_pinned_all (WasPut down) task.run task.inputs w.cache.rows all, (start_asked down w.cache.rows task all is carried, tt))
task_fed down w task false false is carried all = (all_touched_all (WasPut down) task.run (task_files task.inputs) w.cache.rows all, tt)

put_fed : (down : List ℕ) (w : Worker) (key : Key) (content : List ℕ) (full : Bool) → Carries down (messages.Put key content) → AllRows (WasPut down) w.cache.rows
    → IsFed down (cond full (quiet w) (quiet (with_rows w (put_in w.cache.cap key content w.cache.rows))))
put_fed down w key content true carried all = (all, tt)
put_fed down w key content false carried all = (all_put (WasPut down) w.cache.cap key content w.cache.rows carried all, tt)

-- What a worker holds after a message was put, and what it starts then was asked for.
pub worker_fed : (down : List ℕ) (w : Worker) (m : Message) → Carries down m → AllRows (WasPut down) w.cache.rows → IsFed down (hears w m)
worker_fed down w (messages.Hello total largest cache) carried all = (all, tt)
worker_fed down w (messages.Put key content) carried all = put_fed down w key content (is_full key (length content) w.cache.cap w.cache.rows) carried all
worker_fed down w (messages.Task task) carried all = task_fed down w task (runs task.attempt w) (holds_all w.cache.rows task.run task.inputs) refl carried all
worker_fed down w (messages.Done attempt outcome) carried all = (all, tt)
worker_fed down w (messages.Missing attempt files) carried all = (all, tt)
worker_fed down w (messages.Cancel attempt) carried all = (all, tt)
worker_fed down w (messages.Unlink key) carried all = (all_unlinked (WasPut down) key w.cache.rows all, tt)
worker_fed down w (messages.Totals total largest cache) carried all = (all, tt)
worker_fed down w messages.Bye carried all = (all, tt)
