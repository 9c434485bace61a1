-- A peer's steps keep what holds of it, and send what is right.
use Rattle.std.proofs.Common.{◌≡◌, ℕ, Bool, true, false, cond, List, [], ◌∷◌, length, Option, Some, None, map, refl, ap, sym, ◌∙◌, subst}
use Rattle.std.specs.Prelude.{slice_get, is_some, unwrap_or}
use Rattle.std.specs.Option.{option_map_or}
use Rattle.std.proofs.lemmas.Bool.{and_parts}
use Rattle.flow_types.specs.declared.plan.Port.{Port}
use Rattle.flow_types.specs.declared.job.Given.{Given}
use Rattle.flow_types.specs.declared.job.Job.{Job}
use Rattle.flow_types.specs.declared.job.Outcome.{Outcome}
use Rattle.flow_types.specs.declared.job.Start.{Start}
use Rattle.flow_types.specs.declared.job.Task.{Task}
use Rattle.flow_types.specs.declared.numbers.AttemptNo.{AttemptNo}
use Rattle.flow_types.specs.declared.records.Record.{Record}
use Rattle.flow_types.specs.declared.messages.Key.{Key}
use Rattle.flow_types.specs.declared.messages.Message.{Message}
use Rattle.flow_types.specs.declared.messages.Message.TheVariants as messages
use Rattle.flow_types.specs.Serial.{Contents}
use Rattle.links.specs.Honesty.{task_job}
use Rattle.worker_cache.specs.Caches.{Rows, place, held_place, if_linked, is_linked, is_held, content_of, content_in, row_at, is_full, put_in}
use Rattle.worker_core.specs.declared.running.Running.{Running}
use Rattle.worker_core.specs.Workers.{Worker, Acted, key_of, holds_all, content_or_none, given_of, job_of, runs, starts, misses, hears, quiet, with_rows, reports, ends_at, place_of, told, files_of}
use Rattle.world_peers.specs.declared.sent.Party.{Party}
use Rattle.world_peers.specs.declared.sent.Party.TheVariants.{Peer}
use Rattle.world_peers.specs.declared.sent.Sent.{Sent}
use Rattle.world_laws.specs.Members.{Stands, Every}
use Rattle.world_peers.specs.Peers.{is_least, least_job, told_to}
use Rattle.world_laws.specs.Laws.{task_sent}
use Rattle.world_laws.proofs.Members.{every_nil, every_one, found_stands}
use Rattle.world_laws.proofs.Rows.{all_got, place_held, all_put, all_unlinked, all_pinned_all, all_unpinned_all, all_touched_all}
use Rattle.world_laws.proofs.Invariant.{Setting, due, IsDue, AllRows, IsRight, IsRightMessage, IsRightJob}

-- ---- contents that are held

-- where a key is held, its content is that of the serial run
record IsDueHere (S : Setting) (rows : Rows) (key : Key) : Type 0 where
  content : List ℕ
  found : content_of key rows ≡ Some content
  is_due : due S key.file.0 ≡ Some content

due_if : (S : Setting) (rows : Rows) (key : Key) (at : ℕ) (linked : Bool) → place key rows ≡ Some at → held_place key rows ≡ cond linked (Some at) None
    → AllRows (IsDue S) rows → is_some (held_place key rows) ≡ true → IsDueHere S rows key
due_if S rows key at true is here all held =
    let row = place_held key rows at is in
    record {
      content = row.0.1.content;
      found = ap (λ (p : Option ℕ). content_in (row_at rows p)) here ∙ ap content_in row.1;
      is_due = subst (λ (k : Key). IsDue S k row.0.1.content) (sym row.2) (all_got (IsDue S) rows at row.0 row.1 all);
    }
due_if S rows key at false is here all held = absurd (let none : ⊥ = cc in none)

due_by : (S : Setting) (rows : Rows) (key : Key) (found : Option ℕ) → place key rows ≡ found → AllRows (IsDue S) rows → is_some (held_place key rows) ≡ true → IsDueHere S rows key
due_by S rows key None is all held = absurd (let none : ⊥ = (let e : held_place key rows ≡ if_linked rows None = ap (if_linked rows) is in cc) in none)
due_by S rows key (Some at) is all held = due_if S rows key at (is_linked (slice_get rows at)) is (ap (if_linked rows) is) all held

due_here : (S : Setting) (rows : Rows) (key : Key) → AllRows (IsDue S) rows → is_held key rows ≡ true → IsDueHere S rows key
due_here S rows key all held = due_by S rows key (place key rows) refl all held

-- what a task is given of an input is the serial run's content
same_content : (S : Setting) (rows : Rows) (key : Key) → AllRows (IsDue S) rows → is_held key rows ≡ true → content_or_none (content_of key rows) ≡ unwrap_or (due S key.file.0) []
same_content S rows key all held =
    let here = due_here S rows key all held in
    ap content_or_none here.found ∙ ap (λ o. unwrap_or o []) (sym here.is_due)

-- what contents give to these ports
abbrev pub given_in : Contents → List Port → List Given
given_in contents ports = map (λ port. record { remote = port.remote; content = unwrap_or (contents port.file.0) [] }) ports

-- an input's content under its remote name
abbrev pub given : Port → List ℕ → Given
given port content = record { remote = port.remote; content = content }

same_given : (S : Setting) (rows : Rows) (run : ℕ) (ports : List Port) → AllRows (IsDue S) rows → holds_all rows run ports ≡ true → map (given_of rows run) ports ≡ given_in (due S) ports
same_given S rows run [] all holds = refl
same_given S rows run (port ∷ ports) all holds =
    let parts = and_parts (is_held (key_of run port.file) rows) (holds_all rows run ports) holds in
    ap (λ (content : List ℕ). given port content ∷ map (given_of rows run) ports) (same_content S rows (key_of run port.file) all parts.0)
    ∙ ap (λ (more : List Given). given port (unwrap_or (due S port.file.0) []) ∷ more) (same_given S rows run ports all parts.1)

-- the job that is started is that over the serial run's contents
same_job : (S : Setting) (rows : Rows) (t : Task) → AllRows (IsDue S) rows → holds_all rows t.run t.inputs ≡ true → job_of rows t ≡ task_job t (due S)
same_job S rows t all holds =
    ap (λ (inputs : List Given). let job : Job = record { command = t.command; env = t.env; inputs = inputs; outputs = t.outputs } in job)
    (same_given S rows t.run t.inputs all holds)

-- ---- messages

-- a peer after a step is right, and sends what is right
pub record IsFed (S : Setting) (H : List Record) (bag : List Sent) (home : Party) (p : ℕ) (did : Acted) : Type 0 where
  pub held : AllRows (IsDue S) did.worker.cache.rows
  pub start : Every (IsRightJob S bag home p) did.acts.start
  pub send : Every (IsRight S H bag) (map (told_to home p) did.acts.send)

-- a step that starts and sends nothing
fed : (S : Setting) (H : List Record) (bag : List Sent) (home : Party) (p : ℕ) (w : Worker) → AllRows (IsDue S) w.cache.rows → IsFed S H bag home p (quiet w)
fed S H bag home p w all = record { held = all; start = every_nil (IsRightJob S bag home p); send = every_nil (IsRight S H bag) }

task_fed : (S : Setting) (H : List Record) (bag : List Sent) (home : Party) (p : ℕ) (w : Worker) (t : Task) (running holds : Bool) → holds_all w.cache.rows t.run t.inputs ≡ holds
    → Stands (task_sent home (Peer p) t) bag → AllRows (IsDue S) w.cache.rows → IsFed S H bag home p (cond running (quiet w) (cond holds (starts w t) (misses w t)))
task_fed S H bag home p w t true holds is stands all = fed S H bag home p w all
task_fed S H bag home p w t false true is stands all = record {
  held = all_pinned_all (IsDue S) t.run t.inputs w.cache.rows all;
  start = every_one (IsRightJob S bag home p) (record { attempt = t.attempt; job = job_of w.cache.rows t })
      (record { task = t; numbered = refl; stands = stands; job_is = same_job S w.cache.rows t all is });
  send = every_nil (IsRight S H bag);
}
task_fed S H bag home p w t false false is stands all = record {
  held = all_touched_all (IsDue S) t.run (files_of t.inputs) w.cache.rows all;
  start = every_nil (IsRightJob S bag home p);
  send = every_one (IsRight S H bag) _ tt;
}

put_fed : (S : Setting) (H : List Record) (bag : List Sent) (home : Party) (p : ℕ) (w : Worker) (key : Key) (content : List ℕ) (full : Bool) → IsDue S key content → AllRows (IsDue S) w.cache.rows
    → IsFed S H bag home p (cond full (quiet w) (quiet (with_rows w (put_in w.cache.cap key content w.cache.rows))))
put_fed S H bag home p w key content true is all = fed S H bag home p w all
put_fed S H bag home p w key content false is all = fed S H bag home p _ (all_put (IsDue S) w.cache.cap key content w.cache.rows is all)

-- A worker that hears a right message.
pub hears_fed : (S : Setting) (H : List Record) (bag : List Sent) (home : Party) (p : ℕ) (w : Worker) (m : Message) → IsRightMessage S H bag home (Peer p) m
    → Stands (let sent : Sent = record { from = home; to = Peer p; message = m } in sent) bag → AllRows (IsDue S) w.cache.rows → IsFed S H bag home p (hears w m)
hears_fed S H bag home p w (messages.Put key content) is stands all = put_fed S H bag home p w key content (is_full key (length content) w.cache.cap w.cache.rows) is all
hears_fed S H bag home p w (messages.Task t) is stands all = task_fed S H bag home p w t (runs t.attempt w) (holds_all w.cache.rows t.run t.inputs) refl stands all
hears_fed S H bag home p w (messages.Unlink key) is stands all = fed S H bag home p _ (all_unlinked (IsDue S) key w.cache.rows all)
hears_fed S H bag home p w (messages.Cancel attempt) is stands all = fed S H bag home p _ all
hears_fed S H bag home p w (messages.Done attempt outcome) is stands all = fed S H bag home p w all
hears_fed S H bag home p w (messages.Hello total largest cache) is stands all = fed S H bag home p w all
hears_fed S H bag home p w (messages.Missing attempt files) is stands all = fed S H bag home p w all
hears_fed S H bag home p w (messages.Totals total largest cache) is stands all = fed S H bag home p w all
hears_fed S H bag home p w messages.Bye is stands all = record { held = all; start = every_nil (IsRightJob S bag home p); send = every_nil (IsRight S H bag) }

-- ---- reports

told_right : (S : Setting) (H : List Record) (bag : List Sent) (home : Party) (p : ℕ) (attempt : AttemptNo) (outcome : Outcome) (silent : Bool)
    → IsRightMessage S H bag (Peer p) home (messages.Done attempt outcome) → Every (IsRight S H bag) (map (told_to home p) (told silent attempt outcome))
told_right S H bag home p attempt outcome true is = every_nil (IsRight S H bag)
told_right S H bag home p attempt outcome false is = every_one (IsRight S H bag) _ is

ended_fed : (S : Setting) (H : List Record) (bag : List Sent) (home : Party) (p : ℕ) (w : Worker) (attempt : AttemptNo) (outcome : Outcome) (at : ℕ) (found : Option Running)
    → IsRightMessage S H bag (Peer p) home (messages.Done attempt outcome) → AllRows (IsDue S) w.cache.rows → IsFed S H bag home p (ends_at w attempt outcome at found)
ended_fed S H bag home p w attempt outcome at None is all = fed S H bag home p w all
ended_fed S H bag home p w attempt outcome at (Some r) is all = record {
  held = all_unpinned_all (IsDue S) r.run r.inputs w.cache.rows all;
  start = every_nil (IsRightJob S bag home p);
  send = told_right S H bag home p attempt outcome r.silent is;
}

placed_fed : (S : Setting) (H : List Record) (bag : List Sent) (home : Party) (p : ℕ) (w : Worker) (attempt : AttemptNo) (outcome : Outcome) (found : Option ℕ)
    → IsRightMessage S H bag (Peer p) home (messages.Done attempt outcome) → AllRows (IsDue S) w.cache.rows
    → IsFed S H bag home p (option_map_or (λ at. ends_at w attempt outcome at (slice_get w.running at)) found (quiet w))
placed_fed S H bag home p w attempt outcome None is all = fed S H bag home p w all
placed_fed S H bag home p w attempt outcome (Some at) is all = ended_fed S H bag home p w attempt outcome at (slice_get w.running at) is all

-- A worker that reports what may be said.
pub reports_fed : (S : Setting) (H : List Record) (bag : List Sent) (home : Party) (p : ℕ) (w : Worker) (attempt : AttemptNo) (outcome : Outcome)
    → IsRightMessage S H bag (Peer p) home (messages.Done attempt outcome) → AllRows (IsDue S) w.cache.rows → IsFed S H bag home p (reports w attempt outcome)
reports_fed S H bag home p w attempt outcome is all = placed_fed S H bag home p w attempt outcome (place_of attempt w.running) is all

-- The job that is run next is one of the peer's.
pub least_stands : (jobs : List Start) (s : Start) → least_job jobs ≡ Some s → Stands s jobs
least_stands jobs s is = (found_stands (is_least jobs) jobs s is).0
