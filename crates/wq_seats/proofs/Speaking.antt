-- How peers stay at work while they are told things, and while the book goes on.
use Rattle.std.proofs.Common.{◌≡◌, ◌≤◌, ◌<◌, ◌+◌, ◌⊎◌, inl, inr, ℕ, zero, suc, List, [], ◌∷◌, ◌++◌, Option, Some, None, is_some, true, refl, sym, ap, ◌∙◌, subst, arith}
use Rattle.std.specs.Prelude.{remove, slice_get}
use Rattle.flow_types.specs.declared.job.Failure.{Failure}
use Rattle.flow_types.specs.declared.job.Job.{Job}
use Rattle.flow_types.specs.declared.job.Task.{Task}
use Rattle.flow_types.specs.declared.messages.Key.{Key}
use Rattle.flow_types.specs.declared.messages.Message.{Message}
use Rattle.flow_types.specs.declared.messages.Message.TheVariants as messages
use Rattle.flow_types.specs.declared.numbers.AttemptNo.{AttemptNo}
use Rattle.flow_types.specs.Serial.{Function}
use Rattle.link_session.specs.declared.session.Stage.{Stage}
use Rattle.link_session.specs.Keys.{lacking}
use Rattle.link_session.specs.Sessions.{State, closed_where, is_open, opened, place, started}
use Rattle.links.specs.declared.passing.Passed.{Passed}
use Rattle.message_forms.specs.Streams.{IsAmong}
use Rattle.peers.specs.Provides.{Provides, keys_of}
use Rattle.peers.specs.Serves.{AreDue, IsNew, IsServed, Serves}
use Rattle.peers.specs.States.{PeerState}
use Rattle.peers.proofs.Hearing.{asked_of}
use Rattle.peers.proofs.Opens.{all_get, placed}
use Rattle.peers.proofs.Providing.{provides_again, provides_asked, provides_opened, provides_put, provides_said}
use Rattle.resource_pack.specs.declared.occupied.Stated.{Stated}
use Rattle.task_book.specs.declared.task.Held.{Held}
use Rattle.task_book.specs.declared.task.Submission.{Submission}
use Rattle.task_book.specs.Stages.{Runs, RunsOn, RunsWith}
use Rattle.wq_seats.specs.declared.run.Again.{Again}
use Rattle.wq_seats.specs.declared.run.Run.{Run}
use Rattle.peer_health.specs.Healths.{IsRested, HealthState}
use Rattle.wq_seats.specs.Seats.{AreOlder, AreOpen, AreOwn, IsAtWork, IsOwnTask, IsServing, IsStated, MayAsk, SeatState, SpokenTo, WasSaid, contents_of, task_of}
use Rattle.wq_seats.proofs.Counting.{are_cancelled, are_more}
use Rattle.wq_seats.proofs.Messages.{among_left, among_or}

task_is : (t task : Task) → messages.Task t ≡ messages.Task task → t ≡ task
task_is t task is = ap of_message is
  where
    of_message : Message → Task
    of_message (messages.Task x) = x
    of_message m = t

said_on : (attempt : AttemptNo) (said more : List Message) → WasSaid attempt said → WasSaid attempt (said ++ more)
said_on attempt said more is = (is.0, is.1, among_left (messages.Task is.0) said more is.2)

-- ---- files

pub still_there : (files : List (List ℕ)) (more : List (List ℕ)) (f : ℕ) (content : List ℕ) → slice_get files f ≡ Some content → slice_get (files ++ more) f ≡ Some content
still_there [] more f content is = absurd cc
still_there (x ∷ files) more zero content is = is
still_there (x ∷ files) more (suc f) content is = still_there files more f content is

-- a message is neither a file nor a task
pub record IsOther (m : Message) : Type 0 where
  pub no_file : (key : Key) (content : List ℕ) → messages.Put key content ≡ m → ⊥
  pub no_task : (t : Task) → messages.Task t ≡ m → ⊥

pub cancel_is_other : (attempt : AttemptNo) → IsOther (messages.Cancel attempt)
cancel_is_other attempt = record { no_file = λ key content same. let wrong : ⊥ = cc in wrong; no_task = λ t same. let wrong : ⊥ = cc in wrong }

pub unlink_is_other : (gone : Key) → IsOther (messages.Unlink gone)
unlink_is_other gone = record { no_file = λ key content same. let wrong : ⊥ = cc in wrong; no_task = λ t same. let wrong : ⊥ = cc in wrong }

module _ {L : Type 0} (gives : Function) (may_fail : Job → Failure → Type 0) (history : L → List Passed) where
  abbrev ServesBy : PeerState L → List Message → List Message → Option Task → Type 0
  ServesBy p said heard waiting = Serves gives may_fail (history p.way) p.feed p.session said heard waiting

  abbrev Serving : List (List ℕ) → List Held → ℕ → SeatState L → Option Task → List Key → Type 0
  Serving files held next s waiting left = IsServing gives may_fail history files held next s waiting left

  abbrev AtWork : List (List ℕ) → List Held → ℕ → SeatState L → Type 0
  AtWork files held next s = IsAtWork gives may_fail history files held next s

  -- the same messages were said and heard
  with_spoken : (files files_now : List (List ℕ)) (held held_now : List Held) (next next_now : ℕ) (s : SeatState L) (waiting : Option Task) (left : List Key) (w : Serving files held next s waiting left)
      → SpokenTo gives may_fail history files_now held_now next_now s.peer w.said w.heard waiting → Serving files_now held_now next_now s waiting left
  with_spoken files files_now held held_now next next_now s waiting left w spoken = record {
    said = w.said;
    heard = w.heard;
    spoken = spoken;
    owed = w.owed;
    provides = w.provides;
    runs = w.runs;
    stated = w.stated;
    well = w.well;
  }

  -- more was said, in the same session
  with_more : (files : List (List ℕ)) (held : List Held) (next next_now : ℕ) (s : SeatState L) (p_now : PeerState L) (waiting after : Option Task) (left left_now : List Key) (w : Serving files held next s waiting left)
      → p_now.session ≡ s.peer.session → (more : List Message) → SpokenTo gives may_fail history files held next_now p_now (w.said ++ more) w.heard after → Provides s.peer.session.known (w.said ++ more) after left_now
      → Serving files held next_now (record s { peer = p_now }) after left_now
  with_more files held next next_now s p_now waiting after left left_now w same more spoken provides = record {
    said = w.said ++ more;
    heard = w.heard;
    spoken = spoken;
    owed = λ a owed. said_on a.attempt w.said more (w.owed a owed);
    provides = subst (λ (z : State). Provides z.known (w.said ++ more) after left_now) (sym same) provides;
    runs = subst (λ (z : State). AreOpen s.runs z.attempts) (sym same) w.runs;
    stated = subst (λ (z : State). IsStated s.stated z.stage w.heard) (sym same) w.stated;
    well = w.well;
  }

  -- the link was asked or sent on, and nothing was said
  pub same_said : (files : List (List ℕ)) (held : List Held) (next : ℕ) (s : SeatState L) (p_now : PeerState L) (waiting : Option Task) (left : List Key) (w : Serving files held next s waiting left) → p_now.session ≡ s.peer.session
      → ServesBy p_now w.said w.heard waiting → Serving files held next (record s { peer = p_now }) waiting left
  same_said files held next s p_now waiting left w same serves = record {
    said = w.said;
    heard = w.heard;
    spoken = record { serves = serves; due = w.spoken.due; own = w.spoken.own; older = w.spoken.older };
    owed = w.owed;
    provides = subst (λ (z : State). Provides z.known w.said waiting left) (sym same) w.provides;
    runs = subst (λ (z : State). AreOpen s.runs z.attempts) (sym same) w.runs;
    stated = subst (λ (z : State). IsStated s.stated z.stage w.heard) (sym same) w.stated;
    well = w.well;
  }

  -- ---- the book goes on

  -- no further attempt runs
  pub works_on : (files : List (List ℕ)) (held new : List Held) (next : ℕ) (s : SeatState L) → RunsOn held new → AtWork files held next s → AtWork files new next s
  works_on files held new next s on w = with_spoken files files held new next next s None [] w (record {
    serves = w.spoken.serves;
    due = w.spoken.due;
    own = λ t is task runs. w.spoken.own t is task (on t.attempt task runs);
    older = w.spoken.older;
  })

  older_than : (n m : ℕ) → n < m → n ≡ m → ⊥
  older_than n m less same = omega (arith, less, same)

  -- the next attempt runs
  pub works_begun : (files : List (List ℕ)) (held new : List Held) (attempt : AttemptNo) (task : Submission) (s : SeatState L) → RunsWith held new attempt task → AtWork files held attempt.0 s → AtWork files new attempt.0 s
  works_begun files held new attempt task s with w = with_spoken files files held new attempt.0 attempt.0 s None [] w (record {
    serves = w.spoken.serves;
    due = w.spoken.due;
    own = λ t is x runs. by t is x (with t.attempt x runs);
    older = w.spoken.older;
  })
    where
      by : (t : Task) → IsAmong (messages.Task t) w.said → (x : Submission) → Runs held t.attempt x ⊎ ((t.attempt ≡ attempt) × (x ≡ task)) → t ≡ task_of t.attempt x
      by t is x (inl runs) = w.spoken.own t is x runs
      by t is x (inr new) = absurd (older_than t.attempt.0 attempt.0 (w.spoken.older t is) (ap (λ (a : AttemptNo). a.0) new.0))

  -- the number of the next attempt rises
  pub works_later : (files : List (List ℕ)) (held : List Held) (next later : ℕ) (s : SeatState L) → next ≤ later → AtWork files held next s → AtWork files held later s
  works_later files held next later s rises w = with_spoken files files held held next later s None [] w (record {
    serves = w.spoken.serves;
    due = w.spoken.due;
    own = w.spoken.own;
    older = λ t is. let less = w.spoken.older t is in omega (arith, less, rises);
  })

  -- there are more files
  pub works_with : (files more : List (List ℕ)) (held : List Held) (next : ℕ) (s : SeatState L) → AtWork files held next s → AtWork (files ++ more) held next s
  works_with files more held next s w = with_spoken files (files ++ more) held held next next s None [] w (record {
    serves = w.spoken.serves;
    due = λ key content is. still_there files more key.file.0 content (w.spoken.due key content is);
    own = w.spoken.own;
    older = w.spoken.older;
  })

  -- what was to be asked once more isn't
  pub works_asked : (files : List (List ℕ)) (held : List Held) (next : ℕ) (s : SeatState L) → AtWork files held next s → AtWork files held next (record s { again = None })
  works_asked files held next s w = record {
    said = w.said;
    heard = w.heard;
    spoken = w.spoken;
    owed = λ a is. absurd (let wrong : ⊥ = cc in wrong);
    provides = w.provides;
    runs = w.runs;
    stated = w.stated;
    well = λ well. (refl, (w.well well).1);
  }

  -- a second has gone by
  pub works_beat : (files : List (List ℕ)) (held : List Held) (next : ℕ) (s : SeatState L) (health : HealthState) → (IsRested s.health → IsRested health) → AtWork files held next s → AtWork files held next (record s { health = health })
  works_beat files held next s health rests w = record {
    said = w.said;
    heard = w.heard;
    spoken = w.spoken;
    owed = w.owed;
    provides = w.provides;
    runs = w.runs;
    stated = w.stated;
    well = λ well. ((w.well well).0, rests (w.well well).1);
  }

  -- ---- files are put

  no_task : (t : Task) (key : Key) (content : List ℕ) (said : List Message) → IsAmong (messages.Task t) (said ++ messages.Put key content ∷ []) → IsAmong (messages.Task t) said
  no_task t key content said is = by (among_or (messages.Task t) (messages.Put key content) said is)
    where
      by : IsAmong (messages.Task t) said ⊎ (messages.Task t ≡ messages.Put key content) → IsAmong (messages.Task t) said
      by (inl before) = before
      by (inr same) = absurd (let wrong : ⊥ = cc in wrong)

  due_more : (files : List (List ℕ)) (said : List Message) (key : Key) (content : List ℕ) → AreDue (contents_of files) said → slice_get files key.file.0 ≡ Some content
      → AreDue (contents_of files) (said ++ messages.Put key content ∷ [])
  due_more files said key content due is k c among = by (among_or (messages.Put k c) (messages.Put key content) said among)
    where
      by : IsAmong (messages.Put k c) said ⊎ (messages.Put k c ≡ messages.Put key content) → slice_get files k.file.0 ≡ Some c
      by (inl before) = due k c before
      by (inr same) =
          let one : k ≡ key = cc in
          let two : c ≡ content = cc in
          ap (λ (x : Key). slice_get files x.file.0) one ∙ is ∙ ap (λ (x : List ℕ). Some x) (sym two)

  abbrev pub Puts : PeerState L → PeerState L → Key → List ℕ → Option Task → Type 0
  Puts p p_now key content waiting = (said heard : List Message) → ServesBy p said heard waiting → ServesBy p_now (said ++ messages.Put key content ∷ []) heard waiting

  put_spoken : (files : List (List ℕ)) (held : List Held) (next : ℕ) (p p_now : PeerState L) (key : Key) (content : List ℕ) (said heard : List Message) (waiting : Option Task)
      → slice_get files key.file.0 ≡ Some content → ServesBy p_now (said ++ messages.Put key content ∷ []) heard waiting
      → SpokenTo gives may_fail history files held next p said heard waiting → SpokenTo gives may_fail history files held next p_now (said ++ messages.Put key content ∷ []) heard waiting
  put_spoken files held next p p_now key content said heard waiting is serves s = record {
    serves = serves;
    due = due_more files said key content s.due is;
    own = λ t among. s.own t (no_task t key content said among);
    older = λ t among. s.older t (no_task t key content said among);
  }

  -- a key that is left to be put is put
  pub put_asks : (files : List (List ℕ)) (held : List Held) (next : ℕ) (s : SeatState L) (p_now : PeerState L) (task : Task) (key : Key) (left : List Key) (content : List ℕ)
      → p_now.session ≡ s.peer.session → slice_get files key.file.0 ≡ Some content → Puts s.peer p_now key content (Some task)
      → MayAsk gives may_fail history files held next s task (key ∷ left) → MayAsk gives may_fail history files held next (record s { peer = p_now }) task left
  put_asks files held next s p_now task key left content same is puts m =
      with_more files held next next s p_now (Some task) (Some task) (key ∷ left) left m same (messages.Put key content ∷ [])
      (put_spoken files held next s.peer p_now key content m.said m.heard (Some task) is (puts m.said m.heard m.spoken.serves) m.spoken)
      (provides_put s.peer.session.known left m.said (Some task) key content m.provides)

  -- one is put once more
  pub put_works : (files : List (List ℕ)) (held : List Held) (next : ℕ) (s : SeatState L) (p_now : PeerState L) (key : Key) (content : List ℕ)
      → p_now.session ≡ s.peer.session → slice_get files key.file.0 ≡ Some content → Puts s.peer p_now key content None → AtWork files held next s → AtWork files held next (record s { peer = p_now })
  put_works files held next s p_now key content same is puts w =
      with_more files held next next s p_now None None [] [] w same (messages.Put key content ∷ [])
      (put_spoken files held next s.peer p_now key content w.said w.heard None is (puts w.said w.heard w.spoken.serves) w.spoken)
      (provides_said s.peer.session.known [] w.said None (messages.Put key content) (λ t same_task. let wrong : ⊥ = cc in wrong) w.provides)

  -- ---- a task is opened

  abbrev pub OpensTask : PeerState L → PeerState L → Task → Type 0
  OpensTask p p_now task = (said heard : List Message) → ServesBy p said heard None → IsNew task.attempt said → ServesBy p_now said heard (Some task)

  new_by : (files : List (List ℕ)) (held : List Held) (next : ℕ) (s : SeatState L) (w : AtWork files held next s) (attempt : AttemptNo) → attempt.0 ≡ next → IsNew attempt w.said
  new_by files held next s w attempt is t among same = older_than t.attempt.0 next (w.spoken.older t among) (ap (λ (a : AttemptNo). a.0) same ∙ is)

  pub open_asks : (files : List (List ℕ)) (held : List Held) (next : ℕ) (s : SeatState L) (p_now : PeerState L) (task : Task) (r : Run) → task.attempt.0 ≡ next → r.attempt ≡ task.attempt → p_now.session ≡ started s.peer.session task
      → OpensTask s.peer p_now task → AtWork files held next s
      → MayAsk gives may_fail history files held next (record s { peer = p_now; runs = s.runs ++ r ∷ [] }) task (keys_of task.run (lacking s.peer.session.known task.run task.inputs))
  open_asks files held next s p_now task r is of same opens w = record {
    said = w.said;
    heard = w.heard;
    spoken = record {
      serves = opens w.said w.heard w.spoken.serves (new_by files held next s w task.attempt is);
      due = w.spoken.due;
      own = w.spoken.own;
      older = w.spoken.older;
    };
    owed = w.owed;
    provides = subst (λ (z : State). Provides z.known w.said (Some task) (keys_of task.run (lacking s.peer.session.known task.run task.inputs))) (sym same) (provides_opened s.peer.session.known w.said task w.provides);
    runs = subst (λ (z : State). AreOpen (s.runs ++ r ∷ []) z.attempts) (sym same) (are_more s.runs s.peer.session.attempts r (opened task) of w.runs);
    stated = subst (λ (z : State). IsStated s.stated z.stage w.heard) (sym same) w.stated;
    well = w.well;
  }

  -- an attempt that is open was said, and so it is before the next
  pub not_open : (files : List (List ℕ)) (held : List Held) (next : ℕ) (s : SeatState L) (attempt : AttemptNo) → attempt.0 ≡ next → AtWork files held next s → is_open attempt s.peer.session.attempts ≡ true → ⊥
  not_open files held next s attempt is w open_now = by (place attempt s.peer.session.attempts) refl
    where
      by : (p : Option ℕ) → place attempt s.peer.session.attempts ≡ p → ⊥
      by None none = let wrong : ⊥ = cc (sym (ap (λ (q : Option ℕ). is_some q) none) ∙ open_now) in wrong
      by (Some at) some =
          let here = placed attempt s.peer.session.attempts at some in
          let o = all_get (IsServed gives may_fail (history s.peer.way) w.said w.heard None) s.peer.session.attempts at here.it here.there_it_is w.spoken.serves.served in
          new_by files held next s w attempt is o.task (asked_of gives may_fail (history s.peer.way) w.said w.heard o.task o.booked) (sym o.attempt ∙ here.of_it)

  -- ---- a task is asked

  no_put : (key : Key) (content : List ℕ) (task : Task) (said : List Message) → IsAmong (messages.Put key content) (said ++ messages.Task task ∷ []) → IsAmong (messages.Put key content) said
  no_put key content task said among = by (among_or (messages.Put key content) (messages.Task task) said among)
    where
      by : IsAmong (messages.Put key content) said ⊎ (messages.Put key content ≡ messages.Task task) → IsAmong (messages.Put key content) said
      by (inl before) = before
      by (inr same) = absurd (let wrong : ⊥ = cc in wrong)

  own_more : (held : List Held) (said : List Message) (task : Task) → AreOwn held said → IsOwnTask held task → AreOwn held (said ++ messages.Task task ∷ [])
  own_more held said task own is t among = by (among_or (messages.Task t) (messages.Task task) said among)
    where
      by : IsAmong (messages.Task t) said ⊎ (messages.Task t ≡ messages.Task task) → IsOwnTask held t
      by (inl before) = own t before
      by (inr same) = subst (λ (x : Task). IsOwnTask held x) (sym (task_is t task same)) is

  older_more : (next later : ℕ) (said : List Message) (task : Task) → next ≤ later → task.attempt.0 < later → AreOlder next said → AreOlder later (said ++ messages.Task task ∷ [])
  older_more next later said task rises less older t among = by (among_or (messages.Task t) (messages.Task task) said among)
    where
      by : IsAmong (messages.Task t) said ⊎ (messages.Task t ≡ messages.Task task) → t.attempt.0 < later
      by (inl before) = let was = older t before in omega (arith, was, rises)
      by (inr same) = subst (λ (x : Task). x.attempt.0 < later) (sym (task_is t task same)) less

  abbrev pub Asks : PeerState L → PeerState L → Task → Type 0
  Asks p p_now task = (said heard : List Message) → ServesBy p said heard (Some task) → ServesBy p_now (said ++ messages.Task task ∷ []) heard None

  abbrev pub AsksAgain : PeerState L → PeerState L → Task → Type 0
  AsksAgain p p_now task = (said heard : List Message) → ServesBy p said heard None → IsAmong (messages.Task task) said → ServesBy p_now (said ++ messages.Task task ∷ []) heard None

  pub ask_works : (files : List (List ℕ)) (held : List Held) (next : ℕ) (s : SeatState L) (p_now : PeerState L) (task : Task) → p_now.session ≡ s.peer.session → task.attempt.0 ≡ next → IsOwnTask held task → Asks s.peer p_now task
      → MayAsk gives may_fail history files held next s task [] → AtWork files held (1 + next) (record s { peer = p_now })
  ask_works files held next s p_now task same is own asks m =
      with_more files held next (1 + next) s p_now (Some task) None [] [] m same (messages.Task task ∷ [])
      (record {
        serves = asks m.said m.heard m.spoken.serves;
        due = λ key content among. m.spoken.due key content (no_put key content task m.said among);
        own = own_more held m.said task m.spoken.own own;
        older = older_more next (1 + next) m.said task (omega arith) (omega (arith, is)) m.spoken.older;
      })
      (provides_asked s.peer.session.known m.said task m.provides)

  pub again_works : (files : List (List ℕ)) (held : List Held) (next : ℕ) (s : SeatState L) (p_now : PeerState L) (again : Again) (task : Task) (own : Submission) → p_now.session ≡ s.peer.session → s.again ≡ Some again → Runs held task.attempt own
      → IsOwnTask held task → again.attempt ≡ task.attempt → AsksAgain s.peer p_now task → AtWork files held next s → AtWork files held next (record s { peer = p_now })
  again_works files held next s p_now again task own same_session lacks runs is same asks w =
      let was = w.owed again lacks in
      let one : was.0.attempt ≡ task.attempt = was.1 ∙ same in
      let its : was.0 ≡ task_of was.0.attempt own = w.spoken.own was.0 was.2 own (subst (λ (a : AttemptNo). Runs held a own) (sym one) runs) in
      let ours : task ≡ task_of task.attempt own = is own runs in
      let equal : was.0 ≡ task = its ∙ ap (λ (a : AttemptNo). task_of a own) one ∙ sym ours in
      let among : IsAmong (messages.Task task) w.said = subst (λ (t : Task). IsAmong (messages.Task t) w.said) equal was.2 in
      with_more files held next next s p_now None None [] [] w same_session (messages.Task task ∷ [])
      (record {
        serves = asks w.said w.heard w.spoken.serves among;
        due = λ key content put. w.spoken.due key content (no_put key content task w.said put);
        own = own_more held w.said task w.spoken.own is;
        older = older_more next next w.said task (omega arith) (w.spoken.older task among) w.spoken.older;
      })
      (provides_again s.peer.session.known w.said task among w.provides)

  -- ---- something else is said

  abbrev pub SaysMore : PeerState L → PeerState L → Message → Type 0
  SaysMore p p_now m = (said heard : List Message) → ServesBy p said heard None → ServesBy p_now (said ++ m ∷ []) heard None

  say_spoken : (files : List (List ℕ)) (held : List Held) (next : ℕ) (p p_now : PeerState L) (m : Message) (said heard : List Message) → IsOther m → ServesBy p_now (said ++ m ∷ []) heard None
      → SpokenTo gives may_fail history files held next p said heard None → SpokenTo gives may_fail history files held next p_now (said ++ m ∷ []) heard None
  say_spoken files held next p p_now m said heard other serves s = record {
    serves = serves;
    due = λ key content among. s.due key content (before (messages.Put key content) (other.no_file key content) among);
    own = λ t among. s.own t (before (messages.Task t) (other.no_task t) among);
    older = λ t among. s.older t (before (messages.Task t) (other.no_task t) among);
  }
    where
      before : (x : Message) → (x ≡ m → ⊥) → IsAmong x (said ++ m ∷ []) → IsAmong x said
      before x not_it among = by (among_or x m said among)
        where
          by : IsAmong x said ⊎ (x ≡ m) → IsAmong x said
          by (inl is) = is
          by (inr same) = absurd (not_it same)

  pub say_works : (files : List (List ℕ)) (held : List Held) (next : ℕ) (s : SeatState L) (p_now : PeerState L) (m : Message) → p_now.session ≡ s.peer.session → IsOther m → SaysMore s.peer p_now m → AtWork files held next s
      → AtWork files held next (record s { peer = p_now })
  say_works files held next s p_now m same other says w =
      with_more files held next next s p_now None None [] [] w same (m ∷ []) (say_spoken files held next s.peer p_now m w.said w.heard other (says w.said w.heard w.spoken.serves) w.spoken)
      (provides_said s.peer.session.known [] w.said None m other.no_task w.provides)

  same_known : (s : State) (p : Option ℕ) → (closed_where s p).known ≡ s.known
  same_known s None = refl
  same_known s (Some at) = refl

  same_stage : (s : State) (p : Option ℕ) → (closed_where s p).stage ≡ s.stage
  same_stage s None = refl
  same_stage s (Some at) = refl

  closed_stated : (stated : Option Stated) (s now : State) (p : Option ℕ) (heard : List Message) → now ≡ closed_where s p → IsStated stated s.stage heard → IsStated stated now.stage heard
  closed_stated stated s now p heard same is = subst (λ (x : Stage). IsStated stated x heard) (sym (ap (λ (z : State). z.stage) same ∙ same_stage s p)) is

  -- a run is taken out and its attempt cancelled
  pub cancel_works : (files : List (List ℕ)) (held : List Held) (next : ℕ) (s : SeatState L) (p_now : PeerState L) (at : ℕ) (r : Run) → slice_get s.runs at ≡ Some r
      → p_now.session ≡ closed_where s.peer.session (place r.attempt s.peer.session.attempts) → SaysMore s.peer p_now (messages.Cancel r.attempt) → AtWork files held next s
      → AtWork files held next (record s { peer = p_now; runs = remove s.runs at })
  cancel_works files held next s p_now at r is same says w =
      let old = s.peer.session in
      let p = place r.attempt old.attempts in
      let m = messages.Cancel r.attempt in
      let other = cancel_is_other r.attempt in
      record {
        said = w.said ++ m ∷ [];
        heard = w.heard;
        spoken = say_spoken files held next s.peer p_now m w.said w.heard other (says w.said w.heard w.spoken.serves) w.spoken;
        owed = λ a owed. said_on a.attempt w.said (m ∷ []) (w.owed a owed);
        provides = subst (λ (known : List Key). let none : Option Task = None in Provides known (w.said ++ m ∷ []) none []) (sym (ap (λ (z : State). z.known) same ∙ same_known old p)) (provides_said old.known [] w.said None m other.no_task w.provides);
        runs = subst (λ (z : State). AreOpen (remove s.runs at) z.attempts) (sym same) (are_cancelled s.runs at r old is w.runs);
        stated = closed_stated s.stated old p_now.session p w.heard same w.stated;
        well = w.well;
      }

  -- the same, where it wasn't open
  pub cancel_unopened : (files : List (List ℕ)) (held : List Held) (next : ℕ) (s : SeatState L) (p_now : PeerState L) (at : ℕ) (r : Run) → slice_get s.runs at ≡ Some r
      → p_now.session ≡ closed_where s.peer.session (place r.attempt s.peer.session.attempts)
      → ((said heard : List Message) → ServesBy s.peer said heard None → ServesBy p_now said heard None) → AtWork files held next s
      → AtWork files held next (record s { peer = p_now; runs = remove s.runs at })
  cancel_unopened files held next s p_now at r is same stays w =
      let old = s.peer.session in
      let p = place r.attempt old.attempts in
      record {
        said = w.said;
        heard = w.heard;
        spoken = record { serves = stays w.said w.heard w.spoken.serves; due = w.spoken.due; own = w.spoken.own; older = w.spoken.older };
        owed = w.owed;
        provides = subst (λ (known : List Key). let none : Option Task = None in Provides known w.said none []) (sym (ap (λ (z : State). z.known) same ∙ same_known old p)) w.provides;
        runs = subst (λ (z : State). AreOpen (remove s.runs at) z.attempts) (sym same) (are_cancelled s.runs at r old is w.runs);
        stated = closed_stated s.stated old p_now.session p w.heard same w.stated;
        well = w.well;
      }

  -- ---- the same peer and book

  pub works_is : (files : List (List ℕ)) (held held_now : List Held) (next : ℕ) (s now : SeatState L) → held_now ≡ held → now ≡ s → AtWork files held next s → AtWork files held_now next now
  works_is files held held_now next s now same_held same_seat w =
      subst (λ (h : List Held). AtWork files h next now) (sym same_held) (subst (λ (x : SeatState L). AtWork files held next x) (sym same_seat) w)
