-- What the calls of a peer, by their answers, leave of a peer at work.
use Rattle.std.proofs.Common.{◌≡◌, ◌+◌, ℕ, Bool, true, false, List, [], ◌∷◌, ◌++◌, Option, Some, None, Result, Ok, Err, ap, sym, subst}
use Rattle.std.specs.Prelude.{OnOk, remove, slice_get}
use Rattle.flow_types.specs.declared.job.Failure.{Failure}
use Rattle.flow_types.specs.declared.job.Job.{Job}
use Rattle.flow_types.specs.declared.job.Task.{Task}
use Rattle.flow_types.specs.declared.messages.Key.{Key}
use Rattle.flow_types.specs.declared.messages.Message.{Message}
use Rattle.flow_types.specs.declared.messages.Message.TheVariants as messages
use Rattle.flow_types.specs.declared.numbers.AttemptNo.{AttemptNo}
use Rattle.flow_types.specs.declared.numbers.FileNo.{FileNo}
use Rattle.flow_types.specs.Serial.{Function}
use Rattle.link_session.specs.Keys.{lacking}
use Rattle.link_session.specs.Sessions.{closed_where, place, started}
use Rattle.links.specs.declared.passing.Passed.{Passed}
use Rattle.message_forms.specs.Streams.{IsAmong}
use Rattle.peers.specs.declared.leave.Leave.{Leave}
use Rattle.peers.specs.Provides.{keys_of}
use Rattle.peers.specs.Sends.{ServesAfter, ServesWhere}
use Rattle.peers.specs.Serves.{IsNew, Serves}
use Rattle.peers.specs.States.{PeerState}
use Rattle.task_book.specs.declared.task.Held.{Held}
use Rattle.task_book.specs.declared.task.Submission.{Submission}
use Rattle.task_book.specs.Stages.{Runs}
use Rattle.wq_seats.specs.declared.run.Again.{Again}
use Rattle.wq_seats.specs.declared.run.Run.{Run}
use Rattle.wq_seats.specs.Seats.{IsAtWork, IsOwnTask, MayAsk, SeatState, task_of}
use Rattle.wq_seats.proofs.Speaking.{again_works, ask_works, cancel_unopened, cancel_works, open_asks, put_asks, put_works, say_works, unlink_is_other, works_asked}

module _ {L : Type 0} (gives : Function) (may_fail : Job → Failure → Type 0) (history : L → List Passed) where
  abbrev ServesBy : PeerState L → List Message → List Message → Option Task → Type 0
  ServesBy p said heard waiting = Serves gives may_fail (history p.way) p.feed p.session said heard waiting

  -- What a call that says a message does, by its answer.
  abbrev pub Says : {T : Type 0} → PeerState L → PeerState L → Message → Option Task → Option Task → Result T Leave → Type 0
  Says p p_now m waiting after r = (said heard : List Message) → ServesBy p said heard waiting → ServesAfter gives may_fail m said heard after r (history p_now.way) p_now.feed p_now.session

  pub put_asks_by : {T : Type 0} (files : List (List ℕ)) (held : List Held) (next : ℕ) (s : SeatState L) (p_now : PeerState L) (task : Task) (key : Key) (left : List Key) (content : List ℕ) (r : Result T Leave)
      → p_now.session ≡ s.peer.session → slice_get files key.file.0 ≡ Some content → Says s.peer p_now (messages.Put key content) (Some task) (Some task) r
      → MayAsk gives may_fail history files held next s task (key ∷ left) → OnOk r (MayAsk gives may_fail history files held next (record s { peer = p_now }) task left)
  put_asks_by files held next s p_now task key left content (Ok x) same is puts m = put_asks gives may_fail history files held next s p_now task key left content same is puts m
  put_asks_by files held next s p_now task key left content (Err e) same is puts m = tt

  pub put_works_by : {T : Type 0} (files : List (List ℕ)) (held : List Held) (next : ℕ) (s : SeatState L) (p_now : PeerState L) (key : Key) (content : List ℕ) (r : Result T Leave)
      → p_now.session ≡ s.peer.session → slice_get files key.file.0 ≡ Some content → Says s.peer p_now (messages.Put key content) None None r
      → IsAtWork gives may_fail history files held next s → OnOk r (IsAtWork gives may_fail history files held next (record s { peer = p_now }))
  put_works_by files held next s p_now key content (Ok x) same is puts w = put_works gives may_fail history files held next s p_now key content same is puts w
  put_works_by files held next s p_now key content (Err e) same is puts w = tt

  pub ask_works_by : {T : Type 0} (files : List (List ℕ)) (held : List Held) (next : ℕ) (s : SeatState L) (p_now : PeerState L) (task : Task) (r : Result T Leave) → p_now.session ≡ s.peer.session → task.attempt.0 ≡ next → IsOwnTask held task
      → Says s.peer p_now (messages.Task task) (Some task) None r
      → MayAsk gives may_fail history files held next s task [] → OnOk r (IsAtWork gives may_fail history files held (1 + next) (record s { peer = p_now }))
  ask_works_by files held next s p_now task (Ok x) same is own asks m = ask_works gives may_fail history files held next s p_now task same is own asks m
  ask_works_by files held next s p_now task (Err e) same is own asks m = tt

  pub again_works_by : {T : Type 0} (files : List (List ℕ)) (held : List Held) (next : ℕ) (s : SeatState L) (p_now : PeerState L) (again : Again) (task : Task) (own : Submission) (r : Result T Leave) → p_now.session ≡ s.peer.session
      → s.again ≡ Some again → Runs held task.attempt own → IsOwnTask held task → again.attempt ≡ task.attempt
      → ((said heard : List Message) → ServesBy s.peer said heard None → IsAmong (messages.Task task) said → ServesAfter gives may_fail (messages.Task task) said heard None r (history p_now.way) p_now.feed p_now.session)
      → IsAtWork gives may_fail history files held next s → OnOk r (IsAtWork gives may_fail history files held next (record s { peer = p_now }))
  again_works_by files held next s p_now again task own (Ok x) same_session lacks runs is same asks w = again_works gives may_fail history files held next s p_now again task own same_session lacks runs is same asks w
  again_works_by files held next s p_now again task own (Err e) same_session lacks runs is same asks w = tt

  -- What a call that says an Unlink leaves.
  pub unlink_works_by : {T : Type 0} (files : List (List ℕ)) (held : List Held) (next : ℕ) (s : SeatState L) (p_now : PeerState L) (gone : Key) (r : Result T Leave) → p_now.session ≡ s.peer.session
      → Says s.peer p_now (messages.Unlink gone) None None r → IsAtWork gives may_fail history files held next s → OnOk r (IsAtWork gives may_fail history files held next (record s { peer = p_now }))
  unlink_works_by files held next s p_now gone (Ok x) same says w = say_works gives may_fail history files held next s p_now (messages.Unlink gone) same (unlink_is_other gone) says w
  unlink_works_by files held next s p_now gone (Err e) same says w = tt

  -- What a call that may cancel leaves.
  pub cancel_works_by : (files : List (List ℕ)) (held : List Held) (next : ℕ) (s : SeatState L) (p_now : PeerState L) (at : ℕ) (run : Run) (was : Bool) → slice_get s.runs at ≡ Some run
      → p_now.session ≡ closed_where s.peer.session (place run.attempt s.peer.session.attempts)
      → ((said heard : List Message) → ServesBy s.peer said heard None → (let r : Result Bool Leave = Ok was in ServesWhere gives may_fail (messages.Cancel run.attempt) said heard None r (history p_now.way) p_now.feed p_now.session))
      → IsAtWork gives may_fail history files held next s → IsAtWork gives may_fail history files held next (record s { peer = p_now; runs = remove s.runs at })
  cancel_works_by files held next s p_now at run true is same serves w = cancel_works gives may_fail history files held next s p_now at run is same serves w
  cancel_works_by files held next s p_now at run false is same serves w = cancel_unopened gives may_fail history files held next s p_now at run is same serves w

  -- A task that was asked once more isn't owed.
  pub asked_by : {T : Type 0} (files : List (List ℕ)) (held : List Held) (next : ℕ) (s now : SeatState L) → now ≡ record s { again = None } → (r : Result T Leave)
      → OnOk r (IsAtWork gives may_fail history files held next s) → OnOk r (IsAtWork gives may_fail history files held next now)
  asked_by files held next s now none (Ok x) w = subst (λ (x : SeatState L). IsAtWork gives may_fail history files held next x) (sym none) (works_asked gives may_fail history files held next s w)
  asked_by files held next s now none (Err e) w = tt

  -- An attempt that isn't open may be opened, and then its run is held.
  pub opened_by : (files : List (List ℕ)) (held : List Held) (next : ℕ) (s now : SeatState L) (p_now : PeerState L) (task : Task) (run : Run) (wanted : List FileNo) → task.attempt.0 ≡ next → run.attempt ≡ task.attempt
      → p_now ≡ record s.peer { session = started s.peer.session task } → wanted ≡ lacking s.peer.session.known task.run task.inputs → now ≡ record s { peer = p_now; runs = s.runs ++ run ∷ [] }
      → ((said heard : List Message) → ServesBy s.peer said heard None → IsNew task.attempt said → ServesBy p_now said heard (Some task))
      → IsAtWork gives may_fail history files held next s → MayAsk gives may_fail history files held next now task (keys_of task.run wanted)
  opened_by files held next s now p_now task run wanted is of same files_are same_now opens w =
      subst (λ (x : SeatState L). MayAsk gives may_fail history files held next x task (keys_of task.run wanted)) (sym same_now)
      (subst (λ (fs : List FileNo). MayAsk gives may_fail history files held next (record s { peer = p_now; runs = s.runs ++ run ∷ [] }) task (keys_of task.run fs)) (sym files_are)
      (open_asks gives may_fail history files held next s p_now task run is of (ap (λ (p : PeerState L). p.session) same) opens w))

-- The task that is sent is that of the one held task that runs with its attempt.
pub own_of : (held : List Held) (sent : Task) (attempt : AttemptNo) (task : Submission) → sent ≡ task_of attempt task → ((s : Submission) → Runs held attempt s → s ≡ task) → IsOwnTask held sent
own_of held sent attempt task of mine = subst (λ (t : Task). IsOwnTask held t) (sym of) (λ s runs. ap (λ (x : Submission). task_of attempt x) (sym (mine s runs)))
