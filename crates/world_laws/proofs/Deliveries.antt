-- A message that comes to the master, and what it sends.
use Rattle.std.proofs.Common.{◌≡◌, ◌⊎◌, inl, inr, ℕ, Bool, true, false, cond, List, [], ◌∷◌, ◌++◌, Option, Some, None, refl, ap, sym, subst, arith}
use Rattle.std.specs.Prelude.{slice_get, find, map, filter_map, nat_lt, Result, Ok, Err}
use Rattle.std.specs.Option.{option_map}
use Rattle.flow_types.specs.declared.plan.Rule.{Rule}
use Rattle.flow_types.specs.declared.numbers.Amounts.{Amounts}
use Rattle.flow_types.specs.declared.numbers.AttemptNo.{AttemptNo}
use Rattle.flow_types.specs.declared.numbers.FileNo.{FileNo}
use Rattle.flow_types.specs.declared.job.Outcome.{Outcome}
use Rattle.flow_types.specs.declared.job.Outcome.TheVariants as outcomes
use Rattle.flow_types.specs.declared.job.Report.{Report}
use Rattle.flow_types.specs.declared.job.Task.{Task}
use Rattle.flow_types.specs.declared.records.Record.{Record}
use Rattle.flow_types.specs.declared.messages.Message.{Message}
use Rattle.flow_types.specs.declared.messages.Message.TheVariants as messages
use Rattle.flow_types.specs.Plans.{IsValid}
use Rattle.flow_types.specs.Serial.{job_of}
use Rattle.links.specs.Honesty.{task_job}
use Rattle.run_history.specs.Moves.{has_join_room}
use Rattle.link_session.specs.declared.word.SessionFault.{SessionFault}
use Rattle.link_session.specs.declared.word.SessionFault.TheVariants as faults
use Rattle.link_session.specs.declared.word.Word.{Word}
use Rattle.link_session.specs.declared.word.Word.TheVariants as words
use Rattle.link_session.specs.Fits.{has_all, outcome_fits}
use Rattle.link_session.specs.Keys.{key_of}
use Rattle.link_session.specs.Sessions.{State, Told, place, says, breaks, closed_at as shut_at, word_of, ended_by, ended_at, put_again, lost, lacked_by, lacked_at, most_misses, greets, hears, told}
use Rattle.world_peers.specs.declared.sent.Party.{Party}
use Rattle.world_peers.specs.declared.sent.Party.TheVariants.{Master, Peer}
use Rattle.world_peers.specs.declared.sent.Sent.{Sent}
use Rattle.world_laws.specs.Members.{Stands, Every}
use Rattle.world_laws.specs.Worlds.{World, Connection, records_in, rule_at, task_with, the_rule, task_at, run_of, put_of, puts_and_task, with_session, session_set, closes, moved, link_no, end_in, end_logged, puts_again, follows, answer_logged, answered, to_master, comes, delivered, at_peer, message_logged, coming_logged, delivery_logged}
use Rattle.world_peers.specs.Peers.{down_to}
use Rattle.world_laws.specs.Reach.{MayEnd}
use Rattle.world_laws.specs.Laws.{task_sent}
use Rattle.world_laws.proofs.Members.{every_append, every_one, every_map, every_filter_map, get_stands}
use Rattle.world_laws.proofs.WorldSteps.{sent_kept, connections_kept, to_other_kept, to_peer_kept}
use Rattle.world_laws.proofs.Moves.{unlogged_kept}
use Rattle.world_laws.proofs.Closes.{IsFrom, closes_kept, lost_kept}
use Rattle.world_laws.proofs.Invariant.{Setting, due, IsOurAnswer, IsOurTask, IsOurOutcome, IsRightMessage, IsSendable, IsKept}
use Rattle.run_history.specs.declared.moves.Move.TheVariants as moves

-- ---- what a session answers

-- an end of an attempt is one with which its job may end, or the attempt is lost
abbrev IsRightEnd : Setting → World → Option Report → Type 0
IsRightEnd S w None = Unit {0}
IsRightEnd S w (Some report) = (IsOurOutcome S (records_in w) report.attempt.0 report.outcome × IsFrom w report.attempt) ⊎ (report.outcome ≡ outcomes.NotRun)

-- the end that an answer tells of is right
abbrev pub IsRightAnswer : Setting → World → Message → Result Word SessionFault → Type 0
IsRightAnswer S w m (Err why) = Unit {0}
IsRightAnswer S w m (Ok word) = IsRightEnd S w (end_in m word)

said_right : (S : Setting) (w : World) (attempt : AttemptNo) (outcome : Outcome) → IsOurOutcome S (records_in w) attempt.0 outcome → IsFrom w attempt
    → IsRightEnd S w (end_in (messages.Done attempt outcome) (word_of attempt outcome))
said_right S w attempt (outcomes.Success contents) ours from = inl (ours, from)
said_right S w attempt (outcomes.Failed why) ours from = inl (ours, from)
said_right S w attempt outcomes.NotRun ours from = inl (ours, from)

fits_right : (S : Setting) (w : World) (s next : State) (attempt : AttemptNo) (outcome : Outcome) (fits : Bool) → IsOurOutcome S (records_in w) attempt.0 outcome → IsFrom w attempt
    → IsRightAnswer S w (messages.Done attempt outcome) (cond fits (says next (word_of attempt outcome)) (breaks s)).answer
fits_right S w s next attempt outcome true ours from = said_right S w attempt outcome ours from
fits_right S w s next attempt outcome false ours from = tt

ended_right : (S : Setting) (w : World) (s : State) (attempt : AttemptNo) (outcome : Outcome) (at : ℕ) (found : Option _) → IsOurOutcome S (records_in w) attempt.0 outcome → IsFrom w attempt
    → IsRightAnswer S w (messages.Done attempt outcome) (ended_by s attempt outcome at found).answer
ended_right S w s attempt outcome at None ours from = tt
ended_right S w s attempt outcome at (Some o) ours from = fits_right S w s (shut_at s at) attempt outcome (outcome_fits o.bounds outcome) ours from

end_right : (S : Setting) (w : World) (s : State) (attempt : AttemptNo) (outcome : Outcome) (found : Option ℕ) → IsOurOutcome S (records_in w) attempt.0 outcome → IsFrom w attempt
    → IsRightAnswer S w (messages.Done attempt outcome) (ended_at s attempt outcome found).answer
end_right S w s attempt outcome None ours from = tt
end_right S w s attempt outcome (Some at) ours from = ended_right S w s attempt outcome at (slice_get s.attempts at) ours from

lacks_right : (S : Setting) (w : World) (s : State) (m : Message) (attempt : AttemptNo) (files : List FileNo) (at : ℕ) (o : _) (has few : Bool)
    → IsRightAnswer S w m (cond has (cond few (put_again s attempt files at o) (lost s attempt files at o)) (breaks s)).answer
lacks_right S w s m attempt files at o true true = tt
lacks_right S w s m attempt files at o true false = inr refl
lacks_right S w s m attempt files at o false few = tt

lacked_right : (S : Setting) (w : World) (s : State) (m : Message) (attempt : AttemptNo) (files : List FileNo) (at : ℕ) (found : Option _)
    → IsRightAnswer S w m (lacked_by s attempt files at found).answer
lacked_right S w s m attempt files at None = tt
lacked_right S w s m attempt files at (Some o) = lacks_right S w s m attempt files at o (has_all o.files files) (nat_lt o.misses most_misses)

lack_right : (S : Setting) (w : World) (s : State) (m : Message) (attempt : AttemptNo) (files : List FileNo) (found : Option ℕ) → IsRightAnswer S w m (lacked_at s attempt files found).answer
lack_right S w s m attempt files None = tt
lack_right S w s m attempt files (Some at) = lacked_right S w s m attempt files at (slice_get s.attempts at)

-- an answer to a task of the master is one of an attempt that was started
pub answer_ours : (S : Setting) (w : World) (p : ℕ) (attempt : AttemptNo) (outcome : Outcome) → IsKept S w → IsOurAnswer S w.bag Master (Peer p) attempt outcome
    → IsOurOutcome S (records_in w) attempt.0 outcome
answer_ours S w p attempt outcome kept answer =
    let ours : IsOurTask S (records_in w) answer.0 = kept.sent (task_sent Master (Peer p) answer.0) answer.2 in
    let same : answer.0.attempt.0 ≡ attempt.0 = ap (λ (a : AttemptNo). a.0) answer.1 in
    let job : task_job answer.0 (due S) ≡ job_of S.plan ours.0.rule (due S) = ap (λ t. task_job t (due S)) ours.1 in (
      record { number = ours.0.number; rule = ours.0.rule; started = subst (λ a. rule_at (records_in w) a ≡ Some ours.0.number) same ours.0.started; in_plan = ours.0.in_plan },
      subst (λ j. MayEnd S.gives S.may_fail j outcome) job answer.3,
    )

hears_right : (S : Setting) (w : World) (s : State) (p : ℕ) (m : Message) → IsKept S w → IsRightMessage S (records_in w) w.bag (Peer p) Master m → IsRightAnswer S w m (hears s m).answer
hears_right S w s p (messages.Done attempt outcome) kept right =
    end_right S w s attempt outcome (place attempt s.attempts) (answer_ours S w p attempt outcome kept right) (inr (p, (right.0, right.1, right.2)))
hears_right S w s p (messages.Missing attempt files) kept right = lack_right S w s (messages.Missing attempt files) attempt files (place attempt s.attempts)
hears_right S w s p (messages.Totals total largest cache) kept right = tt
hears_right S w s p (messages.Put key content) kept right = tt
hears_right S w s p (messages.Task t) kept right = tt
hears_right S w s p (messages.Hello total largest cache) kept right = tt
hears_right S w s p (messages.Cancel attempt) kept right = tt
hears_right S w s p (messages.Unlink key) kept right = tt
hears_right S w s p messages.Bye kept right = tt

greets_right : (S : Setting) (w : World) (s : State) (m : Message) → IsRightAnswer S w m (greets s m).answer
greets_right S w s (messages.Hello total largest cache) = tt
greets_right S w s (messages.Done attempt outcome) = tt
greets_right S w s (messages.Missing attempt files) = tt
greets_right S w s (messages.Totals total largest cache) = tt
greets_right S w s (messages.Put key content) = tt
greets_right S w s (messages.Task t) = tt
greets_right S w s (messages.Cancel attempt) = tt
greets_right S w s (messages.Unlink key) = tt
greets_right S w s messages.Bye = tt

-- the answer of a session in which something unexpected came
abbrev refused : State → Told
refused s = record { state = s; answer = Err faults.Unexpected }

-- A message is the first one, or one behind the hello, or it is refused.
pub told_by_stage : (Q : Told → Type 0) (s : State) (m : Message) → Q (greets s m) → Q (hears s m) → Q (refused s) → Q (told s m)
told_by_stage Q s m first behind never = grind (arith, first, behind, never)

-- What a session answers on a right message.
told_right : (S : Setting) (w : World) (s : State) (p : ℕ) (m : Message) → IsKept S w → IsRightMessage S (records_in w) w.bag (Peer p) Master m → IsRightAnswer S w m (told s m).answer
told_right S w s p m kept right = told_by_stage (λ did. IsRightAnswer S w m did.answer) s m (greets_right S w s m) (hears_right S w s p m kept right) tt

-- ---- what the master sends

task_by : (S : Setting) (H : List Record) (attempt : AttemptNo) (t : Task) (number : Option ℕ) (rule : Option Rule) → rule_at H attempt.0 ≡ number → the_rule S.plan number ≡ rule
    → option_map (λ rule. task_with S.plan rule attempt (run_of H)) rule ≡ Some t → IsOurTask S H t
task_by S H attempt t number None at found is = absurd (let h : ⊥ = cc in h)
task_by S H attempt t None (Some rule) at found is = absurd (let h : ⊥ = cc in h)
task_by S H attempt t (Some r) (Some rule) at found is =
    let same : task_with S.plan rule attempt (run_of H) ≡ t = cc in
    subst (IsOurTask S H) same (record { number = r; rule = rule; started = at; in_plan = found }, refl)

-- the task that the master makes of an attempt is the attempt's
pub task_right : (S : Setting) (H : List Record) (attempt : AttemptNo) (t : Task) → task_at S.plan H attempt ≡ Some t → IsOurTask S H t
task_right S H attempt t is = task_by S H attempt t (rule_at H attempt.0) (the_rule S.plan (rule_at H attempt.0)) refl refl is

put_by : (S : Setting) (w : World) (p run : ℕ) (file : FileNo) (m : Message) (content : Option (List ℕ)) → w.contents file.0 ≡ content → IsKept S w
    → option_map (λ content. messages.Put (key_of run file) content) content ≡ Some m → IsSendable S (records_in w) w.bag (down_to p m)
put_by S w p run file m None at kept is = absurd (let h : ⊥ = cc in h)
put_by S w p run file m (Some content) at kept is =
    let same : messages.Put (key_of run file) content ≡ m = cc in
    subst (λ m. IsSendable S (records_in w) w.bag (down_to p m)) same (kept.stored.sound file.0 content at, refl)

-- the Puts and the task that the master sends are right
pub puts_right : (S : Setting) (w : World) (p : ℕ) (files : List FileNo) (t : Task) → IsKept S w → IsOurTask S (records_in w) t → Every (IsSendable S (records_in w) w.bag) (puts_and_task w p files t)
puts_right S w p files t kept ours =
    let Right : Message → Type 0 = λ m. IsSendable S (records_in w) w.bag (down_to p m) in
    every_map (IsSendable S (records_in w) w.bag) (down_to p) (filter_map (put_of w.contents t.run) files ++ (messages.Task t ∷ []))
    (every_append Right (filter_map (put_of w.contents t.run) files) (messages.Task t ∷ [])
    (every_filter_map Right (put_of w.contents t.run) files (λ file m is. put_by S w p t.run file m (w.contents file.0) refl kept is))
    (every_one Right (messages.Task t) (ours, refl)))

puts_kept : (S : Setting) (w : World) (c : Connection) (files : List FileNo) (task : Option Task) → ((t : Task) → task ≡ Some t → IsOurTask S (records_in w) t) → IsKept S w
    → IsKept S (puts_again w c files task)
puts_kept S w c files None ours kept = kept
puts_kept S w c files (Some t) ours kept = sent_kept S w (puts_and_task w c.peer files t) kept (puts_right S w c.peer files t kept (ours t refl))

-- ---- what the master does

end_kept : (S : Setting) (w : World) (found : Option Report) → IsValid S.plan → IsRightEnd S w found → IsKept S w → IsKept S (end_logged S.plan w found)
end_kept S w None valid right kept = kept
end_kept S w (Some report) valid (inl right) kept = closes_kept S w report.attempt report.outcome valid kept right.0 right.1
end_kept S w (Some report) valid (inr is) kept =
    subst (λ o. IsKept S (closes S.plan w report.attempt o)) (sym is) (lost_kept S w report.attempt (rule_at (records_in w) report.attempt.0) kept)

changed_by : (S : Setting) (w : World) (c : Connection) (total largest : Amounts) (cache : ℕ) (room : Bool) → IsKept S w
    → IsKept S (cond room (moved w (moves.Changed (link_no c.link) total largest cache)) w)
changed_by S w c total largest cache true kept = unlogged_kept S w (moves.Changed (link_no c.link) total largest cache) refl kept
changed_by S w c total largest cache false kept = kept

follows_kept : (S : Setting) (w : World) (c : Connection) (word : Word) → IsKept S w → IsKept S (follows S.plan w c word)
follows_kept S w c (words.Joined total largest cache) kept = kept
follows_kept S w c (words.Changed total largest cache) kept = changed_by S w c total largest cache (has_join_room w.moves) kept
follows_kept S w c (words.Finish attempt) kept = kept
follows_kept S w c (words.Fail attempt why) kept = kept
follows_kept S w c (words.Lose attempt) kept = kept
follows_kept S w c (words.PutAgain attempt files) kept =
    puts_kept S w c files (task_at S.plan (records_in w) attempt) (λ t is. task_right S (records_in w) attempt t is) kept
follows_kept S w c (words.Stale attempt) kept = kept

logged_by : (S : Setting) (w : World) (m : Message) (answer : Result Word SessionFault) → IsValid S.plan → IsRightAnswer S w m answer → IsKept S w → IsKept S (answer_logged S.plan w m answer)
logged_by S w m (Err why) valid right kept = kept
logged_by S w m (Ok word) valid right kept = end_kept S w (end_in m word) valid right kept

answered_kept : (S : Setting) (w : World) (c : Connection) (m : Message) (answer : Result Word SessionFault) → IsValid S.plan → IsRightAnswer S w m answer → IsKept S w
    → IsKept S (answered S.plan w c m answer)
answered_kept S w c m (Err why) valid right kept = kept
answered_kept S w c m (Ok word) valid right kept = follows_kept S (end_logged S.plan w (end_in m word)) c word (end_kept S w (end_in m word) valid right kept)

to_master_kept : (S : Setting) (w : World) (p : ℕ) (m : Message) (connection : Option Connection) → IsValid S.plan → IsRightMessage S (records_in w) w.bag (Peer p) Master m → IsKept S w
    → IsKept S (to_master S.plan w m connection)
to_master_kept S w p m None valid right kept = kept
to_master_kept S w p m (Some c) valid right kept =
    let did : Told = told c.session m in
    answered_kept S (with_session w c.link did.state) c m did.answer valid (told_right S w c.session p m kept right)
    (connections_kept S w (map (session_set c.link did.state) w.connections) kept)

comes_kept : (S : Setting) (w : World) (from to : Party) (m : Message) → IsValid S.plan → IsRightMessage S (records_in w) w.bag from to m
    → Stands (let sent : Sent = record { from = from; to = to; message = m } in sent) w.bag → IsKept S w → IsKept S (comes S.plan w from to m)
comes_kept S w Master (Peer p) m valid right stands kept = to_peer_kept S w p m (find (at_peer p) w.connections) (slice_get w.peers p) refl right stands kept
comes_kept S w (Peer p) Master m valid right stands kept = to_master_kept S w p m (find (at_peer p) w.connections) valid right kept
comes_kept S w Master Master m valid right stands kept = kept
comes_kept S w (Peer p) (Peer q) m valid right stands kept = to_other_kept S w p q m (slice_get w.peers q) refl right stands kept

-- a delivery
pub delivered_kept : (S : Setting) (w : World) (n : ℕ) (found : Option Sent) → slice_get w.bag n ≡ found → IsValid S.plan → IsKept S w → IsKept S (delivered S.plan w found)
delivered_kept S w n None at valid kept = kept
delivered_kept S w n (Some sent) at valid kept =
    let stands : Stands sent w.bag = get_stands w.bag n sent at in
    comes_kept S w sent.from sent.to sent.message valid (kept.sent sent stands) stands kept

message_logged_kept : (S : Setting) (w : World) (p : ℕ) (m : Message) (connection : Option Connection) → IsValid S.plan → IsRightMessage S (records_in w) w.bag (Peer p) Master m → IsKept S w
    → IsKept S (message_logged S.plan w m connection)
message_logged_kept S w p m None valid right kept = kept
message_logged_kept S w p m (Some c) valid right kept =
    logged_by S w m (told c.session m).answer valid (told_right S w c.session p m kept right) kept

coming_kept : (S : Setting) (w : World) (from to : Party) (m : Message) → IsValid S.plan → IsRightMessage S (records_in w) w.bag from to m → IsKept S w
    → IsKept S (coming_logged S.plan w from to m)
coming_kept S w (Peer p) Master m valid right kept = message_logged_kept S w p m (find (at_peer p) w.connections) valid right kept
coming_kept S w (Peer p) (Peer q) m valid right kept = kept
coming_kept S w Master to m valid right kept = kept

-- what a delivery logs
pub delivery_logged_kept : (S : Setting) (w : World) (n : ℕ) (found : Option Sent) → slice_get w.bag n ≡ found → IsValid S.plan → IsKept S w → IsKept S (delivery_logged S.plan w found)
delivery_logged_kept S w n None at valid kept = kept
delivery_logged_kept S w n (Some sent) at valid kept = coming_kept S w sent.from sent.to sent.message valid (kept.sent sent (get_stands w.bag n sent at)) kept
