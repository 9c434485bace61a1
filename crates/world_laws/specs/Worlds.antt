-- The world of a master, its foremen and all workers, and what each event makes of it.
use Rattle.std.specs.Prelude.{ℕ, Bool, true, false, not, ◌&&◌, ◌||◌, ◌-◌, List, [], ◌∷◌, ◌++◌, length, ◌==◌, Option, Some, None, Result, Ok, Err, nat_lt, if◌then◌else◌, map, filter, filter_map, find, fold, slice_get, slice_set, is_none}
use Rattle.std.specs.Option.{option_map, option_map_or}
use Rattle.sha2.specs.Sha256.{sha256}
use Rattle.flow_types.specs.declared.plan.Plan.{Plan}
use Rattle.flow_types.specs.declared.plan.Port.{Port}
use Rattle.flow_types.specs.declared.plan.Rule.{Rule}
use Rattle.flow_types.specs.declared.numbers.Amounts.{Amounts}
use Rattle.flow_types.specs.declared.numbers.AttemptNo.{AttemptNo}
use Rattle.flow_types.specs.declared.numbers.Content.{Content}
use Rattle.flow_types.specs.declared.numbers.FileNo.{FileNo}
use Rattle.flow_types.specs.declared.numbers.LinkNo.{LinkNo}
use Rattle.flow_types.specs.declared.job.Job.{Job}
use Rattle.flow_types.specs.declared.job.Outcome.{Outcome}
use Rattle.flow_types.specs.declared.job.Outcome.TheVariants as outcomes
use Rattle.flow_types.specs.declared.job.Report.{Report}
use Rattle.flow_types.specs.declared.job.Start.{Start}
use Rattle.flow_types.specs.declared.job.Task.{Task}
use Rattle.flow_types.specs.declared.job.Want.{Want}
use Rattle.flow_types.specs.declared.messages.Message.{Message}
use Rattle.flow_types.specs.declared.messages.Message.TheVariants as messages
use Rattle.flow_types.specs.declared.records.EndKind.{EndKind}
use Rattle.flow_types.specs.declared.records.Record.{Record}
use Rattle.flow_types.specs.declared.records.Record.TheVariants as records
use Rattle.flow_types.specs.Plans.{bound_of, makes}
use Rattle.flow_types.specs.Serial.{Contents, job_of, with_contents}
use Rattle.rule_graph.specs.Spelling.{plan_digest}
use Rattle.run_history.specs.declared.answers.Nothing.{Nothing}
use Rattle.run_history.specs.declared.moves.Move.{Move}
use Rattle.run_history.specs.declared.moves.Move.TheVariants as moves
use Rattle.run_history.specs.declared.options.Options.{Options}
use Rattle.run_history.specs.Answers.{claim_of, file_no, logged_end, rule_no}
use Rattle.run_history.specs.History.{next_run}
use Rattle.run_history.specs.Laws.{started_as}
use Rattle.run_history.specs.Legal.{has_places, is_allowed, runs}
use Rattle.run_history.specs.Links.{is_live, records_of, running_on}
use Rattle.run_history.specs.Moves.{has_join_room, join_refusal, next_link}
use Rattle.run_history.specs.States.{Place, running_in}
use Rattle.run_history.specs.Storage.{is_present, wanted}
use Rattle.link_session.specs.declared.word.SessionFault.{SessionFault}
use Rattle.link_session.specs.declared.word.Word.{Word}
use Rattle.link_session.specs.declared.word.Word.TheVariants as words
use Rattle.link_session.specs.Keys.{contains_key, forgotten, key_of, lacking}
use Rattle.link_session.specs.Sessions.{State, Told, greets, started, told}
use Rattle.worker_core.specs.Workers.{Acted, Worker, hears, reports}
use Rattle.foreman_core.specs.declared.acts.ForemanActs.{ForemanActs}
use Rattle.foreman_core.specs.Foremen.{Foreman, each_amount, largest_by, total_by}
use Rattle.foreman_core.specs.Steps.{Led, hears_down, hears_up, loses as loses_worker}
use Rattle.world_laws.specs.declared.events.Cut.{Cut}
use Rattle.world_laws.specs.declared.events.Cut.TheVariants as cuts
use Rattle.world_laws.specs.declared.events.Joiner.{Joiner}
use Rattle.world_laws.specs.declared.events.Joiner.TheVariants as joiners
use Rattle.world_peers.specs.declared.sent.Party.{Party}
use Rattle.world_peers.specs.declared.sent.Party.TheVariants.{Master, Peer}
use Rattle.world_peers.specs.declared.sent.Sent.{Sent}
use Rattle.world_peers.specs.declared.member.Home.{Home}
use Rattle.world_peers.specs.declared.member.Home.TheVariants.{AtForeman, AtMaster}
use Rattle.world_peers.specs.declared.member.Member.{Member}
use Rattle.world_peers.specs.declared.member.Member.TheVariants.{Leads, Works}
use Rattle.world_laws.specs.declared.events.WorldEvent.{WorldEvent}
use Rattle.world_laws.specs.declared.events.WorldEvent.TheVariants as events
use Rattle.world_peers.specs.Company.{at_next, cut_where, is_below, is_under, led_sends, left_by, link_at, most_peers, next_job, party_of}
use Rattle.world_peers.specs.Peers.{Lead, Machine, down_to, gone_lead, gone_worker, hello_of, is_open, least_job, new_lead, new_machine, new_worker, next_below, nothing, stepped, stepped_lead, told_to, with_one_more, without_job}

-- A link of the master that lives: its number, the peer at its other end, and its session.
pub record Connection : Type 0 where
  pub link : ℕ
  pub peer : ℕ
  pub session : State

-- The master's moves, the contents that it holds and its links, the peers, the bag of all messages
-- that were ever sent, whether the master runs, and some session to begin with. Peers and messages
-- are numbered by their places, peers in the order in which they first came.
pub record World : Type 0 where
  pub moves : List Move
  pub contents : Contents
  pub connections : List Connection
  pub peers : List Member
  pub bag : List Sent
  pub up : Bool
  pub fresh : State

-- the records of the master
abbrev pub records_in : World → List Record
records_in w = records_of w.moves

-- ---- tasks

-- the rule that a record starts
abbrev pub rule_started : Record → Option ℕ
rule_started (records.Started moment rule attempt link) = Some rule.0
rule_started _ = None

-- the rule of an attempt: that of so many starts the one at its number
abbrev pub rule_at : List Record → ℕ → Option ℕ
rule_at H a = slice_get (filter_map rule_started H) a

-- the rule of this number, where there is a number
abbrev pub the_rule : Plan → Option ℕ → Option Rule
the_rule P None = None
the_rule P (Some r) = slice_get P.rules r

-- what is wanted at a port: its remote name and the bound of its file
abbrev pub want_at : Plan → Port → Want
want_at P port = record { remote = port.remote; bound = bound_of P port.file.0 }

-- the task of an attempt at a rule, in a run
abbrev pub task_with : Plan → Rule → AttemptNo → ℕ → Task
task_with P rule attempt run = record {
  attempt = attempt;
  run = run;
  command = rule.command;
  needs = rule.needs;
  env = rule.env;
  inputs = rule.inputs;
  outputs = map (want_at P) rule.outputs;
}

-- the run that was opened last
abbrev pub run_of : List Record → ℕ
run_of H = next_run H - 1

-- the task of an attempt that was started
abbrev pub task_at : Plan → List Record → AttemptNo → Option Task
task_at P H attempt =
    option_map (λ rule. task_with P rule attempt (run_of H)) (the_rule P (rule_at H attempt.0))

-- the job of an attempt over what the master holds
abbrev pub job_at : Plan → World → AttemptNo → Option Job
job_at P w attempt =
    option_map (λ rule. job_of P rule w.contents) (the_rule P (rule_at (records_in w) attempt.0))

-- ---- changes of a world

-- with one move more
abbrev pub moved : World → Move → World
moved w move = record w { moves = w.moves ++ move ∷ [] }

-- with one record more
abbrev pub logged : World → Record → World
logged w entry = moved w (moves.Logged entry)

-- with these contents at the master
abbrev pub with_files : World → Contents → World
with_files w contents = record w { contents = contents }

-- with these links
abbrev pub with_connections : World → List Connection → World
with_connections w connections = record w { connections = connections }

-- with these peers
abbrev pub with_peers : World → List Member → World
with_peers w peers = record w { peers = peers }

-- with this peer at the place of another
abbrev pub with_member : World → ℕ → Member → World
with_member w p member = with_peers w (slice_set w.peers p member)

-- with these messages more
abbrev pub sent_more : World → List Sent → World
sent_more w more = record w { bag = w.bag ++ more }

-- it is this link
abbrev pub at_link : ℕ → Connection → Bool
at_link k c = c.link == k

-- the link of this peer
abbrev pub at_peer : ℕ → Connection → Bool
at_peer p c = c.peer == p

-- the same link with this session, if it is link k
abbrev pub session_set : ℕ → State → Connection → Connection
session_set k session c = record c { session = if at_link k c then session else c.session }

-- with this session on link k
abbrev pub with_session : World → ℕ → State → World
with_session w k session = with_connections w (map (session_set k session) w.connections)

-- ---- claims

-- a content under its key, where the master holds it
abbrev pub put_of : Contents → ℕ → FileNo → Option Message
put_of contents run file =
    option_map (λ content. messages.Put (key_of run file) content) (contents file.0)

-- a Put of each of these files, and then the task
abbrev pub puts_and_task : World → ℕ → List FileNo → Task → List Sent
puts_and_task w p files t =
    map (down_to p) (filter_map (put_of w.contents t.run) files ++ messages.Task t ∷ [])

-- the Puts and the task go over a link, and its session notes them
abbrev pub dispatched_on : World → Connection → Task → World
dispatched_on w c t =
    with_session (sent_more w (puts_and_task w c.peer (lacking c.session.known t.run t.inputs) t))
    c.link (started c.session t)

-- the same where there are a link and a task; on the local place nothing is sent
abbrev pub dispatched : World → Option Connection → Option Task → World
dispatched w None t = w
dispatched w (Some c) None = w
dispatched w (Some c) (Some t) = dispatched_on w c t

-- an attempt that was started on a link goes over it
abbrev pub sent_out : Plan → World → ℕ → AttemptNo → World
sent_out P w k attempt =
    dispatched w (find (at_link k) w.connections) (task_at P (records_in w) attempt)

-- the rule that was answered
abbrev pub taken : Result ℕ Nothing → Option ℕ
taken (Err why) = None
taken (Ok r) = Some r

-- the rule that a claim for a link takes; one that doesn't live takes none
abbrev pub claimed_rule : Plan → Options → World → ℕ → Option ℕ
claimed_rule P O w k = if is_live O w.moves k then taken (claim_of P O w.moves None k) else None

-- the number as that of a link
abbrev pub link_no : ℕ → LinkNo
link_no k = record { 0 = k }

-- the next attempt's start
abbrev pub start_of : World → ℕ → ℕ → Record
start_of w k r = started_as w.moves (rule_no r) 0 (link_no k)

-- the attempt that a record starts, or none's
abbrev pub attempt_in : Record → AttemptNo
attempt_in (records.Started moment rule attempt link) = attempt
attempt_in _ = record { 0 = 0 }

-- what a claim that takes this rule logs
abbrev pub claim_logged : World → ℕ → Option ℕ → World
claim_logged w k None = w
claim_logged w k (Some r) = logged w (start_of w k r)

-- A claim that takes this rule: the record stands before anything is sent.
abbrev pub claims : Plan → World → ℕ → Option ℕ → World
claims P w k None = w
claims P w k (Some r) = sent_out P (claim_logged w k (Some r)) k (attempt_in (start_of w k r))

-- ---- ends of attempts

-- a content as it is logged
abbrev pub row_for : List ℕ → Content
row_for content = record { size = length content; digest = record { 0 = sha256 content } }

-- the attempt of a rule is closed by its outcome
abbrev pub closed_as : Plan → World → ℕ → AttemptNo → Outcome → World
closed_as P w r attempt (outcomes.Success outs) =
    with_files (logged w (records.Done 0 (rule_no r) attempt (map row_for outs)))
    (with_contents w.contents (makes P r) outs)
closed_as P w r attempt (outcomes.Failed why) =
    logged w (records.Failed 0 (rule_no r) attempt why)
closed_as P w r attempt outcomes.NotRun = logged w (records.Lost 0 (rule_no r) attempt)

-- the same where the rule runs with the attempt; else nothing changes
abbrev pub closed_at : Plan → World → AttemptNo → Outcome → Option ℕ → World
closed_at P w attempt outcome None = w
closed_at P w attempt outcome (Some r) =
    if runs P (records_in w) r attempt.0 then closed_as P w r attempt outcome else w

-- an attempt has ended so
abbrev pub closes : Plan → World → AttemptNo → Outcome → World
closes P w attempt outcome = closed_at P w attempt outcome (rule_at (records_in w) attempt.0)

-- it is this attempt, on this link
abbrev pub is_place : ℕ → ℕ → Place → Bool
is_place a k place = (place.0.0 == a) && (place.1.0 == k)

-- the rule runs with this attempt on this link
abbrev pub runs_at : List Record → ℕ → ℕ → ℕ → Bool
runs_at H a k r = option_map_or (is_place a k) (running_in H r) false

-- the attempt runs on the local place
abbrev pub is_local : List Record → ℕ → Bool
is_local H a = option_map_or (runs_at H a 0) (rule_at H a) false

-- an attempt that runs on the local place ends so
abbrev pub runs_local : Plan → World → AttemptNo → Outcome → World
runs_local P w attempt outcome =
    if is_local (records_in w) attempt.0 then closes P w attempt outcome else w

-- ---- collections and ends

-- these contents but that of file f
abbrev pub without : Contents → ℕ → Contents
without contents f g = if g == f then None else contents g

-- a file is dropped
abbrev pub dropped : World → ℕ → World
dropped w f = with_files (logged w (records.Dropped 0 (file_no f))) (without w.contents f)

-- what a collection of this file logs, where the log has a place
abbrev pub drop_logged : Plan → World → Option ℕ → World
drop_logged P w None = w
drop_logged P w (Some f) = if has_places P (records_in w) 1 then dropped w f else w

-- the file was sent on this link
abbrev pub knows : FileNo → Connection → Bool
knows file c = contains_key (key_of c.session.run file) c.session.known

-- the link on which the file isn't known any more
abbrev pub forgets : FileNo → Connection → Connection
forgets file c =
    record c {
      session = record c.session {
        known = forgotten c.session.known (key_of c.session.run file);
      };
    }

-- the Unlink of a file on a link
abbrev pub unlink_on : FileNo → Connection → Sent
unlink_on file c = down_to c.peer (messages.Unlink (key_of c.session.run file))

-- an Unlink of the file on each link on which it was sent
abbrev pub unlinks : World → FileNo → World
unlinks w file =
    with_connections (sent_more w (map (unlink_on file) (filter (knows file) w.connections)))
    (map (forgets file) w.connections)

-- a collection of this file
abbrev pub collects : Plan → World → Option ℕ → World
collects P w None = w
collects P w (Some f) =
    if has_places P (records_in w) 1 then unlinks (dropped w f) (file_no f) else w

-- an end of this kind
abbrev pub ends_as : World → Option EndKind → World
ends_as w None = w
ends_as w (Some kind) = logged w (records.Ended 0 kind)

-- an end; a second one changes nothing
abbrev pub ends : Plan → Options → World → World
ends P O w = ends_as w (logged_end P O w.moves None)

-- ---- workers

-- a worker of this home steps, and sends what it has to
abbrev pub acted : World → ℕ → Home → Machine → List Start → Acted → World
acted w p home machine jobs did =
    sent_more (with_member w p (Works home (stepped machine jobs did)))
    (map (told_to (party_of home) p) did.acts.send)

-- a message comes to a worker from its home
abbrev pub works_on : World → ℕ → Home → Machine → Message → World
works_on w p home machine message =
    acted w p home machine machine.jobs (hears machine.worker message)

-- a job of a worker ends so, and is reported
abbrev pub ran : World → ℕ → Home → Machine → Outcome → Option Start → World
ran w p home machine outcome None = w
ran w p home machine outcome (Some s) =
    acted w p home machine (without_job s.attempt machine.jobs)
    (reports machine.worker s.attempt outcome)

-- the least job of a worker that isn't gone ends so
abbrev pub ran_on : World → ℕ → Outcome → Option Member → World
ran_on w p outcome None = w
ran_on w p outcome (Some (Works home machine)) =
    if machine.gone then w else ran w p home machine outcome (least_job machine.jobs)
ran_on w p outcome (Some (Leads lead)) = w

-- ---- foremen

-- a foreman sends what it has to, and leaves the link that it is to leave
abbrev pub carried : World → ℕ → ForemanActs → World
carried w f acts =
    sent_more (with_peers w (left_by w.peers f acts.leave)) (led_sends w.peers f acts)

-- a foreman steps, and does what it has to
abbrev pub led : World → ℕ → Lead → Led → World
led w f lead did = carried (with_member w f (Leads (stepped_lead lead did))) f did.acts

-- ---- messages to peers

-- A message of the master comes to a peer. A worker of a foreman hears none.
abbrev pub to_member : World → ℕ → Message → Member → World
to_member w p message (Works AtMaster machine) = works_on w p AtMaster machine message
to_member w p message (Works (AtForeman f link) machine) = w
to_member w p message (Leads lead) = led w p lead (hears_up lead.foreman message)

-- the same, to a peer that has a session
abbrev pub to_peer : World → ℕ → Message → Option Connection → Option Member → World
to_peer w p message None member = w
to_peer w p message (Some c) None = w
to_peer w p message (Some c) (Some member) = to_member w p message member

-- a message of a foreman comes to a worker, if it is the worker's home and there is a session
abbrev pub from_foreman : World → ℕ → ℕ → Message → Home → Machine → World
from_foreman w f p message AtMaster machine = w
from_foreman w f p message (AtForeman g None) machine = w
from_foreman w f p message (AtForeman g (Some k)) machine =
    if g == f then works_on w p (AtForeman g (Some k)) machine message else w

-- a message comes to a foreman over this link, if there is one
abbrev pub from_worker : World → ℕ → Message → Lead → Option LinkNo → World
from_worker w f message lead None = w
from_worker w f message lead (Some k) = led w f lead (hears_down lead.foreman k message)

-- a message of one peer comes to another
abbrev pub to_other : World → ℕ → ℕ → Message → Option Member → World
to_other w p q message None = w
to_other w p q message (Some (Works home machine)) = from_foreman w p q message home machine
to_other w p q message (Some (Leads lead)) =
    from_worker w q message lead (link_at q (slice_get w.peers p))

-- ---- messages to the master

-- how the attempt ended that a message tells of; another message tells of none that ran
abbrev pub outcome_in : Message → Outcome
outcome_in (messages.Done attempt outcome) = outcome
outcome_in _ = outcomes.NotRun

-- the end of an attempt that a word tells of, with the contents that its message carries
abbrev pub end_in : Message → Word → Option Report
end_in message (words.Joined total largest cache) = None
end_in message (words.Changed total largest cache) = None
end_in message (words.Finish attempt) =
    Some (record { attempt = attempt; outcome = outcome_in message })
end_in message (words.Fail attempt why) =
    Some (record { attempt = attempt; outcome = outcomes.Failed why })
end_in message (words.Lose attempt) =
    Some (record { attempt = attempt; outcome = outcomes.NotRun })
end_in message (words.PutAgain attempt files) = None
end_in message (words.Stale attempt) = None

-- what the end of an attempt logs
abbrev pub end_logged : Plan → World → Option Report → World
end_logged P w None = w
end_logged P w (Some report) = closes P w report.attempt report.outcome

-- the link offers something else from now on, where a change may be made
abbrev pub changes : World → Connection → Amounts → Amounts → ℕ → World
changes w c total largest cache =
    if has_join_room w.moves then moved w (moves.Changed (link_no c.link) total largest cache)
    else w

-- the inputs are put once more, and the task is sent again
abbrev pub puts_again : World → Connection → List FileNo → Option Task → World
puts_again w c files None = w
puts_again w c files (Some t) = sent_more w (puts_and_task w c.peer files t)

-- what a word asks of the master beside the end of an attempt
abbrev pub follows : Plan → World → Connection → Word → World
follows P w c (words.Joined total largest cache) = w
follows P w c (words.Changed total largest cache) = changes w c total largest cache
follows P w c (words.Finish attempt) = w
follows P w c (words.Fail attempt why) = w
follows P w c (words.Lose attempt) = w
follows P w c (words.PutAgain attempt files) =
    puts_again w c files (task_at P (records_in w) attempt)
follows P w c (words.Stale attempt) = w

-- What a message logs, by what its session answers.
abbrev pub answer_logged : Plan → World → Message → Result Word SessionFault → World
answer_logged P w message (Err why) = w
answer_logged P w message (Ok word) = end_logged P w (end_in message word)

-- What the master does on a message, by what its session answers; an unexpected one changes nothing
-- else.
abbrev pub answered : Plan → World → Connection → Message → Result Word SessionFault → World
answered P w c message (Err why) = w
answered P w c message (Ok word) = follows P (end_logged P w (end_in message word)) c word

-- the session has heard the message, and the master does what it means
abbrev pub heard : Plan → World → Connection → Message → Told → World
heard P w c message did = answered P (with_session w c.link did.state) c message did.answer

-- a message comes to the master from a peer that has a session
abbrev pub to_master : Plan → World → Message → Option Connection → World
to_master P w message None = w
to_master P w message (Some c) = heard P w c message (told c.session message)

-- a message comes to its receiver, in the session between its two ends
abbrev pub comes : Plan → World → Party → Party → Message → World
comes P w Master (Peer p) message =
    to_peer w p message (find (at_peer p) w.connections) (slice_get w.peers p)
comes P w (Peer p) Master message = to_master P w message (find (at_peer p) w.connections)
comes P w Master Master message = w
comes P w (Peer p) (Peer q) message = to_other w p q message (slice_get w.peers q)

-- a message of the bag, which stays there, is delivered
abbrev pub delivered : Plan → World → Option Sent → World
delivered P w None = w
delivered P w (Some sent) = comes P w sent.from sent.to sent.message

-- what a message logs that comes over this link
abbrev pub message_logged : Plan → World → Message → Option Connection → World
message_logged P w message None = w
message_logged P w message (Some c) =
    answer_logged P w message (told c.session message).answer

-- what a message logs at its receiver
abbrev pub coming_logged : Plan → World → Party → Party → Message → World
coming_logged P w (Peer p) Master message =
    message_logged P w message (find (at_peer p) w.connections)
coming_logged P w (Peer p) (Peer q) message = w
coming_logged P w Master to message = w

-- what a delivery logs
abbrev pub delivery_logged : Plan → World → Option Sent → World
delivery_logged P w None = w
delivery_logged P w (Some sent) = coming_logged P w sent.from sent.to sent.message

-- ---- links that come and go

-- a rule that runs loses its attempt
abbrev pub loses_rule : Plan → World → ℕ → World
loses_rule P w r =
    option_map_or (λ place. closed_at P w place.0 outcomes.NotRun (Some r))
    (running_in (records_in w) r) w

-- all that runs on a link is lost
abbrev pub loses : Plan → World → ℕ → World
loses P w k = fold (loses_rule P) w (running_on P (records_in w) k)

-- the link leaves, and its session ends
abbrev pub leaves : World → ℕ → Option Connection → World
leaves w k None = w
leaves w k (Some c) =
    with_connections (moved w (moves.Left (link_no k)))
    (filter (λ c. not (at_link k c)) w.connections)

-- a link is lost; of the local place only what runs there
abbrev pub loses_link : Plan → World → ℕ → World
loses_link P w k = leaves (loses P w k) k (find (at_link k) w.connections)

-- a foreman loses a link
abbrev pub loses_below : World → ℕ → LinkNo → Option Member → World
loses_below w f k None = w
loses_below w f k (Some (Works home machine)) = w
loses_below w f k (Some (Leads lead)) = led w f lead (loses_worker lead.foreman k)

-- A worker is gone. A foreman where it had a link loses that link.
abbrev pub goes_from : World → ℕ → Home → Machine → World
goes_from w p AtMaster machine = with_member w p (Works AtMaster (gone_worker machine))
goes_from w p (AtForeman f None) machine =
    with_member w p (Works (AtForeman f None) (gone_worker machine))
goes_from w p (AtForeman f (Some k)) machine =
    let gone : World = with_member w p (Works (AtForeman f None) (gone_worker machine)) in
    loses_below gone f k (slice_get gone.peers f)

-- A peer is gone. With a foreman its workers' links there end.
abbrev pub goes : World → ℕ → Option Member → World
goes w p None = w
goes w p (Some (Works home machine)) = goes_from w p home machine
goes w p (Some (Leads lead)) =
    with_peers w (cut_where (is_under p) (slice_set w.peers p (Leads (gone_lead lead))))

-- the link of a peer is lost, where it has one
abbrev pub parts : Plan → World → Option Connection → World
parts P w None = w
parts P w (Some c) = loses_link P w c.link

-- a peer's link is lost, and it is gone
abbrev pub evicts : Plan → World → ℕ → World
evicts P w p =
    let parted : World = parts P w (find (at_peer p) w.connections) in
    goes parted p (slice_get parted.peers p)

-- The session of a run in which the first message is heard and nothing was sent. Of the session to
-- begin with nothing is left.
abbrev pub greeted : State → ℕ → Message → State
greeted fresh run message =
    (greets (record fresh { run = run; known = []; attempts = [] }) message).state

-- a peer's session at the master begins, and its hello with these amounts is heard at once
abbrev pub linked : World → ℕ → Amounts → Amounts → ℕ → World
linked w p total largest cache =
    let k : ℕ = next_link w.moves in
    let session : State =
    greeted w.fresh (run_of (records_in w)) (messages.Hello total largest cache) in
    with_connections (moved w (moves.Joined (link_no k) total largest cache))
    (w.connections ++ record { link = k; peer = p; session = session } ∷ [])

-- the same of a worker
abbrev pub connected : World → ℕ → Worker → World
connected w p worker = linked w p worker.total worker.total worker.cache.cap

-- the same of a foreman, which states what its workers have together
abbrev pub connected_lead : World → ℕ → Foreman → World
connected_lead w p f =
    linked w p (each_amount (λ amount. total_by amount f.links))
    (each_amount (λ amount. largest_by amount f.links)) f.cache.cap

-- a worker's session at a foreman begins, and its hello is heard at once
abbrev pub welcomed : World → ℕ → Lead → Worker → World
welcomed w f lead worker =
    led w f (with_one_more lead) (hears_down lead.foreman (next_below lead) (hello_of worker))

-- with one more peer
abbrev pub with_more : World → Member → World
with_more w member = with_peers w (w.peers ++ member ∷ [])

-- a further peer gets a number
abbrev pub has_number : World → Bool
has_number w = nat_lt (length w.peers) most_peers

-- a new worker comes to a foreman
abbrev pub comes_to : World → ℕ → Worker → Option Member → World
comes_to w f worker None = w
comes_to w f worker (Some (Works home machine)) = w
comes_to w f worker (Some (Leads lead)) =
    if is_open lead && has_number w
    then welcomed (with_more w (at_next f lead (new_machine worker))) f lead worker else w

-- an earlier worker comes to its foreman again
abbrev pub back_to : World → ℕ → ℕ → Machine → Option Member → World
back_to w p f machine None = w
back_to w p f machine (Some (Works home other)) = w
back_to w p f machine (Some (Leads lead)) =
    if is_open lead
    then welcomed (with_member w p (at_next f lead machine)) f lead machine.worker else w

-- an earlier worker comes again to where it was, if it has no session there
abbrev pub back_home : World → ℕ → Home → Machine → World
back_home w p AtMaster machine = connected w p machine.worker
back_home w p (AtForeman f (Some k)) machine = w
back_home w p (AtForeman f None) machine = back_to w p f machine (slice_get w.peers f)

-- an earlier peer that isn't gone comes again to where it was
abbrev pub back : World → ℕ → Member → World
back w p (Works home machine) = if machine.gone then w else back_home w p home machine
back w p (Leads lead) = if lead.gone then w else connected_lead w p lead.foreman

-- an earlier peer comes again, if it isn't gone and has no session
abbrev pub comes_again : World → ℕ → Option Connection → Option Member → World
comes_again w p (Some c) member = w
comes_again w p None None = w
comes_again w p None (Some member) = back w p member

-- who joins
abbrev pub joins : World → Joiner → World
joins w (joiners.Worker total cache) =
    let worker : Worker = new_worker total cache in
    if has_number w
    then connected (with_more w (Works AtMaster (new_machine worker))) (length w.peers) worker
    else w
joins w (joiners.Foreman cache) =
    if has_number w
    then linked (with_more w (Leads (new_lead cache))) (length w.peers) nothing nothing 0
    else w
joins w (joiners.WorkerAt f total cache) =
    comes_to w f (new_worker total cache) (slice_get w.peers f)
joins w (joiners.Again p) =
    comes_again w p (find (at_peer p) w.connections) (slice_get w.peers p)

-- who joins comes to a foreman, of which the desk isn't told
abbrev pub comes_below : World → Joiner → Bool
comes_below w (joiners.Worker total cache) = false
comes_below w (joiners.Foreman cache) = false
comes_below w (joiners.WorkerAt f total cache) = true
comes_below w (joiners.Again p) = is_below (slice_get w.peers p)

-- ---- crashes and resumes

-- what a cut leaves of its event: the one record that it logs, with its files
abbrev pub cut_short : Plan → Options → World → Cut → Outcome → World
cut_short P O w cuts.Nothing outcome = w
cut_short P O w (cuts.Claim link) outcome =
    claim_logged w link.0 (claimed_rule P O w link.0)
cut_short P O w (cuts.RunLocal attempt) outcome = runs_local P w attempt outcome
cut_short P O w cuts.Collect outcome = drop_logged P w (wanted P O.mode (records_in w))
cut_short P O w cuts.End outcome = ends P O w
cut_short P O w (cuts.Deliver n) outcome = delivery_logged P w (slice_get w.bag n)
cut_short P O w (cuts.Lose attempt) outcome = closes P w attempt outcomes.NotRun

-- the contents of the present files alone
abbrev pub present_only : Plan → List Record → Contents → Contents
present_only P H contents f = if is_present P H f then contents f else None

-- The master as its log leaves it: all its sessions end, links are numbered anew, and contents that
-- aren't present are forgotten. The sessions of foremen and their workers stay.
abbrev pub stopped : Plan → World → World
stopped P w = record {
  moves = map moves.Logged (records_in w);
  contents = present_only P (records_in w) w.contents;
  connections = [];
  peers = w.peers;
  bag = w.bag;
  up = false;
  fresh = w.fresh;
}

-- the master runs
abbrev pub going_on : World → World
going_on w = record w { up = true }

-- the record of a resume
abbrev pub resumption : Options → List Record → Record
resumption O H = records.Resumed 0 (next_run H) O.retries O.limit

-- a resume, where its record may stand
abbrev pub resumes : Plan → Options → World → World
resumes P O w =
    let entry : Record = resumption O (records_in w) in
    if is_allowed P (plan_digest P) (records_in w) entry
    then going_on (logged (stopped P w) entry) else w

-- ---- events

-- While the master runs. The outcome is that of the job that the event runs, if it runs one. An
-- event that isn't enabled changes nothing.
abbrev pub happens_up : Plan → Options → World → WorldEvent → Outcome → World
happens_up P O w (events.Join joiner) outcome =
    if comes_below w joiner || is_none (join_refusal O w.moves) then joins w joiner else w
happens_up P O w (events.Claim link) outcome = claims P w link.0 (claimed_rule P O w link.0)
happens_up P O w (events.RunLocal attempt) outcome = runs_local P w attempt outcome
happens_up P O w events.Collect outcome = collects P w (wanted P O.mode (records_in w))
happens_up P O w events.End outcome = ends P O w
happens_up P O w (events.Deliver n) outcome = delivered P w (slice_get w.bag n)
happens_up P O w (events.LoseLink link) outcome = loses_link P w link.0
happens_up P O w (events.Evict p) outcome = evicts P w p
happens_up P O w (events.Run p) outcome = ran_on w p outcome (slice_get w.peers p)
happens_up P O w (events.Crash cut) outcome = stopped P (cut_short P O w cut outcome)
happens_up P O w events.Resume outcome = resumes P O w

-- From a crash to a resume only peers act.
abbrev pub happens_down : Plan → Options → World → WorldEvent → Outcome → World
happens_down P O w (events.Evict p) outcome = evicts P w p
happens_down P O w (events.Run p) outcome = ran_on w p outcome (slice_get w.peers p)
happens_down P O w events.Resume outcome = resumes P O w
happens_down P O w _ outcome = w

-- What an event makes of the world.
abbrev pub happens : Plan → Options → World → WorldEvent → Outcome → World
happens P O w e outcome =
    if w.up then happens_up P O w e outcome else happens_down P O w e outcome

-- the job that an event runs, if it runs one
abbrev pub job_run : Plan → World → WorldEvent → Option Job
job_run P w (events.RunLocal attempt) = job_at P w attempt
job_run P w (events.Crash (cuts.RunLocal attempt)) = job_at P w attempt
job_run P w (events.Run p) = next_job (slice_get w.peers p)
job_run P w _ = None
