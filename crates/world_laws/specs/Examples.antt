-- Worked worlds: one rule on one worker, or on a foreman's worker, and the chain of three copies on
-- the local place.
use Rattle.std.specs.Prelude.{ℕ, Bool, true, false, List, [], ◌∷◌, ◌++◌, Option, Some, None, replicate, codes, map}
use Rattle.flow_types.specs.declared.plan.Plan.{Plan}
use Rattle.flow_types.specs.declared.numbers.Amounts.{Amounts}
use Rattle.flow_types.specs.declared.job.Outcome.{Outcome}
use Rattle.flow_types.specs.declared.job.Outcome.TheVariants as outcomes
use Rattle.flow_types.specs.declared.records.Record.{Record}
use Rattle.flow_types.specs.declared.records.Record.TheVariants as records
use Rattle.flow_types.specs.Serial.{Contents}
use Rattle.flow_types.specs.Examples.{copy_rule, source_row, made_row}
use Rattle.run_history.specs.declared.options.Mode.{Mode}
use Rattle.run_history.specs.declared.options.Mode.TheVariants as modes
use Rattle.run_history.specs.declared.options.Options.{Options}
use Rattle.link_session.specs.Sessions.{State}
use Rattle.world_laws.specs.declared.events.Cut.TheVariants as cuts
use Rattle.world_laws.specs.declared.events.Joiner.TheVariants as joiners
use Rattle.world_laws.specs.declared.events.WorldEvent.{WorldEvent}
use Rattle.world_laws.specs.declared.events.WorldEvent.TheVariants as events
use Rattle.world_laws.specs.Worlds.{World, happens, link_no, records_in}
use Rattle.world_laws.specs.Reach.{first_world}

-- one rule that makes b of the source a
abbrev pub one_rule : Plan
one_rule = record {
  rules = copy_rule (codes "cp a b") 0 (codes "a") 1 (codes "b") 40 ∷ [];
  files = source_row (codes "a") ∷ made_row (codes "b") 0 true 40 ∷ [];
}

-- what a worker has
abbrev pub worker_amounts : Amounts
worker_amounts = record { cores = 4; memory = 4000; disk = 4000 }

-- options with this mode, on workers or not, and this limit
abbrev pub options : Mode → Bool → Option ℕ → Options
options mode wq limit = record {
  mode = mode;
  limit = limit;
  retries = 0;
  wq = wq;
  local = record { cores = 64; memory = 1000000; disk = 1000000000 };
}

-- a run on workers that collects nothing
abbrev pub remote : Options
remote = options modes.Never true None

-- a local run that collects what nothing needs any more
abbrev pub collecting : Options
collecting = options modes.RefCount false (Some 100)

-- each file has 40 bytes
abbrev pub forty_bytes : Contents
forty_bytes f = Some (replicate 40 7)

-- each job makes one file of 40 bytes
abbrev pub made : Outcome
made = outcomes.Success (replicate 40 7 ∷ [])

-- the world after these events, each job of which ends so
abbrev pub after : Plan → Options → World → List WorldEvent → World
after P O w [] = w
after P O w (e ∷ es) = after P O (happens P O w e made) es

-- the world after these events, from the first on
abbrev pub begun : State → Plan → Options → List WorldEvent → World
begun fresh P O es = after P O (first_world P O forty_bytes fresh) es

-- a new worker
abbrev pub join : WorldEvent
join = events.Join (joiners.Worker worker_amounts 1000)

-- the first worker comes again
abbrev pub again : WorldEvent
again = events.Join (joiners.Again 0)

-- a new foreman
abbrev pub foreman : WorldEvent
foreman = events.Join (joiners.Foreman 1000)

-- a new worker of the first peer, which is a foreman
abbrev pub join_below : WorldEvent
join_below = events.Join (joiners.WorkerAt 0 worker_amounts 1000)

-- a claim for link k
abbrev pub claim : ℕ → WorldEvent
claim k = events.Claim (link_no k)

-- attempt a on the local place
abbrev pub local : ℕ → WorldEvent
local a = events.RunLocal (record { 0 = a })

-- ---- courses

-- The rule goes to a worker, which gets its input and its task and runs it.
abbrev pub run_once : List WorldEvent
run_once = join ∷ claim 1 ∷ events.Deliver 0 ∷ events.Deliver 1 ∷ events.Run 0 ∷ []

-- Its Done comes.
abbrev pub delivered : List WorldEvent
delivered = run_once ++ events.Deliver 2 ∷ []

-- It comes a second time.
abbrev pub delivered_twice : List WorldEvent
delivered_twice = delivered ++ events.Deliver 2 ∷ []

-- A task comes before its input, which is put once more, and the task is sent again.
abbrev pub put_again : List WorldEvent
put_again =
    join ∷ claim 1 ∷ events.Deliver 1 ∷ events.Deliver 2 ∷ events.Deliver 3 ∷ events.Deliver 4
    ∷ events.Run 0 ∷ events.Deliver 5 ∷ events.End ∷ []

-- The master crashes while the worker runs, goes on, and the worker comes again.
abbrev pub resumed : List WorldEvent
resumed =
    join ∷ claim 1 ∷ events.Deliver 0 ∷ events.Deliver 1 ∷ events.Crash cuts.Nothing
    ∷ events.Run 0 ∷ events.Resume ∷ again ∷ claim 1 ∷ []

-- A crash cuts a claim short.
abbrev pub cut_claim : List WorldEvent
cut_claim = join ∷ events.Crash (cuts.Claim (link_no 1)) ∷ []

-- The run goes on, and the rule is claimed anew.
abbrev pub claimed_anew : List WorldEvent
claimed_anew = cut_claim ++ events.Resume ∷ again ∷ claim 1 ∷ []

-- A link is lost while its worker runs; the worker comes again.
abbrev pub link_lost : List WorldEvent
link_lost = join ∷ claim 1 ∷ events.LoseLink (link_no 1) ∷ again ∷ claim 2 ∷ []

-- A foreman joins, and then two workers of its own; its totals come to the master.
abbrev pub staffed : List WorldEvent
staffed = foreman ∷ join_below ∷ join_below ∷ events.Deliver 1 ∷ []

-- The rule goes to the foreman, which hands it on to its first worker.
abbrev pub handed_on : List WorldEvent
handed_on = staffed ++ claim 1 ∷ events.Deliver 2 ∷ events.Deliver 3 ∷ []

-- The worker gets the input and the task, runs it, and tells the foreman, which tells the master.
abbrev pub ran_below : List WorldEvent
ran_below =
    handed_on ++ events.Deliver 4 ∷ events.Deliver 5 ∷ events.Run 1 ∷ events.Deliver 6
    ∷ events.Deliver 7 ∷ []

-- The first worker is gone before it tells anything, and the second one gets the task.
abbrev pub placed_anew : List WorldEvent
placed_anew =
    handed_on ++ events.Deliver 4 ∷ events.Deliver 5 ∷ events.Evict 1 ∷ events.Run 1
    ∷ events.Deliver 7 ∷ events.Deliver 8 ∷ events.Run 2 ∷ events.Deliver 9 ∷ events.Deliver 10
    ∷ []

-- The foreman is gone while its worker runs.
abbrev pub foreman_gone : List WorldEvent
foreman_gone =
    handed_on ++ events.Deliver 4 ∷ events.Deliver 5 ∷ events.Evict 0 ∷ events.Run 1 ∷ []

-- The master crashes while a foreman's worker runs and goes on; the foreman comes again.
abbrev pub foreman_again : List WorldEvent
foreman_again =
    handed_on ++ events.Deliver 4 ∷ events.Deliver 5 ∷ events.Crash cuts.Nothing ∷ events.Run 1
    ∷ events.Resume ∷ again ∷ claim 1 ∷ events.Deliver 6 ∷ []

-- Two rules of the chain are done on the local place.
abbrev pub two_done : List WorldEvent
two_done = claim 0 ∷ local 0 ∷ claim 0 ∷ local 1 ∷ []

-- ---- what is seen

-- what a record is: of an opening or an end its name, of the others a number, and the attempt or
-- the file, and where an attempt starts also its link
abbrev pub said : Record → List ℕ
said (records.Opened moment run retries limit plan sources) = codes "opened"
said (records.Resumed moment run retries limit) = codes "resumed"
said (records.Started moment rule attempt link) = 1 ∷ attempt.0 ∷ link.0 ∷ []
said (records.Done moment rule attempt outs) = 2 ∷ attempt.0 ∷ []
said (records.Failed moment rule attempt why) = 3 ∷ attempt.0 ∷ []
said (records.Lost moment rule attempt) = 4 ∷ attempt.0 ∷ []
said (records.Dropped moment file) = 5 ∷ file.0 ∷ []
said (records.Ended moment kind) = codes "ended"

-- what the records are
abbrev pub history : World → List (List ℕ)
history w = map said (records_in w)

-- attempt a starts on link k
abbrev pub starts : ℕ → ℕ → List ℕ
starts a k = 1 ∷ a ∷ k ∷ []

-- attempt a is done
abbrev pub done : ℕ → List ℕ
done a = 2 ∷ a ∷ []

-- attempt a is lost
abbrev pub lost : ℕ → List ℕ
lost a = 4 ∷ a ∷ []

-- file f is dropped
abbrev pub drops : ℕ → List ℕ
drops f = 5 ∷ f ∷ []

-- two rules of the chain were started and done
abbrev pub two_logged : List (List ℕ)
two_logged = codes "opened" ∷ starts 0 0 ∷ done 0 ∷ starts 1 0 ∷ done 1 ∷ []
