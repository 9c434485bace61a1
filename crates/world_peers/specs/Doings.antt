-- Steps of peers, each as the peer after it and what it asks for.
use Rattle.std.specs.Prelude.{◌≡◌, ℕ, Bool, true, false, length, nat_lt, ◌==◌, List, Option, Some, None, if◌then◌else◌}
use Rattle.flow_types.specs.declared.numbers.LinkNo.{LinkNo}
use Rattle.flow_types.specs.declared.numbers.Amounts.{Amounts}
use Rattle.flow_types.specs.declared.job.Job.{Job}
use Rattle.flow_types.specs.declared.job.Outcome.{Outcome}
use Rattle.flow_types.specs.declared.messages.Message.{Message}
use Rattle.flow_types.specs.declared.messages.Message.TheVariants as messages
use Rattle.worker_core.specs.Workers.{hears}
use Rattle.foreman_core.specs.Foremen.{each_amount, largest_by, total_by}
use Rattle.foreman_core.specs.Steps.{Led, hears_down, hears_up, loses as loses_worker}
use Rattle.world_peers.specs.declared.doing.Doing.{Doing}
use Rattle.world_peers.specs.declared.doing.Doing.TheVariants as doings
use Rattle.world_peers.specs.declared.doing.Parting.{Parting}
use Rattle.world_peers.specs.declared.doing.Parting.TheVariants as partings
use Rattle.world_peers.specs.declared.doing.Returning.{Returning}
use Rattle.world_peers.specs.declared.doing.Returning.TheVariants as returnings
use Rattle.world_peers.specs.declared.member.Home.{Home}
use Rattle.world_peers.specs.declared.member.Home.TheVariants.{AtForeman, AtMaster}
use Rattle.world_peers.specs.declared.member.Member.{Member}
use Rattle.world_peers.specs.declared.member.Member.TheVariants.{Leads, Works}
use Rattle.world_peers.specs.Runs.{RunsNext}
use Rattle.world_peers.specs.Peers.{Lead, Machine, gone_lead, gone_worker, is_open, least_job, next_below, with_one_more, stepped, stepped_lead}
use Rattle.world_peers.specs.Company.{left_home, most_peers, party_of}

-- a peer after a step, and what the step asks for
pub record Stepped : Type 0 where
  pub member : Member
  pub doing : Doing

-- no step
abbrev pub still : Member → Stepped
still member = record { member = member; doing = doings.Nothing }

-- a worker's step at a message
abbrev pub heard_by : Home → Machine → Message → Stepped
heard_by home machine message = record {
  member = Works home (stepped machine machine.jobs (hears machine.worker message));
  doing = doings.Tells (party_of home) (hears machine.worker message).acts.send;
}

-- a foreman's step
abbrev pub led_by : Lead → Led → Stepped
led_by lead did =
    record { member = Leads (stepped_lead lead did); doing = doings.Carries did.acts }

-- a peer's step at a message of the master
abbrev pub hears_master : Member → Message → Stepped
hears_master (Works AtMaster machine) message = heard_by AtMaster machine message
hears_master (Works (AtForeman f link) machine) message = still (Works (AtForeman f link) machine)
hears_master (Leads lead) message = led_by lead (hears_up lead.foreman message)

-- a worker's step at a message of a foreman
abbrev pub hears_foreman : ℕ → Home → Machine → Message → Stepped
hears_foreman f AtMaster machine message = still (Works AtMaster machine)
hears_foreman f (AtForeman g None) machine message = still (Works (AtForeman g None) machine)
hears_foreman f (AtForeman g (Some k)) machine message =
    if g == f then heard_by (AtForeman g (Some k)) machine message
    else still (Works (AtForeman g (Some k)) machine)

-- a foreman's step at a message over this link, if there is one
abbrev pub hears_worker : Lead → Option LinkNo → Message → Stepped
hears_worker lead None message = still (Leads lead)
hears_worker lead (Some k) message = led_by lead (hears_down lead.foreman k message)

-- a peer's step at a message of another, which has this link there, if it is one of its workers
abbrev pub hears_peer : Member → ℕ → Option LinkNo → Message → Stepped
hears_peer (Works home machine) p link message = hears_foreman p home machine message
hears_peer (Leads lead) p link message = hears_worker lead link message

-- a step and its member, where it was done
abbrev pub IsStep : Stepped → Member → Doing → Type 0
IsStep step new doing = (new ≡ step.member) × (doing ≡ step.doing)

-- ---- peers that are gone

-- what is to be done where a worker with this home is gone
abbrev pub home_parting : Home → Parting
home_parting AtMaster = partings.Nothing
home_parting (AtForeman f None) = partings.Nothing
home_parting (AtForeman f (Some k)) = partings.Below f k

-- a peer that is gone, without a link at a foreman
abbrev pub departed : Member → Member
departed (Works home machine) = Works (left_home home) (gone_worker machine)
departed (Leads lead) = Leads (gone_lead lead)

-- what is to be done where it is gone
abbrev pub parting_of : Member → Parting
parting_of (Works home machine) = home_parting home
parting_of (Leads lead) = partings.Lead

-- a foreman's step at a lost link; of another peer no step
abbrev pub loses_at : Member → LinkNo → Stepped
loses_at (Works home machine) k = still (Works home machine)
loses_at (Leads lead) k = led_by lead (loses_worker lead.foreman k)

-- a foreman's step where a worker with these amounts and this cache comes over its next link
abbrev pub welcomes : Member → Amounts → ℕ → Stepped
welcomes (Works home machine) total cache = still (Works home machine)
welcomes (Leads lead) total cache =
    led_by (with_one_more lead)
    (hears_down lead.foreman (next_below lead) (messages.Hello total total cache))

-- ---- runs

-- A worker that is gone runs nothing; another runs its least job, where it has one.
abbrev pub RunsUnless :
    (Job → Outcome → Type 0) → Bool → Home → Machine → Member → Doing → Type 0
RunsUnless may_end true home machine new doing = IsStep (still (Works home machine)) new doing
RunsUnless may_end false home machine new doing =
    (after : Machine) × ((sent : List Message)
    × RunsNext may_end machine (least_job machine.jobs) sent after
    × (new ≡ Works home after) × (doing ≡ doings.Tells (party_of home) sent))

-- a peer's run, which a foreman hasn't
abbrev pub RunsMember : (Job → Outcome → Type 0) → Member → Member → Doing → Type 0
RunsMember may_end (Works home machine) new doing =
    RunsUnless may_end machine.gone home machine new doing
RunsMember may_end (Leads lead) new doing = IsStep (still (Leads lead)) new doing

-- ---- peers that come, and come again

-- the number of one more peer, where one is left
abbrev pub next_number : List Member → Option ℕ
next_number peers = if nat_lt (length peers) most_peers then Some (length peers) else None

-- the number of the next link of a foreman to which somebody may come
abbrev pub next_open : Lead → Option LinkNo
next_open lead = if is_open lead then Some (next_below lead) else None

-- the same of a peer, where it is a foreman
abbrev pub next_at : Option Member → Option LinkNo
next_at None = None
next_at (Some (Works home machine)) = None
next_at (Some (Leads lead)) = next_open lead

-- to which home a worker comes again
abbrev pub home_returning : Home → Machine → Returning
home_returning AtMaster machine =
    returnings.ToMaster machine.worker.total machine.worker.total machine.worker.cache.cap
home_returning (AtForeman f None) machine = returnings.ToForeman f
home_returning (AtForeman f (Some k)) machine = returnings.Nowhere

-- where a peer comes to again that has no link of the master
abbrev pub returning_of : Member → Returning
returning_of (Works home machine) =
    if machine.gone then returnings.Nowhere else home_returning home machine
returning_of (Leads lead) =
    if lead.gone then returnings.Nowhere
    else returnings.ToMaster (each_amount (λ amount. total_by amount lead.foreman.links))
    (each_amount (λ amount. largest_by amount lead.foreman.links)) lead.foreman.cache.cap

-- a worker of a foreman that has this link there
abbrev pub attached : ℕ → LinkNo → Member → Member
attached f k (Works home machine) = Works (AtForeman f (Some k)) machine
attached f k (Leads lead) = Leads lead
