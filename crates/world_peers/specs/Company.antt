-- The peers of either kind: whom a worker works for, its link at a foreman, and what a foreman sends.
use Rattle.std.specs.Prelude.{ℕ, Bool, true, false, ◌&&◌, List, ◌++◌, ◌==◌, Option, Some, None, if◌then◌else◌, map, filter_map, position}
use Rattle.std.specs.Option.{option_map, option_map_or}
use Rattle.flow_types.specs.declared.numbers.LinkNo.{LinkNo}
use Rattle.flow_types.specs.declared.job.Job.{Job}
use Rattle.foreman_core.specs.declared.acts.Down.{Down}
use Rattle.foreman_core.specs.declared.acts.ForemanActs.{ForemanActs}
use Rattle.world_peers.specs.declared.sent.Party.{Party}
use Rattle.world_peers.specs.declared.sent.Party.TheVariants.{Master, Peer}
use Rattle.world_peers.specs.declared.sent.Sent.{Sent}
use Rattle.world_peers.specs.declared.member.Home.{Home}
use Rattle.world_peers.specs.declared.member.Home.TheVariants.{AtForeman, AtMaster}
use Rattle.world_peers.specs.declared.member.Member.{Member}
use Rattle.world_peers.specs.declared.member.Member.TheVariants.{Leads, Works}
use Rattle.world_peers.specs.Peers.{Lead, Machine, least_job, next_below, told_to, up_from}

-- the end of a link at which a worker's home is
abbrev pub party_of : Home → Party
party_of AtMaster = Master
party_of (AtForeman f link) = Peer f

-- the job that a peer runs next
abbrev pub next_job : Option Member → Option Job
next_job None = None
next_job (Some (Works home machine)) = option_map (λ s. s.job) (least_job machine.jobs)
next_job (Some (Leads lead)) = None

-- it is a worker of this foreman
abbrev pub is_under : ℕ → Member → Bool
is_under f (Works AtMaster machine) = false
is_under f (Works (AtForeman g link) machine) = g == f
is_under f (Leads lead) = false

-- it is the worker at this link of a foreman
abbrev pub is_at : ℕ → LinkNo → Member → Bool
is_at f k (Works AtMaster machine) = false
is_at f k (Works (AtForeman g link) machine) =
    (g == f) && option_map_or (λ j. j.0 == k.0) link false
is_at f k (Leads lead) = false

-- a worker at a foreman, over its next link
abbrev pub at_next : ℕ → Lead → Machine → Member
at_next f lead machine = Works (AtForeman f (Some (next_below lead))) machine

-- a worker's home, without a link at a foreman
abbrev pub left_home : Home → Home
left_home AtMaster = AtMaster
left_home (AtForeman f link) = AtForeman f None

-- a peer that has no link at a foreman
abbrev pub cut_off : Member → Member
cut_off (Works home machine) = Works (left_home home) machine
cut_off (Leads lead) = Leads lead

-- a peer that has no link at a foreman, if it passes
abbrev pub cut_if : (Member → Bool) → Member → Member
cut_if test member = if test member then cut_off member else member

-- the peers, where those that pass have no link at their foreman
abbrev pub cut_where : (Member → Bool) → List Member → List Member
cut_where test peers = map (cut_if test) peers

-- what a foreman sends down goes to the worker at its link, where one is there
abbrev pub sent_down : List Member → ℕ → Down → Option Sent
sent_down peers f down =
    option_map (λ p. told_to (Peer p) f down.message) (position (is_at f down.link) peers)

-- all that a foreman's step sends: what goes up, and then what goes down
abbrev pub led_sends : List Member → ℕ → ForemanActs → List Sent
led_sends peers f acts = map (up_from f) acts.up ++ filter_map (sent_down peers f) acts.down

-- the peers, where the link ends that a foreman leaves
abbrev pub left_by : List Member → ℕ → Option LinkNo → List Member
left_by peers f None = peers
left_by peers f (Some k) = cut_where (is_at f k) peers

-- the link of a worker at this foreman, if it has one there
abbrev pub link_at : ℕ → Option Member → Option LinkNo
link_at f None = None
link_at f (Some (Works AtMaster machine)) = None
link_at f (Some (Works (AtForeman g link) machine)) = if g == f then link else None
link_at f (Some (Leads lead)) = None

-- the peer is a worker of a foreman
abbrev pub is_below : Option Member → Bool
is_below None = false
is_below (Some (Works AtMaster machine)) = false
is_below (Some (Works (AtForeman f link) machine)) = true
is_below (Some (Leads lead)) = false

-- the most peers that are numbered
abbrev pub most_peers : ℕ
most_peers = 4294967296
