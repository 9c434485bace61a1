-- When a link in memory serves, and what follows of it.
use Rattle.std.specs.Prelude.{◌≡◌, ◌≤◌, ℕ, List, [], ◌∷◌, ◌++◌, Option, Some, None, map}
use Rattle.flow_types.specs.declared.flow.Pair.{Pair}
use Rattle.flow_types.specs.declared.job.Failure.{Failure}
use Rattle.flow_types.specs.declared.job.Given.{Given}
use Rattle.flow_types.specs.declared.job.Job.{Job}
use Rattle.flow_types.specs.declared.numbers.Amounts.{Amounts}
use Rattle.flow_types.specs.declared.messages.Message.{Message}
use Rattle.flow_types.specs.Plans.{most_input_bytes}
use Rattle.flow_types.specs.Serial.{Function}
use Rattle.message_forms.specs.Streams.{IsFramed, frames_of}
use Rattle.links.specs.Honesty.{IsAtLeast, IsHonestThroughout, IsOrderly, OffersAtLeast}
use Rattle.links.specs.Passings.{sent_in, received_in}
use Rattle.mem_links.specs.MemLinks.{LinkState}
use Rattle.mem_links.specs.Servers.{Comes, ServerState, answers, given, hello, keys_put}

-- The link gave the hello and the answers to what was sent, or is about to, and nothing else.
pub record IsServing (s : LinkState) : Type 0 where
  pub server : ServerState
  pub serves : s.server ≡ Some server
  pub left : List Message
  pub steps_are : s.steps ≡ given left
  pub heard : List Message
  pub came : Comes (sent_in s.history) heard server.rest
  pub keys_are : server.keys ≡ keys_put heard
  pub gave : List Message
  pub gave_all : received_in s.history ≡ frames_of gave
  pub answered : gave ++ left ≡ hello server.total server.cache ∷ answers [] heard
  pub hello_framed : IsFramed (hello server.total server.cache)

-- Each output of each command is empty.
abbrev pub AreBlank : Function → Type 0
AreBlank gives =
    (command : List ℕ) (env : List Pair) (inputs : List Given) (names : List (List ℕ))
    → gives command env inputs names ≡ map (λ name. []) names

-- The link serves commands that leave each output empty, and has been honest.
pub record IsHonestLink (gives : Function) (may_fail : Job → Failure → Type 0) (s : LinkState)
    : Type 0 where
  pub serves : IsServing s
  pub blank : AreBlank gives
  pub honest : IsHonestThroughout gives may_fail sent_in received_in s.history

-- The same, and what came up is in order.
pub record IsSureLink (gives : Function) (may_fail : Job → Failure → Type 0) (s : LinkState)
    : Type 0 where
  pub honest : IsHonestLink gives may_fail s
  pub orderly : IsOrderly (sent_in s.history) (received_in s.history)

-- A server has at least these amounts, and room for any job's inputs.
abbrev pub HasAtLeast : Amounts → Option ServerState → Type 0
HasAtLeast least None = ⊥
HasAtLeast least (Some server) =
    IsAtLeast least server.total × (most_input_bytes ≤ server.cache)

-- The link serves with so much, and has said so.
pub record OffersLink (least : Amounts) (s : LinkState) : Type 0 where
  pub serves : IsServing s
  pub enough : HasAtLeast least s.server
  pub offered : OffersAtLeast least (received_in s.history)
