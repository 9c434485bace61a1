-- What a foreman meets: messages from above and from below, and lost links. The newest stands first.
use Rattle.std.specs.Prelude.{◌≡◌, ◌==◌, ◌+◌, ℕ, Bool, false, not, nat_lt, if◌then◌else◌, List, [], ◌∷◌, ◌++◌, ◌||◌, ◌&&◌, length}
use Rattle.flow_types.specs.declared.messages.Message.{Message}
use Rattle.flow_types.specs.declared.messages.Message.TheVariants as messages
use Rattle.flow_types.specs.declared.numbers.Amounts.{Amounts}
use Rattle.flow_types.specs.declared.numbers.LinkNo.{LinkNo}
use Rattle.foreman_core.specs.declared.acts.Down.{Down}
use Rattle.foreman_core.specs.declared.links.Below.{Below}
use Rattle.foreman_core.specs.Foremen.{Foreman, most_links, new_foreman}
use Rattle.foreman_core.specs.Steps.{Led, hears_up, hears_down, loses}
use Rattle.peer_run.specs.Met.{is_bye}
use Rattle.worker_core.specs.Workers.{goes_up}
use Rattle.foreman_run.specs.Lost.{is_hello}

-- what a foreman meets
pub data Met : Type 0 where
  -- a message came from above
  above : Message → Met
  -- a message came from below, over the link of this number
  below : LinkNo → Message → Met
  -- the link of this number was lost
  lost : LinkNo → Met

-- nothing of each amount
abbrev pub nothing : Amounts
nothing = record { cores = 0; memory = 0; disk = 0 }

-- what a foreman says first: it has no worker yet
abbrev pub hello : Message
hello = messages.Hello nothing nothing 0

-- what a foreman does where it meets this
abbrev pub led_by : Foreman → Met → Led
led_by f (above m) = hears_up f m
led_by f (below k m) = hears_down f k m
led_by f (lost k) = loses f k

-- the foreman with such a cache once it met these
abbrev pub foreman_of : ℕ → List Met → Foreman
foreman_of cap [] = new_foreman cap
foreman_of cap (met ∷ past) = (led_by (foreman_of cap past) met).foreman

-- what it says upward by then, its hello first
abbrev pub said_of : ℕ → List Met → List Message
said_of cap [] = hello ∷ []
said_of cap (met ∷ past) = said_of cap past ++ (led_by (foreman_of cap past) met).acts.up

-- what is to go down by then
abbrev pub sent_of : ℕ → List Met → List Down
sent_of cap [] = []
sent_of cap (met ∷ past) = sent_of cap past ++ (led_by (foreman_of cap past) met).acts.down

-- the messages that came from above, the oldest first
abbrev pub heard_of : List Met → List Message
heard_of [] = []
heard_of (above m ∷ past) = heard_of past ++ m ∷ []
heard_of (below k m ∷ past) = heard_of past
heard_of (lost k ∷ past) = heard_of past

-- the messages that came from below, each under its link, the oldest first
abbrev pub told_of : List Met → List Down
told_of [] = []
told_of (above m ∷ past) = told_of past
told_of (below k m ∷ past) = told_of past ++ record { link = k; message = m } ∷ []
told_of (lost k ∷ past) = told_of past

-- the message that ends the work came from above
abbrev pub has_left : List Met → Bool
has_left [] = false
has_left (above m ∷ past) = is_bye m || has_left past
has_left (below k m ∷ past) = has_left past
has_left (lost k ∷ past) = has_left past

-- what comes from above only goes up
abbrev pub goes_wrong : Met → Bool
goes_wrong (above m) = goes_up m
goes_wrong (below k m) = false
goes_wrong (lost k) = false

-- They are in order: nothing is met after Bye, and nothing comes from above that only goes up.
abbrev pub AreInOrder : List Met → Type 0
AreInOrder [] = Unit {0}
AreInOrder (met ∷ past) =
    AreInOrder past × (has_left past ≡ false) × (goes_wrong met ≡ false)

-- whether two numbers are the same, as a number
abbrev pub one_if : ℕ → ℕ → ℕ
one_if a b = if a == b then 1 else 0

-- how often something came over the link of this number, or it was lost
abbrev pub met_under : ℕ → List Met → ℕ
met_under k [] = 0
met_under k (above m ∷ past) = met_under k past
met_under k (below link m ∷ past) = one_if link.0 k + met_under k past
met_under k (lost link ∷ past) = one_if link.0 k + met_under k past

-- how often the link of this number was lost
abbrev pub lost_under : ℕ → List Met → ℕ
lost_under k [] = 0
lost_under k (above m ∷ past) = lost_under k past
lost_under k (below link m ∷ past) = lost_under k past
lost_under k (lost link ∷ past) = one_if link.0 k + lost_under k past

-- Nothing is met of a link once it was lost; so it is lost once at most.
abbrev pub AreOnce : List Met → Type 0
AreOnce [] = Unit {0}
AreOnce (above m ∷ past) = AreOnce past
AreOnce (below link m ∷ past) = AreOnce past × (lost_under link.0 past ≡ 0)
AreOnce (lost link ∷ past) = AreOnce past × (lost_under link.0 past ≡ 0)

-- how many of these workers have the link of this number
abbrev pub there_under : ℕ → List Below → ℕ
there_under k [] = 0
there_under k (b ∷ links) = one_if b.link.0 k + there_under k links

-- a hello came over the link of this number while as many workers lived as may
abbrev pub was_full : ℕ → LinkNo → List Met → Bool
was_full cap k [] = false
was_full cap k (above m ∷ past) = was_full cap k past
was_full cap k (below link m ∷ past) =
    ((link.0 == k.0) && (is_hello m && not (nat_lt (length (foreman_of cap past).links) most_links)))
    || was_full cap k past
was_full cap k (lost link ∷ past) = was_full cap k past

-- what a foreman's links are seen beside: what is to go down by then, its workers, and over which
-- links a hello came while it had as many as may be
pub record Roll : Type 0 where
  pub down : List Down
  pub workers : List Below
  pub full : LinkNo → Bool

-- that of a foreman with such a cache once it met these
abbrev pub roll_of : ℕ → List Met → Roll
roll_of cap past = record {
  down = sent_of cap past;
  workers = (foreman_of cap past).links;
  full = λ k. was_full cap k past;
}
