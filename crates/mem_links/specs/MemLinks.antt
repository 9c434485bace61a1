-- Links in memory, by the steps that they take.
use Rattle.std.specs.Prelude.{◌≡◌, ℕ, ◌+◌, Bool, true, false, List, [], ◌∷◌, ◌++◌}
use Rattle.std.specs.Prelude.{Option, Some, None, Result, Ok, Err}
use Rattle.flow_types.specs.declared.numbers.Amounts.{Amounts}
use Rattle.outside.specs.declared.fault.Fault.{Fault}
use Rattle.outside.specs.declared.fault.Fault.TheVariants as faults
use Rattle.links.specs.declared.passing.Got.{Got}
use Rattle.links.specs.declared.passing.Got.TheVariants as got
use Rattle.links.specs.declared.passing.Passed.{Passed}
use Rattle.links.specs.declared.passing.Passed.TheVariants as passed
use Rattle.mem_links.specs.declared.mem_link.LinkStep.{LinkStep}
use Rattle.mem_links.specs.declared.mem_link.LinkStep.TheVariants as steps
use Rattle.mem_links.specs.Servers.{Hears, ServerState, given, hello, new_server}

-- The steps to come, what passed, the newest first, the counts, and what it serves, if it does.
pub record LinkState : Type 0 where
  pub steps : List LinkStep
  pub history : List Passed
  pub closed : Bool
  pub faults : ℕ
  pub idles : ℕ
  pub server : Option ServerState

-- over which nothing has passed
abbrev pub fresh_link : List LinkStep → Option ServerState → LinkState
fresh_link steps server = record {
  steps = steps;
  history = [];
  closed = false;
  faults = 0;
  idles = 0;
  server = server;
}

-- a link of these steps alone, over which nothing has passed
abbrev pub new_link : List LinkStep → LinkState
new_link steps = fresh_link steps None

-- a link that serves, and over which nothing has passed: its hello is to be given
abbrev pub serving_link : Amounts → ℕ → LinkState
serving_link total cache =
    fresh_link (given (hello total cache ∷ [])) (Some (new_server total cache))

-- the first step lets a send fail
abbrev pub awaits_send : List LinkStep → Bool
awaits_send (steps.FailSend ∷ rest) = true
awaits_send _ = false

-- the first step is for another call than recv
abbrev pub awaits_call : List LinkStep → Bool
awaits_call (steps.FailSend ∷ rest) = true
awaits_call (steps.Behind ∷ rest) = true
awaits_call (steps.FailFlush ∷ rest) = true
awaits_call _ = false

-- the first step is more than that nothing comes
abbrev pub has_news : List LinkStep → Bool
has_news (steps.Give (b ∷ bs) ∷ rest) = true
has_news (steps.Close ∷ rest) = true
has_news (steps.Fail ∷ rest) = true
has_news _ = false

-- how many bytes wait to go out
abbrev pub waits : List LinkStep → ℕ
waits (steps.Behind ∷ rest) = 1
waits (steps.FailFlush ∷ rest) = 1
waits _ = 0

-- the bytes that the first step gives, if it gives any
abbrev pub next_given : List LinkStep → Option (List ℕ)
next_given (steps.Give [] ∷ rest) = None
next_given (steps.Give (b ∷ bs) ∷ rest) = Some (b ∷ bs)
next_given _ = None

-- it was idle, or the count of idles is at its last value
abbrev pub Idles : LinkState → Result Got Fault → LinkState → Type 0
Idles old (Ok answer) new = (answer ≡ got.Idle) × (new ≡ record old { idles = old.idles + 1 })
Idles old (Err fault) new = (fault ≡ faults.Memory) × (new ≡ old)

-- the bytes were handed out, or nothing changed
abbrev pub HandsOut : List ℕ → List LinkStep → LinkState → Result Got Fault → LinkState → Type 0
HandsOut bytes rest old (Ok answer) new = (answer ≡ got.Piece bytes)
    × (new ≡ record old { steps = rest; history = passed.Received bytes ∷ old.history; idles = 0 })
HandsOut bytes rest old (Err fault) new = (fault ≡ faults.Memory) × (new ≡ old)

-- the failure was counted, or the count is at its last value
abbrev pub Fails : LinkState → Result Got Fault → LinkState → Type 0
Fails old (Ok answer) new = ⊥
Fails old (Err faults.Failed) new = new ≡ record old { faults = old.faults + 1 }
Fails old (Err faults.Memory) new = new ≡ old

-- What a call of recv answers, and leaves.
abbrev pub Takes : List LinkStep → LinkState → Result Got Fault → LinkState → Type 0
Takes [] old result new = Idles old result new
Takes (steps.Give [] ∷ rest) old result new = Idles (record old { steps = rest }) result new
Takes (steps.Give (b ∷ bs) ∷ rest) old result new = HandsOut (b ∷ bs) rest old result new
Takes (steps.Idle ∷ rest) old result new = Idles (record old { steps = rest }) result new
Takes (steps.Close ∷ rest) old result new =
    (result ≡ Ok got.Closed) × (new ≡ record old { steps = rest; closed = true })
Takes (steps.Fail ∷ rest) old result new = Fails (record old { steps = rest }) result new
Takes (steps.FailSend ∷ rest) old result new = Idles old result new
Takes (steps.Behind ∷ rest) old result new = Idles old result new
Takes (steps.FailFlush ∷ rest) old result new = Idles old result new

-- the steps behind the first
abbrev pub behind : List LinkStep → List LinkStep
behind [] = []
behind (step ∷ rest) = rest

-- The bytes were sent. A server hears them, and what it gives for them stands behind the steps.
abbrev pub Sends : Option ServerState → List ℕ → LinkState → LinkState → Type 0
Sends None bytes old new =
    new ≡ record old { history = passed.Sent bytes ∷ old.history; idles = 0 }
Sends (Some server) bytes old new = (after : ServerState) × (gives : List LinkStep)
    × Hears server bytes after gives
    × (new ≡ record old {
      steps = old.steps ++ gives;
      history = passed.Sent bytes ∷ old.history;
      idles = 0;
      server = Some after;
    })

-- What a call of send answers, and leaves. It fails where a step says so.
abbrev pub SendsBy : {T : Type 0} → Bool → List ℕ → LinkState → Result T Fault → LinkState → Type 0
SendsBy true bytes old (Ok x) new = ⊥
SendsBy true bytes old (Err faults.Failed) new =
    new ≡ record old { steps = behind old.steps; faults = old.faults + 1 }
SendsBy true bytes old (Err faults.Memory) new = new ≡ record old { steps = behind old.steps }
SendsBy false bytes old (Ok x) new = Sends old.server bytes old new
SendsBy false bytes old (Err fault) new = (fault ≡ faults.Memory) × (new ≡ old)

-- the failure was counted, or the count is at its last value
abbrev pub FailsFlush : Result ℕ Fault → LinkState → LinkState → Type 0
FailsFlush (Ok left) old new = ⊥
FailsFlush (Err faults.Failed) old new = new ≡ record old { faults = old.faults + 1 }
FailsFlush (Err faults.Memory) old new = new ≡ old

-- What a call of flush answers, and leaves.
abbrev pub Flushes : List LinkStep → LinkState → Result ℕ Fault → LinkState → Type 0
Flushes (steps.Behind ∷ rest) old result new =
    (result ≡ Ok (waits rest)) × (new ≡ record old { steps = rest })
Flushes (steps.FailFlush ∷ rest) old result new =
    FailsFlush result (record old { steps = rest }) new
Flushes _ old result new = (result ≡ Ok 0) × (new ≡ old)
