-- Worked courses of a foreman.
use Rattle.std.specs.Prelude.{ℕ, zero, suc, List, [], ◌∷◌, map}
use Rattle.flow_types.specs.declared.numbers.Amounts.{Amounts}
use Rattle.flow_types.specs.declared.numbers.AttemptNo.{AttemptNo}
use Rattle.flow_types.specs.declared.numbers.LinkNo.{LinkNo}
use Rattle.flow_types.specs.declared.numbers.Needs.TheVariants as needs
use Rattle.flow_types.specs.declared.job.Task.{Task}
use Rattle.flow_types.specs.declared.messages.Key.{Key}
use Rattle.flow_types.specs.declared.messages.Message.{Message}
use Rattle.flow_types.specs.declared.messages.Message.TheVariants as messages
use Rattle.flow_types.specs.Examples.{port}
use Rattle.foreman_core.specs.declared.acts.Down.{Down}
use Rattle.foreman_core.specs.Foremen.{Foreman, new_foreman}
use Rattle.foreman_core.specs.Steps.{hears_up, hears_down, loses, renumbered}

-- a link by its number
abbrev pub link : ℕ → LinkNo
link k = record { 0 = k }

-- an attempt by its number
abbrev pub attempt : ℕ → AttemptNo
attempt n = record { 0 = n }

-- so many cores
abbrev pub cores : ℕ → Amounts
cores n = record { cores = n; memory = 0; disk = 0 }

-- the key of file n of run 7
abbrev pub key : ℕ → Key
key n = record { run = 7; file = record { 0 = n } }

-- a worker of so many cores says hello
abbrev pub hello : ℕ → Message
hello n = messages.Hello (cores n) (cores n) 100

-- a task of so many cores under an attempt, which takes in these files
abbrev pub task : ℕ → ℕ → List ℕ → Task
task n wanted files = record {
  attempt = attempt n;
  run = 7;
  command = [];
  needs = needs.Stated (cores wanted);
  env = [];
  inputs = map (λ f. port f (f ∷ [])) files;
  outputs = [];
}

-- the same task as it goes down under a number, to a link
abbrev pub placed : ℕ → ℕ → Task → Down
placed k number t =
    record { link = link k; message = messages.Task (renumbered t (attempt number)) }

-- the totals of so many cores, of which one job may take so many
abbrev pub stated : ℕ → ℕ → Message
stated total largest = messages.Totals (cores total) (cores largest) 1000

-- a foreman after a message from above
abbrev pub up : Foreman → Message → Foreman
up f m = (hears_up f m).foreman

-- a foreman after a message from below
abbrev pub down : Foreman → ℕ → Message → Foreman
down f k m = (hears_down f (link k) m).foreman

-- a foreman with nothing
abbrev pub alone : Foreman
alone = new_foreman 1000

-- one whose worker at link 1 has 2 cores
abbrev pub with_one : Foreman
with_one = down alone 1 (hello 2)

-- one with a worker at link 2, too
abbrev pub with_two : Foreman
with_two = down with_one 2 (hello 2)

-- attempt 5, which needs one core and no inputs
abbrev pub fifth : Task
fifth = task 5 1 []

-- attempt 5 is placed at link 1, as attempt 0, beside another worker
abbrev pub placed_once : Foreman
placed_once = up with_two (messages.Task fifth)

-- the same without the other worker
abbrev pub placed_alone : Foreman
placed_alone = up with_one (messages.Task fifth)

-- link 1 is lost: attempt 5 is placed at link 2, as attempt 1
abbrev pub placed_anew : Foreman
placed_anew = (loses placed_once (link 1)).foreman

-- three bytes
abbrev pub three_bytes : List ℕ
three_bytes = 1 ∷ 2 ∷ 3 ∷ []

-- a foreman of one worker of 2 cores that holds a content
abbrev pub holds_one : Foreman
holds_one = up with_one (messages.Put (key 4) three_bytes)

-- the Put of the content to link 1
abbrev pub put_down : Down
put_down = record { link = link 1; message = messages.Put (key 4) three_bytes }

-- attempts of one core that take in the content
abbrev pub reader : ℕ → Task
reader n = task n 1 (4 ∷ [])

-- workers of one core at the links from 1 to this number
abbrev pub crowd : ℕ → Foreman
crowd zero = alone
crowd (suc n) = down (crowd n) (suc n) (hello 1)

-- attempt 6 needs three cores, more than any worker has
abbrev pub wide : Task
wide = task 6 3 []

-- a worker that has as many cores as can be stated
abbrev pub greatest : Message
greatest = hello 4294967295
