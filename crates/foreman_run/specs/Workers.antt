-- A foreman's workers by what came from them and what was to go down to them.
use Rattle.std.specs.Prelude.{◌≡◌, List, map}
use Rattle.flow_types.specs.declared.job.Task.{Task}
use Rattle.flow_types.specs.declared.messages.Message.TheVariants as messages
use Rattle.flow_types.specs.declared.numbers.LinkNo.{LinkNo}
use Rattle.link_session.specs.declared.open.Open.{Open}
use Rattle.link_session.specs.declared.session.Stage.TheVariants as stages
use Rattle.foreman_core.specs.declared.acts.Down.{Down}
use Rattle.foreman_core.specs.declared.links.Below.{Below}
use Rattle.foreman_core.specs.Members.{Every, Stands}
use Rattle.foreman_run.specs.Lost.{IsHelloFirst}
use Rattle.foreman_run.specs.Lowers.{from_link, over}

-- An open attempt is that of a task that was to go down over the link of this number.
pub record IsGiven (down : List Down) (k : LinkNo) (o : Open) : Type 0 where
  pub task : Task
  pub asked : Stands (over k (messages.Task task)) down
  pub attempt : o.attempt ≡ task.attempt
  pub files : o.files ≡ map (λ port. port.file) task.inputs
  pub bounds : o.bounds ≡ map (λ want. want.bound) task.outputs

-- A worker's hello came first, and each of its open attempts is of a task that was to go down there.
pub record IsJoined (down told : List Down) (b : Below) : Type 0 where
  pub stage : b.session.stage ≡ stages.Greeted
  pub begun : IsHelloFirst (from_link b.link.0 told)
  pub given : Every (IsGiven down b.link) b.session.attempts
