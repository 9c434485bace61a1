-- What the master makes of a word.
use Rattle.std.specs.Prelude.{◌≡◌, ℕ, Option, Some, None, Result, Ok, Err}
use Rattle.flow_types.specs.declared.plan.Plan.{Plan}
use Rattle.flow_types.specs.declared.job.Report.{Report}
use Rattle.flow_types.specs.declared.messages.Message.{Message}
use Rattle.link_session.specs.declared.word.SessionFault.{SessionFault}
use Rattle.link_session.specs.declared.word.Word.{Word}
use Rattle.run_history.specs.declared.options.Options.{Options}
use Rattle.net_world.specs.declared.play.Play.{Play}
use Rattle.world_laws.specs.Members.{Stands}
use Rattle.world_laws.specs.Worlds.{Connection, World, end_in, end_logged, follows}
use Rattle.net_world.specs.Plays.{IsFit, IsShown}

-- the word that was answered, if one was
abbrev pub word_in : Result Word SessionFault → Option Word
word_in (Err why) = None
word_in (Ok word) = Some word

-- the outcome of the end of an attempt is fit
abbrev pub IsFitEnd : Plan → World → Option Report → Type 0
IsFitEnd P w None = Unit {0}
IsFitEnd P w (Some report) = IsFit P w report.attempt report.outcome

-- Machines that showed a world show it after the end of an attempt of which a word tells, where
-- that is fit.
abbrev pub LogsEnd : Message → Word → Play → Play → Type 0
LogsEnd message word old new =
    (P : Plan) (O : Options) (w : World) → IsShown P O w old → IsFitEnd P w (end_in message word)
    → IsShown P O (end_logged P w (end_in message word)) new

-- Machines that showed a world show it after what else a word asks of the master over one of its
-- links.
abbrev pub Follows : ℕ → ℕ → Word → Play → Play → Type 0
Follows k p word old new =
    (P : Plan) (O : Options) (w : World) (c : Connection) → IsShown P O w old → c.link ≡ k
    → c.peer ≡ p → ((d : Connection) × (d.link ≡ k) × Stands d w.connections)
    → IsShown P O (follows P w c word) new
