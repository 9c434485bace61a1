use Rattle.std.proofs.Common.{rules}
use Rattle.std.proofs.lemmas.Result.{on_ok_weaker}
use Rattle.net_world.proofs.StepShows.{while_down, while_up}
use Rattle.net_world.proofs.play.Play.step.Goals as goal

pub returns-then-self-clause-ran : goal.returns-then-self-clause-ran
returns-then-self-clause-ran g c = on_ok_weaker c.step_up.result
    (while_up g.F.Commands.gives g.F.Commands.may_fail _ c.args.event c.args.self.now c.step_up.new.self (search rules))
    c.step_up.ensures.ran

pub returns-else-self-clause-ran : goal.returns-else-self-clause-ran
returns-else-self-clause-ran g c = on_ok_weaker c.step_down.result
    (while_down g.F.Commands.gives g.F.Commands.may_fail _ c.args.event c.args.self.now c.step_down.new.self (search rules))
    c.step_down.ensures.ran
