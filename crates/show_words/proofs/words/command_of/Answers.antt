use Rattle.std.proofs.Common.{◌∙◌}
use Rattle.std.proofs.lemmas.Result.{IfOk-weaker}
use Rattle.show_words.specs.Words.{command}
use Rattle.command_words.proofs.AppLemmas.{step}
use Rattle.show_words.proofs.words.command_of.Goals as goal

pub returns : goal.returns
unfolding command
returns c = IfOk-weaker c.with_place-2.result _ _ (λ r e. e ∙ step _ (c.in_ok-command-4.ensures ∙ step _ (c.in_ok-command-3.ensures ∙ step _ (c.in_ok-command-2.ensures ∙ step _ (c.in_ok-command.ensures ∙ step _ c.new.ensures.app))))) c.with_place-2.ensures
