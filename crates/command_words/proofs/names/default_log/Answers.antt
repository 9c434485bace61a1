use Rattle.std.proofs.Common.{◌∙◌, sym}
use Rattle.command_words.proofs.LogNames.{generated-name}
use Rattle.command_words.proofs.names.default_log.Goals as goal

pub returns-in-Generated-clause-usage : goal.returns-in-Generated-clause-usage
returns-in-Generated-clause-usage c = λ wrong. let none = sym generated-name ∙ c.name_of.ensures.usage wrong in absurd cc
