use Rattle.std.proofs.Common.{◌∙◌, ap}
use Rattle.command_words.specs.Command.{is_plain}
use Rattle.show_words.proofs.PlainCommand.{show_is_plain}
use Rattle.show_words.proofs.words.read_words.Goals as goal

pub parse-requires : goal.parse-requires
parse-requires c = ap is_plain c.in_ok-command.ensures ∙ show_is_plain
