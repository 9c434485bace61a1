use Rattle.std.proofs.Common.{refl}
use Rattle.std.specs.Str.{is_utf8}
use Rattle.clap.proofs.OnLiterals.{clap_on_literals}
use Rattle.command_words.specs.Choices.{language_in}
use Rattle.command_words.specs.Numbers.{number_in}
use Rattle.command_words.specs.Values.{flag, has_value}
use Rattle.show_words.specs.Words.{command, options_in, options_of, part_in, part_of, rules_named}
use Rattle.show_words.proofs.examples.words_that_are_no_command_line.Goals as goal

pub returns : goal.returns
unfolding is_utf8 clap_on_literals language_in number_in flag has_value command options_in options_of part_in part_of rules_named
returns c = (refl, refl, refl, refl, refl, refl, refl, refl, refl)
