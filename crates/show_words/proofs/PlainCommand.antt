-- The command is plain.
use Rattle.std.proofs.Common.{◌≡◌, true, refl}
use Rattle.command_words.specs.Command.{is_plain}
use Rattle.show_words.specs.Words.{command}

pub show_is_plain : is_plain command ≡ true
unfolding is_plain command
show_is_plain = refl
