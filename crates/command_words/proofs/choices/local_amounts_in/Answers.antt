use Rattle.std.proofs.Common.{sym, refl}
use Rattle.command_words.specs.Choices.{local_amounts_in}
use Rattle.command_words.proofs.choices.local_amounts_in.Goals as goal

pub returns-clause-value : goal.returns-clause-value
unfolding local_amounts_in
returns-clause-value c = rw (sym c.in_ok-cores.ensures.value, sym c.in_ok-memory.ensures.value, sym c.in_ok-disk.ensures.value) refl
