use Rattle.mem_commands.proofs.contents.+first_too_long.Given as goal

abbrev pub decreases-first_too_long : goal.decreases-first_too_long
decreases-first_too_long l = l.left
