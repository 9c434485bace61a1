use Rattle.std.proofs.Common.{◌≡◌, false, rules}
use Rattle.std.specs.Prelude.{codes}
use Rattle.std.specs.Str.{bytes_eq}
use Rattle.mem_commands.proofs.Shapes.{never_fails}
use Rattle.mem_commands.proofs.contents.failure_of.Goals as goal

pub returns-then-size-eq0 : goal.returns-then-size-eq0
returns-then-size-eq0 c =
    let other : bytes_eq c.args.job.now.command (codes "false") ≡ false = search rules in
    let none : c.args.size ≡ 0 = search rules in
    never_fails c.args.job.now c.args.size other none
