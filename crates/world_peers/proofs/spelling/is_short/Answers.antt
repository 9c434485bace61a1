use Rattle.std.proofs.Common.{◌≤◌, length, subst}
use Rattle.world_peers.proofs.Spellings.{done_short, missing_short}
use Rattle.world_peers.proofs.spelling.is_short.Goals as goal

pub returns-in-Done-clause-short : goal.returns-in-Done-clause-short
returns-in-Done-clause-short c small = done_short c.args.message.now c.in-Done.attempt c.in-Done.outcome c.in-Done.is (c.is_small.ensures small)

pub returns-in-Missing-clause-short : goal.returns-in-Missing-clause-short
returns-in-Missing-clause-short c short =
    missing_short c.args.message.now c.in-Missing.attempt c.in-Missing.files c.in-Missing.is (subst (λ files. length files ≤ 4096) c.as_slice.ensures (c.is_list.ensures.few short))
