use Rattle.std.proofs.Common.{length, ap, ◌∙◌}
use Rattle.std.specs.List.{list_all, list_any}
use Rattle.run_history.specs.History.{is_cleaned}
use Rattle.log_text.specs.Tallies.{is_below}
use Rattle.log_text.proofs.Parts.{part-below, part-goes}
use Rattle.log_text.proofs.print.print_log.Goals as goal

pub lines_of-requires-clause-inside : goal.lines_of-requires-clause-inside
lines_of-requires-clause-inside c =
    ap (list_all (is_below (length c.args.plan.now.rules))) c.part_of.ensures ∙ part-below c.args.plan.now c.args.history.now c.requires.legal

pub lines_of-requires-clause-goes_on : goal.lines_of-requires-clause-goes_on
lines_of-requires-clause-goes_on c = ap (list_any is_cleaned) c.part_of.ensures ∙ part-goes c.args.history.now
