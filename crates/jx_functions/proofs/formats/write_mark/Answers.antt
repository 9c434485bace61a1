use Rattle.std.proofs.Common.{rules}
use Rattle.jx_functions.proofs.Marks.{percent_mark, bad_mark, worths}
use Rattle.jx_functions.proofs.formats.write_mark.Goals as goal

pub returns-in_ok-add-in-37-clause-text : goal.returns-in_ok-add-in-37-clause-text
returns-in_ok-add-in-37-clause-text c = λ rest.
    percent_mark c.args.place c.args.draft.now c.add.new.self c.args.mark rest (worths c.args.values.now) c.in-37.is c.in_ok-add-in-37.ensures

pub returns-in_default-clause-text : goal.returns-in_default-clause-text
returns-in_default-clause-text c = λ rest.
    bad_mark c.args.place c.args.mark c.args.draft.now rest (worths c.args.values.now) (λ e. search rules) (λ e. search rules) (λ e. search rules) (λ e. search rules)
