use lib.Utf8
use Rattle.std.proofs.Common.{sym, refl}
use Rattle.mf_text.proofs.Joining.{no_mark}
use Rattle.mf_text.proofs.lines.split_mark.Goals as goal

pub returns-in-None-clause-body : goal.returns-in-None-clause-body
unfolding lib.Utf8.encode
returns-in-None-clause-body c =
    let e = no_mark c.args.line.now c.in-None.ensures.cases in
    rw e refl

pub returns-in-None-clause-mark : goal.returns-in-None-clause-mark
unfolding lib.Utf8.encode
returns-in-None-clause-mark c = sym (no_mark c.args.line.now c.in-None.ensures.cases)
