use Rattle.std.proofs.Common.{arith, string_bytes}
use Rattle.jx_values.proofs.Cuts.{kept_one}
use Rattle.jx_values.proofs.slices.keep.Goals as goal

pub returns : goal.returns
returns c = λ rest.
    kept_one (string_bytes c.args.out.now) (string_bytes c.push.new.self) c.args.left.now c.args.skip.now c.args.c rest
    (let h = c.if-passed-gt0.false in omega arith) (let h = c.if-wanted-eq0.false in omega arith) c.in_ok-push.ensures.bytes
