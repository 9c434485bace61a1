use Rattle.std.proofs.Common.{◌++◌, take, ap, sym, ◌∙◌}
use Rattle.byteorder.specs.Endian.{big_bytes}
use Rattle.flow_types.specs.declared.job.Failure.{Failure}
use Rattle.log_records.specs.Spelling.{failure_bytes}
use Rattle.log_records.proofs.Placed.{placed_three}
use Rattle.log_records.proofs.placing.place_failure.Goals as goal

pub returns-in-TooLong-clause-text : goal.returns-in-TooLong-clause-text
returns-in-TooLong-clause-text c =
    let start = take c.args.at c.args.into.now in
    placed_three start (big_bytes 1 3) (big_bytes 4 c.in-TooLong.index) (big_bytes 8 c.in-TooLong.size)
    (take c.place_u8-at-in-TooLong.result c.place_u8-at-in-TooLong.new.into) (take c.place_u32-at.result c.place_u32-at.new.into) (take c.place_u64.result c.place_u64.new.into)
    c.place_u8-at-in-TooLong.ensures.text c.place_u32-at.ensures.text c.place_u64.ensures.text
    ∙ ap (λ (why : Failure). start ++ failure_bytes why) (sym c.in-TooLong.is)
