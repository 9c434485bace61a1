use Rattle.std.proofs.Common.{take}
use Rattle.byteorder.specs.Endian.{big_bytes}
use Rattle.log_records.specs.Spelling.{limit_bytes}
use Rattle.log_records.proofs.Placed.{placed_three}
use Rattle.log_records.proofs.placing.place_opening.Goals as goal

pub returns-clause-text : goal.returns-clause-text
returns-clause-text c =
    placed_three (take c.args.at c.args.into.now) (big_bytes 8 c.args.run) (big_bytes 4 c.args.retries) (limit_bytes c.args.limit)
    (take c.place_u64-at.result c.place_u64-at.new.into) (take c.place_u32-at.result c.place_u32-at.new.into) (take c.place_limit.result c.place_limit.new.into)
    c.place_u64-at.ensures.text c.place_u32-at.ensures.text c.place_limit.ensures.text
