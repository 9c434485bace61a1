use Rattle.std.proofs.Common.{◌≤◌, length, arith}
use Rattle.log_records.proofs.Whole.{written_again}
use Rattle.log_records.proofs.writing.write_record_at.Goals as goal

pub returns-clause-again : goal.returns-clause-again
returns-clause-again c =
    let all : length c.place_record-end.new.into ≤ c.place_record-end.result = omega (arith, c.place_record-end.ensures.end, c.requires.room) in
    written_again c.place_record-end.result c.place_record-end.new.into c.args.into.now c.args.entry.now c.place_record-end.ensures.text all c.place_record-end.ensures.fits
