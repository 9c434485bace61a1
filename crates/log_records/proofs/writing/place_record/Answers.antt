use Rattle.std.proofs.Common.{List, ◌++◌, take, ap, sym, ◌∙◌}
use Rattle.byteorder.specs.Endian.{big_bytes}
use Rattle.flow_types.specs.declared.numbers.Content.{Content}
use Rattle.flow_types.specs.declared.records.Record.{Record}
use Rattle.log_records.specs.Spelling.{spelling, opening_bytes, attempt_bytes, failure_bytes, contents_bytes}
use Rattle.log_records.proofs.Placed.{placed_two, placed_three, placed_four}
use Rattle.log_records.proofs.writing.place_record.Goals as goal

pub returns-in-Opened-clause-text : goal.returns-in-Opened-clause-text
returns-in-Opened-clause-text c =
    let start = take c.args.at c.args.into.now in
    placed_four start (big_bytes 1 1 ++ big_bytes 8 c.in-Opened.moment) (opening_bytes c.in-Opened.run' c.in-Opened.retries c.in-Opened.limit) c.in-Opened.plan.0 (contents_bytes c.in-Opened.sources)
    (take c.place_front-at.result c.place_front-at.new.into) (take c.place_opening-at.result c.place_opening-at.new.into) (take c.place_digest-at.result c.place_digest-at.new.into) (take c.place_contents.result c.place_contents.new.into)
    c.place_front-at.ensures.text c.place_opening-at.ensures.text c.place_digest-at.ensures.text (c.place_contents.ensures.text ∙ ap (λ (s : List Content). take c.place_digest-at.result c.place_digest-at.new.into ++ contents_bytes s) c.as_slice.ensures)
    ∙ ap (λ (r : Record). start ++ spelling r) (sym c.in-Opened.is)

pub returns-in-Resumed-clause-text : goal.returns-in-Resumed-clause-text
returns-in-Resumed-clause-text c =
    let start = take c.args.at c.args.into.now in
    placed_two start (big_bytes 1 2 ++ big_bytes 8 c.in-Resumed.moment) (opening_bytes c.in-Resumed.run' c.in-Resumed.retries c.in-Resumed.limit)
    (take c.place_front-at-in-Resumed.result c.place_front-at-in-Resumed.new.into) (take c.place_opening.result c.place_opening.new.into)
    c.place_front-at-in-Resumed.ensures.text c.place_opening.ensures.text
    ∙ ap (λ (r : Record). start ++ spelling r) (sym c.in-Resumed.is)

pub returns-in-Started-clause-text : goal.returns-in-Started-clause-text
returns-in-Started-clause-text c =
    let start = take c.args.at c.args.into.now in
    placed_three start (big_bytes 1 3 ++ big_bytes 8 c.in-Started.moment) (attempt_bytes c.in-Started.rule c.in-Started.attempt) (big_bytes 4 c.in-Started.link.0)
    (take c.place_front-at-in-Started.result c.place_front-at-in-Started.new.into) (take c.place_attempt-at.result c.place_attempt-at.new.into) (take c.place_u32.result c.place_u32.new.into)
    c.place_front-at-in-Started.ensures.text c.place_attempt-at.ensures.text c.place_u32.ensures.text
    ∙ ap (λ (r : Record). start ++ spelling r) (sym c.in-Started.is)

pub returns-in-Done-clause-text : goal.returns-in-Done-clause-text
returns-in-Done-clause-text c =
    let start = take c.args.at c.args.into.now in
    placed_three start (big_bytes 1 4 ++ big_bytes 8 c.in-Done.moment) (attempt_bytes c.in-Done.rule c.in-Done.attempt) (contents_bytes c.in-Done.outs)
    (take c.place_front-at-in-Done.result c.place_front-at-in-Done.new.into) (take c.place_attempt-at-in-Done.result c.place_attempt-at-in-Done.new.into) (take c.place_contents-in-Done.result c.place_contents-in-Done.new.into)
    c.place_front-at-in-Done.ensures.text c.place_attempt-at-in-Done.ensures.text (c.place_contents-in-Done.ensures.text ∙ ap (λ (s : List Content). take c.place_attempt-at-in-Done.result c.place_attempt-at-in-Done.new.into ++ contents_bytes s) c.as_slice-in-Done.ensures)
    ∙ ap (λ (r : Record). start ++ spelling r) (sym c.in-Done.is)

pub returns-in-Failed-clause-text : goal.returns-in-Failed-clause-text
returns-in-Failed-clause-text c =
    let start = take c.args.at c.args.into.now in
    placed_three start (big_bytes 1 5 ++ big_bytes 8 c.in-Failed.moment) (attempt_bytes c.in-Failed.rule c.in-Failed.attempt) (failure_bytes c.in-Failed.why)
    (take c.place_front-at-in-Failed.result c.place_front-at-in-Failed.new.into) (take c.place_attempt-at-in-Failed.result c.place_attempt-at-in-Failed.new.into) (take c.place_failure.result c.place_failure.new.into)
    c.place_front-at-in-Failed.ensures.text c.place_attempt-at-in-Failed.ensures.text c.place_failure.ensures.text
    ∙ ap (λ (r : Record). start ++ spelling r) (sym c.in-Failed.is)

pub returns-in-Lost-clause-text : goal.returns-in-Lost-clause-text
returns-in-Lost-clause-text c =
    let start = take c.args.at c.args.into.now in
    placed_two start (big_bytes 1 6 ++ big_bytes 8 c.in-Lost.moment) (attempt_bytes c.in-Lost.rule c.in-Lost.attempt)
    (take c.place_front-at-in-Lost.result c.place_front-at-in-Lost.new.into) (take c.place_attempt.result c.place_attempt.new.into)
    c.place_front-at-in-Lost.ensures.text c.place_attempt.ensures.text
    ∙ ap (λ (r : Record). start ++ spelling r) (sym c.in-Lost.is)

pub returns-in-Dropped-clause-text : goal.returns-in-Dropped-clause-text
returns-in-Dropped-clause-text c =
    let start = take c.args.at c.args.into.now in
    placed_two start (big_bytes 1 7 ++ big_bytes 8 c.in-Dropped.moment) (big_bytes 4 c.in-Dropped.file.0)
    (take c.place_front-at-in-Dropped.result c.place_front-at-in-Dropped.new.into) (take c.place_u32-in-Dropped.result c.place_u32-in-Dropped.new.into)
    c.place_front-at-in-Dropped.ensures.text c.place_u32-in-Dropped.ensures.text
    ∙ ap (λ (r : Record). start ++ spelling r) (sym c.in-Dropped.is)
