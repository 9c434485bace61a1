use Rattle.std.proofs.Common.{[], arith}
use Rattle.std.proofs.lemmas.List.Folds.{length-flat_map-take}
use Rattle.flow_types.specs.declared.numbers.Content.{Content}
use Rattle.log_records.specs.Spelling.{content_bytes}
use Rattle.log_records.proofs.placing.place_contents.Goals as goal

pub place_content-at-requires : goal.place_content-at-requires
place_content-at-requires c =
    let none : Content = record { size = 0; digest = record { 0 = [] } } in
    let room = length-flat_map-take content_bytes c.args.contents.now c.loop-content.content-index none c.loop-content-test.true in
    omega (arith, room, c.requires.room, c.loop-content.invariant.end, c.place_u32-at.ensures.end)
