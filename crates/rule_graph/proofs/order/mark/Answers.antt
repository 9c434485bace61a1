use Rattle.std.proofs.Common.{◌≡◌, ◌<◌, List, ℕ, [], refl, ap, sym, ◌∙◌, arith, length, get_or, rules, false}
use Rattle.std.proofs.lemmas.Option.{slice_get_read, get_or_from_slice_get}
use Rattle.std.proofs.lemmas.Grind.{common_steps}
use Rattle.rule_graph.proofs.Marking.{marked_under_way}
use Rattle.rule_graph.proofs.order.mark.Goals as goal

pub returns-clause-under_way : goal.returns-clause-under_way
returns-clause-under_way c = λ P taken is_index way.
    let inside : c.args.file.0 < length c.args.index.now = omega (arith, c.requires.inside, c.requires.files) in
    let row : get_or c.args.index.now c.args.file.0 [] ≡ c.as_slice.result.now =
    get_or_from_slice_get c.args.index.now c.args.file.0 c.index-index-file.result []
    (slice_get_read c.args.index.now (length c.args.index.now) c.args.file.0 c.index-index-file.result refl inside c.index-index-file.is)
    ∙ sym c.as_slice.ensures in
    let fresh : get_or c.args.progress.now.made.items c.args.file.0 false ≡ false = grind (arith, common_steps) in
    c.in_ok-announce.ensures.under_way P taken
    (marked_under_way P taken c.args.index.now c.as_slice.result.now c.args.file.0 c.args.progress.now _ is_index way c.requires.inside fresh c.set_mark.ensures refl refl (sym row))
