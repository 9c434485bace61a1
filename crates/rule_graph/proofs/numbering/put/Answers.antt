use Rattle.std.proofs.Common.{◌≡◌, ◌∙◌, sym, ap, Some}
use Rattle.std.specs.Prelude.{slice_set, position}
use Rattle.std.specs.Str.{bytes_eq}
use Rattle.rule_graph.proofs.Tables.{put_found, put_none}
use Rattle.rule_graph.proofs.numbering.put.Goals as goal

pub returns-then-place-table : goal.returns-then-place-table
returns-then-place-table g c = λ says before.
    let found : position (bytes_eq c.args.name.now) c.args.names.now ≡ Some c.in-Some.place = cc (c.place_of.ensures, c.in-Some.is) in
    ap (λ table. slice_set table c.in-Some.place c.args.value) before ∙ put_found c.args.names.now says c.args.name.now c.args.value c.in-Some.place c.requires found

pub returns-in_default : goal.returns-in_default
returns-in_default g c = λ says before.
    before ∙ put_none c.args.names.now says c.args.name.now c.args.value (sym c.place_of.ensures ∙ c.in_default.is)
