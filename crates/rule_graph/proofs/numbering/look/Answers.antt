use Rattle.std.proofs.Common.{◌≡◌, ◌∙◌, refl, sym, ap, Some, length, arith}
use Rattle.std.specs.Prelude.{slice_get, position}
use Rattle.std.specs.Str.{bytes_eq}
use Rattle.std.proofs.lemmas.List.{length-map}
use Rattle.std.proofs.lemmas.List.Quantifiers.{position-Some}
use Rattle.std.proofs.lemmas.Option.{slice_get_read}
use Rattle.rule_graph.proofs.Tables.{look_found, known_place}
use Rattle.rule_graph.proofs.numbering.look.Goals as goal
use Rattle.rule_graph.proofs.numbering.look.Goals.{in_default-via-in-Some+else-place-table, in_default-via-in_default}

pub returns-in-Some : goal.returns-in-Some
returns-in-Some g c = λ says before known.
    let found : position (bytes_eq c.args.name.now) c.args.names.now ≡ Some c.in-Some.place = sym c.place_of.ensures ∙ c.in-Some.is in
    sym (slice_get_read c.args.table.now (length c.args.table.now) c.in-Some.place c.index-table-place.result refl c.if-place-table.true c.index-table-place.is)
    ∙ ap (λ table. slice_get table c.in-Some.place) before ∙ look_found c.args.names.now says c.args.name.now c.in-Some.place found

pub returns-in_default : goal.returns-in_default
returns-in_default g c = λ says before known.
    elim c.in_default.branch [
      | in_default-via-in-Some+else-place-table w ↦
          let found : position (bytes_eq c.args.name.now) c.args.names.now ≡ Some w.in-Some.place = sym c.place_of.ensures ∙ w.in-Some.is in
          let inside = (position-Some (bytes_eq c.args.name.now) c.args.names.now w.in-Some.place c.args.name.now found).0 in
          let level : length c.args.table.now ≡ length c.args.names.now = ap length before ∙ length-map c.args.names.now says in
          absurd (omega (arith, inside, level, w.if-place-table.false))
      | in_default-via-in_default w ↦ absurd (known_place c.args.names.now c.args.name.now known (sym c.place_of.ensures ∙ w.in_default.is))
    ]
