use Rattle.std.proofs.Common.{sym, ap, ◌∙◌}
use Rattle.serde_json.specs.View.{view, members_view}
use Rattle.serve_lines.specs.Requests.{place_of, places_in}
use Rattle.serve_lines.proofs.Each.{behind, place_read}
use Rattle.serve_lines.proofs.members.places_in.Goals as goal

pub loop-key-preserved : goal.loop-key-preserved
loop-key-preserved c =
    let l = c.loop-key in
    let part = c.args.part in
    let read = ap (λ key. place_of part key (view c.in-Some.value.now)) (sym c.as_str.ensures.value) ∙ c.in_ok-place.ensures in
    ap (λ items. behind items (places_in part (members_view c.next.new.self))) c.in_ok-push.ensures.items
    ∙ place_read l.places.items part _ (view c.in-Some.value.now) _ c.in_ok-place.place _ read
    (ap (λ es. behind l.places.items (places_in part (members_view es))) (sym c.in-Some.ensures.steps) ∙ l.invariant)
