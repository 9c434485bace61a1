use Rattle.std.proofs.Common.{◌≡◌, ◌∙◌, List, ℕ, Option, Some, None, Err, sym, ap, false, cond, map}
use Rattle.std.specs.Option.{option_map_or}
use Rattle.std.specs.Str.{bytes_eq}
use Rattle.flow_types.specs.Names.{name_of}
use Rattle.rule_graph.proofs.numbering.put_text.Goals as goal

pub returns-in-Ok : goal.returns-in-Ok
returns-in-Ok g c = λ says before.
    let same : c.as_bytes.result.now ≡ c.args.text.now = c.as_bytes.ensures.value ∙ c.as_str.ensures.value in
    let named : name_of c.args.text.now ≡ Some c.as_bytes-in-Ok.result.now = ap name_of (sym same) ∙ c.in-Ok.ensures.name ∙ ap (λ n. Some n) (sym c.as_bytes-in-Ok.ensures.value) in
    c.put.ensures says before
    ∙ ap (λ (o : Option (List ℕ)). map (λ n. cond (option_map_or (bytes_eq n) o false) c.args.value (says n)) c.args.names.now) (sym named)

pub returns-in-Err-Bad : goal.returns-in-Err-Bad
returns-in-Err-Bad g c = λ says before.
    let same : c.as_bytes.result.now ≡ c.args.text.now = c.as_bytes.ensures.value ∙ c.as_str.ensures.value in
    let none : Option (List ℕ) = None in
    let named : name_of c.args.text.now ≡ none = ap name_of (sym same) ∙ c.in-Err-Bad.ensures.bad (ap (λ e. Err e) c.in-Err-Bad.field-0-is) in
    before ∙ ap (λ (o : Option (List ℕ)). map (λ n. cond (option_map_or (bytes_eq n) o false) c.args.value (says n)) c.args.names.now) (sym named)
