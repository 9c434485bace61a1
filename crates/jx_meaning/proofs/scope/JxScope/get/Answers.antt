use Rattle.std.proofs.Common.{◌≡◌, List, position, Some, sym, ap, ◌∙◌}
use Rattle.std.proofs.lemmas.List.Quantifiers.{position-Some}
use Rattle.std.specs.Str.{bytes_eq}
use Rattle.jx_meaning.specs.declared.scope.Binding.{Binding}
use Rattle.jx_meaning.specs.Values.{plain}
use Rattle.jx_meaning.proofs.Names.{found, none}
use Rattle.jx_meaning.proofs.scope.JxScope.get.Goals as goal

pub returns-in-Some : goal.returns-in-Some
returns-in-Some c =
    let bs : List Binding = c.self.inside.bindings.items in
    let v : c.args.self.now ≡ bs = sym c.self.view_is in
    let b : Binding = c.index.result.now in
    let name = c.args.name.now in
    let place : position (λ (b : Binding). bytes_eq b.name name) bs ≡ Some c.in-Some.place =
    ap (λ (l : List Binding). position (λ (b : Binding). bytes_eq b.name name) l) (sym c.as_slice.ensures.value) ∙ sym c.place_of.ensures.place ∙ c.in-Some.is in
    let h = position-Some (λ (b : Binding). bytes_eq b.name name) bs c.in-Some.place b place in
    rw v (ap (λ (b : Binding). Some (plain b.value)) c.index.ensures ∙ sym (found bs c.in-Some.place name b h.0 h.1 h.2))

pub returns-in-None : goal.returns-in-None
returns-in-None c =
    let name = c.args.name.now in
    let bs : List Binding = c.self.inside.bindings.items in
    let v : c.args.self.now ≡ bs = sym c.self.view_is in
    rw v (sym (none bs name (ap (λ (l : List Binding). position (λ (b : Binding). bytes_eq b.name name) l) (sym c.as_slice.ensures.value) ∙ sym c.place_of.ensures.place ∙ c.in-None.is)))
