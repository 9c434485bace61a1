use Rattle.std.proofs.Common.{◌≡◌, ℕ, ◌++◌, ◌∷◌, [], List, position, sym, ap, ◌∙◌}
use Rattle.std.specs.Str.{bytes_eq}
use Rattle.jx_meaning.specs.declared.scope.Binding.{Binding}
use Rattle.jx_meaning.specs.Values.{plain, or_else}
use Rattle.jx_meaning.specs.Lists.{put}
use Rattle.jx_meaning.specs.Scopes.{named, names_of}
use Rattle.jx_meaning.proofs.Names.{value_replaced, value_added, names_replaced, names_grown, on_ok}
use Rattle.jx_meaning.proofs.scope.JxScope.set.Goals as goal

pub returns-in-Some-clause-named : goal.returns-in-Some-clause-named
returns-in-Some-clause-named c = λ x.
    let name = c.args.name.now in
    let r = c.replace_value.ensures in
    let bs : List Binding = c.self.inside.bindings.items in
    let v : c.args.self.now ≡ bs = sym c.self.view_is in
    rw v (value_replaced bs c.replace_value.new.bindings.items c.in-Some.place x name r.0 c.args.value
    (ap (λ (l : List Binding). position (λ (b : Binding). bytes_eq b.name name) l) (sym c.as_slice.ensures.value) ∙ sym c.place_of.ensures.place ∙ c.in-Some.is) r.1 r.2)

pub returns-in_ok-name-in-None-clause-named : goal.returns-in_ok-name-in-None-clause-named
returns-in_ok-name-in-None-clause-named c =
    let name = c.args.name.now in
    let old : List Binding = c.self.inside.bindings.items in
    let v : c.args.self.now ≡ old = sym c.self.view_is in
    let new : List Binding = c.add.new.bindings.items in
    let b : Binding = record { name = c.in_ok-name-in-None.name; value = c.args.value } in
    rw v (on_ok c.add.result (new ≡ old ++ b ∷ []) ((x : List ℕ) → named new x ≡ or_else (bytes_eq name x) (plain c.args.value) (named old x))
    (λ e x. value_added old new x name b
    (ap (λ (l : List Binding). position (λ (b : Binding). bytes_eq b.name name) l) (sym c.as_slice.ensures.value) ∙ sym c.place_of.ensures.place ∙ c.in-None.is)
    c.in_ok-name-in-None.ensures e)
    c.add.ensures.added)

pub returns-in-Some-clause-names : goal.returns-in-Some-clause-names
returns-in-Some-clause-names c =
    let name = c.args.name.now in
    let r = c.replace_value.ensures in
    let bs : List Binding = c.self.inside.bindings.items in
    let v : c.args.self.now ≡ bs = sym c.self.view_is in
    rw v (names_replaced bs c.replace_value.new.bindings.items c.in-Some.place name r.0 c.args.value
    (ap (λ (l : List Binding). position (λ (b : Binding). bytes_eq b.name name) l) (sym c.as_slice.ensures.value) ∙ sym c.place_of.ensures.place ∙ c.in-Some.is) r.1 r.2)

pub returns-in_ok-name-in-None-clause-names : goal.returns-in_ok-name-in-None-clause-names
returns-in_ok-name-in-None-clause-names c =
    let name = c.args.name.now in
    let old : List Binding = c.self.inside.bindings.items in
    let v : c.args.self.now ≡ old = sym c.self.view_is in
    let new : List Binding = c.add.new.bindings.items in
    let b : Binding = record { name = c.in_ok-name-in-None.name; value = c.args.value } in
    rw v (on_ok c.add.result (new ≡ old ++ b ∷ []) (names_of new ≡ put name (plain c.args.value) (names_of old))
    (names_grown old new name b
    (ap (λ (l : List Binding). position (λ (b : Binding). bytes_eq b.name name) l) (sym c.as_slice.ensures.value) ∙ sym c.place_of.ensures.place ∙ c.in-None.is)
    c.in_ok-name-in-None.ensures)
    c.add.ensures.added)
