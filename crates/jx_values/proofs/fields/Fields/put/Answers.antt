use Rattle.std.proofs.Common.{◌∙◌, sym, ap, map, List, Ok}
use Rattle.jx_syntax.specs.declared.value.JxPair.{JxPair}
use Rattle.jx_meaning.specs.Values.{plain}
use Rattle.jx_values.specs.Kinds.{plain_pair}
use Rattle.jx_values.proofs.Keys.{key_refused, key_taken}
use Rattle.jx_values.proofs.fields.Fields.put.Goals as goal

pub returns-then-not-is_small : goal.returns-then-not-is_small
returns-then-not-is_small c =
    key_refused c.args.place c.args.key (plain c.args.value) (map plain_pair c.args.self.now) c.self.inside.fields.items c.self.inside.inside c.around.result c.self.invariant c.around.ensures
    (ap (λ (l : List JxPair). map plain_pair l) c.self.view_is ∙ c.in_ok-place.ensures) (sym c.is_small.ensures ∙ c.if-not-is_small.true)

pub returns : goal.returns
returns c =
    key_taken c.args.place c.args.key (plain c.args.value) (map plain_pair c.args.self.now) c.self.inside.fields.items c.self.inside.inside c.around.result c.self.invariant c.around.ensures
    (ap (λ (l : List JxPair). map plain_pair l) c.self.view_is ∙ c.in_ok-place.ensures) (sym c.is_small.ensures ∙ c.if-not-is_small.false)
    ∙ ap (λ (l : List JxPair). Ok (map plain_pair l)) c.self.view_is
