use Rattle.jx_syntax.specs.declared.value.JxPair.{JxPair}
use Rattle.jx_values.proofs.Keys.{grown_pairs}
use Rattle.jx_values.proofs.fields.Fields.append.Goals as goal

pub invariant_of-self-2 : goal.invariant_of-self-2
invariant_of-self-2 c =
    let p : JxPair = record { key = c.args.key; value = c.args.value } in
    grown_pairs c.self.inside.fields.items c.push.new.self.items p c.self.inside.inside c.size_of.result c.beside-inside.result c.self.invariant c.size_of.ensures c.beside-inside.ensures c.in_ok-push.ensures.items
