use Rattle.std.proofs.Common.{◌∙◌, Some, ap, map}
use Rattle.rule_graph.specs.Flows.{rule_no}
use Rattle.rule_graph.specs.Faults.{or_else}
use Rattle.rule_graph.specs.Numbering.{first_maker, second_among}
use Rattle.rule_graph.proofs.Tables.{written_back, with_value}
use Rattle.rule_graph.proofs.Makings.{firsts_more}
use Rattle.rule_graph.proofs.numbering.put_before.Goals as goal

pub returns : goal.returns
returns c = λ more before fault. (
  c.put_first.ensures ∙ ap (λ earlier. or_else earlier c.args.makers.now.fault) (c.in_ok-fault.ensures more (c.deref.ensures.value ∙ before))
      ∙ ap (or_else (second_among c.args.making.now more)) fault,
  written_back c.put.new.table c.args.makers.now.first.items c.args.makers.now.first.len (c.put.auto.table ∙ c.deref_mut.ensures.len) c.args.makers.now.first.ok.0
      ∙ c.put.ensures (first_maker more) (c.deref_mut.ensures.value ∙ before)
      ∙ ap (λ x. map (with_value (first_maker more) x (Some (rule_no c.args.making.now.maker))) c.args.names.now) c.as_slice.ensures
      ∙ firsts_more c.args.names.now c.args.making.now more,
)
