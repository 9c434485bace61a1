use Rattle.std.proofs.Common.{refl}
use Rattle.mf_text.specs.Names.{begins_name, continues_name}
use Rattle.mf_text.specs.Lines.{joined}
use Rattle.mf_text.specs.Expansion.{pieces_from}
use Rattle.mf_rules.proofs.NameLemmas.{no_entries}
use Rattle.mf_rules.proofs.examples.worked_flows.Goals as goal

pub returns-clause-one_rule : goal.returns-clause-one_rule
unfolding begins_name continues_name joined pieces_from
returns-clause-one_rule c = rw (no_entries, no_entries) refl

pub returns-clause-many_forms : goal.returns-clause-many_forms
unfolding begins_name continues_name joined pieces_from
returns-clause-many_forms c = rw (no_entries, no_entries) refl

pub returns-clause-first_faults : goal.returns-clause-first_faults
unfolding begins_name continues_name joined pieces_from
returns-clause-first_faults c = (rw no_entries refl, refl, refl, refl, refl, rw no_entries refl, rw no_entries refl, refl, refl, refl, refl)
