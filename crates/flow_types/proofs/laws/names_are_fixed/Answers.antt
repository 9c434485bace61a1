use Rattle.flow_types.proofs.Forms.{form-is_name, name-is_form}
use Rattle.flow_types.proofs.laws.names_are_fixed.Goals as goal

pub returns-clause-forms : goal.returns-clause-forms
returns-clause-forms c = form-is_name

pub returns-clause-again : goal.returns-clause-again
returns-clause-again c = name-is_form
