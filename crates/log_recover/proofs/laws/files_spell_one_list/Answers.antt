use Rattle.log_recover.proofs.Unique.{one_spelled, never_bad_header, never_bad_record}
use Rattle.log_recover.proofs.laws.files_spell_one_list.Goals as goal

pub returns-clause-one : goal.returns-clause-one
returns-clause-one c = one_spelled

pub returns-clause-header : goal.returns-clause-header
returns-clause-header c = never_bad_header

pub returns-clause-whole : goal.returns-clause-whole
returns-clause-whole c = never_bad_record
