use Rattle.mf_text.proofs.Cutting.{name_boundary, len_of_name}
use Rattle.mf_text.proofs.parts.split_name.Goals as goal

pub split_at-requires : goal.split_at-requires
split_at-requires c = name_boundary c.args.text.now c.in-Some.len c.utf8.text (len_of_name _ _ _ c.in-Some.ensures).1
