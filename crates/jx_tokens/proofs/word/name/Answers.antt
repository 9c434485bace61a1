use Rattle.std.proofs.Common.{◌≡◌, ◌+◌, drop, get_or}
use Rattle.std.specs.List.{prefix_len}
use Rattle.jx_tokens.specs.Bytes.{in_name}
use Rattle.jx_tokens.proofs.Fronts.{begins_in_name, boundary_at_word_end}
use Rattle.jx_tokens.proofs.word.name.Goals as goal

pub range-requires-clause-end_boundary : goal.range-requires-clause-end_boundary
range-requires-clause-end_boundary c =
    let d = c.args.text.now in
    let is : c.word_end-end.result ≡ c.args.at + prefix_len in_name (drop c.args.at d) = rw (← c.as_bytes.ensures.value) c.word_end-end.ensures.run in
    boundary_at_word_end d c.args.at c.word_end-end.result c.utf8.text c.requires.within (begins_in_name (get_or d c.args.at 0) c.requires.begins) is
