use Rattle.std.proofs.Common.{◌≡◌, drop}
use Rattle.std.specs.Prelude.{filter_map, slice_get}
use Rattle.world_laws.specs.Worlds.{rule_started}
use Rattle.world_contents.proofs.rows.rule_at.Given as goal

-- what is left decides
abbrev pub invariant-loop-record : goal.invariant-loop-record
invariant-loop-record l = slice_get (filter_map rule_started (drop l.record-index l.records)) l.before ≡ slice_get (filter_map rule_started l.records) l.fn.attempt.0
