-- Where a fault is.
use Rattle.std.specs.Prelude.{ℕ}
use Rattle.byte_fields.specs.declared.fault.FieldFault.{FieldFault}
use Rattle.byte_fields.specs.declared.fault.FieldFault.TheVariants.{Short, Kind, BadText, Long}

-- how many bytes there are from the first wrong one to the end
abbrev pub left_of : FieldFault → ℕ
left_of Short = 0
left_of (Kind left) = left
left_of (BadText left) = left
left_of (Long left) = left
