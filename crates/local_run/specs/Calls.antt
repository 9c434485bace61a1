-- What a call of a closure needs.
use Rattle.std.specs.Prelude.{◌≡◌}
use denote.Ref.{MutBor}
use denote.Param.Members.{Mut}
use Rattle.std.specs.Fn.{Takes}

-- f may be called at a `&mut` to x
abbrev pub TakesAtMut : {F A R : Type 0} → Mut F (MutBor A × Unit {0}) (R × (MutBor A × Unit {0})) → F → A → Type 0
TakesAtMut {F} {A} g f x = (y : MutBor A) → y.now ≡ x → Takes g f (y, tt)
