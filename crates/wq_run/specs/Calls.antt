-- What a call of a closure at a value and at a `&mut` needs and gives.
use Rattle.std.specs.Prelude.{◌≡◌, Option, Some}
use denote.Ref.{MutBor}
use denote.Param.Members.{Mut}
use Rattle.std.specs.Fn.{Called, Takes}

-- f may be called at x and at a `&mut` to y
abbrev pub TakesWith : {F A B : Type 0} → Mut F (A × (MutBor B × Unit {0})) (A × (MutBor B × Unit {0})) → F → A → B → Type 0
TakesWith {F} {A} {B} g f x y = (v : MutBor B) → v.now ≡ y → Takes g f (x, (v, tt))

-- Such a call may give x_now, and leave these.
pub record CalledWith {F A B : Type 0} (g : Mut F (A × (MutBor B × Unit {0})) (A × (MutBor B × Unit {0}))) (f : F) (x : A) (y : B) (x_now : A) (f_now : F) (y_now : B) : Type 0 where
  pub shown : MutBor B
  pub shows : shown.now ≡ y
  pub left : MutBor B
  pub called : Called g f (x, (shown, tt)) (x_now, (left, tt)) f_now
  pub leaves : left.now ≡ y_now

-- There is a value, and f may be called at it.
pub record TakesFrom {F A B : Type 0} (g : Mut F (A × (MutBor B × Unit {0})) (A × (MutBor B × Unit {0}))) (f : F) (slot : Option A) (y : B) : Type 0 where
  pub value : A
  pub is : slot ≡ Some value
  pub takes : TakesWith g f value y

-- There was a value, and what the call at it gave is there now.
pub record CalledFrom {F A B : Type 0} (g : Mut F (A × (MutBor B × Unit {0})) (A × (MutBor B × Unit {0}))) (f : F) (slot : Option A) (y : B) (slot_now : Option A) (f_now : F) (y_now : B) : Type 0 where
  pub value : A
  pub was : slot ≡ Some value
  pub given : A
  pub is : slot_now ≡ Some given
  pub called : CalledWith g f value y given f_now y_now
