-- A call of a closure at a value that was kept in a place.
use Rattle.std.proofs.Common.{◌≡◌, ◌∙◌, Option, Some, None, ap, subst, sym}
use denote.Ref.{MutBor}
use denote.Param.Members.{Mut}
use Rattle.wq_run.specs.Calls.{CalledFrom, CalledWith, TakesFrom, TakesWith}

abbrev or_else : {A : Type 0} → A → Option A → A
or_else a None = a
or_else a (Some x) = x

pub same_value : {A : Type 0} (slot : Option A) (x y : A) → slot ≡ Some x → slot ≡ Some y → x ≡ y
same_value slot x y is was = ap (or_else x) (sym is ∙ was)

module _ {F A B : Type 0} (g : Mut F (A × (MutBor B × Unit {0})) (A × (MutBor B × Unit {0}))) where
  pub takes_from : (f : F) (slot : Option A) (x : A) (y : B) → slot ≡ Some x → TakesFrom g f slot y → TakesWith g f x y
  takes_from f slot x y is t = subst (λ (a : A). TakesWith g f a y) (same_value slot t.value x t.is is) t.takes

  pub called_from : (f f_now f_left : F) (slot slot_now : Option A) (x x_now : A) (y shown left y_now : B) → slot ≡ Some x → slot_now ≡ Some x_now → shown ≡ y → f_now ≡ f_left → left ≡ y_now
      → CalledFrom g f slot shown slot_now f_now left → CalledWith g f x y x_now f_left y_now
  called_from f f_now f_left slot slot_now x x_now y shown left y_now is is_now shows same leaves c =
      subst (λ (a : A). CalledWith g f a y x_now f_left y_now) (same_value slot c.value x c.was is)
      (subst (λ (a : A). CalledWith g f c.value y a f_left y_now) (same_value slot_now c.given x_now c.is is_now)
      (subst (λ (b : B). CalledWith g f c.value b c.given f_left y_now) shows
      (subst (λ (h : F). CalledWith g f c.value shown c.given h y_now) same
      (subst (λ (b : B). CalledWith g f c.value shown c.given f_now b) leaves c.called))))
