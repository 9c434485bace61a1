-- The order of values of each kind.
use Rattle.std.proofs.Common.{◌≡◌, Option, Some, None, refl}
use Rattle.std.specs.Ordering.{nat_cmp, int_cmp}
use Rattle.std.specs.Cmp.Lexicographic.{slice_cmp}
use Rattle.jx_meaning.specs.Values.{Value, null, truth, number, text, list, object}
use Rattle.jx_meaning.specs.Operations.{compared}
use Rattle.jx_values.specs.Kinds.{number_in, text_in}

-- what two values of one kind give
abbrev pub with_both : {A B : Type 0} → Option A → Option A → (A → A → B) → Option B
with_both (Some x) (Some y) f = Some (f x y)
with_both x y f = None

abbrev pub first_of : {A B : Type 0} → Option A → B → B → B
first_of (Some x) own other = own
first_of None own other = other

pub orders-views : (a b : Value) → compared a b ≡ first_of (number_in a) (with_both (number_in a) (number_in b) int_cmp) (with_both (text_in a) (text_in b) (slice_cmp nat_cmp))
orders-views null null = refl
orders-views null (truth u) = refl
orders-views null (number y) = refl
orders-views null (text y) = refl
orders-views null (list ws) = refl
orders-views null (object qs) = refl
orders-views (truth t) null = refl
orders-views (truth t) (truth u) = refl
orders-views (truth t) (number y) = refl
orders-views (truth t) (text y) = refl
orders-views (truth t) (list ws) = refl
orders-views (truth t) (object qs) = refl
orders-views (number x) null = refl
orders-views (number x) (truth u) = refl
orders-views (number x) (number y) = refl
orders-views (number x) (text y) = refl
orders-views (number x) (list ws) = refl
orders-views (number x) (object qs) = refl
orders-views (text x) null = refl
orders-views (text x) (truth u) = refl
orders-views (text x) (number y) = refl
orders-views (text x) (text y) = refl
orders-views (text x) (list ws) = refl
orders-views (text x) (object qs) = refl
orders-views (list vs) null = refl
orders-views (list vs) (truth u) = refl
orders-views (list vs) (number y) = refl
orders-views (list vs) (text y) = refl
orders-views (list vs) (list ws) = refl
orders-views (list vs) (object qs) = refl
orders-views (object ps) null = refl
orders-views (object ps) (truth u) = refl
orders-views (object ps) (number y) = refl
orders-views (object ps) (text y) = refl
orders-views (object ps) (list ws) = refl
orders-views (object ps) (object qs) = refl

pub ruleset orders = (orders-views)
