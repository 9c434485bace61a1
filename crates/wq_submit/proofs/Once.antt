-- What a round of a queue may answer, or not yet.
use Rattle.std.proofs.Common.{Option, None, Some}
use Rattle.std.specs.Prelude.{IfSome}

pub some_map : {A : Type 0} (P Q : A → Type 0) → ((x : A) → P x → Q x) → (r : Option A) → IfSome r P → IfSome r Q
some_map P Q step None is = tt
some_map P Q step (Some x) is = step x is

pub some_both : {A : Type 0} (P Q R : A → Type 0) → ((x : A) → P x → Q x → R x) → (r : Option A) → IfSome r P → IfSome r Q → IfSome r R
some_both P Q R step None one two = tt
some_both P Q R step (Some x) one two = step x one two
