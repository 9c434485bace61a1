-- What can't begin with a hello.
use Rattle.std.specs.Prelude.{ℕ, Bool, not, ◌&&◌, nat_eq, List, [], ◌∷◌, take}
use Rattle.std.specs.List.{starts_with}
use Rattle.link_session.specs.declared.session.Stage.{Stage}
use Rattle.link_session.specs.Sessions.{awaits_hello}

-- what each hello's frame begins with: the length of its body, 35, in four bytes, and its kind, 1
abbrev pub hello_head : List ℕ
hello_head = 0 ∷ 0 ∷ 0 ∷ 35 ∷ 1 ∷ []

-- these bytes begin as a hello's frame does, as far as they came
abbrev pub may_greet : List ℕ → Bool
may_greet bytes = starts_with nat_eq hello_head (take 5 bytes)

-- no message was heard, and the bytes that came can't begin with a hello
abbrev pub is_stranger : Stage → List ℕ → Bool
is_stranger stage rest = awaits_hello stage && not (may_greet rest)
