-- What holds of every expression.
use Rattle.std.specs.Prelude.{◌≡◌, ℕ}
use Rattle.jx_syntax.specs.Tree.{Tree}
use Rattle.jx_meaning.specs.declared.fault.EvalFault.{EvalFault}
use Rattle.jx_meaning.specs.Values.{Value}
use Rattle.jx_meaning.specs.Meaning.{Scope, Evaluates, Faults}

-- an expression has one value, after one number of nodes
abbrev pub HasOneValue : Type 0
HasOneValue = (s : Scope) (t : Tree) (v w : Value) (n m : ℕ) → Evaluates s t v n → Evaluates s t w m → (v ≡ w) × (n ≡ m)

-- an expression has one first fault
abbrev pub HasOneFault : Type 0
HasOneFault = (s : Scope) (t : Tree) (e f : EvalFault) → Faults s t e → Faults s t f → e ≡ f

-- an expression that has a value has no fault
abbrev pub HasNoBoth : Type 0
HasNoBoth = (s : Scope) (t : Tree) (v : Value) (n : ℕ) (e : EvalFault) → Evaluates s t v n → Faults s t e → ⊥
