-- What an expression is worth where names have values, and how many nodes were begun then, or its first fault.
use Rattle.std.specs.Prelude.{◌≡◌, ℕ, ◌+◌, Bool, true, false, List, [], ◌∷◌, ◌++◌, Option, Some, None, Result, Ok, Err, nat_lt}
use Rattle.std.specs.Bool.{beq}
use Rattle.jx_syntax.specs.declared.operator.Operator.{Operator}
use Rattle.jx_syntax.specs.declared.operator.Operator.TheVariants as op
use Rattle.jx_syntax.specs.Tree.{Tree, Trees, Entries, Loops, Test, Fields, End}
use Rattle.jx_syntax.specs.Tree as tree
use Rattle.jx_meaning.specs.declared.fault.EvalFault.{EvalFault}
use Rattle.jx_meaning.specs.declared.fault.EvalFault.TheVariants.{UnknownName, WrongKind, TooMuch}
use Rattle.jx_meaning.specs.Values.{Value, null, truth, number, text, list, object, items, values, Entry, pairs, find}
use Rattle.jx_meaning.specs.Numbers.{Answer}
use Rattle.jx_meaning.specs.Lists.{with_item, with_key, indexed, sliced}
use Rattle.jx_meaning.specs.Functions.{function_of}
use Rattle.jx_meaning.specs.Operations.{signed, operated, applied}

-- the names that have values, and these
abbrev pub Scope : Type 0
Scope = List Entry

-- what was made and the nodes begun so far, or a fault
abbrev pub Outcome : Type 0 → Type 0
Outcome A = Result (A × ℕ) EvalFault

-- what follows what was made, where it has no fault
abbrev pub and_then : {A B : Type 0} → Outcome A → (A → ℕ → Outcome B) → Outcome B
and_then (Ok p) f = f p.0 p.1
and_then (Err e) f = Err e

-- an answer with this number of nodes
abbrev pub with_count : {A : Type 0} → ℕ → Result A EvalFault → Outcome A
with_count n (Ok v) = Ok (v, n)
with_count n (Err e) = Err e

-- what follows with one node more, or the fault that there is one too many
abbrev pub begun_if : {A : Type 0} → Bool → ℕ → ℕ → (ℕ → Outcome A) → Outcome A
begun_if true at n f = f (n + 1)
begun_if false at n f = Err (TooMuch at)

-- one node more: it counts as it is begun
abbrev pub begun : {A : Type 0} → ℕ → ℕ → (ℕ → Outcome A) → Outcome A
begun at n f = begun_if (nat_lt n 10000000) at n f

-- ---- names, truth values and lists

-- the value of a name, or the fault that it has none
abbrev pub known : ℕ → Option Value → ℕ → Outcome Value
known at (Some v) n = Ok (v, n)
known at None n = Err (UnknownName at)

-- what follows from a truth value; another value is a fault
abbrev pub with_truth : {A : Type 0} → ℕ → Value → (Bool → Outcome A) → Outcome A
with_truth at (truth t) f = f t
with_truth at v f = Err (WrongKind at)

-- a truth value as it is
abbrev pub truth_of : ℕ → Value → ℕ → Outcome Value
truth_of at v n = with_truth at v (λ t. Ok (truth t, n))

-- what follows from the items of a list; another value is a fault
abbrev pub with_list : {A : Type 0} → ℕ → Value → (List Value → Outcome A) → Outcome A
with_list at (list vs) f = f (items vs)
with_list at v f = Err (WrongKind at)

-- ---- `and` and `or`

-- the truth value of the first operand at which the second one isn't evaluated
abbrev pub decides : Operator → Option Bool
decides op.Or = Some true
decides op.And = Some false
decides o = None

-- this, or what follows
abbrev pub unless : {A : Type 0} → Bool → A → (Unit {0} → A) → A
unless true v more = v
unless false v more = more tt

-- an operator whose first operand has this value, with the second operand still to come
abbrev pub operate : Option Bool → Operator → ℕ → Value → (ℕ → Outcome Value) → ℕ → Outcome Value
operate (Some deciding) o at x second n = with_truth at x (λ t. unless (beq t deciding) (let r : Outcome Value = Ok (truth t, n) in r) (λ _. and_then (second n) (truth_of at)))
operate None o at x second n = and_then (second n) (λ y n. with_count n (operated o at x y))

-- ---- loops

-- what follows where a condition holds, or where it doesn't
abbrev pub chosen : {A : Type 0} → Bool → (ℕ → A) → (ℕ → A) → ℕ → A
chosen true held failed n = held n
chosen false held failed n = failed n

-- one turn for each value, behind the results so far
abbrev pub turns : (Value → List Value → ℕ → Outcome (List Value)) → List Value → List Value → ℕ → Outcome (List Value)
turns turn [] done n = Ok (done, n)
turns turn (v ∷ vs) done n = and_then (turn v done n) (turns turn vs)

-- ---- expressions

unfoldable mutual
  pub evaluate : Tree → Scope → ℕ → Outcome Value
  evaluate (tree.null at) s n = begun at n (λ n. Ok (null, n))
  evaluate (tree.truth at t) s n = begun at n (λ n. Ok (truth t, n))
  evaluate (tree.number at z) s n = begun at n (λ n. Ok (number z, n))
  evaluate (tree.text at t) s n = begun at n (λ n. Ok (text t, n))
  evaluate (tree.name at x) s n = begun at n (known at (find x s))
  evaluate (tree.call at x given) s n = begun at n (λ n. and_then (evaluate_all given [] s n) (λ vs n. with_count n (applied (function_of x) at s vs)))
  evaluate (tree.list at is) s n = begun at n (λ n. and_then (evaluate_entries at is [] s n) (λ vs n. Ok (list (values vs), n)))
  evaluate (tree.object at fs) s n = begun at n (λ n. and_then (evaluate_fields at fs [] s n) (λ es n. Ok (object (pairs es), n)))
  evaluate (tree.index at a i) s n = begun at n (λ n. and_then (evaluate a s n) (λ v n. and_then (evaluate i s n) (λ j n. with_count n (indexed at v j))))
  evaluate (tree.slice at a x y) s n = begun at n (λ n. and_then (evaluate a s n) (λ v n. and_then (evaluate_end x s n) (λ i n. and_then (evaluate_end y s n) (λ j n. with_count n (sliced at v i j)))))
  evaluate (tree.signed at o a) s n = begun at n (λ n. and_then (evaluate a s n) (λ v n. with_count n (signed at o v)))
  evaluate (tree.operation at o a b) s n = begun at n (λ n. and_then (evaluate a s n) (λ x n. operate (decides o) o at x (evaluate b s) n))

  -- the arguments of a call, behind those so far
  pub evaluate_all : Trees → List Value → Scope → ℕ → Outcome (List Value)
  evaluate_all tree.no_trees done s n = Ok (done, n)
  evaluate_all (tree.tree t more) done s n = and_then (evaluate t s n) (λ v n. evaluate_all more (done ++ v ∷ []) s n)

  -- the items of a list, behind those so far
  pub evaluate_entries : ℕ → Entries → List Value → Scope → ℕ → Outcome (List Value)
  evaluate_entries at tree.no_entries done s n = Ok (done, n)
  evaluate_entries at (tree.entry body loops more) done s n = and_then (evaluate_loops at loops (evaluate body) s done n) (λ done n. evaluate_entries at more done s n)

  -- the results of an item, behind those so far: nested loops, the first one outermost
  pub evaluate_loops : ℕ → Loops → (Scope → ℕ → Outcome Value) → Scope → List Value → ℕ → Outcome (List Value)
  evaluate_loops at tree.no_loops body s done n = and_then (body s n) (λ v n. with_count n (with_item at done v))
  evaluate_loops at (tree.loop place x over condition more) body s done n = and_then (evaluate over s n) (λ l n. with_list place l (λ vs.
      turns (λ v done n. evaluate_test condition ((x, v) ∷ s) n (evaluate_loops at more body ((x, v) ∷ s) done) (λ n. Ok (done, n))) vs done n))

  -- what follows where a condition holds, and where it doesn't
  pub evaluate_test : Test → Scope → ℕ → (ℕ → Outcome (List Value)) → (ℕ → Outcome (List Value)) → Outcome (List Value)
  evaluate_test tree.no_test s n held failed = held n
  evaluate_test (tree.test place t) s n held failed = and_then (evaluate t s n) (λ c n. with_truth place c (λ b. chosen b held failed n))

  -- the keys of an object, behind those so far
  pub evaluate_fields : ℕ → Fields → List Entry → Scope → ℕ → Outcome (List Entry)
  evaluate_fields at tree.no_fields done s n = Ok (done, n)
  evaluate_fields at (tree.field key t more) done s n = and_then (evaluate t s n) (λ v n. and_then (with_count n (with_key at key v done)) (λ done n. evaluate_fields at more done s n))

  -- an end of a slice, where it is given
  pub evaluate_end : End → Scope → ℕ → Outcome (Option Value)
  evaluate_end tree.no_end s n = Ok (None, n)
  evaluate_end (tree.end t) s n = and_then (evaluate t s n) (λ v n. Ok (Some v, n))

-- ---- the value and the fault of an expression

-- the expression has this value, after so many nodes
abbrev pub Evaluates : Scope → Tree → Value → ℕ → Type 0
Evaluates s t v n = evaluate t s 0 ≡ Ok (v, n)

-- this is the first fault of the expression
abbrev pub Faults : Scope → Tree → EvalFault → Type 0
Faults s t e = evaluate t s 0 ≡ Err e

-- the value alone
abbrev pub worth : Outcome Value → Answer
worth (Ok p) = Ok p.0
worth (Err e) = Err e

-- what an expression is worth where names have these values
abbrev pub value_of : Scope → Tree → Answer
value_of s t = worth (evaluate t s 0)
