-- What a state of the evaluator still gives.
use Rattle.std.specs.Prelude.{◌≡◌, ℕ, List, [], ◌∷◌, ◌++◌, map, take, reverse, Option, Some, option_map, Result, Ok, Err}
use Rattle.jx_syntax.specs.declared.value.JxValue.{JxValue}
use Rattle.jx_syntax.specs.declared.node.Loop.{Loop}
use Rattle.jx_syntax.specs.declared.node.Item.{Item}
use Rattle.jx_syntax.specs.declared.node.Field as node
use Rattle.jx_syntax.specs.declared.node.Node.{Node}
use Rattle.jx_syntax.specs.Tree.{Tree, no_trees, no_entries, no_loops, no_fields, node_at, end_at, test_at, trees_at, loops_at, entries_at, fields_at, trees_onto}
use Rattle.jx_meaning.specs.declared.fault.EvalFault.{EvalFault}
use Rattle.jx_meaning.specs.Answers.{Fails}
use Rattle.jx_meaning.specs.Values.{Value, object, list, values, Entry, pairs, plain}
use Rattle.jx_meaning.specs.Lists.{with_item, with_key, indexed, sliced}
use Rattle.jx_meaning.specs.Functions.{function_of}
use Rattle.jx_meaning.specs.Operations.{signed, operated, applied}
use Rattle.jx_meaning.specs.Meaning.{Scope, Outcome, and_then, with_count, with_truth, truth_of, with_list, decides, operate, chosen, turns, evaluate, evaluate_all, evaluate_entries, evaluate_loops, evaluate_test, evaluate_fields, evaluate_end}
use Rattle.jx_values.specs.Kinds.{plain_pair}
use Rattle.jx_eval.specs.Operands.{seen_value}
use Rattle.jx_eval.specs.declared.frame.Bound.{Bound}
use Rattle.jx_eval.specs.declared.frame.Turn.{Turn}
use Rattle.jx_eval.specs.declared.frame.Making.{Making}
use Rattle.jx_eval.specs.declared.frame.Frame.{Frame}
use Rattle.jx_eval.specs.declared.frame.Frame.TheVariants as frame
use Rattle.jx_eval.specs.declared.state.State.{State}
use Rattle.jx_eval.specs.declared.state.Step.{Step}
use Rattle.jx_eval.specs.declared.state.Step.TheVariants as step

-- a name that a loop binds, and its value
abbrev pub bound_entry : Bound → Entry
bound_entry b = (b.name.now, plain (seen_value b.value))

-- the names of a scope with those of the loops within it, the outermost first
unfoldable pub bound_on : List Bound → Scope → Scope
bound_on [] s = s
bound_on (b ∷ bs) s = bound_on bs (bound_entry b ∷ s)

-- the trees of all nodes
abbrev pub trees : List Node → List Tree
trees ns = trees_onto [] ns

-- ---- what is still to come of a form, once its first parts are done

-- of a call, behind the arguments so far
abbrev pub called : List Tree → Scope → ℕ → List ℕ → List ℕ → List Value → ℕ → Outcome Value
called ts s place name rest done n = and_then (evaluate_all (trees_at ts rest no_trees) done s n) (λ vs n. with_count n (applied (function_of name) place s vs))

-- of an object, behind the keys so far
abbrev pub filled : List Tree → Scope → ℕ → List node.Field → List Entry → ℕ → Outcome Value
filled ts s place rest done n = and_then (evaluate_fields place (fields_at ts rest no_fields) done s n) (λ es n. Ok (object (pairs es), n))

-- of a slice, with its stop still to come
abbrev pub stopped : List Tree → Scope → ℕ → Value → Option Value → Option ℕ → ℕ → Outcome Value
stopped ts s place v start stop n = and_then (evaluate_end (end_at ts stop) s n) (λ j n. with_count n (sliced place v start j))

-- of a slice, with both ends still to come
abbrev pub started : List Tree → Scope → ℕ → Value → Option ℕ → Option ℕ → ℕ → Outcome Value
started ts s place v start stop n = and_then (evaluate_end (end_at ts start) s n) (λ i n. stopped ts s place v i stop n)

-- of a list, behind the items so far
abbrev pub finished : List Tree → Scope → ℕ → List Item → List Value → ℕ → Outcome Value
finished ts s place rest done n = and_then (evaluate_entries place (entries_at ts rest no_entries) done s n) (λ vs n. Ok (list (values vs), n))

-- ---- loops

-- the results of an item within these loops, behind those so far
abbrev pub within : List Tree → Scope → ℕ → ℕ → List Loop → List Value → ℕ → Outcome (List Value)
within ts s place body loops done n = evaluate_loops place (loops_at ts loops no_loops) (evaluate (node_at ts body)) s done n

-- the results of a loop's turn for this value, behind those so far
abbrev pub turn_of : List Tree → Scope → ℕ → ℕ → Turn → Value → List Value → ℕ → Outcome (List Value)
turn_of ts s place body t v done n = evaluate_test (test_at ts t.condition) ((t.name.now, v) ∷ s) n (within ts ((t.name.now, v) ∷ s) place body t.inner.now done) (λ n. Ok (done, n))

-- the results of all turns that are left, behind those so far
abbrev pub turns_of : List Tree → Scope → ℕ → ℕ → Turn → List Value → ℕ → Outcome (List Value)
turns_of ts s place body t done n = turns (turn_of ts s place body t) (map plain t.left) done n

-- the list, from the turns of these loops on, the innermost first
unfoldable pub around : List Tree → Scope → List Bound → ℕ → ℕ → ℕ → List Item → List Turn → List Value → ℕ → Outcome Value
around ts s local place body depth rest [] done n = finished ts (bound_on (take depth local) s) place rest done n
around ts s local place body depth rest (t ∷ more) done n = and_then (turns_of ts (bound_on (take t.depth local) s) place body t done n) (around ts s (take t.depth local) place body depth rest more)

-- the names that loops bind outside of a list, from these loops on, the innermost first
unfoldable pub outside_of : ℕ → List Bound → List Turn → List Bound
outside_of depth local [] = take depth local
outside_of depth local (t ∷ more) = outside_of depth (take t.depth local) more

-- ---- frames

-- the list, from the next turn of its loops on
abbrev pub goes_on : List Tree → Scope → List Bound → Making → List Value → ℕ → Outcome Value
goes_on ts s local m done n = around ts s local m.place m.body m.depth m.rest.now (reverse m.loops.items) done n

-- the list, from the loops within the turn on
abbrev pub enters : List Tree → Scope → List Bound → Making → List Loop → ℕ → Outcome Value
enters ts s local m inner n = and_then (within ts (bound_on local s) m.place m.body inner (map plain m.done) n) (goes_on ts s local m)

-- what a frame makes of its operand, where loops bind these names
unfoldable pub after : List Tree → Scope → List Bound → Frame → Outcome Value → Outcome Value
after ts s local (frame.Left o place right) r = and_then r (λ x n. operate (decides o) o place x (evaluate (node_at ts right) (bound_on local s)) n)
after ts s local (frame.Right o place x) r = and_then r (λ y n. with_count n (operated o place (plain x) y))
after ts s local (frame.Truth place) r = and_then r (truth_of place)
after ts s local (frame.Indexed place i) r = and_then r (λ v n. and_then (evaluate (node_at ts i) (bound_on local s) n) (λ j n. with_count n (indexed place v j)))
after ts s local (frame.Index place v) r = and_then r (λ j n. with_count n (indexed place (plain v) j))
after ts s local (frame.Sliced place x y) r = and_then r (λ v n. started ts (bound_on local s) place v x y n)
after ts s local (frame.Start place v y) r = and_then (and_then r (λ i n. Ok (Some i, n))) (λ i n. stopped ts (bound_on local s) place (plain v) i y n)
after ts s local (frame.Stop place v i) r = and_then (and_then r (λ j n. Ok (Some j, n))) (λ j n. with_count n (sliced place (plain v) (option_map plain i) j))
after ts s local (frame.Signed place o) r = and_then r (λ v n. with_count n (signed place o v))
after ts s local (frame.Argument c) r = and_then (and_then r (λ v n. evaluate_all (trees_at ts c.rest.now no_trees) (map plain c.done.items ++ v ∷ []) (bound_on local s) n)) (λ vs n. with_count n (applied (function_of c.name.now) c.place (bound_on local s) vs))
after ts s local (frame.Field b) r = and_then (and_then r (λ v n. and_then (with_count n (with_key b.place b.key.now v (map plain_pair b.done))) (λ done n. evaluate_fields b.place (fields_at ts b.rest.now no_fields) done (bound_on local s) n))) (λ es n. Ok (object (pairs es), n))
after ts s local (frame.Over m l inner) r = and_then (and_then r (λ v n. with_list l.now.place v (λ vs. turns (λ v done n. evaluate_test (test_at ts l.now.condition) ((l.now.name, v) ∷ bound_on local s) n
    (within ts ((l.now.name, v) ∷ bound_on local s) m.place m.body inner.now done) (λ n. Ok (done, n))) vs (map plain m.done) n))) (goes_on ts s local m)
after ts s local (frame.Test m place inner) r = and_then (and_then r (λ c n. with_truth place c (λ b. chosen b (within ts (bound_on local s) m.place m.body inner.now (map plain m.done)) (λ n. Ok (map plain m.done, n)) n))) (goes_on ts s local m)
after ts s local (frame.Body m) r = and_then (and_then r (λ v n. with_count n (with_item m.place (map plain m.done) v))) (goes_on ts s local m)

-- the names that loops bind outside of a list that is being made
abbrev pub outside_list : Making → List Bound → List Bound
outside_list m local = outside_of m.depth local (reverse m.loops.items)

-- the names that loops bind outside of a frame
abbrev pub outside : Frame → List Bound → List Bound
outside (frame.Over m l inner) local = outside_list m local
outside (frame.Test m place inner) local = outside_list m local
outside (frame.Body m) local = outside_list m local
outside f local = local

-- what the frames make of the innermost one's operand; the innermost stands first
unfoldable pub unwound : List Tree → Scope → List Bound → List Frame → Outcome Value → Outcome Value
unwound ts s local [] r = r
unwound ts s local (f ∷ fs) r = unwound ts s (outside f local) fs (after ts s local f r)

-- ---- states

-- what the frames of a state make of an operand
abbrev pub whole : List Tree → Scope → State → Outcome Value → Outcome Value
whole ts s st r = unwound ts s st.local.items (reverse st.frames.items) r

-- what the frames of a state make of a list that is being made
abbrev pub listed : List Tree → Scope → State → Making → Outcome Value → Outcome Value
listed ts s st m r = unwound ts s (outside_list m st.local.items) (reverse st.frames.items) r

-- what a frame and those around it make of a node
abbrev pub waits : List Tree → Scope → State → Frame → ℕ → Outcome Value
waits ts s st f i = unwound ts s (outside f st.local.items) (reverse st.frames.items) (after ts s st.local.items f (evaluate (node_at ts i) (bound_on st.local.items s) st.count))

-- what a frame and those around it make of a value
abbrev pub handed : List Tree → Scope → State → Frame → JxValue → Outcome Value
handed ts s st f v = unwound ts s (outside f st.local.items) (reverse st.frames.items) (after ts s st.local.items f (Ok (plain v, st.count)))

-- what the evaluator gives from here
abbrev pub given : List Tree → Scope → State → Step → Outcome Value
given ts s st (step.Begin i) = whole ts s st (evaluate (node_at ts i) (bound_on st.local.items s) st.count)
given ts s st (step.Value v) = whole ts s st (Ok (plain v, st.count))

-- a step keeps what the evaluator gives, unless memory ran out
abbrev pub Keeps : List Tree → Scope → State → Result Step EvalFault → Outcome Value → Type 0
Keeps ts s st (Ok next) outcome = given ts s st next ≡ outcome
Keeps ts s st (Err e) outcome = Fails e outcome

-- a value goes on to a frame, a node is begun
abbrev pub weight : Step → ℕ
weight (step.Begin i) = 0
weight (step.Value v) = 1
