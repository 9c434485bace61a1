-- One step of the evaluator keeps what it gives.
use Rattle.std.proofs.Common.{◌≡◌, ℕ, ◌+◌, ◌-◌, ◌<◌, ◌≤◌, Bool, true, false, List, [], ◌∷◌, ◌++◌, take, drop, length, get_or, reverse, Option, Some, None, Result, Ok, Err, refl, sym, ap, subst, ◌∙◌, arith}
use Rattle.std.proofs.lemmas.Bool.{lt-ltb, le-ltb}
use Rattle.std.proofs.lemmas.List.{reverse-append, drop_more, take_all, length-drop}
use Rattle.jx_syntax.specs.declared.value.JxValue.{JxValue}
use Rattle.jx_syntax.specs.declared.node.Form.{Form}
use Rattle.jx_syntax.specs.declared.node.Form.TheVariants as form
use Rattle.jx_syntax.specs.Tree.{Tree, form_tree}
use Rattle.jx_meaning.specs.declared.fault.EvalFault.{EvalFault}
use Rattle.jx_meaning.specs.declared.fault.EvalFault.TheVariants.{UnknownName, WrongKind, Overflow, ZeroDivisor, IndexRange, NoSuchKey, BadMark, ArgCount, TooMuch, Memory}
use Rattle.jx_meaning.specs.Answers.{Fails}
use Rattle.jx_meaning.specs.Values.{Value, null, truth, number, text, list, object, items, plain}
use Rattle.jx_meaning.specs.Numbers.{Answer}
use Rattle.std.specs.Bool.{beq}
use Rattle.jx_syntax.specs.declared.operator.Operator.{Operator}
use Rattle.jx_meaning.specs.Meaning.{Scope, Outcome, and_then, with_count, begun, with_truth, truth_of, with_list, unless, operate, evaluate}
use Rattle.jx_values.specs.Kinds.{truth_in, items_in}
use Rattle.jx_eval.specs.declared.frame.Bound.{Bound}
use Rattle.jx_eval.specs.declared.frame.Frame.{Frame}
use Rattle.jx_eval.specs.declared.frame.Frame.TheVariants as frame
use Rattle.jx_eval.specs.declared.state.State.{State}
use Rattle.jx_eval.specs.declared.state.Step.{Step}
use Rattle.jx_eval.specs.Machine.{after, outside, unwound, whole, Keeps}

-- a frame that was put on is the first to be taken off
pub pushed : (ts : List Tree) (s : Scope) (local : List Bound) (fs gs : List Frame) (f : Frame) (r : Outcome Value) → gs ≡ fs ++ f ∷ []
    → unwound ts s local (reverse gs) r ≡ unwound ts s (outside f local) (reverse fs) (after ts s local f r)
unfolding unwound
pushed ts s local fs gs f r e = rw e (rw (reverse-append fs (f ∷ [])) refl)

-- what is left of one outcome after another
pub then-assoc : {A B C : Type 0} (o : Outcome A) (f : A → ℕ → Outcome B) (g : B → ℕ → Outcome C) → and_then (and_then o f) g ≡ and_then o (λ x n. and_then (f x n) g)
then-assoc (Ok p) f g = refl
then-assoc (Err e) f g = refl

-- a slice's first element and the rest
pub first-is : {A : Type 0} (xs : List A) (x d : A) → 0 < length xs → d ≡ get_or xs 0 d → d ≡ x → xs ≡ x ∷ take (length xs - 1) (drop 1 xs)
first-is xs x d lt read is = drop_more xs 0 d lt ∙ ap (λ y. y ∷ drop 1 xs) (sym read ∙ is) ∙ ap (λ r. x ∷ r) (sym (take_all (length xs - 1) (drop 1 xs) (omega (arith, length-drop 1 xs))))

-- the same of numbers
pub first-number : (xs : List ℕ) → 0 < length xs → xs ≡ get_or xs 0 0 ∷ take (length xs - 1) (drop 1 xs)
first-number xs lt = drop_more xs 0 0 lt ∙ ap (λ r. get_or xs 0 0 ∷ r) (sym (take_all (length xs - 1) (drop 1 xs) (omega (arith, length-drop 1 xs))))

-- ---- faults

after-err : (ts : List Tree) (s : Scope) (local : List Bound) (f : Frame) (e : EvalFault) → after ts s local f (Err e) ≡ Err e
unfolding after
after-err ts s local (frame.Left o place right) e = refl
after-err ts s local (frame.Right o place x) e = refl
after-err ts s local (frame.Truth place) e = refl
after-err ts s local (frame.Indexed place i) e = refl
after-err ts s local (frame.Index place v) e = refl
after-err ts s local (frame.Sliced place x y) e = refl
after-err ts s local (frame.Start place v y) e = refl
after-err ts s local (frame.Stop place v i) e = refl
after-err ts s local (frame.Signed place o) e = refl
after-err ts s local (frame.Argument c) e = refl
after-err ts s local (frame.Field b) e = refl
after-err ts s local (frame.Over m l inner) e = refl
after-err ts s local (frame.Test m place inner) e = refl
after-err ts s local (frame.Body m) e = refl

-- no frame catches a fault
pub failed : (ts : List Tree) (s : Scope) (local : List Bound) (fs : List Frame) (e : EvalFault) → unwound ts s local fs (Err e) ≡ Err e
unfolding unwound
failed ts s local [] e = refl
failed ts s local (f ∷ fs) e = ap (unwound ts s (outside f local) fs) (after-err ts s local f e) ∙ failed ts s (outside f local) fs e

-- what fails, fails under all that hands faults on
pub fails-under : {A B : Type 0} (e : EvalFault) (a : Result A EvalFault) (g : Result A EvalFault → Result B EvalFault) → ((x : EvalFault) → g (Err x) ≡ Err x) → Fails e a → Fails e (g a)
fails-under (UnknownName p) a g h f = ap g f ∙ h (UnknownName p)
fails-under (WrongKind p) a g h f = ap g f ∙ h (WrongKind p)
fails-under (Overflow p) a g h f = ap g f ∙ h (Overflow p)
fails-under (ZeroDivisor p) a g h f = ap g f ∙ h (ZeroDivisor p)
fails-under (IndexRange p) a g h f = ap g f ∙ h (IndexRange p)
fails-under (NoSuchKey p) a g h f = ap g f ∙ h (NoSuchKey p)
fails-under (BadMark p) a g h f = ap g f ∙ h (BadMark p)
fails-under (ArgCount p) a g h f = ap g f ∙ h (ArgCount p)
fails-under (TooMuch p) a g h f = ap g f ∙ h (TooMuch p)
fails-under Memory a g h f = tt

-- the answer of an operation goes on
pub answered : (ts : List Tree) (s : Scope) (st : State) (a : Answer) (e : EvalFault) → Fails e a → Fails e (whole ts s st (with_count st.count a))
answered ts s st a e f = fails-under e a (λ b. whole ts s st (with_count st.count b)) (λ x. failed ts s st.local.items (reverse st.frames.items) x) f

-- ---- kinds

pub with-truth : {A : Type 0} (at : ℕ) (v : Value) (t : Bool) (f : Bool → Outcome A) → truth_in v ≡ Some t → with_truth at v f ≡ f t
with-truth at null t f e = absurd (cc)
with-truth at (truth u) t f e = let h : u ≡ t = cc in ap f h
with-truth at (number z) t f e = absurd (cc)
with-truth at (text x) t f e = absurd (cc)
with-truth at (list vs) t f e = absurd (cc)
with-truth at (object ps) t f e = absurd (cc)

pub with-no_truth : {A : Type 0} (at : ℕ) (v : Value) (f : Bool → Outcome A) → truth_in v ≡ None → with_truth at v f ≡ Err (WrongKind at)
with-no_truth at null f e = refl
with-no_truth at (truth u) f e = absurd (cc)
with-no_truth at (number z) f e = refl
with-no_truth at (text x) f e = refl
with-no_truth at (list vs) f e = refl
with-no_truth at (object ps) f e = refl

pub with-list : {A : Type 0} (at : ℕ) (v : Value) (vs : List Value) (f : List Value → Outcome A) → items_in v ≡ Some vs → with_list at v f ≡ f vs
with-list at null vs f e = absurd (cc)
with-list at (truth u) vs f e = absurd (cc)
with-list at (number z) vs f e = absurd (cc)
with-list at (text x) vs f e = absurd (cc)
with-list at (list ws) vs f e = let h : items ws ≡ vs = cc in ap f h
with-list at (object ps) vs f e = absurd (cc)

pub with-no_list : {A : Type 0} (at : ℕ) (v : Value) (f : List Value → Outcome A) → items_in v ≡ None → with_list at v f ≡ Err (WrongKind at)
with-no_list at null f e = refl
with-no_list at (truth u) f e = refl
with-no_list at (number z) f e = refl
with-no_list at (text x) f e = refl
with-no_list at (list ws) f e = absurd (cc)
with-no_list at (object ps) f e = refl

-- ---- nodes

-- a node that was counted
pub begin-is : {A : Type 0} (place n m : ℕ) (f : ℕ → Outcome A) → n < 10000000 → m ≡ n + 1 → begun place n f ≡ f m
begin-is place n m f lt e = rw (lt-ltb n 10000000 lt) (ap f (sym e))

-- a node too many
pub begin-past : {A : Type 0} (place n : ℕ) (f : ℕ → Outcome A) → 10000000 ≤ n → begun place n f ≡ Err (TooMuch place)
begin-past place n f le = rw (le-ltb n 10000000 le) refl

-- a node that was counted is begun
pub entered : (ts : List Tree) (s : Scope) (st new : State) (r : Result Step EvalFault) (place n : ℕ) (f : ℕ → Outcome Value) → n < 10000000 → st.count ≡ n + 1 → Keeps ts s new r (whole ts s st (f st.count))
    → Keeps ts s new r (whole ts s st (begun place n f))
entered ts s st new r place n f lt e k = subst (λ (o : Outcome Value). Keeps ts s new r (whole ts s st o)) (sym (begin-is place n st.count f lt e)) k

-- ---- `and`, `or` and the other operators

pub decided : (o : Operator) (q : Option Bool) (place : ℕ) (x : Value) (t d : Bool) (second : ℕ → Outcome Value) (n : ℕ) → q ≡ Some d → truth_in x ≡ Some t → beq t d ≡ true → (let v : Outcome Value = Ok (truth t, n) in v) ≡ operate q o place x second n
decided o q place x t d second n e h b = rw e (sym (with-truth place x t (λ t. unless (beq t d) (let v : Outcome Value = Ok (truth t, n) in v) (λ _. and_then (second n) (truth_of place))) h ∙ rw b refl))

pub undecided : (o : Operator) (q : Option Bool) (place : ℕ) (x : Value) (t d : Bool) (second : ℕ → Outcome Value) (n : ℕ) → q ≡ Some d → truth_in x ≡ Some t → beq t d ≡ false → and_then (second n) (truth_of place) ≡ operate q o place x second n
undecided o q place x t d second n e h b = rw e (sym (with-truth place x t (λ t. unless (beq t d) (let v : Outcome Value = Ok (truth t, n) in v) (λ _. and_then (second n) (truth_of place))) h ∙ rw b refl))

pub undecidable : (o : Operator) (q : Option Bool) (place : ℕ) (x : Value) (d : Bool) (second : ℕ → Outcome Value) (n : ℕ) → q ≡ Some d → truth_in x ≡ None → operate q o place x second n ≡ Err (WrongKind place)
undecidable o q place x d second n e h = rw e (with-no_truth place x (λ t. unless (beq t d) (let v : Outcome Value = Ok (truth t, n) in v) (λ _. and_then (second n) (truth_of place))) h)

-- a node too many, of any form
pub past : (ts : List Tree) (place : ℕ) (f : Form) (s : Scope) (n : ℕ) → 10000000 ≤ n → evaluate (form_tree ts place f) s n ≡ Err (TooMuch place)
unfolding evaluate
past ts place form.Null s n le = rw (le-ltb n 10000000 le) refl
past ts place (form.Truth b) s n le = rw (le-ltb n 10000000 le) refl
past ts place (form.Number z) s n le = rw (le-ltb n 10000000 le) refl
past ts place (form.Text t) s n le = rw (le-ltb n 10000000 le) refl
past ts place (form.Name x) s n le = rw (le-ltb n 10000000 le) refl
past ts place (form.Call x is) s n le = rw (le-ltb n 10000000 le) refl
past ts place (form.List is) s n le = rw (le-ltb n 10000000 le) refl
past ts place (form.Object fs) s n le = rw (le-ltb n 10000000 le) refl
past ts place (form.Index a i) s n le = rw (le-ltb n 10000000 le) refl
past ts place (form.Slice a x y) s n le = rw (le-ltb n 10000000 le) refl
past ts place (form.Signed o a) s n le = rw (le-ltb n 10000000 le) refl
past ts place (form.Operation o a b) s n le = rw (le-ltb n 10000000 le) refl

-- what is still to come once the innermost frame is taken off
pub taken : (ts : List Tree) (s : Scope) (local : List Bound) (fs gs : List Frame) (f : Frame) (v : JxValue) (n : ℕ) → gs ≡ fs ++ f ∷ []
    → unwound ts s local (reverse gs) (Ok (plain v, n)) ≡ unwound ts s (outside f local) (reverse fs) (after ts s local f (Ok (plain v, n)))
taken ts s local fs gs f v n e = pushed ts s local fs gs f (Ok (plain v, n)) e
