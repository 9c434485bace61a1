-- The loops of a list that is being made.
use Rattle.std.proofs.Common.{◌≡◌, ℕ, List, [], ◌∷◌, ◌++◌, map, take, length, reverse, Some, Ok, Err, refl, sym, ap, ◌∙◌, arith}
use Rattle.std.proofs.lemmas.List.{take_all}
use Rattle.std.proofs.Math.Seq.{take-append_seam}
use Rattle.jx_syntax.specs.declared.value.JxValue.{JxValue}
use Rattle.jx_syntax.specs.declared.node.Loop.{Loop}
use Rattle.jx_syntax.specs.declared.node.Item.{Item}
use Rattle.jx_syntax.specs.Tree.{Tree, no_entries, entries_at}
use Rattle.jx_meaning.specs.Values.{Value, plain, list, values}
use Rattle.jx_meaning.specs.Meaning.{Scope, Outcome, and_then, with_list, turns, evaluate_entries}
use Rattle.jx_values.specs.Kinds.{items_in}
use Rattle.jx_eval.specs.declared.frame.Bound.{Bound}
use Rattle.jx_eval.specs.declared.frame.Turn.{Turn}
use Rattle.jx_eval.specs.declared.frame.Frame.{Frame}
use Rattle.jx_eval.specs.Operands.{seen_value}
use Rattle.jx_eval.specs.Machine.{bound_on, finished, within, turn_of, turns_of, around, outside_of, unwound}
use Rattle.jx_eval.proofs.Names.{bound-push}
use Rattle.jx_eval.proofs.Behind.{reverse-last}
use Rattle.jx_eval.proofs.Steps.{then-assoc, with-list}

-- the same follows in two ways
pub then-same : {A B : Type 0} (o : Outcome A) (f g : A → ℕ → Outcome B) → ((x : A) (n : ℕ) → f x n ≡ g x n) → and_then o f ≡ and_then o g
then-same (Ok p) f g h = h p.0 p.1
then-same (Err e) f g h = refl

-- ---- one loop more

pub outside-push : (depth : ℕ) (local l : List Bound) (xs ys : List Turn) (t : Turn) → ys ≡ xs ++ t ∷ [] → take t.depth local ≡ l → outside_of depth local (reverse ys) ≡ outside_of depth l (reverse xs)
unfolding outside_of
outside-push depth local l xs ys t e d = ap (outside_of depth local) (ap reverse e ∙ reverse-last xs t) ∙ ap (λ (b : List Bound). outside_of depth b (reverse xs)) d

pub around-push : (ts : List Tree) (s : Scope) (local l : List Bound) (place body depth : ℕ) (rest : List Item) (xs ys : List Turn) (t : Turn) (done : List Value) (n : ℕ) → ys ≡ xs ++ t ∷ [] → take t.depth local ≡ l
    → around ts s local place body depth rest (reverse ys) done n ≡ and_then (turns_of ts (bound_on l s) place body t done n) (around ts s l place body depth rest (reverse xs))
unfolding around
around-push ts s local l place body depth rest xs ys t done n e d = ap (λ (us : List Turn). around ts s local place body depth rest us done n) (ap reverse e ∙ reverse-last xs t)
    ∙ ap (λ (b : List Bound). and_then (turns_of ts (bound_on b s) place body t done n) (around ts s b place body depth rest (reverse xs))) d

-- ---- an item

-- the first of the items is begun, no loop is under way
pub item-starts : (ts : List Tree) (s : Scope) (local : List Bound) (fs : List Frame) (place body depth : ℕ) (rest all : List Item) (i : Item) (loops : List Loop) (xs : List Turn) (done : List Value) (n : ℕ)
    → all ≡ i ∷ rest → body ≡ i.body → loops ≡ i.loops → xs ≡ [] → depth ≡ length local
    → unwound ts s (outside_of depth local (reverse xs)) fs (and_then (within ts (bound_on local s) place body loops done n) (around ts s local place body depth rest (reverse xs)))
    ≡ unwound ts s local fs (finished ts (bound_on local s) place all done n)
unfolding around outside_of evaluate_entries
item-starts ts s local fs place body depth rest all i loops xs done n a b l x d =
    let here : take depth local ≡ local = take_all depth local (omega (arith, d)) in
    let w : ℕ → List Loop → Outcome (List Value) = λ (k : ℕ) (ls : List Loop). within ts (bound_on local s) place k ls done n in
    ap (λ (us : List Turn). unwound ts s (outside_of depth local (reverse us)) fs (and_then (w body loops) (around ts s local place body depth rest (reverse us)))) x
    ∙ ap (λ (o : List Bound). unwound ts s o fs (and_then (w body loops) (λ done n. finished ts (bound_on o s) place rest done n))) here
    ∙ ap (λ (k : ℕ). unwound ts s local fs (and_then (w k loops) (λ done n. finished ts (bound_on local s) place rest done n))) b
    ∙ ap (λ (ls : List Loop). unwound ts s local fs (and_then (w i.body ls) (λ done n. finished ts (bound_on local s) place rest done n))) l
    ∙ ap (unwound ts s local fs) (sym (then-assoc (w i.body i.loops) (λ done n. evaluate_entries place (entries_at ts rest no_entries) done (bound_on local s) n) (λ vs n. Ok (list (values vs), n))))
    ∙ ap (λ (is : List Item). unwound ts s local fs (finished ts (bound_on local s) place is done n)) (sym a)

-- ---- a turn

module _ (ts : List Tree) (s : Scope) (fs : List Frame) (l local : List Bound) (b : Bound) (place body depth d : ℕ) (rest : List Item) (xs ys : List Turn) (t : Turn) (done : List Value) (n : ℕ)
    (bound : local ≡ l ++ b ∷ []) (loops : ys ≡ xs ++ record t { depth = d } ∷ []) (outer : d ≡ length l) (same : b.name.now ≡ t.name.now) where
  abbrev v : Value
  v = plain (seen_value b.value)

  taken : take d local ≡ l
  taken = ap (take d) bound ∙ ap (λ (k : ℕ). take k (l ++ b ∷ [])) outer ∙ take-append_seam l (b ∷ [])

  inside : bound_on local s ≡ (t.name.now, v) ∷ bound_on l s
  inside = ap (λ (bs : List Bound). bound_on bs s) bound ∙ bound-push l b s ∙ ap (λ (x : List ℕ). (x, v) ∷ bound_on l s) same

  -- what follows the results of the turn
  abbrev more : List Value → ℕ → Outcome Value
  more done n = and_then (turns_of ts (bound_on l s) place body t done n) (around ts s l place body depth rest (reverse xs))

  -- what is begun in the scope of the turn is begun in this one
  pub turn-starts : (f : Scope → Outcome (List Value)) → f ((t.name.now, v) ∷ bound_on l s) ≡ turn_of ts (bound_on l s) place body t v done n
      → unwound ts s (outside_of depth local (reverse ys)) fs (and_then (f (bound_on local s)) (around ts s local place body depth rest (reverse ys)))
      ≡ unwound ts s (outside_of depth l (reverse xs)) fs (and_then (turn_of ts (bound_on l s) place body t v done n) more)
  turn-starts f e =
      ap (λ (o : List Bound). unwound ts s o fs (and_then (f (bound_on local s)) (around ts s local place body depth rest (reverse ys)))) (outside-push depth local l xs ys (record t { depth = d }) loops taken)
      ∙ ap (λ (i : Scope). unwound ts s (outside_of depth l (reverse xs)) fs (and_then (f i) (around ts s local place body depth rest (reverse ys)))) inside
      ∙ ap (λ (o : Outcome (List Value)). unwound ts s (outside_of depth l (reverse xs)) fs (and_then o (around ts s local place body depth rest (reverse ys)))) e
      ∙ ap (unwound ts s (outside_of depth l (reverse xs)) fs) (then-same (turn_of ts (bound_on l s) place body t v done n) (around ts s local place body depth rest (reverse ys)) more
      (λ done n. around-push ts s local l place body depth rest xs ys (record t { depth = d }) done n loops taken))

-- a loop over these values begins
pub loop-starts : (ts : List Tree) (s : Scope) (fs : List Frame) (local : List Bound) (place body depth at : ℕ) (rest : List Item) (xs ys : List Turn) (t : Turn) (v : Value) (done : List Value) (n : ℕ)
    → ys ≡ xs ++ t ∷ [] → t.depth ≡ length local → items_in v ≡ Some (map plain t.left)
    → unwound ts s (outside_of depth local (reverse ys)) fs (around ts s local place body depth rest (reverse ys) done n)
    ≡ unwound ts s (outside_of depth local (reverse xs)) fs (and_then (with_list at v (λ vs. turns (turn_of ts (bound_on local s) place body t) vs done n)) (around ts s local place body depth rest (reverse xs)))
loop-starts ts s fs local place body depth at rest xs ys t v done n e d i =
    let all : take t.depth local ≡ local = take_all t.depth local (omega (arith, d)) in
    ap (λ (o : List Bound). unwound ts s o fs (around ts s local place body depth rest (reverse ys) done n)) (outside-push depth local local xs ys t e all)
    ∙ ap (unwound ts s (outside_of depth local (reverse xs)) fs) (around-push ts s local local place body depth rest xs ys t done n e all
    ∙ ap (λ (o : Outcome (List Value)). and_then o (around ts s local place body depth rest (reverse xs))) (sym (with-list at v (map plain t.left) (λ vs. turns (turn_of ts (bound_on local s) place body t) vs done n) i)))

-- ---- the turns that are left

module _ (ts : List Tree) (s : Scope) (fs : List Frame) (local : List Bound) (place body depth : ℕ) (rest : List Item) (xs ys : List Turn) (t : Turn) (done : List Value) (n : ℕ) (loops : ys ≡ xs ++ t ∷ []) where
  abbrev out : List Bound
  out = take t.depth local

  abbrev after_it : List Value → ℕ → Outcome Value
  after_it = around ts s out place body depth rest (reverse xs)

  open-loop : unwound ts s (outside_of depth local (reverse ys)) fs (around ts s local place body depth rest (reverse ys) done n)
      ≡ unwound ts s (outside_of depth out (reverse xs)) fs (and_then (turns_of ts (bound_on out s) place body t done n) after_it)
  open-loop = ap (λ (o : List Bound). unwound ts s o fs (around ts s local place body depth rest (reverse ys) done n)) (outside-push depth local out xs ys t loops refl)
      ∙ ap (unwound ts s (outside_of depth out (reverse xs)) fs) (around-push ts s local out place body depth rest xs ys t done n loops refl)

  -- a loop without a turn to come ends
  pub loop-ends : t.left ≡ [] → unwound ts s (outside_of depth out (reverse xs)) fs (after_it done n)
      ≡ unwound ts s (outside_of depth local (reverse ys)) fs (around ts s local place body depth rest (reverse ys) done n)
  loop-ends e = sym (open-loop ∙ ap (λ (vs : List JxValue). unwound ts s (outside_of depth out (reverse xs)) fs (and_then (turns (turn_of ts (bound_on out s) place body t) (map plain vs) done n) after_it)) e)

  -- the next turn of a loop
  pub loop-turns : (v : JxValue) (left : List JxValue) → t.left ≡ v ∷ left
      → unwound ts s (outside_of depth out (reverse xs)) fs (and_then (turn_of ts (bound_on out s) place body t (plain v) done n) (λ done n. and_then (turns (turn_of ts (bound_on out s) place body t) (map plain left) done n) after_it))
      ≡ unwound ts s (outside_of depth local (reverse ys)) fs (around ts s local place body depth rest (reverse ys) done n)
  loop-turns v left e = sym (open-loop ∙ ap (λ (vs : List JxValue). unwound ts s (outside_of depth out (reverse xs)) fs (and_then (turns (turn_of ts (bound_on out s) place body t) (map plain vs) done n) after_it)) e
      ∙ ap (unwound ts s (outside_of depth out (reverse xs)) fs) (then-assoc (turn_of ts (bound_on out s) place body t (plain v) done n) (turns (turn_of ts (bound_on out s) place body t) (map plain left)) after_it))

-- no loop is left
pub loops-end : (ts : List Tree) (s : Scope) (fs : List Frame) (local : List Bound) (place body depth : ℕ) (rest : List Item) (xs : List Turn) (done : List Value) (n : ℕ) → xs ≡ []
    → unwound ts s (take depth local) fs (finished ts (bound_on (take depth local) s) place rest done n)
    ≡ unwound ts s (outside_of depth local (reverse xs)) fs (around ts s local place body depth rest (reverse xs) done n)
unfolding around outside_of
loops-end ts s fs local place body depth rest xs done n e = rw e refl
