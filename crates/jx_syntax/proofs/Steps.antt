-- What waits on top, and what a token does with it.
use Rattle.std.proofs.Common.{◌≡◌, ℕ, false, List, [], ◌∷◌, ◌++◌, reverse, Result, Ok, Err, refl, sym, ap, subst, ◌∙◌}
use Rattle.std.proofs.lemmas.List.{reverse-append}
use Rattle.std.specs.Prelude.{IfOk}
use Rattle.jx_tokens.specs.declared.fault.JxFault.{JxFault}
use Rattle.jx_tokens.specs.declared.token.Kind.{Kind}
use Rattle.jx_tokens.specs.declared.token.Kind.TheVariants as kinds
use Rattle.jx_syntax.specs.declared.node.Loop.{Loop}
use Rattle.jx_syntax.specs.declared.node.Item as node
use Rattle.jx_syntax.specs.declared.node.Node.{Node}
use Rattle.jx_syntax.specs.declared.pending.Pending.{Pending}
use Rattle.jx_syntax.specs.declared.pending.Wanted.{Wanted}
use Rattle.jx_syntax.specs.declared.pending.Reader.{Reader}
use Rattle.jx_syntax.specs.Grammar.{Derivation, is_wide}
use Rattle.jx_syntax.specs.Reading.{Frame, State, Move, stuck, goes, opens, tried, moved, reduce, had, ends}
use Rattle.jx_syntax.specs.Shown.{IsFrame, Shows, IsNoName, Steps}

-- what was taken off the end of the stack waited on top
pub on_top : (ns : List Node) (old rest : List Pending) (top q : Pending) (fs : List Frame) → old ≡ rest ++ top ∷ [] → top ≡ q → Shows ns (reverse old) fs → Shows ns (q ∷ reverse rest) fs
on_top ns old rest top q fs e is h =
    subst (λ (l : List Pending). Shows ns l fs) (ap reverse e ∙ reverse-append rest (top ∷ []) ∙ ap (λ (t : Pending). t ∷ reverse rest) is) h

pub record IsTop (ns : List Node) (q : Pending) (qs : List Pending) (fs : List Frame) : Type 0 where
  pub frame : Frame
  pub below : List Frame
  pub same : fs ≡ frame ∷ below
  pub is : IsFrame ns q frame
  pub rest : Shows ns qs below

abbrev pub is_top : (ns : List Node) (q : Pending) (qs : List Pending) (fs : List Frame) → Shows ns (q ∷ qs) fs → IsTop ns q qs fs
is_top ns q qs fs h = record { frame = h.stack.0; below = h.stack.1; same = h.stack.2; is = h.stack.3; rest = record { stack = h.stack.4; ordered = h.ordered } }

pub to_go : (r : Reader) (res : Result Wanted JxFault) (n l p : ℕ) (m : Move) (next : State) → m ≡ goes next → Steps r res (Ok next) → Steps r res (tried n l p m)
to_go r res n l p m next e h = subst (λ (x : Move). Steps r res (tried n l p x)) (sym e) h

plain : (r : Reader) (res : Result Wanted JxFault) (n l p : ℕ) (j : Kind) → is_wide j ≡ false → (x : Move) → Steps r res (tried n l p x) → Steps r res (moved n l p j x)
plain r res n l p j w stuck g = rw w g
plain r res n l p j w (goes next) g = g
plain r res n l p j w (opens next) g = g

-- a token that is no number
pub at_kind : (r : Reader) (res : Result Wanted JxFault) (n l p : ℕ) (k j : Kind) (m : Kind → Move) → k ≡ j → is_wide j ≡ false → Steps r res (tried n l p (m j)) → Steps r res (moved n l p k (m k))
at_kind r res n l p k j m e w h = subst (λ (i : Kind). Steps r res (moved n l p i (m i))) (sym e) (plain r res n l p j w (m j) h)

-- an item by its parts
pub if_item : (res : Result node.Item JxFault) (b : ℕ) (ls : List Loop) (P : node.Item → Type 0) → IfOk res (λ i. i.body ≡ b) → IfOk res (λ i. i.loops ≡ ls)
    → P (record { body = b; loops = ls }) → IfOk res P
if_item (Ok i) b ls P e f h = subst (λ (l : List Loop). P (record { body = i.body; loops = l })) (sym f) (subst (λ (a : ℕ). P (record { body = a; loops = ls })) (sym e) h)
if_item (Err x) b ls P e f h = tt

-- ---- what is no operator

pub record IsOther (k : Kind) : Type 0 where
  pub is_no_Or : k ≡ kinds.Or → ⊥
  pub is_no_And : k ≡ kinds.And → ⊥
  pub is_no_Equal : k ≡ kinds.Equal → ⊥
  pub is_no_Unequal : k ≡ kinds.Unequal → ⊥
  pub is_no_Less : k ≡ kinds.Less → ⊥
  pub is_no_AtMost : k ≡ kinds.AtMost → ⊥
  pub is_no_More : k ≡ kinds.More → ⊥
  pub is_no_AtLeast : k ≡ kinds.AtLeast → ⊥
  pub is_no_Plus : k ≡ kinds.Plus → ⊥
  pub is_no_Minus : k ≡ kinds.Minus → ⊥
  pub is_no_Times : k ≡ kinds.Times → ⊥
  pub is_no_Over : k ≡ kinds.Over → ⊥
  pub is_no_Rest : k ≡ kinds.Rest → ⊥
  pub is_no_OpenList : k ≡ kinds.OpenList → ⊥

-- what ends or goes on with an expression
pub had_ends : (fs : List Frame) (x : Derivation) (p : ℕ) (k : Kind) → IsOther k → (k ≡ kinds.OpenGroup → IsNoName x) → had fs x p k ≡ ends p k (reduce 1 fs x)
had_ends fs x p kinds.Or n g = absurd (n.is_no_Or refl)
had_ends fs x p kinds.And n g = absurd (n.is_no_And refl)
had_ends fs x p kinds.Equal n g = absurd (n.is_no_Equal refl)
had_ends fs x p kinds.Unequal n g = absurd (n.is_no_Unequal refl)
had_ends fs x p kinds.Less n g = absurd (n.is_no_Less refl)
had_ends fs x p kinds.AtMost n g = absurd (n.is_no_AtMost refl)
had_ends fs x p kinds.More n g = absurd (n.is_no_More refl)
had_ends fs x p kinds.AtLeast n g = absurd (n.is_no_AtLeast refl)
had_ends fs x p kinds.Plus n g = absurd (n.is_no_Plus refl)
had_ends fs x p kinds.Minus n g = absurd (n.is_no_Minus refl)
had_ends fs x p kinds.Times n g = absurd (n.is_no_Times refl)
had_ends fs x p kinds.Over n g = absurd (n.is_no_Over refl)
had_ends fs x p kinds.Rest n g = absurd (n.is_no_Rest refl)
had_ends fs x p kinds.OpenList n g = absurd (n.is_no_OpenList refl)
had_ends fs x p kinds.OpenGroup n g = g refl fs p
had_ends fs x p k n g = refl
