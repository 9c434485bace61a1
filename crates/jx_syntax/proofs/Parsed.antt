-- What a call answered is the expression that a text is, or why it is none.
use Rattle.std.proofs.Common.{◌≡◌, ℕ, ◌-◌, List, [], ◌∷◌, ◌++◌, length, reverse, Result, Ok, Err, refl, sym, ap, subst, ◌∙◌, arith, inl, inr, ◌⊎◌}
use Rattle.std.proofs.lemmas.List.{reverse-reverse}
use Rattle.std.specs.Prelude.{IfOk, IfErr}
use Rattle.jx_tokens.specs.declared.fault.JxFault.{JxFault}
use Rattle.jx_tokens.specs.declared.fault.JxFault.TheVariants as fault
use Rattle.jx_tokens.specs.Answers.{Gives}
use Rattle.jx_tokens.specs.Tokens.{scan_of}
use Rattle.jx_tokens.proofs.Scanned.{fails_too}
use Rattle.jx_syntax.specs.declared.node.Form.TheVariants as form
use Rattle.jx_syntax.specs.declared.node.Node.{Node}
use Rattle.jx_syntax.specs.declared.pending.Pending.{Pending}
use Rattle.jx_syntax.specs.declared.pending.Reader.{Reader}
use Rattle.jx_syntax.specs.Grammar.{Derivation, name, IsWritten, IsNoExpression}
use Rattle.jx_syntax.specs.Reading.{Frame, depth, alone, parsed}
use Rattle.jx_syntax.specs.Tree.{Tree, tree_of, node_at, expression_of}
use Rattle.jx_syntax.specs.Shown.{trees, IsLast, IsStack, IsShown, IsReduced, IsExpression, Shows}
use Rattle.jx_syntax.proofs.Nodes.{shows_more, last_new}
use Rattle.jx_syntax.proofs.Decided.{parsed_is, is_written, is_refused}
use Rattle.jx_syntax.proofs.Unique.{one_reason, not_both}

-- ---- the end of a text

-- the last node is the expression
pub is_whole : (ns : List Node) (i : ℕ) (t : Tree) → IsLast ns i t → expression_of ns ≡ t
is_whole ns i t l =
    let last = l.last in
    let e : length ns - 1 ≡ i = omega (arith, last) in
    ap (node_at (trees ns)) e ∙ l.node.shows

-- where nothing waits, the expression is all
pub all_read : (len : ℕ) (r : Reader) (i : ℕ) (p : List Frame × Derivation) → IsReduced r i p → r.stack.items ≡ [] → alone len p ≡ Ok p.1
all_read len r i (fs, x) h e =
    let none : fs ≡ [] = subst (λ (qs : List Pending). IsStack r.nodes.items (reverse qs) fs) e h.0.stack in
    ap (λ (gs : List Frame). alone len (gs, x)) none

still : (len : ℕ) (ns : List Node) (items qs : List Pending) (fs : List Frame) (x : Derivation) → qs ≡ reverse items → (items ≡ [] → ⊥) → IsStack ns qs fs → alone len (fs, x) ≡ Err (fault.Unexpected len)
still len ns items [] fs x e some h = absurd (some (sym (reverse-reverse items) ∙ ap reverse (sym e)))
still len ns items (q ∷ qs) fs x e some h = ap (λ (gs : List Frame). alone len (gs, x)) h.2

-- where something waits, the text can't end
pub still_waits : (len : ℕ) (r : Reader) (i : ℕ) (p : List Frame × Derivation) → IsReduced r i p → (r.stack.items ≡ [] → ⊥) → alone len p ≡ Err (fault.Unexpected len)
still_waits len r i (fs, x) h some = still len r.nodes.items r.stack.items (reverse r.stack.items) fs x refl some h.0.stack

-- a name that was read is an expression
pub name_read : (old new : Reader) (i p : ℕ) (x : List ℕ) (fs : List Frame) → IsShown old fs → old.depth ≡ depth fs → new.nodes.items ≡ old.nodes.items ++ record { place = p; form = form.Name x } ∷ []
    → i ≡ length old.nodes.items → new.stack ≡ old.stack → new.depth ≡ old.depth → IsReduced new i (fs, name p x)
name_read old new i p x fs h deep n at s d =
    let ns : List Node = old.nodes.items in
    let node : Node = record { place = p; form = form.Name x } in
    let shown : Shows new.nodes.items (reverse new.stack.items) fs = rw (n, s) (shows_more ns node (reverse old.stack.items) fs h tt) in
    let last : IsLast new.nodes.items i (tree_of (name p x)) = rw (n, at) (last_new ns node (tree_of (name p x)) refl) in
    (shown, d ∙ deep, last)

-- something waits in a stack that isn't empty
pub some_waits : (n : ℕ) (items : List Pending) → n ≡ length items → (n ≡ 0 → ⊥) → items ≡ [] → ⊥
some_waits n items e some none = some (e ∙ ap length none)

-- nothing was read yet
pub nothing : Shows [] [] []
nothing = record { stack = refl; ordered = tt }

-- ---- whole texts

module _ (bytes : List ℕ) where
  abbrev all : Result Derivation JxFault
  all = parsed (length bytes) (scan_of bytes)

  pub found : (r : Result (List Node) JxFault) → IsExpression r all → IfOk r (λ e. (d : Derivation) × IsWritten bytes d × (expression_of e ≡ tree_of d))
  found (Ok ns) h = (h.0, is_written bytes h.0 h.1, h.2)
  found (Err e) h = tt

  same_tree : (d e : Derivation) → (let r : Result Derivation JxFault = Ok d in r) ≡ Ok e → d ≡ e
  same_tree d e h = cc

  no_tree : (d : Derivation) (e : JxFault) → (let r : Result Derivation JxFault = Ok d in r) ≡ Err e → ⊥
  no_tree d e h = cc

  pub written : (r : Result (List Node) JxFault) → IsExpression r all → (d : Derivation) → IsWritten bytes d → Gives expression_of r (Ok (tree_of d))
  written (Ok ns) h d w =
      let is : all ≡ Ok d = parsed_is (length bytes) (scan_of bytes) d w.0 w.1 in
      let trees : tree_of d ≡ expression_of ns = ap tree_of (same_tree d h.0 (sym is ∙ h.1)) ∙ sym h.2 in
      ap Ok trees
  written (Err e) h d w =
      let is : all ≡ Ok d = parsed_is (length bytes) (scan_of bytes) d w.0 w.1 in
      let tree : Result Tree JxFault = Ok (tree_of d) in
      fails_too e all tree (λ f q. absurd (no_tree d f (sym is ∙ q))) h

  pub faulty : (r : Result (List Node) JxFault) → IsExpression r all → IfErr r (λ e. (e ≡ fault.Memory) ⊎ IsNoExpression bytes e)
  faulty (Ok ns) h = tt
  faulty (Err fault.Memory) h = inl refl
  faulty (Err (fault.NotUtf8 at)) h = inr (is_refused bytes (fault.NotUtf8 at) h)
  faulty (Err (fault.Unexpected at)) h = inr (is_refused bytes (fault.Unexpected at) h)
  faulty (Err (fault.OpenText at)) h = inr (is_refused bytes (fault.OpenText at) h)
  faulty (Err (fault.FloatUnsupported at)) h = inr (is_refused bytes (fault.FloatUnsupported at) h)
  faulty (Err (fault.IntTooWide at)) h = inr (is_refused bytes (fault.IntTooWide at) h)
  faulty (Err (fault.TooDeep at)) h = inr (is_refused bytes (fault.TooDeep at) h)
  faulty (Err fault.TooLarge) h = inr (is_refused bytes fault.TooLarge h)

  pub refused : (r : Result (List Node) JxFault) → IsExpression r all → (e : JxFault) → IsNoExpression bytes e → Gives expression_of r (Err e)
  refused (Ok ns) h e g = absurd (not_both bytes h.0 e (is_written bytes h.0 h.1) g)
  refused (Err x) h e g =
      let why : Result Tree JxFault = Err e in
      fails_too x all why (λ f q. ap Err (one_reason bytes e f g (is_refused bytes f q))) h
