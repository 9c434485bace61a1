-- Faults that are handed on, and the first of several.
use Rattle.std.proofs.Common.{◌≡◌, ℕ, ◌<◌, ◌≤◌, Bool, true, false, cond, leb, List, [], ◌∷◌, ◌++◌, Option, Some, None, Result, Ok, Err, MatchResult, refl, sym, ap, subst, ◌∙◌, arith}
use Rattle.std.proofs.lemmas.Bool.{le-leb, lt-leb}
use Rattle.mf_text.specs.declared.fault.MakeFault.{MakeFault}
use Rattle.mf_text.specs.declared.fault.MakeFault.TheVariants.{NotUtf8, OpenQuote, UnknownName, OpenParen, NoColon, NoCommand, StrayCommand, BadNumber, TooLarge, Memory}
use Rattle.mf_text.specs.Answers.{Fails}
use Rattle.mf_text.specs.Expansion.{settled}
use Rattle.mf_forms.specs.Forms.{or_else}
use Rattle.mf_rules.specs.declared.steps.Formed.{Formed}
use Rattle.mf_rules.specs.Faults.{rank, lower, least, fault_in, where_true}
use Rattle.mf_rules.specs.Flow.{unless_fault}
use Rattle.mf_rules.specs.Progress.{refused, IsFirstOf}

-- a fault of one thing is one of another that has it too
pub along : {Y Z : Type 0} (fault : MakeFault) (r : Result Y MakeFault) (q : Result Z MakeFault) → (r ≡ Err fault → q ≡ Err fault) → Fails fault r → Fails fault q
along (NotUtf8 at) r q h e = h e
along (OpenQuote line) r q h e = h e
along (UnknownName line name) r q h e = h e
along (OpenParen line) r q h e = h e
along (NoColon line) r q h e = h e
along (NoCommand line) r q h e = h e
along (StrayCommand line) r q h e = h e
along (BadNumber line) r q h e = h e
along (TooLarge limit) r q h e = h e
along Memory r q h e = tt

is_refused : (o : Option MakeFault) (f : MakeFault) → refused o ≡ Err f → o ≡ Some f
is_refused None f e = cc
is_refused (Some g) f e = cc

-- the fault of a line is that of the flow
pub fails_flow : (env : List (List ℕ × List ℕ)) (fault : MakeFault) (o rest : Option MakeFault) (whole : List Formed) → Fails fault (refused o) → Fails fault (unless_fault env (or_else o rest) whole)
fails_flow env fault o rest whole h =
    along fault (refused o) (unless_fault env (or_else o rest) whole) (λ e. let is : o ≡ Some fault = is_refused o fault e in rw is refl) h

-- the fault of an expansion alone on its line
pub fails_alone : (fault : MakeFault) (r : Result (List ℕ) MakeFault) → Fails fault r → Fails fault (refused (least (fault_in r)))
fails_alone fault r h = along fault r (refused (least (fault_in r))) (λ e. rw e refl) h

-- want of memory is always free
pub free : {Y : Type 0} (fault : MakeFault) (given : Result Y MakeFault) → fault ≡ Memory → Fails fault given
free {Y = Y} fault given e = rw e tt

-- a fault fails where it is the answer
pub itself : {Y : Type 0} (fault : MakeFault) (given : Result Y MakeFault) → given ≡ Err fault → Fails fault given
itself (NotUtf8 at) given e = e
itself (OpenQuote line) given e = e
itself (UnknownName line name) given e = e
itself (OpenParen line) given e = e
itself (NoColon line) given e = e
itself (NoCommand line) given e = e
itself (StrayCommand line) given e = e
itself (BadNumber line) given e = e
itself (TooLarge limit) given e = e
itself Memory given e = tt

-- ---- the fault of an expansion, and another one

abbrev pub IsLarge : MakeFault → Type 0
IsLarge fault = (limit : ℕ) × (fault ≡ TooLarge limit)

early : (line : ℕ) (unknown : List (List ℕ)) (is_open : Bool) (text : Option (List ℕ)) (fault : MakeFault)
    → settled line unknown is_open text ≡ Err fault → (IsLarge fault → ⊥) → rank fault ≤ 4
early line (name ∷ names) is_open text fault e small =
    let is : UnknownName line name ≡ fault = cc in
    subst (λ (f : MakeFault). rank f ≤ 4) is (omega arith)
early line [] true text fault e small =
    let is : OpenParen line ≡ fault = cc in
    subst (λ (f : MakeFault). rank f ≤ 4) is (omega arith)
early line [] false None fault e small =
    let is : TooLarge 16777216 ≡ fault = cc in
    absurd (small (16777216, sym is))
early line [] false (Some t) fault e small = cc

early_made : {X : Type 0} (line : ℕ) (unknown : List (List ℕ)) (is_open : Bool) (x : X) (fault : MakeFault) → settled line unknown is_open (Some x) ≡ Err fault → rank fault ≤ 4
early_made line (name ∷ names) is_open x fault e =
    let is : UnknownName line name ≡ fault = cc in
    subst (λ (f : MakeFault). rank f ≤ 4) is (omega arith)
early_made line [] true x fault e =
    let is : OpenParen line ≡ fault = cc in
    subst (λ (f : MakeFault). rank f ≤ 4) is (omega arith)
early_made line [] false x fault e = absurd cc

in_time : (line : ℕ) (unknown : List (List ℕ)) (is_open : Bool) (text : Option (List ℕ)) (fault : MakeFault)
    → settled line unknown is_open text ≡ Err fault → rank fault ≤ 9
in_time line (name ∷ names) is_open text fault e =
    let is : UnknownName line name ≡ fault = cc in
    subst (λ (f : MakeFault). rank f ≤ 9) is (omega arith)
in_time line [] true text fault e =
    let is : OpenParen line ≡ fault = cc in
    subst (λ (f : MakeFault). rank f ≤ 9) is (omega arith)
in_time line [] false None fault e =
    let is : TooLarge 16777216 ≡ fault = cc in
    subst (λ (f : MakeFault). rank f ≤ 9) is (omega arith)
in_time line [] false (Some t) fault e = cc

at_most : (a b : ℕ) → a ≤ b → leb a b ≡ true
at_most a b h = le-leb a b h

-- a fault of a low rank stays the first
pub keeps : (fault other : MakeFault) (b large : Bool) → rank fault ≤ rank other → rank fault ≤ 9
    → least (fault ∷ (where_true b other ++ where_true large (TooLarge 1048576))) ≡ Some fault
keeps fault other true true h k =
    elim (leb (rank other) 9) as (λ (t : Bool). lower fault (cond t (Some other) (Some (TooLarge 1048576))) ≡ Some fault) [
      | true ↦ let first = at_most (rank fault) (rank other) h in rw first refl
      | false ↦ let first = at_most (rank fault) 9 k in rw first refl
    ]
keeps fault other true false h k = let first = at_most (rank fault) (rank other) h in rw first refl
keeps fault other false true h k = let first = at_most (rank fault) 9 k in rw first refl
keeps fault other false false h k = refl

-- a text that isn't made has the first fault of its line
pub early_first : {X : Type 0} (line : ℕ) (unknown : List (List ℕ)) (is_open : Bool) (x : X) (fault other : MakeFault) (b large : Bool) (all : List MakeFault) → 4 < rank other
    → Fails fault (settled line unknown is_open (Some x)) → ((f : MakeFault) → settled line unknown is_open (Some x) ≡ Err f → all ≡ f ∷ (where_true b other ++ where_true large (TooLarge 1048576)))
    → Fails fault (refused (least all))
early_first line unknown is_open x fault other b large all above fails is =
    along fault (settled line unknown is_open (Some x)) (refused (least all)) (λ e.
    let low : rank fault ≤ 4 = early_made line unknown is_open x fault e in
    ap (λ (l : List MakeFault). refused (least l)) (is fault e) ∙ ap refused (keeps fault other b large (omega arith) (omega arith))) fails

-- a fault that is not one of size comes first
pub small_first : (fault other : MakeFault) (b : Bool) → 4 < rank other → (IsLarge fault → ⊥) → IsFirstOf fault b other fault
small_first fault other b above small = λ line unknown is_open text large all fails is.
    along fault (settled line unknown is_open text) (refused (least all)) (λ e.
    let low : rank fault ≤ 4 = early line unknown is_open text fault e small in
    ap (λ (l : List MakeFault). refused (least l)) (is fault e) ∙ ap refused (keeps fault other b large (omega arith) (omega arith))) fails

-- any fault comes first without another one
pub alone_first : (fault other : MakeFault) → IsFirstOf fault false other fault
alone_first fault other = λ line unknown is_open text large all fails is.
    along fault (settled line unknown is_open text) (refused (least all)) (λ e.
    ap (λ (l : List MakeFault). refused (least l)) (is fault e) ∙ ap refused (keeps fault fault false large (omega arith) (in_time line unknown is_open text fault e))) fails

passed_by : (limit : ℕ) (other : MakeFault) (large : Bool) → rank other < 9 → least (TooLarge limit ∷ (other ∷ where_true large (TooLarge 1048576))) ≡ Some other
passed_by limit other true below =
    let first : leb (rank other) 9 ≡ true = at_most (rank other) 9 (omega arith) in
    let later : leb 9 (rank other) ≡ false = lt-leb 9 (rank other) below in
    rw (first, later) refl
passed_by limit other false below = let later : leb 9 (rank other) ≡ false = lt-leb 9 (rank other) below in rw later refl

-- another fault comes before one of size
pub other_first : (limit : ℕ) (other : MakeFault) → rank other < 9 → IsFirstOf (TooLarge limit) true other other
other_first limit other below = λ line unknown is_open text large all fails is.
    itself other (refused (least all)) (ap (λ (l : List MakeFault). refused (least l)) (is (TooLarge limit) fails) ∙ ap refused (passed_by limit other large below))

-- ---- clauses of a call, carried on

pub match_on : {X E : Type 0} (r : Result X E) (P P' : X → Type 0) (Q Q' : E → Type 0) → MatchResult r P Q → ((x : X) → P x → P' x) → ((e : E) → Q e → Q' e) → MatchResult r P' Q'
match_on (Ok x) P P' Q Q' h f g = f x h
match_on (Err e) P P' Q Q' h f g = g e h

-- a call that fails by want of memory alone
pub match_free : {X Y : Type 0} (r : Result X MakeFault) (P P' : X → Type 0) (given : Result Y MakeFault) → MatchResult r P (λ fault. fault ≡ Memory) → ((x : X) → P x → P' x) → MatchResult r P' (λ fault. Fails fault given)
match_free (Ok x) P P' given h f = f x h
match_free (Err e) P P' given h f = free e given h
