-- What is written piece by piece.
use Rattle.std.proofs.Common.{◌≡◌, ◌≤◌, ◌+◌, ◌-◌, ℕ, Bool, true, false, ◌||◌, cond, ltb, List, [], ◌∷◌, ◌++◌, map, length, Option, Some, None, Result, Ok, Err, OnOk, IfErr, MatchResult, subst, refl, sym, ap, ◌∙◌, append_assoc, length-append, arith}
use Rattle.std.proofs.lemmas.Bool.{ltb-true, ltb-false, lt-ltb, le-ltb}
use Rattle.std.proofs.lemmas.List.{append-nil}
use Rattle.std.specs.List.{flat_map, list_any}
use Rattle.mf_text.specs.declared.fault.MakeFault.{MakeFault}
use Rattle.mf_text.specs.declared.fault.MakeFault.TheVariants.{NotUtf8, OpenQuote, UnknownName, OpenParen, NoColon, NoCommand, StrayCommand, BadNumber, TooLarge, Memory}
use Rattle.mf_text.specs.declared.output.Expanded.{Expanded}
use Rattle.mf_text.specs.Answers.{Fails}
use Rattle.mf_text.specs.Expansion.{Piece, plain, dollar, named, unclosed, pieces, limited, value_in, unknown_in, is_unclosed, becomes, front, shortened, settled, expansion, shortened_expansion}
use Rattle.mf_text.specs.Output.{completed}

either_way : (b : Bool) → (b || false) ≡ b
either_way true = refl
either_way false = refl

opened : (b more : Bool) → (b || (true || more)) ≡ (true || more)
opened true more = refl
opened false more = refl

-- what a call that fails by want of memory alone says of a step
pub after_write : {X : Type 0} (r : Result X MakeFault) (A B : Type 0) (C : MakeFault → Type 0) → OnOk r A → IfErr r (λ fault. fault ≡ Memory) → (A → B) → C Memory → MatchResult r (λ _. B) C
after_write (Ok x) A B C ok err step free = step ok
after_write (Err fault) A B C ok err step free = subst C (sym err) free

-- a fault of one thing is one of another that has it too
pub along : {Y Z : Type 0} (fault : MakeFault) (r : Result Y MakeFault) (q : Result Z MakeFault) → (r ≡ Err fault → q ≡ Err fault) → Fails fault r → Fails fault q
along (NotUtf8 at) r q h e = h e
along (OpenQuote line) r q h e = h e
along (UnknownName line name) r q h e = h e
along (OpenParen line) r q h e = h e
along (NoColon line) r q h e = h e
along (NoCommand line) r q h e = h e
along (StrayCommand line) r q h e = h e
along (BadNumber line) r q h e = h e
along (TooLarge limit) r q h e = h e
along Memory r q h e = tt

err_is : {X : Type 0} {f g : MakeFault} → ◌≡◌ {A = Result X MakeFault} (Err f) (Err g) → f ≡ g
err_is e = cc

settled_ok : {X Y : Type 0} (line : ℕ) (unknown : List (List ℕ)) (is_open : Bool) (x m : X) (y : Option Y) → settled line unknown is_open (Some x) ≡ Ok m
    → (x ≡ m) × (settled line unknown is_open y ≡ settled line [] false y)
settled_ok line (name ∷ names) is_open x m y e = absurd cc
settled_ok line [] true x m y e = absurd cc
settled_ok line [] false x m y e = (cc, refl)

settled_err : {X Y : Type 0} (line : ℕ) (unknown : List (List ℕ)) (is_open : Bool) (x : X) (y : Option Y) (fault : MakeFault) → settled line unknown is_open (Some x) ≡ Err fault
    → settled line unknown is_open y ≡ Err fault
settled_err line (name ∷ names) is_open x y fault e = ap (λ (f : MakeFault). Err f) (err_is e)
settled_err line [] true x y fault e = ap (λ (f : MakeFault). Err f) (err_is e)
settled_err line [] false x y fault e = absurd cc

-- two facts of a call that went well
pub both : {X E : Type 0} (r : Result X E) (A B : Type 0) → OnOk r A → OnOk r B → OnOk r (A × B)
both (Ok x) A B a b = (a, b)
both (Err e) A B a b = tt

module _ (value : List ℕ → Option (List ℕ)) where
  unknown-plain : (t : List ℕ) (ps : List Piece) → flat_map (unknown_in value) (map plain t ++ ps) ≡ flat_map (unknown_in value) ps
  unknown-plain [] ps = refl
  unknown-plain (b ∷ bs) ps = unknown-plain bs ps

  unclosed-plain : (t : List ℕ) (ps : List Piece) → list_any is_unclosed (map plain t ++ ps) ≡ list_any is_unclosed ps
  unclosed-plain [] ps = refl
  unclosed-plain (b ∷ bs) ps = unclosed-plain bs ps

  becomes-plain : (t : List ℕ) (ps : List Piece) → flat_map (becomes value) (map plain t ++ ps) ≡ t ++ flat_map (becomes value) ps
  becomes-plain [] ps = refl
  becomes-plain (b ∷ bs) ps = ap (λ x. b ∷ x) (becomes-plain bs ps)

  shortened-plain : (room : ℕ) (t : List ℕ) (ps : List Piece) → shortened value room (map plain t ++ ps) ≡ t ++ shortened value room ps
  shortened-plain room [] ps = refl
  shortened-plain room (b ∷ bs) ps = ap (λ x. b ∷ x) (shortened-plain room bs ps)

  pub completed-plain : (line : ℕ) (is_open cut : Bool) (room : ℕ) (text now t : List ℕ) (ps : List Piece) → now ≡ text ++ t
      → completed value line is_open cut room now ps ≡ completed value line is_open cut room text (map plain t ++ ps)
  completed-plain line is_open cut room text now t ps is =
      rw (is, unknown-plain t ps, unclosed-plain t ps, becomes-plain t ps, shortened-plain room t ps, append_assoc text t (shortened value room ps), append_assoc text t (flat_map (becomes value) ps)) refl

  pub completed-dollar : (line : ℕ) (is_open cut : Bool) (room : ℕ) (text now : List ℕ) (ps : List Piece) → now ≡ text ++ 36 ∷ []
      → completed value line is_open cut room now ps ≡ completed value line is_open cut room text (dollar ∷ ps)
  completed-dollar line is_open cut room text now ps is =
      rw (is, append_assoc text (36 ∷ []) (shortened value room ps), append_assoc text (36 ∷ []) (flat_map (becomes value) ps)) refl

  pub completed-written : (line : ℕ) (is_open cut : Bool) (room : ℕ) (text now x v : List ℕ) (ps : List Piece) → Some v ≡ value_in value x → ltb room (length v) ≡ false → now ≡ text ++ v
      → completed value line is_open cut (room - length v) now ps ≡ completed value line is_open cut room text (named x ∷ ps)
  completed-written line is_open cut room text now x v ps has fits is =
      rw (is, ← has, fits, append_assoc text v (shortened value (room - length v) ps), append_assoc text v (flat_map (becomes value) ps)) refl

  too_long : (cut : Bool) (room : ℕ) (text v rest : List ℕ) → ltb room (length v) ≡ true → (cut ≡ false → 16777216 ≤ length text + room)
      → (cut || ltb 16777216 (length (text ++ (v ++ rest)))) ≡ true
  too_long true room text v rest over has = refl
  too_long false room text v rest over has =
      lt-ltb 16777216 (length (text ++ (v ++ rest))) (omega (arith, ltb-true room (length v) over, has refl, length-append text (v ++ rest), length-append v rest))

  pub completed-cut : (line : ℕ) (is_open cut : Bool) (room : ℕ) (text now x v : List ℕ) (ps : List Piece) → Some v ≡ value_in value x → ltb room (length v) ≡ true
      → (cut ≡ false → 16777216 ≤ length text + room) → now ≡ text ++ front room v
      → completed value line is_open true 0 now ps ≡ completed value line is_open cut room text (named x ∷ ps)
  completed-cut line is_open cut room text now x v ps has over within is =
      rw (is, ← has, over, too_long cut room text v (flat_map (becomes value) ps) over within, append_assoc text (front room v) (shortened value 0 ps)) refl

  pub completed-unknown : (line : ℕ) (is_open cut : Bool) (room : ℕ) (text x : List ℕ) (ps : List Piece) → None ≡ value_in value x
      → completed value line is_open cut room text (named x ∷ ps) ≡ Err (UnknownName line x)
  completed-unknown line is_open cut room text x ps none = rw (← none) refl

  pub completed-unclosed : (line : ℕ) (is_open cut : Bool) (room : ℕ) (text : List ℕ) (ps : List Piece)
      → completed value line true cut room text ps ≡ completed value line is_open cut room text (unclosed ∷ ps)
  completed-unclosed line is_open cut room text ps = rw (opened is_open (list_any is_unclosed ps)) refl

  pub completed-end : (line : ℕ) (is_open cut : Bool) (room : ℕ) (text : List ℕ)
      → completed value line is_open cut room text [] ≡ settled line [] is_open (Some (record { text = text; is_too_large = cut || ltb 16777216 (length text) }))
  completed-end line is_open cut room text = rw (either_way is_open, append-nil text) refl

  -- nothing is left out of a text that keeps the limit
  none_left_out : (ps : List Piece) (room : ℕ) → length (flat_map (becomes value) ps) ≤ room → shortened value room ps ≡ flat_map (becomes value) ps
  none_left_out [] room h = refl
  none_left_out (plain b ∷ ps) room h = ap (λ x. b ∷ x) (none_left_out ps room (omega (arith, h)))
  none_left_out (dollar ∷ ps) room h = ap (λ x. 36 ∷ x) (none_left_out ps room (omega (arith, h)))
  none_left_out (unclosed ∷ ps) room h = none_left_out ps room h
  none_left_out (named x ∷ ps) room h =
      let v : List ℕ = becomes value (named x) in
      let sum = length-append v (flat_map (becomes value) ps) in
      let fits : ltb room (length v) ≡ false = le-ltb room (length v) (omega (arith, h, sum)) in
      rw fits (ap (λ t. v ++ t) (none_left_out ps (room - length v) (omega (arith, h, sum))))

  limited_text : (line : ℕ) (full short : List ℕ) (b : Bool) → ltb 16777216 (length full) ≡ b → (b ≡ false → short ≡ full)
      → settled line [] false (limited full) ≡ cond b (Err (TooLarge 16777216)) (Ok short)
  limited_text line full short true is same = rw is refl
  limited_text line full short false is same = rw (is, same refl) refl

  -- the whole text of what was made, as the expansion gives it
  pub whole_expansion : (line : ℕ) (text : List ℕ) (made : Expanded) → shortened_expansion value line text ≡ Ok made
      → expansion value line text ≡ cond made.is_too_large (Err (TooLarge 16777216)) (Ok made.text)
  whole_expansion line text made is =
      let full : List ℕ = flat_map (becomes value) (pieces text) in
      let short : List ℕ = shortened value 16777216 (pieces text) in
      let large : Bool = ltb 16777216 (length full) in
      let parts = settled_ok line (flat_map (unknown_in value) (pieces text)) (list_any is_unclosed (pieces text)) (record { text = short; is_too_large = large }) made (limited full) is in
      parts.1 ∙ limited_text line full short large refl (λ e. none_left_out (pieces text) 16777216 (ltb-false 16777216 (length full) e))
      ∙ ap (λ (m : Expanded). cond m.is_too_large (Err (TooLarge 16777216)) (Ok m.text)) parts.0

  -- a fault of what is made is that of the expansion
  pub fault_of_expansion : (fault : MakeFault) (line : ℕ) (text : List ℕ) → Fails fault (shortened_expansion value line text) → Fails fault (expansion value line text)
  fault_of_expansion fault line text fails =
      along fault (shortened_expansion value line text) (expansion value line text)
      (settled_err line (flat_map (unknown_in value) (pieces text)) (list_any is_unclosed (pieces text)) _ (limited (flat_map (becomes value) (pieces text))) fault) fails
