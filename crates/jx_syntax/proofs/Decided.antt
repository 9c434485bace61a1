-- What is read is an expression, and a fault is at the first token that can't go on.
use Rattle.std.proofs.Common.{◌≡◌, ℕ, suc, ◌<◌, ◌≤◌, Bool, true, false, cond, nat_lt, List, [], ◌∷◌, ◌++◌, length, Option, Some, None, Result, Ok, Err, refl, sym, ap, subst, ◌∙◌, arith, max, inl, inr, ◌⊎◌}
use Rattle.std.proofs.lemmas.Bool.{lt-ltb}
use Rattle.std.proofs.lemmas.Bool.Decides.{leb_tells}
use Rattle.jx_tokens.specs.declared.fault.JxFault.{JxFault}
use Rattle.jx_tokens.specs.declared.fault.JxFault.TheVariants.{Unexpected, IntTooWide, TooDeep}
use Rattle.jx_tokens.specs.declared.token.Token.{Token}
use Rattle.jx_tokens.specs.Tokens.{Scan, scan_of}
use Rattle.jx_syntax.specs.Grammar.{Derivation, spells, IsViable, Derives, StopsAt, is_wide, IsRefused, Refusal, IsWritten, IsNoExpression}
use Rattle.jx_syntax.specs.Reading.{Frame, State, wants, has, wants_key, wants_colon, wants_name, wants_in, Move, stuck, goes, opens, state_depth, reduce, move, blamed, moved, then_on, run, alone, finished, ended, parsed}
use Rattle.jx_syntax.proofs.Complete.{sentence_is_read}
use Rattle.jx_syntax.proofs.Sound.{GoodState, state_needs, state_depth_needed, seen, seen_more, viable, Takes, Follows, follows, IsReduced, reduced}

-- what follows a state is read from it
abbrev pub Along : State → Type 0
Along st = (limit : ℕ) (rest : List Token) → 128 ≤ limit → run limit (wants []) (seen st rest) ≡ run limit st rest

-- the tokens of a state that can be completed
pub record IsReached (st : State) : Type 0 where
  pub good : GoodState st
  pub nesting : state_needs st ≤ 128
  pub along : Along st

no_result : {A : Type 0} (e : JxFault) (d : A) → (let r : Result A JxFault = Err e in r) ≡ Ok d → ⊥
no_result e d h = cc

-- a token behind which nothing is read begins nothing
stops : (limit : ℕ) (st : State) (t : Token) (e : JxFault) → Along st → 128 ≤ limit → ((more : List Token) → run limit st (t ∷ more) ≡ Err e) → IsViable limit (seen st [] ++ t ∷ []) → ⊥
stops limit st t e along le fails v =
    let d = v.0 in
    let more = v.1 in
    let same : spells d [] ≡ seen st (t ∷ more) = v.3 ∙ ap (λ (ts : List Token). ts ++ more) (sym (seen_more st [] (t ∷ []))) ∙ sym (seen_more st (t ∷ []) more) in
    let failed : run limit (wants []) (spells d []) ≡ Err e = ap (run limit (wants [])) same ∙ along limit (t ∷ more) le ∙ fails more in
    no_result e d (ap (λ (r : Result State JxFault). then_on r (finished 0)) (sym failed) ∙ sentence_is_read limit 0 d v.2)

wider : (limit : ℕ) (ts : List Token) → IsViable limit ts → IsViable (max limit 128) ts
wider limit ts v = (v.0, v.1, record { level = v.2.level; nesting = let n = v.2.nesting in omega (arith, n) }, v.3)

abbrev stop_at : (st : State) (t : Token) (ts : List Token) → IsReached st → (IsViable 128 (seen st [] ++ t ∷ []) → ⊥) → StopsAt (seen st (t ∷ ts)) t
stop_at st t ts h stuck_ =
    record { before = seen st []; behind = ts; split = seen_more st [] (t ∷ ts); viable = viable 128 st h.good h.nesting; stuck = stuck_ }

-- why a list of tokens is refused at one of them
abbrev pub IsStopped : List Token → JxFault → Type 0
IsStopped tokens e = ((t : Token) × StopsAt tokens t) × ((len : ℕ) → IsRefused len tokens e)

by_wide : (st : State) (t : Token) (ts : List Token) (b : Bool) → IsReached st → is_wide t.kind ≡ b → ((limit : ℕ) → IsViable limit (seen st [] ++ t ∷ []) → ⊥)
    → IsStopped (seen st (t ∷ ts)) (cond b (IntTooWide t.place) (Unexpected t.place))
by_wide st t ts true h w never = let s = stop_at st t ts h (never 128) in ((t, s), λ len. (t, s, refl, w, never))
by_wide st t ts false h w never = let s = stop_at st t ts h (never 128) in ((t, s), λ len. inl (t, s, refl, w, never))

is_stuck : (st : State) (t : Token) (ts : List Token) → IsReached st → stuck ≡ move st t.place t.kind → IsStopped (seen st (t ∷ ts)) (blamed t.place t.kind)
unfolding run
is_stuck st t ts h q = by_wide st t ts (is_wide t.kind) h refl
    (λ limit v. stops (max limit 128) st t (blamed t.place t.kind) h.along (omega arith)
    (λ more. ap (λ (m : Move). then_on (moved (max limit 128) (state_depth st) t.place t.kind m) (λ n. run (max limit 128) n more)) (sym q))
    (wider limit (seen st [] ++ t ∷ []) v))

is_too_deep : (st next : State) (t : Token) (ts : List Token) → IsReached st → opens next ≡ move st t.place t.kind → Takes st t.place t.kind (max (state_needs st) (suc (state_depth st))) next
    → nat_lt (state_depth st) 128 ≡ false → IsStopped (seen st (t ∷ ts)) (TooDeep t.place)
unfolding run
is_too_deep st next t ts h q takes full =
    let never : IsViable 128 (seen st [] ++ t ∷ []) → ⊥ = stops 128 st t (TooDeep t.place) h.along (omega arith)
    (λ more. ap (λ (m : Move). then_on (moved 128 (state_depth st) t.place t.kind m) (λ n. run 128 n more)) (sym q) ∙ rw full refl) in
    let s = stop_at st t ts h never in
    let d = state_depth_needed st in
    let deep : state_needs next ≤ 129 = omega (arith, takes.nesting, h.nesting, d) in
    let v : IsViable 129 (seen st [] ++ t ∷ []) = subst (IsViable 129) (takes.same [] ∙ seen_more st [] (t ∷ [])) (viable 129 next takes.good deep) in
    ((t, s), λ len. (t, s, refl, 129, v))

-- what a run gave
abbrev pub Explained : List Token → Result State JxFault → Type 0
Explained tokens (Ok st) = IsReached st × (seen st [] ≡ tokens)
Explained tokens (Err e) = IsStopped tokens e

goes_further : (st next : State) (t : Token) → IsReached st → goes next ≡ move st t.place t.kind → Takes st t.place t.kind (state_needs st) next → IsReached next
unfolding run
goes_further st next t h q takes =
    record {
      good = takes.good;
      nesting = omega (arith, takes.nesting, h.nesting);
      along = λ limit rest le. ap (run limit (wants [])) (takes.same rest) ∙ h.along limit (t ∷ rest) le
          ∙ ap (λ (m : Move). then_on (moved limit (state_depth st) t.place t.kind m) (λ n. run limit n rest)) (sym q);
    }

opens_further : (st next : State) (t : Token) → IsReached st → opens next ≡ move st t.place t.kind → Takes st t.place t.kind (max (state_needs st) (suc (state_depth st))) next
    → state_depth st < 128 → IsReached next
unfolding run
opens_further st next t h q takes lt =
    record {
      good = takes.good;
      nesting = omega (arith, takes.nesting, h.nesting, lt);
      along = λ limit rest le. ap (run limit (wants [])) (takes.same rest) ∙ h.along limit (t ∷ rest) le
          ∙ ap (λ (m : Move). then_on (moved limit (state_depth st) t.place t.kind m) (λ n. run limit n rest)) (sym q)
          ∙ rw (lt-ltb (state_depth st) limit (omega (arith, lt, le))) refl;
    }

by_move : (st : State) (t : Token) (ts : List Token) (m : Move) → m ≡ move st t.place t.kind → Follows st t.place t.kind m → IsReached st
    → ((next : State) → IsReached next → Explained (seen next ts) (run 128 next ts))
    → Explained (seen st (t ∷ ts)) (then_on (moved 128 (state_depth st) t.place t.kind m) (λ n. run 128 n ts))
by_move st t ts stuck q f h ih = is_stuck st t ts h q
by_move st t ts (goes next) q f h ih = subst (λ (us : List Token). Explained us (run 128 next ts)) (f.same ts) (ih next (goes_further st next t h q f))
by_move st t ts (opens next) q f h ih = elim (leb_tells (suc (state_depth st)) 128) [
  | inl l ↦ rw l.0 (subst (λ (us : List Token). Explained us (run 128 next ts)) (f.same ts) (ih next (opens_further st next t h q f l.1)))
  | inr l ↦ rw l.0 (is_too_deep st next t ts h q f l.0)
]

pub explained : (ts : List Token) (st : State) → IsReached st → Explained (seen st ts) (run 128 st ts)
unfolding run
explained [] st h = (h, refl)
explained (t ∷ ts) st h = by_move st t ts (move st t.place t.kind) refl (follows st t.place t.kind h.good) h (explained ts)

pub begins : IsReached (wants [])
begins = record { good = tt; nesting = omega arith; along = λ limit rest le. refl }

-- ---- the end

-- what reading gave
abbrev pub Means : ℕ → List Token → Option JxFault → Result Derivation JxFault → Type 0
Means len tokens fault (Ok d) = Derives tokens d × (fault ≡ None)
Means len tokens fault (Err e) = Refusal len tokens fault e

unfinished : (len : ℕ) (st : State) (tokens : List Token) → IsReached st → seen st [] ≡ tokens → finished len st ≡ Err (Unexpected len) → IsRefused len tokens (Unexpected len)
unfolding run
unfinished len st tokens h e failed =
    inr (
      refl,
      subst (IsViable 128) e (viable 128 st h.good h.nesting),
      λ d s. no_result (Unexpected len) d (
          sym failed ∙ ap (λ (r : Result State JxFault). then_on r (finished len)) (sym (h.along 128 [] (omega arith)) ∙ ap (run 128 (wants [])) (e ∙ sym s.1)) ∙ sentence_is_read 128 len d s.0),
    )

at_end : (len : ℕ) (fs : List Frame) (x : Derivation) (tokens : List Token) (r : List Frame × Derivation) → r ≡ reduce 1 fs x → IsReduced 1 fs x r → IsReached (has fs x) → seen (has fs x) [] ≡ tokens
    → Means len tokens None (alone len r)
at_end len fs x tokens ([], y) q r h e = ((record { level = r.level; nesting = omega (arith, r.nesting, h.nesting) }, r.same [] ∙ e), refl)
at_end len fs x tokens (f ∷ gs, y) q r h e = unfinished len (has fs x) tokens h e (ap (alone len) (sym q))

pub means_finished : (len : ℕ) (st : State) (tokens : List Token) → IsReached st → seen st [] ≡ tokens → Means len tokens None (finished len st)
means_finished len (wants fs) tokens h e = unfinished len (wants fs) tokens h e refl
means_finished len (has fs x) tokens h e = at_end len fs x tokens (reduce 1 fs x) refl (reduced 1 fs x h.good.1 (h.good.0 _) (h.good.0 1)) h e
means_finished len (wants_key fs from ps) tokens h e = unfinished len (wants_key fs from ps) tokens h e refl
means_finished len (wants_colon fs from ps p key) tokens h e = unfinished len (wants_colon fs from ps p key) tokens h e refl
means_finished len (wants_name fs from is i p) tokens h e = unfinished len (wants_name fs from is i p) tokens h e refl
means_finished len (wants_in fs from is i p q x) tokens h e = unfinished len (wants_in fs from is i p q x) tokens h e refl

means_ended : (len : ℕ) (tokens : List Token) (fault : Option JxFault) (r : Result State JxFault) → Explained tokens r → Means len tokens fault (then_on r (ended len fault))
means_ended len tokens None (Ok st) h = means_finished len st tokens h.0 h.1
means_ended len tokens (Some f) (Ok st) h = inl (subst (IsViable 128) h.1 (viable 128 st h.0.good h.0.nesting), refl)
means_ended len tokens None (Err e) h = h.1 len
means_ended len tokens (Some f) (Err e) h = inr (h.0, h.1 len)

-- what a text is read as is what it is
pub parsed_means : (len : ℕ) (s : Scan) → Means len s.tokens s.fault (parsed len s)
parsed_means len s = means_ended len s.tokens s.fault (run 128 (wants []) s.tokens) (explained s.tokens (wants []) begins)

-- what a text is, it is read as
pub parsed_is : (len : ℕ) (s : Scan) (d : Derivation) → Derives s.tokens d → s.fault ≡ None → parsed len s ≡ Ok d
parsed_is len s d h none =
    ap (λ (f : Option JxFault). then_on (run 128 (wants []) s.tokens) (ended len f)) none
    ∙ ap (λ (ts : List Token). then_on (run 128 (wants []) ts) (finished len)) (sym h.1) ∙ sentence_is_read 128 len d h.0

either : (bytes : List ℕ) (r : Result Derivation JxFault) → Means (length bytes) (scan_of bytes).tokens (scan_of bytes).fault r
    → ((d : Derivation) × IsWritten bytes d) ⊎ ((e : JxFault) × IsNoExpression bytes e)
either bytes (Ok d) h = inl (d, h)
either bytes (Err e) h = inr (e, h)

pub decided : (bytes : List ℕ) → ((d : Derivation) × IsWritten bytes d) ⊎ ((e : JxFault) × IsNoExpression bytes e)
decided bytes = either bytes (parsed (length bytes) (scan_of bytes)) (parsed_means (length bytes) (scan_of bytes))

-- ---- worked examples

pub is_written : (bytes : List ℕ) (d : Derivation) → parsed (length bytes) (scan_of bytes) ≡ Ok d → IsWritten bytes d
is_written bytes d e = subst (Means (length bytes) (scan_of bytes).tokens (scan_of bytes).fault) e (parsed_means (length bytes) (scan_of bytes))

pub is_refused : (bytes : List ℕ) (f : JxFault) → parsed (length bytes) (scan_of bytes) ≡ Err f → IsNoExpression bytes f
is_refused bytes f e = subst (Means (length bytes) (scan_of bytes).tokens (scan_of bytes).fault) e (parsed_means (length bytes) (scan_of bytes))
