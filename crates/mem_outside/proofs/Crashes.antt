-- What a call of a site in memory lets a crash leave, by its answer.
use Rattle.std.proofs.Common.{◌≡◌, ◌≢◌, ◌⊎◌, ◌≤◌, ◌+◌, ℕ, Bool, true, false, List, [], ◌∷◌, ◌++◌, length, take, drop, Option, Some, None, IsSome, option_map, Result, Ok, Err, OnOk, OnErr, refl, sym, ◌∙◌, ap, subst, inl, inr, ⊎_elim, arith, length-append, length-take, length-drop, append_assoc, is_ok, IsOk, if◌then◌else◌}
use Rattle.std.specs.Prelude.{MatchBool}
use Rattle.std.proofs.lemmas.Bool.{cases_lt, cases_Bool}
use Rattle.std.proofs.lemmas.List.{take_all, take_at, drop_at, take-append-le}
use Rattle.std.proofs.lemmas.Slice.Eq.{bytes_eq-Decides}
use Rattle.std.specs.Str.{bytes_eq}
use Rattle.outside.specs.declared.fault.Fault.{Fault}
use Rattle.outside.specs.declared.fault.Fault.TheVariants.{Memory}
use Rattle.outside.specs.Disk.{Outcomes, IsImage, IsTorn, IsShortened, IsRemoved, Follows, Settles, Elapses}
use Rattle.outside.specs.Files.{Files, content, written}
use Rattle.mem_outside.specs.Entries.{with_file}
use Rattle.mem_outside.specs.declared.step.Change.{Change}
use Rattle.mem_outside.specs.declared.step.Step.{Step}
use Rattle.mem_outside.specs.Steps.{value_after, Becomes, stepped, files_after, left, left_after, on_disk, leaves, reads, images}
use Rattle.mem_outside.specs.StepLaws.{reads_image}

abbrev Entry : Type 0
Entry = Option (List ℕ)

match_true : (b : Bool) (P Q : Type 0) → b ≡ true → MatchBool b P Q → P
match_true true P Q is p = p
match_true false P Q is p = absurd (cc)

match_false : (b : Bool) (P Q : Type 0) → b ≡ false → MatchBool b P Q → Q
match_false true P Q is p = absurd (cc)
match_false false P Q is p = p

same_name : (n : List ℕ) → bytes_eq n n ≡ true
same_name n = (bytes_eq-Decides n n).1 refl

other_name : (n m : List ℕ) → m ≢ n → bytes_eq n m ≡ false
other_name n m ne = ⊎_elim (λ same. absurd (ne (sym ((bytes_eq-Decides n m).0 same)))) (λ other. other) (cases_Bool (bytes_eq n m))

pub files_push : (steps : List Step) (step : Step) (files : Files) → files_after (steps ++ step ∷ []) files ≡ stepped step (files_after steps files)
files_push [] step files = refl
files_push (first ∷ rest) step files = files_push rest step (stepped first files)

left_push : (steps : List Step) (step : Step) (files : Files) (outcomes : Outcomes) (n : List ℕ) (entry : Entry)
    → left_after (steps ++ step ∷ []) files outcomes n entry → left step (files_after steps files) (left_after steps files outcomes) n entry
left_push [] step files outcomes n entry l = l
left_push (first ∷ rest) step files outcomes n entry l = left_push rest step (stepped first files) (left first files outcomes) n entry l

-- what a crash may leave under the name of one step more
left_here : (start : Files) (steps : List Step) (step : Step) (entry : Entry) → leaves start (steps ++ step ∷ []) step.name entry
    → (entry ≡ value_after step.change (reads start steps step.name)) ⊎ ((old : Entry) × leaves start steps step.name old × Becomes step.change old entry)
left_here start steps step entry l =
    match_true (bytes_eq step.name step.name)
    ((entry ≡ value_after step.change (reads start steps step.name)) ⊎ ((old : Entry) × leaves start steps step.name old × Becomes step.change old entry))
    (leaves start steps step.name entry) (same_name step.name) (left_push steps step start (on_disk start) step.name entry l)

-- and under another name
left_other : (start : Files) (steps : List Step) (step : Step) (m : List ℕ) (entry : Entry) → m ≢ step.name
    → leaves start (steps ++ step ∷ []) m entry → leaves start steps m entry
left_other start steps step m entry ne l =
    match_false (bytes_eq step.name m)
    ((entry ≡ value_after step.change (reads start steps step.name)) ⊎ ((old : Entry) × leaves start steps m old × Becomes step.change old entry))
    (leaves start steps m entry) (other_name step.name m ne) (left_push steps step start (on_disk start) m entry l)

follows_push : {T : Type 0} (x : T) (start : Files) (steps : List Step) (step : Step) (may : Entry → Entry → Type 0)
    → ((d e : Entry) → Becomes step.change d e → may d e) → may (reads start steps step.name) (value_after step.change (reads start steps step.name))
    → Follows {T = T} (Ok x) step.name may (leaves start steps) (leaves start (steps ++ step ∷ []))
follows_push {T} x start steps step may becomes value = record {
  here = λ entry l. ⊎_elim
      (λ is. (reads start steps step.name, reads_image start steps (reads start steps) refl step.name, subst (λ (e : Entry). may (reads start steps step.name) e) (sym is) value))
      (λ was. (was.0, was.1, becomes was.0 entry was.2))
      (left_here start steps step entry l);
  others = λ m entry ne l. left_other start steps step m entry ne l;
  refused = λ (is : Ok x ≡ Err Memory). absurd (cc);
}

-- a call after which a crash may leave what it might have left before
pub follows_same : {T : Type 0} (result : Result T Fault) (name : List ℕ) (may : Entry → Entry → Type 0) (outcomes : Outcomes)
    → ((e : Entry) → may e e) → Follows result name may outcomes outcomes
follows_same result name may outcomes same = record { here = λ e l. (e, l, same e); others = λ m e ne l. l; refused = λ is e l. l }

-- a change that is kept where it was done
pub kept_follows : {T : Type 0} (result : Result T Fault) (start start_then : Files) (steps steps_then : List Step) (step : Step) (may : Entry → Entry → Type 0)
    → start_then ≡ start → OnOk result (steps_then ≡ steps ++ step ∷ []) → OnErr result (steps_then ≡ steps)
    → ((d e : Entry) → Becomes step.change d e → may d e) → may (reads start steps step.name) (value_after step.change (reads start steps step.name))
    → ((e : Entry) → may e e) → Follows result step.name may (leaves start steps) (leaves start_then steps_then)
kept_follows {T} (Ok x) start start_then steps steps_then step may same ok err becomes value still =
    subst (λ (f : Files). Follows {T = T} (Ok x) step.name may (leaves start steps) (leaves f steps_then)) (sym same)
    (subst (λ (l : List Step). Follows {T = T} (Ok x) step.name may (leaves start steps) (leaves start l)) (sym ok)
    (follows_push {T = T} x start steps step may becomes value))
kept_follows {T} (Err fault) start start_then steps steps_then step may same ok err becomes value still =
    subst (λ (f : Files). Follows {T = T} (Err fault) step.name may (leaves start steps) (leaves f steps_then)) (sym same)
    (subst (λ (l : List Step). Follows {T = T} (Err fault) step.name may (leaves start steps) (leaves start l)) (sym err)
    (follows_same {T = T} (Err fault) step.name may (leaves start steps) still))

-- a sync that is kept where it was done
settles_push : {T : Type 0} (x : T) (start : Files) (steps : List Step) (step : Step) → ((d e : Entry) → Becomes step.change d e → ⊥)
    → ((e : Entry) → value_after step.change e ≡ e) → Settles {T = T} (Ok x) step.name (reads start steps) (leaves start steps) (leaves start (steps ++ step ∷ []))
settles_push {T} x start steps step never value = record {
  within = λ m entry l. ⊎_elim
      (λ here. let is : step.name ≡ m = (bytes_eq-Decides step.name m).0 here in
      subst (λ (n : List ℕ). leaves start steps n entry) is
      (subst (λ (e : Entry). leaves start steps step.name e) (sym (durable entry (subst (λ (n : List ℕ). leaves start (steps ++ step ∷ []) n entry) (sym is) l)))
      (reads_image start steps (reads start steps) refl step.name)))
      (λ other. left_other start steps step m entry (differ m other) l)
      (cases_Bool (bytes_eq step.name m));
  durable = durable;
}
  where
    durable : (entry : Entry) → leaves start (steps ++ step ∷ []) step.name entry → entry ≡ reads start steps step.name
    durable entry l = ⊎_elim (λ is. is ∙ value (reads start steps step.name)) (λ was. absurd (never was.0 entry was.2)) (left_here start steps step entry l)

    differ : (m : List ℕ) → bytes_eq step.name m ≡ false → m ≢ step.name
    differ m other is = let here : bytes_eq step.name m ≡ true = (bytes_eq-Decides step.name m).1 (sym is) in absurd (cc)

-- a sync makes no new outcome
pub settles_same : {T : Type 0} (fault : Fault) (name : List ℕ) (files : Files) (outcomes : Outcomes) → Settles {T = T} (Err fault) name files outcomes outcomes
settles_same fault name files outcomes = record { within = λ m e l. l; durable = tt }

pub kept_settles : {T : Type 0} (result : Result T Fault) (start start_then : Files) (steps steps_then : List Step) (step : Step) (files : Files)
    → start_then ≡ start → OnOk result (steps_then ≡ steps ++ step ∷ []) → OnErr result (steps_then ≡ steps)
    → ((d e : Entry) → Becomes step.change d e → ⊥) → ((e : Entry) → value_after step.change e ≡ e) → files ≡ reads start steps
    → Settles result step.name files (leaves start steps) (leaves start_then steps_then)
kept_settles {T} (Ok x) start start_then steps steps_then step files same ok err never value is =
    subst (λ (f : Files). Settles {T = T} (Ok x) step.name f (leaves start steps) (leaves start_then steps_then)) (sym is)
    (subst (λ (f : Files). Settles {T = T} (Ok x) step.name (reads start steps) (leaves start steps) (leaves f steps_then)) (sym same)
    (subst (λ (l : List Step). Settles {T = T} (Ok x) step.name (reads start steps) (leaves start steps) (leaves start l)) (sym ok)
    (settles_push {T = T} x start steps step never value)))
kept_settles {T} (Err fault) start start_then steps steps_then step files same ok err never value is =
    subst (λ (f : Files). Settles {T = T} (Err fault) step.name files (leaves start steps) (leaves f steps_then)) (sym same)
    (subst (λ (l : List Step). Settles {T = T} (Err fault) step.name files (leaves start steps) (leaves start l)) (sym err)
    (settles_same {T = T} fault step.name files (leaves start steps)))

-- time goes on by a step
image_at : (start : Files) (k : ℕ) (steps : List Step) (step : Step) (image : Files) → k ≤ length steps
    → IsImage (leaves start (take k (steps ++ step ∷ []))) image → IsImage (leaves start (take k steps)) image
image_at start k steps step image le is = subst (λ (l : List Step). IsImage (leaves start l) image) (take-append-le k steps (step ∷ []) le) is

elapses_push : (start : Files) (steps : List Step) (step : Step)
    → Elapses (length steps) (length (steps ++ step ∷ [])) (images start steps) (images start (steps ++ step ∷ [])) (leaves start (steps ++ step ∷ []))
elapses_push start steps step =
    let long : length (steps ++ step ∷ []) ≡ length steps + 1 = omega (arith, length-append steps (step ∷ [])) in
    record {
      later = omega arith;
      nothing_else = λ t image le since. ⊎_elim
          (λ earlier. let within : since.0 ≤ length steps = omega arith in inl (since.0, since.1, within, image_at start since.0 steps step image within since.3))
          (λ now. let all : length (steps ++ step ∷ []) ≤ since.0 = omega arith in
          inr (subst (λ (l : List Step). IsImage (leaves start l) image) (take_all since.0 (steps ++ step ∷ []) all) since.3))
          (cases_lt since.0 (length steps + 1));
      keeps = λ t image le past. let more : past.0 ≤ length (steps ++ step ∷ []) = omega (arith, past.2) in
          (past.0, past.1, more, subst (λ (l : List Step). IsImage (leaves start l) image) (sym (take-append-le past.0 steps (step ∷ []) past.2)) past.3);
    }

pub elapses_same : (start : Files) (steps : List Step) → Elapses (length steps) (length steps) (images start steps) (images start steps) (leaves start steps)
elapses_same start steps = record { later = omega arith; nothing_else = λ t image le since. inl since; keeps = λ t image le past. past }

pub elapses_to : (start : Files) (steps steps_then : List Step) (step : Step) → steps_then ≡ steps ++ step ∷ []
    → Elapses (length steps) (length steps_then) (images start steps) (images start steps_then) (leaves start steps_then)
elapses_to start steps steps_then step is =
    subst (λ (l : List Step). Elapses (length steps) (length l) (images start steps) (images start l) (leaves start l)) (sym is) (elapses_push start steps step)

pub elapses_still : (start : Files) (steps steps_then : List Step) → steps_then ≡ steps
    → Elapses (length steps) (length steps_then) (images start steps) (images start steps_then) (leaves start steps_then)
elapses_still start steps steps_then is =
    subst (λ (l : List Step). Elapses (length steps) (length l) (images start steps) (images start l) (leaves start l)) (sym is) (elapses_same start steps)

-- entries that agree with the steps still do after one more
pub agrees_still : (start files files_then : Files) (steps steps_then : List Step) (call : ℕ) (name own : List ℕ) (change : Change) → files ≡ reads start steps
    → own ≡ name → files_then ≡ with_file name (value_after change (files name)) files → steps_then ≡ steps ++ record { call = call; name = own; change = change } ∷ []
    → files_then ≡ reads start steps_then
agrees_still start files files_then steps steps_then call name own change agrees is then_is pushed =
    then_is
    ∙ ap (λ (f : Files). with_file name (value_after change (f name)) f) agrees
    ∙ ap (λ (n : List ℕ). with_file n (value_after change (reads start steps n)) (reads start steps)) (sym is)
    ∙ sym (files_push steps (record { call = call; name = own; change = change }) start)
    ∙ ap (λ (l : List Step). reads start l) (sym pushed)

-- a push that succeeds
pub pushed : {T E A : Type 0} (result : Result T E) (old new : List A) (x : A) → IsOk result → new ≡ (if is_ok result then old ++ x ∷ [] else old) → new ≡ old ++ x ∷ []
pushed (Ok t) old new x ok is = is
pushed (Err e) old new x ok is = absurd (cc)

length-written : (at : ℕ) (bytes old : List ℕ) → length (written at bytes old) ≡ length (take at old) + length bytes + length (drop (at + length bytes) old)
length-written at bytes old = omega (arith, length-append (take at old ++ bytes) (drop (at + length bytes) old), length-append (take at old) bytes)

-- what a write, a cut and a removal make of a file is what a crash in it may leave
pub torn_written : (at : ℕ) (bytes : List ℕ) (entry : Entry) → at ≤ length (content entry) → IsTorn at (length bytes) entry (Some (written at bytes (content entry)))
torn_written at bytes None le = omega (arith, length-written at bytes [], length-take {A = ℕ} at [], length-drop {A = ℕ} (at + length bytes) [])
torn_written at bytes (Some old) le =
    let front : length (take at old) ≡ at = omega (arith, length-take at old) in
    let rest = drop (at + length bytes) old in
    record {
      before = ap (λ (l : List ℕ). take at l) (append_assoc (take at old) bytes rest) ∙ take_at (take at old) (bytes ++ rest) at front;
      after = drop_at (take at old ++ bytes) rest (at + length bytes) (omega (arith, length-append (take at old) bytes, front));
      no_shorter = omega (arith, length-written at bytes old, front, length-drop (at + length bytes) old);
      no_longer = omega (arith, length-written at bytes old, front, length-drop (at + length bytes) old);
    }

pub shortened_cut : (len : ℕ) (entry : Entry) → IsShortened len entry (option_map (λ bytes. take len bytes) entry)
shortened_cut len None = tt
shortened_cut len (Some old) = record { front = take_all len (take len old) (omega (arith, length-take len old)); no_longer = omega (arith, length-take len old) }

pub removed_gone : (entry : Entry) → IsRemoved entry None
removed_gone None = tt
removed_gone (Some old) = tt

-- a file that is there is cut
pub cut_there : (len : ℕ) (entry : Entry) → IsSome entry → option_map (λ (bytes : List ℕ). take len bytes) entry ≡ Some (take len (content entry))
cut_there len None there = absurd (cc)
cut_there len (Some old) there = refl
