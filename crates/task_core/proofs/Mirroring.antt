-- The counts of a table say the same as its rows and files after each step.
use Rattle.std.proofs.Common.{◌≡◌, ◌<◌, ℕ, Bool, true, false, cond, ◌||◌, List, [], ◌∷◌, length, replicate, Option, Some, None, refl, ap, sym, subst, ◌∙◌, true≢false, arith}
use Rattle.std.specs.Prelude.{◌==◌, is_some, map, slice_index_or, slice_set}
use Rattle.std.proofs.lemmas.Bool.{eqb-false, eqb-true}
use Rattle.std.proofs.lemmas.List.{get_or-set_other, get_or-set_same, length-set}
use Rattle.flow_types.specs.declared.plan.Plan.{Plan}
use Rattle.flow_types.specs.declared.numbers.Content.{Content}
use Rattle.flow_types.specs.Plans.{contains_number, maker_of, makes}
use Rattle.run_history.specs.declared.states.FileState.{FileState}
use Rattle.run_history.specs.declared.states.FileState.TheVariants as file
use Rattle.run_history.specs.States.{row_of}
use Rattle.run_history.specs.Storage.{size_in}
use Rattle.gc_refcount.specs.Counting.{Counting, is_made, is_present, nothing_made, with_all, with_rule, without_file}
use Rattle.gc_refcount.proofs.Ports.{with-all-length, with-all-other}
use Rattle.task_core.specs.declared.rows.RuleRow.{RuleRow}
use Rattle.task_core.specs.Accounts.{AreMirrored, size_of, state_in}
use Rattle.task_core.specs.States.{blank_row}
use Rattle.task_core.specs.Stands.{made_or, waiting_row}
use Rattle.task_core.proofs.Blank.{length_same, same_at}
use Rattle.task_core.proofs.Finishing.{contained}
use Rattle.task_core.proofs.Opening.{waiting_at}

pub row_is : (rows : List RuleRow) (r q : ℕ) (row : RuleRow) (b : Bool) → (r == q) ≡ b → r < length rows → slice_index_or (slice_set rows r row) q blank_row ≡ cond b row (slice_index_or rows q blank_row)
row_is rows r q row true same inside =
    ap (λ n. slice_index_or (slice_set rows r row) n blank_row) (sym (eqb-true r q same)) ∙ get_or-set_same rows r row blank_row inside
row_is rows r q row false other inside = get_or-set_other rows r q row blank_row (λ same. eqb-false r q other (sym same))

-- before anything is made
pub mirrors-first : (P : Plan) (n : ℕ) (states : List FileState) → ((f : ℕ) → is_some (maker_of P f) ≡ true → state_in states f ≡ file.Absent)
    → AreMirrored (nothing_made P) P (replicate n blank_row) states
mirrors-first P n states absent = record {
  plan = refl;
  rules = length_same (length P.rules) false;
  files = length_same (length P.files) false;
  done = λ r. same_at (length P.rules) r false ∙ sym (ap (λ (row : RuleRow). row.done) (same_at n r blank_row));
  present = λ f made. same_at (length P.files) f false ∙ sym (ap (λ state. is_some (size_in state)) (absent f made));
}

done_by : (rows : List RuleRow) (r q : ℕ) (row : RuleRow) (b : Bool) → (r == q) ≡ b → r < length rows → row.done ≡ (slice_index_or rows r blank_row).done
    → (slice_index_or (slice_set rows r row) q blank_row).done ≡ (slice_index_or rows q blank_row).done
done_by rows r q row true same inside so =
    ap (λ (w : RuleRow). w.done) (row_is rows r q row true same inside) ∙ so ∙ ap (λ n. (slice_index_or rows n blank_row).done) (eqb-true r q same)
done_by rows r q row false other inside so = ap (λ (w : RuleRow). w.done) (row_is rows r q row false other inside)

-- a row that is as done as before
pub mirrors-row : (C : Counting) (P : Plan) (rows : List RuleRow) (states : List FileState) (r : ℕ) (row : RuleRow) → AreMirrored C P rows states → r < length rows
    → row.done ≡ (slice_index_or rows r blank_row).done → AreMirrored C P (slice_set rows r row) states
mirrors-row C P rows states r row is inside so = record {
  plan = is.plan;
  rules = is.rules;
  files = is.files;
  done = λ q. is.done q ∙ sym (done_by rows r q row (r == q) refl inside so);
  present = is.present;
}

-- an opening
pub mirrors-opened : (C : Counting) (P : Plan) (rows : List RuleRow) (states : List FileState) → AreMirrored C P rows states → AreMirrored C P (map waiting_row rows) states
mirrors-opened C P rows states is = record {
  plan = is.plan;
  rules = is.rules;
  files = is.files;
  done = λ r. is.done r ∙ sym (ap (λ (row : RuleRow). row.done) (waiting_at rows r));
  present = is.present;
}

mark_is : (marks : List Bool) (f g : ℕ) (m b : Bool) → (f == g) ≡ b → f < length marks → slice_index_or (slice_set marks f m) g false ≡ cond b m (slice_index_or marks g false)
mark_is marks f g m true same inside =
    ap (λ n. slice_index_or (slice_set marks f m) n false) (sym (eqb-true f g same)) ∙ get_or-set_same marks f m false inside
mark_is marks f g m false other inside = get_or-set_other marks f g m false (λ same. eqb-false f g other (sym same))

pub state_is : (states : List FileState) (f g : ℕ) (state : FileState) (b : Bool) → (f == g) ≡ b → f < length states → state_in (slice_set states f state) g ≡ cond b state (state_in states g)
state_is states f g state true same inside =
    ap (λ n. state_in (slice_set states f state) n) (sym (eqb-true f g same)) ∙ get_or-set_same states f state file.Absent inside
state_is states f g state false other inside = get_or-set_other states f g state file.Absent (λ same. eqb-false f g other (sym same))

dropped_by : (C : Counting) (states : List FileState) (f g : ℕ) (b : Bool) → (f == g) ≡ b → f < length C.present → f < length states → is_present C g ≡ is_some (size_of states g)
    → is_present (without_file C f) g ≡ is_some (size_of (slice_set states f file.Collected) g)
dropped_by C states f g true same inside within before =
    mark_is C.present f g false true same inside ∙ sym (ap (λ state. is_some (size_in state)) (state_is states f g file.Collected true same within))
dropped_by C states f g false other inside within before =
    mark_is C.present f g false false other inside ∙ before ∙ sym (ap (λ state. is_some (size_in state)) (state_is states f g file.Collected false other within))

-- a file is dropped
pub mirrors-dropped : (C : Counting) (P : Plan) (rows : List RuleRow) (states : List FileState) (f : ℕ) → AreMirrored C P rows states → f < length P.files → f < length states
    → AreMirrored (without_file C f) P rows (slice_set states f file.Collected)
mirrors-dropped C P rows states f is inside within = record {
  plan = is.plan;
  rules = is.rules;
  files = length-set C.present f false ∙ is.files;
  done = is.done;
  present = λ g made. dropped_by C states f g (f == g) refl (subst (λ n. f < n) (sym is.files) inside) within (is.present g made);
}

made_done : (C : Counting) (rows : List RuleRow) (r q : ℕ) (row : RuleRow) (b : Bool) → (r == q) ≡ b → r < length C.made → r < length rows → row.done ≡ true
    → is_made C q ≡ (slice_index_or rows q blank_row).done → is_made (with_rule C r) q ≡ (slice_index_or (slice_set rows r row) q blank_row).done
made_done C rows r q row true same inside within done before =
    mark_is C.made r q true true same inside ∙ sym done ∙ sym (ap (λ (w : RuleRow). w.done) (row_is rows r q row true same within))
made_done C rows r q row false other inside within done before =
    mark_is C.made r q true false other inside ∙ before ∙ sym (ap (λ (w : RuleRow). w.done) (row_is rows r q row false other within))

marked_by : (marks : List Bool) (y : ℕ) (ys : List ℕ) (x : ℕ) (first later : Bool) → (y == x) ≡ first → contains_number x ys ≡ later → x < length marks → (first || later) ≡ true
    → (later ≡ true → slice_index_or (with_all (slice_set marks y true) ys) x false ≡ true) → slice_index_or (with_all (slice_set marks y true) ys) x false ≡ true
marked_by marks y ys x first true same among inside is rest = rest refl
marked_by marks y ys x true false same among inside is rest =
    with-all-other (slice_set marks y true) ys x among ∙ mark_is marks y x true true same (subst (λ n. n < length marks) (sym (eqb-true y x same)) inside)
marked_by marks y ys x false false same among inside is rest = absurd (true≢false (sym is))

-- each listed number is marked
with_all_in : (marks : List Bool) (xs : List ℕ) (x : ℕ) → x < length marks → contains_number x xs ≡ true → slice_index_or (with_all marks xs) x false ≡ true
with_all_in marks [] x inside is = absurd (true≢false (sym is))
with_all_in marks (y ∷ ys) x inside is =
    marked_by marks y ys x (y == x) (contains_number x ys) refl refl inside is (λ later. with_all_in (slice_set marks y true) ys x (subst (λ n. x < n) (sym (length-set marks y true)) inside) later)

row_in : (f : ℕ) (fs : List ℕ) (outs : List Content) → length fs ≡ length outs → contains_number f fs ≡ true → is_some (row_of f fs outs) ≡ true
row_in f [] outs long is = absurd (true≢false (sym is))
row_in f (g ∷ fs) [] long is = absurd (let none : ⊥ = omega (arith, long) in none)
row_in f (g ∷ fs) (row ∷ rows) long is = by_test (g == f) is (row_in f fs rows (omega (arith, long)))
  where
    by_test : (b : Bool) → (b || contains_number f fs) ≡ true → (contains_number f fs ≡ true → is_some (row_of f fs rows) ≡ true) → is_some (cond b (Some row) (row_of f fs rows)) ≡ true
    by_test true here rest = refl
    by_test false here rest = rest here

no_row : (f : ℕ) (fs : List ℕ) (outs : List Content) (o : Option Content) → row_of f fs outs ≡ o → contains_number f fs ≡ false → o ≡ None
no_row f fs outs None is none = refl
no_row f fs outs (Some c) is none = absurd (true≢false (sym (contained f fs outs c is) ∙ none))

made_there : (o : Option Content) (state : FileState) → is_some o ≡ true → is_some (size_in (made_or o state)) ≡ true
made_there None state some = absurd (true≢false (sym some))
made_there (Some c) state some = refl

made_present : (C : Counting) (fs : List ℕ) (outs : List Content) (f : ℕ) (before after : FileState) (b : Bool) → contains_number f fs ≡ b → f < length C.present → length fs ≡ length outs
    → after ≡ made_or (row_of f fs outs) before → is_present C f ≡ is_some (size_in before) → slice_index_or (with_all C.present fs) f false ≡ is_some (size_in after)
made_present C fs outs f before after true is inside long made so =
    with_all_in C.present fs f inside is ∙ sym (ap (λ state. is_some (size_in state)) made ∙ made_there (row_of f fs outs) before (row_in f fs outs long is))
made_present C fs outs f before after false is inside long made so =
    with-all-other C.present fs f is ∙ so
    ∙ sym (ap (λ state. is_some (size_in state)) made ∙ ap (λ o. is_some (size_in (made_or o before))) (no_row f fs outs (row_of f fs outs) refl is))

-- a rule is done
pub mirrors-done : (C : Counting) (P : Plan) (rows : List RuleRow) (states after : List FileState) (r : ℕ) (row : RuleRow) (outs : List Content) → AreMirrored C P rows states
    → r < length P.rules → r < length rows → row.done ≡ true → length (makes P r) ≡ length outs → ((f : ℕ) → is_some (maker_of P f) ≡ true → f < length P.files)
    → ((f : ℕ) → state_in after f ≡ made_or (row_of f (makes P r) outs) (state_in states f)) → AreMirrored (with_rule C r) P (slice_set rows r row) after
mirrors-done C P rows states after r row outs is inside within done long known made = record {
  plan = is.plan;
  rules = length-set C.made r true ∙ is.rules;
  files = with-all-length C.present (makes C.plan r) ∙ is.files;
  done = λ q. made_done C rows r q row (r == q) refl (subst (λ n. r < n) (sym is.rules) inside) within done (is.done q);
  present = λ f some. ap (λ (p : Plan). slice_index_or (with_all C.present (makes p r)) f false) is.plan
      ∙ made_present C (makes P r) outs f (state_in states f) (state_in after f) (contains_number f (makes P r)) refl (subst (λ n. f < n) (sym is.files) (known f some)) long (made f) (is.present f some);
}
