-- What is collected isn't needed.
use Rattle.std.proofs.Common.{◌≡◌, ℕ, Bool, true, false, not, cond, ◌&&◌, List, [], ◌∷◌, ◌++◌, Some, None, refl, sym, subst, true≢false, if◌then◌else◌}
use Rattle.std.specs.Prelude.{find, is_some}
use Rattle.std.specs.List.{list_all, list_any}
use Rattle.flow_types.specs.declared.plan.Plan.{Plan}
use Rattle.flow_types.specs.declared.records.Record.{Record}
use Rattle.flow_types.specs.declared.records.Record.TheVariants as records
use Rattle.flow_types.specs.Plans.{file_numbers, is_kept, maker_of, takers_of}
use Rattle.run_history.specs.declared.options.Mode.{Mode}
use Rattle.run_history.specs.declared.options.Mode.TheVariants as modes
use Rattle.run_history.specs.Storage.{fits_storage, is_complete, is_free, is_present, least_free, ready_rules, wanted}
use Rattle.local_run.specs.Collecting.{CollectsBy}
use Rattle.master_run.specs.Headline.{DropsUnneeded}

absent : {A : Type 0} → false ≡ true → A
absent wrong = absurd (true≢false (sym wrong))

found : (p : ℕ → Bool) (xs : List ℕ) (y : ℕ) → find p xs ≡ Some y → p y ≡ true
found p [] y is = absurd (cc)
found p (x ∷ xs) y is = by_test (p x) refl is (found p xs y)
  where
    by_test : (b : Bool) → p x ≡ b → cond b (Some x) (find p xs) ≡ Some y → (find p xs ≡ Some y → p y ≡ true) → p y ≡ true
    by_test true passes first rest = let same : x ≡ y = cc in subst (λ (n : ℕ). p n ≡ true) same passes
    by_test false passes first rest = rest first

wanted_free : (P : Plan) (mode : Mode) (H : List Record) (f : ℕ) → wanted P mode H ≡ Some f → is_free P H f ≡ true
wanted_free P modes.Never H f is = absurd (cc)
wanted_free P modes.RefCount H f is = found (is_free P H) (file_numbers P) f is
wanted_free P modes.OnDemand H f is = by_test (list_any (λ r. not (fits_storage P H r)) (ready_rules P H)) is
  where
    by_test : (b : Bool) → (if b then least_free P H else None) ≡ Some f → is_free P H f ≡ true
    by_test true is = found (is_free P H) (file_numbers P) f is
    by_test false is = absurd (cc)

last_two : (a b c d : Bool) → (a && b && not c && d) ≡ true → (c ≡ false) × (d ≡ true)
last_two false b c d is = absent is
last_two true false c d is = absent is
last_two true true true d is = absent is
last_two true true false false is = absent is
last_two true true false true is = (refl, refl)

-- a file that is wanted for collection is needed by nobody
pub drops_unneeded : (P : Plan) (mode : Mode) (H all : List Record) → CollectsBy P mode H all → DropsUnneeded P H all
drops_unneeded P mode H all c = record {
  more = c.more;
  are = c.are;
  each = λ before after moment f at. last_two (is_some (maker_of P f.0)) (is_present P (H ++ before) f.0) (is_kept P f.0) (list_all (is_complete (H ++ before)) (takers_of P f.0))
      (wanted_free P mode (H ++ before) f.0 (c.each before after (records.Dropped moment f) at));
}
