-- One more record: which files are present, and what the master holds.
use Rattle.std.proofs.Common.{◌≡◌, ℕ, Bool, true, false, cond, ◌||◌, List, [], ◌∷◌, ◌++◌, Option, Some, None, refl, ap, sym, ◌∙◌}
use Rattle.std.specs.Prelude.{slice_get, map, is_some, ◌==◌}
use Rattle.std.specs.List.{list_any}
use Rattle.std.specs.Option.{option_map_or}
use Rattle.std.proofs.lemmas.Bool.{and_parts, eqb-true}
use Rattle.flow_types.specs.declared.plan.Plan.{Plan}
use Rattle.flow_types.specs.declared.plan.Rule.{Rule}
use Rattle.flow_types.specs.declared.numbers.Content.{Content}
use Rattle.flow_types.specs.declared.numbers.RuleNo.{RuleNo}
use Rattle.flow_types.specs.declared.numbers.AttemptNo.{AttemptNo}
use Rattle.flow_types.specs.declared.records.Record.{Record}
use Rattle.flow_types.specs.declared.records.Record.TheVariants as records
use Rattle.run_history.specs.declared.states.FileState.TheVariants as file
use Rattle.flow_types.specs.Plans.{IsValid, maker_of, makes, sources_of, contains_number}
use Rattle.flow_types.specs.Serial.{Contents, content_of, with_contents, job_of, given_by}
use Rattle.flow_types.proofs.Orders.{serial-is_fixed}
use Rattle.run_history.specs.History.{part, is_cleaned}
use Rattle.run_history.specs.States.{outs_of, outs_in, drops, sources_in, opened_sources, row_of, present_with, made_state}
use Rattle.run_history.specs.Storage.{is_present, size_in}
use Rattle.run_history.specs.Legal.{are_within}
use Rattle.run_history.proofs.Steps.{outs-push, sources-push}
use Rattle.run_history.proofs.Stores.{drops-push}
use Rattle.world_laws.specs.Worlds.{row_for}
use Rattle.world_laws.proofs.Invariant.{Setting, due, IsStored}

true_ne_false : true ≡ false → ⊥
true_ne_false h = cc

-- a made file is there, by what was logged of its rule and whether it was dropped
abbrev pub is_there : ℕ → List ℕ → Option (List Content) → Bool → Bool
is_there f keys outs dropped = is_some (size_in (option_map_or (λ rows. cond dropped file.Collected (present_with (row_of f keys rows))) outs file.Absent))

there_before : (f : ℕ) (keys : List ℕ) (outs : Option (List Content)) (dropped more : Bool) → is_there f keys outs (dropped || more) ≡ true → is_there f keys outs dropped ≡ true
there_before f keys None dropped more there = there
there_before f keys (Some rows) true more there = there
there_before f keys (Some rows) false true there = absurd (true_ne_false (sym there))
there_before f keys (Some rows) false false there = there

sources_same : (H : List Record) (x : Record) → is_cleaned x ≡ false → sources_in x ≡ None → opened_sources (H ++ (x ∷ [])) ≡ opened_sources H
sources_same H x more silent = sources-push H x more ∙ ap (λ s. option_map_or (λ sources. sources) s (opened_sources H)) silent

-- the file is there after a record, by its maker
abbrev pub there_by : Plan → List Record → ℕ → Option ℕ → Bool
there_by P H f maker = is_some (size_in (option_map_or (made_state P H f) maker (present_with (row_of f (sources_of P) (opened_sources H)))))

there_source : (P : Plan) (H : List Record) (x : Record) (f : ℕ) → is_cleaned x ≡ false → sources_in x ≡ None → there_by P (H ++ (x ∷ [])) f None ≡ true → there_by P H f None ≡ true
there_source P H x f more silent there = sym (ap (λ rows. is_some (size_in (present_with (row_of f (sources_of P) rows)))) (sources_same H x more silent)) ∙ there

pub there_made : (P : Plan) (H : List Record) (x : Record) (f m : ℕ) (outs : Option (List Content)) → is_cleaned x ≡ false → outs_of (H ++ (x ∷ [])) m ≡ outs
    → there_by P (H ++ (x ∷ [])) f (Some m) ≡ is_there f (makes P m) outs (list_any (drops f) (part H) || (drops f x || false))
there_made P H x f m outs more is =
    ap (λ o. is_there f (makes P m) o (list_any (drops f) (part (H ++ (x ∷ []))))) is ∙ ap (is_there f (makes P m) outs) (drops-push f H x more)

there_silent : (P : Plan) (H : List Record) (x : Record) (f : ℕ) (maker : Option ℕ) → is_cleaned x ≡ false → sources_in x ≡ None → ((m : ℕ) → outs_in m x ≡ None)
    → there_by P (H ++ (x ∷ [])) f maker ≡ true → there_by P H f maker ≡ true
there_silent P H x f None more silent none there = there_source P H x f more silent there
there_silent P H x f (Some m) more silent none there =
    let outs : outs_of (H ++ (x ∷ [])) m ≡ outs_of H m = outs-push H x m more ∙ ap (λ o. option_map_or Some o (outs_of H m)) (none m) in
    there_before f (makes P m) (outs_of H m) (list_any (drops f) (part H)) (drops f x || false) (sym (there_made P H x f m (outs_of H m) more outs) ∙ there)

-- a record that makes nothing adds no file
pub present_before : (P : Plan) (H : List Record) (x : Record) (f : ℕ) → is_cleaned x ≡ false → sources_in x ≡ None → ((m : ℕ) → outs_in m x ≡ None)
    → is_present P (H ++ (x ∷ [])) f ≡ true → is_present P H f ≡ true
present_before P H x f more silent none there = there_silent P H x f (maker_of P f) more silent none there

row_absent : (f : ℕ) (keys : List ℕ) (rows : List Content) → contains_number f keys ≡ false → row_of f keys rows ≡ None
row_absent f [] rows other = refl
row_absent f (g ∷ keys) [] other = refl
row_absent f (g ∷ keys) (row ∷ rows) other = at f g keys row rows (g == f) other (row_absent f keys rows)
  where
    at : (f g : ℕ) (keys : List ℕ) (row : Content) (rows : List Content) (b : Bool) → (b || contains_number f keys) ≡ false → (contains_number f keys ≡ false → row_of f keys rows ≡ None)
        → cond b (Some row) (row_of f keys rows) ≡ None
    at f g keys row rows true other later = absurd (true_ne_false other)
    at f g keys row rows false other later = later other

not_there : (f : ℕ) (keys : List ℕ) (rows : List Content) (dropped : Bool) → row_of f keys rows ≡ None → is_there f keys (Some rows) dropped ≡ false
not_there f keys rows true none = refl
not_there f keys rows false none = ap (λ row. is_some (size_in (present_with row))) none

done_before : (P : Plan) (H : List Record) (f r m : ℕ) (rows : List Content) (dropped more b : Bool) → (r == m) ≡ b → contains_number f (makes P r) ≡ false
    → is_there f (makes P m) (option_map_or Some (cond b (Some rows) None) (outs_of H m)) (dropped || more) ≡ true → is_there f (makes P m) (outs_of H m) dropped ≡ true
done_before P H f r m rows dropped more true same other there =
    absurd (true_ne_false (sym there ∙ not_there f (makes P m) rows (dropped || more) (row_absent f (makes P m) rows (ap (λ q. contains_number f (makes P q)) (sym (eqb-true r m same)) ∙ other))))
done_before P H f r m rows dropped more false unlike other there = there_before f (makes P m) (outs_of H m) dropped more there

done_by : (P : Plan) (H : List Record) (moment : ℕ) (r : RuleNo) (attempt : AttemptNo) (rows : List Content) (f : ℕ) (maker : Option ℕ) → contains_number f (makes P r.0) ≡ false
    → there_by P (H ++ (records.Done moment r attempt rows ∷ [])) f maker ≡ true → there_by P H f maker ≡ true
done_by P H moment r attempt rows f None other there = there_source P H (records.Done moment r attempt rows) f refl refl there
done_by P H moment r attempt rows f (Some m) other there =
    let x : Record = records.Done moment r attempt rows in
    done_before P H f r.0 m rows (list_any (drops f) (part H)) (drops f x || false) (r.0 == m) refl other
    (sym (there_made P H x f m (option_map_or Some (cond (r.0 == m) (Some rows) None) (outs_of H m)) refl (outs-push H x m refl)) ∙ there)

-- a Done adds only files of its rule
pub present_done : (P : Plan) (H : List Record) (moment : ℕ) (r : RuleNo) (attempt : AttemptNo) (rows : List Content) (f : ℕ) → contains_number f (makes P r.0) ≡ false
    → is_present P (H ++ (records.Done moment r attempt rows ∷ [])) f ≡ true → is_present P H f ≡ true
present_done P H moment r attempt rows f other there = done_by P H moment r attempt rows f (maker_of P f) other there

-- what the master holds after a record that makes and drops nothing
pub stored_same : (S : Setting) (H : List Record) (contents : Contents) (x : Record) → is_cleaned x ≡ false → sources_in x ≡ None → ((m : ℕ) → outs_in m x ≡ None)
    → IsStored S H contents → IsStored S (H ++ (x ∷ [])) contents
stored_same S H contents x more silent none old =
    record { sound = old.sound; present = λ f there. old.present f (present_before S.plan H x f more silent none there) }

content_there : (P : Plan) (f : ℕ) (fs : List ℕ) (outs : List (List ℕ)) → are_within P fs (map row_for outs) ≡ true → contains_number f fs ≡ true → is_some (content_of f fs outs) ≡ true
content_there P f [] outs within made = absurd (true_ne_false (sym made))
content_there P f (g ∷ fs) [] within made = absurd (true_ne_false (sym within))
content_there P f (g ∷ fs) (out ∷ outs) within made = at f g fs out outs (g == f) made (content_there P f fs outs (and_parts _ _ within).1)
  where
    at : (f g : ℕ) (fs : List ℕ) (out : List ℕ) (outs : List (List ℕ)) (b : Bool) → (b || contains_number f fs) ≡ true
        → (contains_number f fs ≡ true → is_some (content_of f fs outs) ≡ true) → is_some (cond b (Some out) (content_of f fs outs)) ≡ true
    at f g fs out outs true made later = refl
    at f g fs out outs false made later = later made

new_there : (P : Plan) (contents : Contents) (f : ℕ) (fs : List ℕ) (outs : List (List ℕ)) (b : Bool) → contains_number f fs ≡ b → are_within P fs (map row_for outs) ≡ true
    → (b ≡ false → is_some (contents f) ≡ true) → is_some (cond b (content_of f fs outs) (contents f)) ≡ true
new_there P contents f fs outs true is within old = content_there P f fs outs within is
new_there P contents f fs outs false is within old = old refl

new_sound : (S : Setting) (contents : Contents) (r : ℕ) (rule : Rule) (outs : List (List ℕ)) (f : ℕ) (content : List ℕ) (b : Bool) → contains_number f (makes S.plan r) ≡ b
    → IsValid S.plan → slice_get S.plan.rules r ≡ Some rule → outs ≡ given_by S.gives (job_of S.plan rule (due S)) → (contents f ≡ Some content → due S f ≡ Some content)
    → cond b (content_of f (makes S.plan r) outs) (contents f) ≡ Some content → due S f ≡ Some content
new_sound S contents r rule outs f content true made valid at given old got =
    serial-is_fixed S.plan S.gives S.sources r f rule valid at made ∙ ap (content_of f (makes S.plan r)) (sym given) ∙ got
new_sound S contents r rule outs f content false other valid at given old got = old got

-- a rule is done with what its job over the serial run's contents gives
pub stored_done : (S : Setting) (H : List Record) (contents : Contents) (moment : ℕ) (r : RuleNo) (attempt : AttemptNo) (rule : Rule) (outs : List (List ℕ))
    → IsValid S.plan → slice_get S.plan.rules r.0 ≡ Some rule → are_within S.plan (makes S.plan r.0) (map row_for outs) ≡ true
    → outs ≡ given_by S.gives (job_of S.plan rule (due S)) → IsStored S H contents
    → IsStored S (H ++ (records.Done moment r attempt (map row_for outs) ∷ [])) (with_contents contents (makes S.plan r.0) outs)
stored_done S H contents moment r attempt rule outs valid at within given old = record {
  sound = λ f content got. new_sound S contents r.0 rule outs f content (contains_number f (makes S.plan r.0)) refl valid at given (old.sound f content) got;
  present = λ f there. new_there S.plan contents f (makes S.plan r.0) outs (contains_number f (makes S.plan r.0)) refl within
      (λ other. old.present f (present_done S.plan H moment r attempt (map row_for outs) f other there));
}
