-- A collected file: its Dropped is allowed, and keeps the invariant.
use Rattle.std.proofs.Common.{◌≡◌, ℕ, Bool, true, false, cond, not, ◌||◌, List, [], ◌∷◌, ◌++◌, Option, Some, None, refl, ap, sym, ◌∙◌}
use Rattle.std.specs.Prelude.{filter, is_some, map, ◌==◌}
use Rattle.std.specs.List.{list_any}
use Rattle.std.proofs.lemmas.Bool.{and_parts, eqb-true, eq-eqb}
use Rattle.flow_types.specs.declared.plan.Plan.{Plan}
use Rattle.flow_types.specs.declared.numbers.Content.{Content}
use Rattle.flow_types.specs.declared.numbers.FileNo.{FileNo}
use Rattle.flow_types.specs.declared.records.Record.{Record}
use Rattle.flow_types.specs.declared.records.Record.TheVariants as records
use Rattle.flow_types.specs.Plans.{maker_of, makes, file_numbers}
use Rattle.flow_types.specs.Serial.{Contents}
use Rattle.run_history.specs.declared.options.Mode.{Mode}
use Rattle.run_history.specs.declared.options.Mode.TheVariants as modes
use Rattle.run_history.specs.Answers.{file_no}
use Rattle.run_history.specs.History.{part}
use Rattle.run_history.specs.Legal.{has_places}
use Rattle.run_history.specs.States.{outs_of, drops}
use Rattle.run_history.specs.Storage.{is_free, is_present, least_free, wanted, fits_storage, ready_rules}
use Rattle.run_history.proofs.Bools.{both}
use Rattle.run_history.proofs.Steps.{outs-push}
use Rattle.world_laws.specs.Worlds.{World, Connection, records_in, without, dropped, drop_logged, knows, forgets, unlink_on, unlinks, collects, sent_more}
use Rattle.world_laws.proofs.WorldSteps.{sent_kept, connections_kept}
use Rattle.world_laws.proofs.Members.{found_stands, every_map}
use Rattle.world_laws.proofs.Files.{present_before, is_there, there_by, there_made}
use Rattle.world_laws.proofs.Closes.{logged_kept}
use Rattle.world_laws.proofs.Invariant.{Setting, due, IsSendable, IsStored, IsKept}

true_ne_false : true ≡ false → ⊥
true_ne_false h = cc

free_by : (P : Plan) (H : List Record) (f : ℕ) (late : Bool) → cond late (least_free P H) None ≡ Some f → is_free P H f ≡ true
free_by P H f true is = (found_stands (is_free P H) (file_numbers P) f is).1
free_by P H f false is = absurd (let h : ⊥ = cc in h)

-- the wanted file is free
wanted_free : (P : Plan) (mode : Mode) (H : List Record) (f : ℕ) → wanted P mode H ≡ Some f → is_free P H f ≡ true
wanted_free P modes.Never H f is = absurd (let h : ⊥ = cc in h)
wanted_free P modes.RefCount H f is = (found_stands (is_free P H) (file_numbers P) f is).1
wanted_free P modes.OnDemand H f is = free_by P H f (list_any (λ r. not (fits_storage P H r)) (ready_rules P H)) is

dropped_gone : (f : ℕ) (keys : List ℕ) (outs : Option (List Content)) (dropped : Bool) → is_there f keys outs (dropped || true) ≡ false
dropped_gone f keys None dropped = refl
dropped_gone f keys (Some rows) true = refl
dropped_gone f keys (Some rows) false = refl

gone_by : (P : Plan) (H : List Record) (f : ℕ) (maker : Option ℕ) → is_some maker ≡ true → there_by P (H ++ (records.Dropped 0 (file_no f) ∷ [])) f maker ≡ false
gone_by P H f None made = absurd (true_ne_false (sym made))
gone_by P H f (Some m) made =
    let x : Record = records.Dropped 0 (file_no f) in
    there_made P H x f m (outs_of H m) refl (outs-push H x m refl)
    ∙ ap (λ b. is_there f (makes P m) (outs_of H m) (list_any (drops f) (part H) || (b || false))) (eq-eqb f f refl)
    ∙ dropped_gone f (makes P m) (outs_of H m) (list_any (drops f) (part H))

kept_file : (contents : Contents) (f g : ℕ) (b : Bool) → (g == f) ≡ b → (g ≡ f → ⊥) → is_some (contents g) ≡ true → is_some (cond b None (contents g)) ≡ true
kept_file contents f g true same other there = absurd (other (eqb-true g f same))
kept_file contents f g false unlike other there = there

still_sound : (S : Setting) (contents : Contents) (g : ℕ) (content : List ℕ) (b : Bool) → (contents g ≡ Some content → due S g ≡ Some content) → cond b None (contents g) ≡ Some content → due S g ≡ Some content
still_sound S contents g content true sound got = absurd (let h : ⊥ = cc in h)
still_sound S contents g content false sound got = sound got

stored_dropped : (S : Setting) (H : List Record) (contents : Contents) (f : ℕ) → is_some (maker_of S.plan f) ≡ true → IsStored S H contents
    → IsStored S (H ++ (records.Dropped 0 (file_no f) ∷ [])) (without contents f)
stored_dropped S H contents f made old =
    let x : Record = records.Dropped 0 (file_no f) in
    record {
      sound = λ g content got. still_sound S contents g content (g == f) (old.sound g content) got;
      present = λ g there. kept_file contents f g (g == f) refl
          (λ same. true_ne_false (sym there ∙ ap (λ h. is_present S.plan (H ++ (x ∷ [])) h) same ∙ gone_by S.plan H f (maker_of S.plan f) made))
          (old.present g (present_before S.plan H x g refl refl (λ m. refl) there));
    }

dropped_kept : (S : Setting) (w : World) (f : ℕ) → has_places S.plan (records_in w) 1 ≡ true → is_free S.plan (records_in w) f ≡ true → IsKept S w → IsKept S (dropped w f)
dropped_kept S w f places free kept =
    let h3 = and_parts _ _ free in let h2 = and_parts _ _ h3.0 in let h1 = and_parts _ _ h2.0 in
    logged_kept S w (records.Dropped 0 (file_no f)) (without w.contents f) kept refl (both _ _ free places)
    (stored_dropped S (records_in w) w.contents f h1.0 kept.stored) tt

-- Unlinks need no reason.
unlinks_kept : (S : Setting) (w : World) (file : FileNo) → IsKept S w → IsKept S (unlinks w file)
unlinks_kept S w file kept =
    let on : List Connection = filter (knows file) w.connections in
    let more : World = sent_more w (map (unlink_on file) on) in
    connections_kept S more (map (forgets file) w.connections)
    (sent_kept S w (map (unlink_on file) on) kept (every_map (IsSendable S (records_in w) w.bag) (unlink_on file) on (λ c there. (tt, refl))))

drop_by : (S : Setting) (w : World) (f : ℕ) (places : Bool) → has_places S.plan (records_in w) 1 ≡ places → is_free S.plan (records_in w) f ≡ true → IsKept S w
    → IsKept S (cond places (dropped w f) w)
drop_by S w f true places free kept = dropped_kept S w f places free kept
drop_by S w f false places free kept = kept

collect_by : (S : Setting) (w : World) (f : ℕ) (places : Bool) → has_places S.plan (records_in w) 1 ≡ places → is_free S.plan (records_in w) f ≡ true → IsKept S w
    → IsKept S (cond places (unlinks (dropped w f) (file_no f)) w)
collect_by S w f true places free kept = unlinks_kept S (dropped w f) (file_no f) (dropped_kept S w f places free kept)
collect_by S w f false places free kept = kept

-- what a collection logs
pub drop_logged_kept : (S : Setting) (mode : Mode) (w : World) (found : Option ℕ) → wanted S.plan mode (records_in w) ≡ found → IsKept S w → IsKept S (drop_logged S.plan w found)
drop_logged_kept S mode w None is kept = kept
drop_logged_kept S mode w (Some f) is kept = drop_by S w f (has_places S.plan (records_in w) 1) refl (wanted_free S.plan mode (records_in w) f is) kept

-- a collection
pub collects_kept : (S : Setting) (mode : Mode) (w : World) (found : Option ℕ) → wanted S.plan mode (records_in w) ≡ found → IsKept S w → IsKept S (collects S.plan w found)
collects_kept S mode w None is kept = kept
collects_kept S mode w (Some f) is kept = collect_by S w f (has_places S.plan (records_in w) 1) refl (wanted_free S.plan mode (records_in w) f is) kept
