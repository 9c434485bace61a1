-- What a replay of steps gives, and that what was synced is one of the images.
use Rattle.std.proofs.Common.{◌≡◌, ◌⊎◌, ◌≤◌, ℕ, Bool, true, false, List, [], ◌∷◌, ◌++◌, length, take, Option, refl, sym, ◌∙◌, ap, subst, inr, arith, length-take, Result, Ok, Err, IfOk, get_or, ◌<◌, ◌+◌}
use Rattle.std.specs.Prelude.{MatchBool, if◌then◌else◌, not, nat_lt}
use Rattle.std.specs.List.{position_or_len}
use Rattle.std.proofs.lemmas.Bool.{cond-true}
use Rattle.std.proofs.lemmas.List.{take_more}
use Rattle.std.proofs.lemmas.Slice.Eq.{bytes_eq-Decides}
use Rattle.std.proofs.lemmas.List.Folds.{length-prefix_len}
use Rattle.std.specs.Str.{bytes_eq}
use Rattle.outside.specs.Disk.{Outcomes, IsImage}
use Rattle.outside.specs.Files.{Files}
use Rattle.outside.proofs.Moments.{torn_same, shortened_same, removed_same}
use Rattle.mem_outside.specs.Entries.{with_file}
use Rattle.mem_outside.specs.declared.step.Change.{Change}
use Rattle.mem_outside.specs.declared.step.Change.TheVariants.{Put, Write, Cut, Remove, Sync}
use Rattle.mem_outside.specs.declared.step.Step.{Step}
use Rattle.mem_outside.specs.Steps.{value_after, Becomes, is_durable, stepped, settled, synced_after, files_after, left, left_after, on_disk, leaves, reads, synced, images, up_to}
use Rattle.mem_outside.specs.StepLaws.{picked}
use Rattle.mem_outside.specs.MemSite.{files_of}
use Rattle.mem_outside.specs.declared.mem_site.MemSite.{MemSite}
use Rattle.mem_outside.proofs.Crashes.{files_push}

abbrev Entry : Type 0
Entry = Option (List ℕ)

pub synced_push : (steps : List Step) (step : Step) (files kept : Files)
    → synced_after (steps ++ step ∷ []) files kept ≡ settled step (files_after steps files) (synced_after steps files kept)
synced_push [] step files kept = refl
synced_push (first ∷ rest) step files kept = synced_push rest step (stepped first files) (settled first files kept)

-- where what a change leaves isn't on the disk, a crash may leave what was there
stays : (change : Change) (entry : Entry) → is_durable change ≡ false → Becomes change entry entry
stays (Put bytes) entry is = absurd (cc)
stays (Write at bytes) entry is = torn_same at (length bytes) entry
stays (Cut len) entry is = shortened_same len entry
stays Remove entry is = removed_same entry
stays Sync entry is = absurd (cc)

other_stays : (b : Bool) (value other : Entry) (Q R : Entry → Type 0) → Q other → R other → MatchBool b ((other ≡ value) ⊎ Q other) (R other)
other_stays true value other Q R q r = inr q
other_stays false value other Q R q r = r

settled_left : (step : Step) (files kept : Files) (outcomes : Outcomes) → ((n : List ℕ) → outcomes n (kept n)) → (n : List ℕ) → left step files outcomes n (settled step files kept n)
settled_left step files kept outcomes has n = by (is_durable step.change) refl
  where
    value : Entry
    value = value_after step.change (files step.name)

    Made : Entry → Type 0
    Made entry = (old : Entry) × outcomes n old × Becomes step.change old entry

    by : (b : Bool) → is_durable step.change ≡ b
        → MatchBool (bytes_eq step.name n)
        (((if b then with_file step.name value kept else kept) n ≡ value) ⊎ Made ((if b then with_file step.name value kept else kept) n))
        (outcomes n ((if b then with_file step.name value kept else kept) n))
    by true is = picked (bytes_eq step.name n) value (kept n) Made (outcomes n) (has n)
    by false is = other_stays (bytes_eq step.name n) value (kept n) Made (outcomes n) (kept n, has n, stays step.change (kept n) is) (has n)

synced_left : (steps : List Step) (files kept : Files) (outcomes : Outcomes) → ((n : List ℕ) → outcomes n (kept n))
    → (n : List ℕ) → left_after steps files outcomes n (synced_after steps files kept n)
synced_left [] files kept outcomes has n = has n
synced_left (step ∷ rest) files kept outcomes has n =
    synced_left rest (stepped step files) (settled step files kept) (left step files outcomes) (settled_left step files kept outcomes has) n

-- what was synced is one of the images
pub synced_image : (start : Files) (steps : List Step) (files : Files) → files ≡ synced start steps → IsImage (leaves start steps) files
synced_image start steps files is n =
    subst (λ (entry : Entry). leaves start steps n entry) (ap (λ (f : Files). f n) (sym is)) (synced_left steps start start (on_disk start) (λ m. refl) n)

-- an image of the moment when a call had ended is one of those since each earlier time
pub image_since : (start : Files) (steps : List Step) (call : ℕ) (files : Files) → IsImage (leaves start (up_to call steps)) files
    → (t : ℕ) → t ≤ length (up_to call steps) → images start steps t files
image_since start steps call files is t le =
    let same : take (length (up_to call steps)) steps ≡ up_to call steps = ap (λ (n : ℕ). take n steps) (length-prefix_len (λ (step : Step). not (nat_lt call step.call)) steps) in
    let within : length (up_to call steps) ≤ length steps = omega (arith, length-take (position_or_len (λ (step : Step). nat_lt call step.call) steps) steps) in
    (length (up_to call steps), le, within, subst (λ (l : List Step). IsImage (leaves start l) files) (sym same) is)

-- what was written and is on the disk now
pub settled_is : (step : Step) (name : List ℕ) (files files_then kept kept_then : Files) → name ≡ step.name
    → files_then ≡ with_file name (value_after step.change (files name)) files → is_durable step.change ≡ true → kept_then ≡ with_file name (files_then name) kept
    → kept_then ≡ settled step files kept
settled_is step name files files_then kept kept_then named written durable is =
    is
    ∙ ap (λ (value : Entry). with_file name value kept)
    (ap (λ (f : Files). f name) written ∙ cond-true (bytes_eq name name) (value_after step.change (files name)) (files name) ((bytes_eq-Decides name name).1 refl))
    ∙ ap (λ (n : List ℕ). with_file n (value_after step.change (files n)) kept) named
    ∙ sym (ap (λ (b : Bool). if b then with_file step.name (value_after step.change (files step.name)) kept else kept) durable)

-- one step more
pub written_more : (start : Files) (steps : List Step) (i : ℕ) (step : Step) (files files_then : Files) → i < length steps → step ≡ get_or steps i step
    → files ≡ reads start (take i steps) → files_then ≡ stepped step files → files_then ≡ reads start (take (i + 1) steps)
written_more start steps i step files files_then lt at is then_is =
    then_is ∙ ap (λ (f : Files). stepped step f) is ∙ sym (files_push (take i steps) step start)
    ∙ ap (λ (l : List Step). reads start l) (sym (take_more steps i step lt ∙ ap (λ (s : Step). take i steps ++ s ∷ []) (sym at)))

pub synced_more : (start : Files) (steps : List Step) (i : ℕ) (step : Step) (files kept kept_then : Files) → i < length steps → step ≡ get_or steps i step
    → files ≡ reads start (take i steps) → kept ≡ synced start (take i steps) → kept_then ≡ settled step files kept → kept_then ≡ synced start (take (i + 1) steps)
synced_more start steps i step files kept kept_then lt at is was then_is =
    then_is ∙ ap (λ (f : Files). settled step f kept) is ∙ ap (λ (k : Files). settled step (reads start (take i steps)) k) was
    ∙ sym (synced_push (take i steps) step start start)
    ∙ ap (λ (l : List Step). synced start l) (sym (take_more steps i step lt ∙ ap (λ (s : Step). take i steps ++ s ∷ []) (sym at)))

-- a site that has an image of that moment as its files
pub has_image : {E : Type 0} (result : Result MemSite E) (outcomes : Outcomes) (files : Files) → IsImage outcomes files → IfOk result (λ site. files_of site ≡ files)
    → IfOk result (λ site. IsImage outcomes (files_of site))
has_image (Ok site) outcomes files image is = λ n. subst (λ (entry : Entry). outcomes n entry) (ap (λ (f : Files). f n) (sym is)) (image n)
has_image (Err e) outcomes files image is = tt

pub has_image_since : {E : Type 0} (result : Result MemSite E) (start : Files) (steps : List Step) (call : ℕ) → IfOk result (λ site. IsImage (leaves start (up_to call steps)) (files_of site))
    → IfOk result (λ site. (t : ℕ) → t ≤ length (up_to call steps) → images start steps t (files_of site))
has_image_since (Ok site) start steps call image = λ t le. image_since start steps call (files_of site) image t le
has_image_since (Err e) start steps call image = tt
