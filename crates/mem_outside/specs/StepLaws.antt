-- What reads give is one of the images, and which images there are at this moment.
use Rattle.std.specs.Prelude.{◌≡◌, ◌⊎◌, ◌≤◌, ℕ, Bool, true, false, List, [], ◌∷◌, length, Option, if◌then◌else◌, MatchBool, refl}
use Rattle.std.proofs.Common.{sym, ap, subst, inl, arith}
use Rattle.std.proofs.lemmas.List.{take_all}
use Rattle.std.specs.Str.{bytes_eq}
use Rattle.outside.specs.Disk.{Outcomes, IsImage}
use Rattle.outside.specs.Files.{Files}
use Rattle.mem_outside.specs.declared.step.Step.{Step}
use Rattle.mem_outside.specs.Steps.{value_after, Becomes, stepped, files_after, left, left_after, on_disk, leaves, reads, images}

-- of two values the one that a name has is an outcome under it
pub picked : (b : Bool) (value other : Option (List ℕ)) (Q R : Option (List ℕ) → Type 0) → R other
    → MatchBool b (((if b then value else other) ≡ value) ⊎ Q (if b then value else other)) (R (if b then value else other))
picked true value other Q R r = inl refl
picked false value other Q R r = r

reads_after : (steps : List Step) (files : Files) (outcomes : Outcomes) → ((n : List ℕ) → outcomes n (files n))
    → (n : List ℕ) → left_after steps files outcomes n (files_after steps files n)
reads_after [] files outcomes has n = has n
reads_after (step ∷ rest) files outcomes has n =
    reads_after rest (stepped step files) (left step files outcomes)
    (λ m. picked (bytes_eq step.name m) (value_after step.change (files step.name)) (files m)
    (λ entry. (old : Option (List ℕ)) × outcomes m old × Becomes step.change old entry) (outcomes m) (has m)) n

-- what reads give is one of the images
pub reads_image : (start : Files) (steps : List Step) (files : Files) → files ≡ reads start steps → IsImage (leaves start steps) files
reads_image start steps files is n =
    subst (λ (entry : Option (List ℕ)). leaves start steps n entry) (ap (λ (f : Files). f n) (sym is)) (reads_after steps start (on_disk start) (λ m. refl) n)

-- this moment is one of those since an earlier one
pub counts_now : (start : Files) (steps : List Step) (t : ℕ) (image : Files) → t ≤ length steps → IsImage (leaves start steps) image → images start steps t image
counts_now start steps t image le is =
    let all : length steps ≤ length steps = omega arith in
    (length steps, le, all, subst (λ (l : List Step). IsImage (leaves start l) image) (sym (take_all (length steps) steps all)) is)

-- since this moment there is no other
pub only_now : (start : Files) (steps : List Step) (image : Files) → images start steps (length steps) image → IsImage (leaves start steps) image
only_now start steps image since = subst (λ (l : List Step). IsImage (leaves start l) image) (take_all since.0 steps since.1) since.3
