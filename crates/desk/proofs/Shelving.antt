-- Contents that are kept: their bytes together, and that they are what stands under their names.
use Rattle.std.proofs.Common.{◌≡◌, ◌≢◌, ◌∙◌, ◌≤◌, ◌<◌, ◌+◌, ◌++◌, ◌∷◌, [], ℕ, zero, suc, Bool, true, false, List, Option, Some, Ok, inl, inr, length, take, drop, get_or, cond, not, sym, ap, subst, refl, arith, true≢false, ◌⊎◌}
use Rattle.std.specs.Prelude.{All, Contains, filter}
use Rattle.std.specs.Str.{bytes_eq}
use Rattle.std.proofs.lemmas.List.{take_more}
use Rattle.std.proofs.lemmas.List.Elements.{All-cons, All-contains, All-drop, All-filter, All-head, All-nil, All-push, All-tail}
use Rattle.std.proofs.lemmas.Slice.Eq.{bytes_eq-Decides}
use Rattle.flow_types.specs.declared.numbers.Content.{Content}
use Rattle.outside.specs.Files.{Files}
use Rattle.desk.specs.declared.inputs.shelf.Shelved.{Shelved}
use Rattle.desk.specs.Inputs.{Finds}
use Rattle.desk.proofs.Damage.{found_bytes}
use Rattle.desk.specs.Kept.{logged}
use Rattle.desk.specs.Shelves.{AreThere, IsPutOn, IsShelf, IsShelved, bytes_on, most_together}

one_fewer : (b : Bool) (x : Shelved) (some xs : List Shelved) → bytes_on some ≤ bytes_on xs → bytes_on (cond b (x ∷ some) some) ≤ bytes_on (x ∷ xs)
one_fewer true x some xs le = let is : x.content.size + bytes_on some ≤ x.content.size + bytes_on xs = omega (arith, le) in is
one_fewer false x some xs le = let is : bytes_on some ≤ x.content.size + bytes_on xs = omega (arith, le) in is

-- those that pass a test have no more bytes than all
pub fewer_bytes : (p : Shelved → Bool) (xs : List Shelved) → bytes_on (filter p xs) ≤ bytes_on xs
fewer_bytes p [] = let is : 0 ≤ 0 = omega arith in is
fewer_bytes p (x ∷ xs) = one_fewer (p x) x (filter p xs) xs (fewer_bytes p xs)

-- so they may be kept where all may be
pub shelf_filtered : (p : Shelved → Bool) (xs : List Shelved) → IsShelf xs → IsShelf (filter p xs)
shelf_filtered p xs is = record {
  each = All-filter p IsShelved xs is.each;
  together = let le = fewer_bytes p xs in let most = is.together in omega (arith, le, most);
}

-- the bytes of one content more
pub bytes_push : (xs : List Shelved) (x : Shelved) → bytes_on (xs ++ (x ∷ [])) ≡ bytes_on xs + x.content.size
bytes_push [] x = let is : x.content.size + 0 ≡ 0 + x.content.size = omega arith in is
bytes_push (y ∷ xs) x = let tail = bytes_push xs x in let is : y.content.size + bytes_on (xs ++ (x ∷ [])) ≡ y.content.size + bytes_on xs + x.content.size = omega (arith, tail) in is

pub bytes_more : (xs : List Shelved) (i : ℕ) (x : Shelved) → i < length xs → x ≡ get_or xs i x → bytes_on (take (i + 1) xs) ≡ bytes_on (take i xs) + x.content.size
bytes_more xs i x inside here =
    ap bytes_on (take_more xs i x inside ∙ ap (λ (y : Shelved). take i xs ++ (y ∷ [])) (sym here)) ∙ bytes_push (take i xs) x

-- the first contents have no more bytes than all
pub bytes_front : (n : ℕ) (xs : List Shelved) → bytes_on (take n xs) ≤ bytes_on xs
bytes_front zero xs = let is : 0 ≤ bytes_on xs = omega arith in is
bytes_front (suc n) [] = let is : 0 ≤ 0 = omega arith in is
bytes_front (suc n) (x ∷ xs) = let tail = bytes_front n xs in let is : x.content.size + bytes_on (take n xs) ≤ x.content.size + bytes_on xs = omega (arith, tail) in is

-- the oldest one and the others
pub oldest_bytes : (xs : List Shelved) (x : Shelved) → 0 < length xs → x ≡ get_or xs 0 x → x.content.size + bytes_on (drop 1 xs) ≡ bytes_on xs
oldest_bytes [] x some here = absurd (let wrong : ⊥ = omega (arith, some) in wrong)
oldest_bytes (y ∷ xs) x some here = ap (λ (z : Shelved). z.content.size + bytes_on xs) here

-- where there are bytes there is a content
pub some_kept : (xs : List Shelved) → 0 < bytes_on xs → 0 < length xs
some_kept [] some = some
some_kept (x ∷ xs) some = let is : 0 < suc (length xs) = omega arith in is

pub drop_one_more : (n : ℕ) (xs : List Shelved) → drop 1 (drop n xs) ≡ drop (suc n) xs
drop_one_more zero xs = refl
drop_one_more (suc n) [] = refl
drop_one_more (suc n) (x ∷ xs) = drop_one_more n xs

-- one more may be kept where there is room for it
pub shelf_put : (xs : List Shelved) (x : Shelved) → All IsShelved xs → IsShelved x → bytes_on xs + x.content.size ≤ most_together → IsShelf (xs ++ (x ∷ []))
shelf_put xs x each one room = record {
  each = All-push IsShelved xs x each one;
  together = let is = bytes_push xs x in omega (arith, is, room);
}

there_one : (n : List ℕ) (old new : Files) (x : Shelved) (some : List Shelved) (b : Bool) → bytes_eq x.name n ≡ b → (old x.name ≡ Some x.bytes) → AreThere some new
    → ((m : List ℕ) → m ≢ n → new m ≡ old m) → AreThere (cond (not b) (x ∷ some) some) new
there_one n old new x some true is here rest others = rest
there_one n old new x some false is here rest others =
    All-cons (λ (y : Shelved). new y.name ≡ Some y.bytes) x some
    (others x.name (λ same. true≢false (sym ((bytes_eq-Decides x.name n).1 same) ∙ is)) ∙ here) rest

-- where no other name changes, what is kept of the others is what stands there
pub still_there : (n : List ℕ) (old new : Files) (kept : List Shelved) → AreThere kept old → ((m : List ℕ) → m ≢ n → new m ≡ old m)
    → AreThere (filter (λ x. not (bytes_eq x.name n)) kept) new
still_there n old new [] there others = All-nil (λ (y : Shelved). new y.name ≡ Some y.bytes)
still_there n old new (x ∷ xs) there others =
    there_one n old new x (filter (λ y. not (bytes_eq y.name n)) xs) (bytes_eq x.name n) refl
    (All-head (λ (y : Shelved). old y.name ≡ Some y.bytes) x xs there)
    (still_there n old new xs (All-tail (λ (y : Shelved). old y.name ≡ Some y.bytes) x xs there) others) others

there_by : (files : Files) (before : List Shelved) (x : Shelved) (after : List Shelved) (n : ℕ) → (after ≡ drop n before) ⊎ (after ≡ drop n before ++ (x ∷ [])) → AreThere before files → files x.name ≡ Some x.bytes → AreThere after files
there_by files before x after n (inl is) there here =
    subst (λ (l : List Shelved). AreThere l files) (sym is) (All-drop (λ (y : Shelved). files y.name ≡ Some y.bytes) n before there)
there_by files before x after n (inr is) there here =
    subst (λ (l : List Shelved). AreThere l files) (sym is)
    (All-push (λ (y : Shelved). files y.name ≡ Some y.bytes) (drop n before) x (All-drop (λ (y : Shelved). files y.name ≡ Some y.bytes) n before there) here)

-- so is what is kept behind a read
pub there_put : (files : Files) (before : List Shelved) (x : Shelved) (after : List Shelved) → IsPutOn before x after → AreThere before files → files x.name ≡ Some x.bytes → AreThere after files
there_put files before x after put there here = there_by files before x after put.0 put.1 there here

-- a content that is kept is what is found under its name
pub found_kept : (files : Files) (kept : List Shelved) (n : List ℕ) (content : Content) (bytes : List ℕ) → AreThere kept files → Contains kept (record { name = n; content = content; bytes = bytes })
    → content ≡ logged bytes → Finds content (files n) (Ok bytes)
found_kept files kept n content bytes there has whole =
    subst (λ (f : Option (List ℕ)). Finds content f (Ok bytes))
    (sym (All-contains (λ (y : Shelved). files y.name ≡ Some y.bytes) kept (record { name = n; content = content; bytes = bytes }) there has))
    (refl, whole)

-- the next content's size fits, and comes to it
pub total_fits : (xs : List Shelved) (i : ℕ) (x : Shelved) (total : ℕ) → i < length xs → x ≡ get_or xs i x → total ≡ bytes_on (take i xs) → total + x.content.size ≤ bytes_on xs
total_fits xs i x total inside here is = let more = bytes_more xs i x inside here in let front = bytes_front (i + 1) xs in omega (arith, more, front, is)

pub total_more : (xs : List Shelved) (i : ℕ) (x : Shelved) (total : ℕ) → i < length xs → x ≡ get_or xs i x → total ≡ bytes_on (take i xs) → total + x.content.size ≡ bytes_on (take (i + 1) xs)
total_more xs i x total inside here is = let more = bytes_more xs i x inside here in omega (arith, more, is)

-- a content that was to be put behind the others
pub shelf_pushed : (b : Bool) (xs ys : List Shelved) (x : Shelved) → ys ≡ cond b (xs ++ (x ∷ [])) xs → IsShelf xs → IsShelved x → bytes_on xs + x.content.size ≤ most_together → IsShelf ys
shelf_pushed true xs ys x is shelf one room = subst IsShelf (sym is) (shelf_put xs x shelf.each one room)
shelf_pushed false xs ys x is shelf one room = subst IsShelf (sym is) shelf

pub put_on : (b : Bool) (before xs ys : List Shelved) (x : Shelved) → (n : ℕ) × (xs ≡ drop n before) → ys ≡ cond b (xs ++ (x ∷ [])) xs → IsPutOn before x ys
put_on true before xs ys x cut is = (cut.0, inr (is ∙ ap (λ (l : List Shelved). l ++ (x ∷ [])) cut.1))
put_on false before xs ys x cut is = (cut.0, inl (is ∙ cut.1))

-- what is kept stays what is there where no file changes
pub there_same : (old new : Files) (kept : List Shelved) → new ≡ old → AreThere kept old → AreThere kept new
there_same old new kept same there = subst (AreThere kept) (sym same) there

-- so does a content that was read then
pub there_read : (old new : Files) (before : List Shelved) (after : List Shelved) (n : List ℕ) (content : Content) (bytes : List ℕ) → new ≡ old → AreThere before old → Finds content (old n) (Ok bytes)
    → IsPutOn before (record { name = n; content = content; bytes = bytes }) after → AreThere after new
there_read old new before after n content bytes same there finds put =
    there_same old new after same (there_put old before (record { name = n; content = content; bytes = bytes }) after put there (found_bytes content (old n) bytes finds))
