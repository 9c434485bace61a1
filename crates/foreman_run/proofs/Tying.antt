-- What a foreman met of its workers stays tied to their links.
use Rattle.std.proofs.Common.{◌≡◌, ◌≤◌, ℕ, zero, suc, ◌+◌, Bool, true, false, cond, List, [], ◌∷◌, ◌++◌, length, Option, Some, None, Result, Ok, Err, inl, inr, refl, sym, ap, ◌∙◌, subst, append_assoc, append-nil, arith}
use Rattle.std.specs.Prelude.{◌==◌, ◌⊎◌, slice_get, slice_set}
use Rattle.std.proofs.lemmas.Bool.{eqb-true, eq-eqb, ne_eqb}
use Rattle.std.proofs.lemmas.List.{length-append}
use Rattle.flow_types.specs.declared.messages.Message.{Message}
use Rattle.flow_types.specs.declared.numbers.LinkNo.{LinkNo}
use Rattle.foreman_core.specs.declared.acts.Down.{Down}
use Rattle.foreman_core.specs.Members.{Every, Stands}
use Rattle.foreman_core.proofs.Members.{every_append, every_nil, every_one, get_stands, stands_right}
use Rattle.links.specs.declared.passing.Passed.{Passed}
use Rattle.links.specs.Passings.{received_in}
use Rattle.message_forms.specs.Streams.{BeginsWith, frames_of}
use Rattle.foreman_run.specs.Lowers.{AreBegun, Gains, HearsOn, IsLost, Joins, LowerState, Misses, Parts, from_link, held_under, new_lower, over}
use Rattle.foreman_run.specs.Lowers as parts
use Rattle.foreman_run.specs.Lost.{IsHelloFirst, Seen}
use Rattle.foreman_run.specs.Met.{Met, above, below, lost, lost_under, met_under, one_if, roll_of, told_of}
use Rattle.foreman_run.proofs.Losses.{lost_more}
use Rattle.foreman_run.specs.Tied.{AreTied, Book, CameOver, HasCome, IsLostIf, LetsGoOne, MayHandBack, back_under, due_under, with_due, with_got, with_hall}

-- ---- numbers

pub one_is : (a b : ℕ) → a ≡ b → one_if a b ≡ 1
one_is a b same = ap (λ (t : Bool). let n : ℕ = cond t 1 0 in n) (eq-eqb a b same)

pub one_not : (a b : ℕ) → (a ≡ b → ⊥) → one_if a b ≡ 0
one_not a b other = ap (λ (t : Bool). let n : ℕ = cond t 1 0 in n) (ne_eqb a b other)

one_by : (t : Bool) → (let n : ℕ = cond t 1 0 in n ≤ 1)
one_by true = omega arith
one_by false = omega arith

pub one_most : (a b : ℕ) → one_if a b ≤ 1
one_most a b = one_by (a == b)

says_by : (a b : ℕ) (t : Bool) → (a == b) ≡ t → (let n : ℕ = cond t 1 0 in 1 ≤ n) → a ≡ b
says_by a b true is le = eqb-true a b is
says_by a b false is le = absurd (let h : ⊥ = omega (arith, le) in h)

pub one_says : (a b : ℕ) → 1 ≤ one_if a b → a ≡ b
one_says a b le = says_by a b (a == b) refl le

pub one_other : (a b : ℕ) → (a == b) ≡ false → one_if a b ≡ 0
one_other a b other = ap (λ (t : Bool). let n : ℕ = cond t 1 0 in n) other

-- two numbers are the same, or the test says no
pub same_or : (a b : ℕ) → (a ≡ b) ⊎ ((a == b) ≡ false)
same_or a b = by (a == b) refl
  where
    by : (t : Bool) → (a == b) ≡ t → (a ≡ b) ⊎ ((a == b) ≡ false)
    by true is = inl (eqb-true a b is)
    by false is = inr is

-- ---- what came from below, link by link

one_more : (t : Bool) (m : Message) (xs ys more : List Message) → xs ≡ ys ++ more → cond t (m ∷ xs) xs ≡ cond t (m ∷ ys) ys ++ more
one_more true m xs ys more is = ap (λ (ms : List Message). m ∷ ms) is
one_more false m xs ys more is = is

no_more : (t : Bool) (m : Message) (xs ys : List Message) → xs ≡ ys → cond t (m ∷ xs) xs ≡ cond t (m ∷ ys) ys
no_more true m xs ys is = ap (λ (ms : List Message). m ∷ ms) is
no_more false m xs ys is = is

pub from_next : (k : ℕ) (told : List Down) (link : LinkNo) (m : Message) → link.0 ≡ k → from_link k (told ++ over link m ∷ []) ≡ from_link k told ++ m ∷ []
from_next k [] link m same = ap (λ (t : Bool). let none : List Message = [] in cond t (m ∷ none) none) (eq-eqb link.0 k same)
from_next k (d ∷ told) link m same = one_more (d.link.0 == k) d.message (from_link k (told ++ over link m ∷ [])) (from_link k told) (m ∷ []) (from_next k told link m same)

pub from_same : (k : ℕ) (told : List Down) (link : LinkNo) (m : Message) → (link.0 ≡ k → ⊥) → from_link k (told ++ over link m ∷ []) ≡ from_link k told
from_same k [] link m other = ap (λ (t : Bool). let none : List Message = [] in cond t (m ∷ none) none) (ne_eqb link.0 k other)
from_same k (d ∷ told) link m other = no_more (d.link.0 == k) d.message (from_link k (told ++ over link m ∷ [])) (from_link k told) (from_same k told link m other)

-- Nothing came under a number of which nothing was met.
pub from_none : (k : ℕ) (past : List Met) → met_under k past ≡ 0 → from_link k (told_of past) ≡ []
from_none k [] none = refl
from_none k (above m ∷ past) none = from_none k past none
from_none k (below link m ∷ past) none =
    from_same k (told_of past) link m (λ same. let h : ⊥ = omega (arith, none, one_is link.0 k same) in h)
    ∙ from_none k past (let rest : met_under k past ≡ 0 = omega (arith, none) in rest)
from_none k (lost link ∷ past) none = from_none k past (let rest : met_under k past ≡ 0 = omega (arith, none) in rest)

-- What was never met was never lost.
pub none_lost : (past : List Met) (k : ℕ) → met_under k past ≡ 0 → lost_under k past ≡ 0
none_lost [] k none = refl
none_lost (above m ∷ past) k none = none_lost past k none
none_lost (below link m ∷ past) k none = none_lost past k (let rest : met_under k past ≡ 0 = omega (arith, none) in rest)
none_lost (lost link ∷ past) k none =
    let rest = none_lost past k (let rest : met_under k past ≡ 0 = omega (arith, none) in rest) in omega (arith, none, rest)

-- More was received.
pub begins_on : (old new : List Passed) (ms : List Message) → HearsOn old new → BeginsWith (received_in old) ms → BeginsWith (received_in new) ms
begins_on old new ms on begins = (
  begins.0 ++ on.0,
  record { framed_all = begins.1.framed_all; are = on.1 ∙ ap (λ (b : List ℕ). b ++ on.0) begins.1.are ∙ append_assoc (frames_of ms) begins.0 on.0 },
)

-- ---- how many have a number

module _ {L : Type 0} where
  pub held_append : (k : ℕ) (xs ys : List (LowerState L)) → held_under k (xs ++ ys) ≡ held_under k xs + held_under k ys
  held_append k [] ys = omega arith
  held_append k (x ∷ xs) ys = let rest = held_append k xs ys in omega (arith, rest)

  pub back_append : (k : ℕ) (xs ys : List (Option LinkNo × L)) → back_under k (xs ++ ys) ≡ back_under k xs + back_under k ys
  back_append k [] ys = omega arith
  back_append k (x ∷ xs) ys = let rest = back_append k xs ys in omega (arith, rest)

  pub held_stands : (l : LowerState L) (xs : List (LowerState L)) → Stands l xs → 1 ≤ held_under l.link.0 xs
  held_stands l [] there = absurd there
  held_stands l (x ∷ xs) (inl same) = let one = one_is x.link.0 l.link.0 (ap (λ (y : LowerState L). y.link.0) (sym same)) in omega (arith, one)
  held_stands l (x ∷ xs) (inr there) = let rest = held_stands l xs there in omega (arith, rest)

  pub back_stands : (link : Option LinkNo × L) (n : LinkNo) (xs : List (Option LinkNo × L)) → link.0 ≡ Some n → Stands link xs → 1 ≤ back_under n.0 xs
  back_stands link n [] is there = absurd there
  back_stands link n (x ∷ xs) is (inl same) =
      let one = ap (λ (o : Option LinkNo). due_under n.0 o) (ap (λ (y : Option LinkNo × L). y.0) (sym same) ∙ is) ∙ one_is n.0 n.0 refl in omega (arith, one)
  back_stands link n (x ∷ xs) is (inr there) = let rest = back_stands link n xs is there in omega (arith, rest)

  -- The link at a place changed, under its number.
  pub held_set : (k : ℕ) (xs : List (LowerState L)) (at : ℕ) (old new : LowerState L) → slice_get xs at ≡ Some old → new.link ≡ old.link → held_under k (slice_set xs at new) ≡ held_under k xs
  held_set k [] at old new got link = refl
  held_set k (x ∷ xs) zero old new got link =
      let same : x ≡ old = cc in
      ap (λ (n : LinkNo). one_if n.0 k + held_under k xs) (link ∙ ap (λ (l : LowerState L). l.link) (sym same))
  held_set k (x ∷ xs) (suc at) old new got link = ap (λ n. one_if x.link.0 k + n) (held_set k xs at old new got link)

  -- What holds of each holds of the others in another way where the number is another.
  all_apart : (k : ℕ) (P Q : LowerState L → Type 0) (xs : List (LowerState L)) → held_under k xs ≡ 0 → ((l : LowerState L) → (k ≡ l.link.0 → ⊥) → P l → Q l) → Every P xs → Every Q xs
  all_apart k P Q xs none other all l there = other l (λ same. let h : ⊥ = omega (arith, held_stands l xs there, ap (λ n. held_under n xs) (sym same), none) in h) (all l there)

  -- The link at a place is the only one of its number.
  pub set_apart : (k : ℕ) (P Q : LowerState L → Type 0) (xs : List (LowerState L)) (at : ℕ) (old new : LowerState L) → slice_get xs at ≡ Some old → old.link.0 ≡ k → held_under k xs ≤ 1
      → ((l : LowerState L) → (k ≡ l.link.0 → ⊥) → P l → Q l) → Q new → Every P xs → Every Q (slice_set xs at new)
  set_apart k P Q [] at old new got link most other is all = every_nil Q
  set_apart k P Q (x ∷ xs) zero old new got link most other is all =
      let same : x ≡ old = cc in
      let one = one_is x.link.0 k (ap (λ (l : LowerState L). l.link.0) same ∙ link) in
      let none : held_under k xs ≡ 0 = omega (arith, one, most) in
      Rattle.foreman_core.proofs.Members.every_cons Q new xs is (all_apart k P Q xs none other (λ l there. all l (inr there)))
  set_apart k P Q (x ∷ xs) (suc at) old new got link most other is all =
      let some = held_stands old xs (get_stands xs at old got) in
      let there : 1 ≤ held_under k xs = subst (λ n. 1 ≤ held_under n xs) link some in
      Rattle.foreman_core.proofs.Members.every_cons Q x (slice_set xs at new)
      (other x (λ same. let h : ⊥ = omega (arith, one_is x.link.0 k (sym same), there, most) in h) (all x (inl refl)))
      (set_apart k P Q xs at old new got link (let rest : held_under k xs ≤ 1 = omega (arith, most) in rest) other is (λ l where_. all l (inr where_)))

  -- One taken out of the list at a place.
  pub split_there : (xs : List (LowerState L)) (at : ℕ) (x : LowerState L) → slice_get xs at ≡ Some x → Parts x xs (Rattle.std.specs.Prelude.remove xs at)
  split_there xs at x got = record { earlier = Rattle.std.proofs.Common.take at xs; later = Rattle.std.proofs.Common.drop (suc at) xs; among = by xs at got; others = refl }
    where
      by : (xs : List (LowerState L)) (at : ℕ) → slice_get xs at ≡ Some x → xs ≡ Rattle.std.proofs.Common.take at xs ++ (x ∷ Rattle.std.proofs.Common.drop (suc at) xs)
      by [] at got = absurd (let h : ⊥ = cc in h)
      by (y ∷ ys) zero got = let same : y ≡ x = cc in ap (λ (z : LowerState L). z ∷ ys) same
      by (y ∷ ys) (suc at) got = ap (λ zs. y ∷ zs) (by ys at got)

  pub held_parts : (k : ℕ) (out : LowerState L) (old new : List (LowerState L)) → Parts out old new → held_under k old ≡ one_if out.link.0 k + held_under k new
  held_parts k out old new p =
      let a = ap (held_under k) p.among ∙ held_append k p.earlier (out ∷ p.later) in
      let b = ap (held_under k) p.others ∙ held_append k p.earlier p.later in
      omega (arith, a, b)

  pub length_parts : (out : LowerState L) (old new : List (LowerState L)) → Parts out old new → length old ≡ length new + 1
  length_parts out old new p =
      let a = ap length p.among ∙ length-append p.earlier (out ∷ p.later) in
      let b = ap length p.others ∙ length-append p.earlier p.later in
      omega (arith, a, b)

  stands_split : (x out : LowerState L) (xs ys : List (LowerState L)) → Stands x (xs ++ ys) → Stands x (xs ++ (out ∷ ys))
  stands_split x out [] ys there = inr there
  stands_split x out (z ∷ xs) ys (inl same) = inl same
  stands_split x out (z ∷ xs) ys (inr there) = inr (stands_split x out xs ys there)

  -- What holds of each holds of the others.
  pub every_parts : (P : LowerState L → Type 0) (out : LowerState L) (old new : List (LowerState L)) → Parts out old new → Every P old → Every P new
  every_parts P out old new p all x there = all x (subst (Stands x) (sym p.among) (stands_split x out p.earlier p.later (subst (Stands x) p.others there)))

  pub stands_parts : (out : LowerState L) (old new : List (LowerState L)) → Parts out old new → Stands out old
  stands_parts out old new p = subst (Stands out) (sym p.among) (stands_right out p.earlier (out ∷ p.later) (inl refl))

-- ---- ties

module _ {L : Type 0} (tells : Type 0) (seen : L → Seen) (cap : ℕ) where
  -- it is tied so
  abbrev pub Tied : List Met → List (LowerState L) → Book L → Type 0
  Tied past lowers book = AreTied tells seen cap past lowers book

  -- A link that was lost for a cause stays so, once something more was met that isn't its loss.
  causes_more : (past : List Met) (met : Met) (due : Option LinkNo) (links : List (Option LinkNo × L)) → ((k : LinkNo) → lost_under k.0 (met ∷ past) ≡ lost_under k.0 past)
      → Every (IsLostIf tells seen cap past due) links → Every (IsLostIf tells seen cap (met ∷ past) due) links
  causes_more past met due links same all link there =
      record { cause = λ t k is le. lost_more cap met past k (seen link.1) ((all link there).cause t k is (omega (arith, le, same k))) }

  -- the same where fewer losses are to be met
  causes_fewer : (past : List Met) (due then : Option LinkNo) (links : List (Option LinkNo × L)) → ((k : LinkNo) → due_under k.0 then ≤ due_under k.0 due)
      → Every (IsLostIf tells seen cap past due) links → Every (IsLostIf tells seen cap past then) links
  causes_fewer past due then links fewer all link there = record { cause = λ t k is le. (all link there).cause t k is (omega (arith, le, fewer k)) }

  -- what came under other numbers is the same after a message more
  begun_same : (k : LinkNo) (m : Message) (told : List Down) (l : LowerState L) → (k.0 ≡ l.link.0 → ⊥) → BeginsWith (received_in (seen l.way).history) (from_link l.link.0 told)
      → BeginsWith (received_in (seen l.way).history) (from_link l.link.0 (told ++ over k m ∷ []))
  begun_same k m told l other begins = subst (BeginsWith (received_in (seen l.way).history)) (sym (from_same l.link.0 told k m other)) begins

  come_same : (k : LinkNo) (m : Message) (told : List Down) (links : List (Option LinkNo × L)) → back_under k.0 links ≡ 0 → Every (HasCome tells seen told) links → Every (HasCome tells seen (told ++ over k m ∷ [])) links
  come_same k m told links none all link there =
      let one = all link there in
      record {
        number = one.number;
        is = one.is;
        begins = λ t. subst (BeginsWith (received_in (seen link.1).history))
            (sym (from_same one.number.0 told k m (λ same. let h : ⊥ = omega (arith, back_stands link one.number links one.is there, ap (λ n. back_under n links) (sym same), none) in h)))
            (one.begins t);
      }

  -- Nothing came yet.
  pub tied_first : (book : Book L) → book.got ≡ book.first → book.upto ≡ 0 → book.due ≡ None → Tied [] [] book
  tied_first book got upto due = record {
    back = [];
    are = got ∙ sym (append-nil book.first);
    missing = 0;
    many = sym upto;
    apart = λ k. omega arith;
    within = λ k le. absurd (let h : ⊥ = omega (arith, le) in h);
    known = λ k le. absurd (let h : ⊥ = omega (arith, le) in h);
    there = λ none k le. absurd (let h : ⊥ = omega (arith, le) in h);
    once = tt;
    unlost = λ k le. refl;
    pending = λ k. omega (arith, ap (due_under k) due);
    begun = λ t. every_nil (λ (l : LowerState L). BeginsWith (received_in (seen l.way).history) (from_link l.link.0 []));
    greeted = tt;
    come = every_nil (HasCome tells seen []);
    causes = every_nil (IsLostIf tells seen cap [] book.due);
  }

  -- A message came from above.
  pub tied_above : (past : List Met) (m : Message) (lowers : List (LowerState L)) (book : Book L) → Tied past lowers book → Tied (above m ∷ past) lowers book
  tied_above past m lowers book t = record {
    back = t.back;
    are = t.are;
    missing = t.missing;
    many = t.many;
    apart = t.apart;
    within = t.within;
    known = t.known;
    there = t.there;
    once = t.once;
    unlost = t.unlost;
    pending = t.pending;
    begun = t.begun;
    greeted = t.greeted;
    come = t.come;
    causes = causes_more past (above m) book.due t.back (λ k. refl) t.causes;
  }

  -- A message came from below, over the link at a place.
  pub tied_below : (past : List Met) (m : Message) (lowers : List (LowerState L)) (at : ℕ) (old new : LowerState L) (book : Book L) → slice_get lowers at ≡ Some old → new.link ≡ old.link
      → (tells → BeginsWith (received_in (seen new.way).history) (from_link old.link.0 (told_of past) ++ m ∷ []))
      → (from_link old.link.0 (told_of past) ≡ []) ⊎ IsHelloFirst (from_link old.link.0 (told_of past))
      → Tied past lowers book → Tied (below old.link m ∷ past) (slice_set lowers at new) book
  tied_below past m lowers at old new book is link begins greets t = record {
    back = t.back;
    are = t.are;
    missing = t.missing;
    many = omega (arith, t.many, Rattle.std.proofs.lemmas.List.length-set lowers at new);
    apart = λ k. omega (arith, t.apart k, held_set k lowers at old new is link);
    within = λ k le. t.within k (omega (arith, le, held_set k lowers at old new is link));
    known = λ k le. by_known k (same_or old.link.0 k) le;
    there = λ none k le. let now = by_there none k (same_or old.link.0 k) le in omega (arith, now, held_set k lowers at old new is link);
    once = (t.once, t.unlost old.link.0 (omega (arith, held)));
    unlost = λ k le. t.unlost k (omega (arith, le, held_set k lowers at old new is link));
    pending = t.pending;
    begun = λ tell. set_apart old.link.0 (λ l. BeginsWith (received_in (seen l.way).history) (from_link l.link.0 (told_of past))) (λ l. BeginsWith (received_in (seen l.way).history) (from_link l.link.0 (told_of past ++ over old.link m ∷ [])))
        lowers at old new is refl (omega (arith, t.apart old.link.0)) (λ l other b. begun_same old.link m (told_of past) l other b)
        (subst (BeginsWith (received_in (seen new.way).history))
        (sym (from_next new.link.0 (told_of past) old.link m (ap (λ (n : LinkNo). n.0) (sym link)) ∙ ap (λ (n : LinkNo). from_link n.0 (told_of past) ++ m ∷ []) link)) (begins tell)) (t.begun tell);
    greeted = (t.greeted, greets);
    come = come_same old.link m (told_of past) t.back (omega (arith, t.apart old.link.0, held)) t.come;
    causes = causes_more past (below old.link m) book.due t.back (λ k. refl) t.causes;
  }
    where
      held : 1 ≤ held_under old.link.0 lowers
      held = held_stands old lowers (get_stands lowers at old is)

      by_known : (k : ℕ) → (old.link.0 ≡ k) ⊎ ((old.link.0 == k) ≡ false) → 1 ≤ one_if old.link.0 k + met_under k past → (1 ≤ k) × (k ≤ book.upto)
      by_known k (inl same) le = subst (λ n. (1 ≤ n) × (n ≤ book.upto)) same (t.within old.link.0 (omega (arith, held)))
      by_known k (inr other) le = t.known k (omega (arith, le, one_other old.link.0 k other))

      by_there : t.missing ≡ 0 → (k : ℕ) → (old.link.0 ≡ k) ⊎ ((old.link.0 == k) ≡ false) → 1 ≤ one_if old.link.0 k + met_under k past → 1 ≤ held_under k lowers + back_under k t.back
      by_there none k (inl same) le = subst (λ n. 1 ≤ held_under n lowers + back_under n t.back) same (omega (arith, held))
      by_there none k (inr other) le = t.there none k (omega (arith, le, one_other old.link.0 k other))

  -- The link whose loss was to be met is lost.
  pub tied_lost : (past : List Met) (link : LinkNo) (lowers : List (LowerState L)) (book : Book L) → Tied past lowers (with_due book (Some link)) → Tied (lost link ∷ past) lowers (with_due book None)
  tied_lost past link lowers book t = record {
    back = t.back;
    are = t.are;
    missing = t.missing;
    many = t.many;
    apart = t.apart;
    within = t.within;
    known = λ k le. by_known k (same_or link.0 k) le;
    there = λ none k le. by_there none k (same_or link.0 k) le;
    once = (t.once, t.unlost link.0 (omega (arith, here)));
    unlost = λ k le. by_unlost k (same_or link.0 k) le;
    pending = λ k. omega arith;
    begun = t.begun;
    greeted = t.greeted;
    come = t.come;
    causes = λ l there. record { cause = λ tell k is le. lost_more cap (lost link) past k (seen l.1) ((t.causes l there).cause tell k is (omega (arith, le))) };
  }
    where
      here : one_if link.0 link.0 ≡ 1
      here = one_is link.0 link.0 refl

      back : 1 ≤ back_under link.0 t.back
      back = omega (arith, here, t.pending link.0)

      by_known : (k : ℕ) → (link.0 ≡ k) ⊎ ((link.0 == k) ≡ false) → 1 ≤ one_if link.0 k + met_under k past → (1 ≤ k) × (k ≤ book.upto)
      by_known k (inl same) le = subst (λ n. (1 ≤ n) × (n ≤ book.upto)) same (t.within link.0 (omega (arith, back)))
      by_known k (inr other) le = t.known k (omega (arith, le, one_other link.0 k other))

      by_there : t.missing ≡ 0 → (k : ℕ) → (link.0 ≡ k) ⊎ ((link.0 == k) ≡ false) → 1 ≤ one_if link.0 k + met_under k past → 1 ≤ held_under k lowers + back_under k t.back
      by_there none k (inl same) le = subst (λ n. 1 ≤ held_under n lowers + back_under n t.back) same (omega (arith, back))
      by_there none k (inr other) le = t.there none k (omega (arith, le, one_other link.0 k other))

      by_unlost : (k : ℕ) → (link.0 ≡ k) ⊎ ((link.0 == k) ≡ false) → 1 ≤ held_under k lowers + 0 → one_if link.0 k + lost_under k past ≡ 0
      by_unlost k (inl same) le = absurd (let h : ⊥ = omega (arith, le, ap (λ n. held_under n lowers) same, t.apart link.0, back) in h)
      by_unlost k (inr other) le = omega (arith, t.unlost k (omega (arith, le)), one_other link.0 k other)

  -- The loss that was to be met isn't.
  pub tied_not : (past : List Met) (link : LinkNo) (lowers : List (LowerState L)) (book : Book L) → Tied past lowers (with_due book (Some link)) → Tied past lowers (with_due book None)
  tied_not past link lowers book t = record {
    back = t.back;
    are = t.are;
    missing = t.missing;
    many = t.many;
    apart = t.apart;
    within = t.within;
    known = t.known;
    there = t.there;
    once = t.once;
    unlost = λ k le. t.unlost k (omega (arith, le));
    pending = λ k. omega arith;
    begun = t.begun;
    greeted = t.greeted;
    come = t.come;
    causes = causes_fewer past (Some link) None t.back (λ k. let le : 0 ≤ due_under k.0 (Some link) = omega arith in le) t.causes;
  }

  -- The links changed, and keep their numbers.
  pub tied_kept : (past : List Met) (lowers now : List (LowerState L)) (book : Book L) → length now ≡ length lowers → ((k : ℕ) → held_under k now ≡ held_under k lowers)
      → (AreBegun tells seen (told_of past) lowers → AreBegun tells seen (told_of past) now) → Tied past lowers book → Tied past now book
  tied_kept past lowers now book many under begun t = record {
    back = t.back;
    are = t.are;
    missing = t.missing;
    many = omega (arith, t.many, many);
    apart = λ k. omega (arith, t.apart k, under k);
    within = λ k le. t.within k (omega (arith, le, under k));
    known = t.known;
    there = λ none k le. omega (arith, t.there none k le, under k);
    once = t.once;
    unlost = λ k le. t.unlost k (omega (arith, le, under k));
    pending = t.pending;
    begun = begun t.begun;
    greeted = t.greeted;
    come = t.come;
    causes = t.causes;
  }

  -- One was taken out and handed back; its loss is to be met next, or isn't.
  pub tied_back : (past : List Met) (lowers now : List (LowerState L)) (out : LowerState L) (way : L) (book : Book L) (got : List (Option LinkNo × L)) (due : Option LinkNo) → Parts out lowers now
      → (tells → HearsOn (seen out.way).history (seen way).history) → got ≡ book.got ++ ((Some out.link, way) ∷ []) → ((k : ℕ) → due_under k due ≤ one_if out.link.0 k)
      → (1 ≤ due_under out.link.0 due → tells → IsLost (roll_of cap past) out.link (seen way)) → Tied past lowers book → Tied past now (with_due (with_got book got) due)
  tied_back past lowers now out way book got due parts comes are fewer cause t = record {
    back = t.back ++ link ∷ [];
    are = are ∙ ap (λ (g : List (Option LinkNo × L)). g ++ link ∷ []) t.are ∙ append_assoc book.first t.back (link ∷ []);
    missing = t.missing;
    many = omega (arith, t.many, length_parts out lowers now parts, length-append t.back (link ∷ []));
    apart = λ k. omega (arith, t.apart k, held_parts k out lowers now parts, more k);
    within = λ k le. t.within k (omega (arith, le, held_parts k out lowers now parts, more k));
    known = t.known;
    there = λ none k le. omega (arith, t.there none k le, held_parts k out lowers now parts, more k);
    once = t.once;
    unlost = λ k le. t.unlost k (omega (arith, le, held_parts k out lowers now parts, fewer k));
    pending = λ k. omega (arith, more k, fewer k);
    greeted = t.greeted;
    begun = λ tell. every_parts (λ l. BeginsWith (received_in (seen l.way).history) (from_link l.link.0 (told_of past))) out lowers now parts (t.begun tell);
    come = every_append (HasCome tells seen (told_of past)) t.back (link ∷ []) t.come (every_one (HasCome tells seen (told_of past)) link (record {
      number = out.link;
      is = refl;
      begins = λ tell. begins_on (seen out.way).history (seen way).history (from_link out.link.0 (told_of past)) (comes tell) (t.begun tell out (stands_parts out lowers now parts));
    }));
    causes = every_append (IsLostIf tells seen cap past due) t.back (link ∷ []) older (every_one (IsLostIf tells seen cap past due) link newest);
  }
    where
      link : Option LinkNo × L
      link = (Some out.link, way)

      more : (k : ℕ) → back_under k (t.back ++ link ∷ []) ≡ back_under k t.back + one_if out.link.0 k
      more k = let is = back_append k t.back (link ∷ []) in omega (arith, is)

      -- those that were handed back before have other numbers
      older : Every (IsLostIf tells seen cap past due) t.back
      older l there = record {
        cause = λ tell k is le. (t.causes l there).cause tell k is (omega (arith, le, back_stands l k t.back is there, t.apart k.0, held_parts k.0 out lowers now parts, fewer k.0));
      }

      unmet : lost_under out.link.0 past ≡ 0
      unmet = t.unlost out.link.0 (omega (arith, held_stands out lowers (stands_parts out lowers now parts)))

      newest : IsLostIf tells seen cap past due link
      newest = record {
        cause = λ tell k is le.
            let same : out.link ≡ k = cc in
            let here : 1 ≤ due_under out.link.0 due = omega (arith, le, unmet, ap (λ (n : LinkNo). lost_under n.0 past) same, ap (λ (n : LinkNo). due_under n.0 due) same) in
            subst (λ (n : LinkNo). IsLost (roll_of cap past) n (seen way)) same (cause here tell);
      }

  -- One was taken out, and is missing.
  pub tied_missing : (past : List Met) (lowers now : List (LowerState L)) (out : LowerState L) (book : Book L) (got : List (Option LinkNo × L)) → Parts out lowers now → got ≡ book.got → Tied past lowers book → Tied past now (with_got book got)
  tied_missing past lowers now out book got parts are t = record {
    back = t.back;
    are = are ∙ t.are;
    missing = t.missing + 1;
    many = omega (arith, t.many, length_parts out lowers now parts);
    apart = λ k. omega (arith, t.apart k, held_parts k out lowers now parts);
    within = λ k le. t.within k (omega (arith, le, held_parts k out lowers now parts));
    known = t.known;
    there = λ none k le. absurd (let h : ⊥ = omega (arith, none) in h);
    once = t.once;
    unlost = λ k le. t.unlost k (omega (arith, le, held_parts k out lowers now parts));
    pending = λ k. omega arith;
    begun = λ tell. every_parts (λ l. BeginsWith (received_in (seen l.way).history) (from_link l.link.0 (told_of past))) out lowers now parts (t.begun tell);
    greeted = t.greeted;
    come = t.come;
    causes = causes_fewer past book.due None t.back (λ k. let le : 0 ≤ due_under k.0 book.due = omega arith in le) t.causes;
  }

  -- Another hall's answer to the same.
  pub tied_book : (past : List Met) (lowers : List (LowerState L)) (book : Book L) (got : List (Option LinkNo × L)) → got ≡ book.got → Tied past lowers book → Tied past lowers (with_got book got)
  tied_book past lowers book got are t = record {
    back = t.back;
    are = are ∙ t.are;
    missing = t.missing;
    many = t.many;
    apart = t.apart;
    within = t.within;
    known = t.known;
    there = t.there;
    once = t.once;
    unlost = λ k le. t.unlost k (omega (arith, le));
    pending = λ k. omega arith;
    begun = t.begun;
    greeted = t.greeted;
    come = t.come;
    causes = causes_fewer past book.due None t.back (λ k. let le : 0 ≤ due_under k.0 book.due = omega arith in le) t.causes;
  }

  -- a number beyond those so far is of no link
  pub fresh_number : (past : List Met) (lowers : List (LowerState L)) (book : Book L) (t : Tied past lowers book) (k : ℕ) → k ≡ book.upto + 1 → held_under k lowers + back_under k t.back ≡ 0
  fresh_number past lowers book t k next = by (held_under k lowers + back_under k t.back) (λ le. t.within k le)
    where
      by : (n : ℕ) → (1 ≤ n → (1 ≤ k) × (k ≤ book.upto)) → n ≡ 0
      by zero is = refl
      by (suc n) is = absurd (let h : ⊥ = omega (arith, (is (omega arith)).1, next) in h)

  -- nothing was met of it
  pub unmet_number : (past : List Met) (lowers : List (LowerState L)) (book : Book L) (t : Tied past lowers book) (k : ℕ) → k ≡ book.upto + 1 → met_under k past ≡ 0
  unmet_number past lowers book t k next = by (met_under k past) (λ le. t.known k le)
    where
      by : (n : ℕ) → (1 ≤ n → (1 ≤ k) × (k ≤ book.upto)) → n ≡ 0
      by zero is = refl
      by (suc n) is = absurd (let h : ⊥ = omega (arith, (is (omega arith)).1, next) in h)

  -- One has come, under the next number.
  pub tied_joined : (honest : L → Type 0) (is : Type 0) (past : List Met) (lowers now : List (LowerState L)) (book : Book L) (got : List (Option LinkNo × L)) (upto : ℕ) → Joins seen honest is book.upto lowers now → upto ≡ book.upto + 1
      → got ≡ book.got → Tied past lowers book → Tied past now (with_hall book got upto)
  tied_joined honest is past lowers now book got upto j next are t = record {
    back = t.back;
    are = are ∙ t.are;
    missing = t.missing;
    many = omega (arith, t.many, next, ap length j.among ∙ length-append lowers (new_lower j.link j.way ∷ []));
    apart = λ k. by_apart k (same_or j.link.0 k);
    within = λ k le. by_within k (same_or j.link.0 k) le;
    known = λ k le. let old = t.known k le in (old.0, omega (arith, old.1, next));
    there = λ none k le. omega (arith, t.there none k le, under k);
    once = t.once;
    unlost = λ k le. by_unlost k (same_or j.link.0 k) le;
    pending = λ k. omega arith;
    begun = λ tell. subst (Every (λ l. BeginsWith (received_in (seen l.way).history) (from_link l.link.0 (told_of past)))) (sym j.among)
        (every_append (λ l. BeginsWith (received_in (seen l.way).history) (from_link l.link.0 (told_of past))) lowers (new_lower j.link j.way ∷ []) (t.begun tell)
        (every_one (λ l. BeginsWith (received_in (seen l.way).history) (from_link l.link.0 (told_of past))) (new_lower j.link j.way)
        (subst (BeginsWith (received_in (seen j.way).history)) (sym (from_none j.link.0 past (omega (arith, unmet)))) ([], record { framed_all = tt; are = ap received_in j.nothing }))));
    greeted = t.greeted;
    come = t.come;
    causes = causes_fewer past book.due None t.back (λ k. let le : 0 ≤ due_under k.0 book.due = omega arith in le) t.causes;
  }
    where
      under : (k : ℕ) → held_under k now ≡ held_under k lowers + one_if j.link.0 k
      under k = let is = ap (held_under k) j.among ∙ held_append k lowers (new_lower j.link j.way ∷ []) in omega (arith, is)

      unused : held_under j.link.0 lowers + back_under j.link.0 t.back ≡ 0
      unused = fresh_number past lowers book t j.link.0 j.next

      unmet : met_under j.link.0 past ≡ 0
      unmet = unmet_number past lowers book t j.link.0 j.next

      by_apart : (k : ℕ) → (j.link.0 ≡ k) ⊎ ((j.link.0 == k) ≡ false) → held_under k now + back_under k t.back ≤ 1
      by_apart k (inl same) = omega (arith, under k, one_most j.link.0 k, ap (λ n. held_under n lowers + back_under n t.back) same, unused)
      by_apart k (inr other) = omega (arith, under k, one_other j.link.0 k other, t.apart k)

      by_within : (k : ℕ) → (j.link.0 ≡ k) ⊎ ((j.link.0 == k) ≡ false) → 1 ≤ held_under k now + back_under k t.back → (1 ≤ k) × (k ≤ upto)
      by_within k (inl same) le = (omega (arith, same, j.next), omega (arith, same, j.next, next))
      by_within k (inr other) le = let old = t.within k (omega (arith, le, under k, one_other j.link.0 k other)) in (old.0, omega (arith, old.1, next))

      by_unlost : (k : ℕ) → (j.link.0 ≡ k) ⊎ ((j.link.0 == k) ≡ false) → 1 ≤ held_under k now + 0 → lost_under k past ≡ 0
      by_unlost k (inl same) le = subst (λ n. lost_under n past ≡ 0) same (none_lost past j.link.0 unmet)
      by_unlost k (inr other) le = t.unlost k (omega (arith, le, under k, one_other j.link.0 k other))

  -- None has come.
  pub tied_hall : (past : List Met) (lowers : List (LowerState L)) (book : Book L) (got : List (Option LinkNo × L)) (upto : ℕ) → upto ≡ book.upto → got ≡ book.got → Tied past lowers book → Tied past lowers (with_hall book got upto)
  tied_hall past lowers book got upto same are t =
      subst (λ (n : ℕ). Tied past lowers (with_hall book got n)) (sym same) (tied_book past lowers book got are t)

  -- One was given for which there was no memory, or none.
  pub tied_refused : (past : List Met) (lowers : List (LowerState L)) (book : Book L) (got : List (Option LinkNo × L)) (upto : ℕ) → Misses seen book.upto upto book.got got → Tied past lowers book → Tied past lowers (with_hall book got upto)
  tied_refused past lowers book got upto (parts.none same are) t = tied_hall past lowers book got upto same are t
  tied_refused past lowers book got upto (parts.lost next are) t = record {
    back = t.back;
    are = are ∙ t.are;
    missing = t.missing + 1;
    many = omega (arith, t.many, next);
    apart = t.apart;
    within = λ k le. let old = t.within k le in (old.0, omega (arith, old.1, next));
    known = λ k le. let old = t.known k le in (old.0, omega (arith, old.1, next));
    there = λ none k le. absurd (let h : ⊥ = omega (arith, none) in h);
    once = t.once;
    unlost = λ k le. t.unlost k (omega (arith, le));
    pending = λ k. omega arith;
    begun = t.begun;
    greeted = t.greeted;
    come = t.come;
    causes = causes_fewer past book.due None t.back (λ k. let le : 0 ≤ due_under k.0 book.due = omega arith in le) t.causes;
  }
  tied_refused past lowers book got upto (parts.back link way number nothing next are) t = record {
    back = t.back ++ here ∷ [];
    are = are ∙ ap (λ (g : List (Option LinkNo × L)). g ++ here ∷ []) t.are ∙ append_assoc book.first t.back (here ∷ []);
    missing = t.missing;
    many = omega (arith, t.many, next, length-append t.back (here ∷ []));
    apart = λ k. by_apart k (same_or link.0 k);
    within = λ k le. by_within k (same_or link.0 k) le;
    known = λ k le. let old = t.known k le in (old.0, omega (arith, old.1, next));
    there = λ none k le. omega (arith, t.there none k le, more k);
    once = t.once;
    unlost = λ k le. t.unlost k (omega (arith, le));
    pending = λ k. omega arith;
    begun = t.begun;
    come = every_append (HasCome tells seen (told_of past)) t.back (here ∷ []) t.come (every_one (HasCome tells seen (told_of past)) here (record {
      number = link;
      is = refl;
      begins = λ tell. subst (BeginsWith (received_in (seen way).history)) (sym (from_none link.0 past (omega (arith, unmet)))) ([], record { framed_all = tt; are = ap received_in nothing });
    }));
    greeted = t.greeted;
    causes = every_append (IsLostIf tells seen cap past None) t.back (here ∷ []) (causes_fewer past book.due None t.back (λ k. let le : 0 ≤ due_under k.0 book.due = omega arith in le) t.causes) (every_one (IsLostIf tells seen cap past None) here (record {
      cause = λ tell k is le.
          let same : link ≡ k = cc in
          absurd (let wrong : ⊥ = omega (arith, le, none_lost past link.0 (let unmet_now : met_under link.0 past ≡ 0 = omega (arith, unmet) in unmet_now), ap (λ (n : LinkNo). lost_under n.0 past) same) in wrong);
    }));
  }
    where
      here : Option LinkNo × L
      here = (Some link, way)

      more : (k : ℕ) → back_under k (t.back ++ here ∷ []) ≡ back_under k t.back + one_if link.0 k
      more k = let is = back_append k t.back (here ∷ []) in omega (arith, is)

      unused : held_under link.0 lowers + back_under link.0 t.back ≡ 0
      unused = fresh_number past lowers book t link.0 number

      unmet : met_under link.0 past ≡ 0
      unmet = unmet_number past lowers book t link.0 number

      by_apart : (k : ℕ) → (link.0 ≡ k) ⊎ ((link.0 == k) ≡ false) → held_under k lowers + back_under k (t.back ++ here ∷ []) ≤ 1
      by_apart k (inl same) = omega (arith, more k, one_most link.0 k, ap (λ n. held_under n lowers + back_under n t.back) same, unused)
      by_apart k (inr other) = omega (arith, more k, one_other link.0 k other, t.apart k)

      by_within : (k : ℕ) → (link.0 ≡ k) ⊎ ((link.0 == k) ≡ false) → 1 ≤ held_under k lowers + back_under k (t.back ++ here ∷ []) → (1 ≤ k) × (k ≤ upto)
      by_within k (inl same) le = (omega (arith, same, number), omega (arith, same, number, next))
      by_within k (inr other) le = let old = t.within k (omega (arith, le, more k, one_other link.0 k other)) in (old.0, omega (arith, old.1, next))

  -- The last link was let go.
  pub tied_gone : (past : List Met) (lowers now : List (LowerState L)) (out : LowerState L) (book : Book L) (got got_now : List (Option LinkNo × L)) → lowers ≡ now ++ out ∷ [] → LetsGoOne tells seen out got got_now
      → Tied past lowers (with_got book got) → Tied past now (with_got book got_now)
  tied_gone past lowers now out book got got_now are go t = by go.back
    where
      parts : Parts out lowers now
      parts = record { earlier = now; later = []; among = are; others = sym (append-nil now) }

      by : (got_now ≡ got ++ ((Some out.link, go.way) ∷ [])) ⊎ (got_now ≡ got) → Tied past now (with_got book got_now)
      by (inl is) = tied_back past lowers now out go.way (with_got book got) got_now None parts go.comes is (λ k. let le : 0 ≤ one_if out.link.0 k = omega arith in le) (λ wrong. absurd (let h : ⊥ = omega (arith, wrong) in h)) t
      by (inr is) = tied_missing past lowers now out (with_got book got) got_now parts is t

  -- Once no link is held.
  pub came_over : (past : List Met) (book : Book L) (given given_now : ℕ) → book.upto + given ≡ given_now → Tied past [] book → CameOver tells seen cap book.first book.got given given_now past
  came_over past book given given_now counted t = record {
    links = t.back;
    back = t.are;
    apart = λ k. omega (arith, t.apart k);
    within = λ k le. let is = t.within k (omega (arith, le)) in (is.0, omega (arith, is.1, counted));
    known = λ k le. let is = t.known k le in (is.0, omega (arith, is.1, counted));
    there = λ all k le. omega (arith, t.there (omega (arith, all, t.many, counted)) k le);
    once = t.once;
    greeted = t.greeted;
    come = t.come;
    causes = causes_fewer past book.due None t.back (λ k. let le : 0 ≤ due_under k.0 book.due = omega arith in le) t.causes;
  }

-- One came under another fact, after a call that handed nothing back.
pub gains_later : {L E : Type 0} (seen : L → Seen) (honest : L → Type 0) (is other : Type 0) (number now : ℕ) (got mid got_now : List (Option LinkNo × L)) (old new : List (LowerState L)) (r : Result Bool E) → mid ≡ got → (other → is)
    → Gains seen honest is number now mid got_now old new r → Gains seen honest other number now got got_now old new r
gains_later seen honest is other number now got mid got_now old new (Ok true) same fact (next, are, j) =
    (next, are ∙ same, record { link = j.link; way = j.way; next = j.next; nothing = j.nothing; honestly = λ o. j.honestly (fact o); among = j.among })
gains_later seen honest is other number now got mid got_now old new (Ok false) same fact (none, are, kept) = (none, are ∙ same, kept)
gains_later seen honest is other number now got mid got_now old new (Err why) same fact (misses, kept) = (subst (λ g. Misses seen number now g got_now) same misses, kept)

-- One for which there was no memory was handed back or lost.
pub misses_by : {L : Type 0} (seen : L → Seen) (number now : ℕ) (link : LinkNo) (way : L) (got got_now : List (Option LinkNo × L)) → now ≡ number + 1 → link.0 ≡ number + 1 → (seen way).history ≡ [] → MayHandBack link way got got_now → Misses seen number now got got_now
misses_by seen number now link way got got_now next is nothing (inl came) = parts.back link way is nothing next came
misses_by seen number now link way got got_now next is nothing (inr gone) = parts.lost next gone
