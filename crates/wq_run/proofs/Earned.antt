-- What links had earned that were handed back, and what seats' links stated, step by step.
use Rattle.std.proofs.Common.{◌≡◌, ◌≢◌, ◌≤◌, ◌+◌, ◌⊎◌, inl, inr, ⊎_elim, ◌∙◌, ℕ, Bool, true, false, cond, List, [], ◌∷◌, ◌++◌, Option, Some, None, length, length-append, refl, sym, ap, subst, arith, append_assoc}
use Rattle.std.specs.Prelude.{◌==◌, count_by, filter, is_some, unwrap_or}
use Rattle.std.specs.List.{AllByRecursion, last_or}
use Rattle.std.specs.Option.{option_and_then}
use Rattle.std.proofs.lemmas.Bool.{eq-eqb, eqb-true}
use Rattle.std.proofs.lemmas.List.{append-nil}
use Rattle.std.proofs.lemmas.List.Elements.{filter-append}
use Rattle.std.proofs.lemmas.List.Sums.{sum_by-append, sum_by-cons}
use Rattle.flow_types.specs.declared.numbers.Amounts.{Amounts}
use Rattle.flow_types.specs.declared.numbers.LinkNo.{LinkNo}
use Rattle.flow_types.specs.declared.messages.Message.TheVariants as messages
use Rattle.run_history.specs.declared.moves.Move.{Move}
use Rattle.run_history.specs.declared.moves.Move.TheVariants as moves
use Rattle.run_history.specs.Links.{LinkRow, names_link, row_in}
use Rattle.run_history.specs.Moves.{is_change, is_join, joins_and_changes, most_joins, next_link}
use Rattle.flow_types.specs.declared.job.Failure.{Failure}
use Rattle.flow_types.specs.declared.job.Job.{Job}
use Rattle.flow_types.specs.Serial.{Contents, Function}
use Rattle.outside.specs.Disk.{Outcomes}
use Rattle.outside.specs.Files.{Files}
use Rattle.desk.specs.State.{DeskState}
use Rattle.links.specs.declared.passing.Passed.{Passed}
use Rattle.links.specs.Passings.{received_in, sent_in}
use Rattle.message_forms.specs.Streams.{Carries}
use Rattle.message_forms.proofs.Parses.{carries_more}
use Rattle.peers.specs.States.{PassesOn}
use Rattle.local_run.specs.declared.halt.Halt.{Halt}
use Rattle.local_run.specs.Links.{link_moves}
use Rattle.local_run.specs.Course.{GoesOn}
use Rattle.local_run.proofs.Going.{goes_links, links_grown}
use Rattle.wq_run.specs.Earned.{HasEarned, IsHeardChange, IsOffered, KeepsEarned, OffersAsStated, StatesOn, numbered_in, row_of, stated_by}
use Rattle.wq_run.specs.Seats.{CompanyState, IsUnseated, SeatState}

-- ---- lists

all_both : {X : Type 0} (P : X → Type 0) (xs ys : List X) → AllByRecursion P xs → AllByRecursion P ys → AllByRecursion P (xs ++ ys)
all_both P [] ys one two = two
all_both P (x ∷ xs) ys one two = (one.0, all_both P xs ys one.1 two)

all_weaker : {X : Type 0} (P Q : X → Type 0) → ((x : X) → P x → Q x) → (xs : List X) → AllByRecursion P xs → AllByRecursion Q xs
all_weaker P Q step [] all = tt
all_weaker P Q step (x ∷ xs) all = (step x all.0, all_weaker P Q step xs all.1)

-- ---- moves of links

-- as many moves of links stand behind a desk, and so none was added
pub unlinked_by : {S : Type 0} (trust : Type 0) (gives : Function) (may_fail : Job → Failure → Type 0) (sources : Contents) (tells : Type 0) (files : S → Files) (may_leave : S → Outcomes) (moment : S → ℕ) (images_since : S → ℕ → Files → Type 0) (links : List Move) (first d after : DeskState S)
    → GoesOn trust gives may_fail sources tells files may_leave moment images_since links first d → GoesOn trust gives may_fail sources tells files may_leave moment images_since links first after → link_moves after.moves ≡ link_moves d.moves
unlinked_by trust gives may_fail sources tells files may_leave moment images_since links first d after one two =
    goes_links trust gives may_fail sources tells files may_leave moment images_since links first after two ∙ sym (goes_links trust gives may_fail sources tells files may_leave moment images_since links first d one)

-- which moves name a link is told by the moves of links
named_links : (k : ℕ) (M : List Move) → filter (names_link k) M ≡ filter (names_link k) (link_moves M)
named_links k [] = refl
named_links k (moves.Logged x ∷ rest) = named_links k rest
named_links k (moves.Joined link total largest cache ∷ rest) = ap (λ (l : List Move). cond (link.0 == k) (moves.Joined link total largest cache ∷ l) l) (named_links k rest)
named_links k (moves.Changed link total largest cache ∷ rest) = ap (λ (l : List Move). cond (link.0 == k) (moves.Changed link total largest cache ∷ l) l) (named_links k rest)
named_links k (moves.Left link ∷ rest) = ap (λ (l : List Move). cond (link.0 == k) (moves.Left link ∷ l) l) (named_links k rest)

-- one move of a link was added
pub linked_one : (M : List Move) (m : Move) (all : List Move) → link_moves (m ∷ []) ≡ m ∷ [] → all ≡ M ++ (m ∷ []) → link_moves all ≡ link_moves M ++ (m ∷ [])
linked_one M m all one are = ap link_moves are ∙ links_grown M (m ∷ []) ∙ ap (λ (l : List Move). link_moves M ++ l) one

count_cons : (test : Move → Bool) (m : Move) (M : List Move) → count_by test (m ∷ M) ≡ cond (test m) 1 0 + count_by test M
count_cons test m M = sum_by-cons (λ (x : Move). cond (test x) 1 0) m M

-- as many behind a move that is kept
count_kept : (test : Move → Bool) (m : Move) (M N : List Move) → count_by test M ≡ count_by test N → count_by test (m ∷ M) ≡ count_by test (m ∷ N)
count_kept test m M N same = count_cons test m M ∙ ap (λ (n : ℕ). cond (test m) 1 0 + n) same ∙ sym (count_cons test m N)

joins_linked : (M : List Move) → count_by is_join M ≡ count_by is_join (link_moves M)
joins_linked [] = refl
joins_linked (moves.Logged x ∷ M) = let cons : count_by is_join (moves.Logged x ∷ M) ≡ 0 + count_by is_join M = count_cons is_join (moves.Logged x) M in let rest : count_by is_join M ≡ count_by is_join (link_moves M) = joins_linked M in omega (arith, cons, rest)
joins_linked (moves.Joined link total largest cache ∷ M) = count_kept is_join (moves.Joined link total largest cache) M (link_moves M) (joins_linked M)
joins_linked (moves.Changed link total largest cache ∷ M) = count_kept is_join (moves.Changed link total largest cache) M (link_moves M) (joins_linked M)
joins_linked (moves.Left link ∷ M) = count_kept is_join (moves.Left link) M (link_moves M) (joins_linked M)

changes_linked : (M : List Move) → count_by is_change M ≡ count_by is_change (link_moves M)
changes_linked [] = refl
changes_linked (moves.Logged x ∷ M) = let cons : count_by is_change (moves.Logged x ∷ M) ≡ 0 + count_by is_change M = count_cons is_change (moves.Logged x) M in let rest : count_by is_change M ≡ count_by is_change (link_moves M) = changes_linked M in omega (arith, cons, rest)
changes_linked (moves.Joined link total largest cache ∷ M) = count_kept is_change (moves.Joined link total largest cache) M (link_moves M) (changes_linked M)
changes_linked (moves.Changed link total largest cache ∷ M) = count_kept is_change (moves.Changed link total largest cache) M (link_moves M) (changes_linked M)
changes_linked (moves.Left link ∷ M) = count_kept is_change (moves.Left link) M (link_moves M) (changes_linked M)

count_both : (test : Move → Bool) (xs ys : List Move) → count_by test (xs ++ ys) ≡ count_by test xs + count_by test ys
count_both test xs ys = sum_by-append (λ (m : Move). cond (test m) 1 0) xs ys

-- as many joins stand behind as moves that join do
joins_behind : (M more all : List Move) → link_moves all ≡ link_moves M ++ more → count_by is_join all ≡ count_by is_join M + count_by is_join more
joins_behind M more all are = joins_linked all ∙ ap (count_by is_join) are ∙ count_both is_join (link_moves M) more ∙ ap (λ (n : ℕ). n + count_by is_join more) (sym (joins_linked M))

changes_behind : (M more all : List Move) → link_moves all ≡ link_moves M ++ more → count_by is_change all ≡ count_by is_change M + count_by is_change more
changes_behind M more all are = changes_linked all ∙ ap (count_by is_change) are ∙ count_both is_change (link_moves M) more ∙ ap (λ (n : ℕ). n + count_by is_change more) (sym (changes_linked M))

both_grow : (M more all : List Move) → link_moves all ≡ link_moves M ++ more → joins_and_changes M ≤ joins_and_changes all
both_grow M more all are = let a = joins_behind M more all are in let b = changes_behind M more all are in omega (arith, a, b)

pub joins_grow : (M more all : List Move) → link_moves all ≡ link_moves M ++ more → count_by is_join M ≤ count_by is_join all
joins_grow M more all are = let a = joins_behind M more all are in omega (arith, a)

-- as many joined
pub joins_same : (M all : List Move) → link_moves all ≡ link_moves M → next_link all ≡ next_link M
joins_same M all same = let a = joins_behind M [] all (same ∙ sym (append-nil (link_moves M))) in omega (arith, a)

pub joins_still : (M all : List Move) → link_moves all ≡ link_moves M → count_by is_join all ≡ count_by is_join M
joins_still M all same = let a = joins_behind M [] all (same ∙ sym (append-nil (link_moves M))) in omega (arith, a)

-- where links only state other amounts none joins
pub joins_stated : (up : List ℕ) (link : ℕ) (M all : List Move) → StatesOn up link M all → count_by is_join all ≡ count_by is_join M
joins_stated up link M all st = (let a = joins_behind M st.more all st.are in let b = none_join st.more st.each in omega (arith, a, b))
  where
    none_join : (more : List Move) → AllByRecursion (IsHeardChange up link) more → count_by is_join more ≡ 0
    none_join [] each = refl
    none_join (moves.Logged x ∷ more) each = absurd each.0
    none_join (moves.Joined at total largest cache ∷ more) each = absurd each.0
    none_join (moves.Changed at total largest cache ∷ more) each =
        let cons : count_by is_join (moves.Changed at total largest cache ∷ more) ≡ 0 + count_by is_join more = count_cons is_join (moves.Changed at total largest cache) more in
        let rest : count_by is_join more ≡ 0 = none_join more each.1 in
        omega (arith, cons, rest)
    none_join (moves.Left at ∷ more) each = absurd each.0

-- one more where a link joins
pub joins_more : (M : List Move) (link : LinkNo) (total largest : Amounts) (cache : ℕ) (all : List Move) → all ≡ M ++ (moves.Joined link total largest cache ∷ []) → count_by is_join all ≤ count_by is_join M + 1
joins_more M link total largest cache all are =
    let both = ap (count_by is_join) are ∙ count_both is_join M (moves.Joined link total largest cache ∷ []) in
    let one : count_by is_join (moves.Joined link total largest cache ∷ []) ≡ 1 = refl in
    omega (arith, both, one)

next_grow : (M more all : List Move) → link_moves all ≡ link_moves M ++ more → next_link M ≤ next_link all
next_grow M more all are = let a = joins_behind M more all are in omega (arith, a)

-- ---- what links stated

stated_links : (k : ℕ) (M : List Move) → stated_by k M ≡ option_and_then row_in (last_or None (filter (names_link k) (link_moves M)))
stated_links k M = ap (λ (l : List Move). option_and_then row_in (last_or None l)) (named_links k M)

-- none of these moves names the link
abbrev pub NamesNot : ℕ → List Move → Type 0
NamesNot k more = filter (names_link k) more ≡ []

pub stated_same : (k : ℕ) (M more all : List Move) → link_moves all ≡ link_moves M ++ more → NamesNot k more → stated_by k all ≡ stated_by k M
stated_same k M more all are none =
    stated_links k all
    ∙ ap (λ (l : List Move). option_and_then row_in (last_or None l))
    (ap (filter (names_link k)) are ∙ filter-append (names_link k) (link_moves M) more ∙ ap (λ (l : List Move). filter (names_link k) (link_moves M) ++ l) none ∙ append-nil (filter (names_link k) (link_moves M)))
    ∙ sym (stated_links k M)

-- ---- what was offered

pub offered_later : (up more all : List ℕ) (row : LinkRow) → all ≡ up ++ more → IsOffered up row → IsOffered all row
offered_later up more all row are is = record {
  total = is.total;
  largest = is.largest;
  cache = is.cache;
  is = is.is;
  came = ⊎_elim
      (λ hello. inl (subst (λ (b : List ℕ). Carries b (messages.Hello is.total is.largest is.cache)) (sym are) (carries_more up more (messages.Hello is.total is.largest is.cache) hello)))
      (λ totals. inr (subst (λ (b : List ℕ). Carries b (messages.Totals is.total is.largest is.cache)) (sym are) (carries_more up more (messages.Totals is.total is.largest is.cache) totals)))
      is.came;
}

change_later : (up more all : List ℕ) (link : ℕ) → all ≡ up ++ more → (m : Move) → IsHeardChange up link m → IsHeardChange all link m
change_later up more all link are (moves.Logged x) is = absurd is
change_later up more all link are (moves.Joined at total largest cache) is = absurd is
change_later up more all link are (moves.Changed at total largest cache) is = (is.0, subst (λ (b : List ℕ). Carries b (messages.Totals total largest cache)) (sym are) (carries_more up more (messages.Totals total largest cache) is.1))
change_later up more all link are (moves.Left at) is = absurd is

-- no link stated anything
pub states_none : (up : List ℕ) (link : ℕ) (M all : List Move) → link_moves all ≡ link_moves M → StatesOn up link M all
states_none up link M all same = record { more = []; are = same ∙ sym (append-nil (link_moves M)); each = tt }

-- one step behind another
pub states_then : (up more up_now : List ℕ) (link : ℕ) (M mid all : List Move) → up_now ≡ up ++ more → StatesOn up link M mid → StatesOn up_now link mid all → StatesOn up_now link M all
states_then up more up_now link M mid all on one two = record {
  more = one.more ++ two.more;
  are = two.are ∙ ap (λ (l : List Move). l ++ two.more) one.are ∙ append_assoc (link_moves M) one.more two.more;
  each = all_both (IsHeardChange up_now link) one.more two.more (all_weaker (IsHeardChange up link) (IsHeardChange up_now link) (change_later up more up_now link on) one.more one.each) two.each;
}

-- the link changed its amounts as was received there
pub states_one : (up : List ℕ) (link : ℕ) (M : List Move) (m : Move) (all : List Move) → link_moves (m ∷ []) ≡ m ∷ [] → all ≡ M ++ (m ∷ []) → IsHeardChange up link m → StatesOn up link M all
states_one up link M m all one are is = record {
  more = m ∷ [];
  are = linked_one M m all one are;
  each = (is, tt);
}

last_both : (o : Option Move) (xs ys : List Move) → last_or o (xs ++ ys) ≡ last_or (last_or o xs) ys
last_both o [] ys = refl
last_both o (x ∷ xs) ys = last_both (Some x) xs ys

-- what the last of these moves states was offered
module _ (up : List ℕ) (k : ℕ) where
  abbrev WasOffered : Option Move → Type 0
  WasOffered o = (row : LinkRow) → option_and_then row_in o ≡ Some row → IsOffered up row

  offered_change : (at : LinkNo) (total largest : Amounts) (cache : ℕ) → Carries up (messages.Totals total largest cache) → WasOffered (Some (moves.Changed at total largest cache))
  offered_change at total largest cache came row is = record {
    total = total;
    largest = largest;
    cache = cache;
    is = sym (ap (λ (o : Option LinkRow). unwrap_or o (row_of total largest cache)) is);
    came = inr came;
  }

  offered_more : (more : List Move) → AllByRecursion (IsHeardChange up k) more → (o : Option Move) → WasOffered o → WasOffered (last_or o (filter (names_link k) more))
  offered_more [] each o is = is
  offered_more (moves.Logged x ∷ more) each o is = absurd each.0
  offered_more (moves.Joined at total largest cache ∷ more) each o is = absurd each.0
  offered_more (moves.Changed at total largest cache ∷ more) each o is =
      let m : Move = moves.Changed at total largest cache in
      let kept : filter (names_link k) (m ∷ more) ≡ m ∷ filter (names_link k) more = ap (λ (b : Bool). cond b (m ∷ filter (names_link k) more) (filter (names_link k) more)) (eq-eqb at.0 k each.0.0) in
      subst (λ (l : List Move). WasOffered (last_or o l)) (sym kept) (offered_more more each.1 (Some m) (offered_change at total largest cache each.0.1))
  offered_more (moves.Left at ∷ more) each o is = absurd each.0

stated_behind : (k : ℕ) (M more all : List Move) → link_moves all ≡ link_moves M ++ more → stated_by k all ≡ option_and_then row_in (last_or (last_or None (filter (names_link k) M)) (filter (names_link k) more))
stated_behind k M more all are =
    stated_links k all
    ∙ ap (λ (l : List Move). option_and_then row_in (last_or None l)) (ap (filter (names_link k)) are ∙ filter-append (names_link k) (link_moves M) more)
    ∙ ap (option_and_then row_in) (last_both None (filter (names_link k) (link_moves M)) (filter (names_link k) more))
    ∙ ap (λ (l : List Move). option_and_then row_in (last_or (last_or None l) (filter (names_link k) more))) (sym (named_links k M))

-- ---- seats

module _ {L : Type 0} (history : L → List Passed) where
  abbrev pub Stated : List Move → SeatState L → Type 0
  Stated M s = OffersAsStated history M s

  -- what this seat's link stated is the same, and more joined
  pub stated_on : (M all : List Move) (s s_now : SeatState L) → s_now.link ≡ s.link → PassesOn (history s.peer.way) (history s_now.peer.way) → next_link M ≤ next_link all → stated_by s.link.0 all ≡ stated_by s.link.0 M → Stated M s → Stated all s_now
  stated_on M all s s_now link on more same is =
      let number = ap (λ (l : LinkNo). l.0) link in
      record {
        joined = (let was = is.joined in omega (arith, number, was, more));
        offered = λ row now. offered_later (received_in (history s.peer.way)) on.0 (received_in (history s_now.peer.way)) row on.1 (is.offered row (sym same ∙ sym (ap (λ (l : LinkNo). stated_by l.0 all) link) ∙ now));
      }

  -- what these seats' links stated is the same
  abbrev pub Same : List Move → List Move → List (SeatState L) → Type 0
  Same M all seats = AllByRecursion (λ s. stated_by s.link.0 all ≡ stated_by s.link.0 M) seats

  pub same_still : (M all : List Move) → ((k : ℕ) → stated_by k all ≡ stated_by k M) → (seats : List (SeatState L)) → Same M all seats
  same_still M all still [] = tt
  same_still M all still (s ∷ seats) = (still s.link.0, same_still M all still seats)

  -- where only a link is named that none of them has
  pub same_apart : (M more all : List Move) (link : ℕ) → link_moves all ≡ link_moves M ++ more → ((k : ℕ) → k ≢ link → NamesNot k more) → (seats : List (SeatState L)) → IsUnseated link seats → Same M all seats
  same_apart M more all link are not [] un = tt
  same_apart M more all link are not (s ∷ seats) un = (stated_same s.link.0 M more all are (not s.link.0 un.0), same_apart M more all link are not seats un.1)

  -- where only the link of a seat that none of them is stated something
  pub same_heard : (up : List ℕ) (link : ℕ) (M all : List Move) → StatesOn up link M all → (seats : List (SeatState L)) → IsUnseated link seats → Same M all seats
  same_heard up link M all st seats un = same_apart M st.more all link st.are (λ k away. by_all k away st.more st.each) seats un
    where
      by_one : (k : ℕ) → k ≢ link → (at : LinkNo) (total largest : Amounts) (cache : ℕ) (more : List Move) → at.0 ≡ link → (named : Bool) → (at.0 == k) ≡ named → NamesNot k more → NamesNot k (moves.Changed at total largest cache ∷ more)
      by_one k away at total largest cache more here true is none = absurd (away (sym (eqb-true at.0 k is) ∙ here))
      by_one k away at total largest cache more here false is none = ap (λ (x : Bool). cond x (moves.Changed at total largest cache ∷ filter (names_link k) more) (filter (names_link k) more)) is ∙ none

      by_all : (k : ℕ) → k ≢ link → (more : List Move) → AllByRecursion (IsHeardChange up link) more → NamesNot k more
      by_all k away [] each = refl
      by_all k away (moves.Logged x ∷ more) each = absurd each.0
      by_all k away (moves.Joined at total largest cache ∷ more) each = absurd each.0
      by_all k away (moves.Changed at total largest cache ∷ more) each = by_one k away at total largest cache more each.0.0 (at.0 == k) refl (by_all k away more each.1)
      by_all k away (moves.Left at ∷ more) each = absurd each.0

  all_stated : (M all : List Move) → next_link M ≤ next_link all → (seats : List (SeatState L)) → Same M all seats → AllByRecursion (Stated M) seats → AllByRecursion (Stated all) seats
  all_stated M all more [] same are = tt
  all_stated M all more (s ∷ seats) same are = (stated_on M all s s refl ([], sym (append-nil (received_in (history s.peer.way))), ([], sym (append-nil (sent_in (history s.peer.way))))) more same.0 are.0, all_stated M all more seats same.1 are.1)

  -- a seat's own link stated what was received there
  own_stated : (M more all : List Move) (s s_now : SeatState L) → s_now.link ≡ s.link → PassesOn (history s.peer.way) (history s_now.peer.way) → next_link M ≤ next_link all → link_moves all ≡ link_moves M ++ more
      → AllByRecursion (IsHeardChange (received_in (history s_now.peer.way)) s.link.0) more → Stated M s → Stated all s_now
  own_stated M more all s s_now link on grow are each is =
      let number = ap (λ (l : LinkNo). l.0) link in
      let up = received_in (history s_now.peer.way) in
      let now = offered_more up s.link.0 more each (last_or None (filter (names_link s.link.0) M)) (λ row stated. offered_later (received_in (history s.peer.way)) on.0 up row on.1 (is.offered row stated)) in
      record {
        joined = (let was = is.joined in omega (arith, number, was, grow));
        offered = λ row stated. now row (sym (stated_behind s.link.0 M more all are) ∙ sym (ap (λ (l : LinkNo). stated_by l.0 all) link) ∙ stated);
      }

  -- one among the others
  pub stated_split : (M : List Move) (f : List (SeatState L)) (s : SeatState L) (b : List (SeatState L)) → AllByRecursion (Stated M) (f ++ (s ∷ b)) → AllByRecursion (Stated M) (f ++ b) × Stated M s
  stated_split M [] s b are = (are.1, are.0)
  stated_split M (x ∷ f) s b are = let rest = stated_split M f s b are.1 in ((are.0, rest.0), rest.1)

  pub stated_join : (M : List Move) (f : List (SeatState L)) (s : SeatState L) (b : List (SeatState L)) → AllByRecursion (Stated M) (f ++ b) → Stated M s → AllByRecursion (Stated M) (f ++ (s ∷ b))
  stated_join M [] s b are is = (is, are)
  stated_join M (x ∷ f) s b are is = (are.0, stated_join M f s b are.1 is)

  -- ---- what was earned

  earned_on : (ill : LinkNo → L → Type 0) (M more all : List Move) → link_moves all ≡ link_moves M ++ more → (number : Option LinkNo) (way : L) → HasEarned ill M number way → HasEarned ill all number way
  earned_on ill M more all are (Some link) way (inl is) = inl is
  earned_on ill M more all are (Some link) way (inr full) = inr (let grow = both_grow M more all are in omega (arith, full, grow))
  earned_on ill M more all are None way (inl is) = inl is
  earned_on ill M more all are None way (inr (inl many)) = inr (inl (let grow = joins_grow M more all are in omega (arith, many, grow)))
  earned_on ill M more all are None way (inr (inr full)) = inr (inr (let grow = both_grow M more all are in omega (arith, full, grow)))

  -- What a step makes where the run goes on behind it.
  pub record EarnsOn (ill : LinkNo → L → Type 0) (M all : List Move) (halt : Option Halt) (c c_now : CompanyState L) (got got_now : List (Option LinkNo × L)) : Type 0 where
    pub halt_was : halt ≡ None
    pub failed_was : c.failed ≡ false
    pub lost_was : c.lost ≡ false
    pub linked : List Move
    pub behind : link_moves all ≡ link_moves M ++ linked
    pub links : List (Option LinkNo × L)
    pub are : got_now ≡ got ++ links
    pub each : AllByRecursion (λ x. HasEarned ill all x.0 x.1) links
    pub joins : count_by is_join linked + length c.seats ≤ numbered_in links + length c_now.seats
    pub offered : AllByRecursion (Stated M) c.seats → AllByRecursion (Stated all) c_now.seats

  numbered_both : (xs ys : List (Option LinkNo × L)) → numbered_in (xs ++ ys) ≡ numbered_in xs + numbered_in ys
  numbered_both xs ys = sum_by-append (λ (x : Option LinkNo × L). cond (is_some x.0) 1 0) xs ys

  pub earn_step : (ill : LinkNo → L → Type 0) {M all : List Move} {halt halt_now : Option Halt} {c c_now : CompanyState L} {got got_now : List (Option LinkNo × L)}
      → (halt_now ≡ None → c_now.failed ≡ false → c_now.lost ≡ false → EarnsOn ill M all halt c c_now got got_now) → KeepsEarned ill history M all halt halt_now c c_now got got_now
  earn_step ill {M} {all} {halt} {halt_now} {c} {c_now} {got} {got_now} steps = record {
    goes = λ before first earned none fine kept.
        let s = steps none fine kept in
        let was = earned s.halt_was s.failed_was s.lost_was in
        record {
          links = was.links ++ s.links;
          are = s.are ∙ ap (λ (xs : List (Option LinkNo × L)). xs ++ s.links) was.are ∙ append_assoc before was.links s.links;
          each = all_both (λ x. HasEarned ill all x.0 x.1) was.links s.links
              (all_weaker (λ x. HasEarned ill M x.0 x.1) (λ x. HasEarned ill all x.0 x.1) (λ x is. earned_on ill M s.linked all s.behind x.0 x.1 is) was.links was.each) s.each;
          joins = (
              let had = was.joins in
              let grow = joins_behind M s.linked all s.behind in
              let both = numbered_both was.links s.links in
              let step = s.joins in
              omega (arith, had, grow, both, step)
              );
          offered = s.offered was.offered;
        };
  }

  -- nothing changes but records
  pub earn_still : (ill : LinkNo → L → Type 0) {M all : List Move} {halt halt_now : Option Halt} {c c_now : CompanyState L} {got got_now : List (Option LinkNo × L)} → link_moves all ≡ link_moves M → c_now.seats ≡ c.seats
      → (halt_now ≡ None → c_now.failed ≡ false → c_now.lost ≡ false → (halt ≡ None) × (c.failed ≡ false) × (c.lost ≡ false) × (got_now ≡ got)) → KeepsEarned ill history M all halt halt_now c c_now got got_now
  earn_still ill {M} {all} {halt} {halt_now} {c} {c_now} {got} {got_now} same seats marks = earn_step ill (λ none fine kept.
      let m = marks none fine kept in
      let behind : link_moves all ≡ link_moves M ++ [] = same ∙ sym (append-nil (link_moves M)) in
      let many = ap length seats in
      record {
        halt_was = m.0;
        failed_was = m.1;
        lost_was = m.2;
        linked = [];
        behind = behind;
        links = [];
        are = m.3 ∙ sym (append-nil got);
        each = tt;
        joins = omega (arith, many);
        offered = λ are. subst (AllByRecursion (Stated all)) (sym seats)
            (all_stated M all (next_grow M [] all behind) c.seats (same_still M all (λ k. stated_same k M [] all behind refl) c.seats) are);
      })

  -- a call at one seat, whose link stated what was received there
  pub earn_seat : (ill : LinkNo → L → Type 0) {M all : List Move} {halt halt_now : Option Halt} {c c_now : CompanyState L} {got : List (Option LinkNo × L)} (f : List (SeatState L)) (s s_now : SeatState L) (b : List (SeatState L)) → c.seats ≡ f ++ (s ∷ b)
      → c_now.seats ≡ f ++ (s_now ∷ b) → c_now.failed ≡ c.failed → c_now.lost ≡ c.lost → s_now.link ≡ s.link → PassesOn (history s.peer.way) (history s_now.peer.way) → (halt_now ≡ None → halt ≡ None)
      → (halt_now ≡ None → StatesOn (received_in (history s_now.peer.way)) s.link.0 M all) → (halt_now ≡ None → Same M all (f ++ b)) → KeepsEarned ill history M all halt halt_now c c_now got got
  earn_seat ill {M} {all} {halt} {halt_now} {c} {c_now} {got} f s s_now b are now failed lost link on going states others = earn_step ill (λ none fine kept.
      let st = states none in
      let many = ap length are in
      let many_now = ap length now in
      let both = length-append f (s ∷ b) in
      let both_now = length-append f (s_now ∷ b) in
      let none_joined = changes_join_none (received_in (history s_now.peer.way)) s.link.0 st.more st.each in
      record {
        halt_was = going none;
        failed_was = sym failed ∙ fine;
        lost_was = sym lost ∙ kept;
        linked = st.more;
        behind = st.are;
        links = [];
        are = sym (append-nil got);
        each = tt;
        joins = omega (arith, many, many_now, both, both_now, none_joined);
        offered = λ was.
            let split = stated_split M f s b (subst (AllByRecursion (Stated M)) are was) in
            let more = next_grow M st.more all st.are in
            subst (AllByRecursion (Stated all)) (sym now)
            (stated_join all f s_now b (all_stated M all more (f ++ b) (others none) split.0) (own_stated M st.more all s s_now link on more st.are st.each split.1));
      })
    where
      changes_join_none : (up : List ℕ) (link : ℕ) (more : List Move) → AllByRecursion (IsHeardChange up link) more → count_by is_join more ≡ 0
      changes_join_none up link [] each = refl
      changes_join_none up link (moves.Logged x ∷ more) each = absurd each.0
      changes_join_none up link (moves.Joined at total largest cache ∷ more) each = absurd each.0
      changes_join_none up link (moves.Changed at total largest cache ∷ more) each =
          let cons : count_by is_join (moves.Changed at total largest cache ∷ more) ≡ 0 + count_by is_join more = count_cons is_join (moves.Changed at total largest cache) more in
          let rest = changes_join_none up link more each.1 in
          omega (arith, cons, rest)
      changes_join_none up link (moves.Left at ∷ more) each = absurd each.0

  -- A seat's link is handed back, and perhaps left.
  pub earn_part : (ill : LinkNo → L → Type 0) {M all : List Move} {halt halt_now : Option Halt} {c c_now : CompanyState L} {got got_now : List (Option LinkNo × L)} (f : List (SeatState L)) (s : SeatState L) (b : List (SeatState L)) → c.seats ≡ f ++ (s ∷ b)
      → c_now.seats ≡ f ++ b → (halt_now ≡ None → halt ≡ None) → (c_now.failed ≡ false → c.failed ≡ false) → (c_now.lost ≡ false → (c.lost ≡ false) × (got_now ≡ got ++ ((Some s.link, s.peer.way) ∷ [])))
      → (halt_now ≡ None → (link_moves all ≡ link_moves M) ⊎ (link_moves all ≡ link_moves M ++ (moves.Left s.link ∷ []))) → IsUnseated s.link.0 (f ++ b)
      → (halt ≡ None → c.failed ≡ false → c.lost ≡ false → ill s.link s.peer.way ⊎ (most_joins ≤ joins_and_changes M)) → KeepsEarned ill history M all halt halt_now c c_now got got_now
  earn_part ill {M} {all} {halt} {halt_now} {c} {c_now} {got} {got_now} f s b are now going failing losing left apart cause = earn_step ill (λ none fine kept.
      let halt_was = going none in
      let failed_was = failing fine in
      let back = losing kept in
      let l = by_left (left none) in
      let many = ap length are in
      let many_now = ap length now in
      let both = length-append f (s ∷ b) in
      let both_now = length-append f b in
      let no_join = l.2 in
      let one : numbered_in ((Some s.link, s.peer.way) ∷ []) ≡ 1 = refl in
      record {
        halt_was = halt_was;
        failed_was = failed_was;
        lost_was = back.0;
        linked = l.0;
        behind = l.1;
        links = (Some s.link, s.peer.way) ∷ [];
        are = back.1;
        each = (earned_on ill M l.0 all l.1 (Some s.link) s.peer.way (cause halt_was failed_was back.0), tt);
        joins = omega (arith, many, many_now, both, both_now, no_join, one);
        offered = λ was.
            let split = stated_split M f s b (subst (AllByRecursion (Stated M)) are was) in
            subst (AllByRecursion (Stated all)) (sym now) (all_stated M all (next_grow M l.0 all l.1) (f ++ b) (same_apart M l.0 all s.link.0 l.1 l.3 (f ++ b) apart) split.0);
      })
    where
      other : (k : ℕ) → k ≢ s.link.0 → (named : Bool) → (s.link.0 == k) ≡ named → NamesNot k (moves.Left s.link ∷ [])
      other k away true is = absurd (away (sym (eqb-true s.link.0 k is)))
      other k away false is = ap (λ (x : Bool). cond x (moves.Left s.link ∷ []) []) is

      by_left : (link_moves all ≡ link_moves M) ⊎ (link_moves all ≡ link_moves M ++ (moves.Left s.link ∷ []))
          → (linked : List Move) × (link_moves all ≡ link_moves M ++ linked) × (count_by is_join linked ≡ 0) × ((k : ℕ) → k ≢ s.link.0 → NamesNot k linked)
      by_left (inl same) = ([], same ∙ sym (append-nil (link_moves M)), refl, λ k away. refl)
      by_left (inr one) = (moves.Left s.link ∷ [], one, refl, λ k away. other k away (s.link.0 == k) refl)

  -- A link without a number is handed back.
  pub earn_guest : (ill : LinkNo → L → Type 0) {M all : List Move} {halt : Option Halt} {c c_now : CompanyState L} {got got_now : List (Option LinkNo × L)} (way : L) → link_moves all ≡ link_moves M → c_now.seats ≡ c.seats → (c_now.failed ≡ false → c.failed ≡ false)
      → (c_now.lost ≡ false → (c.lost ≡ false) × (got_now ≡ got ++ ((None, way) ∷ []))) → (c_now.lost ≡ false → HasEarned ill all None way) → KeepsEarned ill history M all halt halt c c_now got got_now
  earn_guest ill {M} {all} {halt} {c} {c_now} {got} {got_now} way same seats failing losing earned = earn_step ill (λ none fine kept.
      let back = losing kept in
      let behind : link_moves all ≡ link_moves M ++ [] = same ∙ sym (append-nil (link_moves M)) in
      let many = ap length seats in
      record {
        halt_was = none;
        failed_was = failing fine;
        lost_was = back.0;
        linked = [];
        behind = behind;
        links = (None, way) ∷ [];
        are = back.1;
        each = (earned kept, tt);
        joins = omega (arith, many);
        offered = λ was. subst (AllByRecursion (Stated all)) (sym seats) (all_stated M all (next_grow M [] all behind) c.seats (same_still M all (λ k. stated_same k M [] all behind refl) c.seats) was);
      })

  -- A guest gets its seat, and what it offered came over its link.
  pub earn_seated : (ill : LinkNo → L → Type 0) {M all : List Move} {halt : Option Halt} {c c_now : CompanyState L} {got got_now : List (Option LinkNo × L)} (s : SeatState L) (total largest : Amounts) (cache : ℕ) → all ≡ M ++ (moves.Joined s.link total largest cache ∷ []) → s.link.0 ≡ next_link M
      → Carries (received_in (history s.peer.way)) (messages.Hello total largest cache) → (c_now.failed ≡ false → c.failed ≡ false) → (c_now.lost ≡ false → (c.lost ≡ false) × (got_now ≡ got) × IsUnseated s.link.0 c.seats × (c_now.seats ≡ c.seats ++ (s ∷ [])))
      → KeepsEarned ill history M all halt halt c c_now got got_now
  earn_seated ill {M} {all} {halt} {c} {c_now} {got} {got_now} s total largest cache are number came failing seating = earn_step ill (λ none fine kept.
      let m : Move = moves.Joined s.link total largest cache in
      let seat = seating kept in
      let behind = linked_one M m all refl are in
      let many = ap length seat.3 in
      let both = length-append c.seats (s ∷ []) in
      let one : count_by is_join (m ∷ []) ≡ 1 = refl in
      let grow = joins_behind M (m ∷ []) all behind in
      record {
        halt_was = none;
        failed_was = failing fine;
        lost_was = seat.0;
        linked = m ∷ [];
        behind = behind;
        links = [];
        are = seat.1 ∙ sym (append-nil got);
        each = tt;
        joins = omega (arith, many, both, one);
        offered = λ was.
            subst (AllByRecursion (Stated all)) (sym seat.3)
            (all_both (Stated all) c.seats (s ∷ []) (all_stated M all (next_grow M (m ∷ []) all behind) c.seats (same_apart M (m ∷ []) all s.link.0 behind (λ k away. other k away (s.link.0 == k) refl) c.seats seat.2) was)
            (record { joined = omega (arith, number, grow, one); offered = λ row stated. by_row row (sym (stated_behind s.link.0 M (m ∷ []) all behind) ∙ stated) }, tt));
      })
    where
      other : (k : ℕ) → k ≢ s.link.0 → (named : Bool) → (s.link.0 == k) ≡ named → NamesNot k (moves.Joined s.link total largest cache ∷ [])
      other k away true is = absurd (away (sym (eqb-true s.link.0 k is)))
      other k away false is = ap (λ (x : Bool). cond x (moves.Joined s.link total largest cache ∷ []) []) is

      by_row : (row : LinkRow) → option_and_then row_in (last_or (last_or None (filter (names_link s.link.0) M)) (filter (names_link s.link.0) (moves.Joined s.link total largest cache ∷ []))) ≡ Some row → IsOffered (received_in (history s.peer.way)) row
      by_row row is =
          let m : Move = moves.Joined s.link total largest cache in
          let kept : filter (names_link s.link.0) (m ∷ []) ≡ m ∷ [] = ap (λ (b : Bool). cond b (m ∷ []) []) (eq-eqb s.link.0 s.link.0 refl) in
          let now : Some (row_of total largest cache) ≡ Some row = sym (ap (λ (l : List Move). option_and_then row_in (last_or (last_or None (filter (names_link s.link.0) M)) l)) kept) ∙ is in
          record { total = total; largest = largest; cache = cache; is = sym (ap (λ (o : Option LinkRow). unwrap_or o (row_of total largest cache)) now); came = inl came }
