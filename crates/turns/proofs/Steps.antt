-- Each kind of step keeps the rule.
use Rattle.std.proofs.Common.{◌≡◌, ◌≢◌, ℕ, zero, suc, ◌+◌, ◌-◌, ◌*◌, ◌%◌, ◌^◌, ◌<◌, ◌≤◌, inl, inr, ⊎_elim, Bool, true, cond, eqb, ltb, eq-eqb, ne_eqb, List, [], ◌∷◌, ◌++◌, set, slice_index, slice_set, Option, Some, None, MatchBool, refl, ap, sym, ◌∙◌, subst, arith}
use Rattle.std.specs.Option.{unwrap_or}
use Rattle.std.proofs.lemmas.Bool.Decides.{nat_tests}
use mathlib.Core.Option.{some, none, some-injective, some-ne-none}
use mathlib.Core.Logic.{dite}
use native.Mathlib.Decide.{ℕ_discrete}
use prog.Atomic.{either}
use lib.ListN.{get_elem?}
use Rattle.atomic_table.specs.Table.{rest, State, Me, step, Act, keeps, takes, gives, Valid, stepped, carried_after, Allows, Splits, Joins, opening, Seen, Final}
use Rattle.atomic_table.proofs.Lists.{at_set, at_snoc, set_again, set_else}
use Rattle.atomic_table.specs.Seated.{TableId}
use Rattle.turns.specs.declared.view.View.{View}
use Rattle.turns.specs.Growth.{IsGrowth}
use Rattle.turns.specs.Turns.{Known, Stand, Knows, known, saw, Turned, In, Later, Once, Was, positions, Fits, IsFree, IsHeld, Kept, newcomer, taken, given, HasTurn, published, looked, copied, joined, spent, compared, Takes, Took, Gave, Published, Looked, Compared}
use Rattle.turns.proofs.Positions.{in_append, in_span, once_span, once_append}
use Rattle.turns.proofs.Past.{longer, longer_old, longer_new, still_was, is_new, was_grows, either_grows, chain_on}

none_is : {X A : Type 0} (x : X) → ◌≡◌ {A = Option X} None (Some x) → A
none_is x e = absurd (cc)

some_is : {X : Type 0} (x y : X) → ◌≡◌ {A = Option X} (Some x) (Some y) → x ≡ y
some_is {X} x y e = ap (λ (o : Option X). unwrap_or o x) e

-- whose a position is, once the seat has made those from n on
mine_from : ℕ → ℕ → (ℕ → ℕ) → ℕ → ℕ
mine_from n id owner p = cond (ltb p n) (owner p) id

below : (n id : ℕ) (owner : ℕ → ℕ) (p : ℕ) → p < n → mine_from n id owner p ≡ owner p
unfolding mine_from
below n id owner p h = grind (arith, nat_tests)

above : (n id : ℕ) (owner : ℕ → ℕ) (p : ℕ) → n ≤ p → mine_from n id owner p ≡ id
unfolding mine_from
above n id owner p h = grind (arith, nat_tests)

-- the seat has what the other had
passed : ℕ → ℕ → (ℕ → ℕ) → ℕ → ℕ
passed id other owner p = cond (eqb (owner p) other) id (owner p)

passed_on : (id other : ℕ) (owner : ℕ → ℕ) (p : ℕ) → owner p ≡ other → passed id other owner p ≡ id
unfolding passed
passed_on id other owner p h = grind (arith, nat_tests)

passed_by : (id other : ℕ) (owner : ℕ → ℕ) (p j : ℕ) → owner p ≡ j → j ≢ other → passed id other owner p ≡ j
unfolding passed
passed_by id other owner p j h n = grind (arith, nat_tests)

module _ {D : Type 0} (moves : D → ℕ) where
  each_set : (past : ℕ → D) (last base w0 w1 seat : ℕ) (owner : ℕ → ℕ) (views : List (View D)) (id : ℕ) (w : View D) → ((j : ℕ) (u : View D) → j ≢ id → get_elem? views j ≡ some u → Fits moves past last base w0 w1 seat owner j u) → Fits moves past last base w0 w1 seat owner id w
      → (j : ℕ) (u : View D) → get_elem? (set views id w) j ≡ some u → Fits moves past last base w0 w1 seat owner j u
  each_set past last base w0 w1 seat owner views id w others own j u e =
      ⊎_elim
      (λ (x : (j ≡ id) × (w ≡ u)). subst (λ (y : ℕ × View D). Fits moves past last base w0 w1 seat owner y.0 y.1) (λ i. (sym x.0 i, x.1 i)) own)
      (λ (x : (j ≢ id) × (get_elem? views j ≡ some u)). others j u x.0 x.1)
      (at_set views id j w u e)

module _ {D H : Type 0} (grows : D → D → Type 0) (moves done : D → ℕ) (value : H → D) (count : H → ℕ) (law : IsGrowth grows moves done) (start : D) where
  abbrev Holds : State (Option H) (View D) → Type 0
  Holds = Kept grows moves done value count start

  abbrev Hand : Type 0
  Hand = Me (Option H) (View D)

  abbrev base : ℕ
  base = moves start

  abbrev hand : H → List (ℕ × Option H)
  hand h = (0, Some h) ∷ []

  abbrev first_in : H → List (ℕ × Option H) → H
  first_in d [] = d
  first_in d (x ∷ xs) = unwrap_or x.1 d

  -- what a seat may do at a state, with the word that it leaves, and what it is told
  abbrev Goes : State (Option H) (View D) → ℕ → ℕ → ℕ → Hand → (Hand → Type 0) → Type 0
  Goes s i n id me told = (w : View D) × (a : Act (Option H)) × Valid s.homes me.1 a × Holds (stepped s i n id me.1 w a) × told (w, carried_after me.1 a)

  grew : (s : State (Option H) (View D)) (k : Holds s) → grows start (k.past k.last)
  grew s k = subst (λ (x : D). grows x (k.past k.last)) k.first (k.chain 0 k.last (omega arith) (omega arith))

  seen_grows : (s : State (Option H) (View D)) (k : Holds s) (d : D) → Was k.past k.last d → grows d (k.past k.last)
  seen_grows s k d w = was_grows grows moves done law k.past k.last k.chain d w

  take_free : (id : ℕ) (v : View D) (n : ℕ) (s : State (Option H) (View D)) (k : Holds s) → get_elem? s.views id ≡ some v → ((d : D) → v.start ≡ Some d → d ≡ start) → k.w0 ≡ n → IsFree grows moves done value count base (k.past k.last) k.w0 k.w1 s.homes
      → Goes s 0 (n + 1) id (v, []) (Takes grows moves done value count n v)
  take_free id v n s k at of here free =
      let now : D = k.past k.last in
      let h = free.2.0 in
      let homes = free.2.1 in
      let same : value h ≡ now = free.2.2 in
      let f = k.each id v at in
      let w = taken done v (value h) in
      let size : moves (value h) ≡ moves now = ap moves same in (
        w,
        takes 0 (Some h),
        ap (λ hs. get_elem? hs 0) homes,
        record {
          past = k.past;
          last = k.last;
          w0 = n + 1;
          w1 = k.w1;
          seat = id;
          owner = k.owner;
          words = ap (λ ws. slice_set ws 0 (n + 1)) k.words;
          short = k.short;
          first = k.first;
          chain = k.chain;
          turn = inr (omega (arith, free.0, here), omega (arith, free.1), ap (λ hs. slice_set hs 0 none) homes);
          each = each_set moves k.past k.last base (n + 1) k.w1 id k.owner s.views id w
              (λ j u apart e. let g = k.each j u e in record { seen = g.seen; met = g.met; told = g.told; turn = λ d t. (let x = (g.turn d t).1 in absurd (omega (arith, x, free.0))); mine = g.mine; once = g.once })
              (record {
                seen = λ d e. (k.last, omega arith, sym same ∙ some_is (value h) d e);
                met = f.met;
                told = f.told;
                turn = λ d e. (refl, omega (arith, free.0, here), sym (some_is (value h) d e) ∙ same, ap done same ∙ sym free.1);
                mine = f.mine;
                once = f.once;
              });
        },
        (
          h,
          refl,
          omega (arith, size, k.short),
          (λ d e. subst (λ (x : D). grows d x) (sym same) (seen_grows s k d (f.seen d e))),
          λ d e. (
            subst (λ (x : D). grows d x) (sym same) (subst (λ (x : D). grows x now) (sym (of d e)) (grew s k)),
            (let counted : count h + base ≡ moves now = free.2.3 in let before : moves d ≡ base = ap moves (of d e) in omega (arith, counted, before, size)),
          ),
          omega (arith, free.0, here, size),
        ),
      )

  -- a step that leaves the words, the slot and the view as they are
  stays : (id : ℕ) (v : View D) (s : State (Option H) (View D)) (k : Holds s) → get_elem? s.views id ≡ some v → Goes s 0 (slice_index s.words 0) id (v, []) (λ after. after ≡ (v, []))
  stays id v s k at = (
    v,
    keeps,
    tt,
    record {
      past = k.past;
      last = k.last;
      w0 = k.w0;
      w1 = k.w1;
      seat = k.seat;
      owner = k.owner;
      words = ap (λ ws. slice_set ws 0 (slice_index ws 0)) k.words;
      short = k.short;
      first = k.first;
      chain = k.chain;
      turn = k.turn;
      each = λ j u e. k.each j u (subst (λ l. get_elem? l j ≡ some u) (set_again s.views id v at) e);
    },
    refl,
  )

  abbrev TakesAt : (id : ℕ) (v : View D) (n : ℕ) (s : State (Option H) (View D)) → Bool → Type 0
  TakesAt id v n s b = Goes s 0 (either b (n + 1) (slice_index s.words 0)) id (v, []) (λ after. MatchBool b (Takes grows moves done value count n v after) (after ≡ (v, [])))

  takes_here : (id : ℕ) (v : View D) (n : ℕ) (s : State (Option H) (View D)) (k : Holds s) → ((d : D) → v.start ≡ Some d → d ≡ start) → n % 2 ≡ 0 → get_elem? s.views id ≡ some v → slice_index s.words 0 ≡ n → TakesAt id v n s true
  takes_here id v n s k of even at here =
      let first : slice_index s.words 0 ≡ k.w0 = ap (λ ws. slice_index ws 0) k.words in
      let is : k.w0 ≡ n = sym first ∙ here in
      ⊎_elim
      (λ free. take_free id v n s k at of is free)
      (λ (held : IsHeld grows moves done value count (k.past k.last) k.w0 k.w1 s.homes). let odd : k.w0 ≡ 2 * moves (k.past k.last) + 1 = held.0 in absurd (omega arith))
      k.turn

  takes_turn : (m id : ℕ) (v : View D) (n : ℕ) → ((d : D) → v.start ≡ Some d → d ≡ start) → n % 2 ≡ 0 → Allows Holds m id (v, []) 0 (λ k. either (eqb k n) (n + 1) k) (Took grows moves done value count (step m 0 n (n + 1) none) (v, []))
  takes_turn m id v n of even s k slots at fits =
      dite (ℕ_discrete (slice_index s.words 0) n)
      (λ e. subst (TakesAt id v n s) (sym (eq-eqb (slice_index s.words 0) n e)) (takes_here id v n s k of even at e))
      (λ ne. subst (TakesAt id v n s) (sym (ne_eqb (slice_index s.words 0) n ne)) (stays id v s k at))

  -- a seat that has the turn: the state is not free
  held_by : {A : Type 0} (id : ℕ) (v : View D) (d : D) (s : State (Option H) (View D)) (k : Holds s) → get_elem? s.views id ≡ some v → v.turn ≡ Some d → (IsHeld grows moves done value count (k.past k.last) k.w0 k.w1 s.homes → A) → A
  held_by id v d s k at turn go =
      ⊎_elim
      (λ (free : IsFree grows moves done value count base (k.past k.last) k.w0 k.w1 s.homes). let odd : k.w0 ≡ 2 * moves (k.past k.last) + 1 = ((k.each id v at).turn d turn).1 in let even : k.w0 ≡ 2 * moves (k.past k.last) = free.0 in absurd (omega arith))
      go
      k.turn

  gives_held : (id : ℕ) (v : View D) (d : D) (h : H) (n : ℕ) (s : State (Option H) (View D)) (k : Holds s) → get_elem? s.views id ≡ some v → v.turn ≡ Some d → grows d (value h) → v.word ≡ done (value h) → moves (value h) < 2 ^ 62 → count h + base ≡ moves (value h) → n ≡ 2 * moves (value h)
      → IsHeld grows moves done value count (k.past k.last) k.w0 k.w1 s.homes
      → Goes s 0 n id (v, hand h) (λ after. (g : H) (e : D) → hand h ≡ hand g → v.turn ≡ Some e → after ≡ (given moves v e (value g), []))
  gives_held id v d h n s k at turn grows' word short counted is held =
      let f = k.each id v at in
      let t = f.turn d turn in
      let new : D = value h in
      let w = given moves v d new in
      let was : D = k.past k.last in
      let on : grows was new = subst (λ (x : D). grows x new) t.2 grows' in
      let more : moves was ≤ moves new = law.more was new on in
      let found : moves d ≡ moves was = ap moves t.2 in
      let start_len : base ≤ moves was = law.more start was (grew s k) in
      let owner : ℕ → ℕ = mine_from (moves was) id k.owner in
      let past : ℕ → D = longer k.past k.last new in
      let last : ℕ = suc k.last in
      let end : past last ≡ new = longer_new k.past k.last new in
      let size : moves (past last) ≡ moves new = ap moves end in (
        w,
        gives,
        tt,
        record {
          past = past;
          last = last;
          w0 = n;
          w1 = k.w1;
          seat = k.seat;
          owner = owner;
          words = ap (λ ws. slice_set ws 0 n) k.words;
          short = omega (arith, size, short);
          first = longer_old k.past k.last new 0 (omega arith) ∙ k.first;
          chain = chain_on grows moves done law k.past k.last new k.chain on;
          turn = inl (omega (arith, size, is), sym t.3 ∙ (word ∙ ap done (sym end)), (h, ap (λ hs. slice_set hs 0 (some (Some h))) held.2, sym end, omega (arith, counted, size)));
          each = each_set moves past last base n k.w1 k.seat owner s.views id w
              (λ j u apart e. let g = k.each j u e in record {
                seen = λ x q. still_was k.past k.last new x (g.seen x q);
                met = λ x q. still_was k.past k.last new x (g.met x q);
                told = g.told;
                turn = λ y x. absurd (apart ((g.turn y x).0 ∙ sym t.0));
                mine = λ p i. (let m = g.mine p i in (m.0, omega (arith, m.1, more, size), below (moves was) id k.owner p m.1 ∙ m.2));
                once = g.once;
              })
              (record {
                seen = λ x q. subst (λ (y : D). Was past last y) (some_is new x q) (is_new k.past k.last new);
                met = λ x q. still_was k.past k.last new x (f.met x q);
                told = f.told;
                turn = λ y x. none_is y x;
                mine = λ p i. ⊎_elim
                    (λ old. let m = f.mine p old in (m.0, omega (arith, m.1, more, size), below (moves was) id k.owner p m.1 ∙ m.2))
                    (λ fresh. let r = in_span p (moves d) (moves new - moves d) fresh in (omega (arith, r, start_len, found), omega (arith, r, found, more, size), above (moves was) id k.owner p (omega (arith, r, found))))
                    (in_append p v.mine (positions (moves d) (moves new)) i);
                once = once_append v.mine (positions (moves d) (moves new)) f.once (once_span (moves d) (moves new - moves d))
                    (λ p old fresh. let r = in_span p (moves d) (moves new - moves d) fresh in let m = f.mine p old in omega (arith, r, m.1, found));
              });
        },
        λ g e same turn'. (
            let there : h ≡ g = ap (first_in h) same in
            let found' : d ≡ e = some_is d e (sym turn ∙ turn') in
            ap (λ (x : H × D). (given moves v x.1 (value x.0), [])) (λ i. (there i, found' i))
            ),
      )

  gives_turn : (m id : ℕ) (v : View D) (d : D) (h : H) (n : ℕ) → v.turn ≡ Some d → grows d (value h) → v.word ≡ done (value h) → moves (value h) < 2 ^ 62 → count h + base ≡ moves (value h) → n ≡ 2 * moves (value h)
      → Allows Holds m id (v, hand h) 0 (λ _. n) (λ _. Gave moves value (step m 0 n 0 none) (v, hand h) n)
  gives_turn m id v d h n turn grows' word short counted is s k slots at fits =
      held_by id v d s k at turn (λ held. gives_held id v d h n s k at turn grows' word short counted is held)

  publishes_held : (id : ℕ) (me : Hand) (d : D) (n : ℕ) (s : State (Option H) (View D)) (k : Holds s) → get_elem? s.views id ≡ some me.0 → me.0.turn ≡ Some d → me.0.word ≤ n → IsHeld grows moves done value count (k.past k.last) k.w0 k.w1 s.homes
      → Goes s 1 n id me (λ after. after ≡ (published me.0 n, me.1))
  publishes_held id me d n s k at turn rises held =
      let v : View D = me.0 in
      let f = k.each id v at in
      let t = f.turn d turn in
      let w = published v n in
      let more : k.w1 ≤ n = omega (arith, t.3, rises) in (
        w,
        keeps,
        tt,
        record {
          past = k.past;
          last = k.last;
          w0 = k.w0;
          w1 = n;
          seat = k.seat;
          owner = k.owner;
          words = ap (λ ws. slice_set ws 1 n) k.words;
          short = k.short;
          first = k.first;
          chain = k.chain;
          turn = inr (held.0, omega (arith, held.1, more), held.2);
          each = each_set moves k.past k.last base k.w0 n k.seat k.owner s.views id w
              (λ j u apart e. let g = k.each j u e in record { seen = g.seen; met = g.met; told = omega (arith, g.told, more); turn = λ y x. absurd (apart ((g.turn y x).0 ∙ sym t.0)); mine = g.mine; once = g.once })
              (record { seen = f.seen; met = f.met; told = omega (arith, f.told, more); turn = λ y x. (let q = f.turn y x in (q.0, q.1, q.2, refl)); mine = f.mine; once = f.once });
        },
        refl,
      )

  pub publishes : (m id : ℕ) (me : Hand) (d : D) (n : ℕ) → me.0.turn ≡ Some d → me.0.word ≤ n → Allows Holds m id me 1 (λ _. n) (λ _. Published (step m 1 n 0 none) me n)
  publishes m id me d n turn rises s k slots at fits =
      held_by id me.0 d s k at turn (λ held. publishes_held id me d n s k at turn rises held)

  most : (s : State (Option H) (View D)) (k : Holds s) → done (k.past k.last) ≤ k.w1
  most s k = ⊎_elim (λ (free : IsFree grows moves done value count base (k.past k.last) k.w0 k.w1 s.homes). let e : k.w1 ≡ done (k.past k.last) = free.1 in omega arith) (λ (held : IsHeld grows moves done value count (k.past k.last) k.w0 k.w1 s.homes). held.1) k.turn

  pub looks : (m id : ℕ) (me : Hand) → Allows Holds m id me 1 (λ n. n) (Looked done (step m 1 0 0 none) me)
  looks m id me s k slots at fits =
      let v : View D = me.0 in
      let n : ℕ = slice_index s.words 1 in
      let is : n ≡ k.w1 = ap (λ ws. slice_index ws 1) k.words in
      let f = k.each id v at in
      let w = looked v n in (
        w,
        keeps,
        tt,
        record {
          past = k.past;
          last = k.last;
          w0 = k.w0;
          w1 = k.w1;
          seat = k.seat;
          owner = k.owner;
          words = ap (λ ws. slice_set ws 1 (slice_index ws 1)) k.words;
          short = k.short;
          first = k.first;
          chain = k.chain;
          turn = k.turn;
          each = each_set moves k.past k.last base k.w0 k.w1 k.seat k.owner s.views id w (λ j u apart e. k.each j u e)
              (record { seen = f.seen; met = f.met; told = omega (arith, is); turn = f.turn; mine = f.mine; once = f.once });
        },
        (
          refl,
          (λ d e. let rises : done d ≤ done (k.past k.last) = law.rises d (k.past k.last) (seen_grows s k d (f.seen d e)) in omega (arith, is, most s k, rises)),
          omega (arith, is, f.told),
        ),
      )

  -- a load of word 0, at which the seat turns to what it or the other had seen
  turns_to : (id : ℕ) (me : Hand) (seen : Option D) (s : State (Option H) (View D)) (k : Holds s) → get_elem? s.views id ≡ some me.0 → ((d : D) → seen ≡ Some d → Was k.past k.last d)
      → Holds (stepped s 0 (slice_index s.words 0) id me.1 (compared me.0 seen) keeps)
  turns_to id me seen s k at was =
      let v : View D = me.0 in
      let f = k.each id v at in
      record {
        past = k.past;
        last = k.last;
        w0 = k.w0;
        w1 = k.w1;
        seat = k.seat;
        owner = k.owner;
        words = ap (λ ws. slice_set ws 0 (slice_index ws 0)) k.words;
        short = k.short;
        first = k.first;
        chain = k.chain;
        turn = k.turn;
        each = each_set moves k.past k.last base k.w0 k.w1 k.seat k.owner s.views id (compared v seen) (λ j u apart e. k.each j u e)
            (record { seen = was; met = λ d e. none_is d e; told = f.told; turn = f.turn; mine = f.mine; once = f.once });
      }

  abbrev Compares : State (Option H) (View D) → ℕ → Hand → Type 0
  Compares s id me = Goes s 0 (slice_index s.words 0) id me (λ after. (seen : Option D) × (after ≡ (compared me.0 seen, me.1)) × Later grows me.0.seen me.0.met seen)

  compares_at : (id : ℕ) (me : Hand) (s : State (Option H) (View D)) (k : Holds s) → get_elem? s.views id ≡ some me.0 → (one two : Option D) → me.0.seen ≡ one → me.0.met ≡ two → Compares s id me
  compares_at id me s k at None two e1 e2 =
      let f = k.each id me.0 at in
      (compared me.0 me.0.seen, keeps, tt, turns_to id me me.0.seen s k at f.seen, (me.0.seen, refl, λ a b p q. none_is a (sym e1 ∙ p)))
  compares_at id me s k at (Some x) None e1 e2 =
      let f = k.each id me.0 at in
      (compared me.0 me.0.seen, keeps, tt, turns_to id me me.0.seen s k at f.seen, (me.0.seen, refl, λ a b p q. none_is b (sym e2 ∙ q)))
  compares_at id me s k at (Some x) (Some y) e1 e2 =
      let f = k.each id me.0 at in
      ⊎_elim
      (λ (on : grows x y). (
        compared me.0 me.0.met,
        keeps,
        tt,
        turns_to id me me.0.met s k at f.met,
        (me.0.met, refl, λ a b p q. inl (subst (λ (z : D × D). grows z.0 z.1) (λ i. (some_is x a (sym e1 ∙ p) i, some_is y b (sym e2 ∙ q) i)) on, refl)),
      ))
      (λ (on : grows y x). (
        compared me.0 me.0.seen,
        keeps,
        tt,
        turns_to id me me.0.seen s k at f.seen,
        (me.0.seen, refl, λ a b p q. inr (subst (λ (z : D × D). grows z.1 z.0) (λ i. (some_is x a (sym e1 ∙ p) i, some_is y b (sym e2 ∙ q) i)) on, refl)),
      ))
      (either_grows grows moves done law k.past k.last k.chain x y (f.seen x e1) (f.met y e2))

  pub compares : (m id : ℕ) (me : Hand) → Allows Holds m id me 0 (λ n. n) (Compared grows (step m 0 0 0 none) me)
  compares m id me s k slots at fits = compares_at id me s k at me.0.seen me.0.met refl refl

  pub splits : (id : ℕ) (v : View D) → Splits Holds id v v (copied v)
  splits id v s k at =
      let f = k.each id v at in
      record {
        past = k.past;
        last = k.last;
        w0 = k.w0;
        w1 = k.w1;
        seat = k.seat;
        owner = k.owner;
        words = k.words;
        short = k.short;
        first = k.first;
        chain = k.chain;
        turn = k.turn;
        each = λ j u e. ⊎_elim
            (λ was. k.each j u (subst (λ l. get_elem? l j ≡ some u) (set_again s.views id v at) was))
            (λ (same : copied v ≡ u). subst (Fits moves k.past k.last base k.w0 k.w1 k.seat k.owner j) same (record { seen = f.seen; met = λ d e. none_is d e; told = f.told; turn = λ y x. none_is y x; mine = λ p i. absurd i; once = tt }))
            (at_snoc (set s.views id v) (copied v) u j e);
      }

  pub joins : (id : ℕ) (v : View D) (other : ℕ) (u : View D) → Joins Holds id v other u (joined v u) spent
  joins id v other u s k at apart there =
      let theirs : get_elem? s.views other ≡ some u = sym (set_else s.views id other (joined v u) apart) ∙ there in
      let f = k.each id v at in
      let g = k.each other u theirs in
      let owner : ℕ → ℕ = passed id other k.owner in
      let apart' : id ≢ other = λ e. apart (sym e) in
      record {
        past = k.past;
        last = k.last;
        w0 = k.w0;
        w1 = k.w1;
        seat = k.seat;
        owner = owner;
        words = k.words;
        short = k.short;
        first = k.first;
        chain = k.chain;
        turn = k.turn;
        each = each_set moves k.past k.last base k.w0 k.w1 k.seat owner (set s.views id (joined v u)) other spent
            (λ j x not_other e. ⊎_elim
            (λ (same : (j ≡ id) × (joined v u ≡ x)). subst (λ (y : ℕ × View D). Fits moves k.past k.last base k.w0 k.w1 k.seat owner y.0 y.1) (λ i. (sym same.0 i, same.1 i))
            (record {
              seen = f.seen;
              met = g.seen;
              told = omega (arith, f.told, g.told);
              turn = f.turn;
              mine = λ p i. ⊎_elim
                  (λ a. let m = f.mine p a in (m.0, m.1, passed_by id other k.owner p id m.2 apart'))
                  (λ b. let m = g.mine p b in (m.0, m.1, passed_on id other k.owner p m.2))
                  (in_append p v.mine u.mine i);
              once = once_append v.mine u.mine f.once g.once (λ p a b. apart' (sym (f.mine p a).2 ∙ (g.mine p b).2));
            }))
            (λ (was : (j ≢ id) × (get_elem? s.views j ≡ some x)). let q = k.each j x was.1 in record { seen = q.seen; met = q.met; told = q.told; turn = q.turn; mine = λ p i. (let m = q.mine p i in (m.0, m.1, passed_by id other k.owner p j m.2 not_other)); once = q.once })
            (at_set s.views id j (joined v u) x e))
            (record { seen = λ d e. none_is d e; met = λ d e. none_is d e; told = omega arith; turn = λ y x. none_is y x; mine = λ p i. absurd i; once = tt });
      }

  starts_one : (h : H) (n c : ℕ) → value h ≡ start → count h ≡ 0 → moves start < 2 ^ 62 → n ≡ 2 * moves start → c ≡ done start → Holds (opening (n ∷ c ∷ []) (Some h ∷ []) (newcomer start))
  starts_one h n c is none_yet short twice fresh =
      record {
        past = λ _. start;
        last = 0;
        w0 = n;
        w1 = c;
        seat = 0;
        owner = λ _. 0;
        words = refl;
        short = short;
        first = refl;
        chain = λ j k le most. law.same start;
        turn = inl (twice, fresh, (h, refl, is, omega (arith, none_yet)));
        each = one;
      }
    where
      one : (i : ℕ) (v : View D) → get_elem? (newcomer start ∷ []) i ≡ some v → Fits moves (λ _. start) 0 base n c 0 (λ _. 0) i v
      one zero v e = subst (Fits moves (λ _. start) 0 base n c 0 (λ _. 0) 0) (some-injective _ _ e) (record { seen = λ d q. (0, omega arith, some_is start d q); met = λ d q. none_is d q; told = omega arith; turn = λ y x. none_is y x; mine = λ p i. absurd i; once = tt })
      one (suc i) v e = absurd (some-ne-none v (sym e))

  -- from here on, the same at a seat as the functions know it

  pub starts : (h : H) (before items : List (Option H)) (n c : ℕ) → items ≡ before ++ Some h ∷ [] → before ≡ [] → value h ≡ start → count h ≡ 0 → moves start < 2 ^ 62 → n ≡ 2 * moves start → c ≡ done start → Holds (opening (n ∷ c ∷ []) items (newcomer start))
  starts h before items n c put empty is none_yet short twice fresh =
      let one : items ≡ Some h ∷ [] = put ∙ ap (λ (b : List (Option H)). b ++ Some h ∷ []) empty in
      subst (λ (xs : List (Option H)). Holds (opening (n ∷ c ∷ []) xs (newcomer start))) (sym one) (starts_one h n c is none_yet short twice fresh)

  pub takes_as : (m id : ℕ) (me : Hand) (n : ℕ) → me.1 ≡ [] → me.0.start ≡ Some start → n % 2 ≡ 0 → Allows Holds m id me 0 (λ k. either (eqb k n) (n + 1) k) (Took grows moves done value count (step m 0 n (n + 1) none) me)
  takes_as m id me n none_held of even =
      subst (λ (c : List (ℕ × Option H)). Allows Holds m id (me.0, c) 0 (λ k. either (eqb k n) (n + 1) k) (Took grows moves done value count (step m 0 n (n + 1) none) (me.0, c))) (sym none_held)
      (takes_turn m id me.0 n (λ d e. some_is d start (sym e ∙ of)) even)

  -- the word that was found is the one that was expected, so the turn is taken
  pub took_it : (n m : ℕ) (me after : Hand) (found : ℕ) → found ≡ n → Took grows moves done value count (step m 0 n (n + 1) none) me found after → Takes grows moves done value count n me.0 after
  took_it n m me after found e t = subst (λ b. MatchBool b (Takes grows moves done value count n me.0 after) (after ≡ me)) (eq-eqb found n e) t

  pub takes_out : (n m : ℕ) (me after : Hand) (found : ℕ) → found ≡ n → Took grows moves done value count (step m 0 n (n + 1) none) me found after → (x : Option H) × (after.1 ≡ (0, x) ∷ rest after.1)
  takes_out n m me after found e t =
      let r = took_it n m me after found e t in
      let out : after.1 ≡ hand r.0 = ap (λ (q : Hand). q.1) r.1 in
      (Some r.0, out ∙ ap (λ (l : List (ℕ × Option H)). (0, Some r.0) ∷ rest l) (sym out))

  -- the value that was taken out of the slot
  pub took_value : (n m : ℕ) (me after : Hand) (found : ℕ) (r : Option H) (u : H) (d : D) → found ≡ n → Took grows moves done value count (step m 0 n (n + 1) none) me found after → after.1 ≡ (0, r) ∷ rest after.1 → r ≡ Some u → me.0.start ≡ Some d → grows d (value u)
  took_value n m me after found r u d e t out is of =
      let k = took_it n m me after found e t in
      let same : k.0 ≡ u = ap (first_in k.0) (sym (ap (λ (q : Hand). q.1) k.1) ∙ out) ∙ ap (λ (o : Option H). unwrap_or o k.0) is in
      subst (λ (h : H). grows d (value h)) same (k.4 d of).0

  -- it has grown from what the seat saw last
  pub took_later : (n m : ℕ) (me after : Hand) (found : ℕ) (r : Option H) (u : H) (d : D) → found ≡ n → Took grows moves done value count (step m 0 n (n + 1) none) me found after → after.1 ≡ (0, r) ∷ rest after.1 → r ≡ Some u → me.0.seen ≡ Some d → grows d (value u)
  took_later n m me after found r u d e t out is of =
      let k = took_it n m me after found e t in
      let same : k.0 ≡ u = ap (first_in k.0) (sym (ap (λ (q : Hand). q.1) k.1) ∙ out) ∙ ap (λ (o : Option H). unwrap_or o k.0) is in
      subst (λ (h : H). grows d (value h)) same (k.3 d of)

  -- it has made half as many moves as the word says
  pub took_count : (n m : ℕ) (me after : Hand) (found : ℕ) (r : Option H) (u : H) → found ≡ n → Took grows moves done value count (step m 0 n (n + 1) none) me found after → after.1 ≡ (0, r) ∷ rest after.1 → r ≡ Some u → n ≡ 2 * moves (value u)
  took_count n m me after found r u e t out is =
      let k = took_it n m me after found e t in
      let same : k.0 ≡ u = ap (first_in k.0) (sym (ap (λ (q : Hand). q.1) k.1) ∙ out) ∙ ap (λ (o : Option H). unwrap_or o k.0) is in
      subst (λ (h : H). n ≡ 2 * moves (value h)) same k.5

  put_in : (n : ℕ) (me one two : Hand) (h : H) → one ≡ (published me.0 n, me.1) → two ≡ (one.0, (0, Some h) ∷ rest one.1) → me.1 ≡ (0, None) ∷ [] → two ≡ (published me.0 n, hand h)
  put_in n me one two h e1 e2 empty = e2 ∙ (ap (λ (q : Hand). (q.0, (0, Some h) ∷ rest q.1)) e1 ∙ ap (λ (l : List (ℕ × Option H)). (published me.0 n, (0, Some h) ∷ rest l)) empty)

  -- after the value was put into the slot, as the last step before the turn is given
  pub gives_back : (m id n word : ℕ) (me one two : Hand) (d : D) (h : H) → one ≡ (published me.0 n, me.1) → two ≡ (one.0, (0, Some h) ∷ rest one.1) → me.1 ≡ (0, None) ∷ [] → me.0.turn ≡ Some d
      → grows d (value h) → moves (value h) < 2 ^ 62 → count h + base ≡ moves (value h) → n ≡ done (value h) → word ≡ 2 * moves (value h)
      → Allows Holds m id two 0 (λ _. word) (λ _. Gave moves value (step m 0 word 0 none) two word)
  gives_back m id n word me one two d h e1 e2 empty turn grows' short counted fresh is =
      subst (λ (q : Hand). Allows Holds m id q 0 (λ _. word) (λ _. Gave moves value (step m 0 word 0 none) q word)) (sym (put_in n me one two h e1 e2 empty))
      (gives_turn m id (published me.0 n) d h word turn grows' fresh short counted is)

  -- and the seat that has given it
  pub gave_back : (m n word : ℕ) (me one two after : Hand) (d : D) (h : H) → one ≡ (published me.0 n, me.1) → two ≡ (one.0, (0, Some h) ∷ rest one.1) → me.1 ≡ (0, None) ∷ [] → me.0.turn ≡ Some d
      → Gave moves value (step m 0 word 0 none) two word after → after ≡ (given moves (published me.0 n) d (value h), [])
  gave_back m n word me one two after d h e1 e2 empty turn gave =
      let put = put_in n me one two h e1 e2 empty in
      let at : two.0 ≡ published me.0 n = ap (λ (q : Hand). q.0) put in
      gave h d (ap (λ (q : Hand). q.1) put) (ap (λ (x : View D). x.turn) at ∙ turn) ∙ ap (λ (x : View D). (given moves x d (value h), [])) at

  -- at the end, where the last seat has the turn
  pub closes : (id : ℕ) (v w : View D) (d : D) (ws : List ℕ) (xs : List (Option H)) → w ≡ taken done v d → Final (Seen Holds id w) ws xs
      → (v.told ≤ done d) × Once v.mine × ((p : ℕ) → In p v.mine → (base ≤ p) × (p < moves d))
  closes id v w d ws xs is final =
      let k = final.1.0 in
      let f = subst (Fits moves k.past k.last base k.w0 k.w1 k.seat k.owner id) is (k.each id w final.1.1) in
      let t = f.turn d refl in
      (omega (arith, f.told, t.3), f.once, (λ p i. let m = f.mine p i in (m.0, subst (λ (x : D). p < moves x) (sym t.2) m.1)))

module _ {D : Type 0} (grows : D → D → Type 0) (moves done : D → ℕ) where
  -- what a call left may be put back
  pub has_turn : (v w : View D) (d after : D) → w ≡ taken done v d → grows d after → HasTurn grows done w after
  has_turn v w d after is grows' = (d, ap (λ (x : View D). x.turn) is, ap (λ (x : View D). x.word) is, grows')

  -- as what the value came to which the pass belongs
  pub starts_at : (z y : TableId) (v : View D) (parts : ℕ) (before : Known D) (stand : Stand D) (key : D) → known z v parts ≡ before → before.of ≡ stand → record { id = y; start = Some key } ≡ stand → v.start ≡ Some key
  starts_at z y v parts before stand key e r q = ap (λ (b : Known D). b.of.start) e ∙ (ap (λ (b : Stand D). b.start) r ∙ sym (ap (λ (b : Stand D). b.start) q))

  -- what a pass knows of a value that was taken
  pub knows : (before : Known D) (z : TableId) (v : View D) (parts : ℕ) (key found : D) → known z v parts ≡ before → v.start ≡ Some key → ((d : D) → v.seen ≡ Some d → grows d found) → grows key found → Knows grows before found
  knows before z v parts key found e of seen grew =
      subst (λ (b : Known D). Knows grows b found) e
      ((λ d is. seen d is), (λ d is. subst (λ (x : D). grows x found) (some_is key d (sym of ∙ is)) grew))

  -- a turn that was taken and given back
  pub turned : (before : Known D) (z z' : TableId) (v one two : View D) (parts parts' : ℕ) (found after : D) → known z v parts ≡ before → Knows grows before found → grows found after
      → one ≡ taken done v found → two ≡ given moves (published one (done after)) found after → z' ≡ z → parts' ≡ parts
      → Turned grows moves before found after (known z' two parts')
  turned before z z' v one two parts parts' found after e knew grows' e1 e2 ez ep =
      let two_is : two ≡ given moves (published (taken done v found) (done after)) found after = e2 ∙ ap (λ (x : View D). given moves (published x (done after)) found after) e1 in
      (knew, grows', (λ i. known (ez i) (two_is i) (ep i)) ∙ ap (λ (b : Known D). saw moves b found after) e)

  -- the value as it came
  pub key_is : (key start : D) (stand : Option D) → Some key ≡ stand → stand ≡ Some start → key ≡ start
  key_is key start stand a b = some_is key start (a ∙ b)
