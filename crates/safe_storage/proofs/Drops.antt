-- What the counters of a walk say once a file is dropped, or a rule is passed.
use Rattle.std.proofs.Common.{◌≡◌, ℕ, ◌+◌, ◌-◌, ◌*◌, ◌≤◌, ◌<◌, Bool, true, false, cond, not, ◌||◌}
use Rattle.std.proofs.Common.{List, length, Some, None, refl, ap, sym, ◌∙◌, arith, true≢false}
use Rattle.std.specs.Prelude.{◌==◌, min, nat_lt, slice_index_or, slice_set}
use Rattle.std.proofs.lemmas.Bool.{eqb-false, eqb-true, false_from_ne_true, ltb-true}
use Rattle.std.proofs.lemmas.List.{get_or-set_other, get_or-set_same, length-set}
use Rattle.flow_types.specs.declared.plan.Plan.{Plan}
use Rattle.flow_types.specs.Plans.{IsValid, bound_of, is_kept, maker_of, most_bytes, most_files}
use Rattle.flow_types.specs.Plans.{most_rules, takes}
use Rattle.gc_refcount.specs.Counting.{times, waiting, with_rule}
use Rattle.gc_refcount.proofs.Ports.{made-ports}
use Rattle.run_history.specs.Storage.{rule_bound}
use Rattle.safe_storage.specs.declared.counters.Counters.{Counters}
use Rattle.safe_walks.specs.Walk.{Standing}
use Rattle.safe_storage.specs.Counters.{IsLoaded, IsWalk, bounds_left, claim_share, counting}
use Rattle.safe_storage.specs.Counters.{is_left_by, is_marked}
use Rattle.safe_storage.specs.Counters.{load_by, share_by}
use Rattle.safe_storage.proofs.Loads.{IsDrop, bounds-maker, bounds-other, bounds-same}
use Rattle.safe_storage.proofs.Loads.{bounds-source, load-dropped, load-passed, load-same}
use Rattle.safe_storage.proofs.Loads.{load-small, load-source, maker-inside, share-in, share-open}

-- one port was left, and none is
pub is-drop : (P : Plan) (left : List ℕ) (f : ℕ) → f < length left → slice_index_or left f 0 ≡ 1
    → is_kept P f ≡ false → IsDrop f (is_left_by P left) (is_left_by P (slice_set left f 0))
is-drop P left f inside one unkept = record {
  before = ap (λ b. b || not (slice_index_or left f 0 == 0)) unkept
      ∙ ap (λ n. not (n == 0)) one;
  after = ap (λ b. b || not (slice_index_or (slice_set left f 0) f 0 == 0)) unkept
      ∙ ap (λ n. not (n == 0)) (get_or-set_same left f 0 0 inside);
  others = λ g apart. ap (λ n. is_kept P g || not (n == 0))
      (get_or-set_other left f g 0 0 (λ same. apart (sym same)));
}

-- a source is dropped
pub source-loaded : (P : Plan) (S : Standing) (over : List Bool) (left rest : List ℕ) (v f : ℕ)
    → IsValid P → f < length P.files → slice_index_or left f 0 ≡ 1 → is_kept P f ≡ false
    → maker_of P f ≡ None → IsLoaded P S over left rest v
    → IsLoaded P S over (slice_set left f 0) rest v
source-loaded P S over left rest v f valid inside one unkept source loaded =
    let drop : IsDrop f (is_left_by P left) (is_left_by P (slice_set left f 0)) =
    is-drop P left f (omega (arith, inside, loaded.files)) one unkept in
    record {
      rules = loaded.rules;
      files = length-set left f 0 ∙ loaded.files;
      rests = loaded.rests;
      bounds = λ r undone passed. loaded.bounds r undone passed
          ∙ sym (bounds-source P f r (is_left_by P left) (is_left_by P (slice_set left f 0)) valid
          drop source);
      load = loaded.load
          ∙ sym (load-source P S (is_marked over) (is_left_by P left)
          (is_left_by P (slice_set left f 0)) f valid drop inside source);
    }

-- what a rule counts as doesn't hang on its outputs before it is passed, or where it is complete
unpassed_share : (c p k : Bool) (b m n : ℕ) → (p ≡ true → c ≡ true)
    → cond c 0 (cond p (min b m) (cond k b 0)) ≡ cond c 0 (cond p (min b n) (cond k b 0))
unpassed_share true p k b m n over = refl
unpassed_share false true k b m n over = absurd (true≢false (sym (over refl)))
unpassed_share false false k b m n over = refl

-- a file is dropped whose maker the walk hasn't passed
pub other-load : (P : Plan) (S : Standing) (over : List Bool) (left rest : List ℕ) (v f m : ℕ)
    → IsValid P → f < length P.files → slice_index_or left f 0 ≡ 1 → is_kept P f ≡ false
    → maker_of P f ≡ Some m → (is_marked over m ≡ true → S.complete m ≡ true)
    → IsLoaded P S over left rest v
    → v ≡ load_by P S (is_marked over) (is_left_by P (slice_set left f 0)) + S.bytes f
other-load P S over left rest v f m valid inside one unkept made unpassed loaded =
    let now : ℕ → Bool = is_left_by P (slice_set left f 0) in
    let drop : IsDrop f (is_left_by P left) now =
    is-drop P left f (omega (arith, inside, loaded.files)) one unkept in
    let share : share_by P S (is_marked over) (is_left_by P left) m
    ≡ share_by P S (is_marked over) now m =
    unpassed_share (S.complete m) (is_marked over m) (S.claimed m) (rule_bound P m)
    (bounds_left P (is_left_by P left) m) (bounds_left P now m) unpassed in
    omega (
      arith,
      loaded.load,
      share,
      load-dropped P S (is_marked over) (is_left_by P left) now f m valid drop inside made,
    )

pub other-loaded : (P : Plan) (S : Standing) (over : List Bool) (left rest : List ℕ) (v f m : ℕ)
    → IsValid P → f < length P.files → slice_index_or left f 0 ≡ 1 → is_kept P f ≡ false
    → maker_of P f ≡ Some m → (is_marked over m ≡ true → S.complete m ≡ true)
    → IsLoaded P S over left rest v
    → IsLoaded P S over (slice_set left f 0) rest (v - S.bytes f)
other-loaded P S over left rest v f m valid inside one unkept made unpassed loaded =
    let now : ℕ → Bool = is_left_by P (slice_set left f 0) in
    let drop : IsDrop f (is_left_by P left) now =
    is-drop P left f (omega (arith, inside, loaded.files)) one unkept in
    record {
      rules = loaded.rules;
      files = length-set left f 0 ∙ loaded.files;
      rests = loaded.rests;
      bounds = λ r undone passed. loaded.bounds r undone passed
          ∙ sym (bounds-other P f m r (is_left_by P left) now valid drop made
          (λ same. true≢false (sym (unpassed (ap (is_marked over) same ∙ passed))
          ∙ ap S.complete same ∙ undone)));
      load = omega (
        arith,
        other-load P S over left rest v f m valid inside one unkept made unpassed loaded,
      );
    }

-- What a passed maker has beside it before and after one of its files is dropped.
pub record IsCut (P : Plan) (S : Standing) (over : List Bool) (left : List ℕ) (v f m before : ℕ)
    : Type 0 where
  pub bound : before ≡ bounds_left P (is_left_by P (slice_set left f 0)) m + bound_of P f
  pub load : v + min (rule_bound P m) (bounds_left P (is_left_by P (slice_set left f 0)) m)
      ≡ load_by P S (is_marked over) (is_left_by P (slice_set left f 0))
      + min (rule_bound P m) before + S.bytes f

passed_share : (c p k : Bool) (b m : ℕ) → c ≡ false → p ≡ true
    → cond c 0 (cond p (min b m) (cond k b 0)) ≡ min b m
passed_share true p k b m undone passed = absurd (true≢false undone)
passed_share false true k b m undone passed = refl
passed_share false false k b m undone passed = absurd (true≢false (sym passed))

pub is-cut : (P : Plan) (S : Standing) (over : List Bool) (left rest : List ℕ) (v f m : ℕ)
    → IsValid P → f < length P.files → slice_index_or left f 0 ≡ 1 → is_kept P f ≡ false
    → maker_of P f ≡ Some m → is_marked over m ≡ true → S.complete m ≡ false
    → IsLoaded P S over left rest v → IsCut P S over left v f m (slice_index_or rest m 0)
is-cut P S over left rest v f m valid inside one unkept made passed undone loaded =
    let old : ℕ → Bool = is_left_by P left in
    let now : ℕ → Bool = is_left_by P (slice_set left f 0) in
    let drop : IsDrop f old now =
    is-drop P left f (omega (arith, inside, loaded.files)) one unkept in
    let here : slice_index_or rest m 0 ≡ bounds_left P old m = loaded.bounds m undone passed in
    let was : share_by P S (is_marked over) old m ≡ min (rule_bound P m) (slice_index_or rest m 0) =
    passed_share (S.complete m) (is_marked over m) (S.claimed m) (rule_bound P m)
    (bounds_left P old m) undone passed ∙ ap (min (rule_bound P m)) (sym here) in
    let is : share_by P S (is_marked over) now m ≡ min (rule_bound P m) (bounds_left P now m) =
    passed_share (S.complete m) (is_marked over m) (S.claimed m) (rule_bound P m)
    (bounds_left P now m) undone passed in
    record {
      bound = here ∙ bounds-maker P f m old now valid drop inside made;
      load = omega (
        arith,
        loaded.load,
        was,
        is,
        load-dropped P S (is_marked over) old now f m valid drop inside made,
      );
    }

-- a file of a passed maker is dropped
pub passed-loaded : (P : Plan) (S : Standing) (over : List Bool) (left rest : List ℕ)
    (v f m after w : ℕ)
    → IsValid P → f < length P.files → slice_index_or left f 0 ≡ 1 → is_kept P f ≡ false
    → maker_of P f ≡ Some m → IsLoaded P S over left rest v
    → after ≡ bounds_left P (is_left_by P (slice_set left f 0)) m
    → w ≡ load_by P S (is_marked over) (is_left_by P (slice_set left f 0))
    → IsLoaded P S over (slice_set left f 0) (slice_set rest m after) w
passed-loaded P S over left rest v f m after w valid inside one unkept made loaded cut load =
    let now : ℕ → Bool = is_left_by P (slice_set left f 0) in
    let drop : IsDrop f (is_left_by P left) now =
    is-drop P left f (omega (arith, inside, loaded.files)) one unkept in
    let place : m < length rest =
    omega (arith, maker-inside P f m valid inside made, loaded.rests) in
    record {
      rules = loaded.rules;
      files = length-set left f 0 ∙ loaded.files;
      rests = length-set rest m after ∙ loaded.rests;
      bounds = λ r undone passed. by_rule drop place r undone passed (m == r) refl;
      load = load;
    }
  where
    by_rule : IsDrop f (is_left_by P left) (is_left_by P (slice_set left f 0)) → m < length rest
        → (r : ℕ) → S.complete r ≡ false → is_marked over r ≡ true → (b : Bool) → (m == r) ≡ b
        → slice_index_or (slice_set rest m after) r 0
        ≡ bounds_left P (is_left_by P (slice_set left f 0)) r
    by_rule drop place r undone passed true same =
        let one : m ≡ r = eqb-true m r same in
        ap (λ n. slice_index_or (slice_set rest m after) n 0) (sym one)
        ∙ get_or-set_same rest m after 0 place ∙ cut
        ∙ ap (bounds_left P (is_left_by P (slice_set left f 0))) one
    by_rule drop place r undone passed false other =
        get_or-set_other rest m r after 0 (λ same. eqb-false m r other (sym same))
        ∙ loaded.bounds r undone passed
        ∙ sym (bounds-other P f m r (is_left_by P left) (is_left_by P (slice_set left f 0)) valid
        drop made (eqb-false m r other))

-- the file is left before and after
pub kept-left : (P : Plan) (left : List ℕ) (f n : ℕ) → f < length left
    → (is_kept P f ≡ true) → (g : ℕ)
    → is_left_by P (slice_set left f n) g ≡ is_left_by P left g
kept-left P left f n inside kept g = by_file (f == g) refl
  where
    by_file : (b : Bool) → (f == g) ≡ b
        → is_left_by P (slice_set left f n) g ≡ is_left_by P left g
    by_file true same =
        let is : is_kept P g ≡ true = ap (is_kept P) (sym (eqb-true f g same)) ∙ kept in
        ap (λ b. b || not (slice_index_or (slice_set left f n) g 0 == 0)) is
        ∙ sym (ap (λ b. b || not (slice_index_or left g 0 == 0)) is)
    by_file false other = ap (λ m. is_kept P g || not (m == 0))
        (get_or-set_other left f g n 0 (λ same. eqb-false f g other (sym same)))

not_zero : (n : ℕ) → 1 ≤ n → (n == 0) ≡ false
not_zero n some = false_from_ne_true (n == 0)
    (λ none. let is : n ≡ 0 = eqb-true n 0 none in let no_way : ⊥ = omega (arith, some, is)
    in no_way)

pub counted-left : (P : Plan) (left : List ℕ) (f n : ℕ) → f < length left
    → 1 ≤ slice_index_or left f 0 → 1 ≤ n → (g : ℕ)
    → is_left_by P (slice_set left f n) g ≡ is_left_by P left g
counted-left P left f n inside some more g = by_file (f == g) refl
  where
    by_file : (b : Bool) → (f == g) ≡ b
        → is_left_by P (slice_set left f n) g ≡ is_left_by P left g
    by_file true same =
        let one : f ≡ g = eqb-true f g same in
        ap (λ b. is_kept P g || not b)
        (ap (λ k. slice_index_or (slice_set left f n) k 0 == 0) (sym one)
        ∙ ap (λ m. m == 0) (get_or-set_same left f n 0 inside) ∙ not_zero n more
        ∙ sym (ap (λ k. slice_index_or left k 0 == 0) (sym one)
        ∙ not_zero (slice_index_or left f 0) some))
    by_file false other = ap (λ m. is_kept P g || not (m == 0))
        (get_or-set_other left f g n 0 (λ same. eqb-false f g other (sym same)))

-- Where no file is dropped, one port less changes nothing.
pub same-loaded : (P : Plan) (S : Standing) (over : List Bool) (left rest : List ℕ) (v f n : ℕ)
    → IsLoaded P S over left rest v
    → ((g : ℕ) → is_left_by P (slice_set left f n) g ≡ is_left_by P left g)
    → IsLoaded P S over (slice_set left f n) rest v
same-loaded P S over left rest v f n loaded same = record {
  rules = loaded.rules;
  files = length-set left f n ∙ loaded.files;
  rests = loaded.rests;
  bounds = λ r undone passed. loaded.bounds r undone passed
      ∙ sym (bounds-same P (is_left_by P left) (is_left_by P (slice_set left f n)) r same);
  load = loaded.load
      ∙ sym (load-same P S (is_marked over) (is_left_by P left) (is_left_by P (slice_set left f n))
      same);
}

-- what a claimed rule counts as can be taken off
pub claim-in : (P : Plan) (S : Standing) (over : List Bool) (left rest : List ℕ) (v r : ℕ)
    → r < length P.rules → is_marked over r ≡ false → IsLoaded P S over left rest v
    → claim_share P S r ≤ v
claim-in P S over left rest v r inside fresh loaded =
    omega (
      arith,
      loaded.load,
      share-in P S (is_marked over) (is_left_by P left) r inside,
      share-open P S (is_marked over) (is_left_by P left) r fresh,
    )

-- the load is small
pub loaded-small : (P : Plan) (S : Standing) (over : List Bool) (left rest : List ℕ) (v : ℕ)
    → IsValid P → ((f : ℕ) → S.bytes f ≤ most_bytes) → IsLoaded P S over left rest v
    → v ≤ most_files * most_bytes + most_rules * most_bytes
loaded-small P S over left rest v valid small loaded =
    omega (
      arith,
      loaded.load,
      load-small P S (is_marked over) (is_left_by P left) valid small,
    )

-- A rule is passed, and its outputs count in its place.
pub outputs-loaded : (P : Plan) (S : Standing) (over : List Bool) (left rest : List ℕ) (v w r n : ℕ)
    → r < length P.rules → is_marked over r ≡ false → S.complete r ≡ false
    → n ≡ bounds_left P (is_left_by P left) r
    → w + claim_share P S r ≡ v + min (rule_bound P r) n → IsLoaded P S over left rest v
    → IsLoaded P S (slice_set over r true) left (slice_set rest r n) w
outputs-loaded P S over left rest v w r n inside fresh undone here load loaded =
    let share : min (rule_bound P r) n
    ≡ min (rule_bound P r) (bounds_left P (is_left_by P left) r) =
    ap (min (rule_bound P r)) here in
    record {
      rules = length-set over r true ∙ loaded.rules;
      files = loaded.files;
      rests = length-set rest r n ∙ loaded.rests;
      bounds = λ q unfinished passed. by_rule q unfinished passed (r == q) refl;
      load = omega (
        arith,
        load,
        share,
        loaded.load,
        load-passed P S over (is_left_by P left) r inside loaded.rules fresh undone,
      );
    }
  where
    by_rule : (q : ℕ) → S.complete q ≡ false → is_marked (slice_set over r true) q ≡ true
        → (b : Bool) → (r == q) ≡ b
        → slice_index_or (slice_set rest r n) q 0 ≡ bounds_left P (is_left_by P left) q
    by_rule q unfinished passed true same =
        let one : r ≡ q = eqb-true r q same in
        ap (λ k. slice_index_or (slice_set rest r n) k 0) (sym one)
        ∙ get_or-set_same rest r n 0 (omega (arith, inside, loaded.rests)) ∙ here
        ∙ ap (bounds_left P (is_left_by P left)) one
    by_rule q unfinished passed false other =
        get_or-set_other rest r q n 0 (λ same. eqb-false r q other (sym same))
        ∙ loaded.bounds q unfinished
        (sym (get_or-set_other over r q true false (λ same. eqb-false r q other (sym same)))
        ∙ passed)

-- What the load was, by what is taken off it.
pub cut-load : (P : Plan) (S : Standing) (over : List Bool) (left : List ℕ)
    (v f m before bytes n b x y : ℕ) → IsCut P S over left v f m before → n ≡ bound_of P f
    → b ≡ rule_bound P m → x ≡ min b before → y ≡ min b (before - n) → bytes ≡ S.bytes f
    → v ≡ load_by P S (is_marked over) (is_left_by P (slice_set left f 0)) + (bytes + (x - y))
cut-load P S over left v f m before bytes n b x y cut bound rule first second size =
    let now : ℕ = bounds_left P (is_left_by P (slice_set left f 0)) m in
    let after : before - n ≡ now = omega (arith, cut.bound, bound) in
    let greater : x ≡ min (rule_bound P m) before = first ∙ ap (λ k. min k before) rule in
    let lesser : y ≡ min (rule_bound P m) now =
    second ∙ ap (min b) after ∙ ap (λ k. min k now) rule in
    let less : y ≤ x = omega (arith, greater, lesser, cut.bound) in
    omega (arith, cut.load, greater, lesser, less, size)

-- One port less of a file that is kept or has another.
pub stays-loaded : (P : Plan) (S : Standing) (over : List Bool) (left rest : List ℕ) (v f x : ℕ)
    → f < length P.files → x ≡ slice_index_or left f 0
    → (is_kept P f || nat_lt 1 (slice_index_or left f 0)) ≡ true
    → IsLoaded P S over left rest v → IsLoaded P S over (slice_set left f (x - 1)) rest v
stays-loaded P S over left rest v f x inside read stays loaded =
    by_kept (is_kept P f) refl stays
  where
    place : f < length left
    place = omega (arith, inside, loaded.files)

    by_kept : (b : Bool) → is_kept P f ≡ b → (b || nat_lt 1 (slice_index_or left f 0)) ≡ true
        → IsLoaded P S over (slice_set left f (x - 1)) rest v
    by_kept true kept stays = same-loaded P S over left rest v f (x - 1) loaded
        (kept-left P left f (x - 1) place kept)
    by_kept false unkept stays =
        let more : 1 < slice_index_or left f 0 = ltb-true 1 (slice_index_or left f 0) stays in
        same-loaded P S over left rest v f (x - 1) loaded
        (counted-left P left f (x - 1) place (omega (arith, more)) (omega (arith, more, read)))

-- the ports of a rule that isn't marked were counted
pub ports-counted : (P : Plan) (over : List Bool) (left ports : List ℕ) (r f : ℕ)
    → r < length P.rules → length over ≡ length P.rules → is_marked over r ≡ false
    → ports ≡ takes P r → slice_index_or left f 0 ≡ waiting (counting P over) f
    → times f ports ≤ slice_index_or left f 0
ports-counted P over left ports r f inside long fresh are counted =
    let same : times f ports ≡ times f (takes P r) = ap (times f) are in
    omega (arith, counted, same, made-ports (counting P over) f r inside long fresh)

-- The counters of a walk that has passed one rule more.
pub passed-walk : (P : Plan) (S : Standing) (before after : Counters) (ports : List ℕ) (r : ℕ)
    → r < length P.rules → is_marked before.over.items r ≡ false → ports ≡ takes P r
    → IsWalk P S before → after.over.items ≡ slice_set before.over.items r true
    → ((f : ℕ) → slice_index_or after.left.items f 0 + times f ports
    ≡ slice_index_or before.left.items f 0)
    → IsLoaded P S after.over.items after.left.items after.rest.items after.load
    → IsWalk P S after
passed-walk P S before after ports r inside fresh are walk over counted loaded = record {
  complete = λ q done. ap (λ (marks : List Bool). is_marked marks q) over
      ∙ by_rule q (walk.complete q done) (r == q) refl;
  counts = λ f.
      let same : times f ports ≡ times f (takes P r) = ap (times f) are in
      let fewer : slice_index_or after.left.items f 0
      ≡ waiting (with_rule (counting P before.over.items) r) f =
      omega (
        arith,
        counted f,
        walk.counts f,
        same,
        made-ports (counting P before.over.items) f r inside walk.loaded.rules fresh,
      ) in
      fewer ∙ sym (ap (λ (marks : List Bool). waiting (counting P marks) f) over);
  loaded = loaded;
}
  where
    by_rule : (q : ℕ) → is_marked before.over.items q ≡ true → (b : Bool) → (r == q) ≡ b
        → is_marked (slice_set before.over.items r true) q ≡ true
    by_rule q marked true same =
        ap (λ k. is_marked (slice_set before.over.items r true) k) (sym (eqb-true r q same))
        ∙ get_or-set_same before.over.items r true false (omega (arith, inside, walk.loaded.rules))
    by_rule q marked false other =
        get_or-set_other before.over.items r q true false (λ same. eqb-false r q other (sym same))
        ∙ marked
