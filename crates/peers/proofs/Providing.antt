-- What was put before a task was said.
use Rattle.std.proofs.Common.{◌≡◌, ◌⊎◌, inl, inr, ℕ, zero, suc, ◌-◌, Bool, true, false, List, [], ◌∷◌, ◌++◌, length, take, Option, Some, None, refl, sym, ap, ◌∙◌, subst, append_assoc}
use Rattle.std.specs.Prelude.{◌==◌, ◌&&◌, ◌||◌, IsTrue, if◌then◌else◌, position, slice_get, slice_index_or, slice_set, nat_lt}
use Rattle.std.specs.List.{AllByRecursion, swap_remove}
use Rattle.std.specs.Option.{option_map_or}
use Rattle.std.proofs.lemmas.Bool.{eqb-true}
use Rattle.flow_types.specs.declared.job.Outcome.{Outcome}
use Rattle.flow_types.specs.declared.job.Task.{Task}
use Rattle.flow_types.specs.declared.messages.Key.{Key}
use Rattle.flow_types.specs.declared.messages.Message.{Message}
use Rattle.flow_types.specs.declared.messages.Message.TheVariants as messages
use Rattle.flow_types.specs.declared.numbers.AttemptNo.{AttemptNo}
use Rattle.flow_types.specs.declared.numbers.FileNo.{FileNo}
use Rattle.flow_types.specs.declared.plan.Port.{Port}
use Rattle.flow_types.specs.Plans.{contains_number, files_of}
use Rattle.links.specs.Honesty.{key_of}
use Rattle.link_session.specs.declared.open.Open.{Open}
use Rattle.link_session.specs.declared.session.Stage.{Stage}
use Rattle.link_session.specs.declared.session.Stage.TheVariants as stages
use Rattle.link_session.specs.Fits.{has_all, outcome_fits}
use Rattle.link_session.specs.Keys as session
use Rattle.link_session.specs.Keys.{all_forgotten, contains_key, forgotten, lacking, learned, same_key}
use Rattle.link_session.specs.Sessions.{State, ended_at, ended_by, greets, hears, lacked_at, lacked_by, most_misses, place, told_by}
use Rattle.message_forms.specs.Streams.{IsAmong}
use Rattle.peers.specs.Provides.{IsOneOf, IsPut, IsPutOrLeft, Provides, ProvidesAgain, ProvidesAsked, ProvidesDropped, ProvidesFirst, ProvidesHeard, ProvidesOpened, ProvidesPut, ProvidesSaid, WasProvided, keys_of}
use Rattle.peers.proofs.Serving.{among_last, among_left, among_or}

-- ---- keys

both_true : (a b : Bool) → (a && b) ≡ true → (a ≡ true) × (b ≡ true)
both_true true b e = (refl, e)
both_true false b e = absurd (let wrong : ⊥ = cc in wrong)

abbrev with_run : FileNo → ℕ → Key
with_run file run = record { run = run; file = file }

abbrev with_file : ℕ → ℕ → Key
with_file run n = record { run = run; file = record { 0 = n } }

key_is : (a b : Key) → same_key a b ≡ true → a ≡ b
key_is a b e =
    let p = both_true (a.run == b.run) (a.file.0 == b.file.0) e in
    ap (with_run a.file) (eqb-true a.run b.run p.0) ∙ ap (with_file b.run) (eqb-true a.file.0 b.file.0 p.1)

one_by : (key k : Key) (ks : List Key) (b : Bool) → same_key key k ≡ b → (b || contains_key key ks) ≡ true → (contains_key key ks ≡ true → IsOneOf key ks) → IsOneOf key (k ∷ ks)
one_by key k ks true e is later = inl (key_is key k e)
one_by key k ks false e is later = inr (later is)

one_of : (key : Key) (ks : List Key) → contains_key key ks ≡ true → IsOneOf key ks
one_of key [] is = absurd (let wrong : ⊥ = cc in wrong)
one_of key (k ∷ ks) is = one_by key k ks (same_key key k) refl is (λ later. one_of key ks later)

one_left : (key : Key) (xs ys : List Key) → IsOneOf key xs → IsOneOf key (xs ++ ys)
one_left key [] ys is = absurd is
one_left key (x ∷ xs) ys (inl same) = inl same
one_left key (x ∷ xs) ys (inr later) = inr (one_left key xs ys later)

one_last : (key : Key) (xs : List Key) → IsOneOf key (xs ++ key ∷ [])
one_last key [] = inl refl
one_last key (x ∷ xs) = inr (one_last key xs)

one_has : (P : Key → Type 0) (key : Key) (ks : List Key) → AllByRecursion P ks → IsOneOf key ks → P key
one_has P key [] all is = absurd is
one_has P key (k ∷ ks) all (inl same) = subst P (sym same) all.0
one_has P key (k ∷ ks) all (inr later) = one_has P key ks all.1 later

each_map : (P Q : Key → Type 0) → ((key : Key) → P key → Q key) → (ks : List Key) → AllByRecursion P ks → AllByRecursion Q ks
each_map P Q step [] all = tt
each_map P Q step (k ∷ ks) all = (step k all.0, each_map P Q step ks all.1)

each_more : (P : Key → Type 0) (ks : List Key) (k : Key) → AllByRecursion P ks → P k → AllByRecursion P (ks ++ k ∷ [])
each_more P [] k all is = (is, tt)
each_more P (x ∷ ks) k all is = (all.0, each_more P ks k all.1 is)

-- ---- keys that are learned

stays_by : (key : Key) (known : List Key) (run : ℕ) (port : Port) (ports : List Port) (b : Bool) → IsOneOf key known → ((more : List Key) → IsOneOf key more → IsOneOf key (learned more run ports))
    → IsOneOf key (if b then learned known run ports else learned (known ++ session.key_of run port.file ∷ []) run ports)
stays_by key known run port ports true is later = later known is
stays_by key known run port ports false is later = later (known ++ session.key_of run port.file ∷ []) (one_left key known (session.key_of run port.file ∷ []) is)

stays_learned : (key : Key) (run : ℕ) (ports : List Port) (known : List Key) → IsOneOf key known → IsOneOf key (learned known run ports)
stays_learned key run [] known is = is
stays_learned key run (port ∷ ports) known is =
    stays_by key known run port ports (contains_key (session.key_of run port.file) known) is (λ more one. stays_learned key run ports more one)

-- an input's key is known
first_learned : (known : List Key) (run : ℕ) (port : Port) (ports : List Port) (b : Bool) → contains_key (session.key_of run port.file) known ≡ b
    → IsOneOf (session.key_of run port.file) (if b then learned known run ports else learned (known ++ session.key_of run port.file ∷ []) run ports)
first_learned known run port ports true e = stays_learned (session.key_of run port.file) run ports known (one_of (session.key_of run port.file) known e)
first_learned known run port ports false e =
    stays_learned (session.key_of run port.file) run ports (known ++ session.key_of run port.file ∷ []) (one_last (session.key_of run port.file) known)

key_at : (run f : ℕ) (port : Port) → (port.file.0 == f) ≡ true → session.key_of run port.file ≡ key_of run f
key_at run f port e = ap (with_file run) (eqb-true port.file.0 f e)

learned_or : (known : List Key) (run f : ℕ) (port : Port) (ports : List Port) (t : Bool) → (port.file.0 == f) ≡ t → (t || contains_number f (files_of ports)) ≡ true
    → ((more : List Key) → contains_number f (files_of ports) ≡ true → IsOneOf (key_of run f) (learned more run ports)) → IsOneOf (key_of run f) (learned known run (port ∷ ports))
learned_or known run f port ports true e is later =
    subst (λ (k : Key). IsOneOf k (learned known run (port ∷ ports))) (key_at run f port e)
    (first_learned known run port ports (contains_key (session.key_of run port.file) known) refl)
learned_or known run f port ports false e is later = by (contains_key (session.key_of run port.file) known)
  where
    by : (b : Bool) → IsOneOf (key_of run f) (if b then learned known run ports else learned (known ++ session.key_of run port.file ∷ []) run ports)
    by true = later known is
    by false = later (known ++ session.key_of run port.file ∷ []) is

has_learned : (run f : ℕ) (ports : List Port) (known : List Key) → contains_number f (files_of ports) ≡ true → IsOneOf (key_of run f) (learned known run ports)
has_learned run f [] known is = absurd (let wrong : ⊥ = cc in wrong)
has_learned run f (port ∷ ports) known is = learned_or known run f port ports (port.file.0 == f) refl is (λ more later. has_learned run f ports more later)

-- what is so of the known keys and of those that were lacking is so of all
each_by : (P : Key → Type 0) (run : ℕ) (port : Port) (ports : List Port) (known : List Key) (b : Bool) → AllByRecursion P known
    → ((key : Key) → IsOneOf key (keys_of run (if b then lacking known run ports else port.file ∷ lacking (known ++ session.key_of run port.file ∷ []) run ports)) → P key)
    → ((more : List Key) → AllByRecursion P more → ((key : Key) → IsOneOf key (keys_of run (lacking more run ports)) → P key) → AllByRecursion P (learned more run ports))
    → AllByRecursion P (if b then learned known run ports else learned (known ++ session.key_of run port.file ∷ []) run ports)
each_by P run port ports known true all has later = later known all has
each_by P run port ports known false all has later =
    let k = session.key_of run port.file in
    later (known ++ k ∷ []) (each_more P known k all (has k (inl refl))) (λ key is. has key (inr is))

each_learned : (P : Key → Type 0) (run : ℕ) (ports : List Port) (known : List Key) → AllByRecursion P known
    → ((key : Key) → IsOneOf key (keys_of run (lacking known run ports)) → P key) → AllByRecursion P (learned known run ports)
each_learned P run [] known all has = all
each_learned P run (port ∷ ports) known all has =
    each_by P run port ports known (contains_key (session.key_of run port.file) known) all has (λ more every left. each_learned P run ports more every left)

-- ---- keys that are forgotten

each_take : (P : Key → Type 0) (n : ℕ) (ks : List Key) → AllByRecursion P ks → AllByRecursion P (take n ks)
each_take P zero ks all = tt
each_take P (suc n) [] all = tt
each_take P (suc n) (k ∷ ks) all = (all.0, each_take P n ks all.1)

each_set : (P : Key → Type 0) (ks : List Key) (at : ℕ) (k : Key) → P k → AllByRecursion P ks → AllByRecursion P (slice_set ks at k)
each_set P [] zero k is all = tt
each_set P [] (suc at) k is all = tt
each_set P (x ∷ ks) zero k is all = (is, all.1)
each_set P (x ∷ ks) (suc at) k is all = (all.0, each_set P ks at k is all.1)

each_or : (P : Key → Type 0) (ks : List Key) (at : ℕ) (k : Key) → P k → AllByRecursion P ks → P (slice_index_or ks at k)
each_or P [] zero k is all = is
each_or P [] (suc at) k is all = is
each_or P (x ∷ ks) zero k is all = all.0
each_or P (x ∷ ks) (suc at) k is all = each_or P ks at k is all.1

each_removed : (P : Key → Type 0) (ks : List Key) (at : ℕ) (k : Key) → P k → AllByRecursion P ks → AllByRecursion P (swap_remove ks at k)
each_removed P ks at k is all =
    each_take P (length ks - 1) (slice_set ks at (slice_index_or ks (length ks - 1) k)) (each_set P ks at (slice_index_or ks (length ks - 1) k) (each_or P ks (length ks - 1) k is all) all)

removed_at : (P : Key → Type 0) (x : Key) (ks : List Key) (p : Option ℕ) → AllByRecursion P (x ∷ ks) → AllByRecursion P (option_map_or (λ i. swap_remove (x ∷ ks) i x) p (x ∷ ks))
removed_at P x ks None all = all
removed_at P x ks (Some at) all = each_removed P (x ∷ ks) at x all.0 all

each_forgotten : (P : Key → Type 0) (known : List Key) (key : Key) → AllByRecursion P known → AllByRecursion P (forgotten known key)
each_forgotten P [] key all = tt
each_forgotten P (x ∷ known) key all = removed_at P x known (position (same_key key) (x ∷ known)) all

each_all_forgotten : (P : Key → Type 0) (known : List Key) (run : ℕ) (files : List FileNo) → AllByRecursion P known → AllByRecursion P (all_forgotten known run files)
each_all_forgotten P known run [] all = all
each_all_forgotten P known run (file ∷ files) all =
    each_all_forgotten P (forgotten known (session.key_of run file)) run files (each_forgotten P known (session.key_of run file) all)

-- ---- what a message makes of the known keys

module _ (P : Key → Type 0) (s : State) (all : AllByRecursion P s.known) where
  fitting : (attempt : AttemptNo) (outcome : Outcome) (at : ℕ) (o : Open) (b : Bool) → outcome_fits o.bounds outcome ≡ b → AllByRecursion P (ended_by s attempt outcome at (Some o)).state.known
  fitting attempt outcome at o true e = rw e all
  fitting attempt outcome at o false e = rw e all

  ending : (attempt : AttemptNo) (outcome : Outcome) (at : ℕ) (p : Option Open) → AllByRecursion P (ended_by s attempt outcome at p).state.known
  ending attempt outcome at None = all
  ending attempt outcome at (Some o) = fitting attempt outcome at o (outcome_fits o.bounds outcome) refl

  ended : (attempt : AttemptNo) (outcome : Outcome) (p : Option ℕ) → AllByRecursion P (ended_at s attempt outcome p).state.known
  ended attempt outcome None = all
  ended attempt outcome (Some at) = ending attempt outcome at (slice_get s.attempts at)

  lacking_few : (attempt : AttemptNo) (files : List FileNo) (at : ℕ) (o : Open) (a few : Bool) → has_all o.files files ≡ a → nat_lt o.misses most_misses ≡ few
      → AllByRecursion P (lacked_by s attempt files at (Some o)).state.known
  lacking_few attempt files at o true true e f = rw (e, f) all
  lacking_few attempt files at o true false e f = rw (e, f) (each_all_forgotten P s.known o.run files all)
  lacking_few attempt files at o false few e f = rw e all

  lacking_of : (attempt : AttemptNo) (files : List FileNo) (at : ℕ) (p : Option Open) → AllByRecursion P (lacked_by s attempt files at p).state.known
  lacking_of attempt files at None = all
  lacking_of attempt files at (Some o) = lacking_few attempt files at o (has_all o.files files) (nat_lt o.misses most_misses) refl refl

  lacked : (attempt : AttemptNo) (files : List FileNo) (p : Option ℕ) → AllByRecursion P (lacked_at s attempt files p).state.known
  lacked attempt files None = all
  lacked attempt files (Some at) = lacking_of attempt files at (slice_get s.attempts at)

  hearing : (m : Message) → AllByRecursion P (hears s m).state.known
  hearing (messages.Done attempt outcome) = ended attempt outcome (place attempt s.attempts)
  hearing (messages.Missing attempt files) = lacked attempt files (place attempt s.attempts)
  hearing (messages.Totals total largest cache) = all
  hearing (messages.Hello total largest cache) = all
  hearing (messages.Put key content) = all
  hearing (messages.Task task) = all
  hearing (messages.Cancel attempt) = all
  hearing (messages.Unlink key) = all
  hearing messages.Bye = all

  greeting : (m : Message) → AllByRecursion P (greets s m).state.known
  greeting (messages.Hello total largest cache) = all
  greeting (messages.Done attempt outcome) = all
  greeting (messages.Missing attempt files) = all
  greeting (messages.Totals total largest cache) = all
  greeting (messages.Put key content) = all
  greeting (messages.Task task) = all
  greeting (messages.Cancel attempt) = all
  greeting (messages.Unlink key) = all
  greeting messages.Bye = all

  telling : (m : Message) (stage : Stage) → AllByRecursion P (told_by s m stage).state.known
  telling m stages.New = greeting m
  telling m stages.Greeted = hearing m
  telling m stages.Broken = all

-- ---- the laws

none_waits : (t : Task) → (let none : Option Task = None in none) ≡ Some t → ⊥
none_waits t e = cc

no_task : (t : Task) → IsAmong (messages.Task t) [] → ⊥
no_task t is = is

pub provides_first : ProvidesFirst
provides_first = record { put_or_left = tt; waits = λ t is f has. absurd (none_waits t is); provided = λ t is. absurd is }

or_left : (said : List Message) (left : List Key) (key : Key) → IsPutOrLeft said [] key → IsPutOrLeft said left key
or_left said left key (inl is) = inl is
or_left said left key (inr none) = absurd none

same_task : (x y : Task) → (let a : Option Task = Some x in a) ≡ Some y → x ≡ y
same_task x y e = cc

pub provides_opened : ProvidesOpened
provides_opened known said t p =
    let left = keys_of t.run (lacking known t.run t.inputs) in
    record {
      put_or_left =
          each_learned (IsPutOrLeft said left) t.run t.inputs known (each_map (IsPutOrLeft said []) (IsPutOrLeft said left) (λ key is. or_left said left key is) known p.put_or_left)
          (λ key is. inr is);
      waits = λ u is f has.
          subst (λ (x : Task). IsTrue (contains_number f (files_of x.inputs)) → IsOneOf (key_of x.run f) (learned known t.run t.inputs)) (same_task t u is)
          (λ mine. has_learned t.run f t.inputs known mine) has;
      provided = p.provided;
    }

more_put : (said : List Message) (m : Message) (left : List Key) (key : Key) → IsPutOrLeft said left key → IsPutOrLeft (said ++ m ∷ []) left key
more_put said m left key (inl is) = inl (is.0, among_left (messages.Put key is.0) said (m ∷ []) is.1)
more_put said m left key (inr is) = inr is

more_provided : (said : List Message) (m : Message) (t : Task) → WasProvided said t → WasProvided (said ++ m ∷ []) t
more_provided said m t w = record {
  before = w.before;
  after = w.after ++ m ∷ [];
  row = ap (λ (ms : List Message). ms ++ m ∷ []) w.row ∙ append_assoc w.before (messages.Task t ∷ w.after) (m ∷ []);
  inputs = w.inputs;
}

still_among : (said : List Message) (m : Message) (t : Task) → (messages.Task t ≡ m → ⊥) → IsAmong (messages.Task t) said ⊎ (messages.Task t ≡ m) → IsAmong (messages.Task t) said
still_among said m t none (inl is) = is
still_among said m t none (inr same) = absurd (none same)

pub provides_said : ProvidesSaid
provides_said known left said waiting m none p = record {
  put_or_left = each_map (IsPutOrLeft said left) (IsPutOrLeft (said ++ m ∷ []) left) (λ key is. more_put said m left key is) known p.put_or_left;
  waits = p.waits;
  provided = λ t is. more_provided said m t (p.provided t (still_among said m t (none t) (among_or (messages.Task t) m said is)));
}

now_put : (said : List Message) (key k : Key) (content : List ℕ) (left : List Key) → IsPutOrLeft said (key ∷ left) k → IsPutOrLeft (said ++ messages.Put key content ∷ []) left k
now_put said key k content left (inl is) = inl (is.0, among_left (messages.Put k is.0) said (messages.Put key content ∷ []) is.1)
now_put said key k content left (inr (inl same)) =
    inl (content, subst (λ (x : Key). IsAmong (messages.Put x content) (said ++ messages.Put key content ∷ [])) (sym same) (among_last (messages.Put key content) said))
now_put said key k content left (inr (inr is)) = inr is

pub provides_put : ProvidesPut
provides_put known left said waiting key content p = record {
  put_or_left = each_map (IsPutOrLeft said (key ∷ left)) (IsPutOrLeft (said ++ messages.Put key content ∷ []) left) (λ k is. now_put said key k content left is) known p.put_or_left;
  waits = p.waits;
  provided = λ t is. let m = messages.Put key content in more_provided said m t (p.provided t (still_among said m t (λ e. let wrong : ⊥ = cc in wrong) (among_or (messages.Task t) m said is)));
}

just_put : (said : List Message) (key : Key) → IsPutOrLeft said [] key → IsPut said key
just_put said key (inl is) = is
just_put said key (inr none) = absurd none

one_task : (x y : Task) → messages.Task x ≡ messages.Task y → x ≡ y
one_task x y e = cc

asked_or : (known : List Key) (said : List Message) (t u : Task) → Provides known said (Some t) [] → IsAmong (messages.Task u) said ⊎ (messages.Task u ≡ messages.Task t) → WasProvided (said ++ messages.Task t ∷ []) u
asked_or known said t u p (inl is) = more_provided said (messages.Task t) u (p.provided u is)
asked_or known said t u p (inr same) =
    subst (WasProvided (said ++ messages.Task t ∷ [])) (sym (one_task u t same)) (record {
      before = said;
      after = [];
      row = refl;
      inputs = λ f has. just_put said (key_of t.run f) (one_has (IsPutOrLeft said []) (key_of t.run f) known p.put_or_left (p.waits t refl f has));
    })

pub provides_asked : ProvidesAsked
provides_asked known said t p = record {
  put_or_left = each_map (IsPutOrLeft said []) (IsPutOrLeft (said ++ messages.Task t ∷ []) []) (λ key is. more_put said (messages.Task t) [] key is) known p.put_or_left;
  waits = λ u is f has. absurd (none_waits u is);
  provided = λ u is. asked_or known said t u p (among_or (messages.Task u) (messages.Task t) said is);
}

again_or : (said : List Message) (t u : Task) → IsAmong (messages.Task t) said → IsAmong (messages.Task u) said ⊎ (messages.Task u ≡ messages.Task t) → IsAmong (messages.Task u) said
again_or said t u ours (inl is) = is
again_or said t u ours (inr same) = subst (λ (m : Message). IsAmong m said) (sym same) ours

pub provides_again : ProvidesAgain
provides_again known said t ours p = record {
  put_or_left = each_map (IsPutOrLeft said []) (IsPutOrLeft (said ++ messages.Task t ∷ []) []) (λ key is. more_put said (messages.Task t) [] key is) known p.put_or_left;
  waits = λ u is f has. absurd (none_waits u is);
  provided = λ u is. more_provided said (messages.Task t) u (p.provided u (again_or said t u ours (among_or (messages.Task u) (messages.Task t) said is)));
}

pub provides_heard : ProvidesHeard
provides_heard s said m p =
    record { put_or_left = telling (IsPutOrLeft said []) s p.put_or_left m s.stage; waits = λ u is f has. absurd (none_waits u is); provided = p.provided }

pub provides_dropped : ProvidesDropped
provides_dropped known said key p =
    record { put_or_left = each_forgotten (IsPutOrLeft said []) known key p.put_or_left; waits = λ u is f has. absurd (none_waits u is); provided = p.provided }
