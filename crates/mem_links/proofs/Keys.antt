-- Keys that were put, and tasks that have all of their inputs.
use Rattle.std.proofs.Common.{◌≡◌, ◌⊎◌, inl, inr, ℕ, Bool, true, false, List, [], ◌∷◌, ◌++◌, refl, sym, ap, ◌∙◌, subst, append_assoc}
use Rattle.std.specs.Prelude.{◌==◌, ◌&&◌, ◌||◌}
use Rattle.std.proofs.lemmas.Bool.{eq-eqb, eqb-true}
use Rattle.flow_types.specs.declared.messages.Key.{Key}
use Rattle.flow_types.specs.declared.messages.Message.{Message}
use Rattle.flow_types.specs.declared.messages.Message.TheVariants as messages
use Rattle.flow_types.specs.declared.plan.Port.{Port}
use Rattle.flow_types.specs.Plans.{contains_number, files_of}
use Rattle.links.specs.Honesty.{key_of}
use Rattle.message_forms.specs.Streams.{IsAmong}
use Rattle.mem_links.specs.Servers.{contains_inputs, contains_key, key_put, keys_put, same_key}

-- ---- truth values

pub both_true : (a b : Bool) → (a && b) ≡ true → (a ≡ true) × (b ≡ true)
both_true true b is = (refl, is)
both_true false b is = absurd (let none : ⊥ = cc in none)

pub true_both : (a b : Bool) → a ≡ true → b ≡ true → (a && b) ≡ true
true_both true b one two = two
true_both false b one two = one

pub true_here : (a b : Bool) → a ≡ true → (a || b) ≡ true
true_here true b is = refl
true_here false b is = absurd (let none : ⊥ = cc in none)

pub true_later : (a b : Bool) → b ≡ true → (a || b) ≡ true
true_later true b is = refl
true_later false b is = is

pub either_true : (a b : Bool) → (a || b) ≡ true → (a ≡ true) ⊎ (b ≡ true)
either_true true b is = inl refl
either_true false b is = inr is

-- ---- keys

-- a key is itself
itself : (k : Key) → same_key k k ≡ true
itself k =
    true_both (k.run == k.run) (k.file.0 == k.file.0) (eq-eqb k.run k.run refl)
    (eq-eqb k.file.0 k.file.0 refl)

pub same_is : (a b : Key) → same_key a b ≡ true → a ≡ b
same_is a b is =
    let parts = both_true (a.run == b.run) (a.file.0 == b.file.0) is in
    let runs : a.run ≡ b.run = eqb-true a.run b.run parts.0 in
    let files : a.file.0 ≡ b.file.0 = eqb-true a.file.0 b.file.0 parts.1 in
    ap (λ (run : ℕ). key_of run a.file.0) runs ∙ ap (λ (f : ℕ). key_of b.run f) files

pub has_more : (k : Key) (keys more : List Key) → contains_key k keys ≡ true
    → contains_key k (keys ++ more) ≡ true
has_more k [] more is = absurd (let none : ⊥ = cc in none)
has_more k (x ∷ keys) more is =
    by (λ later. has_more k keys more later) (either_true (same_key x k) (contains_key k keys) is)
  where
    by : (contains_key k keys ≡ true → contains_key k (keys ++ more) ≡ true)
        → (same_key x k ≡ true) ⊎ (contains_key k keys ≡ true)
        → (same_key x k || contains_key k (keys ++ more)) ≡ true
    by rest (inl here) = true_here (same_key x k) (contains_key k (keys ++ more)) here
    by rest (inr later) = true_later (same_key x k) (contains_key k (keys ++ more)) (rest later)

has_behind : (k : Key) (keys more : List Key) → contains_key k more ≡ true
    → contains_key k (keys ++ more) ≡ true
has_behind k [] more is = is
has_behind k (x ∷ keys) more is =
    true_later (same_key x k) (contains_key k (keys ++ more)) (has_behind k keys more is)

has_either : (k : Key) (keys more : List Key) → contains_key k (keys ++ more) ≡ true
    → (contains_key k keys ≡ true) ⊎ (contains_key k more ≡ true)
has_either k [] more is = inr is
has_either k (x ∷ keys) more is =
    by (λ later. has_either k keys more later)
    (either_true (same_key x k) (contains_key k (keys ++ more)) is)
  where
    behind : (contains_key k keys ≡ true) ⊎ (contains_key k more ≡ true)
        → ((same_key x k || contains_key k keys) ≡ true) ⊎ (contains_key k more ≡ true)
    behind (inl one) = inl (true_later (same_key x k) (contains_key k keys) one)
    behind (inr two) = inr two

    by : (contains_key k (keys ++ more) ≡ true
        → (contains_key k keys ≡ true) ⊎ (contains_key k more ≡ true))
        → (same_key x k ≡ true) ⊎ (contains_key k (keys ++ more) ≡ true)
        → ((same_key x k || contains_key k keys) ≡ true) ⊎ (contains_key k more ≡ true)
    by rest (inl here) = inl (true_here (same_key x k) (contains_key k keys) here)
    by rest (inr later) = behind (rest later)

pub keys_append : (xs ys : List Message) → keys_put (xs ++ ys) ≡ keys_put xs ++ keys_put ys
keys_append [] ys = refl
keys_append (x ∷ xs) ys =
    ap (λ (ks : List Key). key_put x ++ ks) (keys_append xs ys)
    ∙ sym (append_assoc (key_put x) (keys_put xs) (keys_put ys))

-- ---- contents that were put

-- a content was put by this message
abbrev PutBy : Key → Message → Type 0
PutBy k m = (content : List ℕ) × (messages.Put k content ≡ m)

put_here : (k : Key) (m : Message) → contains_key k (key_put m) ≡ true → PutBy k m
put_here k (messages.Put key content) is =
    by (either_true (same_key key k) false is)
  where
    by : (same_key key k ≡ true) ⊎ (false ≡ true) → PutBy k (messages.Put key content)
    by (inl same) =
        (content, ap (λ (x : Key). messages.Put x content) (sym (same_is key k same)))
    by (inr none) = absurd (let wrong : ⊥ = cc in wrong)
put_here k (messages.Hello total largest cache) is = absurd (let none : ⊥ = cc in none)
put_here k (messages.Task task) is = absurd (let none : ⊥ = cc in none)
put_here k (messages.Done attempt outcome) is = absurd (let none : ⊥ = cc in none)
put_here k (messages.Missing attempt files) is = absurd (let none : ⊥ = cc in none)
put_here k (messages.Cancel attempt) is = absurd (let none : ⊥ = cc in none)
put_here k (messages.Unlink key) is = absurd (let none : ⊥ = cc in none)
put_here k (messages.Totals total largest cache) is = absurd (let none : ⊥ = cc in none)
put_here k messages.Bye is = absurd (let none : ⊥ = cc in none)

-- a key that was put was put with a content
pub put_found : (k : Key) (ms : List Message) → contains_key k (keys_put ms) ≡ true
    → (content : List ℕ) × IsAmong (messages.Put k content) ms
put_found k [] is = absurd (let none : ⊥ = cc in none)
put_found k (m ∷ ms) is =
    by (λ later. put_found k ms later) (has_either k (key_put m) (keys_put ms) is)
  where
    by : (contains_key k (keys_put ms) ≡ true
        → (content : List ℕ) × IsAmong (messages.Put k content) ms)
        → (contains_key k (key_put m) ≡ true) ⊎ (contains_key k (keys_put ms) ≡ true)
        → (content : List ℕ) × IsAmong (messages.Put k content) (m ∷ ms)
    by rest (inl here) = let put = put_here k m here in (put.0, inl put.1)
    by rest (inr later) = let put = rest later in (put.0, inr put.1)

-- a content that was put has its key among those that were
pub put_has : (k : Key) (content : List ℕ) (ms : List Message)
    → IsAmong (messages.Put k content) ms → contains_key k (keys_put ms) ≡ true
put_has k content [] there = absurd there
put_has k content (m ∷ ms) (inl same) =
    subst (λ (x : Message). contains_key k (key_put x ++ keys_put ms) ≡ true) same
    (true_here (same_key k k) (contains_key k (keys_put ms)) (itself k))
put_has k content (m ∷ ms) (inr later) =
    has_behind k (key_put m) (keys_put ms) (put_has k content ms later)

-- ---- inputs

pub inputs_more : (keys more : List Key) (run : ℕ) (ports : List Port)
    → contains_inputs keys run ports ≡ true → contains_inputs (keys ++ more) run ports ≡ true
inputs_more keys more run [] is = refl
inputs_more keys more run (port ∷ ports) is =
    let k = key_of run port.file.0 in
    let parts = both_true (contains_key k keys) (contains_inputs keys run ports) is in
    true_both (contains_key k (keys ++ more)) (contains_inputs (keys ++ more) run ports)
    (has_more k keys more parts.0) (inputs_more keys more run ports parts.1)

-- each file of the inputs has its key there
pub inputs_have : (keys : List Key) (run : ℕ) (ports : List Port)
    → contains_inputs keys run ports ≡ true
    → (f : ℕ) → contains_number f (files_of ports) ≡ true → contains_key (key_of run f) keys ≡ true
inputs_have keys run [] is f there = absurd (let none : ⊥ = cc in none)
inputs_have keys run (port ∷ ports) is f there =
    let k = key_of run port.file.0 in
    let parts = both_true (contains_key k keys) (contains_inputs keys run ports) is in
    by parts.0 (λ later. inputs_have keys run ports parts.1 f later)
    (either_true (port.file.0 == f) (contains_number f (files_of ports)) there)
  where
    by : contains_key (key_of run port.file.0) keys ≡ true
        → (contains_number f (files_of ports) ≡ true → contains_key (key_of run f) keys ≡ true)
        → ((port.file.0 == f) ≡ true) ⊎ (contains_number f (files_of ports) ≡ true)
        → contains_key (key_of run f) keys ≡ true
    by one rest (inl same) =
        subst (λ (g : ℕ). contains_key (key_of run g) keys ≡ true) (eqb-true port.file.0 f same) one
    by one rest (inr later) = rest later

-- where each file of the inputs has its key there, all inputs are
pub have_inputs : (keys : List Key) (run : ℕ) (ports : List Port)
    → ((f : ℕ) → contains_number f (files_of ports) ≡ true
    → contains_key (key_of run f) keys ≡ true)
    → contains_inputs keys run ports ≡ true
have_inputs keys run [] each = refl
have_inputs keys run (port ∷ ports) each =
    let f = port.file.0 in
    let here : contains_number f (files_of (port ∷ ports)) ≡ true =
    true_here (f == f) (contains_number f (files_of ports)) (eq-eqb f f refl) in
    true_both (contains_key (key_of run f) keys) (contains_inputs keys run ports) (each f here)
    (have_inputs keys run ports
    (λ g there. each g (true_later (f == g) (contains_number g (files_of ports)) there)))
