-- The names of a flow: each port's is among them, and each is a name in its form.
use Rattle.std.proofs.Common.{◌≡◌, ℕ, ◌+◌, Bool, true, false, ◌||◌, List, [], ◌∷◌, ◌++◌, fold, get_or, refl, ap, All}
use Rattle.std.specs.Prelude.{flat_map}
use Rattle.std.specs.List.{enumerate_from}
use Rattle.std.specs.BTreeSet.{insert_key}
use Rattle.std.specs.Ordering.{match_ordering, nat_cmp}
use Rattle.std.specs.Cmp.Lexicographic.{slice_cmp}
use Rattle.std.specs.Str.{bytes_eq}
use Rattle.std.specs.declared.cmp.Ordering.{Ordering}
use Rattle.std.specs.declared.cmp.Ordering.TheVariants.{Less, Equal, Greater}
use Rattle.std.proofs.lemmas.List.Elements.{All-nil, All-cons, All-head, All-tail, All-append, All-map}
use Rattle.std.proofs.lemmas.Map.Lookups.{exact_bytes}
use Rattle.std.proofs.lemmas.Map.Views.{All-insert_key}
use Rattle.std.proofs.lemmas.Slice.Eq.{bytes_eq-Decides}
use Rattle.flow_types.specs.declared.flow.RawRule.{RawRule}
use Rattle.flow_types.specs.declared.flow.RawFlow.{RawFlow}
use Rattle.rule_graph.specs.declared.raw.RawPort.{RawPort}
use Rattle.rule_graph.specs.declared.numbering.Making.{Making}
use Rattle.rule_graph.specs.Flows.{raw_ports, raw_outputs, raw_inputs, names_of, with_port}
use Rattle.rule_graph.specs.Faults.{makings}
use Rattle.rule_graph.specs.Checked.{HasNames, IsName}
use Rattle.rule_graph.specs.Numbering.{is_known, IsMakingAmong, IsPortAmong, IsRuleAmong}
use Rattle.rule_graph.proofs.RuleFaults.{IsGoodPort, ports_good}
use Rattle.rule_graph.proofs.Makings.{makings_by}

or_left : (a b : Bool) → a ≡ true → (a || b) ≡ true
or_left a b h = ap (λ c. c || b) h

pub or_right : (a b : Bool) → b ≡ true → (a || b) ≡ true
or_right true b h = refl
or_right false b h = h

kept_after : (q k x : List ℕ) (xs more : List (List ℕ)) (o : Ordering) → is_known (x ∷ xs) q ≡ true → (is_known xs q ≡ true → is_known more q ≡ true)
    → is_known (match_ordering o (k ∷ x ∷ xs) (x ∷ xs) (x ∷ more)) q ≡ true
kept_after q k x xs more Less known go = or_right (bytes_eq q k) (is_known (x ∷ xs) q) known
kept_after q k x xs more Equal known go = known
kept_after q k x xs more Greater known go = on (bytes_eq q x) known
  where
    on : (b : Bool) → (b || is_known xs q) ≡ true → (b || is_known more q) ≡ true
    on true h = refl
    on false h = go h

-- a name stays among the names
insert_keeps : (names : List (List ℕ)) (k q : List ℕ) → is_known names q ≡ true → is_known (insert_key (slice_cmp nat_cmp) names k) q ≡ true
insert_keeps [] k q known = absurd (let wrong : ⊥ = cc known in wrong)
insert_keeps (x ∷ xs) k q known = kept_after q k x xs (insert_key (slice_cmp nat_cmp) xs k) (slice_cmp nat_cmp k x) known (insert_keeps xs k q)

same : (q : List ℕ) → bytes_eq q q ≡ true
same q = (bytes_eq-Decides q q).1 refl

here_after : (k x : List ℕ) (xs more : List (List ℕ)) (o : Ordering) → slice_cmp nat_cmp k x ≡ o → is_known more k ≡ true
    → is_known (match_ordering o (k ∷ x ∷ xs) (x ∷ xs) (x ∷ more)) k ≡ true
here_after k x xs more Less is known = or_left (bytes_eq k k) (is_known (x ∷ xs) k) (same k)
here_after k x xs more Equal is known = or_left (bytes_eq k x) (is_known xs k) ((bytes_eq-Decides k x).1 (exact_bytes k x is))
here_after k x xs more Greater is known = or_right (bytes_eq k x) (is_known more k) known

-- a name that is put in is among the names
insert_has : (names : List (List ℕ)) (k : List ℕ) → is_known (insert_key (slice_cmp nat_cmp) names k) k ≡ true
insert_has [] k = or_left (bytes_eq k k) false (same k)
insert_has (x ∷ xs) k = here_after k x xs (insert_key (slice_cmp nat_cmp) xs k) (slice_cmp nat_cmp k x) refl (insert_has xs k)

ports_keep : (ports : List RawPort) (names : List (List ℕ)) (q : List ℕ) → is_known names q ≡ true → is_known (fold with_port names ports) q ≡ true
ports_keep [] names q known = known
ports_keep (port ∷ ports) names q known = ports_keep ports (with_port names port) q (insert_keeps names port.local q known)

-- a port whose name is among the names
abbrev IsKnownPort : List (List ℕ) → RawPort → Type 0
IsKnownPort names port = is_known names port.local ≡ true

ports_have : (ports : List RawPort) (names : List (List ℕ)) → All (IsKnownPort (fold with_port names ports)) ports
ports_have [] names = All-nil (IsKnownPort names)
ports_have (port ∷ ports) names =
    All-cons (IsKnownPort (fold with_port (with_port names port) ports)) port ports
    (ports_keep ports (with_port names port) port.local (insert_has names port.local))
    (ports_have ports (with_port names port))

-- what holds of two lists one behind the other
pub All-parts : {A : Type 0} (P : A → Type 0) (xs ys : List A) → All P (xs ++ ys) → All P xs × All P ys
All-parts P [] ys all = (All-nil P, all)
All-parts P (x ∷ xs) ys all =
    let rest = All-parts P xs ys (All-tail P x (xs ++ ys) all) in
    (All-cons P x xs (All-head P x (xs ++ ys) all) rest.0, rest.1)

rules_have : (P : RawPort → Type 0) (rules : List RawRule) → All P (flat_map raw_ports rules) → All (λ rule. All P (raw_ports rule)) rules
rules_have P [] all = All-nil (λ rule. All P (raw_ports rule))
rules_have P (rule ∷ rules) all =
    let both = All-parts P (raw_ports rule) (flat_map raw_ports rules) all in
    All-cons (λ rule. All P (raw_ports rule)) rule rules both.0 (rules_have P rules both.1)

-- the ports of a flow whose texts give names
pub rules_among : (flow : RawFlow) → All HasNames flow.rules → All (IsRuleAmong (names_of flow)) flow.rules
rules_among flow names = λ k d inside j e at.
    let known = rules_have (IsKnownPort (names_of flow)) flow.rules (ports_have (flat_map raw_ports flow.rules) []) k d inside j e at in
    let good = ports_good (get_or flow.rules k d) (names k d inside) j e at in
    record { known = known; name = good.local; remote = good.remote }

rules_makings : (names : List (List ℕ)) (rules : List RawRule) (n : ℕ) → All (IsRuleAmong names) rules → All (IsMakingAmong names) (flat_map makings_by (enumerate_from n rules))
rules_makings names [] n all = All-nil (IsMakingAmong names)
rules_makings names (rule ∷ rules) n all =
    let outputs = (All-parts (IsPortAmong names) (raw_outputs rule) (raw_inputs rule) (All-head (IsRuleAmong names) rule rules all)).0 in
    All-append (IsMakingAmong names) (makings_by (n, rule)) (flat_map makings_by (enumerate_from (n + 1) rules))
    (All-map (IsMakingAmong names) (λ port. let making : Making = record { maker = n; name = port.local } in making) (raw_outputs rule)
    (λ k d inside. let port = outputs k d inside in record { known = port.known; name = port.name }))
    (rules_makings names rules (n + 1) (All-tail (IsRuleAmong names) rule rules all))

-- the makings of such a flow
pub makings_among : (flow : RawFlow) → All HasNames flow.rules → All (IsMakingAmong (names_of flow)) (makings flow)
makings_among flow names = rules_makings (names_of flow) flow.rules 0 (rules_among flow names)

ports_named : (ports : List RawPort) (names : List (List ℕ)) → All IsName names → All IsGoodPort ports → All IsName (fold with_port names ports)
ports_named [] names all good = all
ports_named (port ∷ ports) names all good =
    ports_named ports (with_port names port)
    (All-insert_key (slice_cmp nat_cmp) port.local IsName names all (All-head IsGoodPort port ports good).local)
    (All-tail IsGoodPort port ports good)

rules_good : (rules : List RawRule) → All HasNames rules → All IsGoodPort (flat_map raw_ports rules)
rules_good [] all = All-nil IsGoodPort
rules_good (rule ∷ rules) all =
    All-append IsGoodPort (raw_ports rule) (flat_map raw_ports rules) (ports_good rule (All-head HasNames rule rules all)) (rules_good rules (All-tail HasNames rule rules all))

-- the names of such a flow
pub names_named : (flow : RawFlow) → All HasNames flow.rules → All IsName (names_of flow)
names_named flow names = ports_named (flat_map raw_ports flow.rules) [] (All-nil IsName) (rules_good flow.rules names)
