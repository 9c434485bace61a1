-- Rules without remote texts: their remote names are the names of their files.
use Rattle.std.proofs.Common.{◌≡◌, Bool, true, false, cond, not, ◌||◌, List, [], ◌∷◌, ℕ, get_or, refl, ap, sym, ◌∙◌, subst, All}
use Rattle.std.specs.Prelude.{Option, Some, None, map, filter, find, is_none, unwrap_or}
use Rattle.std.specs.List.{list_all}
use Rattle.std.specs.Option.{option_map_or}
use Rattle.std.specs.Str.{bytes_eq}
use Rattle.std.proofs.lemmas.Bool.{true≢false, and_parts}
use Rattle.std.proofs.lemmas.List.Elements.{All-cons, All-nil, All-append, All-filter, All-head, All-tail}
use Rattle.std.proofs.lemmas.Slice.Eq.{bytes_eq-Decides}
use Rattle.flow_types.specs.declared.flow.RawFile.{RawFile}
use Rattle.flow_types.specs.declared.flow.RawRule.{RawRule}
use Rattle.flow_types.specs.declared.flow.RawFlow.{RawFlow}
use Rattle.flow_types.specs.Names.{form_of, is_folder_of}
use Rattle.rule_graph.specs.declared.raw.RawPort.{RawPort}
use Rattle.rule_graph.specs.Flows.{raw_port, raw_outputs, raw_inputs, raw_ports, each_once, is_same_port, names_of}
use Rattle.rule_graph.specs.declared.faults.GraphFault.TheVariants as faults
use Rattle.rule_graph.specs.Faults.{or_else, first_said, nested_under, nested_in, remote_names}
use Rattle.rule_graph.specs.Checked.{HasNames}
use Rattle.rule_graph.specs.Stated.{IsNestedByRemotes, has_no_remote}
use Rattle.rule_graph.specs.Numbering.{is_known, IsRuleAmong, IsPortAmong}
use Rattle.rule_graph.proofs.Known.{rules_among}
use Rattle.rule_graph.proofs.Unfaulted.{none_nested, as_all}

-- a port whose remote name is its file's
IsPlain : RawPort → Type 0
IsPlain port = port.remote ≡ port.local

plain_port : (file : RawFile) (remote : Option (List ℕ)) → file.remote ≡ remote → is_none remote ≡ true → IsPlain (raw_port file)
unfolding IsPlain
plain_port file None is none = ap (λ remote. form_of (unwrap_or remote file.local)) is
plain_port file (Some text) is none = absurd (true≢false (sym none))

plain_files : (files : List RawFile) → list_all (λ file. is_none file.remote) files ≡ true → All IsPlain (map raw_port files)
plain_files [] none = All-nil IsPlain
plain_files (file ∷ files) none =
    let parts = and_parts (is_none file.remote) (list_all (λ file. is_none file.remote) files) none in
    All-cons IsPlain (raw_port file) (map raw_port files) (plain_port file file.remote refl parts.0) (plain_files files parts.1)

plain_once : (ports : List RawPort) → All IsPlain ports → All IsPlain (each_once ports)
plain_once [] all = all
plain_once (port ∷ ports) all =
    All-cons IsPlain port (filter (λ other. not (is_same_port port other)) (each_once ports)) (All-head IsPlain port ports all)
    (All-filter (λ other. not (is_same_port port other)) IsPlain (each_once ports) (plain_once ports (All-tail IsPlain port ports all)))

plain_ports : (rule : RawRule) → has_no_remote rule ≡ true → All IsPlain (raw_ports rule)
plain_ports rule none =
    let parts = and_parts (list_all (λ file. is_none file.remote) rule.outputs) (list_all (λ file. is_none file.remote) rule.inputs) none in
    All-append IsPlain (raw_outputs rule) (raw_inputs rule) (plain_files rule.outputs parts.0) (plain_once (map raw_port rule.inputs) (plain_files rule.inputs parts.1))

-- a name that is known
IsAmong : List (List ℕ) → List ℕ → Type 0
IsAmong names name = is_known names name ≡ true

remotes_known : (names : List (List ℕ)) (ports : List RawPort) → All (IsPortAmong names) ports → All IsPlain ports → All (IsAmong names) (map (λ port. port.remote) ports)
unfolding IsPlain IsAmong
remotes_known names [] among plain = All-nil (IsAmong names)
remotes_known names (port ∷ ports) among plain =
    All-cons (IsAmong names) port.remote (map (λ port. port.remote) ports)
    (ap (is_known names) (All-head IsPlain port ports plain) ∙ (All-head (IsPortAmong names) port ports among).known)
    (remotes_known names ports (All-tail (IsPortAmong names) port ports among) (All-tail IsPlain port ports plain))

by_known : (P : List ℕ → Type 0) (name x : List ℕ) (b rest : Bool) → bytes_eq name x ≡ b → P x → (rest ≡ true → P name) → (b || rest) ≡ true → P name
by_known P name x true rest is here later known = subst P (sym ((bytes_eq-Decides name x).0 is)) here
by_known P name x false rest is here later known = later known

-- what holds of the names holds of a known one
of_known : (P : List ℕ → Type 0) (names : List (List ℕ)) (name : List ℕ) → All P names → is_known names name ≡ true → P name
of_known P [] name all known = absurd (true≢false (sym known))
of_known P (x ∷ xs) name all known =
    by_known P name x (bytes_eq name x) (is_known xs name) refl (All-head P x xs all) (of_known P xs name (All-tail P x xs all)) known

none_found : {A : Type 0} (p : A → Bool) (xs : List A) → All (λ x. p x ≡ false) xs → find p xs ≡ None
none_found p [] all = refl
none_found p (x ∷ xs) all =
    ap (λ b. cond b (Some x) (find p xs)) (All-head (λ x. p x ≡ false) x xs all) ∙ none_found p xs (All-tail (λ x. p x ≡ false) x xs all)

none_said : {A B : Type 0} (says : A → Option B) (xs : List A) → All (λ x. says x ≡ None) xs → first_said says xs ≡ None
none_said says [] all = refl
none_said says (x ∷ xs) all =
    ap (λ a. or_else a (first_said says xs)) (All-head (λ x. says x ≡ None) x xs all) ∙ none_said says xs (All-tail (λ x. says x ≡ None) x xs all)

-- no name that is a folder of another
abbrev NoFolder : List (List ℕ) → List ℕ → Type 0
NoFolder names folder = All (λ name. is_folder_of folder name ≡ false) names

-- where none of the names is a folder of another none of these is
fewer_nested : (names some : List (List ℕ)) → nested_in names ≡ None → All (IsAmong names) some → nested_in some ≡ None
unfolding IsAmong
fewer_nested names some none known =
    none_said (nested_under some) some
    (as_all (IsAmong names) (λ folder. nested_under some folder ≡ None)
    (λ folder in_names.
    let apart : NoFolder names folder = of_known (NoFolder names) names folder (none_nested names none) in_names in
    let clear : NoFolder some folder = as_all (IsAmong names) (λ name. is_folder_of folder name ≡ false) (λ name among. of_known (λ name. is_folder_of folder name ≡ false) names name apart among) some known in
    ap (λ found. option_map_or (λ name. Some (faults.NestedName folder name)) found None) (none_found (is_folder_of folder) some clear)) some known)

plain_apart : (names : List (List ℕ)) (rule : RawRule) → nested_in names ≡ None → IsRuleAmong names rule → has_no_remote rule ≡ true → nested_in (remote_names rule) ≡ None
plain_apart names rule none among plain =
    fewer_nested names (remote_names rule) none (remotes_known names (raw_ports rule) among (plain_ports rule plain))

-- the rules of a flow, none of whose files' names is nested
pub nested_by_remotes : (flow : RawFlow) → All HasNames flow.rules → nested_in (names_of flow) ≡ None → All IsNestedByRemotes flow.rules
nested_by_remotes flow named none = λ k d inside.
    record { named = named k d inside; plain = plain_apart (names_of flow) (get_or flow.rules k d) none (rules_among flow named k d inside) }
