-- The faults that the rules of a flow show one by one, and what is known where there are none.
use Rattle.std.proofs.Common.{◌≡◌, ℕ, ◌+◌, ◌<◌, Bool, true, false, cond, not, ◌||◌, List, [], ◌∷◌, ◌++◌, length, drop, get_or, refl, ap, sym, ◌∙◌, subst, All, Vec, Global}
use Rattle.std.specs.Prelude.{Option, Some, None, map, filter, find, is_none, is_some}
use Rattle.std.specs.List.{list_any, enumerate_from}
use Rattle.std.specs.Option.{option_map_or}
use Rattle.std.specs.Str.{bytes_eq}
use Rattle.std.specs.BTreeSet.{BTreeSet, contains, Updates}
use Rattle.std.specs.Cmp.Lexicographic.{nat_list_eq_equiv}
use Rattle.std.proofs.lemmas.Bool.{true≢false}
use Rattle.std.proofs.lemmas.Option.{none-some}
use Rattle.std.proofs.lemmas.List.{drop_more}
use Rattle.std.proofs.lemmas.List.Elements.{All-cons, All-nil, All-append, All-filter, All-head, All-tail}
use Rattle.std.proofs.lemmas.Grind.{flat_map-append}
use Rattle.std.proofs.lemmas.Map.Text.{is_eq-slice_cmp}
use Rattle.flow_types.specs.declared.flow.RawFile.{RawFile}
use Rattle.flow_types.specs.declared.flow.RawRule.{RawRule}
use Rattle.flow_types.specs.Names.{form_of, is_bad}
use Rattle.flow_types.proofs.Forms.{is_name-form}
use Rattle.rule_graph.specs.declared.faults.GraphFault.{GraphFault}
use Rattle.rule_graph.specs.declared.raw.RawPort.{RawPort}
use Rattle.rule_graph.specs.Flows.{remote_text, raw_port, raw_outputs, raw_inputs, raw_ports, each_once, is_same_port}
use Rattle.rule_graph.specs.Faults.{or_else, first_said, is_no_name, file_texts, texts_of, bad_name, first_repeat, remote_names}
use Rattle.rule_graph.specs.Checked.{HasNames, IsName}
use Rattle.rule_graph.proofs.Ports.{vec_cmp}

-- what is said from a rule on
pub over_left : (says : ℕ → RawRule → Option GraphFault) (rules : List RawRule) (i : ℕ) (rule : RawRule) → i < length rules → rule ≡ get_or rules i rule
    → first_said (λ numbered. says numbered.0 numbered.1) (enumerate_from i (drop i rules))
    ≡ or_else (says i rule) (first_said (λ numbered. says numbered.0 numbered.1) (enumerate_from (i + 1) (drop (i + 1) rules)))
over_left says rules i rule inside is =
    ap (λ rest. first_said (λ numbered. says numbered.0 numbered.1) (enumerate_from i rest))
    (drop_more rules i rule inside ∙ ap (λ r. r ∷ drop (i + 1) rules) (sym is))

by_first : {A : Type 0} (b : Bool) (x : A) (all rest second : Option A) → all ≡ or_else rest second → cond b (Some x) all ≡ or_else (cond b (Some x) rest) second
by_first true x all rest second is = refl
by_first false x all rest second is = is

pub find_append : {A : Type 0} (p : A → Bool) (xs ys : List A) → find p (xs ++ ys) ≡ or_else (find p xs) (find p ys)
find_append p [] ys = refl
find_append p (x ∷ xs) ys = by_first (p x) x (find p (xs ++ ys)) (find p xs) (find p ys) (find_append p xs ys)

-- the first text that is no name, from a file on
pub files_left : (files : List RawFile) (i : ℕ) (file : RawFile) → i < length files → file ≡ get_or files i file
    → find is_no_name (file_texts (drop i files)) ≡ or_else (find is_no_name (file.local ∷ remote_text file ∷ [])) (find is_no_name (file_texts (drop (i + 1) files)))
files_left files i file inside is =
    ap (λ rest. find is_no_name (file_texts rest)) (drop_more files i file inside ∙ ap (λ f. f ∷ drop (i + 1) files) (sym is))
    ∙ find_append is_no_name (file.local ∷ remote_text file ∷ []) (file_texts (drop (i + 1) files))

texts_here : RawFile → List (List ℕ)
texts_here file = file.local ∷ remote_text file ∷ []

-- the first text of a rule that is no name is one of its outputs, or else of its inputs
pub rule_texts : (rule : RawRule) → find is_no_name (texts_of rule) ≡ or_else (find is_no_name (file_texts rule.outputs)) (find is_no_name (file_texts rule.inputs))
unfolding texts_here
rule_texts rule =
    ap (find is_no_name) (flat_map-append texts_here rule.outputs rule.inputs)
    ∙ find_append is_no_name (file_texts rule.outputs) (file_texts rule.inputs)

-- ---- what is known where nothing is said

pub none_both : {A : Type 0} (a b : Option A) → or_else a b ≡ None → (a ≡ None) × (b ≡ None)
none_both None b none = (refl, none)
none_both (Some x) b none = absurd (none-some x (sym none))

pub none_first : {A : Type 0} (b : Bool) (x : A) (rest : Option A) → cond b (Some x) rest ≡ None → (b ≡ false) × (rest ≡ None)
none_first true x rest none = absurd (none-some x (sym none))
none_first false x rest none = (refl, none)

pub nothing_mapped : {A B : Type 0} (f : A → B) (a : Option A) → option_map_or (λ x. Some (f x)) a None ≡ None → a ≡ None
nothing_mapped f None none = refl
nothing_mapped f (Some x) none = absurd (none-some (f x) (sym none))

named : (b : Bool) (form : List ℕ) → is_none (cond b None (Some form)) ≡ false → b ≡ false
named true form is = is
named false form is = refl

text_named : (text : List ℕ) → is_no_name text ≡ false → IsName (form_of text)
text_named text is = is_name-form text (form_of text) refl (named (is_bad text) (form_of text) is)

-- a port with names
pub record IsGoodPort (port : RawPort) : Type 0 where
  pub local : IsName port.local
  pub remote : IsName port.remote

files_good : (files : List RawFile) → find is_no_name (file_texts files) ≡ None → All IsGoodPort (map raw_port files)
files_good [] none = All-nil IsGoodPort
files_good (file ∷ files) none =
    let first = none_first (is_no_name file.local) file.local (cond (is_no_name (remote_text file)) (Some (remote_text file)) (find is_no_name (file_texts files))) none in
    let second = none_first (is_no_name (remote_text file)) (remote_text file) (find is_no_name (file_texts files)) first.1 in
    All-cons IsGoodPort (raw_port file) (map raw_port files)
    (record { local = text_named file.local first.0; remote = text_named (remote_text file) second.0 })
    (files_good files second.1)

once_good : (ports : List RawPort) → All IsGoodPort ports → All IsGoodPort (each_once ports)
once_good [] all = all
once_good (port ∷ ports) all =
    All-cons IsGoodPort port (filter (λ other. not (is_same_port port other)) (each_once ports)) (All-head IsGoodPort port ports all)
    (All-filter (λ other. not (is_same_port port other)) IsGoodPort (each_once ports) (once_good ports (All-tail IsGoodPort port ports all)))

pub ports_good : (rule : RawRule) → HasNames rule → All IsGoodPort (raw_ports rule)
ports_good rule names =
    let both = none_both (find is_no_name (file_texts rule.outputs)) (find is_no_name (file_texts rule.inputs)) (sym (rule_texts rule) ∙ names) in
    All-append IsGoodPort (raw_outputs rule) (raw_inputs rule) (files_good rule.outputs both.0)
    (once_good (map raw_port rule.inputs) (files_good rule.inputs both.1))

remotes_from : (ports : List RawPort) → All IsGoodPort ports → All IsName (map (λ port. port.remote) ports)
remotes_from [] all = All-nil IsName
remotes_from (port ∷ ports) all =
    All-cons IsName port.remote (map (λ port. port.remote) ports) (All-head IsGoodPort port ports all).remote (remotes_from ports (All-tail IsGoodPort port ports all))

-- the remote names of a rule whose texts give names
pub remotes_named : (rule : RawRule) → HasNames rule → All IsName (remote_names rule)
remotes_named rule names = remotes_from (raw_ports rule) (ports_good rule names)

-- where no rule has a bad name, each has names
pub all_named : (rules : List RawRule) (n : ℕ) → first_said (λ numbered. bad_name numbered.0 numbered.1) (enumerate_from n rules) ≡ None → All HasNames rules
all_named [] n none = All-nil HasNames
all_named (rule ∷ rules) n none =
    let both = none_both (bad_name n rule) (first_said (λ numbered. bad_name numbered.0 numbered.1) (enumerate_from (n + 1) rules)) none in
    All-cons HasNames rule rules (nothing_mapped _ (find is_no_name (texts_of rule)) both.0) (all_named rules (n + 1) both.1)

-- ---- a name that stands a second time

-- the set has the names of the list
abbrev pub HasPast : BTreeSet (Vec ℕ Global) → List (List ℕ) → Type 0
HasPast seen past = (key : Vec ℕ Global) → contains vec_cmp seen key ≡ list_any (bytes_eq key.items) past

or_first : (b any : Bool) → cond b true any ≡ (b || any)
or_first true any = refl
or_first false any = refl

pub past_more : (old new : BTreeSet (Vec ℕ Global)) (key : Vec ℕ Global) (name : List ℕ) (past : List (List ℕ)) → key.items ≡ name
    → Updates vec_cmp old new key true → HasPast old past → HasPast new (name ∷ past)
past_more old new key name past is updates before q =
    updates.0 q
    ∙ ap (λ b. cond b true (contains vec_cmp old q)) (is_eq-slice_cmp key.items q.items ∙ nat_list_eq_equiv.symm key.items q.items ∙ ap (bytes_eq q.items) is)
    ∙ ap (λ b. cond (bytes_eq q.items name) true b) (before q)
    ∙ or_first (bytes_eq q.items name) (list_any (bytes_eq q.items) past)

-- the first repeat from a name on
repeat_left : (past names : List (List ℕ)) (i : ℕ) (name : List ℕ) → i < length names → name ≡ get_or names i name
    → first_repeat past (drop i names) ≡ cond (list_any (bytes_eq name) past) (Some name) (first_repeat (name ∷ past) (drop (i + 1) names))
repeat_left past names i name inside is =
    ap (first_repeat past) (drop_more names i name inside ∙ ap (λ n. n ∷ drop (i + 1) names) (sym is))

pub repeat_new : (past names : List (List ℕ)) (i : ℕ) (name : List ℕ) → i < length names → name ≡ get_or names i name → list_any (bytes_eq name) past ≡ false
    → first_repeat past (drop i names) ≡ first_repeat (name ∷ past) (drop (i + 1) names)
repeat_new past names i name inside is new =
    repeat_left past names i name inside is ∙ ap (λ b. cond b (Some name) (first_repeat (name ∷ past) (drop (i + 1) names))) new

pub repeat_old : (past names : List (List ℕ)) (i : ℕ) (name : List ℕ) → i < length names → name ≡ get_or names i name → list_any (bytes_eq name) past ≡ true
    → first_repeat past (drop i names) ≡ Some name
repeat_old past names i name inside is old =
    repeat_left past names i name inside is ∙ ap (λ b. cond b (Some name) (first_repeat (name ∷ past) (drop (i + 1) names))) old

-- what is found is one of them
by_repeat : {A : Type 0} (P : A → Type 0) (b : Bool) (x found : A) (rest : Option A) → P x → (rest ≡ Some found → P found) → cond b (Some x) rest ≡ Some found → P found
by_repeat P true x found rest first later is = subst P (some_same x found is) first
  where
    some_same : {A : Type 0} (x y : A) → Some x ≡ Some y → x ≡ y
    some_same x y same = ap (λ o. option_map_or (λ z. z) o x) same
by_repeat P false x found rest first later is = later is

pub repeat_in : (P : List ℕ → Type 0) (past names : List (List ℕ)) (name : List ℕ) → All P names → first_repeat past names ≡ Some name → P name
repeat_in P past [] name all is = absurd (none-some name is)
repeat_in P past (x ∷ xs) name all is =
    by_repeat P (list_any (bytes_eq x) past) x name (first_repeat (x ∷ past) xs) (All-head P x xs all) (repeat_in P (x ∷ past) xs name (All-tail P x xs all)) is

pub find_in : {A : Type 0} (P : A → Type 0) (p : A → Bool) (xs : List A) (x : A) → All P xs → find p xs ≡ Some x → P x
find_in P p [] x all is = absurd (none-some x is)
find_in P p (y ∷ ys) x all is =
    by_repeat P (p y) y x (find p ys) (All-head P y ys all) (find_in P p ys x (All-tail P y ys all)) is

-- ---- one step of a loop that returns what is said first

pub none_of : {A : Type 0} (a : Option A) → is_some a ≡ false → a ≡ None
none_of None none = refl
none_of (Some x) none = absurd (true≢false none)

pub some_or : {A : Type 0} (a b : Option A) → is_some a ≡ true → or_else a b ≡ a
some_or None b some = absurd (true≢false (sym some))
some_or (Some x) b some = refl

pub step_none : {A : Type 0} (said here rest left all : Option A) → said ≡ here → is_some said ≡ false → left ≡ or_else here rest → left ≡ all → rest ≡ all
step_none said here rest left all is none split before =
    ap (λ a. or_else a rest) (sym (none_of said none) ∙ is) ∙ sym split ∙ before

pub step_some : {A : Type 0} (said here rest left all : Option A) → said ≡ here → is_some said ≡ true → left ≡ or_else here rest → left ≡ all → said ≡ all
step_some said here rest left all is some split before =
    sym (some_or said rest some) ∙ ap (λ a. or_else a rest) is ∙ sym split ∙ before
