-- A flow that a text says keeps its limits.
use Rattle.std.proofs.Common.{◌≡◌, ℕ, suc, codes, Bool, true, false, cond, nat_lt, nat_le, List, [], ◌∷◌, length, Option, Some, None, unwrap_or, Result, Ok, Err, IfOk, IsTrue, All, refl, subst, arith}
use Rattle.std.specs.Prelude.{ℤ, pos, negsuc, option_and_then}
use Rattle.std.specs.Str.{bytes_eq}
use Rattle.std.proofs.lemmas.Bool.{ltb-false, le-leb}
use Rattle.std.proofs.lemmas.List.Elements.{All-nil, All-cons, All-append, All-map, All-weaker}
use Rattle.flow_types.specs.declared.flow.RawFlow.{RawFlow}
use Rattle.flow_types.specs.declared.flow.RawRule.{RawRule}
use Rattle.flow_types.specs.declared.flow.SizeBound.{SizeBound}
use Rattle.flow_types.specs.declared.flow.Pair.{Pair}
use Rattle.flow_types.specs.declared.numbers.Needs.TheVariants.{Stated}
use Rattle.flow_types.specs.Plans.{most_bytes, most_command_bytes, env_bytes, fits_amounts}
use Rattle.flow_types.specs.Flows.{FitsLimits}
use Rattle.jx_tokens.specs.declared.fault.JxFault.{JxFault}
use Rattle.jx_tokens.specs.Tokens.{scan_of}
use Rattle.jx_syntax.specs.Grammar.{Derivation}
use Rattle.jx_syntax.specs.Reading.{parsed}
use Rattle.jx_syntax.specs.Tree.{Tree, Fields, tree_of}
use Rattle.jx_meaning.specs.Values.{Value, Entry, find}
use Rattle.jx_meaning.specs.Meaning.{Scope}
use Rattle.jx_values.specs.Kinds.{number_in, entries_in}
use Rattle.jx_flow.specs.declared.fault.JxFlowFault.TheVariants.{TooLarge, UnknownCategory}
use Rattle.jx_flow.specs.declared.files.Output.{Output}
use Rattle.jx_flow.specs.declared.amounts.Resources.{Resources}
use Rattle.jx_flow.specs.declared.amounts.Category.{Category}
use Rattle.jx_flow.specs.declared.rules.Action.{Action}
use Rattle.jx_flow.specs.declared.rules.Setting.{Setting}
use Rattle.jx_flow.specs.declared.rules.General.{General}
use Rattle.jx_flow.specs.declared.rules.Made.{Made}
use Rattle.jx_flow.specs.Answers.{Gives}
use Rattle.jx_flow.specs.Reading.{Found, and_then, held, optional, required, each, each_at, next_index, up_to, number_of, optional_text, required_text, items_of, entries_of}
use Rattle.jx_flow.specs.Files.{file_of, bound_by, output_of, outputs_of, inputs_of, bound_line, bounds_in}
use Rattle.jx_flow.specs.Amounts.{unstated, amount_of, amounts_in, resources_by, resources_of, or_general, over, needs_by, category_of, categories_by, listed, known, general_of}
use Rattle.jx_flow.specs.Variables.{variables_by, overlaid, fitting, environment_of}
use Rattle.jx_flow.specs.Rules.{short, command_of, local_of, action_of, setting_of, rule_of, bounds_of}
use Rattle.jx_flow.specs.Flow.{literal, field_of, worth_of, defined_by, items_by, default_by, general_by, kept_by, flow_within, flow_of_fields, flow_of, flow_if, flow_of_text, flow_by}
use Rattle.jx_flow.specs.Laws.{FlowsFitTheirLimits}

-- ---- what was read

pub record Split {A B : Type 0} (r : Found A) (f : A → Found B) (b : B) : Type 0 where
  pub value : A
  pub first : r ≡ Ok value
  pub rest : f value ≡ Ok b

split : {A B : Type 0} (r : Found A) (f : A → Found B) (b : B) → and_then r f ≡ Ok b → Split r f b
split (Ok a) f b h = record { value = a; first = refl; rest = h }
split (Err e) f b h = absurd cc

given : {A : Type 0} (a b : A) → (let r : Found A = Ok a in r) ≡ Ok b → a ≡ b
given a b h = cc

each_kept : {A B : Type 0} (P : B → Type 0) (read : A → Found B) → ((x : A) (y : B) → read x ≡ Ok y → P y) → (xs : List A) (ys : List B) → each read xs ≡ Ok ys → All P ys
each_kept P read k [] ys h = subst (All P) (given [] ys h) (All-nil P)
each_kept P read k (x ∷ xs) ys h =
    let s = split (read x) (λ y. and_then (each read xs) (λ ys. Ok (y ∷ ys))) ys h in
    let t = split (each read xs) (λ ys. Ok (s.value ∷ ys)) ys s.rest in
    subst (All P) (given (s.value ∷ t.value) ys t.rest) (All-cons P s.value t.value (k x s.value s.first) (each_kept P read k xs t.value t.first))

each_at_kept : {A B : Type 0} (P : B → Type 0) (read : ℕ → A → Found B) → ((n : ℕ) (x : A) (y : B) → read n x ≡ Ok y → P y) → (n : ℕ) (xs : List A) (ys : List B)
    → each_at read n xs ≡ Ok ys → All P ys
each_at_kept P read k n [] ys h = subst (All P) (given [] ys h) (All-nil P)
each_at_kept P read k n (x ∷ xs) ys h =
    let s = split (read n x) (λ y. and_then (each_at read (next_index n) xs) (λ ys. Ok (y ∷ ys))) ys h in
    let t = split (each_at read (next_index n) xs) (λ ys. Ok (s.value ∷ ys)) ys s.rest in
    subst (All P) (given (s.value ∷ t.value) ys t.rest) (All-cons P s.value t.value (k n x s.value s.first) (each_at_kept P read k (next_index n) xs t.value t.first))

-- ---- numbers

-- a number, where there is one, is at most another
abbrev is_at_most : ℕ → Option ℕ → Bool
is_at_most most None = true
is_at_most most (Some n) = nat_le n most

held_kept : (rule : Option ℕ) (name : List ℕ) (most k n : ℕ) (b : Bool) → (b ≡ true → nat_le k most ≡ true) → held rule name (cond b (Some k) None) ≡ Ok n → nat_le n most ≡ true
held_kept rule name most k n true h e = let P : ℕ → Type 0 = λ m. nat_le m most ≡ true in subst P (given k n e) (h refl)
held_kept rule name most k n false h e = absurd cc

number_kept : (rule : Option ℕ) (name : List ℕ) (most : ℕ) (o : Option ℤ) (n : ℕ) → held rule name (option_and_then (up_to most) o) ≡ Ok n → nat_le n most ≡ true
number_kept rule name most None n e = absurd cc
number_kept rule name most (Some (pos k)) n e = held_kept rule name most k n (nat_le k most) (λ h. h) e
number_kept rule name most (Some (negsuc k)) n e = absurd cc

field_kept : (rule : Option ℕ) (name : List ℕ) (most : ℕ) (v : Option Value) (o : Option ℕ) → optional (number_of rule name most) v ≡ Ok o → is_at_most most o ≡ true
field_kept rule name most None o e = let P : Option ℕ → Type 0 = λ o. is_at_most most o ≡ true in subst P (given None o e) refl
field_kept rule name most (Some v) o e =
    let s = split (number_of rule name most v) (λ n. Ok (Some n)) o e in
    let P : Option ℕ → Type 0 = λ o. is_at_most most o ≡ true in
    subst P (given (Some s.value) o s.rest) (number_kept rule name most (number_in v) s.value s.first)

-- ---- amounts

record AreSmall (r : Resources) : Type 0 where
  cores : is_at_most 1000000000 r.cores ≡ true
  memory : is_at_most 1000000000 r.memory ≡ true
  disk : is_at_most 1000000000 r.disk ≡ true

none_small : AreSmall unstated
none_small = record { cores = refl; memory = refl; disk = refl }

amounts_small : (rule : Option ℕ) (es : List Entry) (r : Resources) → amounts_in rule es ≡ Ok r → AreSmall r
amounts_small rule es r e =
    let c = split (amount_of rule (codes "cores") es) _ r e in
    let m = split (amount_of rule (codes "memory") es) _ r c.rest in
    let d = split (amount_of rule (codes "disk") es) _ r m.rest in
    let of_field = λ (name : List ℕ) (o : Option ℕ) (h : amount_of rule name es ≡ Ok o). field_kept rule name 1000000000 (find name es) o h in
    subst AreSmall (given _ r d.rest) (record {
      cores = of_field (codes "cores") c.value c.first;
      memory = of_field (codes "memory") m.value m.first;
      disk = of_field (codes "disk") d.value d.first;
    })

resources_small : (rule : Option ℕ) (v : Option Value) (r : Resources) → resources_by rule v ≡ Ok r → AreSmall r
resources_small rule None r e = subst AreSmall (given unstated r e) none_small
resources_small rule (Some v) r e = let s = split (entries_of rule (codes "resources") v) (amounts_in rule) r e in amounts_small rule s.value r s.rest

either_small : (a b : Option ℕ) → is_at_most 1000000000 a ≡ true → is_at_most 1000000000 b ≡ true → is_at_most 1000000000 (or_general a b) ≡ true
either_small (Some n) b h k = h
either_small None b h k = k

over_small : (own general : Resources) → AreSmall own → AreSmall general → AreSmall (over own general)
over_small own general h k = record {
  cores = either_small own.cores general.cores h.cores k.cores;
  memory = either_small own.memory general.memory h.memory k.memory;
  disk = either_small own.disk general.disk h.disk k.disk;
}

default_small : (default : ℕ) (o : Option ℕ) → nat_le default 1000000000 ≡ true → is_at_most 1000000000 o ≡ true → nat_le (unwrap_or o default) 1000000000 ≡ true
default_small default None low h = low
default_small default (Some n) low h = h

stated_fit : (c m d : Option ℕ) → is_at_most 1000000000 c ≡ true → is_at_most 1000000000 m ≡ true → is_at_most 1000000000 d ≡ true
    → fits_amounts (Stated (record { cores = unwrap_or c 1; memory = unwrap_or m 0; disk = unwrap_or d 0 })) ≡ true
stated_fit c m d of_c of_m of_d = rw (default_small 1 c refl of_c, default_small 0 m refl of_m, default_small 0 d refl of_d) refl

needs_fit : (c m d : Option ℕ) → is_at_most 1000000000 c ≡ true → is_at_most 1000000000 m ≡ true → is_at_most 1000000000 d ≡ true → fits_amounts (needs_by c m d) ≡ true
needs_fit None None None of_c of_m of_d = refl
needs_fit None None (Some d) of_c of_m of_d = stated_fit None None (Some d) of_c of_m of_d
needs_fit None (Some m) d of_c of_m of_d = stated_fit None (Some m) d of_c of_m of_d
needs_fit (Some c) m d of_c of_m of_d = stated_fit (Some c) m d of_c of_m of_d

-- ---- categories

abbrev IsSmall : Category → Type 0
IsSmall c = AreSmall c.resources

category_small : (e : Entry) (c : Category) → category_of e ≡ Ok c → IsSmall c
category_small e c h =
    let es = split (entries_of None e.0 e.1) _ c h in
    let r = split (resources_of None es.value) _ c es.rest in
    subst IsSmall (given _ c r.rest) (resources_small None (find (codes "resources") es.value) r.value r.first)

categories_small : (v : Option Value) (cs : List Category) → categories_by v ≡ Ok cs → All IsSmall cs
categories_small None cs h = subst (All IsSmall) (given [] cs h) (All-nil IsSmall)
categories_small (Some v) cs h = let s = split (entries_of None (codes "categories") v) _ cs h in each_kept IsSmall category_of category_small s.value cs s.rest

head_of : {A : Type 0} (P : A → Type 0) (x : A) (xs : List A) → All P (x ∷ xs) → P x
head_of P x xs h = h 0 x (omega arith)

tail_of : {A : Type 0} (P : A → Type 0) (x : A) (xs : List A) → All P (x ∷ xs) → All P xs
tail_of P x xs h = λ k d lt. h (suc k) d (omega (arith, lt))

found_small : (b : Bool) (r s : Resources) (o : Option Resources) → AreSmall r → (o ≡ Some s → AreSmall s) → cond b (Some r) o ≡ Some s → AreSmall s
found_small true r s o h k e = let is : r ≡ s = cc in subst AreSmall is h
found_small false r s o h k e = k e

listed_small : (name : List ℕ) (cs : List Category) (r : Resources) → All IsSmall cs → listed name cs ≡ Some r → AreSmall r
listed_small name [] r h e = absurd cc
listed_small name (c ∷ cs) r h e =
    found_small (bytes_eq c.name name) c.resources r (listed name cs) (head_of IsSmall c cs h) (listed_small name cs r (tail_of IsSmall c cs h)) e

default_known : (b : Bool) (rule : ℕ) (r : Resources) → cond b (Ok unstated) (Err (UnknownCategory rule)) ≡ Ok r → AreSmall r
default_known true rule r e = subst AreSmall (given unstated r e) none_small
default_known false rule r e = absurd cc

known_small : (rule : ℕ) (name : List ℕ) (o : Option Resources) (r : Resources) → ((s : Resources) → o ≡ Some s → AreSmall s) → known rule name o ≡ Ok r → AreSmall r
known_small rule name None r h e = default_known (bytes_eq name (codes "default")) rule r e
known_small rule name (Some s) r h e = subst AreSmall (given s r e) (h s refl)

-- ---- commands and environments

text_fits : (b : Bool) (t u : List ℕ) → nat_lt most_command_bytes (length t) ≡ b → cond b (Err (TooLarge 1048576)) (Ok t) ≡ Ok u → nat_le (length u) most_command_bytes ≡ true
text_fits true t u h e = absurd cc
text_fits false t u h e = let P : List ℕ → Type 0 = λ t. nat_le (length t) most_command_bytes ≡ true in subst P (given t u e) (le-leb (length t) most_command_bytes (ltb-false most_command_bytes (length t) h))

pairs_fit : (b : Bool) (ps qs : List Pair) → nat_lt most_command_bytes (env_bytes ps) ≡ b → cond b (Err (TooLarge 1048576)) (Ok ps) ≡ Ok qs → nat_le (env_bytes qs) most_command_bytes ≡ true
pairs_fit true ps qs h e = absurd cc
pairs_fit false ps qs h e =
    let P : List Pair → Type 0 = λ ps. nat_le (env_bytes ps) most_command_bytes ≡ true in
    subst P (given ps qs e) (le-leb (env_bytes ps) most_command_bytes (ltb-false most_command_bytes (env_bytes ps) h))

command_fits : (rule : Option ℕ) (es : List Entry) (t : List ℕ) → command_of rule es ≡ Ok t → nat_le (length t) most_command_bytes ≡ true
command_fits rule es t e =
    let s = split (required_text rule (codes "command") es) short t e in
    text_fits (nat_lt most_command_bytes (length s.value)) s.value t refl s.rest

environment_fits : (rule : Option ℕ) (general : List Pair) (v : Option Value) (ps : List Pair) → environment_of rule general v ≡ Ok ps → nat_le (env_bytes ps) most_command_bytes ≡ true
environment_fits rule general v ps e =
    let s = split (variables_by rule v) (λ own. fitting (overlaid own general)) ps e in
    let all : List Pair = overlaid s.value general in
    pairs_fit (nat_lt most_command_bytes (env_bytes all)) all ps refl s.rest

-- ---- bounds

abbrev IsBounded : Output → Type 0
IsBounded o = is_at_most 67108864 o.bound ≡ true

abbrev FitsBound : SizeBound → Type 0
FitsBound line = IsTrue (nat_le line.bytes most_bytes)

bound_kept : (rule : Option ℕ) (es : Option (List Entry)) (o : Option ℕ) → bound_by rule es ≡ Ok o → is_at_most 67108864 o ≡ true
bound_kept rule None o e = let P : Option ℕ → Type 0 = λ o. is_at_most 67108864 o ≡ true in subst P (given None o e) refl
bound_kept rule (Some es) o e = field_kept rule (codes "size") 67108864 (find (codes "size") es) o e

output_bounded : (rule : Option ℕ) (v : Value) (o : Output) → output_of rule v ≡ Ok o → IsBounded o
output_bounded rule v o e =
    let f = split (file_of rule (codes "outputs") v) _ o e in
    let b = split (bound_by rule (entries_in v)) _ o f.rest in
    subst IsBounded (given _ o b.rest) (bound_kept rule (entries_in v) b.value b.first)

outputs_bounded : (rule : Option ℕ) (es : List Entry) (os : List Output) → outputs_of rule es ≡ Ok os → All IsBounded os
outputs_bounded rule es os e =
    let s = split (required rule (codes "outputs") (items_of rule (codes "outputs")) (find (codes "outputs") es)) _ os e in
    each_kept IsBounded (output_of rule) (output_bounded rule) s.value os s.rest

line_fits : (name : List ℕ) (o : Option ℕ) → is_at_most 67108864 o ≡ true → All FitsBound (bound_line name o)
line_fits name None h = All-nil FitsBound
line_fits name (Some n) h = All-cons FitsBound (record { name = name; bytes = n }) [] h (All-nil FitsBound)

bounds_fit : (os : List Output) → All IsBounded os → All FitsBound (bounds_in os)
bounds_fit [] h = All-nil FitsBound
bounds_fit (o ∷ os) h =
    All-append FitsBound (bound_line o.file.local o.bound) (bounds_in os) (line_fits o.file.local o.bound (head_of IsBounded o os h)) (bounds_fit os (tail_of IsBounded o os h))

-- ---- rules

record FitsRule (m : Made) : Type 0 where
  command : nat_le (length m.rule.command) most_command_bytes ≡ true
  env : nat_le (env_bytes m.rule.env) most_command_bytes ≡ true
  needs : fits_amounts m.rule.needs ≡ true
  bounds : All FitsBound m.bounds

record FitsAction (a : Action) : Type 0 where
  command : nat_le (length a.command) most_command_bytes ≡ true
  outputs : All IsBounded a.outputs

record FitsSetting (s : Setting) : Type 0 where
  env : nat_le (env_bytes s.env) most_command_bytes ≡ true
  needs : fits_amounts s.needs ≡ true

action_fits : (rule : Option ℕ) (es : List Entry) (a : Action) → action_of rule es ≡ Ok a → FitsAction a
action_fits rule es a e =
    let c = split (command_of rule es) _ a e in
    let o = split (outputs_of rule es) _ a c.rest in
    let i = split (inputs_of rule es) _ a o.rest in
    let l = split (local_of rule es) _ a i.rest in
    subst FitsAction (given _ a l.rest) (record { command = command_fits rule es c.value c.first; outputs = outputs_bounded rule es o.value o.first })

setting_fits : (g : General) (n : ℕ) (es : List Entry) (s : Setting) → All IsSmall g.categories → setting_of g n es ≡ Ok s → FitsSetting s
setting_fits g n es s small e =
    let c = split (optional_text (Some n) (codes "category") es) _ s e in
    let name : List ℕ = unwrap_or c.value g.category in
    let r = split (general_of n name g.categories) _ s c.rest in
    let v = split (environment_of (Some n) g.variables (find (codes "environment") es)) _ s r.rest in
    let o = split (resources_of (Some n) es) _ s v.rest in
    let general : AreSmall r.value = known_small n name (listed name g.categories) r.value (λ (x : Resources) h. listed_small name g.categories x small h) r.first in
    let all : AreSmall (over o.value r.value) = over_small o.value r.value (resources_small (Some n) (find (codes "resources") es) o.value o.first) general in
    subst FitsSetting (given _ s o.rest) (record {
      env = environment_fits (Some n) g.variables (find (codes "environment") es) v.value v.first;
      needs = needs_fit (over o.value r.value).cores (over o.value r.value).memory (over o.value r.value).disk all.cores all.memory all.disk;
    })

rule_fits : (g : General) → All IsSmall g.categories → (n : ℕ) (v : Value) (m : Made) → rule_of g n v ≡ Ok m → FitsRule m
rule_fits g small n v m e =
    let es = split (entries_of (Some n) (codes "rules") v) _ m e in
    let a = split (action_of (Some n) es.value) _ m es.rest in
    let s = split (setting_of g n es.value) _ m a.rest in
    let f = action_fits (Some n) es.value a.value a.first in
    let k = setting_fits g n es.value s.value small s.first in
    subst FitsRule (given _ m s.rest) (record { command = f.command; env = k.env; needs = k.needs; bounds = bounds_fit a.value.outputs f.outputs })

all_bounds : (ms : List Made) → All FitsRule ms → All FitsBound (bounds_of ms)
all_bounds [] h = All-nil FitsBound
all_bounds (m ∷ ms) h = All-append FitsBound m.bounds (bounds_of ms) (head_of FitsRule m ms h).bounds (all_bounds ms (tail_of FitsRule m ms h))

flow_fits : (kept : List (List ℕ)) (ms : List Made) → All FitsRule ms → FitsLimits (flow_by kept ms)
flow_fits kept ms h = record {
  commands = All-map (λ (rule : RawRule). IsTrue (nat_le (length rule.command) most_command_bytes)) (λ (m : Made). m.rule) ms
      (All-weaker FitsRule (λ (m : Made). IsTrue (nat_le (length m.rule.command) most_command_bytes)) (λ m f. f.command) ms h);
  envs = All-map (λ (rule : RawRule). IsTrue (nat_le (env_bytes rule.env) most_command_bytes)) (λ (m : Made). m.rule) ms
      (All-weaker FitsRule (λ (m : Made). IsTrue (nat_le (env_bytes m.rule.env) most_command_bytes)) (λ m f. f.env) ms h);
  amounts = All-map (λ (rule : RawRule). IsTrue (fits_amounts rule.needs)) (λ (m : Made). m.rule) ms
      (All-weaker FitsRule (λ (m : Made). IsTrue (fits_amounts m.rule.needs)) (λ m f. f.needs) ms h);
  bounds = all_bounds ms h;
}

-- ---- texts

general_small : (fs : Fields) (s : Scope) (n : ℕ) (g : General) → general_by fs s n ≡ Ok g → All IsSmall g.categories
general_small fs s n g e =
    let v = split (worth_of (codes "environment") fs s n) _ g e in
    let ps = split (variables_by None v.value.0) _ g v.rest in
    let c = split (worth_of (codes "categories") fs s v.value.1) _ g ps.rest in
    let cs = split (categories_by c.value.0) _ g c.rest in
    let d = split (worth_of (codes "default_category") fs s c.value.1) _ g cs.rest in
    let k = split (default_by d.value.0) _ g d.rest in
    let P : General → Type 0 = λ (g : General). All IsSmall g.categories in
    subst P (given _ g k.rest) (categories_small c.value.0 cs.value cs.first)

within_fits : (fs : Fields) (s : Scope) (n : ℕ) (flow : RawFlow) → flow_within fs s n ≡ Ok flow → FitsLimits flow
within_fits fs s n flow e =
    let items = split (items_by fs s n) _ flow e in
    let g = split (general_by fs s items.value.1) _ flow items.rest in
    let made = split (each_at (rule_of g.value) 0 items.value.0) _ flow g.rest in
    let small : All IsSmall g.value.categories = general_small fs s items.value.1 g.value g.first in
    subst FitsLimits (given _ flow made.rest) (flow_fits (kept_by s) made.value (each_at_kept FitsRule (rule_of g.value) (rule_fits g.value small) 0 items.value.0 made.value made.first))

tree_fits : (t : Tree) (flow : RawFlow) → flow_of t ≡ Ok flow → FitsLimits flow
tree_fits t flow e =
    let fs = split (held None [] (literal t)) flow_of_fields flow e in
    let d = split (defined_by (field_of (codes "define") fs.value)) _ flow fs.rest in
    within_fits fs.value d.value.0 d.value.1 flow d.rest

if_fits : (o : Result Derivation JxFault) (flow : RawFlow) → flow_if o ≡ Ok flow → FitsLimits flow
if_fits (Ok d) flow e = tree_fits (tree_of d) flow e
if_fits (Err f) flow e = absurd cc

pub flows_fit : FlowsFitTheirLimits
unfolding flow_of_text
flows_fit text flow e = if_fits (parsed (length text) (scan_of text)) flow e

-- what a call answered for this text
pub answer_fits : (answer : Found RawFlow) (text : List ℕ) → Gives (λ flow. flow) answer (flow_of_text text) → IfOk answer FitsLimits
answer_fits (Ok flow) text e = flows_fit text flow e
answer_fits (Err fault) text e = tt
