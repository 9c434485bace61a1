-- What stands behind an assignment and behind a marking.
use Rattle.std.proofs.Common.{◌≡◌, ℕ, ◌+◌, ◌<◌, Bool, true, false, cond, ◌&&◌, ◌||◌, nat_lt, nat_le, List, [], ◌∷◌, ◌++◌, length, take, drop, get_or, Option, Some, None, unwrap_or, is_some, Result, Ok, Err, refl, sym, ap, ◌∙◌, codes}
use Rattle.std.proofs.lemmas.List.{append-nil, drop_more, take_more}
use Rattle.std.specs.Option.{option_map}
use Rattle.std.specs.List.{list_all, list_any}
use Rattle.std.specs.FinMap as finite
use Rattle.std.specs.Str.{bytes_eq}
use Rattle.std.specs.Ordering.{nat_cmp, eq_by_cmp, is_eq}
use Rattle.std.specs.Cmp.{tied_itself}
use Rattle.std.specs.Cmp.Lexicographic.{slice_cmp, nat_list_cmp_total}
use Rattle.mf_text.specs.declared.fault.MakeFault.{MakeFault}
use Rattle.mf_text.specs.declared.fault.MakeFault.TheVariants.{UnknownName, BadNumber}
use Rattle.mf_text.specs.Answers.{Fails}
use Rattle.mf_text.specs.Names.{Values, behind_old}
use Rattle.mf_forms.specs.declared.form.Form.TheVariants as form
use Rattle.mf_forms.specs.declared.form.Resource.{Resource}
use Rattle.mf_forms.specs.Forms.{or_else}
use Rattle.mf_forms.specs.Numbers.{is_digit, decimal_value}
use Rattle.mf_rules.specs.declared.steps.Formed.{Formed}
use Rattle.mf_rules.specs.declared.variables.Variables.{Variables}
use Rattle.mf_rules.specs.declared.categories.Categories.{Categories}
use Rattle.mf_rules.specs.declared.reader.Reader.{Reader}
use Rattle.mf_rules.specs.Tables.{NameSet, set_of}
use Rattle.mf_rules.specs.Values.{first_pair, or_given, or_text, assigned, text_value, expanded_at, marked_at}
use Rattle.mf_rules.specs.Categories.{amount_in, amount_by, category_at, setting_by}
use Rattle.mf_rules.specs.Faults.{least, first_unknown, setting_faults, where_true}
use Rattle.mf_rules.specs.Progress.{Stands, HoldsVariables, HoldsCategories, Assigns, Marks, Heeds, amounts_of, set_by_variable, refused}
use Rattle.mf_rules.proofs.NumberLemmas.{same_either_way}
use Rattle.mf_rules.proofs.NameLemmas.{in_set, in_insert, same_set}
use Rattle.mf_rules.proofs.VariableLemmas.{get_put, same_functions}
use Rattle.mf_rules.proofs.FaultLemmas.{along}

-- ---- a text that is no number

and_false : (x y : Bool) → ((x && false) && y) ≡ false
and_false true y = refl
and_false false y = refl

either_false : (x : Bool) → (x && false) ≡ false
either_false true = refl
either_false false = refl

not_digits : (old : List ℕ) → list_all is_digit (old ++ 32 ∷ []) ≡ false
not_digits [] = refl
not_digits (c ∷ old) = ap (λ (b : Bool). is_digit c && b) (not_digits old) ∙ either_false (is_digit c)

-- nothing behind an old value is no number
pub no_amount : (old : Option (List ℕ)) → amount_in (behind_old old []) ≡ None
no_amount None = refl
no_amount (Some old) =
    let text : List ℕ = old ++ 32 ∷ [] in
    let sized : Bool = nat_lt 0 (length text) && nat_le (length text) 10 in
    let small : Bool = nat_le (decimal_value text) 1000000000 in
    ap (λ (b : Bool). cond ((sized && b) && small) (Some (decimal_value text)) None) (not_digits old)
    ∙ ap (λ (b : Bool). cond b (Some (decimal_value text)) None) (and_false sized small)

pub no_setting : (n : ℕ) (wanted : Option Resource) (value : List ℕ) → amount_in value ≡ None
    → setting_faults n (option_map (λ (set : Resource). (set, value)) wanted) ≡ where_true (is_some wanted) (BadNumber n) ++ []
no_setting n None value is = refl
no_setting n (Some set) value is = rw is refl

-- ---- values behind an assignment

had_by : (o : Option (List ℕ)) (b : Bool) (g p : Option (List ℕ)) → b ≡ is_some o → g ≡ or_given o p → cond b g None ≡ o
had_by None b g p e f = rw e refl
had_by (Some v) b g p e f = rw e f

put_given : (b : Bool) (v : List ℕ) (t p : Option (List ℕ)) → cond b (Some v) (or_given t p) ≡ or_given (cond b (Some v) t) p
put_given true v t p = refl
put_given false v t p = refl

put_some : (b : Bool) (v : List ℕ) (t : Option (List ℕ)) → (b || is_some t) ≡ is_some (cond b (Some v) t)
put_some true v t = refl
put_some false v t = refl

entered : (b : Bool) (v old : List ℕ) → cond b v old ≡ unwrap_or (cond b (Some v) None) old
entered true v old = refl
entered false v old = refl

module _ (env : List (List ℕ × List ℕ)) (earlier : List Formed) (n : ℕ) (marks : Bool) (name : List ℕ) (appends : Bool) (text value : List ℕ) where
  given_value : List ℕ
  given_value = assigned env (text_value env earlier) name appends n text

  after_line : List Formed
  after_line = record { number = n; form = form.Assignment marks name appends text } ∷ earlier

  put_value : Variables → List ℕ
  put_value old = behind_old (cond appends (cond (finite.contains_key old.of_text name) (finite.get old.values name) None) None) value

  -- the value that is put in is the one that the assignment gives
  value_is : (old : Variables) → HoldsVariables env earlier old → expanded_at env earlier n text ≡ Ok value → put_value old ≡ given_value
  unfolding given_value put_value
  value_is old h is =
      ap (λ (o : Option (List ℕ)). behind_old (cond appends o None) value)
      (had_by (text_value env earlier name) (finite.contains_key old.of_text name) (finite.get old.values name) (first_pair env name) (h.of_text name) (ap (λ (f : List ℕ → Option (List ℕ)). f name) h.values))
      ∙ ap (λ (v : List ℕ). behind_old (cond appends (text_value env earlier name) None) v) (sym (ap or_text is))

  holds_assigned : (old new : Variables) → HoldsVariables env earlier old → expanded_at env earlier n text ≡ Ok value → Assigns old marks name appends value new
      → HoldsVariables env after_line new
  unfolding given_value after_line put_value
  holds_assigned old new h is puts = record {
    values = ap (λ (m : Values). finite.get m) (puts.values ∙ ap (λ (v : List ℕ). finite.insert old.values name v) (value_is old h is))
        ∙ same_functions (λ x. get_put old.values name given_value x
        ∙ ap (λ (f : List ℕ → Option (List ℕ)). cond (bytes_eq name x) (Some given_value) (f x)) h.values
        ∙ put_given (bytes_eq name x) given_value (text_value env earlier x) (first_pair env x));
    of_text = λ x. ap (λ (s : NameSet). finite.contains_key s x) puts.of_text ∙ in_insert old.of_text name x
        ∙ ap (λ (b : Bool). b || finite.contains_key old.of_text x) (sym (same_either_way name x))
        ∙ ap (λ (b : Bool). bytes_eq name x || b) (h.of_text x)
        ∙ put_some (bytes_eq name x) given_value (text_value env earlier x);
    marked = puts.marked ∙ elim marks as (λ (b : Bool). cond b (finite.insert old.marked name tt) old.marked ≡ set_of (marked_at (record { number = n; form = form.Assignment b name appends text } ∷ earlier))) [
      | true ↦ ap (λ (s : NameSet). finite.insert s name tt) h.marked
      | false ↦ h.marked
    ];
  }

  holds_heeded : (old new : Categories) (shown : List ℕ) → HoldsCategories env earlier old → Heeds old name shown new → shown ≡ given_value → HoldsCategories env after_line new
  unfolding given_value after_line
  holds_heeded old new shown h heeds is = record {
    current = heeds.current
        ∙ ap (λ (c : List ℕ). cond (bytes_eq name (codes "CATEGORY")) shown c) h.current
        ∙ ap (λ (v : List ℕ). cond (bytes_eq name (codes "CATEGORY")) v (category_at env earlier)) is
        ∙ entered (bytes_eq name (codes "CATEGORY")) given_value (category_at env earlier);
    amounts = λ wanted x. heeds.amounts wanted x
        ∙ ap (λ (c : List ℕ). or_else (amount_by wanted x c (set_by_variable name shown)) (finite.get (amounts_of wanted old) x)) h.current
        ∙ ap (λ (v : List ℕ). or_else (amount_by wanted x (category_at env earlier) (set_by_variable name v)) (finite.get (amounts_of wanted old) x)) is
        ∙ ap (λ (o : Option ℕ). or_else (amount_by wanted x (category_at env earlier) (set_by_variable name given_value)) o) (h.amounts wanted x);
  }

  shown_is : (old new : Variables) (shown : List ℕ) → HoldsVariables env earlier old → expanded_at env earlier n text ≡ Ok value → Assigns old marks name appends value new
      → shown ≡ unwrap_or (finite.get new.values name) [] → shown ≡ given_value
  unfolding given_value put_value
  shown_is old new shown h is puts shows =
      let itself : eq_by_cmp (slice_cmp nat_cmp) name name ≡ true = ap is_eq (tied_itself nat_list_cmp_total name) in
      shows
      ∙ ap (λ (m : Values). unwrap_or (finite.get m name) []) (puts.values ∙ ap (λ (v : List ℕ). finite.insert old.values name v) (value_is old h is))
      ∙ ap (λ (o : Option (List ℕ)). unwrap_or o []) (finite.get-insert nat_list_cmp_total old.values name given_value name)
      ∙ ap (λ (b : Bool). unwrap_or (cond b (Some given_value) (finite.get old.values name)) []) itself

  pub stands_assigned : (old : Reader) (variables : Variables) (categories : Categories) (shown : List ℕ) → Stands env earlier old → expanded_at env earlier n text ≡ Ok value
      → Assigns old.variables marks name appends value variables → shown ≡ unwrap_or (finite.get variables.values name) [] → Heeds old.categories name shown categories
      → Stands env (record { number = n; form = form.Assignment marks name appends text } ∷ earlier) (record old { variables = variables; categories = categories })
  unfolding after_line
  stands_assigned old variables categories shown s is puts shows heeds = record {
    variables = holds_assigned old.variables variables s.variables is puts;
    categories = holds_heeded old.categories categories shown s.categories heeds (shown_is old.variables variables shown s.variables is puts shows);
    waiting = s.waiting;
    drafts = s.drafts ∙ sym (append-nil _);
    bounds = s.bounds ∙ sym (append-nil _);
  }

  -- what the variable sets is what the line sets
  pub settings_are : (old new : Variables) (shown : List ℕ) → HoldsVariables env earlier old → expanded_at env earlier n text ≡ Ok value → Assigns old marks name appends value new
      → shown ≡ unwrap_or (finite.get new.values name) []
      → set_by_variable name shown ≡ setting_by env (form.Assignment marks name appends text) n earlier
  unfolding given_value
  settings_are old new shown h is puts shows = ap (λ (v : List ℕ). set_by_variable name v) (shown_is old new shown h is puts shows)

-- ---- names that are marked

or_swap : (a b c : Bool) → (a || (b || c)) ≡ (b || (a || c))
or_swap true true c = refl
or_swap true false c = refl
or_swap false b c = refl

any_push : (p : List ℕ → Bool) (xs ms : List (List ℕ)) (x : List ℕ) → (p x || list_any p (xs ++ ms)) ≡ list_any p ((xs ++ x ∷ []) ++ ms)
any_push p [] ms x = refl
any_push p (y ∷ xs) ms x = or_swap (p x) (p y) (list_any p (xs ++ ms)) ∙ ap (λ (b : Bool). p y || b) (any_push p xs ms x)

set_push : (xs ms : List (List ℕ)) (x : List ℕ) → finite.insert (set_of (xs ++ ms)) x tt ≡ set_of ((xs ++ x ∷ []) ++ ms)
set_push xs ms x = same_set (finite.insert (set_of (xs ++ ms)) x tt) (set_of ((xs ++ x ∷ []) ++ ms)) (λ q.
    in_insert (set_of (xs ++ ms)) x q
    ∙ ap (λ (b : Bool). eq_by_cmp (slice_cmp nat_cmp) q x || b) (in_set (xs ++ ms) q)
    ∙ any_push (eq_by_cmp (slice_cmp nat_cmp) q) xs ms x
    ∙ sym (in_set ((xs ++ x ∷ []) ++ ms) q))

-- one name more of those that are marked
pub marked_more : (names ms : List (List ℕ)) (i : ℕ) (name : List ℕ) (old new : NameSet) → i < length names → name ≡ get_or names i name
    → old ≡ set_of (take i names ++ ms) → new ≡ finite.insert old name tt → new ≡ set_of (take (i + 1) names ++ ms)
marked_more names ms i name old new lt is before puts =
    puts ∙ ap (λ (s : NameSet). finite.insert s name tt) before ∙ set_push (take i names) ms name
    ∙ ap (λ (l : List (List ℕ)). set_of (l ++ ms)) (ap (λ (x : List ℕ). take i names ++ x ∷ []) is ∙ sym (take_more names i name lt))

-- the names from one of them on
pub names_from : (names : List (List ℕ)) (i : ℕ) (name : List ℕ) → i < length names → name ≡ get_or names i name → drop i names ≡ name ∷ drop (i + 1) names
names_from names i name lt is = drop_more names i name lt ∙ ap (λ (x : List ℕ). x ∷ drop (i + 1) names) (sym is)

pub known_name : (value : List ℕ → Option (List ℕ)) (n : ℕ) (name : List ℕ) (more : List (List ℕ)) → is_some (value name) ≡ true
    → first_unknown value n (name ∷ more) ≡ first_unknown value n more
known_name value n name more has = rw has refl

never : (fault : MakeFault) → ◌≡◌ {A = Result (Unit {0}) MakeFault} (Ok tt) (Err fault) → ⊥
never fault e = cc

-- the fault of a name is that of the line
pub unknown_name : (fault : MakeFault) (value : List ℕ → Option (List ℕ)) (n : ℕ) (name : List ℕ) (more : List (List ℕ)) (b : Bool) → is_some (value name) ≡ b
    → Fails {Y = Unit {0}} fault (cond b (Ok tt) (Err (UnknownName n name))) → Fails fault (refused (least (first_unknown value n (name ∷ more))))
unknown_name fault value n name more true is h = along {Y = Unit {0}} {Z = Unit {0}} fault (Ok tt) (refused (least (first_unknown value n (name ∷ more)))) (λ e. absurd (never fault e)) h
unknown_name fault value n name more false is h = rw is h

pub stands_marked : (env : List (List ℕ × List ℕ)) (earlier : List Formed) (old : Reader) (n : ℕ) (names : List (List ℕ)) (variables : Variables) → Stands env earlier old
    → Marks old.variables names variables → Stands env (record { number = n; form = form.Marking names } ∷ earlier) (record old { variables = variables })
stands_marked env earlier old n names variables s marks = record {
  variables = record {
    values = ap (λ (m : Values). finite.get m) marks.values ∙ s.variables.values;
    of_text = λ x. ap (λ (t : NameSet). finite.contains_key t x) marks.of_text ∙ s.variables.of_text x;
    marked = marks.marked (marked_at earlier) s.variables.marked;
  };
  categories = record { current = s.categories.current; amounts = s.categories.amounts };
  waiting = s.waiting;
  drafts = s.drafts ∙ sym (append-nil _);
  bounds = s.bounds ∙ sym (append-nil _);
}
