-- The takers of each file, and how many inputs each rule misses.
use Rattle.std.proofs.Common.{◌≡◌, ℕ, zero, suc, ◌+◌, ◌<◌, ◌≤◌, Bool, true, false, cond, not, ◌&&◌, ◌||◌, List, [], ◌∷◌, ◌++◌, length, take, drop, get_or, set, refl, ap, sym, ◌∙◌, arith, subst, All, get_or-set_same, get_or-set_other}
use Rattle.std.specs.Prelude.{map, count_by, sum_by, ◌==◌, nat_lt}
use Rattle.std.proofs.Math.ListN.{length-set}
use Rattle.std.proofs.lemmas.Bool.{eqb-true, eqb-false, eq-eqb, ne_eqb}
use Rattle.std.proofs.lemmas.List.{map-append, take_more}
use Rattle.std.proofs.lemmas.List.Sums.{sum_by-cons, sum_by-append}
use Rattle.std.proofs.lemmas.List.Elements.{All-set, All-append, All-cons, All-nil, All-get_or}
use Rattle.flow_types.specs.declared.plan.Plan.{Plan}
use Rattle.flow_types.specs.declared.plan.Port.{Port}
use Rattle.flow_types.specs.Plans.{takes, files_of, contains_number}
use Rattle.rule_graph.specs.Progress.{unmade, times_in, IsIndexBelow, IsIndex}

number_of : Port → ℕ
number_of port = port.file.0

pub times-push : (n : ℕ) (xs : List ℕ) (x : ℕ) → times_in n (xs ++ x ∷ []) ≡ times_in n xs + cond (x == n) 1 0
times-push n xs x =
    sum_by-append (λ y. cond (y == n) 1 0) xs (x ∷ [])
    ∙ (let e : sum_by (λ y. cond (y == n) 1 0) (x ∷ []) ≡ cond (x == n) 1 0 + sum_by (λ y. cond (y == n) 1 0) [] = sum_by-cons (λ y. cond (y == n) 1 0) x [] in
    let none : sum_by (λ (y : ℕ). cond (y == n) 1 0) [] ≡ 0 = refl in
    omega (arith, e, none))

pub files-more : (ports : List Port) (i : ℕ) (port : Port) → i < length ports → port ≡ get_or ports i port
    → files_of (take (i + 1) ports) ≡ files_of (take i ports) ++ port.file.0 ∷ []
unfolding number_of
files-more ports i port inside is =
    ap files_of (take_more ports i port inside)
    ∙ ap (λ p. files_of (take i ports ++ p ∷ [])) (sym is)
    ∙ map-append number_of (take i ports) (port ∷ [])

pub times-more : (f : ℕ) (ports : List Port) (i : ℕ) (port : Port) → i < length ports → port ≡ get_or ports i port
    → times_in f (files_of (take (i + 1) ports)) ≡ times_in f (files_of (take i ports)) + cond (port.file.0 == f) 1 0
times-more f ports i port inside is = ap (times_in f) (files-more ports i port inside is) ∙ times-push f (files_of (take i ports)) port.file.0

-- a row of a table after one row was set
row_at : (index : List (List ℕ)) (place f : ℕ) (row : List ℕ) (b : Bool) → (place == f) ≡ b → place < length index
    → get_or (set index place row) f [] ≡ cond b row (get_or index f [])
row_at index place f row true same inside =
    let e : f ≡ place = sym (eqb-true place f same) in
    ap (λ k. get_or (set index place row) k []) e ∙ get_or-set_same index place row [] inside
row_at index place f row false other inside =
    get_or-set_other index place f row [] (λ e. eqb-false place f other (sym e))

own_at : (index : List (List ℕ)) (place f rule : ℕ) (b : Bool) → (place == f) ≡ b → place < length index
    → times_in rule (get_or (set index place (get_or index place [] ++ rule ∷ [])) f []) ≡ times_in rule (get_or index f []) + cond b 1 0
own_at index place f rule true same inside =
    let e : place ≡ f = eqb-true place f same in
    ap (times_in rule) (row_at index place f (get_or index place [] ++ rule ∷ []) true same inside)
    ∙ times-push rule (get_or index place []) rule
    ∙ ap (λ b. times_in rule (get_or index place []) + cond b 1 0) (eq-eqb rule rule refl)
    ∙ ap (λ k. times_in rule (get_or index k []) + 1) e
own_at index place f rule false other inside =
    ap (times_in rule) (row_at index place f (get_or index place [] ++ rule ∷ []) false other inside)
    ∙ (let e : times_in rule (get_or index f []) ≡ times_in rule (get_or index f []) + 0 = omega arith in e)

pub own_more : (index : List (List ℕ)) (place f rule : ℕ) → place < length index
    → times_in rule (get_or (set index place (get_or index place [] ++ rule ∷ [])) f []) ≡ times_in rule (get_or index f []) + cond (place == f) 1 0
own_more index place f rule inside = own_at index place f rule (place == f) refl inside

other_at : (index : List (List ℕ)) (place f rule t : ℕ) (b : Bool) → (place == f) ≡ b → place < length index → (rule == t) ≡ false
    → times_in t (get_or (set index place (get_or index place [] ++ rule ∷ [])) f []) ≡ times_in t (get_or index f [])
other_at index place f rule t true same inside other =
    let e : place ≡ f = eqb-true place f same in
    ap (times_in t) (row_at index place f (get_or index place [] ++ rule ∷ []) true same inside)
    ∙ times-push t (get_or index place []) rule
    ∙ ap (λ b. times_in t (get_or index place []) + cond b 1 0) other
    ∙ (let none : times_in t (get_or index place []) + 0 ≡ times_in t (get_or index place []) = omega arith in none)
    ∙ ap (λ k. times_in t (get_or index k [])) e
other_at index place f rule t false differs inside other =
    ap (times_in t) (row_at index place f (get_or index place [] ++ rule ∷ []) false differs inside)

pub others_same : (index : List (List ℕ)) (place f rule t : ℕ) → place < length index → (rule == t) ≡ false
    → times_in t (get_or (set index place (get_or index place [] ++ rule ∷ [])) f []) ≡ times_in t (get_or index f [])
others_same index place f rule t inside other = other_at index place f rule t (place == f) refl inside other

pub inside_more : (index : List (List ℕ)) (place rule n : ℕ) → place < length index → rule < n → All (All (λ t. t < n)) index
    → All (All (λ t. t < n)) (set index place (get_or index place [] ++ rule ∷ []))
inside_more index place rule n inside low all =
    All-set (All (λ t. t < n)) index place (get_or index place [] ++ rule ∷ [])
    (All-append (λ t. t < n) (get_or index place []) (rule ∷ []) (All-get_or (All (λ t. t < n)) index place [] inside all)
    (All-cons (λ t. t < n) rule [] low (All-nil (λ t. t < n))))
    all

-- a file more is made
mark_at : (made : List Bool) (place f rest rest' here : ℕ) (b : Bool) → (f == place) ≡ b → get_or made place false ≡ false → place < length made
    → rest ≡ rest' + here
    → cond (not (get_or made f false)) 1 0 + rest ≡ cond (not (get_or (set made place true) f false)) 1 0 + rest' + (cond b 1 0 + here)
mark_at made place f rest rest' here true same fresh inside counts =
    let e : f ≡ place = eqb-true f place same in
    let before : cond (not (get_or made f false)) 1 0 ≡ 1 = ap (λ b. let n : ℕ = cond (not b) 1 0 in n) (ap (λ k. get_or made k false) e ∙ fresh) in
    let after : cond (not (get_or (set made place true) f false)) 1 0 ≡ 0 =
    ap (λ b. let n : ℕ = cond (not b) 1 0 in n) (ap (λ k. get_or (set made place true) k false) e ∙ get_or-set_same made place true false inside) in
    omega (arith, before, after, counts)
mark_at made place f rest rest' here false other fresh inside counts =
    let kept : cond (not (get_or (set made place true) f false)) 1 0 ≡ cond (not (get_or made f false)) 1 0 =
    ap (λ b. let n : ℕ = cond (not b) 1 0 in n) (get_or-set_other made place f true false (λ e. eqb-false f place other e)) in
    omega (arith, kept, counts)

pub unmade-mark : (made : List Bool) (place : ℕ) (files : List ℕ) → get_or made place false ≡ false → place < length made
    → unmade made files ≡ unmade (set made place true) files + times_in place files
unmade-mark made place [] fresh inside = refl
unmade-mark made place (f ∷ files) fresh inside =
    let rest : unmade made files ≡ unmade (set made place true) files + times_in place files = unmade-mark made place files fresh inside in
    let e : unmade made (f ∷ files) ≡ cond (not (get_or made f false)) 1 0 + unmade made files = sum_by-cons (λ f. cond (not (get_or made f false)) 1 0) f files in
    let e' : unmade (set made place true) (f ∷ files) ≡ cond (not (get_or (set made place true) f false)) 1 0 + unmade (set made place true) files =
    sum_by-cons (λ f. cond (not (get_or (set made place true) f false)) 1 0) f files in
    let t : times_in place (f ∷ files) ≡ cond (f == place) 1 0 + times_in place files = sum_by-cons (λ y. cond (y == place) 1 0) f files in
    let step = mark_at made place f (unmade made files) (unmade (set made place true) files) (times_in place files) (f == place) refl fresh inside rest in
    omega (arith, e, e', t, step)

pub port_inside : (n : ℕ) (ports items : List Port) (i : ℕ) (port : Port) → items ≡ ports → All (λ port. port.file.0 < n) ports → i < length items
    → port ≡ get_or items i port → port.file.0 < n
port_inside n ports items i port same all inside is =
    let P : Port → Type 0 = λ port. port.file.0 < n in
    subst P (sym is) (subst (All P) (sym same) all i port inside)

-- one taker more noted
pub takers_step : (old new : List (List ℕ)) (place rule f : ℕ) (so_far : ℕ) (items : List Port) (i : ℕ) (port : Port)
    → place < length old → new ≡ set old place (get_or old place [] ++ rule ∷ []) → i < length items → port ≡ get_or items i port → place ≡ port.file.0
    → times_in rule (get_or old f []) ≡ so_far + times_in f (files_of (take i items))
    → times_in rule (get_or new f []) ≡ so_far + times_in f (files_of (take (i + 1) items))
takers_step old new place rule f so_far items i port inside is at_i here at_place before =
    let now : times_in rule (get_or new f []) ≡ times_in rule (get_or old f []) + cond (place == f) 1 0 = ap (λ index. times_in rule (get_or index f [])) is ∙ own_more old place f rule inside in
    let files : times_in f (files_of (take (i + 1) items)) ≡ times_in f (files_of (take i items)) + cond (place == f) 1 0 =
    times-more f items i port at_i here ∙ ap (λ k. times_in f (files_of (take i items)) + cond (k == f) 1 0) (sym at_place) in
    omega (arith, now, files, before)
