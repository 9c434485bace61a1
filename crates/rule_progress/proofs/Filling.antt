-- The takers of the files of a plan, rule by rule and port by port.
use Rattle.std.proofs.Common.{◌≡◌, ℕ, zero, suc, ◌+◌, ◌<◌, ◌≤◌, ◌∙◌, Bool, true, false, cond, List, [], ◌∷◌, ◌++◌, length, get_or, drop, drop-cons, replicate, refl, ap, sym, arith}
use Rattle.std.specs.Prelude.{◌==◌, nat_lt, slice_get, slice_index_or, slice_set}
use Rattle.std.specs.Option.{option_map_or}
use Rattle.std.proofs.lemmas.Bool.{eqb-true, eqb-false, lt-leb, le-leb, ltb-true, ltb-false}
use Rattle.std.proofs.lemmas.List.{get_or-set_same, get_or-set_other, length-set, length-replicate}
use Rattle.flow_types.specs.declared.plan.Plan.{Plan}
use Rattle.flow_types.specs.declared.plan.Port.{Port}
use Rattle.flow_types.specs.declared.plan.Rule.{Rule}
use Rattle.flow_types.specs.Plans.{files_of, takes}
use Rattle.ready_rules.specs.Takings.{AreTakers, takers_in, times}
use Rattle.rule_progress.specs.Progress.{only}

-- the ports before place i were gone through
pub record IsAdding (before : List (List ℕ)) (ports : List Port) (rule i : ℕ) (now : List (List ℕ)) : Type 0 where
  pub same : length now ≡ length before
  pub takers : (f r : ℕ) → times r (takers_in now f) + only rule r (times f (files_of (drop i ports))) ≡ times r (takers_in before f) + only rule r (times f (files_of ports))

-- the rules from number i on were gone through
pub record IsFilled (P : Plan) (i : ℕ) (now : List (List ℕ)) : Type 0 where
  pub within : i ≤ length P.rules
  pub same : length now ≡ length P.files
  pub takers : (f r : ℕ) → times r (takers_in now f) ≡ cond (nat_lt r i) 0 (times f (takes P r))

abbrev one_of : ℕ → ℕ → ℕ
one_of x r = cond (x == r) 1 0

times_append : (r : ℕ) (xs ys : List ℕ) → times r (xs ++ ys) ≡ times r xs + times r ys
times_append r [] ys = omega arith
times_append r (x ∷ xs) ys = let rest : times r (xs ++ ys) ≡ times r xs + times r ys = times_append r xs ys in omega (arith, rest)

drop_end : (ports : List Port) (i : ℕ) → length ports ≤ i → drop i ports ≡ []
drop_end [] zero past = refl
drop_end [] (suc i) past = refl
drop_end (p ∷ ps) zero past = absurd (let wrong : ⊥ = omega (arith, past) in wrong)
drop_end (p ∷ ps) (suc i) past = drop_end ps i (omega (arith, past))

ports_from : (ports : List Port) (i : ℕ) (port : Port) → i < length ports → get_or ports i port ≡ port → files_of (drop i ports) ≡ port.file.0 ∷ files_of (drop (i + 1) ports)
ports_from ports i port inside here =
    let next : suc i ≡ i + 1 = omega arith in
    ap files_of (drop-cons ports i port inside ∙ ap (λ x. x ∷ drop (suc i) ports) here ∙ ap (λ n. port ∷ drop n ports) next)

pub adding-first : (before : List (List ℕ)) (ports : List Port) (rule : ℕ) → IsAdding before ports rule 0 before
adding-first before ports rule = record { same = refl; takers = λ f r. refl }

pub adding-last : (before now : List (List ℕ)) (ports : List Port) (rule i f r : ℕ) → length ports ≤ i → IsAdding before ports rule i now → times r (takers_in now f) ≡ times r (takers_in before f) + only rule r (times f (files_of ports))
adding-last before now ports rule i f r past is =
    let none : only rule r (times f (files_of (drop i ports))) ≡ only rule r 0 = ap (λ (ps : List Port). only rule r (times f (files_of ps))) (drop_end ports i past) in
    let zero_is : only rule r 0 ≡ 0 = nothing (rule == r) 0 refl in
    omega (arith, is.takers f r, none, zero_is)
  where
    nothing : (b : Bool) (n : ℕ) → n ≡ 0 → cond b n 0 ≡ 0
    nothing true n is_none = is_none
    nothing false n is_none = refl

pub adding-step : (before now : List (List ℕ)) (ports : List Port) (rule i : ℕ) (port : Port) → i < length ports → get_or ports i port ≡ port → port.file.0 < length now → IsAdding before ports rule i now
    → IsAdding before ports rule (i + 1) (slice_set now port.file.0 (takers_in now port.file.0 ++ (rule ∷ [])))
adding-step before now ports rule i port inside here less is = record {
  same = length-set now port.file.0 more ∙ is.same;
  takers = λ f r. by_file f r (port.file.0 == f) (rule == r) refl refl;
}
  where
    g : ℕ
    g = port.file.0

    more : List ℕ
    more = takers_in now port.file.0 ++ (rule ∷ [])

    after : List (List ℕ)
    after = slice_set now port.file.0 (takers_in now port.file.0 ++ (rule ∷ []))

    left : ℕ → ℕ
    left f = times f (files_of (drop (i + 1) ports))

    front : (f : ℕ) (b : Bool) → (port.file.0 == f) ≡ b → times f (files_of (drop i ports)) ≡ cond b 1 0 + times f (files_of (drop (i + 1) ports))
    front f b same = ap (times f) (ports_from ports i port inside here) ∙ ap (λ c. cond c 1 0 + times f (files_of (drop (i + 1) ports))) same

    added : (f r : ℕ) → (port.file.0 == f) ≡ true → times r (takers_in after f) ≡ times r (takers_in now f) + one_of rule r
    added f r same =
        let at : takers_in after f ≡ takers_in now port.file.0 ++ (rule ∷ []) = ap (takers_in after) (sym (eqb-true port.file.0 f same)) ∙ get_or-set_same now port.file.0 (takers_in now port.file.0 ++ (rule ∷ [])) [] less in
        let one : times r (rule ∷ []) ≡ one_of rule r = (let none : one_of rule r + 0 ≡ one_of rule r = omega arith in none) in
        ap (times r) at ∙ times_append r (takers_in now port.file.0) (rule ∷ []) ∙ ap (λ n. times r (takers_in now port.file.0) + n) one ∙ ap (λ k. times r (takers_in now k) + one_of rule r) (eqb-true port.file.0 f same)

    by_file : (f r : ℕ) (b c : Bool) → (port.file.0 == f) ≡ b → (rule == r) ≡ c
        → times r (takers_in after f) + only rule r (times f (files_of (drop (i + 1) ports))) ≡ times r (takers_in before f) + only rule r (times f (files_of ports))
    by_file f r true true same own =
        let first : only rule r (times f (files_of (drop i ports))) ≡ times f (files_of (drop i ports)) = ap (λ d. cond d (times f (files_of (drop i ports))) 0) own in
        let second : only rule r (times f (files_of (drop (i + 1) ports))) ≡ times f (files_of (drop (i + 1) ports)) = ap (λ d. cond d (times f (files_of (drop (i + 1) ports))) 0) own in
        let one : one_of rule r ≡ 1 = ap (λ d. cond d 1 0) own in
        omega (arith, first, second, one, added f r same, front f true same, is.takers f r)
    by_file f r true false same other =
        let first : only rule r (times f (files_of (drop i ports))) ≡ 0 = ap (λ d. cond d (times f (files_of (drop i ports))) 0) other in
        let second : only rule r (times f (files_of (drop (i + 1) ports))) ≡ 0 = ap (λ d. cond d (times f (files_of (drop (i + 1) ports))) 0) other in
        let none : one_of rule r ≡ 0 = ap (λ d. cond d 1 0) other in
        omega (arith, first, second, none, added f r same, is.takers f r)
    by_file f r false c other own =
        let apart : f ≡ port.file.0 → ⊥ = λ bad. eqb-false port.file.0 f other (sym bad) in
        let at : times r (takers_in after f) ≡ times r (takers_in now f) = ap (times r) (get_or-set_other now port.file.0 f (takers_in now port.file.0 ++ (rule ∷ [])) [] apart) in
        let next : times f (files_of (drop i ports)) ≡ times f (files_of (drop (i + 1) ports)) = (let it = front f false other in omega (arith, it)) in
        let same : only rule r (times f (files_of (drop i ports))) ≡ only rule r (times f (files_of (drop (i + 1) ports))) = ap (only rule r) next in
        omega (arith, at, same, is.takers f r)

none_in : (n f r : ℕ) (none : List ℕ) → none ≡ [] → times r (slice_index_or (replicate n none) f []) ≡ 0
none_in zero f r none is = refl
none_in (suc n) zero r none is = ap (times r) is
none_in (suc n) (suc f) r none is = none_in n f r none is

past_end : (rules : List Rule) (r : ℕ) → length rules ≤ r → option_map_or (λ (rule : Rule). files_of rule.inputs) (slice_get rules r) [] ≡ []
past_end [] r past = refl
past_end (x ∷ xs) zero past = absurd (let wrong : ⊥ = omega (arith, past) in wrong)
past_end (x ∷ xs) (suc r) past = past_end xs r (omega (arith, past))

-- no rule beyond the last takes a file
pub takes-past : (P : Plan) (r : ℕ) → length P.rules ≤ r → takes P r ≡ []
takes-past P r past = past_end P.rules r past

pub filled-first : (P : Plan) (i : ℕ) (now : List (List ℕ)) (none : List ℕ) → i ≡ length P.rules → none ≡ [] → now ≡ replicate (length P.files) none → IsFilled P i now
filled-first P i now none all empty is = record {
  within = omega (arith, all);
  same = ap length is ∙ length-replicate (length P.files) none;
  takers = λ f r. ap (λ ts. times r (takers_in ts f)) is ∙ none_in (length P.files) f r none empty ∙ by_side f r (nat_lt r i) refl;
}
  where
    by_side : (f r : ℕ) (b : Bool) → nat_lt r i ≡ b → (let nothing : ℕ = 0 in nothing) ≡ cond (nat_lt r i) 0 (times f (takes P r))
    by_side f r true less = sym (ap (λ d. cond d 0 (times f (takes P r))) less)
    by_side f r false far =
        let past : i ≤ r = ltb-false r i far in
        sym (ap (λ d. cond d 0 (times f (takes P r))) far ∙ ap (times f) (takes-past P r (omega (arith, past, all))))

pub filled-step : (P : Plan) (i j : ℕ) (now after : List (List ℕ)) (files : List ℕ) → i ≡ j + 1 → files ≡ takes P j → length after ≡ length now
    → ((f r : ℕ) → times r (takers_in after f) ≡ times r (takers_in now f) + only j r (times f files)) → IsFilled P i now → IsFilled P j after
filled-step P i j now after files one are long more is = record {
  within = omega (arith, one, is.within);
  same = long ∙ is.same;
  takers = λ f r. more f r ∙ by_rule f r (j == r) refl;
}
  where
    by_rule : (f r : ℕ) (b : Bool) → (j == r) ≡ b → times r (takers_in now f) + only j r (times f files) ≡ cond (nat_lt r j) 0 (times f (takes P r))
    by_rule f r true same =
        let this : j ≡ r = eqb-true j r same in
        let mine : only j r (times f files) ≡ times f (takes P r) = ap (λ d. cond d (times f files) 0) same ∙ ap (times f) are ∙ ap (λ k. times f (takes P k)) this in
        let before : times r (takers_in now f) ≡ 0 = is.takers f r ∙ ap (λ d. cond d 0 (times f (takes P r))) (le-leb (suc r) i (omega (arith, one, this))) in
        let now_is : cond (nat_lt r j) 0 (times f (takes P r)) ≡ times f (takes P r) = ap (λ d. cond d 0 (times f (takes P r))) (lt-leb (suc r) j (omega (arith, this))) in
        omega (arith, mine, before, now_is)
    by_rule f r false other =
        let apart : j ≡ r → ⊥ = eqb-false j r other in
        let mine : only j r (times f files) ≡ 0 = ap (λ d. cond d (times f files) 0) other in
        let same : cond (nat_lt r i) 0 (times f (takes P r)) ≡ cond (nat_lt r j) 0 (times f (takes P r)) = ap (λ d. cond d 0 (times f (takes P r))) (side (nat_lt r j) refl apart) in
        omega (arith, mine, is.takers f r, same)
      where
        side : (b : Bool) → nat_lt r j ≡ b → (j ≡ r → ⊥) → nat_lt r i ≡ nat_lt r j
        side true less apart_is = (let below : r < j = ltb-true r j less in le-leb (suc r) i (omega (arith, below, one))) ∙ sym less
        side false far apart_is = (let past : j ≤ r = ltb-false r j far in lt-leb (suc r) i (omega (arith, past, one, apart_is))) ∙ sym far

pub filled-last : (P : Plan) (i : ℕ) (now : List (List ℕ)) → i ≤ 0 → IsFilled P i now → AreTakers P now
filled-last P i now none is = record {
  files = is.same;
  ports = λ f r. is.takers f r ∙ ap (λ d. cond d 0 (times f (takes P r))) (lt-leb (suc r) i (omega (arith, none)));
}
