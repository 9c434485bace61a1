use Rattle.std.proofs.Common.{rules, ◌≡◌, ℕ, List, String, Global, Option, Some, None, sym, ap, ◌∙◌, string_bytes}
use Rattle.std.specs.Option.{option_map}
use Rattle.std.specs.FinMap as map
use Rattle.mf_text.specs.Names.{Values, behind_old}
use Rattle.std.specs.BTreeMap.{BTreeMap}
use Rattle.mf_text.proofs.ScopeLemmas.{seen, get-seen, insert-seen_at, insert-same, on_ok, on_err}
use Rattle.mf_text.proofs.scope.Scope.append.Goals as goal

pub returns-in-Some-clause-ok : goal.returns-in-Some-clause-ok
returns-in-Some-clause-ok c =
    let w : String Global = c.put_behind.new.text in
    let k : List ℕ = c.args.name.now in
    let v : List ℕ = c.args.value.now in
    let has : map.get c.args.self.now k ≡ Some (string_bytes c.in-Some.old.now) =
    sym (ap (λ (m : Values). map.get m k) c.self.view_is) ∙ get-seen c.self.inside.values k
    ∙ sym (ap (λ (o : Option (String Global)). option_map string_bytes o) c.in-Some.ensures.value) in
    on_ok c.put_behind.result _ _ c.put_behind.ensures.ok (λ is.
    insert-seen_at c.self.inside.values (c.get_mut.follows.lender w) k w ((c.get_mut.follows.holds w).3 (search rules))
    ∙ ap (λ (m : Values). map.insert m k (string_bytes w)) c.self.view_is
    ∙ ap (λ (x : List ℕ). map.insert c.args.self.now k x) is
    ∙ ap (λ (o : Option (List ℕ)). map.insert c.args.self.now k (behind_old o v)) (sym has))

pub returns-in-Some-clause-err : goal.returns-in-Some-clause-err
returns-in-Some-clause-err c =
    let w : String Global = c.put_behind.new.text in
    let k : List ℕ = c.args.name.now in
    let has : map.get c.args.self.now k ≡ Some (string_bytes c.in-Some.old.now) =
    sym (ap (λ (m : Values). map.get m k) c.self.view_is) ∙ get-seen c.self.inside.values k
    ∙ sym (ap (λ (o : Option (String Global)). option_map string_bytes o) c.in-Some.ensures.value) in
    on_err c.put_behind.result _ _ c.put_behind.ensures.err (λ is.
    insert-seen_at c.self.inside.values (c.get_mut.follows.lender w) k w ((c.get_mut.follows.holds w).3 (search rules))
    ∙ ap (λ (m : Values). map.insert m k (string_bytes w)) c.self.view_is
    ∙ ap (λ (x : List ℕ). map.insert c.args.self.now k x) is
    ∙ insert-same c.args.self.now k (string_bytes c.in-Some.old.now) has)

pub returns-in-None-clause-ok : goal.returns-in-None-clause-ok
returns-in-None-clause-ok c =
    let k : List ℕ = c.args.name.now in
    let v : List ℕ = c.args.value.now in
    let has : map.get c.args.self.now k ≡ None =
    sym (ap (λ (m : Values). map.get m k) c.self.view_is) ∙ get-seen c.self.inside.values k
    ∙ sym (ap (λ (o : Option (String Global)). option_map string_bytes o) c.in-None.ensures.value) in
    on_ok c.set.result _ _ c.set.ensures.ok (λ is.
    is
    ∙ ap (λ (m : BTreeMap (String Global) (String Global)). map.insert (seen m) k v) c.get_mut.follows.holds-at-none
    ∙ ap (λ (m : Values). map.insert m k v) c.self.view_is
    ∙ ap (λ (o : Option (List ℕ)). map.insert c.args.self.now k (behind_old o v)) (sym has))
