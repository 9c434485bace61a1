-- What a lost link leaves.
use Rattle.std.proofs.Common.{◌≡◌, ◌<◌, ℕ, zero, suc, Bool, true, false, cond, ◌||◌, List, [], ◌∷◌, length, filter, fold, get_or, map, not, Option, Some, None, Result, Ok, sym, ap, ◌∙◌, subst, arith}
use Rattle.std.specs.Prelude.{is_some, remove}
use Rattle.std.specs.List.{list_any}
use Rattle.std.proofs.Math.Bool.{or-true}
use Rattle.flow_types.specs.declared.lists.Memory.{Memory}
use Rattle.flow_types.specs.declared.numbers.LinkNo.{LinkNo}
use Rattle.foreman_core.specs.declared.acts.ForemanActs.{ForemanActs}
use Rattle.worker_cache.specs.Caches.{Cached, Rows}
use Rattle.foreman_core.specs.declared.links.Below.{Below}
use Rattle.foreman_core.specs.declared.links.Upstream.{Upstream}
use Rattle.foreman_core.specs.Answers.{Leads}
use Rattle.foreman_core.specs.Drafts.{Drafted, led_of, parted}
use Rattle.foreman_core.specs.Foremen.{Foreman, is_last, off_link, others, place_of_link}
use Rattle.foreman_core.specs.Steps.{Led, holding, lost, loses, quiet, released, sending}
use Rattle.foreman_core.proofs.Undoing.{others_all, others_less}

-- where a worker is at the link, it is lost
pub lost_here : (f : Foreman) (k : LinkNo) (r : Result ForemanActs Memory) (new : Foreman) → is_some (place_of_link k f.links) ≡ true → Leads (lost f k) f r new → Leads (loses f k) f r new
lost_here f k r new here leads = subst (λ b. Leads (cond b (lost f k) (quiet f)) f r new) (sym here) leads

-- one that passes and is left is found among what is left
pub any_left : {A : Type 0} (p kept : A → Bool) (xs : List A) (i : ℕ) (d : A) → i < length xs → kept (get_or xs i d) ≡ true → p (get_or xs i d) ≡ true → list_any p (filter kept xs) ≡ true
any_left p kept [] i d lt left passes = absurd (let h : ⊥ = omega (arith, lt) in h)
any_left p kept (x ∷ xs) zero d lt left passes =
    ap (λ b. list_any p (cond b (x ∷ filter kept xs) (filter kept xs))) left ∙ ap (λ b. b || list_any p (filter kept xs)) passes
any_left p kept (x ∷ xs) (suc i) d lt left passes = by (kept x) (any_left p kept xs i d (omega (arith, lt)) left passes)
  where
    by : (b : Bool) → list_any p (filter kept xs) ≡ true → list_any p (cond b (x ∷ filter kept xs) (filter kept xs)) ≡ true
    by true more = ap (λ b. p x || b) more ∙ or-true (p x)
    by false more = more

-- where no worker is at the link it is all of them that are left
pub parted_none : (f : Foreman) (k : LinkNo) (gone : List Upstream) (led : Led) → (let nowhere : Option ℕ = None in nowhere ≡ place_of_link k f.links) → led ≡ parted f gone → led ≡ parted (record f { links = others k f.links }) gone
parted_none f k gone led none is = is ∙ ap (λ ls. parted (record f { links = ls }) gone) (sym (others_all k f.links (sym none)))

-- the worker at a place is one of those at the link
pub parted_one : (f : Foreman) (k : LinkNo) (gone : List Upstream) (led : Led) (on : ℕ) → Some on ≡ place_of_link k f.links → (let rest : Foreman = record f { links = others k (remove f.links on) } in led ≡ parted rest gone)
    → led ≡ parted (record f { links = others k f.links }) gone
parted_one f k gone led on here is = is ∙ ap (λ ls. parted (record f { links = ls }) gone) (others_less k f.links on here)

-- What a lost link leaves, once the pins are given back.
pub loses_by : (f : Foreman) (k : LinkNo) (gone stay attempts : List Upstream) (links : List Below) (draft : Drafted) (acts : ForemanActs) (cache : Cached) (next : ℕ)
    → gone ≡ filter (λ u. is_last f.cache.rows f.links (others k f.links) u.task) f.attempts → stay ≡ map (off_link k) (filter (λ u. not (is_last f.cache.rows f.links (others k f.links) u.task)) f.attempts)
    → (let left : Foreman = record { cache = f.cache; attempts = stay; links = others k f.links; next = f.next } in led_of f.cache attempts links draft ≡ parted left gone)
    → acts ≡ sending draft.up draft.down → cache.cap ≡ f.cache.cap → cache.rows ≡ fold released f.cache.rows gone → next ≡ draft.next
    → (let r : Result ForemanActs Memory = Ok acts in
    let new : Foreman = record { cache = cache; attempts = attempts; links = links; next = next } in
    Leads (lost f k) f r new)
loses_by f k gone stay attempts links draft acts cache next went stays is says cap rows numbers =
    let all_gone : List Upstream = filter (λ u. is_last f.cache.rows f.links (others k f.links) u.task) f.attempts in
    let all_stay : List Upstream = map (off_link k) (filter (λ u. not (is_last f.cache.rows f.links (others k f.links) u.task)) f.attempts) in
    let led : Led = led_of f.cache attempts links draft in
    let pins : Rows = fold released f.cache.rows gone in
    let whole : led ≡ parted (record f { attempts = all_stay; links = others k f.links }) all_gone =
    is ∙ ap (λ s. parted (record f { attempts = s; links = others k f.links }) gone) stays ∙ ap (λ g. parted (record f { attempts = all_stay; links = others k f.links }) g) went in (
      says ∙ ap (λ (l : Led). l.acts) whole,
      ap (λ (n : ℕ). let x : Foreman = record { cache = record { cap = n; rows = cache.rows }; attempts = attempts; links = links; next = next } in x) cap
          ∙ ap (λ (r : Rows). let x : Foreman = record { cache = record { cap = f.cache.cap; rows = r }; attempts = attempts; links = links; next = next } in x) rows
          ∙ ap (λ (n : ℕ). let x : Foreman = record { cache = record { cap = f.cache.cap; rows = pins }; attempts = attempts; links = links; next = n } in x) numbers ∙ ap (λ (l : Led). (holding l pins).foreman) whole
          ∙ ap (λ (g : List Upstream). (holding (parted (record f { attempts = all_stay; links = others k f.links }) all_gone) (fold released f.cache.rows g)).foreman) went,
    )
