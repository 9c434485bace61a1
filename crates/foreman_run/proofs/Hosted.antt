-- What becomes of a hall's links over several calls.
use Rattle.std.proofs.Common.{◌≡◌, ◌≤◌, ◌+◌, ℕ, Bool, true, false, List, [], ◌∷◌, ◌++◌, Result, Ok, Err, refl, sym, ap, ◌∙◌, subst, append_assoc, append-nil, arith}
use Rattle.std.proofs.lemmas.List.{length-append}
use Rattle.peer_run.specs.declared.halt.Halt.{Halt}
use Rattle.peer_run.specs.declared.halt.Halt.TheVariants.{Bye, Closed, Link, Bad, Memory}
use Rattle.foreman_run.specs.declared.stop.Stop.{Stop}
use Rattle.foreman_run.specs.declared.stop.Stop.TheVariants.{Left, Hall}
use Rattle.std.specs.Prelude.{is_ok}
use Rattle.foreman_run.specs.Ends.{LeavesParent, stop_by}
use Rattle.foreman_run.specs.Hosts.{Hosts, HostsBy, HostsTill, HostsWhole, IsLetGo, LetsGo, LosesBy, StopLoses}

-- More is counted before and lost behind.
stop_later : (c0 c1 c2 l m : ℕ) (stop : Stop) → c0 ≤ c1 → l ≡ 0 → StopLoses m c1 c2 stop → StopLoses (l + m) c0 c2 stop
stop_later c0 c1 c2 l m (Left Bye) le none is = omega (arith, none, is)
stop_later c0 c1 c2 l m (Left Closed) le none is = omega (arith, none, is)
stop_later c0 c1 c2 l m (Left Link) le none is = omega (arith, none, is)
stop_later c0 c1 c2 l m (Left (Bad at)) le none is = omega (arith, none, is)
stop_later c0 c1 c2 l m (Left Memory) le none is = tt
stop_later c0 c1 c2 l m Hall le none is = (omega (arith, none, is.0), omega (arith, le, is.1))

loses_later : {T : Type 0} (c0 c1 c2 l m : ℕ) (r : Result T Stop) → c0 ≤ c1 → l ≡ 0 → LosesBy m c1 c2 r → LosesBy (l + m) c0 c2 r
loses_later c0 c1 c2 l m (Ok x) le none is = omega (arith, none, is)
loses_later c0 c1 c2 l m (Err stop) le none is = stop_later c0 c1 c2 l m stop le none is

left_loses : {T : Type 0} (c0 c1 : ℕ) (r : Result T Stop) → LeavesParent r → LosesBy 0 c0 c1 r
left_loses c0 c1 (Ok x) is = refl
left_loses c0 c1 (Err (Left Bye)) is = refl
left_loses c0 c1 (Err (Left Closed)) is = refl
left_loses c0 c1 (Err (Left Link)) is = refl
left_loses c0 c1 (Err (Left (Bad at))) is = refl
left_loses c0 c1 (Err (Left Memory)) is = tt
left_loses c0 c1 (Err Hall) is = absurd is

let_go_by : (c0 c1 c2 l m : ℕ) (stop : Stop) (whole : Bool) → c0 ≤ c1 → c1 ≤ c2 → StopLoses l c0 c1 stop → (whole ≡ true → m ≡ 0) → IsLetGo (l + m) c0 c2 (stop_by whole stop)
let_go_by c0 c1 c2 l m (Left Bye) true le more is none = omega (arith, is, none refl)
let_go_by c0 c1 c2 l m (Left Bye) false le more is none = tt
let_go_by c0 c1 c2 l m (Left Closed) true le more is none = tt
let_go_by c0 c1 c2 l m (Left Closed) false le more is none = tt
let_go_by c0 c1 c2 l m (Left Link) true le more is none = tt
let_go_by c0 c1 c2 l m (Left Link) false le more is none = tt
let_go_by c0 c1 c2 l m (Left (Bad at)) true le more is none = tt
let_go_by c0 c1 c2 l m (Left (Bad at)) false le more is none = tt
let_go_by c0 c1 c2 l m (Left Memory) true le more is none = tt
let_go_by c0 c1 c2 l m (Left Memory) false le more is none = tt
let_go_by c0 c1 c2 l m Hall true le more is none = omega (arith, more, is.1)
let_go_by c0 c1 c2 l m Hall false le more is none = omega (arith, more, is.1)

go_later : (c0 c1 c2 l : ℕ) (stop : Stop) → c0 ≤ c1 → IsLetGo l c1 c2 stop → IsLetGo (0 + l) c0 c2 stop
go_later c0 c1 c2 l (Left Bye) le is = omega (arith, is)
go_later c0 c1 c2 l (Left Closed) le is = tt
go_later c0 c1 c2 l (Left Link) le is = tt
go_later c0 c1 c2 l (Left (Bad at)) le is = tt
go_later c0 c1 c2 l (Left Memory) le is = tt
go_later c0 c1 c2 l Hall le is = omega (arith, le, is)

-- It leaves its parent, and no link was lost.
pub left_none : (n m : ℕ) (halt : Halt) → IsLetGo 0 n m (Left halt)
left_none n m Bye = refl
left_none n m Closed = tt
left_none n m Link = tt
left_none n m (Bad at) = tt
left_none n m Memory = tt

module _ {X : Type 0} where
  pub hosts_then : (c0 c1 c2 : ℕ) (g0 g1 g2 : List X) (v0 v1 v2 i0 i1 i2 l m : ℕ) → Hosts c0 c1 g0 g1 v0 v1 i0 i1 l → Hosts c1 c2 g1 g2 v1 v2 i1 i2 m → Hosts c0 c2 g0 g2 v0 v2 i0 i2 (l + m)
  hosts_then c0 c1 c2 g0 g1 g2 v0 v1 v2 i0 i1 i2 l m x y = record {
    later = omega (arith, x.later, y.later);
    more = x.more ++ y.more;
    are = y.are ∙ ap (λ w. w ++ y.more) x.are ∙ append_assoc g0 x.more y.more;
    many = omega (arith, x.many, y.many, length-append x.more y.more);
  }

  -- Nothing was done.
  pub hosts_still : (c : ℕ) (g : List X) (v i j : ℕ) → i ≡ j → Hosts c c g g v v i j 0
  hosts_still c g v i j same = record { later = omega arith; more = []; are = sym (append-nil g); many = omega (arith, same) }

  -- The same beside others that are held.
  pub hosts_beside : (n c0 c1 : ℕ) (g0 g1 : List X) (v0 v1 i0 i1 l j0 j1 : ℕ) → j0 ≡ n + i0 → j1 ≡ n + i1 → Hosts c0 c1 g0 g1 v0 v1 i0 i1 l → Hosts c0 c1 g0 g1 v0 v1 j0 j1 l
  hosts_beside n c0 c1 g0 g1 v0 v1 i0 i1 l j0 j1 is0 is1 x = record { later = x.later; more = x.more; are = x.are; many = omega (arith, is0, is1, x.many) }

  -- One call that was done, and then another.
  pub by_then : {T U : Type 0} (c0 c1 c2 : ℕ) (g0 g1 g2 : List X) (v0 v1 v2 i0 i1 i2 : ℕ) (x : T) (r : Result U Stop) → (let first : Result T Stop = Ok x in HostsBy c0 c1 g0 g1 v0 v1 i0 i1 first) → HostsBy c1 c2 g1 g2 v1 v2 i1 i2 r
      → HostsBy c0 c2 g0 g2 v0 v2 i0 i2 r
  by_then c0 c1 c2 g0 g1 g2 v0 v1 v2 i0 i1 i2 x r a b = (
    a.0 + b.0,
    hosts_then c0 c1 c2 g0 g1 g2 v0 v1 v2 i0 i1 i2 a.0 b.0 a.1 b.1,
    loses_later c0 c1 c2 a.0 b.0 r a.1.later a.2 b.2,
  )

  -- The same, where the other answers a stop.
  pub till_then : {T : Type 0} (c0 c1 c2 : ℕ) (g0 g1 g2 : List X) (v0 v1 v2 i0 i1 i2 : ℕ) (x : T) (stop : Stop) → (let first : Result T Stop = Ok x in HostsBy c0 c1 g0 g1 v0 v1 i0 i1 first) → HostsTill c1 c2 g1 g2 v1 v2 i1 i2 stop
      → HostsTill c0 c2 g0 g2 v0 v2 i0 i2 stop
  till_then c0 c1 c2 g0 g1 g2 v0 v1 v2 i0 i1 i2 x stop a b = (
    a.0 + b.0,
    hosts_then c0 c1 c2 g0 g1 g2 v0 v1 v2 i0 i1 i2 a.0 b.0 a.1 b.1,
    stop_later c0 c1 c2 a.0 b.0 stop a.1.later a.2 b.2,
  )

  -- A call that did nothing.
  pub by_still : {T : Type 0} (c : ℕ) (g : List X) (v i j : ℕ) (x : T) → i ≡ j → (let r : Result T Stop = Ok x in HostsBy c c g g v v i j r)
  by_still c g v i j x same = (0, hosts_still c g v i j same, refl)

  -- A call that stopped without anything done at the hall.
  pub by_stopped : (T : Type 0) (c : ℕ) (g : List X) (v i j : ℕ) (stop : Stop) → i ≡ j → StopLoses 0 c c stop → (let r : Result T Stop = Err stop in HostsBy c c g g v v i j r)
  by_stopped T c g v i j stop same is = (0, hosts_still c g v i j same, is)

  -- After calls that were done, one more that was done.
  pub on_then : {T : Type 0} (c0 c1 c2 : ℕ) (g0 g1 g2 : List X) (v0 v1 v2 i0 i1 i2 : ℕ) (x : T) → Hosts c0 c1 g0 g1 v0 v1 i0 i1 0 → (let r : Result T Stop = Ok x in HostsBy c1 c2 g1 g2 v1 v2 i1 i2 r) → Hosts c0 c2 g0 g2 v0 v2 i0 i2 0
  on_then c0 c1 c2 g0 g1 g2 v0 v1 v2 i0 i1 i2 x a b = subst (λ (l : ℕ). Hosts c0 c2 g0 g2 v0 v2 i0 i2 l) (let none : 0 + b.0 ≡ 0 = omega (arith, b.2) in none) (hosts_then c0 c1 c2 g0 g1 g2 v0 v1 v2 i0 i1 i2 0 b.0 a b.1)

  -- After calls that were done, another.
  pub on_by : {T : Type 0} (c0 c1 c2 : ℕ) (g0 g1 g2 : List X) (v0 v1 v2 i0 i1 i2 : ℕ) (r : Result T Stop) → Hosts c0 c1 g0 g1 v0 v1 i0 i1 0 → HostsBy c1 c2 g1 g2 v1 v2 i1 i2 r → HostsBy c0 c2 g0 g2 v0 v2 i0 i2 r
  on_by c0 c1 c2 g0 g1 g2 v0 v1 v2 i0 i1 i2 r a b = (
    0 + b.0,
    hosts_then c0 c1 c2 g0 g1 g2 v0 v1 v2 i0 i1 i2 0 b.0 a b.1,
    loses_later c0 c1 c2 0 b.0 r a.later refl b.2,
  )

  -- After calls that were done, one that stopped.
  pub on_till : (T : Type 0) (c0 c1 c2 : ℕ) (g0 g1 g2 : List X) (v0 v1 v2 i0 i1 i2 : ℕ) (stop : Stop) → Hosts c0 c1 g0 g1 v0 v1 i0 i1 0 → (let r : Result T Stop = Err stop in HostsBy c1 c2 g1 g2 v1 v2 i1 i2 r) → HostsTill c0 c2 g0 g2 v0 v2 i0 i2 stop
  on_till T c0 c1 c2 g0 g1 g2 v0 v1 v2 i0 i1 i2 stop a b = (
    0 + b.0,
    hosts_then c0 c1 c2 g0 g1 g2 v0 v1 v2 i0 i1 i2 0 b.0 a b.1,
    stop_later c0 c1 c2 0 b.0 stop a.later refl b.2,
  )

  -- After calls that were done, one more that is the last.
  pub on_last : {T : Type 0} (c0 c1 c2 : ℕ) (g0 g1 g2 : List X) (v0 v1 v2 i0 i1 i2 : ℕ) (x : T) → Hosts c0 c1 g0 g1 v0 v1 i0 i1 0 → (let r : Result T Stop = Ok x in HostsBy c1 c2 g1 g2 v1 v2 i1 i2 r) → HostsTill c0 c2 g0 g2 v0 v2 i0 i2 (Left Bye)
  on_last c0 c1 c2 g0 g1 g2 v0 v1 v2 i0 i1 i2 x a b = (0, on_then c0 c1 c2 g0 g1 g2 v0 v1 v2 i0 i1 i2 x a b, refl)

  -- Calls that were done.
  pub on_ok : {T : Type 0} (c0 c1 : ℕ) (g0 g1 : List X) (v0 v1 i0 i1 : ℕ) (x : T) → Hosts c0 c1 g0 g1 v0 v1 i0 i1 0 → (let r : Result T Stop = Ok x in HostsBy c0 c1 g0 g1 v0 v1 i0 i1 r)
  on_ok c0 c1 g0 g1 v0 v1 i0 i1 x a = (0, a, refl)

  -- ---- one link

  -- It was handed back.
  pub back_ok : (c0 c1 : ℕ) (g0 g1 : List X) (v0 v1 : ℕ) (x : X) → c1 ≡ c0 → g1 ≡ g0 ++ x ∷ [] → v1 ≡ v0 → (let r : Result (Unit {0}) Stop = Ok tt in HostsBy c0 c1 g0 g1 v0 v1 1 0 r)
  back_ok c0 c1 g0 g1 v0 v1 x c g v = (0, record { later = omega (arith, c); more = x ∷ []; are = g; many = omega (arith, v) }, refl)

  -- It was lost.
  pub back_not : (c0 c1 : ℕ) (g0 g1 : List X) (v0 v1 : ℕ) → c1 ≡ c0 → g1 ≡ g0 → v1 ≡ v0 → (let r : Result (Unit {0}) Stop = Err (Left Memory) in HostsBy c0 c1 g0 g1 v0 v1 1 0 r)
  back_not c0 c1 g0 g1 v0 v1 c g v = (1, record { later = omega (arith, c); more = []; are = g ∙ sym (append-nil g0); many = omega (arith, v) }, tt)

  -- The hall gave none, or one that is held now.
  pub gave : (c0 c1 : ℕ) (g0 g1 : List X) (v0 v1 i0 i1 : ℕ) → c0 ≤ c1 → g1 ≡ g0 → v1 + i0 ≡ v0 + i1 → Hosts c0 c1 g0 g1 v0 v1 i0 i1 0
  gave c0 c1 g0 g1 v0 v1 i0 i1 le g v = record { later = le; more = []; are = g ∙ sym (append-nil g0); many = omega (arith, v) }

  -- whether a link was handed back
  pub whole_is : {T : Type 0} (c0 c1 : ℕ) (g0 g1 : List X) (v0 v1 i0 i1 : ℕ) (r : Result T Stop) → HostsBy c0 c1 g0 g1 v0 v1 i0 i1 r → HostsWhole c0 c1 g0 g1 v0 v1 i0 i1 (is_ok r)
  whole_is c0 c1 g0 g1 v0 v1 i0 i1 (Ok x) a = (a.0, a.1, λ e. a.2)
  whole_is c0 c1 g0 g1 v0 v1 i0 i1 (Err stop) a = (a.0, a.1, λ e. absurd (let h : ⊥ = cc in h))

  -- There was no memory for it.
  pub refused : (T : Type 0) (n c0 c1 : ℕ) (g0 g1 : List X) (v0 v1 j0 j1 : ℕ) (whole : Bool) (stop : Stop) → stop ≡ Left Memory → j0 ≡ n + 1 → j1 ≡ n → HostsWhole c0 c1 g0 g1 v0 v1 1 0 whole
      → (let r : Result T Stop = Err stop in HostsBy c0 c1 g0 g1 v0 v1 j0 j1 r)
  refused T n c0 c1 g0 g1 v0 v1 j0 j1 whole stop is is0 is1 a = (a.0, hosts_beside n c0 c1 g0 g1 v0 v1 1 0 a.0 j0 j1 is0 (omega (arith, is1)) a.1, subst (StopLoses a.0 c0 c1) (sym is) tt)

  -- A call beside others that are held.
  pub by_beside : {T : Type 0} (n c0 c1 : ℕ) (g0 g1 : List X) (v0 v1 i0 i1 j0 j1 : ℕ) (r : Result T Stop) → j0 ≡ n + i0 → j1 ≡ n + i1 → HostsBy c0 c1 g0 g1 v0 v1 i0 i1 r → HostsBy c0 c1 g0 g1 v0 v1 j0 j1 r
  by_beside n c0 c1 g0 g1 v0 v1 i0 i1 j0 j1 r is0 is1 a = (a.0, hosts_beside n c0 c1 g0 g1 v0 v1 i0 i1 a.0 j0 j1 is0 is1 a.1, a.2)

  -- A call that did nothing at the hall and didn't stop for it.
  pub by_left : {T : Type 0} (c : ℕ) (g : List X) (v i j : ℕ) (r : Result T Stop) → i ≡ j → LeavesParent r → HostsBy c c g g v v i j r
  by_left c g v i j r same is = (0, hosts_still c g v i j same, left_loses c c r is)

  -- ---- all links are let go

  whole_then : (c0 c1 c2 : ℕ) (g0 g1 g2 : List X) (v0 v1 v2 i0 i1 i2 : ℕ) (all one : Bool) → HostsWhole c0 c1 g0 g1 v0 v1 i0 i1 all → HostsWhole c1 c2 g1 g2 v1 v2 i1 i2 one → (both : Bool) → (both ≡ true → (all ≡ true) × (one ≡ true))
      → HostsWhole c0 c2 g0 g2 v0 v2 i0 i2 both
  whole_then c0 c1 c2 g0 g1 g2 v0 v1 v2 i0 i1 i2 all one a b both is = (
    a.0 + b.0,
    hosts_then c0 c1 c2 g0 g1 g2 v0 v1 v2 i0 i1 i2 a.0 b.0 a.1 b.1,
    λ e. let each = is e in omega (arith, a.2 each.0, b.2 each.1),
  )

  -- One link more was let go, and handed back.
  pub whole_more : (c0 c1 c2 : ℕ) (g0 g1 g2 : List X) (v0 v1 v2 i0 i1 i2 : ℕ) (all : Bool) → HostsWhole c0 c1 g0 g1 v0 v1 i0 i1 all → HostsWhole c1 c2 g1 g2 v1 v2 i1 i2 true → HostsWhole c0 c2 g0 g2 v0 v2 i0 i2 all
  whole_more c0 c1 c2 g0 g1 g2 v0 v1 v2 i0 i1 i2 all a b = whole_then c0 c1 c2 g0 g1 g2 v0 v1 v2 i0 i1 i2 all true a b all (λ e. (e, refl))

  -- One link more was let go, and lost.
  pub whole_less : (c0 c1 c2 : ℕ) (g0 g1 g2 : List X) (v0 v1 v2 i0 i1 i2 : ℕ) (all one : Bool) → HostsWhole c0 c1 g0 g1 v0 v1 i0 i1 all → HostsWhole c1 c2 g1 g2 v1 v2 i1 i2 one → HostsWhole c0 c2 g0 g2 v0 v2 i0 i2 false
  whole_less c0 c1 c2 g0 g1 g2 v0 v1 v2 i0 i1 i2 all one a b = whole_then c0 c1 c2 g0 g1 g2 v0 v1 v2 i0 i1 i2 all one a b false (λ e. absurd (let h : ⊥ = cc in h))

  pub whole_beside : (n c0 c1 : ℕ) (g0 g1 : List X) (v0 v1 i0 i1 j0 j1 : ℕ) (whole : Bool) → j0 ≡ n + i0 → j1 ≡ n + i1 → HostsWhole c0 c1 g0 g1 v0 v1 i0 i1 whole → HostsWhole c0 c1 g0 g1 v0 v1 j0 j1 whole
  whole_beside n c0 c1 g0 g1 v0 v1 i0 i1 j0 j1 whole is0 is1 a = (a.0, hosts_beside n c0 c1 g0 g1 v0 v1 i0 i1 a.0 j0 j1 is0 is1 a.1, a.2)

  -- The rounds were made, and then all links were let go.
  pub lets_go : (c0 c1 c2 : ℕ) (g0 g1 g2 : List X) (v0 v1 v2 i : ℕ) (stop : Stop) (whole : Bool) → HostsTill c0 c1 g0 g1 v0 v1 0 i stop → HostsWhole c1 c2 g1 g2 v1 v2 i 0 whole → LetsGo c0 c2 g0 g2 v0 v2 (stop_by whole stop)
  lets_go c0 c1 c2 g0 g1 g2 v0 v1 v2 i stop whole a b = (
    a.0 + b.0,
    hosts_then c0 c1 c2 g0 g1 g2 v0 v1 v2 0 i 0 a.0 b.0 a.1 b.1,
    let_go_by c0 c1 c2 a.0 b.0 stop whole a.1.later b.1.later a.2 b.2,
  )

  -- It stopped before the hall gave any link.
  pub lets_none_go : (c0 c1 : ℕ) (g0 g1 : List X) (v0 v1 : ℕ) (stop : Stop) → c0 ≤ c1 → g1 ≡ g0 → v1 ≡ v0 → IsLetGo 0 c0 c1 stop → LetsGo c0 c1 g0 g1 v0 v1 stop
  lets_none_go c0 c1 g0 g1 v0 v1 stop le g v is = (0, gave c0 c1 g0 g1 v0 v1 0 0 le g (omega (arith, v)), is)

  -- The hall began to listen first.
  pub lets_later : (c0 c1 c2 : ℕ) (g0 g1 g2 : List X) (v0 v1 v2 : ℕ) (stop : Stop) → c0 ≤ c1 → g1 ≡ g0 → v1 ≡ v0 → LetsGo c1 c2 g1 g2 v1 v2 stop → LetsGo c0 c2 g0 g2 v0 v2 stop
  lets_later c0 c1 c2 g0 g1 g2 v0 v1 v2 stop le g v go = (
    0 + go.0,
    hosts_then c0 c1 c2 g0 g1 g2 v0 v1 v2 0 0 0 0 go.0 (gave c0 c1 g0 g1 v0 v1 0 0 le g (omega (arith, v))) go.1,
    go_later c0 c1 c2 go.0 stop le go.2,
  )
