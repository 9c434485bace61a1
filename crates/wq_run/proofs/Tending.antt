-- A call that sends, and then another, or one that waits for bytes.
use Rattle.std.proofs.Common.{◌≡◌, ◌≤◌, ◌<◌, ℕ, Bool, true, Result, Ok, Err, arith}
use Rattle.std.specs.Prelude.{IfErr, OnOk}
use Rattle.peers.specs.declared.leave.Leave.{Leave}
use Rattle.peers.specs.declared.leave.Leave.TheVariants as leaves
use Rattle.peers.specs.States.{FailsAs, LeavesAs, MaySend}

-- a count that had risen had risen from an earlier one
pub fails_from : (before mid now : ℕ) (leave : Leave) → before ≤ mid → FailsAs mid now leave → FailsAs before now leave
fails_from before mid now leaves.Closed later is = absurd is
fails_from before mid now leaves.Failed later is = omega (arith, later, is)
fails_from before mid now leaves.Bad later is = absurd is
fails_from before mid now leaves.Unexpected later is = absurd is
fails_from before mid now leaves.Memory later is = tt

-- the same of one that waits for bytes
pub leaves_from : (closed : Bool) (before mid now : ℕ) (leave : Leave) → before ≤ mid → LeavesAs closed mid now leave → LeavesAs closed before now leave
leaves_from closed before mid now leaves.Closed later is = is
leaves_from closed before mid now leaves.Failed later is = omega (arith, later, is)
leaves_from closed before mid now leaves.Bad later is = absurd is
leaves_from closed before mid now leaves.Unexpected later is = absurd is
leaves_from closed before mid now leaves.Memory later is = tt

-- what leaves a link in a call that sends leaves it in one that waits
pub fails_leaves : (closed : Bool) (before now : ℕ) (leave : Leave) → FailsAs before now leave → LeavesAs closed before now leave
fails_leaves closed before now leaves.Closed is = absurd is
fails_leaves closed before now leaves.Failed is = is
fails_leaves closed before now leaves.Bad is = absurd is
fails_leaves closed before now leaves.Unexpected is = absurd is
fails_leaves closed before now leaves.Memory is = tt

-- what a call sends after another
pub may_send_then : {A B : Type 0} (before mid now : ℕ) (first : Result A Leave) (then : Result B Leave) → MaySend before mid first → MaySend mid now then → MaySend before now then
may_send_then before mid now first (Ok x) was is = record { later = (let a = was.later in let b = is.later in omega (arith, a, b)); fails = tt }
may_send_then before mid now first (Err leave) was is = record { later = (let a = was.later in let b = is.later in omega (arith, a, b)); fails = fails_from before mid now leave was.later is.fails }

-- what a call that waits for bytes leaves after one that sends
pub if_leaves : {A B : Type 0} (closed : Bool) (before mid now : ℕ) (first : Result A Leave) (r : Result B Leave) → MaySend before mid first → IfErr r (LeavesAs closed mid now) → IfErr r (LeavesAs closed before now)
if_leaves closed before mid now first (Ok x) was is = tt
if_leaves closed before mid now first (Err leave) was is = leaves_from closed before mid now leave was.later is

-- what holds at Ok, by something else that does
pub ok_by : {A E : Type 0} (r : Result A E) (so then : Type 0) → (so → then) → OnOk r so → OnOk r then
ok_by (Ok x) so then by is = by is
ok_by (Err e) so then by is = tt
