-- A turn of a desk, out of what its closure says.
use Rattle.std.proofs.Common.{◌≡◌, ℕ, length, subst}
use Rattle.run_history.specs.Links.{records_of}
use Rattle.run_history.specs.Storage.{complete_count}
use Rattle.outside.specs.Disk.{Outcomes}
use Rattle.outside.specs.Files.{Files}
use Rattle.desk.specs.State.{DeskState}
use Rattle.turns.specs.Calls.{IsCounted, Replies}
use Rattle.turns.specs.Turns.{Known, Turned}
use Rattle.turns.specs.declared.counted.Counted.{Counted}
use Rattle.board.specs.Calls.{AreCounts, Called}
use Rattle.board.specs.Goes.{GoesOn}
use denote.Param.Members.{Mut, Once}
use Rattle.std.specs.Fn as fn
use Rattle.std.specs.Fn.{CalledWithState}
use denote.Ref.{MutBor}

module _ {S : Type 0} (tells : Type 0) (files : S → Files) (may_leave : S → Outcomes) (moment : S → ℕ) (images_since : S → ℕ → Files → Type 0)
    {F A R : Type 0} {g : Once F (MutBor (DeskState S) × (A × Unit {0})) (Counted R × (MutBor (DeskState S) × Unit {0}))} {f : F} {given : A} where
  -- the desk that is left has grown, and its counts are told
  pub counted : {found after : DeskState S} {reply : Counted R} → Replies g f found given reply after
      → ((p q : MutBor (DeskState S)) → g.post f (p, (given, tt)) (reply, (q, tt)) → GoesOn tells files may_leave moment images_since p.now q.now × AreCounts q.now reply.moves reply.done)
      → IsCounted (GoesOn tells files may_leave moment images_since) (λ d. length d.moves) (λ d. complete_count d.plan (records_of d.moves)) found after reply.moves reply.done
  counted {found} {after} {reply} r so =
      let both = so r.shown r.left r.met in
      let goes : GoesOn tells files may_leave moment images_since found after = subst (λ (d : DeskState S). GoesOn tells files may_leave moment images_since d after) r.shows
      (subst (λ (d : DeskState S). GoesOn tells files may_leave moment images_since r.shown.now d) r.leaves both.0) in
      let counts : AreCounts after reply.moves reply.done = subst (λ (d : DeskState S). AreCounts d reply.moves reply.done) r.leaves both.1 in
      (goes, counts.0, counts.1, counts.2)

  -- the call was one of the desk that was found
  pub called : (before new : Known (DeskState S)) (answer : R) (call : R → DeskState S → DeskState S → Type 0)
      → (found : DeskState S) × (after : DeskState S) × (reply : Counted R) × Turned (GoesOn tells files may_leave moment images_since) (λ d. length d.moves) before found after new
      × Replies g f found given reply after × (reply.reply ≡ answer)
      → ((p q : MutBor (DeskState S)) (reply : Counted R) → g.post f (p, (given, tt)) (reply, (q, tt)) → call reply.reply p.now q.now)
      → Called tells files may_leave moment images_since before new (call answer)
  called before new answer call t so =
      let r = t.4 in (
        t.0,
        t.1,
        t.3,
        subst (λ a. call a t.0 t.1) t.5
            (subst (λ (d : DeskState S). call t.2.reply t.0 d) r.leaves (subst (λ (d : DeskState S). call t.2.reply d r.left.now) r.shows (so r.shown r.left t.2 r.met))),
      )

module _ {S : Type 0} (tells : Type 0) (files : S → Files) (may_leave : S → Outcomes) (moment : S → ℕ) (images_since : S → ℕ → Files → Type 0)
    {F A R : Type 0} {g : Mut F (MutBor (DeskState S) × (A × Unit {0})) (Counted R × (MutBor (DeskState S) × Unit {0}))} {f left : F} {given : A} where
  -- the same for a call that keeps what it borrows
  pub counted_mut : {found after : DeskState S} {reply : Counted R} → CalledWithState g f found given reply left after
      → ((p q : MutBor (DeskState S)) → fn.Called g f (p, (given, tt)) (reply, (q, tt)) left → GoesOn tells files may_leave moment images_since p.now q.now × AreCounts q.now reply.moves reply.done)
      → IsCounted (GoesOn tells files may_leave moment images_since) (λ d. length d.moves) (λ d. complete_count d.plan (records_of d.moves)) found after reply.moves reply.done
  counted_mut {found} {after} {reply} r so =
      let both = so r.shown r.left r.called in
      let goes : GoesOn tells files may_leave moment images_since found after = subst (λ (d : DeskState S). GoesOn tells files may_leave moment images_since d after) r.shows
      (subst (λ (d : DeskState S). GoesOn tells files may_leave moment images_since r.shown.now d) r.leaves both.0) in
      let counts : AreCounts after reply.moves reply.done = subst (λ (d : DeskState S). AreCounts d reply.moves reply.done) r.leaves both.1 in
      (goes, counts.0, counts.1, counts.2)

  pub called_mut : (before new : Known (DeskState S)) (answer : R) (call : R → DeskState S → DeskState S → Type 0)
      → (found : DeskState S) × (after : DeskState S) × (reply : Counted R) × Turned (GoesOn tells files may_leave moment images_since) (λ d. length d.moves) before found after new
      × CalledWithState g f found given reply left after × (reply.reply ≡ answer)
      → ((p q : MutBor (DeskState S)) (reply : Counted R) → fn.Called g f (p, (given, tt)) (reply, (q, tt)) left → call reply.reply p.now q.now)
      → Called tells files may_leave moment images_since before new (call answer)
  called_mut before new answer call t so =
      let r = t.4 in (
        t.0,
        t.1,
        t.3,
        subst (λ a. call a t.0 t.1) t.5
            (subst (λ (d : DeskState S). call t.2.reply t.0 d) r.leaves (subst (λ (d : DeskState S). call t.2.reply d r.left.now) r.shows (so r.shown r.left t.2 r.called))),
      )
