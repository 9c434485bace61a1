use Rattle.std.proofs.Common.{rules, ◌≡◌, ◌<◌, ◌∙◌, ◌++◌, ◌∷◌, [], ℕ, List, true, Some, ap, arith, length, refl, subst, sym, true≢false}
use Rattle.std.specs.Prelude.{remove, slice_get}
use Rattle.std.specs.Vec.{vec_capacity}
use Rattle.std.proofs.lemmas.Option.{slice_get_within}
use Rattle.task_book.specs.declared.task.Given.{Given}
use Rattle.task_book.specs.declared.task.Held.{Held}
use Rattle.task_book.specs.Kept.{Kept, given_at, is_end, place_ended}
use Rattle.task_book.proofs.Positions.{found, less_long, same_item}
use Rattle.task_book.proofs.Times.{book_given, book_is, book_roomier}
use Rattle.task_book.proofs.book.Book.give.Goals as goal

-- the task that was taken out had come to its end
pub taken_ended : (held : List Held) (at : ℕ) (h : Held) → place_ended held ≡ Some at → slice_get held at ≡ Some h → is_end h.stage ≡ true
taken_ended held at h is there =
    let f = found (λ (x : Held). is_end x.stage) held at is in
    subst (λ (x : Held). is_end x.stage ≡ true) (same_item held at f.item h f.is_there there) f.passes

pub invariant_of-self-in-Waits : goal.invariant_of-self-in-Waits
invariant_of-self-in-Waits c =
    let held = c.self.inside.held in
    let at = c.in_ok-at.at in
    let is : place_ended held ≡ Some at = search rules in
    let f = found (λ (x : Held). is_end x.stage) held at is in
    let there : slice_get held at ≡ Some c.remove-stage.result = ap (λ (hs : List Held). slice_get hs at) (sym c.place_ended.ensures.same) ∙ c.remove-stage.ensures.task in
    absurd (true≢false (sym (taken_ended held at c.remove-stage.result is there) ∙ ap is_end c.in-Waits.is))

pub returns-in-Waits-clause-none : goal.returns-in-Waits-clause-none
returns-in-Waits-clause-none c =
    let held = c.self.inside.held in
    let at = c.in_ok-at.at in
    let is : place_ended held ≡ Some at = search rules in
    let f = found (λ (x : Held). is_end x.stage) held at is in
    let there : slice_get held at ≡ Some c.remove-stage.result = ap (λ (hs : List Held). slice_get hs at) (sym c.place_ended.ensures.same) ∙ c.remove-stage.ensures.task in
    absurd (true≢false (sym (taken_ended held at c.remove-stage.result is there) ∙ ap is_end c.in-Waits.is))

pub invariant_of-self-in-Runs : goal.invariant_of-self-in-Runs
invariant_of-self-in-Runs c =
    let held = c.self.inside.held in
    let at = c.in_ok-at.at in
    let is : place_ended held ≡ Some at = search rules in
    let f = found (λ (x : Held). is_end x.stage) held at is in
    let there : slice_get held at ≡ Some c.remove-stage.result = ap (λ (hs : List Held). slice_get hs at) (sym c.place_ended.ensures.same) ∙ c.remove-stage.ensures.task in
    absurd (true≢false (sym (taken_ended held at c.remove-stage.result is there) ∙ ap is_end c.in-Runs.is))

pub returns-in-Runs-clause-none : goal.returns-in-Runs-clause-none
returns-in-Runs-clause-none c =
    let held = c.self.inside.held in
    let at = c.in_ok-at.at in
    let is : place_ended held ≡ Some at = search rules in
    let f = found (λ (x : Held). is_end x.stage) held at is in
    let there : slice_get held at ≡ Some c.remove-stage.result = ap (λ (hs : List Held). slice_get hs at) (sym c.place_ended.ensures.same) ∙ c.remove-stage.ensures.task in
    absurd (true≢false (sym (taken_ended held at c.remove-stage.result is there) ∙ ap is_end c.in-Runs.is))

pub push_reserved-requires : goal.push_reserved-requires
push_reserved-requires c =
    let i = c.self.inside in
    let held = i.held in
    let at = c.in_ok-at.at in
    let is : place_ended held ≡ Some at = search rules in
    let f = found (λ (x : Held). is_end x.stage) held at is in
    let less = less_long held at f.item f.is_there in
    let room = c.self.invariant.may_give in
    let long = i.given.ok.0 in
    omega (arith, less, room, long)

pub invariant_of-self : goal.invariant_of-self
invariant_of-self c =
    let i = c.self.inside in
    book_is i.submitted.items i.submitted.items i.cancelled.items i.cancelled.items i.given.items i.given.items i.held c.place_ended.new.self (vec_capacity i.given) (vec_capacity i.cancelled) refl refl refl
    c.place_ended.ensures.same c.self.invariant

pub remove-stage-requires : goal.remove-stage-requires
remove-stage-requires c =
    let held = c.self.inside.held in
    let at = c.in_ok-at.at in
    let is : place_ended held ≡ Some at = search rules in
    let f = found (λ (x : Held). is_end x.stage) held at is in
    record { within = subst (λ (l : List Held). at < length l) (sym c.place_ended.ensures.same) (slice_get_within held at f.item f.is_there) }

pub invariant_of-self-in-Ended : goal.invariant_of-self-in-Ended
invariant_of-self-in-Ended c =
    let i = c.self.inside in
    let held = i.held in
    let at = c.in_ok-at.at in
    let is : place_ended held ≡ Some at = search rules in
    let f = found (λ (x : Held). is_end x.stage) held at is in
    let there : slice_get held at ≡ Some c.remove-stage.result = ap (λ (hs : List Held). slice_get hs at) (sym c.place_ended.ensures.same) ∙ c.remove-stage.ensures.task in
    let g : Given = record { id = c.remove-stage.result.id; attempt = c.in-Ended.attempt } in
    let k : Kept = record { submitted = i.submitted.items; given = i.given.items; cancelled = i.cancelled.items; held = held } in
    let a = vec_capacity c.push_reserved.new.self in
    let b = vec_capacity i.cancelled in
    book_is i.submitted.items i.submitted.items i.cancelled.items i.cancelled.items (i.given.items ++ g ∷ []) c.push_reserved.new.self.items (remove held at) c.remove-stage.new.self a b
    refl c.push_reserved.ensures.items refl (c.remove-stage.ensures.items ∙ ap (λ (hs : List Held). remove hs at) c.place_ended.ensures.same)
    (book_roomier (record { submitted = i.submitted.items; given = i.given.items ++ g ∷ []; cancelled = i.cancelled.items; held = remove held at }) (vec_capacity i.given) b a b
    (let same = c.push_reserved.ensures.capacity in omega (arith, same)) (omega arith) (book_given k g at c.remove-stage.result (vec_capacity i.given) b c.self.invariant there refl))

pub returns-in-Ended-clause-given : goal.returns-in-Ended-clause-given
returns-in-Ended-clause-given c =
    let i = c.self.inside in
    let held = i.held in
    let at = c.in_ok-at.at in
    let is : place_ended held ≡ Some at = search rules in
    let f = found (λ (x : Held). is_end x.stage) held at is in
    let there : slice_get held at ≡ Some c.remove-stage.result = ap (λ (hs : List Held). slice_get hs at) (sym c.place_ended.ensures.same) ∙ c.remove-stage.ensures.task in
    let g : Given = record { id = c.remove-stage.result.id; attempt = c.in-Ended.attempt } in
    let was = ap (λ (k : Kept). k.held) c.self.view_is in (
      at,
      c.in-Ended.attempt,
      ap place_ended (sym was) ∙ is,
      (c.remove-stage.result, ap (λ (hs : List Held). slice_get hs at) (sym was) ∙ there, refl, c.in-Ended.is),
      ap (λ (gs : List Given). record { submitted = i.submitted.items; given = gs; cancelled = i.cancelled.items; held = c.remove-stage.new.self }) c.push_reserved.ensures.items
          ∙ ap (λ (hs : List Held). record { submitted = i.submitted.items; given = i.given.items ++ g ∷ []; cancelled = i.cancelled.items; held = hs }) (c.remove-stage.ensures.items ∙ ap (λ (hs : List Held). remove hs at) c.place_ended.ensures.same)
          ∙ ap (λ (k : Kept). given_at k at g) c.self.view_is,
    )
