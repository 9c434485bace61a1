-- What is shown by a link, and what is right, over two steps.
use Rattle.std.proofs.Common.{◌≡◌, ◌⊎◌, inl, inr, ℕ, List, sym, subst}
use Rattle.flow_types.specs.declared.job.Failure.{Failure}
use Rattle.flow_types.specs.declared.job.Job.{Job}
use Rattle.flow_types.specs.Serial.{Function}
use Rattle.links.specs.declared.passing.Passed.{Passed}
use Rattle.task_book.specs.declared.task.Held.{Held}
use Rattle.task_book.specs.Stages.{Ends}
use Rattle.wq_seats.specs.Shown.{EndsRight, ShowsOn, IsRightOf, IsShownOn}

module _ {L : Type 0} (history : L → List Passed) where
  -- what one link shows, over two steps
  pub shows_then : (old mid new : List Held) (way : L) → ShowsOn history old mid way → ShowsOn history mid new way → ShowsOn history old new way
  shows_then old mid new way before now a o task end = by (now a o task end)
    where
      by : Ends mid a o task ⊎ IsShownOn history task a o way → Ends old a o task ⊎ IsShownOn history task a o way
      by (inl was) = before a o task was
      by (inr here) = inr here

  -- the same held tasks and link
  pub shows_is : (old new new_now : List Held) (way way_now : L) → new_now ≡ new → way_now ≡ way → ShowsOn history old new way → ShowsOn history old new_now way_now
  shows_is old new new_now way way_now same_held same_way shows =
      subst (λ (h : List Held). ShowsOn history old h way_now) (sym same_held) (subst (λ (w : L). ShowsOn history old new w) (sym same_way) shows)

pub right_then : (gives : Function) (may_fail : Job → Failure → Type 0) (files : List (List ℕ)) (old mid new : List Held) → EndsRight gives may_fail files old mid → EndsRight gives may_fail files mid new
    → EndsRight gives may_fail files old new
right_then gives may_fail files old mid new before now a o task end = by (now a o task end)
  where
    by : Ends mid a o task ⊎ IsRightOf gives may_fail files task o → Ends old a o task ⊎ IsRightOf gives may_fail files task o
    by (inl was) = before a o task was
    by (inr here) = inr here
