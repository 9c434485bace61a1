-- A desk only grows.
use Rattle.std.proofs.Common.{◌≡◌, ⊎_elim, inl, inr, ℕ, List, length, refl, subst, sym, ◌∙◌}
use Rattle.std.specs.Prelude.{◌⊎◌}
use Rattle.flow_types.specs.declared.plan.Plan.{Plan}
use Rattle.run_history.specs.Links.{records_of}
use Rattle.run_history.specs.Storage.{complete_count}
use Rattle.outside.specs.Disk.{Outcomes}
use Rattle.outside.specs.Files.{Files}
use Rattle.desk.specs.State.{DeskState}
use Rattle.desk.proofs.Goings.{goes_further, goes_more, goes_rises, goes_same}
use Rattle.desk.proofs.Others.{then_stays}
use Rattle.turns.specs.Growth.{IsGrowth}
use Rattle.board.specs.Goes.{GoesOn, IsUnmade, OthersStay, Stay}

module _ {S : Type 0} (tells : Type 0) (files : S → Files) (may_leave : S → Outcomes) (moment : S → ℕ)
    (images_since : S → ℕ → Files → Type 0) where
  stay_then : (beside : List ℕ → Type 0) (old mid new : S)
      → Stay tells files may_leave moment images_since beside old mid
      → Stay tells files may_leave moment images_since beside mid new
      → Stay tells files may_leave moment images_since beside old new
  stay_then beside old mid new first second = (
    then_stays may_leave moment images_since beside old mid new first.0 second.0,
    λ m other. second.1 m other ∙ first.1 m other,
  )

  others_further : (a b c : DeskState S) → b.plan ≡ a.plan → b.log ≡ a.log
      → OthersStay tells files may_leave moment images_since a b
      → OthersStay tells files may_leave moment images_since b c
      → OthersStay tells files may_leave moment images_since a c
  others_further a b c plan log first second told = ⊎_elim from_b from_ab (second told)
    where
      From : S → S → Type 0
      From = Stay tells files may_leave moment images_since (IsUnmade a.plan a.log)

      from_b : c.site ≡ b.site → (c.site ≡ a.site) ⊎ From a.site c.site
      from_b same =
          ⊎_elim (λ too. inl (same ∙ too)) (λ stays. inr (subst (λ (s : S). From a.site s) (sym same) stays))
          (first told)

      from_ab : Stay tells files may_leave moment images_since (IsUnmade b.plan b.log) b.site c.site
          → (c.site ≡ a.site) ⊎ From a.site c.site
      from_ab later =
          let here : From b.site c.site =
          subst (λ (P : Plan). Stay tells files may_leave moment images_since (IsUnmade P a.log) b.site c.site) plan
          (subst (λ (l : List ℕ). Stay tells files may_leave moment images_since (IsUnmade b.plan l) b.site c.site) log
          later) in
          ⊎_elim (λ same. inr (subst (λ (s : S). From s c.site) same here))
          (λ stays. inr (stay_then (IsUnmade a.plan a.log) a.site b.site c.site stays here)) (first told)

  -- A desk may stay as it is and go on further, and neither its moves nor its complete rules become fewer.
  pub goes_on : IsGrowth {D = DeskState S} (GoesOn tells files may_leave moment images_since) (λ d. length d.moves)
      (λ d. complete_count d.plan (records_of d.moves))
  goes_on = record {
    same = λ d. (goes_same d, λ told. inl refl);
    further = λ a b c p q. (goes_further a b c p.0 q.0, others_further a b c p.0.0.3 p.0.0.5 p.1 q.1);
    more = λ a b p. goes_more a b p.0;
    rises = λ a b p. goes_rises a b p.0;
  }
