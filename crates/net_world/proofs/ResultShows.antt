-- What the machines of a world show at the end.
use Rattle.std.proofs.Common.{◌≡◌, ◌≤◌, ◌+◌, ◌++◌, ℕ, true, cond, List, [], ◌∷◌, length, Some, None, ap, sym, ◌∙◌, subst, arith}
use Rattle.std.specs.Prelude.{filter, filter_map}
use Rattle.std.specs.Option.{option_map}
use Rattle.std.proofs.lemmas.List.Elements.{filter_map-append}
use Rattle.flow_types.specs.declared.plan.Plan.{Plan}
use Rattle.flow_types.specs.Plans.{numbers}
use Rattle.run_history.specs.declared.moves.Move.{Move}
use Rattle.run_history.specs.declared.options.Options.{Options}
use Rattle.run_history.specs.Answers.{file_no}
use Rattle.run_history.specs.Links.{records_of}
use Rattle.run_history.specs.Storage.{is_present}
use Rattle.task_core.specs.Stands.{Stands}
use Rattle.net_world.specs.declared.play.Play.{Play}
use Rattle.net_world.specs.declared.world.Holding.{Holding}
use Rattle.world_contents.specs.Holdings.{held_in}
use Rattle.net_world.specs.Plays.{IsShown}
use Rattle.net_world.specs.Results.{holding_of, holdings, is_made, present_holding}
use Rattle.world_laws.specs.Worlds.{World, records_in}
use Rattle.world_contents.proofs.Numbers.{numbers_more}

-- a file with its content
abbrev pub holding_at : ℕ → List ℕ → Holding
holding_at f content = record { file = file_no f; content = content }

-- a made file that is present is taken with its content
pub held_one : (P : Plan) (O : Options) (w : World) (play : Play) (f : ℕ) (content : List ℕ) → IsShown P O w play → is_made play.table.plan f ≡ true
    → ((M : List Move) → Stands play.table M → is_present play.table.plan (records_of M) f ≡ true) → held_in play.contents.items f ≡ Some content
    → holding_at f content ∷ [] ≡ filter_map (present_holding P w) (cond (is_made P f) (f ∷ []) [])
held_one P O w play f content shown made present held =
    let made : is_made P f ≡ true = subst (λ P. is_made P f ≡ true) shown.table.plan made in
    let here : is_present P (records_in w) f ≡ true = subst (λ P. is_present P (records_in w) f ≡ true) shown.table.plan (present w.moves shown.table.stands) in
    let content : w.contents f ≡ Some content = shown.contents f ∙ held in
    let found : present_holding P w f ≡ Some (holding_at f _) = ap (λ b. cond b (holding_of w.contents f) None) here ∙ ap (option_map (holding_at f)) content in
    sym (ap (λ b. filter_map (present_holding P w) (cond b (f ∷ []) [])) made ∙ one found)
  where
    one : {x : Holding} → present_holding P w f ≡ Some x → filter_map (present_holding P w) (f ∷ []) ≡ x ∷ []
    one {x} is = cc

-- one file more
pub held_more : (P : Plan) (w : World) (f : ℕ) → filter_map (present_holding P w) (filter (is_made P) (numbers f)) ++ filter_map (present_holding P w) (filter (is_made P) (f ∷ []))
    ≡ filter_map (present_holding P w) (filter (is_made P) (numbers (f + 1)))
held_more P w f =
    sym (filter_map-append (present_holding P w) (filter (is_made P) (numbers f)) (filter (is_made P) (f ∷ []))) ∙ ap (filter_map (present_holding P w)) (sym (numbers_more (is_made P) f))

-- all files were looked at
pub held_all : (P : Plan) (O : Options) (w : World) (play : Play) (n : ℕ) → n ≤ length play.table.plan.files → length play.table.plan.files ≤ n → IsShown P O w play
    → filter_map (present_holding P w) (filter (is_made P) (numbers n)) ≡ holdings P w
held_all P O w play n within past shown =
    let same : n ≡ length play.table.plan.files = omega (arith, within, past) in
    ap (λ n. filter_map (present_holding P w) (filter (is_made P) (numbers n))) (same ∙ ap (λ P. length P.files) shown.table.plan)
