-- The attempts that run on links, call by call.
use Rattle.std.proofs.Common.{◌≡◌, ◌∙◌, ℕ, true, List, [], ◌∷◌, ◌++◌, Option, ap}
use Rattle.std.specs.List.{list_any}
use Rattle.std.proofs.lemmas.Bool.{or_left}
use Rattle.std.proofs.lemmas.List.Folds.{list_any-append}
use Rattle.flow_types.specs.declared.plan.Plan.{Plan}
use Rattle.run_history.specs.declared.moves.Move.{Move}
use Rattle.run_history.specs.Links.{names_link, records_of}
use Rattle.desk.specs.declared.attempt.Attempt.{Attempt}
use Rattle.local_run.specs.Underway.{AreAway, IsOther, NoneHas, RunsAt, RunsAway}

-- a link that a move names is named still behind more moves
pub named_on : (k : ℕ) (M N more : List Move) → N ≡ M ++ more → list_any (names_link k) M ≡ true → list_any (names_link k) N ≡ true
named_on k M N more are named = ap (list_any (names_link k)) are ∙ list_any-append (names_link k) M more ∙ or_left (list_any (names_link k) M) (list_any (names_link k) more) named

-- an attempt on a link runs on behind more moves
pub runs_away_on : (P : Plan) (fine later : Type 0) (M N more : List Move) (a : Attempt) → N ≡ M ++ more → (RunsAt P fine (records_of M) a → RunsAt P later (records_of N) a) → RunsAway P fine M a → RunsAway P later N a
runs_away_on P fine later M N more a are on runs = record { at = on runs.at; beyond = runs.beyond; named = named_on a.link.0 M N more are runs.named }

-- Each attempt that runs on a link runs there still, beside those that are held and the loose one.
abbrev pub StaysAway : Plan → Type 0 → List Move → List Attempt → Option Attempt → Type 0 → List Move → List Attempt → Option Attempt → Type 0
StaysAway P fine M held loose later N now next =
    (a : Attempt) → RunsAway P fine M a → NoneHas a.number held → IsOther a.number loose → RunsAway P later N a × NoneHas a.number now × IsOther a.number next

pub away_on : (P : Plan) (fine later : Type 0) (M N : List Move) (held now : List Attempt) (loose next : Option Attempt) (away : List Attempt) → StaysAway P fine M held loose later N now next
    → AreAway P fine M held loose away → AreAway P later N now next away
away_on P fine later M N held now loose next [] each h = tt
away_on P fine later M N held now loose next (a ∷ away) each h = let one = each a h.0 h.1 h.2 in (one.0, one.1, one.2, h.3, away_on P fine later M N held now loose next away each h.4)
