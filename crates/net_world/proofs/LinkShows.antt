-- What the machines of a world show after a link is lost.
use Rattle.std.proofs.Common.{◌≡◌, ◌<◌, ◌≤◌, ℕ, Bool, true, false, cond, not, List, [], ◌∷◌, ◌++◌, length, Option, Some, None, refl, ap, sym, ◌∙◌, subst, fold, arith}
use Rattle.std.specs.Prelude.{◌&&◌, filter, find, is_some, slice_get}
use Rattle.std.specs.Option.{option_map, option_map_or}
use Rattle.std.proofs.lemmas.Bool.{eqb-true}
use Rattle.flow_types.specs.declared.plan.Plan.{Plan}
use Rattle.flow_types.specs.declared.numbers.AttemptNo.{AttemptNo}
use Rattle.flow_types.specs.declared.numbers.LinkNo.{LinkNo}
use Rattle.flow_types.specs.declared.job.Outcome.TheVariants as outcomes
use Rattle.flow_types.specs.declared.records.Record.{Record}
use Rattle.run_history.specs.History.{part}
use Rattle.flow_types.specs.Plans.{is_empty, numbers, rule_numbers}
use Rattle.run_history.specs.declared.moves.Move.TheVariants as moves
use Rattle.run_history.specs.declared.options.Options.{Options}
use Rattle.run_history.specs.Legal.{runs}
use Rattle.run_history.specs.Links.{records_of, running_on, runs_on}
use Rattle.run_history.specs.States.{Place, running_in}
use Rattle.run_history.specs.Storage.{is_running}
use Rattle.run_history.proofs.Grows.{records-same}
use Rattle.task_core.specs.Links.{Leaves}
use Rattle.net_world.specs.declared.play.Play.{Play}
use Rattle.world_laws.specs.Worlds.{Connection, World, at_link, closed_as, closed_at, leaves, loses_link, loses_rule, parts, records_in}
use Rattle.net_world.specs.Plays.{AreOurs, IsShown, runs_there}
use Rattle.world_contents.specs.Holdings.{kept_in}
use Rattle.net_world.proofs.Lines.{keeps_silent, left_links, none_local, ours_keep}
use Rattle.world_laws.proofs.Members.{every_filter, found_stands}

-- ---- the rules that run on a link

kept_by : (first then : ℕ → Bool) (x : ℕ) (xs : List ℕ) (a : Bool) → first x ≡ a → filter (λ y. first y && then y) xs ≡ filter then (filter first xs)
    → cond (a && then x) (x ∷ filter (λ y. first y && then y) xs) (filter (λ y. first y && then y) xs) ≡ filter then (cond a (x ∷ filter first xs) (filter first xs))
kept_by first then x xs true is rest = ap (λ ys. cond (then x) (x ∷ ys) ys) rest
kept_by first then x xs false is rest = rest

both_filtered : (first then : ℕ → Bool) (xs : List ℕ) → filter (λ y. first y && then y) xs ≡ filter then (filter first xs)
both_filtered first then [] = refl
both_filtered first then (x ∷ xs) = kept_by first then x xs (first x) refl (both_filtered first then xs)

-- all of the plan's rules were looked at
pub all_found : (P : Plan) (H : List Record) (k n : ℕ) → n ≤ length P.rules → length P.rules ≤ n → filter (runs_there H k) (numbers n) ≡ running_on P H k
all_found P H k n within past =
    let same : n ≡ length P.rules = omega (arith, within, past) in
    ap (λ n. filter (runs_there H k) (numbers n)) same ∙ both_filtered (is_running H) (runs_on H k) (rule_numbers P)

-- a rule that is taken, or isn't
pub not_taken : (b : Bool) (xs : List ℕ) (x : ℕ) → b ≡ false → xs ≡ xs ++ cond b (x ∷ []) []
not_taken true xs x is = absurd (let h : ⊥ = cc in h)
not_taken false xs x is = sym (append_none xs)
  where
    append_none : (xs : List ℕ) → xs ++ [] ≡ xs
    append_none [] = refl
    append_none (x ∷ xs) = ap (λ ys. x ∷ ys) (append_none xs)

-- ---- a link that leaves

never_local : (c : Connection) (k : ℕ) → k ≡ 0 → at_link k c ≡ true → 0 < c.link → ⊥
never_local c k zero at above = omega (arith, eqb-true c.link k at, zero, above)

-- the local place stays
pub local_stays : (P : Plan) (O : Options) (w : World) (play : Play) (k : ℕ) → k ≡ 0 → IsShown P O w play → IsShown P O (leaves w k (find (at_link k) w.connections)) play
local_stays P O w play k local shown = by (find (at_link k) w.connections) refl
  where
    by : (found : Option Connection) → find (at_link k) w.connections ≡ found → IsShown P O (leaves w k found) play
    by None is = shown
    by (Some c) is = absurd (never_local c k local (found_stands (at_link k) w.connections c is).1
        (none_local O w.moves w.connections shown.live c (found_stands (at_link k) w.connections c is).0))

-- a link that lives leaves
pub left_shown : (P : Plan) (O : Options) (w : World) (old new : Play) (link : LinkNo) → 0 < link.0 → is_some (find (at_link link.0) old.lines.items) ≡ true → IsShown P O w old
    → Leaves old.table w.moves link new.table → new.lines.items ≡ filter (λ c. not (at_link link.0 c)) old.lines.items → new.records.items ≡ old.records.items → new.contents.items ≡ old.contents.items
    → new.peers.items ≡ old.peers.items → new.bag.items ≡ old.bag.items → new.up ≡ old.up → IsShown P O (leaves w link.0 (find (at_link link.0) w.connections)) new
left_shown P O w old new link other lives shown left lines entries contents peers bag up =
    by (find (at_link link.0) w.connections) (ap (λ cs. is_some (find (at_link link.0) cs)) (sym shown.lines) ∙ lives)
  where
    H : List Record
    H = records_of (w.moves ++ (moves.Left link ∷ []))

    by : (found : Option Connection) → is_some found ≡ true → IsShown P O (leaves w link.0 found) new
    by None some = absurd (let h : ⊥ = cc in h)
    by (Some c) some = record {
      table = record {
        plan = left.1.0 ∙ shown.table.plan;
        options = left.1.1 ∙ shown.table.options;
        stop = left.1.2 ∙ shown.table.stop;
        stands = left.0;
        opened = ap (λ H. is_empty (part H)) (records-same w.moves (moves.Left link) refl) ∙ shown.table.opened;
        records = entries ∙ shown.table.records ∙ sym (records-same w.moves (moves.Left link) refl);
      };
      contents = λ f. shown.contents f ∙ ap (λ kept. kept_in (slice_get kept f)) (sym contents);
      lines = lines ∙ ap (filter (λ c. not (at_link link.0 c))) shown.lines;
      places = ap length contents ∙ shown.places;
      live = left_links O old.table w.moves link w.connections other shown.table.options shown.table.stands shown.live;
      ours = every_filter (AreOurs P H) (λ c. not (at_link link.0 c)) w.connections (ours_keep P (records_in w) H w.connections (keeps_silent w.moves (moves.Left link) refl) shown.ours);
      peers = peers ∙ shown.peers;
      bag = bag ∙ shown.bag;
      up = up ∙ shown.up;
    }

-- ---- a lost link

closed_links : (P : Plan) (w : World) (r : ℕ) (attempt : AttemptNo) (b : Bool) → (cond b (closed_as P w r attempt outcomes.NotRun) w).connections ≡ w.connections
closed_links P w r attempt true = refl
closed_links P w r attempt false = refl

rule_links : (P : Plan) (w : World) (r : ℕ) (found : Option Place) → (option_map_or (λ place. closed_at P w place.0 outcomes.NotRun (Some r)) found w).connections ≡ w.connections
rule_links P w r None = refl
rule_links P w r (Some place) = closed_links P w r place.0 (runs P (records_in w) r place.0.0)

all_links : (P : Plan) (rules : List ℕ) (w : World) → (fold (loses_rule P) w rules).connections ≡ w.connections
all_links P [] w = refl
all_links P (r ∷ rules) w = all_links P rules (loses_rule P w r) ∙ rule_links P w r (running_in (records_in w) r)

-- where all that runs on a link was lost, and the link has left, the link is lost
pub link_lost_shown : (P : Plan) (O : Options) (w : World) (old mid new : Play) (k : ℕ) (rules : List ℕ) → rules ≡ running_on old.table.plan (records_of w.moves) k → IsShown P O w old
    → (IsShown P O (fold (loses_rule P) w rules) mid → IsShown P O (leaves (fold (loses_rule P) w rules) k (find (at_link k) (fold (loses_rule P) w rules).connections)) new)
    → IsShown P O (fold (loses_rule P) w rules) mid → IsShown P O (loses_link P w k) new
link_lost_shown P O w old mid new k rules are shown leave lost =
    subst (λ rules. IsShown P O (leaves (fold (loses_rule P) w rules) k (find (at_link k) w.connections)) new)
    (are ∙ ap (λ P. running_on P (records_of w.moves) k) shown.table.plan)
    (subst (λ cs. IsShown P O (leaves (fold (loses_rule P) w rules) k (find (at_link k) cs)) new) (all_links P rules w) (leave lost))

-- the link of a peer is lost, where it has one
pub part_shown : (P : Plan) (O : Options) (w : World) (new : Play) (link : ℕ) (found : Option Connection) → Some link ≡ option_map (λ c. c.link) found → IsShown P O (loses_link P w link) new
    → IsShown P O (parts P w found) new
part_shown P O w new link None is shown = absurd (let h : ⊥ = cc in h)
part_shown P O w new link (Some c) is shown = let same : link ≡ c.link = cc in subst (λ k. IsShown P O (loses_link P w k) new) same shown

pub no_part_shown : (P : Plan) (O : Options) (w : World) (play : Play) (found : Option Connection) → (let none : Option ℕ = None in none ≡ option_map (λ c. c.link) found) → IsShown P O w play
    → IsShown P O (parts P w found) play
no_part_shown P O w play None is shown = shown
no_part_shown P O w play (Some c) is shown = absurd (let h : ⊥ = cc in h)
