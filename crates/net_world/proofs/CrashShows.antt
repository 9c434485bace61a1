-- What the machines of a world show after a crash, and after a resume.
use Rattle.std.proofs.Common.{◌≡◌, ◌+◌, ℕ, Bool, true, false, cond, List, [], ◌∷◌, ◌++◌, length, map, refl, ap, sym, ◌∙◌, subst}
use Rattle.std.specs.Prelude.{Result, Ok, count_by, filter}
use Rattle.flow_types.specs.declared.lists.Memory.{Memory}
use Rattle.flow_types.specs.declared.plan.Plan.{Plan}
use Rattle.flow_types.specs.declared.records.Record.{Record}
use Rattle.flow_types.specs.Plans.{is_empty, numbers}
use Rattle.rule_graph.specs.Spelling.{plan_digest}
use Rattle.run_history.specs.declared.moves.Move.{Move}
use Rattle.run_history.specs.declared.moves.Move.TheVariants as moves
use Rattle.run_history.specs.declared.options.Options.{Options}
use Rattle.run_history.specs.History.{part}
use Rattle.run_history.specs.Legal.{is_allowed}
use Rattle.run_history.specs.Links.{is_live, records_of}
use Rattle.run_history.specs.Moves.{is_join, live_links}
use Rattle.task_core.specs.Parts.{IsOver}
use Rattle.task_core.specs.Stands.{Notes, Stands, logged as moves_with}
use Rattle.task_core.specs.States.{TableState}
use Rattle.net_world.specs.declared.play.Play.{Play}
use Rattle.world_contents.specs.Holdings.{held_in}
use Rattle.net_world.specs.Plays.{AreOurs, IsShown, IsTable}
use Rattle.world_laws.specs.Worlds.{World, going_on, logged, present_only, records_in, resumes, resumption, stopped}
use Rattle.world_laws.proofs.Crashes.{records_again}
use Rattle.net_world.proofs.Lines.{goes_logged}
use Rattle.world_laws.proofs.Members.{every_nil}
use Rattle.net_world.proofs.Shows.{table_logged}

no_joins : (H : List Record) → count_by is_join (map moves.Logged H) ≡ 0
no_joins [] = refl
no_joins (x ∷ xs) = no_joins xs

-- after records alone only the local place lives
only_local : (O : Options) (H : List Record) → live_links O (map moves.Logged H) ≡ 0 ∷ []
only_local O H = ap (λ n. filter (is_live O (map moves.Logged H)) (numbers (n + 1))) (no_joins H)

over_table : (P : Plan) (O : Options) (w : World) (old : Play) (table : TableState) → IsShown P O w old → IsOver P O (plan_digest P) (records_in w) table
    → IsTable P O (map moves.Logged (records_in w)) table old.records.items
over_table P O w old table shown over =
    let again : records_of (map moves.Logged (records_in w)) ≡ records_in w = records_again (records_in w) in
    record {
      plan = over.plan;
      options = over.options;
      stop = over.stop;
      stands = over.stands;
      opened = ap (λ H. is_empty (part H)) again ∙ shown.table.opened;
      records = shown.table.records ∙ sym again;
    }

-- The master has stopped.
pub stopped_shown : (P : Plan) (O : Options) (w : World) (old new : Play) → IsShown P O w old → IsOver P O (plan_digest P) (records_in w) new.table → new.records.items ≡ old.records.items
    → ((f : ℕ) → held_in new.contents.items f ≡ present_only P (records_in w) w.contents f) → length new.contents.items ≡ length old.contents.items → new.lines.items ≡ []
    → new.peers.items ≡ old.peers.items → new.bag.items ≡ old.bag.items → new.up ≡ false → IsShown P O (stopped P w) new
stopped_shown P O w old new shown over entries held places none peers bag up = record {
  table = subst (IsTable P O (map moves.Logged (records_in w)) new.table) (sym entries) (over_table P O w old new.table shown over);
  contents = λ f. sym (held f);
  places = places ∙ shown.places;
  lines = none;
  live = sym (only_local O (records_in w));
  ours = every_nil (AreOurs P (records_of (map moves.Logged (records_in w))));
  peers = peers ∙ shown.peers;
  bag = bag ∙ shown.bag;
  up = up;
}

-- the record of a resume, as the new table finds it
entry_is : (P : Plan) (O : Options) (w : World) (table : TableState) (entry : Record) → IsOver P O (plan_digest P) (records_in w) table
    → ((M : List Move) → Stands table M → entry ≡ resumption table.options (records_of M)) → entry ≡ resumption O (records_in w)
entry_is P O w table entry over is =
    is (map moves.Logged (records_in w)) over.stands ∙ ap (λ O. resumption O (records_of (map moves.Logged (records_in w)))) over.options
    ∙ ap (resumption O) (records_again (records_in w))

-- whether it is allowed, as the new table finds it
allowed_is : (P : Plan) (O : Options) (w : World) (table : TableState) (digest : List ℕ) (entry : Record) (b : Bool) → IsOver P O (plan_digest P) (records_in w) table
    → digest ≡ plan_digest table.plan → entry ≡ resumption O (records_in w) → is_allowed table.plan digest (records_of (map moves.Logged (records_in w))) entry ≡ b
    → is_allowed P (plan_digest P) (records_in w) (resumption O (records_in w)) ≡ b
allowed_is P O w table digest entry b over same is allowed =
    ap (λ x. is_allowed P (plan_digest P) (records_in w) x) (sym is)
    ∙ ap (λ H. is_allowed P (plan_digest P) H entry) (sym (records_again (records_in w)))
    ∙ ap (λ Q. is_allowed Q (plan_digest Q) (records_of (map moves.Logged (records_in w))) entry) (sym over.plan)
    ∙ ap (λ d. is_allowed table.plan d (records_of (map moves.Logged (records_in w))) entry) (sym same) ∙ allowed

-- A resume that isn't allowed changes nothing.
pub not_resumed_shown : (P : Plan) (O : Options) (w : World) (play : Play) (table after : TableState) (digest : List ℕ) (entry : Record) (answer : Result Bool Memory) → answer ≡ Ok false
    → IsShown P O w play → IsOver P O (plan_digest P) (records_in w) table → digest ≡ plan_digest table.plan
    → ((M : List Move) → Stands table M → entry ≡ resumption table.options (records_of M)) → ((M : List Move) → Stands table M → Notes table digest M entry answer after)
    → IsShown P O (resumes P O w) play
not_resumed_shown P O w play table after digest entry answer is shown over same entries notes =
    let did = subst (λ answer. Notes table digest (map moves.Logged (records_in w)) entry answer after) is (notes (map moves.Logged (records_in w)) over.stands) in
    let refused : is_allowed P (plan_digest P) (records_in w) (resumption O (records_in w)) ≡ false =
    allowed_is P O w table digest entry false over same (entry_is P O w table entry over entries) did.0 in
    subst (λ b. IsShown P O (cond b (going_on (logged (stopped P w) (resumption O (records_in w)))) w) play) (sym refused) shown

-- A resume that is allowed.
pub resumed_shown : (P : Plan) (O : Options) (w : World) (old new : Play) (table : TableState) (digest : List ℕ) (entry : Record) (answer : Result Bool Memory) → answer ≡ Ok true
    → IsShown P O w old → IsOver P O (plan_digest P) (records_in w) table → digest ≡ plan_digest table.plan
    → ((M : List Move) → Stands table M → entry ≡ resumption table.options (records_of M)) → ((M : List Move) → Stands table M → Notes table digest M entry answer new.table)
    → new.records.items ≡ old.records.items ++ (entry ∷ []) → ((f : ℕ) → held_in new.contents.items f ≡ present_only P (records_in w) w.contents f)
    → length new.contents.items ≡ length old.contents.items → new.lines.items ≡ [] → new.peers.items ≡ old.peers.items → new.bag.items ≡ old.bag.items → new.up ≡ true
    → IsShown P O (resumes P O w) new
resumed_shown P O w old new table digest entry answer is shown over same entries notes pushed held places none peers bag up =
    let M : List Move = map moves.Logged (records_in w) in
    let x : Record = resumption O (records_in w) in
    let did = subst (λ answer. Notes table digest M entry answer new.table) is (notes M over.stands) in
    let entry_same : entry ≡ x = entry_is P O w table entry over entries in
    let allowed : is_allowed P (plan_digest P) (records_in w) x ≡ true = allowed_is P O w table digest entry true over same entry_same did.0 in
    subst (λ b. IsShown P O (cond b (going_on (logged (stopped P w) x)) w) new) (sym allowed) (record {
      table = subst (IsTable P O (moves_with M x) new.table) (sym (pushed ∙ ap (λ e. old.records.items ++ (e ∷ [])) entry_same))
          (table_logged P O M table new.table old.records.items x refl (over_table P O w old table shown over) (subst (λ e. Stands new.table (moves_with M e)) entry_same did.2) did.1);
      contents = λ f. sym (held f);
      places = places ∙ shown.places;
      lines = none;
      live = sym (only_local O (records_in w)) ∙ sym (goes_logged O M x).live;
      ours = every_nil (AreOurs P (records_of (moves_with M x)));
      peers = peers ∙ shown.peers;
      bag = bag ∙ shown.bag;
      up = up;
    })
