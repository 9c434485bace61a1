-- Where attempts of a run are started.
use Rattle.std.proofs.Common.{◌≡◌, ◌∙◌, ℕ, true, true≢false, ◌&&◌, List, [], ◌∷◌, ◌++◌, length, map, refl, sym, ap, subst, append_assoc}
use Rattle.std.specs.Prelude.{All, drop, is_none, is_some, slice_get, take}
use Rattle.std.proofs.lemmas.Bool.{and_parts}
use Rattle.std.proofs.lemmas.Option.{slice_get_past}
use Rattle.std.proofs.lemmas.List.{append-nil, map-append}
use Rattle.std.proofs.lemmas.List.Elements.{All-nil, All-cons}
use Rattle.std.proofs.Math.Seq.{take-append_seam}
use Rattle.flow_types.specs.declared.plan.Plan.{Plan}
use Rattle.flow_types.specs.declared.job.Job.{Job}
use Rattle.flow_types.specs.declared.job.Failure.{Failure}
use Rattle.flow_types.specs.declared.records.Record.{Record}
use Rattle.flow_types.specs.declared.records.Record.TheVariants as records
use Rattle.flow_types.specs.Serial.{Contents, Function}
use Rattle.run_history.specs.declared.options.Options.{Options}
use Rattle.run_history.specs.declared.moves.Move.{Move}
use Rattle.run_history.specs.declared.moves.Move.TheVariants as moves
use Rattle.run_history.specs.Admissions.{Admitting}
use Rattle.run_history.specs.Legal.{is_allowed, is_legal}
use Rattle.run_history.specs.Links.{fits, is_live, may_run_on, records_of}
use Rattle.run_history.specs.Moves.{all_follow, is_served, may_follow, serves}
use Rattle.run_history.specs.Storage.{wanted}
use Rattle.rule_graph.specs.Spelling.{plan_digest}
use Rattle.outside.specs.Disk.{Outcomes}
use Rattle.outside.specs.Files.{Files}
use Rattle.desk.specs.Admitted.{AreAdmitted}
use Rattle.desk.specs.Asked.{first_records}
use Rattle.desk.specs.State.{DeskState}
use Rattle.local_run.specs.Course.{GoesOn}
use Rattle.local_run.specs.Ends.{BeganOver}
use Rattle.local_run.proofs.Going.{records_grown, records_more}
use Rattle.flow_run.specs.Places.{PlacedBy, StartsWhere}

-- a record that a desk serves starts its attempt where its rule may run
served_where : (P : Plan) (O : Options) (M : List Move) (x : Record) → is_served P O M x ≡ true → StartsWhere P O x
served_where P O M (records.Opened moment run retries limit plan sources) is = tt
served_where P O M (records.Resumed moment run retries limit) is = tt
served_where P O M (records.Started moment rule attempt link) is =
    let first = (and_parts (is_live O M link.0 && may_run_on P O rule.0 link.0 && fits P O M rule.0 link.0) (is_none (wanted P O.mode (records_of M))) is).0 in
    let live = (and_parts (is_live O M link.0 && may_run_on P O rule.0 link.0) (fits P O M rule.0 link.0) first).0 in
    (and_parts (is_live O M link.0) (may_run_on P O rule.0 link.0) live).1
served_where P O M (records.Done moment rule attempt outs) is = tt
served_where P O M (records.Failed moment rule attempt why) is = tt
served_where P O M (records.Lost moment rule attempt) is = tt
served_where P O M (records.Dropped moment f) is = tt
served_where P O M (records.Ended moment kind) is = tt

-- and so do those among the moves that follow
all_where : (P : Plan) (digest : List ℕ) (O : Options) (M all : List Move) → all_follow P digest O M all ≡ true → All (StartsWhere P O) (records_of all)
all_where P digest O M [] follow = All-nil (StartsWhere P O)
all_where P digest O M (moves.Logged x ∷ rest) follow =
    let parts = and_parts (may_follow P digest O M (moves.Logged x)) (all_follow P digest O (M ++ (moves.Logged x ∷ [])) rest) follow in
    let served = (and_parts (is_allowed P digest (records_of M) x) (is_served P O M x) parts.0).1 in
    All-cons (StartsWhere P O) x (records_of rest) (served_where P O M x served) (all_where P digest O (M ++ (moves.Logged x ∷ [])) rest parts.1)
all_where P digest O M (moves.Joined link total largest cache ∷ rest) follow =
    let m : Move = moves.Joined link total largest cache in
    all_where P digest O (M ++ (m ∷ [])) rest (and_parts (may_follow P digest O M m) (all_follow P digest O (M ++ (m ∷ [])) rest) follow).1
all_where P digest O M (moves.Changed link total largest cache ∷ rest) follow =
    let m : Move = moves.Changed link total largest cache in
    all_where P digest O (M ++ (m ∷ [])) rest (and_parts (may_follow P digest O M m) (all_follow P digest O (M ++ (m ∷ [])) rest) follow).1
all_where P digest O M (moves.Left link ∷ rest) follow =
    let m : Move = moves.Left link in
    all_where P digest O (M ++ (m ∷ [])) rest (and_parts (may_follow P digest O M m) (all_follow P digest O (M ++ (m ∷ [])) rest) follow).1

seam : (H : List Record) (rest : List Move) → drop (length H) (map moves.Logged H ++ rest) ≡ rest
seam [] rest = refl
seam (y ∷ ys) rest = seam ys rest

-- the moves that a desk serves behind the records of its start
served_since : (P : Plan) (O : Options) (H : List Record) (since : List Move) (base : ℕ) (M : List Move) → base ≡ length H → M ≡ map moves.Logged H ++ since → serves P (plan_digest P) O (first_records base M) (drop base M) ≡ true
    → all_follow P (plan_digest P) O (map moves.Logged H) since ≡ true
served_since P O H since base M counted are is =
    let G : List Record = first_records base M in
    let all : records_of M ≡ H ++ records_of since = ap records_of are ∙ records_grown (map moves.Logged H) since ∙ ap (λ (L : List Record). L ++ records_of since) (records_more [] H) in
    let these : G ≡ H = ap (λ (n : ℕ). take n (records_of M)) counted ∙ ap (take (length H)) all ∙ take-append_seam H (records_of since) in
    let behind : drop base M ≡ since = ap (λ (n : ℕ). drop n M) counted ∙ ap (λ (N : List Move). drop (length H) N) are ∙ seam H since in
    let parts = and_parts (is_legal P (plan_digest P) G) (all_follow P (plan_digest P) O (map moves.Logged G) (drop base M)) is in
    subst (λ (N : List Move). all_follow P (plan_digest P) O (map moves.Logged H) N ≡ true) behind
    (subst (λ (K : List Record). all_follow P (plan_digest P) O (map moves.Logged K) (drop base M) ≡ true) these parts.1)

module _ {S : Type 0} (trust : Type 0) (gives : Function) (may_fail : Job → Failure → Type 0) (sources : Contents) (tells : Type 0) (files : S → Files) (may_leave : S → Outcomes) (moment : S → ℕ)
    (images_since : S → ℕ → Files → Type 0) (links : List Move) (d after : DeskState S) (goes : GoesOn trust gives may_fail sources tells files may_leave moment images_since links d after) where
  -- the records of the run of a desk start attempts where their rules may run
  pub placed_by : (H all : List Record) → BeganOver d H → all ≡ records_of after.moves → serves after.plan (plan_digest after.plan) after.options (first_records after.base after.moves) (drop after.base after.moves) ≡ true
      → PlacedBy d.plan d.options H all
  placed_by H all began are is =
      let x : Record = began.1.0 in
      let made : after.moves ≡ map moves.Logged H ++ (moves.Logged x ∷ goes.passed) =
      goes.moves ∙ ap (λ (M : List Move). M ++ goes.passed) (began.1.2 ∙ map-append moves.Logged H (x ∷ [])) ∙ append_assoc (map moves.Logged H) (moves.Logged x ∷ []) goes.passed in
      let follow = served_since after.plan after.options H (moves.Logged x ∷ goes.passed) after.base after.moves (goes.base ∙ began.0) made is in
      let placed = all_where after.plan (plan_digest after.plan) after.options (map moves.Logged H) (moves.Logged x ∷ goes.passed) follow in
      record {
        more = x ∷ records_of goes.passed;
        are = are ∙ ap records_of made ∙ records_grown (map moves.Logged H) (moves.Logged x ∷ goes.passed) ∙ ap (λ (L : List Record). L ++ (x ∷ records_of goes.passed)) (records_more [] H);
        each = subst (λ (P : Plan). All (StartsWhere P d.options) (x ∷ records_of goes.passed)) goes.plan
            (subst (λ (O : Options). All (StartsWhere after.plan O) (x ∷ records_of goes.passed)) goes.options placed);
      }

-- a run that adds no record
pub placed_none : (P : Plan) (O : Options) (H all : List Record) → all ≡ H → PlacedBy P O H all
placed_none P O H all same = record {
  more = [];
  are = same ∙ sym (append-nil H);
  each = All-nil (StartsWhere P O);
}

-- nor any start
pub admitted_none : (A : Admitting) (P : Plan) (O : Options) (H all : List Record) → all ≡ H → AreAdmitted A P O all (length H)
admitted_none A P O H all same i moment rule attempt link since is =
    absurd (true≢false (ap is_some (sym is ∙ ap (λ (G : List Record). slice_get G i) same ∙ slice_get_past H i since)))
