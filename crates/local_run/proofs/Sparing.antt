-- Calls that give no attempt up, and those that end one.
use Rattle.std.proofs.Common.{◌≡◌, ◌+◌, ◌∙◌, ℕ, Bool, true, false, cond, arith, List, [], ◌∷◌, ◌++◌, Option, Some, None, Result, Ok, Err, refl, sym, ap, subst, append_assoc}
use Rattle.std.specs.Prelude.{◌||◌, All, OnOk, count_by}
use Rattle.std.specs.List.{list_any}
use Rattle.std.proofs.lemmas.Bool.{or_left}
use Rattle.std.proofs.lemmas.List.{append-nil}
use Rattle.std.proofs.lemmas.List.Elements.{All-append, All-cons, All-nil, All-weaker}
use Rattle.std.proofs.lemmas.List.Folds.{list_any-append}
use Rattle.std.proofs.lemmas.List.Sums.{sum_by-append}
use Rattle.flow_types.specs.declared.numbers.FileNo.{FileNo}
use Rattle.flow_types.specs.declared.numbers.LinkNo.{LinkNo}
use Rattle.flow_types.specs.declared.plan.Plan.{Plan}
use Rattle.flow_types.specs.declared.records.Record.{Record}
use Rattle.flow_types.specs.declared.records.Record.TheVariants as records
use Rattle.rule_graph.specs.Spelling.{plan_digest}
use Rattle.run_history.specs.declared.moves.Move.{Move}
use Rattle.run_history.specs.declared.moves.Move.TheVariants as moves
use Rattle.run_history.specs.declared.options.Options.{Options}
use Rattle.run_history.specs.Laws.{started_as}
use Rattle.run_history.specs.Admissions.{Admitting}
use Rattle.run_history.specs.Links.{records_of}
use Rattle.run_history.specs.Moves.{is_change, is_join}
use Rattle.desk.specs.declared.answers.Claim.{Claim}
use Rattle.desk.specs.declared.answers.Claim.TheVariants as claims
use Rattle.desk.specs.declared.answers.CloseRefused.{CloseRefused}
use Rattle.desk.specs.declared.attempt.Attempt.{Attempt}
use Rattle.desk.specs.Claims.{ClaimsBy}
use Rattle.desk.specs.Collections.{Collects}
use Rattle.desk.specs.Kept.{IsLegal}
use Rattle.desk.specs.State.{Closes, DeskState}
use Rattle.local_run.specs.Losses.{EndsHere, EndsIt, LosesIt, SparesAll, is_lost, starts_on}
use Rattle.local_run.specs.Underway.{AreHere}
use Rattle.local_run.specs.declared.halt.Halt.{Halt}
use Rattle.local_run.proofs.Elsewhere.{runs_started_on}
use Rattle.local_run.proofs.Going.{records_grown}

-- nothing was added
pub same_spares : (M all : List Move) → all ≡ M → SparesAll M all
same_spares M all same = record { more = []; are = same ∙ sym (append-nil M); none = refl; here = All-nil (EndsHere (records_of all)); quiet = refl }

-- what was logged before is logged behind it
pub logged_later : (test : Record → Bool) (H more all : List Record) → all ≡ H ++ more → list_any test H ≡ true → list_any test all ≡ true
logged_later test H more all are is = ap (list_any test) are ∙ list_any-append test H more ∙ or_left (list_any test H) (list_any test more) is

pub here_later : (H more all : List Record) → all ≡ H ++ more → (x : Record) → EndsHere H x → EndsHere all x
here_later H more all are (records.Opened moment run retries limit plan sources) is = tt
here_later H more all are (records.Resumed moment run retries limit) is = tt
here_later H more all are (records.Started moment rule attempt at) is = tt
here_later H more all are (records.Done moment rule attempt outs) is = logged_later (starts_on 0 rule.0 attempt.0) H more all are is
here_later H more all are (records.Failed moment rule attempt why) is = logged_later (starts_on 0 rule.0 attempt.0) H more all are is
here_later H more all are (records.Lost moment rule attempt) is = tt
here_later H more all are (records.Dropped moment file) is = tt
here_later H more all are (records.Ended moment kind) is = tt

-- the records of moves behind others
behind_records : (M more all : List Move) → all ≡ M ++ more → records_of all ≡ records_of M ++ records_of more
behind_records M more all are = ap records_of are ∙ records_grown M more

pub spares_then : (M mid all : List Move) → SparesAll M mid → SparesAll mid all → SparesAll M all
spares_then M mid all one two = record {
  more = one.more ++ two.more;
  are = two.are ∙ ap (λ (N : List Move). N ++ two.more) one.are ∙ append_assoc M one.more two.more;
  none = ap (list_any is_lost) (records_grown one.more two.more) ∙ list_any-append is_lost (records_of one.more) (records_of two.more)
      ∙ ap (λ (b : Bool). b || list_any is_lost (records_of two.more)) one.none ∙ two.none;
  here = subst (All (EndsHere (records_of all))) (sym (records_grown one.more two.more))
      (All-append (EndsHere (records_of all)) (records_of one.more) (records_of two.more)
      (All-weaker (EndsHere (records_of mid)) (EndsHere (records_of all)) (here_later (records_of mid) (records_of two.more) (records_of all) (behind_records mid two.more all two.are)) (records_of one.more) one.here) two.here);
  quiet = (
      let joins : count_by is_join (one.more ++ two.more) ≡ count_by is_join one.more + count_by is_join two.more = sum_by-append (λ (m : Move). cond (is_join m) 1 0) one.more two.more in
      let changes : count_by is_change (one.more ++ two.more) ≡ count_by is_change one.more + count_by is_change two.more = sum_by-append (λ (m : Move). cond (is_change m) 1 0) one.more two.more in
      let first = one.quiet in
      let second = two.quiet in
      omega (arith, joins, changes, first, second)
      );
}

-- one record was added
pub one_spares : (M : List Move) (x : Record) (all : List Move) → all ≡ M ++ (moves.Logged x ∷ []) → is_lost x ≡ false → EndsHere (records_of all) x → SparesAll M all
one_spares M x all are none here = record {
  more = moves.Logged x ∷ [];
  are = are;
  none = ap (λ (b : Bool). b || false) none;
  here = All-cons (EndsHere (records_of all)) x [] here (All-nil (EndsHere (records_of all)));
  quiet = refl;
}

-- where a held attempt stands
pub here_link : (P : Plan) (O : Options) (f : List Attempt) (a : Attempt) (b : List Attempt) → AreHere P O (f ++ (a ∷ b)) → a.link.0 ≡ 0
here_link P O [] a b here = here.0
here_link P O (x ∷ f) a b here = here_link P O f a b here.2

-- an attempt at the local place came to its end
pub ends_spare : (M : List Move) (a : Attempt) (entry : ℕ → Record) (all : List Move) → ((moment : ℕ) → is_lost (entry moment) ≡ false) → ((moment : ℕ) (H : List Record) → list_any (starts_on 0 a.rule.0 a.number.0) H ≡ true → EndsHere H (entry moment)) → a.link.0 ≡ 0
    → (r : Result (Unit {0}) Halt) → OnOk r (EndsIt M a entry all) → OnOk r (SparesAll M all)
ends_spare M a entry all none so here (Ok done) ends =
    let x = entry ends.moment in
    let started : list_any (starts_on 0 a.rule.0 a.number.0) (records_of M) ≡ true = subst (λ (k : ℕ). list_any (starts_on k a.rule.0 a.number.0) (records_of M) ≡ true) here ends.started in
    one_spares M x all ends.are (none ends.moment)
    (so ends.moment (records_of all) (logged_later (starts_on 0 a.rule.0 a.number.0) (records_of M) (x ∷ []) (records_of all) (behind_records M (moves.Logged x ∷ []) all ends.are) started))
ends_spare M a entry all none so here (Err why) ends = tt

module _ {S : Type 0} (count : S → ℕ) (d after : DeskState S) where
  -- an attempt came to its end
  pub ends_it : (a : Attempt) (entry : ℕ → Record) (moment : ℕ) (r : Result (Unit {0}) CloseRefused) → IsLegal d.plan (records_of d.moves) → Closes count d a.rule a.number a.link (entry moment) r after → OnOk r (EndsIt d.moves a entry after.moves)
  ends_it a entry moment (Ok done) legal h = record {
    moment = moment;
    are = ap (λ (b : DeskState S). b.moves) h.2;
    started = runs_started_on d.plan (plan_digest d.plan) (records_of d.moves) a.rule.0 a.number.0 a.link.0 legal h.1;
  }
  ends_it a entry moment (Err why) legal h = tt

  -- an attempt was given up
  pub loses_it : (a : Attempt) (moment : ℕ) (r : Result (Unit {0}) CloseRefused) → IsLegal d.plan (records_of d.moves) → Closes count d a.rule a.number a.link (records.Lost moment a.rule a.number) r after → OnOk r (LosesIt d.moves a after.moves)
  loses_it a moment (Ok done) legal h = record {
    moment = moment;
    are = ap (λ (b : DeskState S). b.moves) h.2;
    started = runs_started_on d.plan (plan_digest d.plan) (records_of d.moves) a.rule.0 a.number.0 a.link.0 legal h.1;
  }
  loses_it a moment (Err why) legal h = tt

  -- a rule was claimed
  pub claims_spares : (A : Admitting) (link : LinkNo) (moment : ℕ) (claim : Claim) → ClaimsBy A count d link moment (Ok claim) after → SparesAll d.moves after.moves
  claims_spares A link moment (claims.Taken attempt) h = one_spares d.moves (started_as d.moves attempt.rule moment link) after.moves (ap (λ (b : DeskState S). b.moves) h.2.5) refl tt
  claims_spares A link moment (claims.Nothing why) h = same_spares d.moves after.moves (ap (λ (b : DeskState S). b.moves) h.2)

  -- a file was dropped, or none
  pub collects_spares : (moment : ℕ) (file : Option FileNo) → Collects count d moment (Ok file) after → SparesAll d.moves after.moves
  collects_spares moment (Some file) h = one_spares d.moves (records.Dropped moment file) after.moves (ap (λ (b : DeskState S). b.moves) h.2) refl tt
  collects_spares moment None h = same_spares d.moves after.moves (ap (λ (b : DeskState S). b.moves) h.2)
