-- What a link that joins, changes or leaves makes of a run.
use Rattle.std.proofs.Common.{◌≡◌, ◌≤◌, ◌+◌, ◌∙◌, ℕ, List, [], ◌∷◌, ◌++◌, length, Option, Result, Ok, Err, refl, sym, ap, subst, arith}
use Rattle.flow_types.specs.declared.numbers.Amounts.{Amounts}
use Rattle.flow_types.specs.declared.numbers.LinkNo.{LinkNo}
use Rattle.flow_types.specs.declared.job.Job.{Job}
use Rattle.flow_types.specs.declared.job.Failure.{Failure}
use Rattle.flow_types.specs.declared.job.Start.{Start}
use Rattle.flow_types.specs.declared.records.Record.{Record}
use Rattle.flow_types.specs.Serial.{Contents, Function, serial}
use Rattle.run_history.specs.declared.links.JoinRefused.{JoinRefused}
use Rattle.run_history.specs.declared.links.JoinRefused.TheVariants as refused
use Rattle.run_history.specs.declared.moves.Move.{Move}
use Rattle.run_history.specs.declared.moves.Move.TheVariants as moves
use Rattle.run_history.specs.declared.options.Options.{Options}
use Rattle.run_history.specs.Answers.{has_ended}
use Rattle.run_history.specs.Links.{is_live, records_of}
use Rattle.run_history.specs.Storage.{running_rules}
use Rattle.run_history.proofs.Grows.{records-same}
use Rattle.outside.specs.Disk.{Outcomes}
use Rattle.outside.specs.Files.{Files}
use Rattle.worker_pool.specs.declared.hand.Tally.{Tally}
use Rattle.desk.specs.declared.attempt.Attempt.{Attempt}
use Rattle.desk.specs.Links.{Changes, Joins, Leaves}
use Rattle.desk.specs.State.{DeskState, IsFine}
use Rattle.local_run.specs.declared.halt.Halt.{Halt}
use Rattle.local_run.specs.Beyond.{changed_by, joined_by, left_by}
use Rattle.local_run.specs.Collecting.{IsUntouched}
use Rattle.local_run.specs.Course.{LeavesAlone}
use Rattle.local_run.specs.Ends.{IsFoundDamaged, failed_count, records_due}
use Rattle.local_run.specs.Links.{link_moves}
use Rattle.local_run.specs.Underway.{AwayState, IsLoose, Matches, RunsAt, Underway, loose_count}
use Rattle.local_run.proofs.Beyond.{away_on, runs_away_on}
use Rattle.local_run.proofs.Elsewhere.{live_links}
use Rattle.local_run.proofs.Going.{goes_links, goes_then, passes}
use Rattle.local_run.proofs.UnderClosed.{stopped_on}

module _ {S : Type 0} (trust : Type 0) (gives : Function) (may_fail : Job → Failure → Type 0) (sources : Contents) (tells kept sure : Type 0) (files : S → Files) (may_leave : S → Outcomes) (moment : S → ℕ)
    (images_since : S → ℕ → Files → Type 0) (away : AwayState) where
  abbrev pub UnderBy : AwayState → DeskState S → DeskState S → List Attempt → List Start → Option Attempt → Tally → Option Halt → Type 0
  UnderBy next first now held waiting loose heard halt = Underway trust gives may_fail sources tells kept sure files may_leave moment images_since next first now held waiting loose heard halt

  abbrev pub Alone : DeskState S → Type 0
  Alone d = tells → LeavesAlone files may_leave moment images_since (IsUntouched d.plan d.log (records_of d.moves)) d.site d.site

  moved_on : (first d : DeskState S) (m : Move) (held : List Attempt) (waiting : List Start) (loose : Option Attempt) (heard : Tally) (halt : Option Halt) → records_of (m ∷ []) ≡ [] → link_moves (m ∷ []) ≡ m ∷ [] → Alone d
      → UnderBy away first d held waiting loose heard halt → UnderBy (record away { links = away.links ++ (m ∷ []) }) first (record d { moves = d.moves ++ (m ∷ []) }) held waiting loose heard halt
  moved_on first d m held waiting loose heard halt none one others u =
      let fine : Type 0 = IsFine d.trouble in
      let M : List Move = d.moves ++ (m ∷ []) in
      let now : DeskState S = record d { moves = M } in
      let same : records_of d.moves ≡ records_of M = sym (records-same d.moves m none) in
      record {
        goes = goes_then trust gives may_fail sources tells files may_leave moment images_since away.links (m ∷ []) first d now u.goes (passes trust gives may_fail sources tells files may_leave moment images_since d m none one others);
        matches = subst (λ (G : List Record). Matches d.plan fine G trust (serial d.plan gives sources) held waiting) same u.matches;
        taken = subst (λ (G : List Record). IsLoose d.plan fine G held loose) same u.taken;
        here = u.here;
        beyond = away_on d.plan fine fine d.moves M held held loose loose away.attempts
            (λ a at unheld other. (runs_away_on d.plan fine fine d.moves M (m ∷ []) a refl (λ runs. subst (λ (G : List Record). RunsAt d.plan fine G a) same runs) at, unheld, other)) u.beyond;
        all = λ works. subst (λ (G : List Record). length (running_rules d.plan G) ≤ length held + loose_count loose + length away.attempts) same (u.all works);
        stopped = stopped_on tells kept sure files first d now heard heard halt refl refl (omega arith) (λ why told damaged apart. subst (λ (G : List Record). IsFoundDamaged d.plan G (files d.site) why) same (damaged apart)) u.stopped;
        failures = λ works. ap failed_count (sym same) ∙ u.failures works;
        unended = λ unended. ap has_ended (sym same) ∙ u.unended unended;
        never = u.never;
        due = λ going is smooth. subst (λ (G : List Record). records_due d.plan G ≤ records_due first.plan (records_of first.moves) + length held + loose_count loose + length away.attempts) same (u.due going is smooth);
      }

  -- behind a move of a link
  pub linked_on : (first d after : DeskState S) (m : Move) (held : List Attempt) (waiting : List Start) (loose : Option Attempt) (heard : Tally) (halt : Option Halt) → after ≡ record d { moves = d.moves ++ (m ∷ []) }
      → records_of (m ∷ []) ≡ [] → link_moves (m ∷ []) ≡ m ∷ [] → Alone d
      → UnderBy away first d held waiting loose heard halt → UnderBy (record away { links = away.links ++ (m ∷ []) }) first after held waiting loose heard halt
  linked_on first d after m held waiting loose heard halt same none one others u =
      subst (λ (a : DeskState S). UnderBy (record away { links = away.links ++ (m ∷ []) }) first a held waiting loose heard halt) (sym same) (moved_on first d m held waiting loose heard halt none one others u)

  stays_on : (first d after : DeskState S) (held : List Attempt) (waiting : List Start) (loose : Option Attempt) (heard : Tally) (halt : Option Halt) → after ≡ d → UnderBy away first d held waiting loose heard halt
      → UnderBy away first after held waiting loose heard halt
  stays_on first d after held waiting loose heard halt same u = subst (λ (a : DeskState S). UnderBy away first a held waiting loose heard halt) (sym same) u

  -- a link that joins, or is refused
  pub joins_on : (first d after : DeskState S) (total largest : Amounts) (cache : ℕ) (r : Result LinkNo JoinRefused) (held : List Attempt) (waiting : List Start) (loose : Option Attempt) (heard : Tally) (halt : Option Halt) → Alone d
      → Joins d total largest cache r after → UnderBy away first d held waiting loose heard halt → UnderBy (joined_by total largest cache r away) first after held waiting loose heard halt
  joins_on first d after total largest cache (Ok link) held waiting loose heard halt others h u =
      linked_on first d after (moves.Joined link total largest cache) held waiting loose heard halt h.2 refl refl others u
  joins_on first d after total largest cache (Err refused.TooManyLinks) held waiting loose heard halt others h u = stays_on first d after held waiting loose heard halt h.1 u
  joins_on first d after total largest cache (Err refused.TooManyJoins) held waiting loose heard halt others h u = stays_on first d after held waiting loose heard halt h.1 u
  joins_on first d after total largest cache (Err refused.Memory) held waiting loose heard halt others h u = stays_on first d after held waiting loose heard halt h u

  -- a link that changes its amounts, or is refused
  pub changes_on : (first d after : DeskState S) (link : LinkNo) (total largest : Amounts) (cache : ℕ) (r : Result (Unit {0}) JoinRefused) (held : List Attempt) (waiting : List Start) (loose : Option Attempt) (heard : Tally) (halt : Option Halt)
      → Alone d → Changes d link total largest cache r after → UnderBy away first d held waiting loose heard halt → UnderBy (changed_by link total largest cache r away) first after held waiting loose heard halt
  changes_on first d after link total largest cache (Ok done) held waiting loose heard halt others h u =
      linked_on first d after (moves.Changed link total largest cache) held waiting loose heard halt h.1 refl refl others u
  changes_on first d after link total largest cache (Err refused.TooManyLinks) held waiting loose heard halt others h u = stays_on first d after held waiting loose heard halt h.1 u
  changes_on first d after link total largest cache (Err refused.TooManyJoins) held waiting loose heard halt others h u = stays_on first d after held waiting loose heard halt h.1 u
  changes_on first d after link total largest cache (Err refused.Memory) held waiting loose heard halt others h u = stays_on first d after held waiting loose heard halt h u

  -- a link that leaves
  pub leaves_on : (first d after : DeskState S) (link : LinkNo) (held : List Attempt) (waiting : List Start) (loose : Option Attempt) (heard : Tally) (halt : Option Halt) → Alone d → Leaves d link after
      → UnderBy away first d held waiting loose heard halt → UnderBy (left_by link away) first after held waiting loose heard halt
  leaves_on first d after link held waiting loose heard halt others h u = linked_on first d after (moves.Left link) held waiting loose heard halt h refl refl others u

  -- Which links live is told by the moves of links since the run began.
  pub lives_by : (first now : DeskState S) (held : List Attempt) (waiting : List Start) (loose : Option Attempt) (heard : Tally) (halt : Option Halt) (O : Options) (k : ℕ) → UnderBy away first now held waiting loose heard halt
      → is_live O now.moves k ≡ is_live O (link_moves first.moves ++ away.links) k
  lives_by first now held waiting loose heard halt O k u =
      live_links O now.moves k ∙ ap (λ (M : List Move). is_live O M k) (goes_links trust gives may_fail sources tells files may_leave moment images_since away.links first now u.goes)
