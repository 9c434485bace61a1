-- What a run adds to a desk, step by step.
use Rattle.std.proofs.Common.{◌≡◌, ◌≢◌, ◌∙◌, ℕ, Bool, true, false, List, [], ◌∷◌, ◌++◌, map, Option, Some, None, refl, sym, ap, subst, append_assoc, true≢false}
use Rattle.std.specs.Prelude.{All, ◌||◌, ◌==◌, filter_map, is_none}
use Rattle.std.specs.List.{list_any}
use Rattle.std.proofs.lemmas.Bool.{eqb-true, or_left}
use Rattle.std.proofs.lemmas.List.{append-nil}
use Rattle.std.proofs.lemmas.List.Elements.{All-nil, All-cons, All-append, All-weaker, filter-append, filter_map-append}
use Rattle.std.proofs.lemmas.List.Folds.{list_any-append}
use Rattle.flow_types.specs.declared.plan.Plan.{Plan}
use Rattle.flow_types.specs.declared.job.Job.{Job}
use Rattle.flow_types.specs.declared.job.Failure.{Failure}
use Rattle.flow_types.specs.declared.numbers.FileNo.{FileNo}
use Rattle.flow_types.specs.declared.records.Record.{Record}
use Rattle.flow_types.specs.declared.records.Record.TheVariants as records
use Rattle.flow_types.specs.Serial.{Contents, Function, serial}
use Rattle.run_history.specs.declared.moves.Move.{Move}
use Rattle.run_history.specs.declared.moves.Move.TheVariants as moves
use Rattle.run_history.specs.declared.answers.Stop.{Stop}
use Rattle.run_history.specs.Links.{logged_in, records_of}
use Rattle.run_history.specs.States.{drops}
use Rattle.run_history.proofs.Grows.{records-push}
use Rattle.outside.specs.Disk.{Outcomes}
use Rattle.outside.specs.Files.{Files}
use Rattle.file_store.specs.Outputs.{file_name}
use Rattle.desk.specs.declared.answers.Trouble.{Trouble}
use Rattle.desk.specs.Collections.{Collected}
use Rattle.desk.specs.State.{AreNamed, DeskState, IsFine}
use Rattle.desk.proofs.Collected.{dropped-collected}
use Rattle.desk.proofs.Removing.{chosen-free}
use Rattle.local_run.specs.Collecting.{IsUntouched, is_collected}
use Rattle.local_run.specs.Course.{FailsHonestly, GoesOn, LeavesAlone, begins_anew}
use Rattle.local_run.specs.Ends.{IsApart}
use Rattle.local_run.specs.Links.{is_of_link, link_moves}
use Rattle.local_run.specs.Losses.{LosesAway, is_lost, starts_away}
use Rattle.local_run.proofs.Alone.{alone_less, alone_then}
use Rattle.local_run.proofs.Collecting.{collected_on, collected_untouched, untouched_later}

sole : (b : Bool) → (b || false) ≡ true → b ≡ true
sole true is = refl
sole false is = is

or_false : (b : Bool) → (b || false) ≡ b
or_false true = refl
or_false false = refl

logged_all : (xs : List Record) → filter_map logged_in (map moves.Logged xs) ≡ xs
logged_all [] = refl
logged_all (x ∷ xs) = ap (λ (l : List Record). x ∷ l) (logged_all xs)

-- records that were added stand behind the others
pub records_more : (M : List Move) (xs : List Record) → records_of (M ++ map moves.Logged xs) ≡ records_of M ++ xs
records_more M xs = filter_map-append logged_in M (map moves.Logged xs) ∙ ap (λ (l : List Record). records_of M ++ l) (logged_all xs)

pub records_grown : (M N : List Move) → records_of (M ++ N) ≡ records_of M ++ records_of N
records_grown M N = filter_map-append logged_in M N

-- and so do moves of links
pub links_grown : (M N : List Move) → link_moves (M ++ N) ≡ link_moves M ++ link_moves N
links_grown M N = filter-append is_of_link M N

abbrev head_of : List Move → Option Move
head_of [] = None
head_of (m ∷ ms) = Some m

none_before : (M N : List Move) → M ++ N ≡ [] → M ≡ []
none_before [] N none = refl
none_before (m ∷ ms) N none = absurd (true≢false (sym (ap (λ (l : List Move). is_none (head_of l)) none)))

-- where no link joined by the last move none had before
pub unlinked_before : (M N : List Move) → link_moves (M ++ N) ≡ [] → link_moves M ≡ []
unlinked_before M N none = none_before (link_moves M) (link_moves N) (sym (links_grown M N) ∙ none)

-- ---- attempts that are given up

-- one that was started stays started
pub away_later : (H more : List Record) (x : Record) → LosesAway H x → LosesAway (H ++ more) x
away_later H more (records.Opened moment run retries limit plan sources) is = tt
away_later H more (records.Resumed moment run retries limit) is = tt
away_later H more (records.Started moment rule attempt link) is = tt
away_later H more (records.Done moment rule attempt outs) is = tt
away_later H more (records.Failed moment rule attempt why) is = tt
away_later H more (records.Lost moment rule attempt) is =
    list_any-append (starts_away rule.0 attempt.0) H more ∙ or_left (list_any (starts_away rule.0 attempt.0) H) (list_any (starts_away rule.0 attempt.0) more) is
away_later H more (records.Dropped moment file) is = tt
away_later H more (records.Ended moment kind) is = tt

unlost : (H : List Record) (x : Record) → is_lost x ≡ false → LosesAway H x
unlost H (records.Opened moment run retries limit plan sources) none = tt
unlost H (records.Resumed moment run retries limit) none = tt
unlost H (records.Started moment rule attempt link) none = tt
unlost H (records.Done moment rule attempt outs) none = tt
unlost H (records.Failed moment rule attempt why) none = tt
unlost H (records.Lost moment rule attempt) none = absurd (true≢false none)
unlost H (records.Dropped moment file) none = tt
unlost H (records.Ended moment kind) none = tt

-- Behind these moves the record may be added: where no stop is set it gives up no attempt at the local place, and none at all where no link ever joined.
abbrev pub MayAdd : List Move → Option Stop → Record → Type 0
MayAdd M stop x = stop ≡ None → LosesAway (records_of M) x × (link_moves M ≡ [] → is_lost x ≡ false)

lost_then : (M : List Move) (x : Record) → LosesAway (records_of M) x → LosesAway (records_of (M ++ (moves.Logged x ∷ []))) x
lost_then M x is = subst (λ (G : List Record). LosesAway G x) (sym (records-push M x)) (away_later (records_of M) (x ∷ []) x is)

-- as it may where it gives up none
pub adds_plain : (M : List Move) (stop : Option Stop) (x : Record) → (stop ≡ None → is_lost x ≡ false) → MayAdd M stop x
adds_plain M stop x kept none = (unlost (records_of M) x (kept none), λ unlinked. kept none)

module _ {S : Type 0} (trust : Type 0) (gives : Function) (may_fail : Job → Failure → Type 0) (sources : Contents) (tells : Type 0) (files : S → Files) (may_leave : S → Outcomes) (moment : S → ℕ)
    (images_since : S → ℕ → Files → Type 0) where
  abbrev pub Goes : DeskState S → DeskState S → Type 0
  Goes d after = GoesOn trust gives may_fail sources tells files may_leave moment images_since [] d after

  abbrev pub GoesBy : List Move → DeskState S → DeskState S → Type 0
  GoesBy links d after = GoesOn trust gives may_fail sources tells files may_leave moment images_since links d after

  abbrev pub Alone : DeskState S → S → Type 0
  Alone d s = tells → LeavesAlone files may_leave moment images_since (IsUntouched d.plan d.log (records_of d.moves)) d.site s

  -- nothing was added
  pub stays : (d : DeskState S) (stop : Option Stop) (t : Trouble) (s : S) → (stop ≡ None → d.stop ≡ None) → (IsFine t → IsFine d.trouble) → Alone d s → Goes d (record d { stop = stop; trouble = t; site = s })
  stays d stop t s stops works others = record {
    passed = [];
    more = [];
    moves = sym (append-nil d.moves);
    logged = refl;
    linked = refl;
    plan = refl;
    options = refl;
    log = refl;
    base = refl;
    faults = refl;
    honest = λ trusted. All-nil (FailsHonestly d.plan may_fail (serial d.plan gives sources));
    stops = stops;
    lost = λ none. All-nil (LosesAway (records_of d.moves));
    alone = λ none unlinked. refl;
    anew = refl;
    works = works;
    collected = λ f dropped. absurd (true≢false (sym dropped));
    gone = λ told fine apart named f dropped. absurd (true≢false (sym dropped));
    others = others;
  }

  -- one record was added that drops no file
  pub adds : (d : DeskState S) (x : Record) (stop : Option Stop) (s : S) → (trust → FailsHonestly d.plan may_fail (serial d.plan gives sources) x)
      → (stop ≡ None → d.stop ≡ None) → MayAdd d.moves stop x → begins_anew x ≡ false → ((f : ℕ) → drops f x ≡ false) → Alone d s
      → Goes d (record d { moves = d.moves ++ (moves.Logged x ∷ []); stop = stop; site = s })
  adds d x stop s honest stops held plain keeps others = record {
    passed = moves.Logged x ∷ [];
    more = x ∷ [];
    moves = refl;
    logged = refl;
    linked = refl;
    plan = refl;
    options = refl;
    log = refl;
    base = refl;
    faults = refl;
    honest = λ trusted. All-cons (FailsHonestly d.plan may_fail (serial d.plan gives sources)) x [] (honest trusted) (All-nil (FailsHonestly d.plan may_fail (serial d.plan gives sources)));
    stops = stops;
    lost = λ none. All-cons (LosesAway (records_of (d.moves ++ (moves.Logged x ∷ [])))) x [] (lost_then d.moves x (held none).0) (All-nil (LosesAway (records_of (d.moves ++ (moves.Logged x ∷ [])))));
    alone = λ none unlinked. ap (λ b. b || false) ((held none).1 (unlinked_before d.moves (moves.Logged x ∷ []) unlinked));
    anew = ap (λ b. b || false) plain;
    works = λ fine. fine;
    collected = λ f dropped. absurd (true≢false (sym dropped ∙ ap (λ b. b || false) (keeps f)));
    gone = λ told fine apart named f dropped. absurd (true≢false (sym dropped ∙ ap (λ b. b || false) (keeps f)));
    others = others;
  }

  -- a move was added that logs nothing
  pub passes : (d : DeskState S) (m : Move) → records_of (m ∷ []) ≡ [] → link_moves (m ∷ []) ≡ m ∷ [] → Alone d d.site → GoesBy (m ∷ []) d (record d { moves = d.moves ++ (m ∷ []) })
  passes d m none one others = record {
    passed = m ∷ [];
    more = [];
    moves = refl;
    logged = none;
    linked = one;
    plan = refl;
    options = refl;
    log = refl;
    base = refl;
    faults = refl;
    honest = λ trusted. All-nil (FailsHonestly d.plan may_fail (serial d.plan gives sources));
    stops = λ unset. unset;
    lost = λ unset. All-nil (LosesAway (records_of (d.moves ++ (m ∷ []))));
    alone = λ unset unlinked. refl;
    anew = refl;
    works = λ fine. fine;
    collected = λ f dropped. absurd (true≢false (sym dropped));
    gone = λ told fine apart named f dropped. absurd (true≢false (sym dropped));
    others = others;
  }

  -- The drop of a file was added. On a desk that works on the file is gone.
  pub drops_one : (d : DeskState S) (moment : ℕ) (file : FileNo) (t : Trouble) (s : S) → Collected d file → (IsFine t → IsFine d.trouble) → (tells → IsFine t → files s (file_name d.plan file.0) ≡ None) → Alone d s
      → Goes d (record d { moves = d.moves ++ (moves.Logged (records.Dropped moment file) ∷ []); trouble = t; site = s })
  drops_one d time file t s chosen works removed others =
      let x : Record = records.Dropped time file in
      let same : (f : ℕ) → list_any (drops f) (x ∷ []) ≡ true → file.0 ≡ f = λ f dropped. eqb-true file.0 f (sole (file.0 == f) dropped) in
      record {
        passed = moves.Logged x ∷ [];
        more = x ∷ [];
        moves = refl;
        logged = refl;
        linked = refl;
        plan = refl;
        options = refl;
        log = refl;
        base = refl;
        faults = refl;
        honest = λ trusted. All-cons (FailsHonestly d.plan may_fail (serial d.plan gives sources)) x [] tt (All-nil (FailsHonestly d.plan may_fail (serial d.plan gives sources)));
        stops = λ none. none;
        lost = λ none. All-cons (LosesAway (records_of (d.moves ++ (moves.Logged x ∷ [])))) x [] tt (All-nil (LosesAway (records_of (d.moves ++ (moves.Logged x ∷ [])))));
        alone = λ none unlinked. refl;
        anew = refl;
        works = works;
        collected = λ f dropped. subst (λ (n : ℕ). is_collected d.plan (records_of (d.moves ++ (moves.Logged x ∷ []))) n ≡ true) (same f dropped)
            (ap (λ (G : List Record). is_collected d.plan G file.0) (records-push d.moves x) ∙ dropped-collected d.plan (records_of d.moves) time file (chosen-free d file chosen));
        gone = λ told fine apart named f dropped. subst (λ (n : ℕ). files s (file_name d.plan n) ≡ None) (same f dropped) (removed told fine);
        others = others;
      }

  -- what was dropped first is gone behind more
  gone_then : (P Q : Plan) (log other : List ℕ) (all first second : List Record) (mid new : S) → Q ≡ P → other ≡ log
      → ((f : ℕ) → list_any (drops f) first ≡ true → is_collected P all f ≡ true) → ((f : ℕ) → list_any (drops f) first ≡ true → files mid (file_name P f) ≡ None)
      → (IsApart Q other → AreNamed Q → (f : ℕ) → list_any (drops f) second ≡ true → files new (file_name Q f) ≡ None)
      → LeavesAlone files may_leave moment images_since (IsUntouched Q other all) mid new
      → IsApart P log → AreNamed P → (f : ℕ) (b : Bool) → list_any (drops f) second ≡ b → (list_any (drops f) first || b) ≡ true → files new (file_name P f) ≡ None
  gone_then P Q log other all first second mid new same logs collected gone more alone apart named f true is dropped =
      ap (λ (R : Plan). files new (file_name R f)) (sym same)
      ∙ more (λ g. subst (λ (R : Plan). file_name R g ≢ other) (sym same) (subst (λ (n : List ℕ). file_name P g ≢ n) (sym logs) (apart g))) (subst AreNamed (sym same) named) f is
  gone_then P Q log other all first second mid new same logs collected gone more alone apart named f false is dropped =
      let here : list_any (drops f) first ≡ true = sym (or_false (list_any (drops f) first)) ∙ dropped in
      let untouched : IsUntouched P log all (file_name P f) = collected_untouched P log all f named (apart f) (collected f here) in
      alone.reads (file_name P f) (subst (λ (R : Plan). IsUntouched R other all (file_name P f)) (sym same) (subst (λ (n : List ℕ). IsUntouched P n all (file_name P f)) (sym logs) untouched))
      ∙ gone f here

  -- the records behind a run are those before it and more
  pub goes_records : (links : List Move) (d after : DeskState S) → (goes : GoesBy links d after) → records_of after.moves ≡ records_of d.moves ++ goes.more
  goes_records links d after goes = ap records_of goes.moves ∙ records_grown d.moves goes.passed ∙ ap (λ (l : List Record). records_of d.moves ++ l) goes.logged

  -- and so are the moves of links
  pub goes_links : (links : List Move) (d after : DeskState S) → GoesBy links d after → link_moves after.moves ≡ link_moves d.moves ++ links
  goes_links links d after goes = ap link_moves goes.moves ∙ links_grown d.moves goes.passed ∙ ap (λ (l : List Move). link_moves d.moves ++ l) goes.linked

  -- one run behind another
  pub goes_then : (links next : List Move) (d mid after : DeskState S) → GoesBy links d mid → GoesBy next mid after → GoesBy (links ++ next) d after
  goes_then links next d mid after first second =
      let are : records_of mid.moves ≡ records_of d.moves ++ first.more = goes_records links d mid first in
      let all : records_of after.moves ≡ records_of mid.moves ++ second.more = goes_records next mid after second in
      record {
        passed = first.passed ++ second.passed;
        more = first.more ++ second.more;
        moves = second.moves ∙ ap (λ (M : List Move). M ++ second.passed) first.moves ∙ append_assoc d.moves first.passed second.passed;
        logged = records_grown first.passed second.passed ∙ ap (λ (l : List Record). l ++ records_of second.passed) first.logged ∙ ap (λ (l : List Record). first.more ++ l) second.logged;
        linked = links_grown first.passed second.passed ∙ ap (λ (l : List Move). l ++ link_moves second.passed) first.linked ∙ ap (λ (l : List Move). links ++ l) second.linked;
        plan = second.plan ∙ first.plan;
        options = second.options ∙ first.options;
        log = second.log ∙ first.log;
        base = second.base ∙ first.base;
        faults = second.faults ∙ first.faults;
        honest = λ trusted. All-append (FailsHonestly d.plan may_fail (serial d.plan gives sources)) first.more second.more (first.honest trusted)
            (subst (λ (P : Plan). All (FailsHonestly P may_fail (serial P gives sources)) second.more) first.plan (second.honest trusted));
        stops = λ none. first.stops (second.stops none);
        lost = λ none. All-append (LosesAway (records_of after.moves)) first.more second.more
            (subst (λ (G : List Record). All (LosesAway G) first.more) (sym all)
            (All-weaker (LosesAway (records_of mid.moves)) (LosesAway (records_of mid.moves ++ second.more)) (away_later (records_of mid.moves) second.more) first.more (first.lost (second.stops none))))
            (second.lost none);
        alone = λ none unlinked. list_any-append is_lost first.more second.more
            ∙ (ap (λ b. b || list_any is_lost second.more) (first.alone (second.stops none) (unlinked_before mid.moves second.passed (ap link_moves (sym second.moves) ∙ unlinked))) ∙ second.alone none unlinked);
        anew = list_any-append begins_anew first.more second.more ∙ (ap (λ b. b || list_any begins_anew second.more) first.anew ∙ second.anew);
        works = λ fine. first.works (second.works fine);
        collected = λ f dropped. by_part f (list_any (drops f) second.more) refl (sym (list_any-append (drops f) first.more second.more) ∙ dropped) all;
        gone = λ told fine apart named f dropped. gone_then d.plan mid.plan d.log mid.log (records_of mid.moves) first.more second.more mid.site after.site first.plan first.log
            first.collected (first.gone told (second.works fine) apart named) (second.gone told fine) (second.others told) apart named f (list_any (drops f) second.more) refl
            (sym (list_any-append (drops f) first.more second.more) ∙ dropped);
        others = λ told. alone_then files may_leave moment images_since (IsUntouched d.plan d.log (records_of d.moves)) d.site mid.site after.site (first.others told)
            (alone_less files may_leave moment images_since (IsUntouched mid.plan mid.log (records_of mid.moves)) (IsUntouched d.plan d.log (records_of d.moves)) mid.site after.site
            (λ m untouched. untouched_later d.plan mid.plan d.log mid.log (records_of d.moves) first.more (records_of mid.moves) m first.plan first.log are first.anew untouched)
            (second.others told).crash (second.others told).reads);
      }
    where
      by_part : (f : ℕ) (b : Bool) → list_any (drops f) second.more ≡ b → (list_any (drops f) first.more || b) ≡ true → records_of after.moves ≡ records_of mid.moves ++ second.more → is_collected d.plan (records_of after.moves) f ≡ true
      by_part f true is dropped all = ap (λ (P : Plan). is_collected P (records_of after.moves) f) (sym first.plan) ∙ second.collected f is
      by_part f false is dropped all =
          ap (λ (G : List Record). is_collected d.plan G f) all
          ∙ collected_on d.plan (records_of mid.moves) second.more f second.anew (first.collected f (sym (or_false (list_any (drops f) first.more)) ∙ dropped))

  -- one that adds no moves of links behind another
  pub goes_on : (links : List Move) (d mid after : DeskState S) → GoesBy links d mid → Goes mid after → GoesBy links d after
  goes_on links d mid after first second = subst (λ (all : List Move). GoesBy all d after) (append-nil links) (goes_then links [] d mid after first second)
