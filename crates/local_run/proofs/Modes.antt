-- What is wanted for collection where the records of a run stand.
use Rattle.std.proofs.Common.{◌≡◌, ◌∙◌, ℕ, Bool, true, false, ◌&&◌, ◌||◌, List, [], ◌∷◌, ◌++◌, length, map, Option, Some, None, refl, sym, ap, subst, append_assoc, true≢false}
use Rattle.std.specs.Prelude.{◌==◌, drop, is_none, take}
use Rattle.std.specs.List.{list_any}
use Rattle.std.specs.Option.{option_map_or}
use Rattle.std.proofs.lemmas.Bool.{and_parts, eqb-true, or_right}
use Rattle.std.proofs.lemmas.List.{append-nil, map-append}
use Rattle.std.proofs.Math.Seq.{take-append_seam}
use Rattle.flow_types.specs.declared.plan.Plan.{Plan}
use Rattle.flow_types.specs.declared.job.Job.{Job}
use Rattle.flow_types.specs.declared.job.Failure.{Failure}
use Rattle.flow_types.specs.declared.records.EndKind.{EndKind}
use Rattle.flow_types.specs.declared.records.EndKind.TheVariants as kinds
use Rattle.flow_types.specs.declared.records.Record.{Record}
use Rattle.flow_types.specs.declared.records.Record.TheVariants as records
use Rattle.flow_types.specs.Serial.{Contents, Function}
use Rattle.run_history.specs.declared.options.Mode.{Mode}
use Rattle.run_history.specs.declared.options.Options.{Options}
use Rattle.run_history.specs.declared.moves.Move.{Move}
use Rattle.run_history.specs.declared.moves.Move.TheVariants as moves
use Rattle.run_history.specs.History.{is_opening}
use Rattle.run_history.specs.Legal.{is_allowed, is_legal}
use Rattle.run_history.specs.Links.{fits, is_live, may_run_on, records_of}
use Rattle.run_history.specs.Moves.{all_follow, is_served, may_follow, serves}
use Rattle.run_history.specs.States.{drops}
use Rattle.run_history.specs.Storage.{wanted}
use Rattle.run_history.proofs.Grows.{records-push, records-same}
use Rattle.rule_graph.specs.Spelling.{plan_digest}
use Rattle.outside.specs.Disk.{Outcomes}
use Rattle.outside.specs.Files.{Files}
use Rattle.file_store.specs.Outputs.{file_name}
use Rattle.desk.specs.Asked.{first_records}
use Rattle.desk.specs.State.{AreNamed, DeskState, IsFine}
use Rattle.local_run.specs.Collecting.{AreGone, CollectsBy, RunCollects, StandsWhere}
use Rattle.local_run.specs.Course.{GoesOn}
use Rattle.local_run.specs.Ends.{BeganOver, IsApart}
use Rattle.local_run.specs.Links.{link_moves}
use Rattle.local_run.proofs.Going.{goes_links, goes_records, records_grown, records_more}

none_is : (file : Option ℕ) → is_none file ≡ true → file ≡ None
none_is None is = refl
none_is (Some f) is = absurd (true≢false (sym is))

some_is : (file : Option ℕ) (f : ℕ) → option_map_or (λ g. g == f) file false ≡ true → file ≡ Some f
some_is None f is = absurd (true≢false (sym is))
some_is (Some g) f is = ap Some (eqb-true g f is)

end_stands : (P : Plan) (O : Options) (M : List Move) (moment : ℕ) (kind : EndKind) → is_served P O M (records.Ended moment kind) ≡ true → StandsWhere (wanted P O.mode (records_of M)) (records.Ended moment kind)
end_stands P O M moment kinds.Complete is = none_is (wanted P O.mode (records_of M)) is
end_stands P O M moment kinds.CommandFailed is = tt
end_stands P O M moment kinds.InputsTooLarge is = tt
end_stands P O M moment kinds.NoRoom is = tt
end_stands P O M moment kinds.Waited is = tt
end_stands P O M moment kinds.Cleaned is = tt

-- a record that a desk serves stands where it may
served_stands : (P : Plan) (O : Options) (M : List Move) (x : Record) → is_served P O M x ≡ true → StandsWhere (wanted P O.mode (records_of M)) x
served_stands P O M (records.Opened moment run retries limit plan sources) is = tt
served_stands P O M (records.Resumed moment run retries limit) is = tt
served_stands P O M (records.Started moment rule attempt link) is =
    none_is (wanted P O.mode (records_of M))
    (and_parts (is_live O M link.0 && may_run_on P O rule.0 link.0 && fits P O M rule.0 link.0) (is_none (wanted P O.mode (records_of M))) is).1
served_stands P O M (records.Done moment rule attempt outs) is = tt
served_stands P O M (records.Failed moment rule attempt why) is = tt
served_stands P O M (records.Lost moment rule attempt) is = tt
served_stands P O M (records.Dropped moment f) is = some_is (wanted P O.mode (records_of M)) f.0 is
served_stands P O M (records.Ended moment kind) is = end_stands P O M moment kind is

logged_unlinked : (xs : List Record) → link_moves (map moves.Logged xs) ≡ []
logged_unlinked [] = refl
logged_unlinked (x ∷ xs) = logged_unlinked xs

logged_are : (xs : List Record) → records_of (map moves.Logged xs) ≡ xs
logged_are xs = records_more [] xs

unlogged_stands : (P : Plan) (O : Options) (M : List Move) (m : Move) (before : List Record) (x : Record) → records_of (m ∷ []) ≡ [] → StandsWhere (wanted P O.mode (records_of (M ++ (m ∷ [])) ++ before)) x
    → StandsWhere (wanted P O.mode (records_of M ++ before)) x
unlogged_stands P O M m before x none stands = subst (λ (G : List Record). StandsWhere (wanted P O.mode (G ++ before)) x) (records-same M m none) stands

abbrev is_nothing : List Record → Bool
is_nothing [] = true
is_nothing (y ∷ ys) = false

none_split : (before after : List Record) (x : Record) → is_nothing (before ++ (x ∷ after)) ≡ false
none_split [] after x = refl
none_split (y ∷ ys) after x = refl

abbrev tail_of : List Record → List Record
tail_of [] = []
tail_of (x ∷ xs) = xs

abbrev head_or : Record → List Record → Record
head_or d [] = d
head_or d (x ∷ xs) = x

-- and so does each of those among the moves that follow
each_stands : (P : Plan) (digest : List ℕ) (O : Options) (M all : List Move) (before after : List Record) (x : Record) → all_follow P digest O M all ≡ true → records_of all ≡ before ++ (x ∷ after)
    → StandsWhere (wanted P O.mode (records_of M ++ before)) x
each_stands P digest O M [] before after x follow are = absurd (true≢false (ap is_nothing are ∙ none_split before after x))
each_stands P digest O M (moves.Logged y ∷ rest) [] after x follow are =
    let first = and_parts (may_follow P digest O M (moves.Logged y)) (all_follow P digest O (M ++ (moves.Logged y ∷ [])) rest) follow in
    let served = (and_parts (is_allowed P digest (records_of M) y) (is_served P O M y) first.0).1 in
    subst (λ (z : Record). StandsWhere (wanted P O.mode (records_of M ++ [])) z) (ap (head_or y) are)
    (subst (λ (G : List Record). StandsWhere (wanted P O.mode G) y) (sym (append-nil (records_of M))) (served_stands P O M y served))
each_stands P digest O M (moves.Logged y ∷ rest) (b ∷ before) after x follow are =
    let parts = and_parts (may_follow P digest O M (moves.Logged y)) (all_follow P digest O (M ++ (moves.Logged y ∷ [])) rest) follow in
    subst (λ (G : List Record). StandsWhere (wanted P O.mode G) x)
    (ap (λ (G : List Record). G ++ before) (records-push M y) ∙ append_assoc (records_of M) (y ∷ []) before ∙ ap (λ (z : Record). records_of M ++ (z ∷ before)) (ap (head_or y) are))
    (each_stands P digest O (M ++ (moves.Logged y ∷ [])) rest before after x parts.1 (ap tail_of are))
each_stands P digest O M (moves.Joined link total largest cache ∷ rest) before after x follow are =
    let m : Move = moves.Joined link total largest cache in
    unlogged_stands P O M m before x refl (each_stands P digest O (M ++ (m ∷ [])) rest before after x (and_parts (may_follow P digest O M m) (all_follow P digest O (M ++ (m ∷ [])) rest) follow).1 are)
each_stands P digest O M (moves.Changed link total largest cache ∷ rest) before after x follow are =
    let m : Move = moves.Changed link total largest cache in
    unlogged_stands P O M m before x refl (each_stands P digest O (M ++ (m ∷ [])) rest before after x (and_parts (may_follow P digest O M m) (all_follow P digest O (M ++ (m ∷ [])) rest) follow).1 are)
each_stands P digest O M (moves.Left link ∷ rest) before after x follow are =
    let m : Move = moves.Left link in
    unlogged_stands P O M m before x refl (each_stands P digest O (M ++ (m ∷ [])) rest before after x (and_parts (may_follow P digest O M m) (all_follow P digest O (M ++ (m ∷ [])) rest) follow).1 are)

seam : (H : List Record) (rest : List Move) → drop (length H) (map moves.Logged H ++ rest) ≡ rest
seam [] rest = refl
seam (y ∷ ys) rest = seam ys rest

-- the moves that a desk serves behind the records of its start
served_since : (P : Plan) (O : Options) (H : List Record) (since : List Move) (base : ℕ) (M : List Move) → base ≡ length H → M ≡ map moves.Logged H ++ since → serves P (plan_digest P) O (first_records base M) (drop base M) ≡ true
    → all_follow P (plan_digest P) O (map moves.Logged H) since ≡ true
served_since P O H since base M counted are is =
    let G : List Record = first_records base M in
    let all : records_of M ≡ H ++ records_of since = ap records_of are ∙ records_grown (map moves.Logged H) since ∙ ap (λ (L : List Record). L ++ records_of since) (logged_are H) in
    let these : G ≡ H = ap (λ (n : ℕ). take n (records_of M)) counted ∙ ap (take (length H)) all ∙ take-append_seam H (records_of since) in
    let behind : drop base M ≡ since = ap (λ (n : ℕ). drop n M) counted ∙ ap (λ (N : List Move). drop (length H) N) are ∙ seam H since in
    let parts = and_parts (is_legal P (plan_digest P) G) (all_follow P (plan_digest P) O (map moves.Logged G) (drop base M)) is in
    subst (λ (N : List Move). all_follow P (plan_digest P) O (map moves.Logged H) N ≡ true) behind
    (subst (λ (K : List Record). all_follow P (plan_digest P) O (map moves.Logged K) (drop base M) ≡ true) these parts.1)

opens_there : (xs rest : List Record) (x : Record) → is_opening x ≡ true → list_any is_opening (xs ++ (x ∷ rest)) ≡ true
opens_there [] rest x opens = ap (λ (b : Bool). b || list_any is_opening rest) opens
opens_there (y ∷ ys) rest x opens = or_right (is_opening y) (list_any is_opening (ys ++ (x ∷ rest))) (opens_there ys rest x opens)

-- what stands behind the last opening stands behind the records before it
behind_opening : (H rest before after : List Record) (x y : Record) → is_opening x ≡ true → H ++ (x ∷ rest) ≡ before ++ (y ∷ after) → list_any is_opening (y ∷ after) ≡ false
    → (mid : List Record) × (before ≡ H ++ mid) × (x ∷ rest ≡ mid ++ (y ∷ after))
behind_opening [] rest before after x y opens split none = (before, refl, split)
behind_opening (h ∷ hs) rest [] after x y opens split none =
    absurd (true≢false (sym (or_right (is_opening h) (list_any is_opening (hs ++ (x ∷ rest))) (opens_there hs rest x opens)) ∙ ap (list_any is_opening) split ∙ none))
behind_opening (h ∷ hs) rest (b ∷ bs) after x y opens split none =
    let deeper = behind_opening hs rest bs after x y opens (ap tail_of split) none in
    (deeper.0, ap (λ (r : Record). r ∷ bs) (sym (ap (head_or h) split)) ∙ ap (λ (l : List Record). h ∷ l) deeper.1, deeper.2)

module _ {S : Type 0} (trust : Type 0) (gives : Function) (may_fail : Job → Failure → Type 0) (sources : Contents) (tells : Type 0) (files : S → Files) (may_leave : S → Outcomes) (moment : S → ℕ)
    (images_since : S → ℕ → Files → Type 0) (links : List Move) (d after : DeskState S) (goes : GoesOn trust gives may_fail sources tells files may_leave moment images_since links d after) where
  made_by : (H : List Record) → (began : BeganOver d H) → after.moves ≡ map moves.Logged H ++ (moves.Logged began.1.0 ∷ goes.passed)
  made_by H began =
      let x : Record = began.1.0 in
      goes.moves ∙ ap (λ (M : List Move). M ++ goes.passed) (began.1.2 ∙ map-append moves.Logged H (x ∷ [])) ∙ append_assoc (map moves.Logged H) (moves.Logged x ∷ []) goes.passed

  records_by : (H : List Record) → (began : BeganOver d H) → records_of after.moves ≡ H ++ (began.1.0 ∷ goes.more)
  records_by H began =
      let x : Record = began.1.0 in
      ap records_of (made_by H began) ∙ records_grown (map moves.Logged H) (moves.Logged x ∷ goes.passed)
      ∙ ap (λ (L : List Record). L ++ (x ∷ records_of goes.passed)) (logged_are H) ∙ ap (λ (L : List Record). H ++ (x ∷ L)) goes.logged

  stand_by : (H : List Record) → (began : BeganOver d H) → serves after.plan (plan_digest after.plan) after.options (first_records after.base after.moves) (drop after.base after.moves) ≡ true
      → (before behind : List Record) (y : Record) → began.1.0 ∷ goes.more ≡ before ++ (y ∷ behind) → StandsWhere (wanted d.plan d.options.mode (H ++ before)) y
  stand_by H began is before behind y split =
      let x : Record = began.1.0 in
      let follow = served_since after.plan after.options H (moves.Logged x ∷ goes.passed) after.base after.moves (goes.base ∙ began.0) (made_by H began) is in
      subst (λ (P : Plan). StandsWhere (wanted P d.options.mode (H ++ before)) y) goes.plan
      (subst (λ (O : Options). StandsWhere (wanted after.plan O.mode (H ++ before)) y) goes.options
      (subst (λ (G : List Record). StandsWhere (wanted after.plan after.options.mode (G ++ before)) y) (logged_are H)
      (each_stands after.plan (plan_digest after.plan) after.options (map moves.Logged H) (moves.Logged x ∷ goes.passed) before behind y follow (ap (λ (L : List Record). x ∷ L) goes.logged ∙ split))))

  -- the records of the run of a desk collect by its mode
  pub collects_by : (H all : List Record) → BeganOver d H → all ≡ records_of after.moves → serves after.plan (plan_digest after.plan) after.options (first_records after.base after.moves) (drop after.base after.moves) ≡ true
      → CollectsBy d.plan d.options.mode H all
  collects_by H all began are is = record {
    more = began.1.0 ∷ goes.more;
    are = are ∙ records_by H began;
    each = stand_by H began is;
  }

  -- and so do those behind the last opening
  pub run_collects : (H all : List Record) → BeganOver d H → all ≡ records_of after.moves → serves after.plan (plan_digest after.plan) after.options (first_records after.base after.moves) (drop after.base after.moves) ≡ true
      → RunCollects d.plan d.options.mode all
  run_collects H all began are is before behind y split none =
      let whole : all ≡ H ++ (began.1.0 ∷ goes.more) = are ∙ records_by H began in
      let there = behind_opening H goes.more before behind began.1.0 y began.1.1 (sym whole ∙ split) none in
      subst (λ (G : List Record). StandsWhere (wanted d.plan d.options.mode G) y) (sym there.1) (stand_by H began is there.0 behind y there.2)

  -- where no link joins there is no move of a link
  pub unlinked : (H : List Record) → BeganOver d H → links ≡ [] → link_moves after.moves ≡ []
  unlinked H began none =
      goes_links trust gives may_fail sources tells files may_leave moment images_since links d after goes
      ∙ ap (λ (M : List Move). link_moves M ++ links) began.1.2 ∙ ap (λ (l : List Move). l ++ links) (logged_unlinked (H ++ (began.1.0 ∷ []))) ∙ none

  -- and what they drop is gone at its end
  pub are_gone : (all : List Record) (s : S) → tells → IsFine after.trouble → IsApart d.plan d.log → AreNamed d.plan → all ≡ records_of after.moves → s ≡ after.site → AreGone d.plan (files s) (records_of d.moves) all
  are_gone all s told fine apart named are same = record {
    more = goes.more;
    are = are ∙ goes_records trust gives may_fail sources tells files may_leave moment images_since links d after goes;
    gone = λ f dropped. ap (λ (t : S). files t (file_name d.plan f)) same ∙ goes.gone told fine apart named f dropped;
  }

-- a run that adds no record
pub collects_none : (P : Plan) (mode : Mode) (H all : List Record) → all ≡ H → CollectsBy P mode H all
collects_none P mode H all same = record {
  more = [];
  are = same ∙ sym (append-nil H);
  each = λ before after x split. absurd (true≢false (ap is_nothing split ∙ none_split before after x));
}

pub gone_none : (P : Plan) (files : Files) (H all : List Record) → all ≡ H → AreGone P files H all
gone_none P files H all same = record {
  more = [];
  are = same ∙ sym (append-nil H);
  gone = λ f dropped. absurd (true≢false (sym dropped));
}

-- from the record with which the run began
pub gone_begun : (P : Plan) (files : Files) (H mid all : List Record) (x : Record) → mid ≡ H ++ (x ∷ []) → ((f : ℕ) → drops f x ≡ false) → AreGone P files mid all → AreGone P files H all
gone_begun P files H mid all x begun keeps gone = record {
  more = x ∷ gone.more;
  are = gone.are ∙ ap (λ (G : List Record). G ++ gone.more) begun ∙ append_assoc H (x ∷ []) gone.more;
  gone = λ f dropped. gone.gone f (sym (ap (λ (b : Bool). b || list_any (drops f) gone.more) (keeps f)) ∙ dropped);
}
