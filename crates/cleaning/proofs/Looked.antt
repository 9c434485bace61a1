-- What is wrong with records, and how a look tells it.
use Rattle.std.proofs.Common.{◌≡◌, ◌∙◌, ℕ, Bool, true, false, cond, List, [], Option, Some, None, Result, Ok, Err, refl, sym, ap, subst, true≢false}
use Rattle.std.specs.Prelude.{◌&&◌, IfOk, is_some, length, nat_le, not, option_map}
use Rattle.std.specs.Option.{option_and_then}
use Rattle.std.specs.Str.{bytes_eq}
use Rattle.flow_types.specs.declared.plan.Plan.{Plan}
use Rattle.flow_types.specs.declared.numbers.Digest.{Digest}
use Rattle.flow_types.specs.declared.records.Record.{Record}
use Rattle.flow_types.specs.Plans.{is_empty}
use Rattle.run_history.specs.declared.options.Options.{Options}
use Rattle.run_history.specs.Answers.{or_else, where_so}
use Rattle.run_history.specs.History.{part}
use Rattle.run_history.specs.Legal.{first_illegal, most_records}
use Rattle.run_history.proofs.Along.{none-legal}
use Rattle.rule_graph.specs.Spelling.{plan_digest}
use Rattle.task_core.specs.States.{TableState}
use Rattle.txn_log.specs.Logs.{LogState}
use Rattle.txn_log.specs.Spells.{Spells}
use Rattle.log_recover.specs.declared.fault.RecoverFault.{RecoverFault}
use Rattle.log_recover.specs.declared.fault.RecoverFault.TheVariants as recovery
use Rattle.log_recover.specs.Recovery.{IsDamage, IsThese}
use Rattle.desk.specs.declared.answers.StartFault.{StartFault}
use Rattle.desk.specs.declared.answers.StartFault.TheVariants as faults
use Rattle.desk.specs.Histories.{FindsHistory, history_fault}
use Rattle.desk.specs.Kept.{IsLegal}
use Rattle.desk.specs.Openings.{opened_plan, other_flow}
use Rattle.cleaning.specs.declared.answers.LookFault.{LookFault}
use Rattle.cleaning.specs.declared.answers.LookFault.TheVariants as looks
use Rattle.cleaning.specs.declared.answers.LookRefused.{LookRefused}
use Rattle.cleaning.specs.Cleanings.{clean_fault}
use Rattle.cleaning.specs.Looks.{GivesBack, IsCutFault, IsLookFault, IsOfFile, IsOfRecords, IsSiteFault, LookEnds, Looks, ReadsLog, WasRead, look_fault}
use Rattle.cleaning.proofs.Gone.{some_is}

-- ---- what is wrong with records

by_record : (x : Option ℕ) (why : StartFault) → or_else (option_map faults.NotLegal x) None ≡ Some why → IsOfRecords why
by_record None why is = absurd (true≢false (sym (ap is_some is)))
by_record (Some at) why is = subst IsOfRecords (some_is (faults.NotLegal at) why is) tt

by_flow : (digest : List ℕ) (o : Option Digest) (x : Option ℕ) (why : StartFault)
    → or_else (option_and_then (other_flow digest) o) (or_else (option_map faults.NotLegal x) None) ≡ Some why → IsOfRecords why
by_flow digest None x why is = by_record x why is
by_flow digest (Some logged) x why is = by_test (bytes_eq logged.0 digest) is
  where
    by_test : (t : Bool) → or_else (cond t None (Some (faults.OtherFlow logged (record { 0 = digest })))) (or_else (option_map faults.NotLegal x) None) ≡ Some why → IsOfRecords why
    by_test true is = by_record x why is
    by_test false is = subst IsOfRecords (some_is (faults.OtherFlow logged (record { 0 = digest })) why is) tt

of_records : (P : Plan) (H : List Record) (why : StartFault) → history_fault P H ≡ Some why → IsOfRecords why
of_records P H why is = by_flow (plan_digest P) (opened_plan H) (first_illegal P (plan_digest P) H) why is

-- a table isn't refused for anything else
pub refused_of_records : (P : Plan) (O : Options) (H : List Record) (why : StartFault) → FindsHistory P O H (let refusal : Result TableState StartFault = Err why in refusal) → IsOfRecords why
refused_of_records P O H (faults.OtherFlow logged found) is = of_records P H (faults.OtherFlow logged found) is
refused_of_records P O H (faults.NotLegal at) is = of_records P H (faults.NotLegal at) is
refused_of_records P O H (faults.LogFull count) is = of_records P H (faults.LogFull count) is
refused_of_records P O H (faults.StoredAboveLimit stored limit) is = of_records P H (faults.StoredAboveLimit stored limit) is
refused_of_records P O H (faults.SourceMissing file) is = of_records P H (faults.SourceMissing file) is
refused_of_records P O H (faults.SourceTooLarge file size) is = of_records P H (faults.SourceTooLarge file size) is
refused_of_records P O H (faults.SourceChanged file logged found) is = of_records P H (faults.SourceChanged file logged found) is
refused_of_records P O H (faults.FileDamaged file logged found) is = of_records P H (faults.FileDamaged file logged found) is
refused_of_records P O H (faults.Site before after) is = of_records P H (faults.Site before after) is
refused_of_records P O H faults.Memory is = tt

-- and a look tells just that
pub told_by_look : (P : Plan) (O : Options) (H : List Record) (why : StartFault) → IsOfRecords why → FindsHistory P O H (let refusal : Result TableState StartFault = Err why in refusal)
    → WasRead (look_fault why) × IsLookFault P H (look_fault why)
told_by_look P O H (faults.OtherFlow logged found) of is = (tt, is)
told_by_look P O H (faults.NotLegal at) of is = (tt, is)
told_by_look P O H (faults.LogFull count) of is = absurd of
told_by_look P O H (faults.StoredAboveLimit stored limit) of is = absurd of
told_by_look P O H (faults.SourceMissing file) of is = absurd of
told_by_look P O H (faults.SourceTooLarge file size) of is = absurd of
told_by_look P O H (faults.SourceChanged file logged found) of is = absurd of
told_by_look P O H (faults.FileDamaged file logged found) of is = absurd of
told_by_look P O H (faults.Site before after) of is = absurd of
told_by_look P O H faults.Memory of is = (tt, tt)

none_first : {A : Type 0} (x rest : Option A) → or_else x rest ≡ None → x ≡ None
none_first None rest is = refl
none_first (Some a) rest is = is

none_rest : {A : Type 0} (x rest : Option A) → or_else x rest ≡ None → rest ≡ None
none_rest None rest is = is
none_rest (Some a) rest is = absurd (true≢false (ap is_some is))

not_mapped : {A B : Type 0} (f : A → B) (x : Option A) → option_map f x ≡ None → x ≡ None
not_mapped f None is = refl
not_mapped f (Some a) is = absurd (true≢false (ap is_some is))

-- records with which nothing is wrong are legal
pub legal_of : (P : Plan) (H : List Record) → history_fault P H ≡ None → IsLegal P H
legal_of P H is =
    none-legal P (plan_digest P) [] H (not_mapped faults.NotLegal (first_illegal P (plan_digest P) H)
    (none_first (option_map faults.NotLegal (first_illegal P (plan_digest P) H)) None (none_rest (option_and_then (other_flow (plan_digest P)) (opened_plan H)) _ is)))

-- what stands in the way of a cleaning, where nothing is wrong with the records
pub clean_fault_by : (P : Plan) (H : List Record) (is_full : Bool) → history_fault P H ≡ None → (not (is_empty (part H)) && nat_le most_records (length H)) ≡ is_full
    → clean_fault P H ≡ or_else (where_so is_full (faults.LogFull (length H))) None
clean_fault_by P H is_full none is =
    ap (λ (x : Option StartFault). or_else x (or_else (where_so (not (is_empty (part H)) && nat_le most_records (length H)) (faults.LogFull (length H))) None)) none
    ∙ ap (λ (b : Bool). or_else (where_so b (faults.LogFull (length H))) None) is

-- ---- how a look ends

pub given_back : (G : List Record) (why : LookFault) (given : List Record) → WasRead why → given ≡ G → GivesBack G why given
given_back G (looks.Log why) given read is = absurd read
given_back G (looks.OtherFlow logged found) given read is = is
given_back G (looks.NotLegal at) given read is = is
given_back G looks.Memory given read is = is

pub are_given : (G : List Record) (why : LookFault) (given : List Record) → WasRead why → GivesBack G why given → given ≡ G
are_given G (looks.Log why) given read is = absurd read
are_given G (looks.OtherFlow logged found) given read is = is
are_given G (looks.NotLegal at) given read is = is
are_given G looks.Memory given read is = is

pub of_file : (file : Option (List ℕ)) (why : LookFault) (given : List Record) → WasRead why → Spells given file → IsOfFile file why given
of_file file (looks.Log why) given read spelled = absurd read
of_file file (looks.OtherFlow logged found) given read spelled = spelled
of_file file (looks.NotLegal at) given read spelled = spelled
of_file file looks.Memory given read spelled = spelled

looks_end : (P : Plan) (G : List Record) (r : Result (List Record) LookRefused) → Looks P G r → LookEnds P G r
looks_end P G (Ok records) h = h
looks_end P G (Err refused) h = (h.2, given_back G refused.why refused.records h.1 h.0)

pub look_ends : (P : Plan) (G H : List Record) (r : Result (List Record) LookRefused) → G ≡ H → Looks P G r → LookEnds P H r
look_ends P G H r these h = subst (λ (K : List Record). LookEnds P K r) these (looks_end P G r h)

pub look_reads : (P : Plan) (G : List Record) (file : Option (List ℕ)) (r : Result (List Record) LookRefused) → Spells G file → Looks P G r → ReadsLog file r
look_reads P G file (Ok records) spelled h = subst (λ (K : List Record). Spells K file) (sym h.0) spelled
look_reads P G file (Err refused) spelled h = of_file file refused.why refused.records h.1 (subst (λ (K : List Record). Spells K file) (sym h.0) spelled)

pub look_legal : (P : Plan) (G : List Record) (r : Result (List Record) LookRefused) → Looks P G r → IfOk r (λ records. IsLegal P records)
look_legal P G (Ok records) h = subst (IsLegal P) (sym h.0) (legal_of P G h.1)
look_legal P G (Err refused) h = tt

-- ---- a log that isn't read

pub unread_ends : (P : Plan) (H : List Record) (why : RecoverFault) → IsThese H (let refusal : Result (LogState × List Record) RecoverFault = Err why in refusal) → IsLookFault P H (looks.Log why)
unread_ends P H recovery.Site is = tt
unread_ends P H recovery.BadHeader is = absurd is
unread_ends P H (recovery.BadRecord at) is = absurd is
unread_ends P H recovery.Memory is = tt

pub unread_damage : (why : RecoverFault) → (IsCutFault (looks.Log why) → ⊥) → IsDamage (let refusal : Result (LogState × List Record) RecoverFault = Err why in refusal)
unread_damage recovery.Site uncut = absurd (uncut tt)
unread_damage recovery.BadHeader uncut = tt
unread_damage (recovery.BadRecord at) uncut = tt
unread_damage recovery.Memory uncut = absurd (uncut tt)

-- a log that spells records is refused only where it is cut short
pub unread_whole : (P : Plan) (H : List Record) (why : RecoverFault) → (IsCutFault (looks.Log why) → ⊥) → IsThese H (let refusal : Result (LogState × List Record) RecoverFault = Err why in refusal) → ⊥
unread_whole P H recovery.Site uncut is = uncut tt
unread_whole P H recovery.BadHeader uncut is = is
unread_whole P H (recovery.BadRecord at) uncut is = is
unread_whole P H recovery.Memory uncut is = uncut tt

pub unread_site : (why : RecoverFault) → IsSiteFault (looks.Log why) → why ≡ recovery.Site
unread_site recovery.Site is = refl
unread_site recovery.BadHeader is = absurd is
unread_site (recovery.BadRecord at) is = absurd is
unread_site recovery.Memory is = absurd is

-- where the log is read, the site didn't fail
pub read_site : (why : LookFault) → WasRead why → IsSiteFault why → ⊥
read_site (looks.Log why) read is = read
read_site (looks.OtherFlow logged found) read is = is
read_site (looks.NotLegal at) read is = is
read_site looks.Memory read is = is
