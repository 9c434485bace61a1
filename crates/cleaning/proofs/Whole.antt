-- A cleaning from the entry of the call on: the reading of the log, and what is behind it.
use Rattle.std.proofs.Common.{◌≡◌, ◌≢◌, ◌≤◌, ◌∙◌, inl, inr, ℕ, List, length, Option, Result, Ok, Err, sym, ap, subst, arith}
use Rattle.std.specs.Prelude.{IfErr}
use Rattle.flow_types.specs.declared.plan.Plan.{Plan}
use Rattle.flow_types.specs.declared.numbers.Content.{Content}
use Rattle.flow_types.specs.declared.records.Record.{Record}
use Rattle.outside.specs.Disk.{IsImage, LeavesOnly, Outcomes}
use Rattle.outside.specs.Files.{Files}
use Rattle.outside.proofs.Moments.{joined, weakened}
use Rattle.txn_log.specs.Spells.{IsUnbegun, Spells}
use Rattle.log_recover.specs.Recovery.{IsRecovering}
use Rattle.desk.specs.Kept.{IsElse, WasKept}
use Rattle.local_run.specs.Course.{IsUnmade, LeavesAlone}
use Rattle.local_run.specs.Moments.{IsBefore, IsMoment, KeepsSome}
use Rattle.local_run.specs.Runs.{Held}
use Rattle.local_run.proofs.Alone.{alone_less, alone_then}
use Rattle.local_run.proofs.Joining.{goes_on_from}
use Rattle.cleaning.specs.declared.answers.Cleaned.{Cleaned}
use Rattle.cleaning.specs.declared.answers.CleanFault.{CleanFault}
use Rattle.cleaning.specs.declared.answers.CleanFault.TheVariants as cleans
use Rattle.cleaning.specs.declared.answers.CleanRefused.{CleanRefused}
use Rattle.cleaning.specs.declared.answers.LookFault.TheVariants as looks
use Rattle.cleaning.specs.Behind.{IsBehind, IsUnmoved, WasBehind}
use Rattle.cleaning.specs.Cleanings.{CleansLog, FailsRisen, GivesRecords, IsCleanOfFile, IsCutFor, IsLeft, IsUnreadFor, present_made}
use Rattle.cleaning.proofs.Looked.{are_given, of_file}
use Rattle.cleaning.proofs.Absent.{unmade_other}
use Rattle.cleaning.proofs.Reading.{read_moments}

-- ---- what the log's file has

of_file_by : (file : Option (List ℕ)) (G : List Record) (moment : ℕ) (why : CleanFault) (given : List Record) → Spells G file → IsBehind why → IsLeft G moment why given → IsCleanOfFile file why given
of_file_by file G moment (cleans.Look why) given spelled behind left = of_file file why given behind (subst (λ (K : List Record). Spells K file) (sym (are_given G why given behind left)) spelled)
of_file_by file G moment (cleans.LogFull count) given spelled behind left = (G, spelled)
of_file_by file G moment cleans.Site given spelled behind left = (G, spelled)
of_file_by file G moment cleans.Memory given spelled behind left = (G, spelled)

pub cleans_log : (file : Option (List ℕ)) (G : List Record) (moment : ℕ) (r : Result Cleaned CleanRefused) → Spells G file → WasBehind r → GivesRecords G moment r → CleansLog file r
cleans_log file G moment (Ok done) spelled behind given = (G, spelled)
cleans_log file G moment (Err refused) spelled behind given = of_file_by file G moment refused.why refused.records spelled behind given

-- ---- the causes

pub risen_since : (before mid now : ℕ) (r : Result Cleaned CleanRefused) → before ≤ mid → FailsRisen mid now r → FailsRisen before now r
risen_since before mid now (Ok done) le risen = tt
risen_since before mid now (Err refused) le risen = λ is. let lt = risen is in omega (arith, le, lt)

-- ---- the reads

pub unmoved_reads : {S : Type 0} (tells : Type 0) (files : S → Files) (name : List ℕ) (old mid new : S) (r : Result Cleaned CleanRefused) → IsUnmoved mid new r
    → (tells → (IsUnbegun (files old name) → ⊥) → (m : List ℕ) → files mid m ≡ files old m)
    → IfErr r (λ refused. tells → (IsCutFor refused.why → ⊥) → (IsUnbegun (files old name) → ⊥) → (m : List ℕ) → files new m ≡ files old m)
unmoved_reads {S} tells files name old mid new (Ok done) unmoved same = tt
unmoved_reads {S} tells files name old mid new (Err refused) unmoved same = λ told uncut begun m. ap (λ s. files s m) (unmoved uncut) ∙ same told begun m

-- behind the reading the log was read
read_behind : (why : CleanFault) → IsBehind why → IsUnreadFor why → ⊥
read_behind (cleans.Look (looks.Log fault)) behind unread = behind
read_behind (cleans.Look (looks.OtherFlow logged found)) behind unread = unread
read_behind (cleans.Look (looks.NotLegal at)) behind unread = unread
read_behind (cleans.Look looks.Memory) behind unread = unread
read_behind (cleans.LogFull count) behind unread = unread
read_behind cleans.Site behind unread = unread
read_behind cleans.Memory behind unread = unread

pub never_unread : (tells left : Type 0) (r : Result Cleaned CleanRefused) → WasBehind r → IfErr r (λ refused. tells → IsUnreadFor refused.why → left)
never_unread tells left (Ok done) behind = tt
never_unread tells left (Err refused) behind = λ told unread. absurd (read_behind refused.why behind unread)

-- a refusal behind the reading leaves what the reading did
pub unmoved_before : {S : Type 0} (tells : Type 0) (moment_of : S → ℕ) (images_since : S → ℕ → Files → Type 0) (left : Files → Type 0) (old mid new : S) (r : Result Cleaned CleanRefused) → IsUnmoved mid new r
    → (tells → LeavesOnly moment_of images_since old mid left)
    → IfErr r (λ refused. tells → (IsCutFor refused.why → ⊥) → LeavesOnly moment_of images_since old new left)
unmoved_before {S} tells moment_of images_since left old mid new (Ok done) unmoved was = tt
unmoved_before {S} tells moment_of images_since left old mid new (Err refused) unmoved was = λ told uncut. subst (λ (s : S). LeavesOnly moment_of images_since old s left) (sym (unmoved uncut)) (was told)

-- ---- the moments

module _ {S : Type 0} (files : S → Files) (may_leave : S → Outcomes) (moment_of : S → ℕ) (images_since : S → ℕ → Files → Type 0) (P : Plan) (name other : List ℕ) (same : other ≡ name) (G H : List Record) (these : G ≡ H) (old mid new : S)
    (run : LeavesOnly moment_of images_since old mid (IsRecovering name (files old name) (may_leave old))) where
  pub moments_joined : (fits : Plan → ℕ → Content → Option (List ℕ) → Type 0) (all : List Record) (cut : Type 0) → LeavesOnly moment_of images_since mid new (WasKept fits P other (length G) all cut)
      → LeavesOnly moment_of images_since old new (IsMoment fits P name (files old) (may_leave old) H all cut)
  moments_joined fits all cut behind =
      joined moment_of images_since old mid new (IsRecovering name (files old name) (may_leave old)) (WasKept fits P other (length G) all cut) (IsMoment fits P name (files old) (may_leave old) H all cut) run behind
      (λ image here. inl (record { spelled = here.log; others = here.others }))
      (λ image k. inr (subst (λ (n : List ℕ). WasKept fits P n (length H) all cut image) same (subst (λ (K : List Record). WasKept fits P other (length K) all cut image) these k)))

  -- files that the call has nothing to do with
  pub inside_joined : LeavesAlone files may_leave moment_of images_since (λ m. m ≢ name) old mid → LeavesAlone files may_leave moment_of images_since (IsElse P other (present_made P G)) mid new
      → LeavesAlone files may_leave moment_of images_since (IsElse P name (present_made P H)) old new
  inside_joined first second =
      alone_then files may_leave moment_of images_since (IsElse P name (present_made P H)) old mid new
      (alone_less files may_leave moment_of images_since (λ m. m ≢ name) (IsElse P name (present_made P H)) old mid (λ m is. is.0) first.crash first.reads)
      (subst (λ (n : List ℕ). LeavesAlone files may_leave moment_of images_since (IsElse P n (present_made P H)) mid new) same
      (subst (λ (K : List Record). LeavesAlone files may_leave moment_of images_since (IsElse P other (present_made P K)) mid new) these second))

module _ {S : Type 0} (files : S → Files) (may_leave : S → Outcomes) (moment_of : S → ℕ) (images_since : S → ℕ → Files → Type 0) (P : Plan) (name : List ℕ) (old new : S) where
  -- the call ends where the log isn't read
  pub unread_moments : (fits : Plan → ℕ → Content → Option (List ℕ) → Type 0) (H all : List Record) (cut : Type 0) → LeavesOnly moment_of images_since old new (IsRecovering name (files old name) (may_leave old))
      → LeavesOnly moment_of images_since old new (IsMoment fits P name (files old) (may_leave old) H all cut)
  unread_moments fits H all cut run =
      weakened moment_of images_since old new (IsBefore name (files old name) (may_leave old)) (IsMoment fits P name (files old) (may_leave old) H all cut)
      (read_moments files may_leave moment_of images_since name old new run) (λ image was. inl was)

  -- an image of any moment keeps some list
  pub moments_keep : (H all : List Record) (cut : Type 0) → ((image : Files) → IsImage (may_leave old) image → KeepsSome Held P name image)
      → LeavesOnly moment_of images_since old new (IsMoment Held P name (files old) (may_leave old) H all cut) → LeavesOnly moment_of images_since old new (KeepsSome Held P name)
  moments_keep H all cut some run =
      weakened moment_of images_since old new (IsMoment Held P name (files old) (may_leave old) H all cut) (KeepsSome Held P name) run
      (λ image left. goes_on_from Held P name (files old) (may_leave old) H all cut image some left)

  -- files that no rule makes
  pub unmade_alone : (H : List Record) → LeavesAlone files may_leave moment_of images_since (IsElse P name (present_made P H)) old new → LeavesAlone files may_leave moment_of images_since (IsUnmade P name) old new
  unmade_alone H alone =
      alone_less files may_leave moment_of images_since (IsElse P name (present_made P H)) (IsUnmade P name) old new (λ m unmade. (unmade.0, unmade_other P name H m unmade)) alone.crash alone.reads

  pub beside_alone : (fewer : List ℕ → Type 0) → ((m : List ℕ) → fewer m → m ≢ name) → LeavesAlone files may_leave moment_of images_since (λ m. m ≢ name) old new → LeavesAlone files may_leave moment_of images_since fewer old new
  beside_alone fewer so alone = alone_less files may_leave moment_of images_since (λ m. m ≢ name) fewer old new so alone.crash alone.reads
