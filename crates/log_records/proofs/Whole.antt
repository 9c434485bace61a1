-- Bodies as a whole: which are read, as what, and where the others are refused.
use Rattle.std.proofs.Common.{◌≡◌, ℕ, ◌-◌, ◌≤◌, true, false, cond, eqb, List, ◌++◌, length, take, Result, Ok, Err, refl, sym, ap, subst, ◌∙◌}
use Rattle.std.specs.Prelude.{IfOk, IfErr}
use Rattle.std.proofs.lemmas.List.{take_all}
use Rattle.byte_fields.specs.declared.fault.FieldFault.{FieldFault}
use Rattle.byte_fields.specs.declared.fault.FieldFault.TheVariants.{Long}
use Rattle.byte_fields.specs.declared.fault.TakeFault.{TakeFault}
use Rattle.byte_fields.specs.declared.fault.TakeFault.TheVariants as takes
use Rattle.byte_fields.specs.Faults.{left_of}
use Rattle.byte_fields.specs.Reading.{◌>>=◌, FaultIs, whole}
use Rattle.byte_fields.specs.Laws.{IsBytes}
use Rattle.byte_fields.proofs.Fields.{whole_takes, whole_again}
use Rattle.byte_fields.proofs.Prompt.{whole_leaves, leaves_none, leaves_once}
use Rattle.flow_types.specs.declared.records.Record.{Record}
use Rattle.log_records.specs.Spelling.{spelling, HasSpelling}
use Rattle.log_records.specs.Reading.{record_at, by_place, record_of}
use Rattle.log_records.specs.declared.fault.RecordFault.{RecordFault}
use Rattle.log_records.specs.declared.fault.RecordFault.TheVariants.{Bad, Memory}
use Rattle.log_records.specs.Answers.{Answers, Leaves, IsFaultOf, IsOrMemory, refused}
use Rattle.log_records.specs.Laws.{ReadsSpellings, RefusesLeast, SpelledApart}
use Rattle.log_records.proofs.Grammar.{record_is, record_is_prompt}

placed_ok : (total : ℕ) (read : Result Record FieldFault) (r : Record) → by_place total read ≡ Ok r → read ≡ Ok r
placed_ok total (Ok x) r h = (cc)
placed_ok total (Err e) r h = absurd cc

placed_err : (total : ℕ) (read : Result Record FieldFault) (at : ℕ) → by_place total read ≡ Err at → (e : FieldFault) × (read ≡ Err e) × (total - left_of e ≡ at)
placed_err total (Ok x) at h = absurd cc
placed_err total (Err e) at h = (e, refl, cc)

pub read_is : (body : List ℕ) (r : Record) → IsBytes body → record_of body ≡ Ok r → HasSpelling r × (body ≡ spelling r)
unfolding record_of
read_is body r small h =
    let t = whole_takes spelling HasSpelling record_at record_is body r small (placed_ok (length body) (whole record_at body) r h) in
    (t.1, t.0)

pub is_read : (r : Record) → HasSpelling r → record_of (spelling r) ≡ Ok r
unfolding record_of
is_read r h = ap (by_place (length (spelling r))) (whole_again spelling HasSpelling record_at record_is r h)

pub refused_is : (body : List ℕ) (at : ℕ) → IsBytes body → record_of body ≡ Err at → Leaves body at
unfolding record_of
refused_is body at small h =
    let p = placed_err (length body) (whole record_at body) at h in
    subst (λ (k : ℕ). Leaves body k) p.2 (whole_leaves spelling HasSpelling record_at record_is record_is_prompt body p.0 small p.1)

is_refused : (body : List ℕ) (at : ℕ) → IsBytes body → Leaves body at → record_of body ≡ Err at
is_refused body at small h = go (record_of body) refl
  where
    go : (read : Result Record ℕ) → record_of body ≡ read → read ≡ Err at
    go (Ok r) e =
        let t = read_is body r small e in
        absurd (leaves_none spelling HasSpelling body at r h t.0 t.1)
    go (Err k) e = ap (λ (n : ℕ). Err n) (leaves_once spelling HasSpelling body k at (refused_is body k small e) h)

pub reads_spellings : ReadsSpellings
reads_spellings body r small = (read_is body r small, λ h. ap record_of h.1 ∙ is_read r h.0)

pub refuses_least : RefusesLeast
refuses_least body at small = (refused_is body at small, is_refused body at small)

pub spelled_apart : SpelledApart
spelled_apart r s hr hs e =
    let a = is_read r hr in
    let b = is_read s hs in
    let c = ap record_of e in
    cc (a, b, c)

-- ---- answers

pub answer_spelled : (body : List ℕ) (answered : Result Record RecordFault) → IsBytes body → Answers answered (record_of body) → IfOk answered (λ r. HasSpelling r × (body ≡ spelling r))
answer_spelled body (Ok r) small h = read_is body r small h
answer_spelled body (Err e) small h = tt

pub answer_refused : (body : List ℕ) (answered : Result Record RecordFault) → IsBytes body → Answers answered (record_of body) → IfErr answered (λ e. IsFaultOf body e)
answer_refused body (Ok r) small h = tt
answer_refused body (Err (Bad at)) small h = refused_is body at small h
answer_refused body (Err Memory) small h = tt

pub answer_again : (body : List ℕ) (answered : Result Record RecordFault) (r : Record) → Answers answered (record_of body) → HasSpelling r → body ≡ spelling r → IsOrMemory r answered
answer_again body (Ok s) r h fits e = let a = ap record_of e ∙ is_read r fits in cc (a, h)
answer_again body (Err (Bad at)) r h fits e = let a = ap record_of e ∙ is_read r fits in absurd (cc (a, h))
answer_again body (Err Memory) r h fits e = tt

pub answered_ok : (body : List ℕ) (r : Record) (rest : List ℕ) → record_at body ≡ Ok (r, rest) → eqb (length rest) 0 ≡ true → record_of body ≡ Ok r
unfolding record_of
answered_ok body r rest e none =
    ap (λ (read : Result (Record × List ℕ) FieldFault). by_place (length body) (read >>= λ x. cond (eqb (length x.1) 0) (Ok x.0) (Err (Long (length x.1))))) e ∙ rw none refl

pub answered_over : (body : List ℕ) (r : Record) (rest : List ℕ) → record_at body ≡ Ok (r, rest) → eqb (length rest) 0 ≡ false → record_of body ≡ Err (length body - length rest)
unfolding record_of
answered_over body r rest e some =
    ap (λ (read : Result (Record × List ℕ) FieldFault). by_place (length body) (read >>= λ x. cond (eqb (length x.1) 0) (Ok x.0) (Err (Long (length x.1))))) e ∙ rw some refl

pub answered_fault : (body : List ℕ) (f : TakeFault) → FaultIs f (record_at body) → Answers (Err (refused (length body) f)) (record_of body)
unfolding record_of
answered_fault body (takes.Field e) h =
    ap (λ (read : Result (Record × List ℕ) FieldFault). by_place (length body) (read >>= λ x. cond (eqb (length x.1) 0) (Ok x.0) (Err (Long (length x.1))))) h
answered_fault body takes.Memory h = tt

-- what was written over all of some bytes is read again
pub written_again : (end : ℕ) (new old : List ℕ) (r : Record) → take end new ≡ take 0 old ++ spelling r → length new ≤ end → HasSpelling r → record_of new ≡ Ok r
written_again end new old r text all fits = ap record_of (sym (take_all end new all) ∙ text) ∙ is_read r fits
