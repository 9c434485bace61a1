-- What a run adds to the records that stood, by the records behind them and by the answer of its end.
use Rattle.std.proofs.Common.{◌≡◌, ◌∙◌, ℕ, Bool, true, false, cond, List, [], ◌∷◌, ◌++◌, Option, Some, None, Result, Ok, Err, refl, sym, ap, append_assoc, true≢false}
use Rattle.std.specs.Prelude.{is_some}
use Rattle.std.specs.List.{list_any}
use Rattle.std.proofs.lemmas.Bool.{or_from, or_parts}
use Rattle.std.proofs.lemmas.List.{append-nil}
use Rattle.std.proofs.lemmas.List.Folds.{list_any-append}
use Rattle.flow_types.specs.declared.records.EndKind.{EndKind}
use Rattle.flow_types.specs.declared.records.Record.{Record}
use Rattle.flow_types.specs.declared.records.Record.TheVariants as records
use Rattle.run_history.specs.declared.answers.Check.{Check}
use Rattle.run_history.specs.declared.options.Options.{Options}
use Rattle.run_history.specs.Answers.{end_of, has_ended, kind_of, logged_end}
use Rattle.run_history.specs.History.{is_cleaned, is_end, is_opening, since_opening}
use Rattle.run_history.specs.Links.{records_of}
use Rattle.run_history.proofs.Grows.{records-push}
use Rattle.desk.specs.declared.answers.EndRefused.{EndRefused}
use Rattle.desk.specs.declared.answers.EndRefused.TheVariants as refused
use Rattle.desk.specs.Ends.{Ends, EndsBy}
use Rattle.desk.specs.State.{DeskState}
use Rattle.local_run.specs.declared.ended.Stopped.{Stopped}
use Rattle.local_run.specs.declared.ended.Stopped.TheVariants as stopped
use Rattle.local_run.specs.declared.halt.Halt.{Halt}
use Rattle.local_run.specs.declared.halt.Halt.TheVariants as halts
use Rattle.local_run.specs.Added.{AddsBehind, AddsOneRun, EndsAs, RunAdds, end_record, is_bound}
use Rattle.local_run.specs.Course.{begins_anew}
use Rattle.local_run.specs.Ends.{OpensBy}
use Rattle.local_run.proofs.Closings.{breaks_same, spares_same}
use Rattle.local_run.proofs.Fresh.{since_more}

-- ---- of records

-- records that begin nothing and end nothing
pub within_bounds : (more : List Record) → list_any begins_anew more ≡ false → list_any is_end more ≡ false → list_any is_bound more ≡ false
within_bounds [] anew unended = refl
within_bounds (x ∷ xs) anew unended =
    let begins = or_parts (begins_anew x) (list_any begins_anew xs) anew in
    let ends = or_parts (is_end x) (list_any is_end xs) unended in
    or_from (is_bound x) (list_any is_bound xs) (or_from (is_opening x) (is_end x) (or_parts (is_opening x) (is_cleaned x) begins.0).0 ends.0) (within_bounds xs begins.1 ends.1)

-- where the run hasn't ended behind them, none of them ends it
pub none_ends : (H more : List Record) → list_any begins_anew more ≡ false → has_ended (H ++ more) ≡ false → list_any is_end more ≡ false
none_ends H more anew unended =
    (or_parts (list_any is_end (since_opening H)) (list_any is_end more)
    (sym (list_any-append is_end (since_opening H) more) ∙ sym (ap (list_any is_end) (since_more H more anew)) ∙ unended)).1

-- more records of a run that hasn't ended, and then an Ended of this kind, if there is one
pub adds_behind : (H mid all more : List Record) (moment : ℕ) (kind : Option EndKind) → mid ≡ H ++ more → list_any begins_anew more ≡ false → has_ended mid ≡ false → all ≡ mid ++ end_record moment kind
    → AddsBehind H all kind
adds_behind H mid all more moment kind are anew unended ends = record {
  more = more;
  moment = moment;
  are = ends ∙ ap (λ (l : List Record). l ++ end_record moment kind) are;
  within = within_bounds more anew (none_ends H more anew (sym (ap has_ended are) ∙ unended));
}

-- ---- of a run

-- a run that was stopped, so that it needn't have an Ended
pub adds_none : (H all more : List Record) (how : Result Check Stopped) → EndsAs how None → all ≡ H ++ more → list_any begins_anew more ≡ false → has_ended all ≡ false → RunAdds H all how
adds_none H all more how asks are anew unended = record {
  kind = None;
  is = asks;
  adds = adds_behind H all all more 0 None are anew unended (sym (append-nil all));
}

-- why a run stopped asks for none
pub halted_none : (halt : Halt) → EndsAs (Err (stopped.Halted halt)) None
halted_none (halts.Damaged file logged found) = refl
halted_none halts.Runner = refl
halted_none halts.Site = refl
halted_none halts.Memory = λ is. true≢false (sym (ap is_some is))

-- a run that ended with an answer
pub adds_end : (H mid all more : List Record) (moment : ℕ) (check : Check) → mid ≡ H ++ more → list_any begins_anew more ≡ false → has_ended mid ≡ false → all ≡ mid ++ end_record moment (kind_of check)
    → RunAdds H all (Ok check)
adds_end H mid all more moment check are anew unended ends = record {
  kind = kind_of check;
  is = refl;
  adds = adds_behind H mid all more moment (kind_of check) are anew unended ends;
}

-- one that went on behind more records
pub adds_then : (H mid all more : List Record) (how : Result Check Stopped) → mid ≡ H ++ more → list_any begins_anew more ≡ false → has_ended mid ≡ false → RunAdds mid all how → RunAdds H all how
adds_then H mid all more how are anew unended run =
    let rest = run.adds in
    let tail : List Record = end_record rest.moment run.kind in
    let free : list_any is_bound more ≡ false = within_bounds more anew (none_ends H more anew (sym (ap has_ended are) ∙ unended)) in
    record {
      kind = run.kind;
      is = run.is;
      adds = record {
        more = more ++ rest.more;
        moment = rest.moment;
        are = rest.are ∙ ap (λ (l : List Record). (l ++ rest.more) ++ tail) are ∙ ap (λ (l : List Record). l ++ tail) (append_assoc H more rest.more);
        within = list_any-append is_bound more rest.more ∙ or_from (list_any is_bound more) (list_any is_bound rest.more) free rest.within;
      };
    }

-- and its opening before it
pub adds_one_run : (O : Options) (H all : List Record) (opening : Record) (how : Result Check Stopped) → is_opening opening ≡ true → OpensBy O (H ++ (opening ∷ [])) → RunAdds (H ++ (opening ∷ [])) all how
    → AddsOneRun O H all (EndsAs how)
adds_one_run O H all opening how opens like run = record {
  opening = opening;
  opens = opens;
  like = like;
  kind = run.kind;
  is = run.is;
  adds = run.adds;
}

-- ---- of the desk's end

ends_kind : {S : Type 0} (d : DeskState S) (moment : ℕ) (kind : Option EndKind) (after : DeskState S) → EndsBy kind d moment after → records_of after.moves ≡ records_of d.moves ++ end_record moment kind
ends_kind {S} d moment None after h = ap (λ (a : DeskState S). records_of a.moves) h ∙ sym (append-nil (records_of d.moves))
ends_kind {S} d moment (Some kind) after h = ap (λ (a : DeskState S). records_of a.moves) h ∙ records-push d.moves (records.Ended moment kind)

-- a run that hasn't ended yet logs the Ended of its answer
pub end_logs : {S : Type 0} (count : S → ℕ) (d : DeskState S) (moment : ℕ) (check : Check) (after : DeskState S) → has_ended (records_of d.moves) ≡ false → Ends count d moment (Ok check) after
    → records_of after.moves ≡ records_of d.moves ++ end_record moment (kind_of check)
end_logs count d moment check after unended h =
    ends_kind d moment (logged_end d.plan d.options d.moves d.stop) after h.2
    ∙ ap (λ (kind : Option EndKind). records_of d.moves ++ end_record moment kind)
    (ap (λ (b : Bool). cond b None (kind_of (end_of d.plan d.options d.moves d.stop))) unended ∙ sym (ap kind_of h.1))

-- and none where the site or memory fails
pub end_same : {S : Type 0} (count : S → ℕ) (d : DeskState S) (moment : ℕ) (why : EndRefused) (after : DeskState S) → Ends count d moment (Err why) after → records_of after.moves ≡ records_of d.moves
end_same count d moment (refused.Broken before now) after h = breaks_same count d before now after h
end_same count d moment refused.Memory after h = spares_same d after h
