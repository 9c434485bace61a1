use Rattle.std.proofs.Common.{sym, subst}
use Rattle.jx_syntax.specs.Reading.{Move, depth, moved, reduce}
use Rattle.jx_syntax.specs.Shown.{Steps}
use Rattle.jx_syntax.proofs.Steps.{IsOther, had_ends}
use Rattle.jx_syntax.proofs.pending.Reader.behind.Goals as goal

pub returns-in_ok-whole-in_default : goal.returns-in_ok-whole-in_default
returns-in_ok-whole-in_default c = record {
  shown = λ fs x h deep l no_name.
      let r = c.in_ok-whole-in_default.ensures.shown fs x h deep l in
      let k = c.args.kind in
      let n = c.in_default in
      let other : IsOther k = record {
        is_no_Or = n.not-Or;
        is_no_And = n.not-And;
        is_no_Equal = n.not-Equal;
        is_no_Unequal = n.not-Unequal;
        is_no_Less = n.not-Less;
        is_no_AtMost = n.not-AtMost;
        is_no_More = n.not-More;
        is_no_AtLeast = n.not-AtLeast;
        is_no_Plus = n.not-Plus;
        is_no_Minus = n.not-Minus;
        is_no_Times = n.not-Times;
        is_no_Over = n.not-Over;
        is_no_Rest = n.not-Rest;
        is_no_OpenList = n.not-OpenList;
      } in
      subst (λ (m : Move). Steps c.end.new.self c.end.result (moved 128 (depth fs) c.args.place k m)) (sym (had_ends fs x c.args.place k other no_name))
      (c.end.ensures.shown (reduce 1 fs x).0 (reduce 1 fs x).1 (depth fs) r.0 r.1 r.2);
}
