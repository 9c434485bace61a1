use Rattle.std.proofs.Common.{ℕ, Bool, true, List, string_bytes, Result, option_copied, sym, ap, subst, ◌∙◌}
use Rattle.jx_meaning.specs.declared.fault.EvalFault.{EvalFault}
use Rattle.jx_meaning.specs.Answers.{Gives}
use Rattle.jx_meaning.specs.Values.{Value, text, plain}
use Rattle.jx_meaning.specs.Lists.{limited}
use Rattle.jx_functions.specs.Pieces.{piece, AddsPiece}
use Rattle.jx_functions.proofs.Joining.{nothing_joined, text_passes, one_joined, too_long, all_joined}
use Rattle.jx_functions.proofs.joins.texts_joined.Goals as goal

pub loop-item-init : goal.loop-item-init
loop-item-init c = record {
  are = c.requires;
  text = nothing_joined c.args.items.now c.args.separator.now (string_bytes c.new-out.result) c.new-out.ensures.bytes;
}

pub returns-then-not-branch : goal.returns-then-not-branch
returns-then-not-branch c =
    let t = c.in-Some.text.now in
    let out = string_bytes c.loop-item.out in
    too_long c.args.place c.args.items.now c.loop-item.item-index c.item-item.result t c.args.separator.now out c.loop-item.first c.loop-item-test.true c.item-item.is
    (ap option_copied (sym c.in-Some.is) ∙ c.text_in.ensures) c.loop-item.invariant.text c.loop-item.invariant.are c.requires
    (subst (λ (b : Bool). AddsPiece out (piece c.loop-item.first c.args.separator.now t) b (string_bytes c.add_piece.new.out)) c.if-not-branch.true c.in_ok-add_piece-in-Some.ensures)

pub loop-item-preserved : goal.loop-item-preserved
loop-item-preserved c =
    let t = c.in-Some.text.now in
    let out = string_bytes c.loop-item.out in
    let e = ap option_copied (sym c.in-Some.is) ∙ c.text_in.ensures in
    record {
      are = text_passes c.args.items.now c.loop-item.item-index c.item-item.result t true c.loop-item-test.true c.item-item.is e c.loop-item.invariant.are;
      text = one_joined c.args.items.now c.loop-item.item-index c.item-item.result t c.args.separator.now out (string_bytes c.add_piece.new.out) c.loop-item.first c.loop-item-test.true c.item-item.is e c.loop-item.invariant.text
          (subst (λ (b : Bool). AddsPiece out (piece c.loop-item.first c.args.separator.now t) b (string_bytes c.add_piece.new.out)) c.if-not-branch.false c.in_ok-add_piece-in-Some.ensures);
    }

pub returns : goal.returns
returns c =
    let out = string_bytes c.loop-item.out in
    subst (λ (g : Result Value EvalFault). Gives plain c.text_value.result g)
    (ap (λ (l : List ℕ). limited c.args.place (text l)) c.from_string.ensures
    ∙ all_joined c.args.place c.args.items.now c.loop-item.item-index c.args.separator.now out c.loop-item.first c.loop-item-test.false c.loop-item.invariant.text c.requires)
    c.text_value.ensures
