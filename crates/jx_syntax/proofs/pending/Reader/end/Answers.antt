use Rattle.std.proofs.Common.{refl}
use Rattle.jx_tokens.specs.declared.token.Kind.TheVariants as kinds
use Rattle.jx_syntax.specs.Reading.{ends}
use Rattle.jx_syntax.proofs.Steps.{at_kind}
use Rattle.jx_syntax.proofs.pending.Reader.end.Goals as goal

pub returns-in-CloseGroup : goal.returns-in-CloseGroup
returns-in-CloseGroup c = record {
  shown = λ fs x n h d l.
      at_kind c.end_group.new.self c.end_group.result 128 n c.args.place c.args.kind kinds.CloseGroup (λ k. ends c.args.place k (fs, x)) c.in-CloseGroup.is refl (c.end_group.ensures.shown fs x n h d l);
}

pub returns-in-CloseList : goal.returns-in-CloseList
returns-in-CloseList c = record {
  shown = λ fs x n h d l.
      at_kind c.end_list.new.self c.end_list.result 128 n c.args.place c.args.kind kinds.CloseList (λ k. ends c.args.place k (fs, x)) c.in-CloseList.is refl (c.end_list.ensures.shown fs x n h d l);
}

pub returns-in-CloseObject : goal.returns-in-CloseObject
returns-in-CloseObject c = record {
  shown = λ fs x n h d l.
      at_kind c.end_object.new.self c.end_object.result 128 n c.args.place c.args.kind kinds.CloseObject (λ k. ends c.args.place k (fs, x)) c.in-CloseObject.is refl (c.end_object.ensures.shown fs x n h d l);
}

pub returns-in-Comma : goal.returns-in-Comma
returns-in-Comma c = record {
  shown = λ fs x n h d l.
      at_kind c.go_on.new.self c.go_on.result 128 n c.args.place c.args.kind kinds.Comma (λ k. ends c.args.place k (fs, x)) c.in-Comma.is refl (c.go_on.ensures.shown fs x n h d l);
}

pub returns-in-Colon : goal.returns-in-Colon
returns-in-Colon c = record {
  shown = λ fs x n h d l.
      at_kind c.slice.new.self c.slice.result 128 n c.args.place c.args.kind kinds.Colon (λ k. ends c.args.place k (fs, x)) c.in-Colon.is refl (c.slice.ensures.shown fs x n h d l);
}

pub returns-in-For : goal.returns-in-For
returns-in-For c = record {
  shown = λ fs x n h d l.
      at_kind c.begin_loop.new.self c.begin_loop.result 128 n c.args.place c.args.kind kinds.For (λ k. ends c.args.place k (fs, x)) c.in-For.is refl (c.begin_loop.ensures.shown fs x n h d l);
}

pub returns-in-If : goal.returns-in-If
returns-in-If c = record {
  shown = λ fs x n h d l.
      at_kind c.select.new.self c.select.result 128 n c.args.place c.args.kind kinds.If (λ k. ends c.args.place k (fs, x)) c.in-If.is refl (c.select.ensures.shown fs x n h d l);
}
