use Rattle.std.proofs.Common.{◌∙◌, List, ℕ, map, string_bytes, sym, refl, subst}
use Rattle.batch_run.specs.Ends.{Prints, prints_so, stops}
use Rattle.batch_run.proofs.Tops.{printed_unheard}
use Rattle.batch_run.proofs.Manned.{prints_well, stops_well}
use Rattle.batch_run.proofs.top.run.Goals as goal

pub returns-in-Ok-clause-ends : goal.returns-in-Ok-clause-ends
returns-in-Ok-clause-ends g c =
    prints_so c.in-Ok.ensures.ended.0
    (subst (λ (text : List ℕ). Prints g.O.Sink.tells (g.O.Sink.count c.args.out.now) (g.O.Sink.count c.print.new.out) (g.O.Sink.bytes c.args.out.now) (g.O.Sink.bytes c.print.new.out) text c.print.result) (c.as_str.ensures.value ∙ c.in-Ok.ensures.ended.1) c.print.ensures)

pub returns-in-Ok-clause-unheard : goal.returns-in-Ok-clause-unheard
returns-in-Ok-clause-unheard g c refused =
    printed_unheard g.O.Sink.tells (g.O.Sink.count c.args.out.now) (g.O.Sink.count c.print.new.out) (g.O.Sink.bytes c.args.out.now) (g.O.Sink.bytes c.print.new.out) c.as_str.result.now c.args.hall.now c.run_batch.new.hall c.print.result c.print.ensures refused

pub returns-in-Err-clause-ends : goal.returns-in-Err-clause-ends
returns-in-Err-clause-ends g c = stops c.in-Err.ensures.stops refl

pub returns-in-Ok-clause-manned : goal.returns-in-Ok-clause-manned
returns-in-Ok-clause-manned g c is site hall out =
    prints_well g.O.Sink.tells (g.O.Sink.count c.args.out.now) (g.O.Sink.count c.print.new.out) (g.O.Sink.bytes c.args.out.now) (g.O.Sink.bytes c.print.new.out) c.as_str.result.now c.print.result c.print.ensures out

pub returns-in-Err-clause-manned : goal.returns-in-Err-clause-manned
returns-in-Err-clause-manned g c is site hall out = stops_well g.S.Site.tells _ _ c.in-Err.cause c.in-Err.ensures.stops site hall (c.in-Err.ensures.manned is)
