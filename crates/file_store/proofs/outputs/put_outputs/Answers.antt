use Rattle.std.proofs.Common.{◌≡◌, ◌≢◌, ◌<◌, ℕ, List, Option, Some, length, arith, sym, refl, subst, ◌∙◌}
use Rattle.std.specs.Prelude.{slice_get}
use Rattle.std.proofs.lemmas.Option.{slice_get_read}
use Rattle.flow_types.specs.declared.plan.FileRow.{FileRow}
use Rattle.flow_types.specs.Plans.{files_of}
use Rattle.outside.proofs.Moments.{joined}
use Rattle.file_store.specs.Outputs.{file_name, IsBeside}
use Rattle.file_store.proofs.Written.{port_inside, at_port, next_lasts, not_this}
use Rattle.file_store.proofs.outputs.put_outputs.Goals as goal

pub bounds-as_slice-port : goal.bounds-as_slice-port
bounds-as_slice-port g c =
    subst (λ (rows : List FileRow). c.index-ports-i.result.file.0 < length rows) (sym c.as_slice.ensures)
    (port_inside c.args.plan.now c.args.ports.now c.loop-i.i c.index-ports-i.result c.requires.inside (omega arith) c.index-ports-i.is)

pub returns-in_err-put_file-clause-others : goal.returns-in_err-put_file-clause-others
returns-in_err-put_file-clause-others g c told m other =
    let P = c.args.plan.now in
    let at = at_port P c.args.ports.now c.loop-i.i c.index-ports-i.result c.as_slice.result.now c.index-as_slice-port.result c.requires.inside (omega arith) c.index-ports-i.is c.as_slice.ensures c.index-as_slice-port.is in
    c.put_file.ensures.others told m (not_this P (files_of c.args.ports.now) c.loop-i.i c.index-ports-i.result.file.0 c.index-as_slice-port.result.name m at.file at.named other)
    ∙ c.loop-i.invariant.others told m other

pub returns-in_err-put_file-clause-crash : goal.returns-in_err-put_file-clause-crash
returns-in_err-put_file-clause-crash g c told m file other left =
    let P = c.args.plan.now in
    let at = at_port P c.args.ports.now c.loop-i.i c.index-ports-i.result c.as_slice.result.now c.index-as_slice-port.result c.requires.inside (omega arith) c.index-ports-i.is c.as_slice.ensures c.index-as_slice-port.is in
    c.loop-i.invariant.crash told m file other (c.put_file.ensures.crash told m file
    (not_this P (files_of c.args.ports.now) c.loop-i.i c.index-ports-i.result.file.0 c.index-as_slice-port.result.name m at.file at.named other) left)

pub returns-in_err-put_file-clause-any_moment : goal.returns-in_err-put_file-clause-any_moment
returns-in_err-put_file-clause-any_moment g c told =
    let P = c.args.plan.now in
    let at = at_port P c.args.ports.now c.loop-i.i c.index-ports-i.result c.as_slice.result.now c.index-as_slice-port.result c.requires.inside (omega arith) c.index-ports-i.is c.as_slice.ensures c.index-as_slice-port.is in
    joined g.S.Site.moment g.S.Site.images_since c.args.site.now c.loop-i.site c.put_file.new.site _ _
    (IsBeside P (files_of c.args.ports.now) (g.S.Site.may_leave c.args.site.now)) (c.loop-i.invariant.any_moment told) (c.put_file.ensures.any_moment told) (λ image was. was)
    (λ image now m other. c.loop-i.invariant.crash told m (image m) other
    (now m (not_this P (files_of c.args.ports.now) c.loop-i.i c.index-ports-i.result.file.0 c.index-as_slice-port.result.name m at.file at.named other)))

pub loop-i-preserved : goal.loop-i-preserved
loop-i-preserved g c =
    let P = c.args.plan.now in
    let fs = files_of c.args.ports.now in
    let f = c.index-ports-i.result.file.0 in
    let name = c.index-as_slice-port.result.name in
    let at = at_port P c.args.ports.now c.loop-i.i c.index-ports-i.result c.as_slice.result.now c.index-as_slice-port.result c.requires.inside (omega arith) c.index-ports-i.is c.as_slice.ensures c.index-as_slice-port.is in
    let out_is = slice_get_read c.args.outs.now (length c.args.outs.now) c.loop-i.i c.index-outs-i.result refl (omega arith) c.index-outs-i.is in
    let apart = λ (m : List ℕ) (other : (k f : ℕ) → slice_get fs k ≡ Some f → m ≢ file_name P f). not_this P fs c.loop-i.i f name m at.file at.named other in
    record {
      later = omega (arith, c.loop-i.invariant.later, c.put_file.ensures.cause.later);
      ample = λ is. c.in_ok-put_file.ensures.ample.stays (c.loop-i.invariant.ample is);
      durable = λ told. next_lasts P fs c.args.outs.now c.loop-i.i f c.index-outs-i.result name (g.S.Site.may_leave c.loop-i.site) (g.S.Site.may_leave c.put_file.new.site)
          c.requires.differ at.file out_is at.named (c.loop-i.invariant.durable told)
          (subst (λ (bytes : List ℕ). (file : Option (List ℕ)) → g.S.Site.may_leave c.put_file.new.site name file → file ≡ Some bytes) c.as_slice-in-loop-i.ensures (c.in_ok-put_file.ensures.durable told))
          (c.in_ok-put_file.ensures.crash told);
      others = λ told m other. c.in_ok-put_file.ensures.others told m (apart m other) ∙ c.loop-i.invariant.others told m other;
      crash = λ told m file other left. c.loop-i.invariant.crash told m file other (c.in_ok-put_file.ensures.crash told m file (apart m other) left);
      any_moment = λ told. joined g.S.Site.moment g.S.Site.images_since c.args.site.now c.loop-i.site c.put_file.new.site _ _
          (IsBeside P fs (g.S.Site.may_leave c.args.site.now)) (c.loop-i.invariant.any_moment told) (c.put_file.ensures.any_moment told) (λ image was. was)
          (λ image now m other. c.loop-i.invariant.crash told m (image m) other (now m (apart m other)));
    }
