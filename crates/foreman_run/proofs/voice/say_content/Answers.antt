use Rattle.std.proofs.Common.{◌≡◌, List, ℕ, ◌++◌, Result, Ok, Err, sym, ap, length, ◌∙◌}
use Rattle.byteorder.specs.Endian.{big_bytes}
use Rattle.outside.specs.declared.fault.Fault.{Fault}
use Rattle.foreman_run.proofs.Telling.{piece_out, saying_as, says_some}
use Rattle.foreman_run.proofs.voice.say_content.Goals as goal

pub returns-in-Err-clause-saying : goal.returns-in-Err-clause-saying
returns-in-Err-clause-saying g c = λ first whole rest t s.
    let longer : c.put_u32.new.out.items ≡ c.args.piece.items ++ big_bytes 4 (length c.args.content) = ◌∙◌ {A = List ℕ} c.in_ok-put_u32.ensures (ap (λ (w : List ℕ). c.args.piece.items ++ big_bytes 4 (length w)) c.as_slice.ensures) in
    let r : Result (Unit {0}) Fault = Err c.in-Err.fault in
    piece_out g.F.Commands.gives g.F.Commands.may_fail first whole r c.args.piece.items c.put_u32.new.out.items c.from_vec.result c.args.content rest (g.U.Link.history c.args.link.now) (g.U.Link.history c.hand.new.self) longer c.from_vec.ensures (c.in-Err.ensures.history t) s

pub returns-in-Ok-hand-clause-saying : goal.returns-in-Ok-hand-clause-saying
returns-in-Ok-hand-clause-saying g c = λ first whole rest t s.
    let longer : c.put_u32.new.out.items ≡ c.args.piece.items ++ big_bytes 4 (length c.args.content) = ◌∙◌ {A = List ℕ} c.in_ok-put_u32.ensures (ap (λ (w : List ℕ). c.args.piece.items ++ big_bytes 4 (length w)) c.as_slice.ensures) in
    let r : Result (Unit {0}) Fault = Ok tt in
    let h1 = g.U.Link.history c.hand.new.self in
    let h2 = g.U.Link.history c.hand-2.new.self in
    let sent = piece_out g.F.Commands.gives g.F.Commands.may_fail first whole r c.args.piece.items c.put_u32.new.out.items c.from_vec.result c.args.content rest (g.U.Link.history c.args.link.now) h1 longer c.from_vec.ensures (c.in-Ok.ensures.history t) s in
    saying_as g.F.Commands.gives g.F.Commands.may_fail first whole rest (c.new.result.items ++ rest) h2 (ap (λ (w : List ℕ). w ++ rest) (sym c.new.ensures.items)) (says_some g.F.Commands.gives g.F.Commands.may_fail first whole r c.args.content rest h1 h2 (c.in-Ok-hand.ensures.history t) sent)

pub returns-in-Err-hand-clause-saying : goal.returns-in-Err-hand-clause-saying
returns-in-Err-hand-clause-saying g c = λ first whole rest t s.
    let longer : c.put_u32.new.out.items ≡ c.args.piece.items ++ big_bytes 4 (length c.args.content) = ◌∙◌ {A = List ℕ} c.in_ok-put_u32.ensures (ap (λ (w : List ℕ). c.args.piece.items ++ big_bytes 4 (length w)) c.as_slice.ensures) in
    let r : Result (Unit {0}) Fault = Ok tt in
    let fails : Result (Unit {0}) Fault = Err c.in-Err-hand.fault in
    let h1 = g.U.Link.history c.hand.new.self in
    let sent = piece_out g.F.Commands.gives g.F.Commands.may_fail first whole r c.args.piece.items c.put_u32.new.out.items c.from_vec.result c.args.content rest (g.U.Link.history c.args.link.now) h1 longer c.from_vec.ensures (c.in-Ok.ensures.history t) s in
    says_some g.F.Commands.gives g.F.Commands.may_fail first whole fails c.args.content rest h1 (g.U.Link.history c.hand-2.new.self) (c.in-Err-hand.ensures.history t) sent
