use Rattle.std.proofs.Common.{◌≡◌, Some, subst, sym}
use Rattle.std.specs.Prelude.{IfOk}
use Rattle.flow_types.specs.Serial.{serial}
use Rattle.desk.specs.Inputs.{IsWhole}
use Rattle.board.specs.Calls.{ReadsHere}
use Rattle.board.proofs.board.fn.Board.read_input.turn.Goals as goal

pub returns : goal.returns
returns g c =
    let s = g.S.Site in
    let read = c.read_input-reply.ensures in
    let is = sym c.count.ensures.reply in
    record {
      reply = subst (λ r. ReadsHere s.tells s.files s.count c.args.shared.now c.captures.file r c.read_input-reply.new.self) is read.reply;
      honest = subst (λ r. IfOk r (λ bytes. s.tells → g.T.Terms.kept → g.T.Terms.trust → serial c.args.shared.now.plan g.F.Commands.gives g.T.Terms.sources c.captures.file.0 ≡ Some bytes)) is
          read.honest;
      whole = λ told kept. subst IsWhole is (read.whole told kept);
      others = read.others;
      counts = c.count.ensures.counts;
    }
