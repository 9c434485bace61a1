use Rattle.std.proofs.Common.{Bool, Err, Result, subst}
use Rattle.wq_frames.specs.declared.feeder.FeedFault.{FeedFault}
use Rattle.peer_run.specs.Ends.{Advanced}
use Rattle.peer_run.proofs.ear.Ear.next.Goals as goal

pub returns-in-Err-TooLong : goal.returns-in-Err-TooLong
returns-in-Err-TooLong c =
    (c.at-at.ensures, subst (λ (f : FeedFault). let r : Result Bool FeedFault = Err f in Advanced c.args.self.now r c.advance.new.self) c.in-Err-TooLong.field-0-is c.in-Err-TooLong.ensures)

pub returns-in-Err-Bad : goal.returns-in-Err-Bad
returns-in-Err-Bad c =
    (c.at-at.ensures, subst (λ (f : FeedFault). let r : Result Bool FeedFault = Err f in Advanced c.args.self.now r c.advance.new.self) c.in-Err-Bad.field-0-is c.in-Err-Bad.ensures)
