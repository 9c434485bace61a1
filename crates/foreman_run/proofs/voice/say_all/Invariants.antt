use Rattle.std.proofs.Common.{◌≡◌, ◌≤◌}
use Rattle.foreman_run.proofs.Saying.{SaidSoFar}
use Rattle.foreman_run.proofs.voice.say_all.Given as goal

-- what is left decides
abbrev pub invariant-loop-message : goal.invariant-loop-message
invariant-loop-message g l = record {
  said : SaidSoFar g.F.Commands.gives g.F.Commands.may_fail g.U.Link.tells l.fn.messages l.message-iterator.rest.items (g.U.Link.history l.fn.link) (g.U.Link.history l.link);
  closed : g.U.Link.is_closed l.link ≡ g.U.Link.is_closed l.fn.link;
  later : g.U.Link.count l.fn.link ≤ g.U.Link.count l.link;
}
