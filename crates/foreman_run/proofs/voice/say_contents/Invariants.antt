use Rattle.std.proofs.Common.{◌≡◌, ◌≤◌, ◌++◌, ℕ, List}
use Rattle.std.specs.Prelude.{flat_map}
use Rattle.byte_fields.specs.Spelling.{counted}
use Rattle.links.specs.declared.passing.Passed.{Passed}
use Rattle.wq_messages.specs.Spelling.{most_body}
use Rattle.foreman_run.specs.Says.{IsSaying}
use Rattle.foreman_run.proofs.voice.say_contents.Given as goal

-- what is left decides
abbrev pub invariant-loop-content : goal.invariant-loop-content
invariant-loop-content g l = record {
  saying : (first : List Passed) (whole : List ℕ) → g.U.Link.tells → IsSaying g.F.Commands.gives g.F.Commands.may_fail first whole (l.fn.head.items ++ flat_map counted l.fn.contents) (g.U.Link.history l.fn.link)
      → IsSaying g.F.Commands.gives g.F.Commands.may_fail first whole (l.piece.items ++ flat_map counted l.content-iterator.rest.items) (g.U.Link.history l.link);
  short : Rattle.std.specs.Prelude.length (flat_map counted l.content-iterator.rest.items) ≤ most_body;
  closed : g.U.Link.is_closed l.link ≡ g.U.Link.is_closed l.fn.link;
  later : g.U.Link.count l.fn.link ≤ g.U.Link.count l.link;
}
