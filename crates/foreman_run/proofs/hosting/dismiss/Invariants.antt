use Rattle.std.proofs.Common.{◌≡◌, ℕ, List, length}
use Rattle.foreman_run.specs.Lost.{seen_of}
use Rattle.foreman_run.specs.Hosts.{HostsWhole}
use Rattle.foreman_run.specs.Met.{Met}
use Rattle.foreman_run.specs.Tied.{AreTied, Book, with_got}
use Rattle.foreman_run.proofs.hosting.dismiss.Given as goal

abbrev pub invariant-loop-lower : goal.invariant-loop-lower
invariant-loop-lower g l = record {
  hosts : HostsWhole (g.H.Hall.count l.fn.hall) (g.H.Hall.count l.hall) (g.H.Hall.got l.fn.hall) (g.H.Hall.got l.hall) (g.H.Hall.given l.fn.hall) (g.H.Hall.given l.hall) (length l.fn.company) (length l.company) l.whole;
  ties : (cap : ℕ) (past : List Met) (book : Book g.row.H-Way.Denot) → AreTied g.H.Way.Link.tells (seen_of g.H.Way.Link.history g.H.Way.Link.is_closed g.H.Way.Link.count g.H.Way.Link.idle_count) cap past l.fn.company (with_got book (g.H.Hall.got l.fn.hall)) → AreTied g.H.Way.Link.tells (seen_of g.H.Way.Link.history g.H.Way.Link.is_closed g.H.Way.Link.count g.H.Way.Link.idle_count) cap past l.company (with_got book (g.H.Hall.got l.hall));
  given : g.H.Hall.given l.hall ≡ g.H.Hall.given l.fn.hall;
}

abbrev pub decreases-loop-lower : goal.decreases-loop-lower
decreases-loop-lower g l = length l.company
