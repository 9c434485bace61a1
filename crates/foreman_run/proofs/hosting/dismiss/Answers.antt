use Rattle.std.proofs.Common.{rules, ◌≡◌, ◌+◌, ◌++◌, ◌∷◌, ◌∙◌, Bool, List, true, [], length, refl, ap, subst, arith}
use Rattle.foreman_run.specs.Lost.{seen_of}
use Rattle.std.proofs.lemmas.List.{length-append}
use Rattle.foreman_run.specs.Hosts.{HostsWhole}
use Rattle.foreman_run.specs.Tied.{AreTied, with_got}
use Rattle.foreman_run.proofs.Hosted.{hosts_still, whole_beside, whole_less, whole_more}
use Rattle.foreman_run.proofs.Tying.{tied_gone}
use Rattle.foreman_run.proofs.hosting.dismiss.Goals as goal

pub loop-lower-init : goal.loop-lower-init
loop-lower-init g c = record {
  hosts = (0, hosts_still (g.H.Hall.count c.args.hall.now) (g.H.Hall.got c.args.hall.now) (g.H.Hall.given c.args.hall.now) (length c.args.company) (length c.args.company) refl, λ e. refl);
  ties = λ cap past book tied. tied;
  given = refl;
}

pub loop-lower-preserved : goal.loop-lower-preserved
loop-lower-preserved g c =
    let are : c.loop-lower.company ≡ c.pop.new.self ++ c.in-Some.lower ∷ [] = search rules in
    let fewer : length c.loop-lower.company ≡ length c.pop.new.self + 1 = ap length are ∙ length-append c.pop.new.self (c.in-Some.lower ∷ []) in
    let told : c.farewell.result ≡ true = search rules in
    record {
      hosts = whole_more (g.H.Hall.count c.args.hall.now) (g.H.Hall.count c.loop-lower.hall) (g.H.Hall.count c.farewell.new.hall) (g.H.Hall.got c.args.hall.now) (g.H.Hall.got c.loop-lower.hall) (g.H.Hall.got c.farewell.new.hall) (g.H.Hall.given c.args.hall.now) (g.H.Hall.given c.loop-lower.hall) (g.H.Hall.given c.farewell.new.hall)
          (length c.args.company) (length c.loop-lower.company) (length c.pop.new.self) c.loop-lower.whole c.loop-lower.invariant.hosts
          (whole_beside (length c.pop.new.self) (g.H.Hall.count c.loop-lower.hall) (g.H.Hall.count c.farewell.new.hall) (g.H.Hall.got c.loop-lower.hall) (g.H.Hall.got c.farewell.new.hall) (g.H.Hall.given c.loop-lower.hall) (g.H.Hall.given c.farewell.new.hall) 1 0 (length c.loop-lower.company) (length c.pop.new.self) true fewer (omega arith)
          (subst (λ (b : Bool). HostsWhole (g.H.Hall.count c.loop-lower.hall) (g.H.Hall.count c.farewell.new.hall) (g.H.Hall.got c.loop-lower.hall) (g.H.Hall.got c.farewell.new.hall) (g.H.Hall.given c.loop-lower.hall) (g.H.Hall.given c.farewell.new.hall) 1 0 b) told c.farewell.ensures.hosts));
      ties = λ cap past book tied. tied_gone g.H.Way.Link.tells (seen_of g.H.Way.Link.history g.H.Way.Link.is_closed g.H.Way.Link.count g.H.Way.Link.idle_count) cap past c.loop-lower.company c.pop.new.self c.in-Some.lower book (g.H.Hall.got c.loop-lower.hall) (g.H.Hall.got c.farewell.new.hall) are c.farewell.ensures.lets_go (c.loop-lower.invariant.ties cap past book tied);
      given = c.farewell.ensures.given ∙ c.loop-lower.invariant.given;
    }

pub loop-lower-preserved-then-not-farewell : goal.loop-lower-preserved-then-not-farewell
loop-lower-preserved-then-not-farewell g c =
    let are : c.loop-lower.company ≡ c.pop.new.self ++ c.in-Some.lower ∷ [] = search rules in
    let fewer : length c.loop-lower.company ≡ length c.pop.new.self + 1 = ap length are ∙ length-append c.pop.new.self (c.in-Some.lower ∷ []) in
    record {
      hosts = whole_less (g.H.Hall.count c.args.hall.now) (g.H.Hall.count c.loop-lower.hall) (g.H.Hall.count c.farewell.new.hall) (g.H.Hall.got c.args.hall.now) (g.H.Hall.got c.loop-lower.hall) (g.H.Hall.got c.farewell.new.hall) (g.H.Hall.given c.args.hall.now) (g.H.Hall.given c.loop-lower.hall) (g.H.Hall.given c.farewell.new.hall)
          (length c.args.company) (length c.loop-lower.company) (length c.pop.new.self) c.loop-lower.whole c.farewell.result c.loop-lower.invariant.hosts
          (whole_beside (length c.pop.new.self) (g.H.Hall.count c.loop-lower.hall) (g.H.Hall.count c.farewell.new.hall) (g.H.Hall.got c.loop-lower.hall) (g.H.Hall.got c.farewell.new.hall) (g.H.Hall.given c.loop-lower.hall) (g.H.Hall.given c.farewell.new.hall) 1 0 (length c.loop-lower.company) (length c.pop.new.self) c.farewell.result fewer (omega arith) c.farewell.ensures.hosts);
      ties = λ cap past book tied. tied_gone g.H.Way.Link.tells (seen_of g.H.Way.Link.history g.H.Way.Link.is_closed g.H.Way.Link.count g.H.Way.Link.idle_count) cap past c.loop-lower.company c.pop.new.self c.in-Some.lower book (g.H.Hall.got c.loop-lower.hall) (g.H.Hall.got c.farewell.new.hall) are c.farewell.ensures.lets_go (c.loop-lower.invariant.ties cap past book tied);
      given = c.farewell.ensures.given ∙ c.loop-lower.invariant.given;
    }

pub returns : goal.returns
returns g c =
    let empty : c.loop-lower.company ≡ [] = search rules in
    let none : length c.loop-lower.company ≡ 0 = ap length empty in
    record {
      hosts = subst (λ (n : _). HostsWhole (g.H.Hall.count c.args.hall.now) (g.H.Hall.count c.loop-lower.hall) (g.H.Hall.got c.args.hall.now) (g.H.Hall.got c.loop-lower.hall) (g.H.Hall.given c.args.hall.now) (g.H.Hall.given c.loop-lower.hall) (length c.args.company) n c.loop-lower.whole) none c.loop-lower.invariant.hosts;
      ties = λ cap past book tied. subst (λ (ls : List _). AreTied g.H.Way.Link.tells (seen_of g.H.Way.Link.history g.H.Way.Link.is_closed g.H.Way.Link.count g.H.Way.Link.idle_count) cap past ls (with_got book (g.H.Hall.got c.loop-lower.hall))) empty (c.loop-lower.invariant.ties cap past book tied);
      given = c.loop-lower.invariant.given;
    }
