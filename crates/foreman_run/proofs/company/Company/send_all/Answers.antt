use Rattle.std.proofs.Common.{rules, ◌≡◌, inl, inr, refl, sym, subst}
use Rattle.foreman_run.specs.Lost.{seen_of}
use Rattle.foreman_core.specs.Members.{Every, Stands}
use Rattle.foreman_run.proofs.Companies.{keeps_first, keeps_next}
use Rattle.foreman_run.proofs.company.Company.send_all.Goals as goal

pub loop-down-init : goal.loop-down-init
loop-down-init g c =
    let are : c.from-left.result.items ≡ c.args.downs = search rules in
    record {
      keeps = keeps_first g.L.Link.tells (seen_of g.L.Link.history g.L.Link.is_closed g.L.Link.count g.L.Link.idle_count) g.L.Link.honest c.args.downs c.args.self.now;
      left = subst (Every (λ d. Stands d c.args.downs)) (sym are) (λ d there. there);
    }

pub send-requires-clause-told : goal.send-requires-clause-told
send-requires-clause-told g c κs within =
    c.requires.told c.in-Some.down (c.loop-down.invariant.left c.in-Some.down (subst (Stands c.in-Some.down) (sym c.in-Some.ensures.items) (inl refl)))

pub loop-down-preserved : goal.loop-down-preserved
loop-down-preserved g c =
    let there = c.loop-down.invariant.left c.in-Some.down (subst (Stands c.in-Some.down) (sym c.in-Some.ensures.items) (inl refl)) in
    record {
      keeps = keeps_next g.L.Link.tells (seen_of g.L.Link.history g.L.Link.is_closed g.L.Link.count g.L.Link.idle_count) g.L.Link.honest c.args.downs c.in-Some.down c.args.self.now c.loop-down.self c.send.new.self there c.loop-down.invariant.keeps c.send.ensures;
      left = λ d inside. c.loop-down.invariant.left d (subst (Stands d) (sym c.in-Some.ensures.items) (inr inside));
    }
