use Rattle.std.proofs.Common.{rules, ◌≡◌, false, true, refl, sym, ap, subst}
use Rattle.foreman_run.specs.Lost.{seen_of}
use Rattle.foreman_run.specs.Lowers.{CareState, IsHeld, LowerState}
use Rattle.foreman_run.proofs.Lowering.{tired_held}
use Rattle.foreman_run.proofs.hearing.hear.Goals.{then-not-advance-via-then-not-advance, then-not-advance-via-else-not-advance+then-tires}
use Rattle.foreman_run.proofs.hearing.hear.Goals as goal

pub returns-then-not-advance-clause-hears : goal.returns-then-not-advance-clause-hears
returns-then-not-advance-clause-hears g c = (
  refl,
  λ roll heard held.
      elim c.then-not-advance.branch [
        | then-not-advance-via-then-not-advance w ↦
            let none : c.advance.result ≡ false = search rules in
            subst (IsHeld g.L.Link.tells (seen_of g.L.Link.history g.L.Link.is_closed g.L.Link.count g.L.Link.idle_count) roll heard) (sym w.lower-is) (c.advance.ensures.held none roll heard held)
        | then-not-advance-via-else-not-advance+then-tires w ↦
            let one : c.advance.result ≡ true = search rules in
            let tires : w.tires.result ≡ true = search rules in
            let took = c.advance.ensures.taken one in
            let left = w.tires.ensures.left tires in
            subst (IsHeld g.L.Link.tells (seen_of g.L.Link.history g.L.Link.is_closed g.L.Link.count g.L.Link.idle_count) roll heard) (sym w.lower-is)
            (tired_held g.L.Link.tells (seen_of g.L.Link.history g.L.Link.is_closed g.L.Link.count g.L.Link.idle_count) roll heard c.args.lower.now c.advance.new.self w.tires.new.self c.advance.ensures.link c.advance.ensures.way took.0 took.2 (ap (λ (k : CareState). k.refused) took.3)
            (ap (λ (l : LowerState _). l.link) w.tires.ensures.same) (ap (λ (l : LowerState _). l.way) w.tires.ensures.same) left.0 w.tires.ensures.refused left.1 held)
      ],
)
