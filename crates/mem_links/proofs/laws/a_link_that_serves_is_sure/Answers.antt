use Rattle.std.proofs.Common.{arith, refl}
use Rattle.mem_links.proofs.Keeping.{serving_offers, serving_sure}
use Rattle.mem_links.proofs.laws.a_link_that_serves_is_sure.Goals as goal

pub returns-clause-sure : goal.returns-clause-sure
returns-clause-sure g c = serving_sure g.F.Commands.gives g.F.Commands.may_fail

pub returns-clause-manned : goal.returns-clause-manned
returns-clause-manned g c = λ least total cache blank first enough room.
    record {
      staffed = record {
        serve = (
          (
            serving_sure g.F.Commands.gives g.F.Commands.may_fail total cache blank first,
            serving_offers least total cache first enough room,
          ),
          tt,
        );
        few = omega arith;
      };
      none_given = refl;
      first = tt;
    }
