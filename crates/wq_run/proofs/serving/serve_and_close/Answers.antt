use Rattle.std.proofs.Common.{rules}
use Rattle.wq_run.proofs.Turns.{stated}
use Rattle.wq_run.proofs.serving.serve_and_close.Goals as goal

pub serve-requires-clause-valid : goal.serve-requires-clause-valid
serve-requires-clause-valid g c κs within = (stated c.requires.may).valid

pub serve-requires-clause-stands : goal.serve-requires-clause-stands
serve-requires-clause-stands g c κs within = (stated c.requires.may).stands

pub serve-requires-clause-of : goal.serve-requires-clause-of
serve-requires-clause-of g c κs within = (stated c.requires.may).of

pub serve-requires-clause-told : goal.serve-requires-clause-told
serve-requires-clause-told g c κs within = (stated c.requires.may).told

pub serve-requires-clause-keen : goal.serve-requires-clause-keen
serve-requires-clause-keen g c κs within = (stated c.requires.may).eager

pub serve-requires-clause-shaped : goal.serve-requires-clause-shaped
serve-requires-clause-shaped g c κs within = (stated c.requires.may).shaped

pub serve-requires-clause-listens : goal.serve-requires-clause-listens
serve-requires-clause-listens g c κs within = (stated c.requires.may).coming

pub serve-requires-clause-most : goal.serve-requires-clause-most
serve-requires-clause-most g c κs within = ((stated c.requires.may).some, (stated c.requires.may).few)

pub serve-requires-clause-served : goal.serve-requires-clause-served
serve-requires-clause-served g c κs within = (stated c.requires.may).served

pub returns : goal.returns
returns g c = record {
  served = record {
    served = c.serve.ensures.served;
    line = search rules;
    coming = c.serve.ensures.listens;
    due = c.serve.ensures.due;
    calm = c.serve.ensures.calm;
    met = c.serve.ensures.met;
    heard = search rules;
    stays = c.serve.ensures.stays;
  };
}
