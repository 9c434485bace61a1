use Rattle.peers.proofs.Providing.{provides_again, provides_asked, provides_dropped, provides_first, provides_heard, provides_opened, provides_put, provides_said}
use Rattle.peers.proofs.laws.tasks_come_behind_their_inputs.Goals as goal

pub returns-clause-first : goal.returns-clause-first
returns-clause-first c = provides_first

pub returns-clause-opened : goal.returns-clause-opened
returns-clause-opened c = provides_opened

pub returns-clause-put : goal.returns-clause-put
returns-clause-put c = provides_put

pub returns-clause-said : goal.returns-clause-said
returns-clause-said c = provides_said

pub returns-clause-asked : goal.returns-clause-asked
returns-clause-asked c = provides_asked

pub returns-clause-again : goal.returns-clause-again
returns-clause-again c = provides_again

pub returns-clause-heard : goal.returns-clause-heard
returns-clause-heard c = provides_heard

pub returns-clause-dropped : goal.returns-clause-dropped
returns-clause-dropped c = provides_dropped
