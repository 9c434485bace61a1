use Rattle.jx_syntax.proofs.Parsed.{found, written, faulty, refused}
use Rattle.jx_syntax.proofs.parser.parse.Goals as goal

pub returns-clause-found : goal.returns-clause-found
returns-clause-found c = found c.args.text.now c.parsed.result c.parsed.ensures

pub returns-clause-written : goal.returns-clause-written
returns-clause-written c = written c.args.text.now c.parsed.result c.parsed.ensures

pub returns-clause-fault : goal.returns-clause-fault
returns-clause-fault c = faulty c.args.text.now c.parsed.result c.parsed.ensures

pub returns-clause-refused : goal.returns-clause-refused
returns-clause-refused c = refused c.args.text.now c.parsed.result c.parsed.ensures
