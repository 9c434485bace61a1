use Rattle.mem_links.proofs.Keeping.{made_offers}
use Rattle.mem_links.proofs.mem_link.MemLink.serving.Goals as goal

pub returns-clause-offers : goal.returns-clause-offers
returns-clause-offers c =
    made_offers c.args.total c.args.cache c.in_ok-frame.frame c.new.result c.giving_first.result
    c.in_ok-frame.ensures.fits c.in_ok-frame.ensures.frame c.new.ensures c.giving_first.ensures
