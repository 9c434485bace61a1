use Rattle.std.proofs.Common.{None, [], ap, subst, sym, ⊎_elim, ◌∙◌}
use Rattle.wq_run.specs.Trusted.{IsFair, IsHeard}
use Rattle.wq_run.specs.Calm.{IsSureOf}
use Rattle.wq_run.proofs.Calm.{piece_owes}
use Rattle.wq_run.proofs.Trusts.{if_both, new_awaited}
use Rattle.peers.specs.Provides.{Provides}
use Rattle.peers.specs.States.{PeerState}
use Rattle.wq_run.proofs.company.hall.guest_at.Goals as goal

pub returns : goal.returns
returns g c = record {
  guest = if_both c.new.result _ _ _ c.new.ensures.ok c.new.ensures.serves
      (λ peer same serves. new_awaited g.F.Commands.gives g.F.Commands.may_fail g.L.Link.history (IsFair g.T.Trust.holds g.L.Link.tells g.L.Link.honest) (IsHeard g.T.Trust.holds g.L.Link.tells) peer c.args.way 0 c.requires.fresh
      (λ heard. ⊎_elim (λ tells. (tells, c.requires.honest)) (λ held. ((c.honest_links_were_honest.ensures c.args.way (c.requires.honest held)).0, c.requires.honest)) heard) same serves);
  sure = λ asked tells on. if_both c.new.result _ _ _ c.new.ensures.ok c.new.ensures.serves
      (λ peer same serves. record {
        heard = [];
        tended = record {
          serves = serves c.requires.fresh;
          provides = subst (λ (p : PeerState g.row.L.Denot). Provides p.session.known [] None []) (sym same) c.tasks_come_behind_their_inputs.ensures.first;
          surely = subst (λ (p : PeerState g.row.L.Denot). IsSureOf g.L.Link.sure g.L.Link.offers asked p.way) (sym same) on;
        };
        owes = λ some. piece_owes (g.L.Link.idle_count peer.way) _ (ap (λ (p : PeerState g.row.L.Denot). g.L.Link.idle_count p.way) same ∙ c.requires.rested) some;
      });
}
