use Rattle.std.proofs.Common.{ℕ, List, [], ◌∷◌, length, take, Option, Some, sym, ◌∙◌, ap, subst, inl}
use Rattle.outside.specs.Files.{content, written}
use Rattle.outside.proofs.Moments.{joined, weakened}
use Rattle.txn_log.specs.Gates.{Stands, staged, grown, IsGrown}
use Rattle.txn_log.proofs.Gates.{front_length, staged_of, behind_keeps, gate_crash, written_gate, on_ok}
use Rattle.txn_log.proofs.gate.append_behind.Goals as goal

-- while the record is written the log stands for what it stood for
pub returns-in_err-write_synced-clause-any_moment : goal.returns-in_err-write_synced-clause-any_moment
returns-in_err-write_synced-clause-any_moment g c told =
    let size = front_length c.args.gate (g.S.Site.files c.args.site.now c.args.name.now) (c.requires.reads told) in
    weakened g.S.Site.moment g.S.Site.images_since c.args.site.now c.write_synced.new.site _
    (IsGrown c.args.name.now (take c.args.gate (content (g.S.Site.files c.args.site.now c.args.name.now))) (staged c.args.behind.now) (g.S.Site.may_leave c.args.site.now))
    (c.write_synced.ensures.any_moment told)
    (λ image step. record {
      log = inl (behind_keeps _ c.args.gate (length c.args.behind.now) step.here.0 (image c.args.name.now) size (c.requires.stands told step.here.0 step.here.1) step.here.2);
      others = step.others;
    })

-- while the gate is opened, for that with the record or without it
pub returns-clause-any_moment : goal.returns-clause-any_moment
returns-clause-any_moment g c told =
    let size = front_length c.args.gate (g.S.Site.files c.args.site.now c.args.name.now) (c.requires.reads told) in
    let stage = staged_of c.args.gate (g.S.Site.files c.args.site.now c.args.name.now) c.args.behind.now (c.requires.reads told) c.requires.shut in
    joined g.S.Site.moment g.S.Site.images_since c.args.site.now c.write_synced.new.site c.write_synced-2.new.site _ _
    (IsGrown c.args.name.now (take c.args.gate (content (g.S.Site.files c.args.site.now c.args.name.now))) (staged c.args.behind.now) (g.S.Site.may_leave c.args.site.now))
    (c.write_synced.ensures.any_moment told)
    (c.write_synced-2.ensures.any_moment told)
    (λ image step. record {
      log = inl (behind_keeps _ c.args.gate (length c.args.behind.now) step.here.0 (image c.args.name.now) size (c.requires.stands told step.here.0 step.here.1) step.here.2);
      others = step.others;
    })
    (λ image step. record {
      log = gate_crash _ (staged c.args.behind.now) _ c.args.gate step.here.0 (image c.args.name.now) size stage
          (c.in_ok-write_synced.ensures.durable told step.here.0 step.here.1 ∙ c.in_ok-write_synced.ensures.done told) step.here.2;
      others = λ m ne. c.write_synced.ensures.crash told m _ ne (step.others m ne);
    })

-- and then every crash leaves it
pub returns-clause-acknowledged : goal.returns-clause-acknowledged
returns-clause-acknowledged g c =
    on_ok c.write_synced-2.result (λ done told.
    let size = front_length c.args.gate (g.S.Site.files c.args.site.now c.args.name.now) (c.requires.reads told) in
    let stage = staged_of c.args.gate (g.S.Site.files c.args.site.now c.args.name.now) c.args.behind.now (c.requires.reads told) c.requires.shut in
    let is = done told ∙ ap (λ (e : Option (List ℕ)). Some (written c.args.gate (1 ∷ []) (content e))) (c.in_ok-write_synced.ensures.done told) in
    subst (Stands (grown (take c.args.gate (content (g.S.Site.files c.args.site.now c.args.name.now))) (staged c.args.behind.now))) (sym is)
    (written_gate _ (staged c.args.behind.now) _ c.args.gate size stage))
    c.write_synced-2.ensures.done
