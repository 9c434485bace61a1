use Rattle.std.proofs.Common.{List, subst}
use Rattle.flow_types.specs.declared.records.Record.{Record}
use Rattle.worker_pool.specs.Crews.{AllTell}
use Rattle.master_run.specs.Asked.{choice}
use Rattle.master_run.specs.Objects.{hall_words, link_words, site_words, stand}
use Rattle.master_run.specs.Prints.{Told}
use Rattle.master_run.proofs.Reprinted.{stands}
use Rattle.master_run.proofs.Tops.{top_ends}
use Rattle.master_run.proofs.top.makeflow_with.Goals as goal

-- what was done is what `follow` did, and the cause is what stands once its text was printed
pub returns : goal.returns
returns g c =
    let before = g.O.Sink.count c.args.out.now in
    let after = g.O.Sink.count c.tell-cause.new.out in
    let did = c.follow-course.ensures in
    record {
      ends = top_ends (record { gives = g.F.Commands.gives; may_fail = g.F.Commands.may_fail })
          (site_words g.S.Site.tells g.S.Site.files g.S.Site.may_leave g.S.Site.moment g.S.Site.images_since g.S.Site.count)
          (hall_words (link_words g.H.Way.Link.tells g.H.Way.Link.history g.H.Way.Link.count g.H.Way.Link.idle_count g.H.Way.Link.is_closed) g.H.Hall.listens g.H.Hall.given g.H.Hall.got g.H.Hall.honest g.H.Hall.sure g.H.Hall.manned g.H.Hall.count g.H.Hall.idle_count)
          (record { sure = g.R.Runner.sure; count = g.R.Runner.count; failures = g.R.Runner.failures })
          (record { tells = g.O.Sink.tells; bytes = g.O.Sink.bytes; count = g.O.Sink.count })
          g.Q.Made.Admission.admitted (AllTell g.R.Runner.tells c.args.runners.now) c.args.words.now c.args.env.now
          (stand c.args.site c.args.hall.now c.args.runners.now c.args.out.now)
          (stand c.follow-course.result.site c.follow-course.new.hall c.follow-course.new.runners c.tell-cause.new.out)
          c.follow-course.result.plan c.follow-course.result.cause c.follow-course.result.records c.tell-cause.result
          (stands before after c.follow-course.result.cause c.tell-cause.result c.tell-cause.ensures.stands)
          (record {
            ends = did.ends;
            serves = did.serves;
            words = did.words;
            faults = did.faults;
            legal = did.legal;
            planned = did.planned;
            untouched = did.untouched;
            quiet = did.quiet;
            closed = did.closed;
            never = did.never;
            sure = did.sure;
            risen = did.risen;
            failures = did.failures;
            failed = did.failed;
            alone = did.alone;
            back = did.back;
            waited = did.waited;
            vain = did.vain;
            due_losses = did.due_losses;
            results = did.results;
            sure_links = did.sure_links;
            opened = did.opened;
            collects = did.collects;
            leaves = did.leaves;
            spare = did.spare;
          })
          (λ told image was. (g.met.S.Site g.world.𝓛 g.world.𝓜 g.world.𝓡 ((λ s x. x), (λ x. x), (λ x. x), λ x. x)).only_now told c.args.site image was)
          c.status.result c.status.ensures
          (λ told. subst (λ (xs : List Record). Told (choice c.args.words.now) c.follow-course.result.plan xs before after (g.O.Sink.bytes c.args.out.now) (g.O.Sink.bytes c.tell-cause.new.out) c.follow-course.result.cause c.tell-cause.result) c.as_slice.ensures (c.tell-cause.ensures.told told));
    }
