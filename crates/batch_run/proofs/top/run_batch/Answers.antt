use Rattle.std.proofs.Common.{List, map, refl, string_bytes, subst, sym}
use Rattle.batch_run.specs.Batch.{asked_by, lines_of, one_core}
use Rattle.batch_run.specs.Ends.{AreFit, IsBrought, WasIdle, most_idles}
use Rattle.batch_run.proofs.Tops.{ended_run, stops_read, stops_run, stops_words, unheard_run}
use Rattle.task_book.specs.declared.task.Submission.{Submission}
use Rattle.batch_run.proofs.Manned.{fit_lines, stops_not_idle}
use Rattle.batch_run.proofs.top.run_batch.Goals as goal

pub returns-in-Err-clause-stops : goal.returns-in-Err-clause-stops
returns-in-Err-clause-stops g c = stops_words g.S.Site.tells (record {
  asked = asked_by (map string_bytes c.args.words.now);
  files = g.S.Site.files c.args.site.now;
  site_before = g.S.Site.count c.args.site.now;
  site_now = g.S.Site.count c.args.site.now;
  hall_before = g.H.Hall.count c.args.hall.now;
  hall_now = g.H.Hall.count c.args.hall.now;
}) (WasIdle g.H.Way.Link.idle_count (g.H.Hall.idle_count c.args.hall.now) (g.H.Hall.idle_count c.args.hall.now) most_idles) c.in-Err.cause c.in-Err.ensures.refused

pub returns-in-Err-read_batch-clause-stops : goal.returns-in-Err-read_batch-clause-stops
returns-in-Err-read_batch-clause-stops g c =
    stops_read g.S.Site.tells (record {
      asked = asked_by (map string_bytes c.args.words.now);
      files = g.S.Site.files c.args.site.now;
      site_before = g.S.Site.count c.args.site.now;
      site_now = g.S.Site.count c.read_batch.new.site;
      hall_before = g.H.Hall.count c.args.hall.now;
      hall_now = g.H.Hall.count c.args.hall.now;
    }) (WasIdle g.H.Way.Link.idle_count (g.H.Hall.idle_count c.args.hall.now) (g.H.Hall.idle_count c.args.hall.now) most_idles) c.in-Ok.ask c.in-Err-read_batch.cause c.in-Ok.ensures.ok c.in-Err-read_batch.ensures.fails

pub returns-clause-ended : goal.returns-clause-ended
returns-clause-ended g c =
    ended_run g.S.Site.tells (record {
      asked = asked_by (map string_bytes c.args.words.now);
      files = g.S.Site.files c.args.site.now;
      site_before = g.S.Site.count c.args.site.now;
      site_now = g.S.Site.count c.read_batch.new.site;
      hall_before = g.H.Hall.count c.args.hall.now;
      hall_now = g.H.Hall.count c.listen_and_run.new.hall;
    }) string_bytes (IsBrought g.H.Way.Link.tells (g.H.Way.Link.tells × g.H.Hall.honest c.args.hall.now) g.F.Commands.gives g.F.Commands.may_fail g.H.Way.Link.history) c.in-Ok-read_batch.tasks.items c.listen_and_run.result (c.in-Ok.ask, c.in-Ok.ensures.ok, c.in-Ok-read_batch.ensures.batch) c.listen_and_run.ensures.ends

pub returns-clause-stops : goal.returns-clause-stops
returns-clause-stops g c =
    stops_run g.S.Site.tells (record {
      asked = asked_by (map string_bytes c.args.words.now);
      files = g.S.Site.files c.args.site.now;
      site_before = g.S.Site.count c.args.site.now;
      site_now = g.S.Site.count c.read_batch.new.site;
      hall_before = g.H.Hall.count c.args.hall.now;
      hall_now = g.H.Hall.count c.listen_and_run.new.hall;
    }) (WasIdle g.H.Way.Link.idle_count (g.H.Hall.idle_count c.args.hall.now) (g.H.Hall.idle_count c.listen_and_run.new.hall) most_idles) c.in-Ok-read_batch.tasks.items c.listen_and_run.result (c.in-Ok.ask, c.in-Ok.ensures.ok, c.in-Ok-read_batch.ensures.batch) c.listen_and_run.ensures.cause

pub returns-clause-unheard : goal.returns-clause-unheard
returns-clause-unheard g c =
    unheard_run (WasIdle g.H.Way.Link.idle_count (g.H.Hall.idle_count c.args.hall.now) (g.H.Hall.idle_count c.listen_and_run.new.hall) most_idles) (g.H.Hall.count c.args.hall.now) (g.H.Hall.count c.listen_and_run.new.hall) c.args.hall.now c.listen_and_run.new.hall c.listen_and_run.result c.listen_and_run.ensures.cause

pub returns-in-Err-clause-manned : goal.returns-in-Err-clause-manned
returns-in-Err-clause-manned g c is =
    stops_not_idle g.S.Site.tells (record {
      asked = asked_by (map string_bytes c.args.words.now);
      files = g.S.Site.files c.args.site.now;
      site_before = g.S.Site.count c.args.site.now;
      site_now = g.S.Site.count c.args.site.now;
      hall_before = g.H.Hall.count c.args.hall.now;
      hall_now = g.H.Hall.count c.args.hall.now;
    }) c.in-Err.cause (stops_words g.S.Site.tells (record {
      asked = asked_by (map string_bytes c.args.words.now);
      files = g.S.Site.files c.args.site.now;
      site_before = g.S.Site.count c.args.site.now;
      site_now = g.S.Site.count c.args.site.now;
      hall_before = g.H.Hall.count c.args.hall.now;
      hall_now = g.H.Hall.count c.args.hall.now;
    }) ⊥ c.in-Err.cause c.in-Err.ensures.refused)

pub returns-in-Err-read_batch-clause-manned : goal.returns-in-Err-read_batch-clause-manned
returns-in-Err-read_batch-clause-manned g c is =
    stops_not_idle g.S.Site.tells (record {
      asked = asked_by (map string_bytes c.args.words.now);
      files = g.S.Site.files c.args.site.now;
      site_before = g.S.Site.count c.args.site.now;
      site_now = g.S.Site.count c.read_batch.new.site;
      hall_before = g.H.Hall.count c.args.hall.now;
      hall_now = g.H.Hall.count c.args.hall.now;
    }) c.in-Err-read_batch.cause (stops_read g.S.Site.tells (record {
      asked = asked_by (map string_bytes c.args.words.now);
      files = g.S.Site.files c.args.site.now;
      site_before = g.S.Site.count c.args.site.now;
      site_now = g.S.Site.count c.read_batch.new.site;
      hall_before = g.H.Hall.count c.args.hall.now;
      hall_now = g.H.Hall.count c.args.hall.now;
    }) ⊥ c.in-Ok.ask c.in-Err-read_batch.cause c.in-Ok.ensures.ok c.in-Err-read_batch.ensures.fails)

pub returns-clause-manned : goal.returns-clause-manned
returns-clause-manned g c is =
    let batch = c.in-Ok-read_batch.ensures.batch in
    c.listen_and_run.ensures.manned one_core (subst (λ (ts : List Submission). AreFit one_core ts) (sym batch.tasks_are) (fit_lines (lines_of batch.text))) is
