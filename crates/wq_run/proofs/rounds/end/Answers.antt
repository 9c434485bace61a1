use Rattle.std.proofs.Common.{rules}
use Rattle.run_history.specs.Links.{records_of}
use Rattle.local_run.proofs.Alone.{log_alone}
use Rattle.local_run.proofs.Closings.{ends_goes, ends_idle}
use Rattle.local_run.specs.declared.halt.Halt.TheVariants as halts
use Rattle.wq_run.proofs.Added.{end_adds, halted_adds, none_adds}
use Rattle.wq_run.proofs.Ending.{broken_ends, has_end, memory_halt, none_end}
use Rattle.wq_run.proofs.rounds.end.Goals as goal

pub returns-then-is_over : goal.returns-then-is_over
returns-then-is_over g c =
    let d = c.args.desk.now in
    record {
      ended = record {
        goes = ends_goes g.T.Terms.trust g.F.Commands.gives g.F.Commands.may_fail g.T.Terms.sources g.S.Site.tells g.S.Site.files g.S.Site.may_leave g.S.Site.moment g.S.Site.images_since g.S.Site.count d c.now.result c.end.result c.end.new.self
            (λ told. log_alone g.S.Site.files g.S.Site.may_leave g.S.Site.moment g.S.Site.images_since d.plan d.log (records_of d.moves) d.site c.end.new.self.site (c.end.ensures.others told) (c.end.ensures.reads told)) c.end.ensures.reply;
        idle = ends_idle g.S.Site.count d c.now.result c.end.result c.end.new.self c.requires.idle c.end.ensures.reply;
        ends = has_end g.S.Site.tells g.T.Terms.kept g.S.Site.files g.S.Site.count d c.now.result c.in-Ok.check c.end.new.self c.requires.unended (c.is_over.ensures.over (search rules)) c.in-Ok.ensures.reply;
        adds = end_adds g.S.Site.count d c.now.result c.in-Ok.check c.end.new.self c.requires.unended c.in-Ok.ensures.reply;
      };
    }

pub returns-else-is_over : goal.returns-else-is_over
returns-else-is_over g c =
    let d = c.args.desk.now in
    record {
      ended = record {
        goes = ends_goes g.T.Terms.trust g.F.Commands.gives g.F.Commands.may_fail g.T.Terms.sources g.S.Site.tells g.S.Site.files g.S.Site.may_leave g.S.Site.moment g.S.Site.images_since g.S.Site.count d c.now.result c.end.result c.end.new.self
            (λ told. log_alone g.S.Site.files g.S.Site.may_leave g.S.Site.moment g.S.Site.images_since d.plan d.log (records_of d.moves) d.site c.end.new.self.site (c.end.ensures.others told) (c.end.ensures.reads told)) c.end.ensures.reply;
        idle = ends_idle g.S.Site.count d c.now.result c.end.result c.end.new.self c.requires.idle c.end.ensures.reply;
        ends = none_end g.S.Site.tells g.T.Terms.kept g.S.Site.files g.S.Site.count d c.now.result c.in-Ok.check c.end.new.self (c.is_over.ensures.goes (search rules)) c.in-Ok.ensures.reply;
        adds = none_adds d c.end.new.self (none_end g.S.Site.tells g.T.Terms.kept g.S.Site.files g.S.Site.count d c.now.result c.in-Ok.check c.end.new.self (c.is_over.ensures.goes (search rules)) c.in-Ok.ensures.reply).0;
      };
    }

pub returns-in-Err-Broken : goal.returns-in-Err-Broken
returns-in-Err-Broken g c =
    let d = c.args.desk.now in
    record {
      ended = record {
        goes = ends_goes g.T.Terms.trust g.F.Commands.gives g.F.Commands.may_fail g.T.Terms.sources g.S.Site.tells g.S.Site.files g.S.Site.may_leave g.S.Site.moment g.S.Site.images_since g.S.Site.count d c.now.result c.end.result c.end.new.self
            (λ told. log_alone g.S.Site.files g.S.Site.may_leave g.S.Site.moment g.S.Site.images_since d.plan d.log (records_of d.moves) d.site c.end.new.self.site (c.end.ensures.others told) (c.end.ensures.reads told)) c.end.ensures.reply;
        idle = ends_idle g.S.Site.count d c.now.result c.end.result c.end.new.self c.requires.idle c.end.ensures.reply;
        ends = broken_ends g.S.Site.tells g.T.Terms.kept g.S.Site.files g.S.Site.count d c.now.result c.in-Err-Broken.field-0 c.in-Err-Broken.field-0-0 c.in-Err-Broken.field-0-1 c.end.new.self c.in-Err-Broken.field-0-is c.in-Err-Broken.ensures.reply;
        adds = halted_adds g.S.Site.count d c.now.result c.in-Err-Broken.field-0 c.end.new.self halts.Site c.in-Err-Broken.ensures.reply;
      };
    }

pub returns-in-Err-Memory : goal.returns-in-Err-Memory
returns-in-Err-Memory g c =
    let d = c.args.desk.now in
    record {
      ended = record {
        goes = ends_goes g.T.Terms.trust g.F.Commands.gives g.F.Commands.may_fail g.T.Terms.sources g.S.Site.tells g.S.Site.files g.S.Site.may_leave g.S.Site.moment g.S.Site.images_since g.S.Site.count d c.now.result c.end.result c.end.new.self
            (λ told. log_alone g.S.Site.files g.S.Site.may_leave g.S.Site.moment g.S.Site.images_since d.plan d.log (records_of d.moves) d.site c.end.new.self.site (c.end.ensures.others told) (c.end.ensures.reads told)) c.end.ensures.reply;
        idle = ends_idle g.S.Site.count d c.now.result c.end.result c.end.new.self c.requires.idle c.end.ensures.reply;
        ends = memory_halt g.S.Site.tells g.T.Terms.kept (Unit {0}) g.S.Site.files c.end.new.self 0 0;
        adds = halted_adds g.S.Site.count d c.now.result c.in-Err-Memory.field-0 c.end.new.self halts.Memory c.in-Err-Memory.ensures.reply;
      };
    }
