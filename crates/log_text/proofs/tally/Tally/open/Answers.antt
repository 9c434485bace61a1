use Rattle.std.proofs.Common.{◌≡◌, rules, length, ◌∙◌, refl, arith}
use Rattle.run_history.specs.Storage.{is_failed_state, is_running_state}
use Rattle.log_text.proofs.Opening.{opened-complete, opened-none, opened-waiting}
use Rattle.log_text.proofs.tally.Tally.open.Goals as goal

pub returns-clause-counted : goal.returns-clause-counted
returns-clause-counted c =
    let is = c.requires.counted in
    let as_long : c.len.result ≡ length c.args.self.now.rows.items = search rules in
    record {
      rows = refl;
      few = is.few;
      runs = let le = is.runs in omega (arith, le);
      earlier = λ r. let le = is.earlier r in omega (arith, le);
      failures = λ r. let le = is.failures r in omega (arith, le);
      waiting = opened-waiting c.args.self.now.runs c.args.self.now.retries c.args.retries c.len.result c.args.self.now.counts.complete c.args.self.now.rows.items
          is.earlier as_long is.complete;
      running = opened-none is_running_state c.args.self.now.runs c.args.retries c.args.self.now.rows.items refl refl is.earlier;
      complete = is.complete ∙ opened-complete c.args.self.now.runs c.args.self.now.retries c.args.retries c.args.self.now.rows.items is.earlier;
      failed = opened-none is_failed_state c.args.self.now.runs c.args.retries c.args.self.now.rows.items refl refl is.earlier;
    }
