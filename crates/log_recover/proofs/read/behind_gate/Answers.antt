use Rattle.std.proofs.Common.{rules, Option, refl, ap, subst, ◌≡◌, ℕ, drop, ◌+◌, length, ◌<◌, arith, length-drop}
use Rattle.outside.specs.Files.{content}
use Rattle.log_recover.specs.Steps.{IsEntry, IsBody}
use Rattle.flow_types.specs.declared.records.Record.{Record}
use Rattle.log_recover.proofs.Heads.{broken_long, broken_past, broken_body, entry_of}
use Rattle.log_recover.proofs.read.behind_gate.Goals as goal
use Rattle.log_recover.proofs.read.behind_gate.Goals.{then-len-gt-MOST_SPELLED-via-then-len-gt-MOST_SPELLED, then-len-gt-MOST_SPELLED-via-else-len-gt-MOST_SPELLED+then-size-at}

pub returns-then-len-gt-MOST_SPELLED-clause-step : goal.returns-then-len-gt-MOST_SPELLED-clause-step
returns-then-len-gt-MOST_SPELLED-clause-step g c told =
    let bytes = content (g.S.Site.files c.args.site.now c.args.name.now) in
    let fit : c.args.len < 4294967296 = search rules in
    elim c.then-len-gt-MOST_SPELLED.branch [
      | then-len-gt-MOST_SPELLED-via-then-len-gt-MOST_SPELLED w ↦
          broken_long (drop c.args.at bytes) (drop (c.args.at + 5) bytes) c.args.len fit (c.requires.length told) w.if-len-gt-MOST_SPELLED.true
      | then-len-gt-MOST_SPELLED-via-else-len-gt-MOST_SPELLED+then-size-at w ↦
          broken_past (drop c.args.at bytes) (drop (c.args.at + 5) bytes) c.args.len fit (c.requires.length told)
          (omega (arith, w.if-size-at.true, c.requires.size told, c.requires.within, ap length (c.requires.length told), length-drop c.args.at bytes, length-drop (c.args.at + 5) bytes))
    ]

pub returns-in-Some-clause-step : goal.returns-in-Some-clause-step
returns-in-Some-clause-step g c told =
    let bytes = content (g.S.Site.files c.args.site.now c.args.name.now) in
    let fit : c.args.len < 4294967296 = search rules in
    let far : c.args.at + 5 + c.args.len ≡ c.args.at + (5 + c.args.len) = omega arith in
    subst (λ (n : ℕ). IsEntry c.in-Some.record (drop c.args.at bytes) (drop n bytes)) far
    (entry_of (drop c.args.at bytes) (drop (c.args.at + 5) bytes) c.args.len fit (c.requires.length told) bytes (c.args.at + 5) c.in-Some.record refl
    (subst (λ (o : Option Record). IsBody bytes (c.args.at + 5) c.args.len o) c.in-Some.is (c.in_ok-record.ensures.body told)))

pub returns-in-None-clause-step : goal.returns-in-None-clause-step
returns-in-None-clause-step g c told =
    let bytes = content (g.S.Site.files c.args.site.now c.args.name.now) in
    let fit : c.args.len < 4294967296 = search rules in
    broken_body (drop c.args.at bytes) (drop (c.args.at + 5) bytes) c.args.len fit (c.requires.length told) bytes (c.args.at + 5) refl
    (subst (λ (o : Option Record). IsBody bytes (c.args.at + 5) c.args.len o) c.in-None.is (c.in_ok-record.ensures.body told))
