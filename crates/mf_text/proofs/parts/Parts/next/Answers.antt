use lib.Utf8
use Rattle.std.proofs.Common.{◌≡◌, ℕ, List, ◌∷◌, ◌<◌, length, Some, sym, subst, lit<, ◌∙◌}
use Rattle.std.proofs.lemmas.Bool.{eqb-false}
use Rattle.std.proofs.lemmas.Str.Pattern.{strip_prefix_char}
use Rattle.mf_text.specs.Expansion.{after_dollar}
use Rattle.mf_text.specs.Parts.{shown}
use Rattle.mf_text.proofs.Cutting.{pieces-dollar, pieces-plain, length-behind}
use Rattle.mf_text.proofs.parts.Parts.next.Goals as goal
use Rattle.mf_text.proofs.parts.Parts.next.Goals.{in-Some, in-None}

pub returns-clause-pieces : goal.returns-clause-pieces
returns-clause-pieces c =
    elim c.match-strip_prefix.branch [
      | in-Some w ↦
          let begins : c.self.inside.rest.now ≡ 36 ∷ w.in-Some.behind.now = strip_prefix_char 36 c.self.inside.rest.now (Some w.in-Some.behind) w.in-Some.ensures.cases (lit< tt) in
          rw (w.part-is, w.self-is) (pieces-dollar c.args.self.now w.in-Some.behind.now w.dollar_part.result.1.now (shown w.dollar_part.result.0) (sym c.self.view_is ∙ begins) w.dollar_part.ensures.part w.dollar_part.ensures.rest)
      | in-None w ↦
          rw (w.part-is, w.self-is) (pieces-plain c.args.self.now w.split_plain.result.0.now w.split_plain.result.1.now (sym c.self.view_is ∙ w.split_plain.ensures.whole) w.split_plain.ensures.plain)
    ]

pub returns-clause-shorter : goal.returns-clause-shorter
unfolding lib.Utf8.encode
returns-clause-shorter c =
    elim c.match-strip_prefix.branch [
      | in-Some w ↦
          let begins : c.self.inside.rest.now ≡ 36 ∷ w.in-Some.behind.now = strip_prefix_char 36 c.self.inside.rest.now (Some w.in-Some.behind) w.in-Some.ensures.cases (lit< tt) in
          rw w.self-is (length-behind c.args.self.now w.in-Some.behind.now w.dollar_part.result.1.now (after_dollar w.in-Some.behind.now).1 (sym c.self.view_is ∙ begins) w.dollar_part.ensures.rest)
      | in-None w ↦
          let shorter : length w.split_plain.result.1.now < length c.self.inside.rest.now =
          w.split_plain.ensures.shorter (eqb-false (length c.self.inside.rest.now) 0 (sym c.is_empty.ensures ∙ c.if-is_empty.false)) w.in-None.ensures.cases in
          rw w.self-is (subst (λ (x : List ℕ). length w.split_plain.result.1.now < length x) c.self.view_is shorter)
    ]
