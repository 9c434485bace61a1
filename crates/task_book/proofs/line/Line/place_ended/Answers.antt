use Rattle.std.proofs.Common.{rules, ◌≡◌, ◌∙◌, ◌<◌, ◌≤◌, ◌+◌, ap, arith, length, sym}
use Rattle.task_book.specs.Kept.{place_ended}
use Rattle.task_book.proofs.Rising.{Ends, behind_within, ended_place, line_marked, none_all, none_ended, over_of}
use Rattle.task_book.proofs.line.Line.place_ended.Goals as goal

pub invariant_of-self-else-self-to : goal.invariant_of-self-else-self-to
invariant_of-self-else-self-to c =
    let i = c.self.inside in
    let items = i.tasks.items in
    let to = c.behind-to.result in
    let e = c.ended_between-self-inside.result in
    let found = c.ended_between-self-inside.ensures in
    let next : i.ended_last < length items → to ≡ i.ended_last + 1 = search rules in
    let all : length items ≤ i.ended_last → to ≡ length items = search rules in
    let past : to ≤ e = search rules in
    line_marked items i.waits_from i.ended_from i.ended_last e 0 c.self.invariant found.none found.within
    (over_of Ends 1 items (none_ended items i.ended_last to e next all c.self.invariant.behind found.none past))

pub returns-then-self-to-clause-place : goal.returns-then-self-to-clause-place
returns-then-self-to-clause-place c =
    let i = c.self.inside in
    let items = i.tasks.items in
    let to = c.behind-to.result in
    let e = c.ended_between-self-inside.result in
    let found = c.ended_between-self-inside.ensures in
    let next : i.ended_last < length items → to ≡ i.ended_last + 1 = search rules in
    let all : length items ≤ i.ended_last → to ≡ length items = search rules in
    let less : e < to = search rules in
    let within = behind_within i.ended_last to (length items) next all in
    sym (ended_place Ends e items found.none (found.ended less) (omega (arith, less, within))) ∙ ap place_ended c.self.view_is

pub returns-else-self-to-clause-place : goal.returns-else-self-to-clause-place
returns-else-self-to-clause-place c =
    let i = c.self.inside in
    let items = i.tasks.items in
    let to = c.behind-to.result in
    let e = c.ended_between-self-inside.result in
    let found = c.ended_between-self-inside.ensures in
    let next : i.ended_last < length items → to ≡ i.ended_last + 1 = search rules in
    let all : length items ≤ i.ended_last → to ≡ length items = search rules in
    let past : to ≤ e = search rules in
    sym (none_all Ends items (none_ended items i.ended_last to e next all c.self.invariant.behind found.none past)) ∙ ap place_ended c.self.view_is
