use Rattle.std.proofs.Common.{◌≡◌, ◌<◌, ◌≤◌, ◌+◌, ◌-◌, ℕ, List, [], ◌∷◌, ◌++◌, Bool, true, false, ap, sym, ◌∙◌, arith, subst, length, map, refl}
use Rattle.std.specs.Prelude.{Some, None, ◌||◌, slice_index_or}
use Rattle.std.specs.Ordering.{nat_cmp}
use Rattle.std.specs.BTreeSet.{contains}
use Rattle.std.proofs.lemmas.List.{map-append}
use Rattle.flow_types.specs.declared.plan.Plan.{Plan}
use Rattle.flow_types.specs.declared.numbers.RuleNo.{RuleNo}
use Rattle.flow_types.specs.Plans.{contains_number, makes}
use Rattle.flow_types.specs.Serial.{next_rule, order_from, serial_order}
use Rattle.rule_graph.specs.Progress.{IsIndex, IsUnderWay, IsMarked}
use Rattle.rule_graph.proofs.Indexing.{makes_of}
use Rattle.rule_graph.proofs.Ranges.{order_next, order_stop, order_end}
use Rattle.rule_graph.proofs.Rounds.{next_is, next_none, popped_under_way, marked_more, ready_inside, none_ready}
use Rattle.rule_graph.proofs.order.order_of.Goals as goal
use Rattle.rule_graph.proofs.order.order_of.Goals.{else-rounds-test, then-rounds-test+in-None}

-- the number of a rule
number : RuleNo → ℕ
number rule = rule.0

pub rounds-preserved : goal.rounds-preserved
unfolding number
rounds-preserved c =
    let P : Plan = c.args.plan.now in
    let r : ℕ = c.in-Some.rule in
    let taken : List ℕ = map number c.rounds.taken.items in
    let round_inside : c.rounds._round < length P.rules = omega (arith, c.rounds-test.true, c.len-round-end.ensures) in
    let way = c.rounds.invariant.under_way in
    let next : next_rule P taken ≡ Some r =
    next_is P taken c.rounds.progress r c.requires way c.rounds.invariant.marked c.in-Some.ensures.member c.in-Some.ensures.least in
    let inside : r < length P.rules = ready_inside P taken c.rounds.progress r way c.in-Some.ensures.member in
    let more : map number c.push.new.self.items ≡ taken ++ r ∷ [] =
    ap (map number) c.in_ok-push-in-Some.ensures.items ∙ map-append number c.rounds.taken.items (record { 0 = r } ∷ []) in
    let popped : IsUnderWay P (taken ++ r ∷ []) [] _ =
    popped_under_way P taken r c.rounds.progress _ way c.in-Some.ensures.member c.in-Some.ensures.updates.0 refl refl in
    let is_index : IsIndex P c.deref.result.now = subst (λ index. IsIndex P index) (sym c.deref.ensures.value) c.in_ok-index.ensures in
    let outputs = makes_of P r c.index-as_slice-rule.result c.as_slice.result.now inside c.as_slice.ensures c.index-as_slice-rule.is in
    record {
      under_way = subst (λ taken. IsUnderWay P taken [] c.finish.new.progress) (sym more) (c.in_ok-finish-in-Some.ensures.under_way P (taken ++ r ∷ []) is_index popped);
      marked = subst (λ taken. IsMarked P taken c.finish.new.progress.made.items) (sym more)
          (marked_more P taken r c.rounds.progress.made.items c.finish.new.progress.made.items c.rounds.invariant.marked
          (λ f f_inside. c.in_ok-finish-in-Some.ensures.made f (omega (arith, f_inside, way.files)) ∙ ap (λ files. slice_index_or c.rounds.progress.made.items f false || contains_number f files) (sym outputs)));
      order = ap (order_from P (length P.rules - (c.rounds._round + 1))) more
          ∙ order_next P (length P.rules) c.rounds._round taken r round_inside next ∙ c.rounds.invariant.order;
    }

pub returns : goal.returns
unfolding number
returns c =
    let P : Plan = c.args.plan.now in
    let taken : List ℕ = map number c.rounds.taken.items in
    (elim c.rounds-test.branch [
      | else-rounds-test w ↦ sym (order_end P (length P.rules) c.rounds._round taken (omega (arith, w.rounds-test.false, c.len-round-end.ensures)))
      | then-rounds-test+in-None w ↦
          sym (order_stop P (length P.rules) c.rounds._round taken (omega (arith, w.rounds-test.true, c.len-round-end.ensures))
          (next_none P taken c.rounds.progress c.requires c.rounds.invariant.under_way c.rounds.invariant.marked (λ q. none_ready c.rounds.progress.ready q w.in-None.ensures.variant.1)))
    ])
    ∙ c.rounds.invariant.order
