use Rattle.std.proofs.Common.{◌≡◌, ◌++◌, ◌∷◌, [], ◌+◌, ◌<◌, length, get_or, refl, cond, not, ap, subst, sym, ◌∙◌}
use Rattle.std.proofs.lemmas.Option.{slice_get_read}
use Rattle.file_states.proofs.Filling.{IsFilled, fill-step}
use Rattle.file_states.proofs.files.FileStates.new.Goals as goal

pub loop-row-preserved : goal.loop-row-preserved
loop-row-preserved c =
    let grown : c.push.new.self.items ≡ c.loop-row.states.items ++ (c.first-state.result.0 ∷ []) =
    c.push.ensures.items ∙ ap (λ b. cond b (c.loop-row.states.items ++ (c.first-state.result.0 ∷ [])) c.loop-row.states.items) (c.is_err.ensures.negation ∙ ap not c.if-is_err.false) in
    let inside : c.loop-row.row-index < length c.args.plan.now.files = subst (λ xs. c.loop-row.row-index < length xs) c.as_slice-row-items.ensures c.loop-row-test.true in
    let here : c.row-item.result ≡ get_or c.args.plan.now.files c.loop-row.row-index c.row-item.result =
    subst (λ xs. c.row-item.result ≡ get_or xs c.loop-row.row-index c.row-item.result) c.as_slice-row-items.ensures c.row-item.is in
    subst (λ states. IsFilled c.args.plan.now c.args.sources.now (c.loop-row.row-index + 1) states c.first-state.result.1.now) (sym grown)
    (fill-step c.args.plan.now c.args.sources.now c.loop-row.row-index c.loop-row.states.items c.loop-row.rows.now c.first-state.result.1.now c.row-item.result c.first-state.result.0
    inside (slice_get_read c.args.plan.now.files (length c.args.plan.now.files) c.loop-row.row-index c.row-item.result refl inside here) c.first-state.ensures.made c.first-state.ensures.source c.loop-row.invariant)
