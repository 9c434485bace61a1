use Rattle.std.proofs.Common.{◌≡◌, List, Result, Ok, filter, fold, map, not, ap, ◌∙◌, subst}
use Rattle.flow_types.specs.declared.lists.Memory.{Memory}
use Rattle.foreman_core.specs.declared.acts.ForemanActs.{ForemanActs}
use Rattle.foreman_core.specs.declared.links.Below.{Below}
use Rattle.foreman_core.specs.declared.links.Upstream.{Upstream}
use Rattle.foreman_core.specs.Answers.{Leads}
use Rattle.foreman_core.specs.Drafts.{led_of, parted}
use Rattle.foreman_core.specs.Foremen.{Foreman, is_last, off_link, others}
use Rattle.foreman_core.specs.Steps.{lost, released}
use Rattle.foreman_core.proofs.Losing.{loses_by}
use Rattle.foreman_core.proofs.foreman.ForemanCore.lose.Goals as goal

pub returns : goal.returns
returns c =
    let inside : Foreman = record { cache = c.self.inside.cache; attempts = c.self.inside.attempts.items; links = c.self.inside.links.items; next = c.self.inside.next } in
    let k = c.args.link in
    let gone : List Upstream = c.in_ok-gone.gone.items in
    let stay : List Upstream = c.in_ok-stay.stay.items in
    let rows = inside.cache.rows in
    let went : gone ≡ filter (λ u. is_last rows inside.links (others k inside.links) u.task) inside.attempts =
    c.in_ok-gone.ensures ∙ ap (λ (ls : List Below). filter (λ u. is_last rows ls (others k ls) u.task) c.deref-2.result.now) c.deref.ensures.value ∙ ap (λ (us : List Upstream). filter (λ u. is_last rows inside.links (others k inside.links) u.task) us) c.deref-2.ensures.value in
    let stays : stay ≡ map (off_link k) (filter (λ u. not (is_last rows inside.links (others k inside.links) u.task)) inside.attempts) =
    c.in_ok-stay.ensures ∙ ap (λ (ls : List Below). map (off_link k) (filter (λ u. not (is_last rows ls (others k ls) u.task)) c.deref-4.result.now)) c.deref-3.ensures.value
    ∙ ap (λ (us : List Upstream). map (off_link k) (filter (λ u. not (is_last rows inside.links (others k inside.links) u.task)) us)) c.deref-4.ensures.value in
    let left : Foreman = record { cache = inside.cache; attempts = stay; links = others k inside.links; next = inside.next } in
    let is : led_of inside.cache c.part_from.new.stay.items c.part_from.new.links.items c.in_ok-draft.draft ≡ parted left gone = c.in_ok-draft.ensures.parted ∙ ap (parted left) c.deref-5.ensures.value in
    let r : Result ForemanActs Memory = Ok c.done-acts.result in
    let new : Foreman = record { cache = c.release_all.new.cache; attempts = c.part_from.new.stay.items; links = c.part_from.new.links.items; next = c.done-acts.new.next } in
    subst (λ (f : Foreman). Leads (lost f k) f r new) c.self.view_is
    (loses_by inside k gone stay c.part_from.new.stay.items c.part_from.new.links.items c.in_ok-draft.draft c.done-acts.result c.release_all.new.cache c.done-acts.new.next went stays is c.done-acts.ensures.acts c.release_all.ensures.cap
    (c.release_all.ensures.rows ∙ ap (λ (us : List Upstream). fold released rows us) c.deref-6.ensures.value) c.done-acts.ensures.next)
