-- Events that change nothing.
use Rattle.std.proofs.Common.{◌≡◌, ℕ, Bool, true, false, cond, List, [], ◌∷◌, ◌++◌, Some, None, map, refl, ap, sym, ◌∙◌}
use Rattle.std.specs.Prelude.{find, slice_get}
use Rattle.flow_types.specs.declared.numbers.AttemptNo.{AttemptNo}
use Rattle.flow_types.specs.declared.messages.Message.{Message}
use Rattle.flow_types.specs.declared.plan.Plan.{Plan}
use Rattle.run_history.specs.declared.options.Options.{Options}
use Rattle.link_session.specs.declared.word.Word.TheVariants as words
use Rattle.link_session.specs.Sessions.{says, told}
use Rattle.world_laws.specs.declared.events.WorldEvent.{WorldEvent}
use Rattle.world_laws.specs.declared.events.WorldEvent.TheVariants as events
use Rattle.world_laws.specs.Worlds.{World, Connection, at_link, at_peer, claimed_rule, claims, delivered, happens, happens_up, happens_down, heard, session_set, to_master, with_connections}
use Rattle.world_peers.specs.Peers.{up_from}
use Rattle.world_laws.specs.Examples.{after, claim, made}

-- one event more
pub after_more : (P : Plan) (O : Options) (w : World) (es : List WorldEvent) (e : WorldEvent) → after P O w (es ++ (e ∷ [])) ≡ happens P O (after P O w es) e made
after_more P O w [] e = refl
after_more P O w (d ∷ es) e = after_more P O (happens P O w d made) es e

-- an event while the master runs
while_up : (P : Plan) (O : Options) (w : World) (e : WorldEvent) → w.up ≡ true → happens P O w e made ≡ happens_up P O w e made
while_up P O w e on = ap (λ up. cond up (happens_up P O w e made) (happens_down P O w e made)) on

-- a claim that takes no rule
pub nothing_claimed : (P : Plan) (O : Options) (w : World) (k : ℕ) → w.up ≡ true → claimed_rule P O w k ≡ None → happens P O w (claim k) made ≡ w
nothing_claimed P O w k on none = while_up P O w (claim k) on ∙ ap (claims P w k) none

same_either : {A : Type 0} (b : Bool) (x : A) → cond b x x ≡ x
same_either true x = refl
same_either false x = refl

-- a link with the session that it has
session_kept : (c : Connection) → map (session_set c.link c.session) (c ∷ []) ≡ c ∷ []
session_kept c = ap (λ session. let same : Connection = record c { session = session } in same ∷ []) (same_either (at_link c.link c) c.session)

-- A message over the only link, about an attempt that isn't open.
pub stale_heard : (P : Plan) (O : Options) (w : World) (n p : ℕ) (m : Message) (c : Connection) (a : AttemptNo) → w.up ≡ true → slice_get w.bag n ≡ Some (up_from p m)
    → w.connections ≡ c ∷ [] → at_peer p c ≡ true → told c.session m ≡ says c.session (words.Stale a) → happens P O w (events.Deliver n) made ≡ w
stale_heard P O w n p m c a on got only from said =
    let found : find (at_peer p) w.connections ≡ Some c = ap (find (at_peer p)) only ∙ ap (λ b. cond b (Some c) None) from in
    let same : map (session_set c.link c.session) w.connections ≡ w.connections = ap (map (session_set c.link c.session)) only ∙ session_kept c ∙ sym only in
    while_up P O w (events.Deliver n) on ∙ ap (delivered P w) got ∙ ap (to_master P w m) found ∙ ap (heard P w c m) said ∙ ap (with_connections w) same
