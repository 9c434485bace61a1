-- What passed stays over the calls of a link.
use Rattle.std.proofs.Common.{◌≡◌, ◌∙◌, ℕ, List, [], ◌∷◌, ◌++◌, Result, Ok, Err, append_assoc, sym, ap, subst}
use Rattle.std.proofs.lemmas.List.{append-nil}
use Rattle.outside.specs.declared.fault.Fault.{Fault}
use Rattle.links.specs.declared.passing.Got.{Got}
use Rattle.links.specs.declared.passing.Got.TheVariants as got
use Rattle.links.specs.declared.passing.Passed.{Passed}
use Rattle.links.specs.declared.passing.Passed.TheVariants.{Received, Sent}
use Rattle.links.specs.Passings.{Receives, received_in, sent_in}
use Rattle.peers.specs.States.{PeerState, PassesOn}

-- what was sent stays where more passed
sent_more : (more old : List Passed) → (out : List ℕ) × (sent_in (more ++ old) ≡ sent_in old ++ out)
sent_more [] old = ([], sym (append-nil (sent_in old)))
sent_more (Sent bytes ∷ more) old = let on = sent_more more old in (on.0 ++ bytes, ap (λ (b : List ℕ). b ++ bytes) on.1 ∙ append_assoc (sent_in old) on.0 bytes)
sent_more (Received bytes ∷ more) old = sent_more more old

sent_on : (old new : List Passed) → (more : List Passed) × (new ≡ more ++ old) → (out : List ℕ) × (sent_in new ≡ sent_in old ++ out)
sent_on old new further = let on = sent_more further.0 old in (on.0, ap sent_in further.1 ∙ on.1)

-- nothing was received
pub none_came : (old new : List Passed) → received_in new ≡ received_in old → (more : List Passed) × (new ≡ more ++ old) → PassesOn old new
none_came old new same further = ([], same ∙ sym (append-nil (received_in old)), sent_on old new further)

-- what a call that receives makes
pub came_on : (r : Result Got Fault) (old new : List Passed) → Receives r old new → PassesOn old new
came_on (Ok (got.Piece bytes)) old new is = (bytes, ap received_in is, sent_on old new (Received bytes ∷ [], is))
came_on (Ok got.Idle) old new is = none_came old new (ap received_in is) ([], is)
came_on (Ok got.Closed) old new is = none_came old new (ap received_in is) ([], is)
came_on (Err fault) old new is = none_came old new (ap received_in is) ([], is)

-- the same where the peer is seen whole
pub kept_by : {L : Type 0} (history : L → List Passed) (p q : PeerState L) (new : List Passed) → p ≡ q → PassesOn (history p.way) new → PassesOn (history q.way) new
kept_by {L} history p q new same on = subst (λ (x : PeerState L). PassesOn (history x.way) new) same on
