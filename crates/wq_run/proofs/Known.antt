-- What a peer's session knows of what was put, over what is heard.
use Rattle.std.proofs.Common.{◌≡◌, List, [], Option, None, Result, Ok, sym, subst}
use Rattle.flow_types.specs.declared.messages.Message.{Message}
use Rattle.link_session.specs.Sessions.{State}
use Rattle.peers.specs.declared.leave.Leave.{Leave}
use Rattle.peers.specs.declared.told.Told.{Told}
use Rattle.peers.specs.declared.told.Told.TheVariants as tell
use Rattle.peers.specs.Hears.{Hears, Means}
use Rattle.peers.specs.Provides.{Provides, ProvidesHeard}
use Rattle.wq_frames.specs.Streams.{Stream}

means_known : (feed next : Stream) (s after : State) (t : Told) (said : List Message) → ProvidesHeard → (let r : Result Told Leave = Ok t in Means feed s r next after) → Provides s.known said None [] → Provides after.known said None []
means_known feed next s after t said hears h is = let turns = h.2 in subst (λ (x : State). Provides x.known said None []) (sym turns.2) (hears s said h.0 is)

pub known_on : (feed next : Stream) (s after : State) (t : Told) (said : List Message) → ProvidesHeard → (let r : Result Told Leave = Ok t in Hears feed s r next after) → Provides s.known said None [] → Provides after.known said None []
known_on feed next s after tell.Nothing said hears h is = subst (λ (x : State). Provides x.known said None []) (sym h.2) is
known_on feed next s after (tell.Joined total largest cache) said hears h is = means_known feed next s after (tell.Joined total largest cache) said hears h is
known_on feed next s after (tell.Changed total largest cache) said hears h is = means_known feed next s after (tell.Changed total largest cache) said hears h is
known_on feed next s after (tell.Finish attempt outs) said hears h is = means_known feed next s after (tell.Finish attempt outs) said hears h is
known_on feed next s after (tell.Fail attempt why) said hears h is = means_known feed next s after (tell.Fail attempt why) said hears h is
known_on feed next s after (tell.Lose attempt) said hears h is = means_known feed next s after (tell.Lose attempt) said hears h is
known_on feed next s after (tell.PutAgain attempt files) said hears h is = means_known feed next s after (tell.PutAgain attempt files) said hears h is
known_on feed next s after (tell.Stale attempt) said hears h is = means_known feed next s after (tell.Stale attempt) said hears h is
