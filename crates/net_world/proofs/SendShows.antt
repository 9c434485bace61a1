-- What the machines of a world show after the master sent messages.
use Rattle.std.proofs.Common.{◌≡◌, ◌<◌, ◌+◌, ℕ, List, [], ◌∷◌, ◌++◌, ap, sym, ◌∙◌, length, map, take, get_or}
use mathlib.Core.Path.{fun_ext}
use Rattle.std.specs.Prelude.{Option, filter_map}
use Rattle.std.proofs.lemmas.List.{append_assoc, map-append, take_more}
use Rattle.std.proofs.lemmas.List.Elements.{filter_map-append}
use Rattle.flow_types.specs.declared.plan.Plan.{Plan}
use Rattle.flow_types.specs.declared.job.Task.{Task}
use Rattle.flow_types.specs.declared.messages.Message.{Message}
use Rattle.flow_types.specs.declared.messages.Message.TheVariants as messages
use Rattle.flow_types.specs.declared.numbers.FileNo.{FileNo}
use Rattle.flow_types.specs.Serial.{Contents}
use Rattle.run_history.specs.declared.options.Options.{Options}
use Rattle.world_peers.specs.declared.sent.Sent.{Sent}
use Rattle.net_world.specs.declared.play.Play.{Play}
use Rattle.world_contents.specs.Holdings.{held_in}
use Rattle.world_laws.specs.Worlds.{World, put_of, puts_and_task, sent_more}
use Rattle.world_peers.specs.Peers.{down_to}
use Rattle.net_world.specs.Plays.{IsShown}
use Rattle.net_world.proofs.PeerShows.{IsSameMaster, peers_shown}

-- one file more was put
pub puts_more : (put : FileNo → Option Message) (down : Message → Sent) (files : List FileNo) (i : ℕ) (d : FileNo) (start bag now : List Sent) → i < length files
    → bag ≡ start ++ map down (filter_map put (take i files)) → now ≡ bag ++ map down (filter_map put (get_or files i d ∷ [])) → now ≡ start ++ map down (filter_map put (take (i + 1) files))
puts_more put down files i d start bag now inside was is =
    let before : List Message = filter_map put (take i files) in
    let here : List Message = filter_map put (get_or files i d ∷ []) in
    is ∙ ap (λ sent. sent ++ map down here) was ∙ append_assoc start (map down before) (map down here)
    ∙ ap (λ sent. start ++ sent)
    (sym (map-append down before here) ∙ ap (map down) (sym (filter_map-append put (take i files) (get_or files i d ∷ [])) ∙ ap (filter_map put) (sym (take_more files i d inside))))

-- messages of the master
pub sent_shown : (P : Plan) (O : Options) (w : World) (old new : Play) (more : List Sent) → IsShown P O w old → IsSameMaster old new → new.peers.items ≡ old.peers.items
    → new.bag.items ≡ old.bag.items ++ more → IsShown P O (sent_more w more) new
sent_shown P O w old new more shown same peers sent = peers_shown P O w old new w.peers more shown same (peers ∙ shown.peers) sent

-- what the machines hold is what the world's master does
pub held_is : (P : Plan) (O : Options) (w : World) (play : Play) → IsShown P O w play → held_in play.contents.items ≡ w.contents
held_is P O w play shown = fun_ext (λ f. sym (shown.contents f))

-- Puts and a task of the master
pub task_shown : (P : Plan) (O : Options) (w : World) (old new : Play) (p : ℕ) (files : List FileNo) (t : Task) (bag : List Sent) → IsShown P O w old → IsSameMaster old new
    → new.peers.items ≡ old.peers.items → bag ≡ old.bag.items ++ map (down_to p) (filter_map (put_of (held_in old.contents.items) t.run) files)
    → new.bag.items ≡ bag ++ (down_to p (messages.Task t) ∷ []) → IsShown P O (sent_more w (puts_and_task w p files t)) new
task_shown P O w old new p files t bag shown same peers puts sent =
    let given : Contents → List Message = λ contents. filter_map (put_of contents t.run) files in
    sent_shown P O w old new (puts_and_task w p files t) shown same peers
    (sent ∙ ap (λ bag. bag ++ (down_to p (messages.Task t) ∷ [])) puts
    ∙ append_assoc old.bag.items (map (down_to p) (given (held_in old.contents.items))) (down_to p (messages.Task t) ∷ [])
    ∙ ap (λ sent. old.bag.items ++ sent) (sym (map-append (down_to p) (given (held_in old.contents.items)) (messages.Task t ∷ [])))
    ∙ ap (λ contents. old.bag.items ++ map (down_to p) (given contents ++ (messages.Task t ∷ []))) (held_is P O w old shown))
