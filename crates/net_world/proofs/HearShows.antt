-- What the machines of a world show after a message came to its receiver.
use Rattle.std.proofs.Common.{◌≡◌, inl, inr, ℕ, zero, suc, Bool, true, false, cond, List, [], ◌∷◌, ◌++◌, Option, Some, None, refl, ap, sym, ◌∙◌, subst, length, map, get_or}
use Rattle.std.specs.Prelude.{Result, Ok, Err, find, is_some, is_none, nat_lt, position, remove, slice_get, slice_set, sum_by}
use Rattle.std.specs.Option.{option_map}
use Rattle.std.proofs.lemmas.Bool.{and_parts, eqb-true, leb-true, ltb-true}
use Rattle.std.proofs.lemmas.List.{length-map}
use Rattle.std.proofs.lemmas.List.Quantifiers.{position-Some}
use Rattle.std.proofs.lemmas.Option.{get_or_from_slice_get}
use Rattle.flow_types.specs.declared.plan.Plan.{Plan}
use Rattle.flow_types.specs.declared.plan.Port.{Port}
use Rattle.flow_types.specs.declared.plan.Rule.{Rule}
use Rattle.flow_types.specs.declared.job.Failure.{Failure}
use Rattle.flow_types.specs.declared.job.Failure.TheVariants as failures
use Rattle.flow_types.specs.declared.job.Outcome.{Outcome}
use Rattle.flow_types.specs.declared.job.Outcome.TheVariants as outcomes
use Rattle.flow_types.specs.declared.job.Report.{Report}
use Rattle.flow_types.specs.declared.job.Task.{Task}
use Rattle.flow_types.specs.declared.job.Want.{Want}
use Rattle.flow_types.specs.declared.messages.Message.{Message}
use Rattle.flow_types.specs.declared.messages.Message.TheVariants as messages
use Rattle.flow_types.specs.declared.numbers.Amounts.{Amounts}
use Rattle.flow_types.specs.declared.numbers.AttemptNo.{AttemptNo}
use Rattle.flow_types.specs.declared.numbers.FileNo.{FileNo}
use Rattle.flow_types.specs.declared.numbers.LinkNo.{LinkNo}
use Rattle.flow_types.specs.declared.records.Record.{Record}
use Rattle.flow_types.specs.Plans.{bound_of, is_empty, most_bytes, numbers}
use Rattle.flow_types.specs.Serial.{Contents, job_of}
use Rattle.links.specs.Honesty.{HasRun}
use Rattle.outside.specs.Jobs.{AllFit, IsShaped, NamesOutput}
use Rattle.run_history.specs.declared.links.JoinRefused.{JoinRefused}
use Rattle.run_history.specs.declared.moves.Move.{Move}
use Rattle.run_history.specs.declared.moves.Move.TheVariants as moves
use Rattle.run_history.specs.declared.options.Options.{Options}
use Rattle.run_history.specs.Links.{is_live, records_of}
use Rattle.run_history.specs.declared.links.JoinRefused.TheVariants as refused
use Rattle.run_history.specs.History.{part}
use Rattle.run_history.specs.Legal.{runs}
use Rattle.run_history.specs.Moves.{change_refusal, has_join_room, live_links, next_link}
use Rattle.run_history.proofs.Grows.{records-same}
use Rattle.task_core.specs.Links.{Changes}
use Rattle.task_core.specs.Stands.{IsSameRun, Stands as StandsBehind}
use Rattle.task_core.specs.States.{link_at}
use Rattle.link_session.specs.declared.open.Open.{Open}
use Rattle.link_session.specs.declared.word.SessionFault.{SessionFault}
use Rattle.link_session.specs.declared.word.Word.{Word}
use Rattle.link_session.specs.Fits.{are_within, has_all, names_output, outcome_fits}
use Rattle.link_session.specs.Sessions.{State, Told, breaks, closed_at as shut_at, ended_at, ended_by, greets, hears, is_of, lacked_at, lacked_by, lost, missed, most_misses, place, put_again, says, told, word_of}
use Rattle.wq_messages.specs.declared.fault.MessageFault.{MessageFault}
use Rattle.wq_messages.specs.Reading.{message_of}
use Rattle.world_peers.specs.declared.sent.Party.{Party}
use Rattle.world_peers.specs.declared.sent.Sent.{Sent}
use Rattle.net_world.specs.declared.play.Play.{Play}
use Rattle.net_world.specs.Hearings.{IsFitEnd, word_in}
use Rattle.world_laws.specs.Members.{Every, Stands}
use Rattle.world_peers.specs.declared.member.Member.{Member}
use Rattle.world_laws.specs.Worlds.{Connection, World, to_member, answer_logged, answered, at_peer, comes, coming_logged, delivered, delivery_logged, changes, closed_as, closed_at, end_in, end_logged, follows, link_no, message_logged, moved, puts_again, puts_and_task, records_in, rule_at, sent_more, session_set, task_at, the_rule, to_master, to_peer, with_session}
use Rattle.net_world.specs.Plays.{IsFit, IsOurs, IsShown, IsTable}
use Rattle.world_laws.proofs.Deliveries.{told_by_stage}
use Rattle.net_world.proofs.Lines.{changed_links, goes_nowhere, keeps_silent, numbers_of}
use Rattle.world_laws.proofs.Members.{found_stands, get_stands, stands_filter}
use Rattle.world_peers.proofs.Places.{none_found, place_found}
use Rattle.net_world.proofs.SessionShows.{IsBesideLines, session_shown}
use Rattle.net_world.proofs.Shows.{IsBeside, moves_shown}

-- ---- to a peer

-- a peer without a link hears nothing
pub no_link_hears : (P : Plan) (O : Options) (w : World) (play : Play) (p : ℕ) (m : Message) (link : Option LinkNo) → is_none link ≡ true
    → option_map (λ l. l.0) link ≡ option_map (λ c. c.link) (find (at_peer p) w.connections) → IsShown P O w play
    → IsShown P O (to_peer w p m (find (at_peer p) w.connections) (slice_get w.peers p)) play
no_link_hears P O w play p m link none same shown = by (find (at_peer p) w.connections) link none same
  where
    by : (found : Option Connection) (link : Option LinkNo) → is_none link ≡ true → option_map (λ l. l.0) link ≡ option_map (λ c. c.link) found → IsShown P O (to_peer w p m found (slice_get w.peers p)) play
    by None link none same = shown
    by (Some c) None none same = absurd (let h : ⊥ = cc in h)
    by (Some c) (Some l) none same = absurd (let h : ⊥ = cc in h)

-- nor does one that isn't there
pub no_peer_hears : (P : Plan) (O : Options) (w : World) (play : Play) (p : ℕ) (m : Message) → slice_get w.peers p ≡ None → IsShown P O w play
    → IsShown P O (to_peer w p m (find (at_peer p) w.connections) (slice_get w.peers p)) play
no_peer_hears P O w play p m none shown = subst (λ found. IsShown P O (to_peer w p m (find (at_peer p) w.connections) found) play) (sym none) (by (find (at_peer p) w.connections))
  where
    by : (found : Option Connection) → IsShown P O (to_peer w p m found None) play
    by None = shown
    by (Some c) = shown

-- a peer hears a message
pub peer_heard : (P : Plan) (O : Options) (w : World) (new : Play) (p : ℕ) (m : Message) (member : Member) (link : Option LinkNo) → is_none link ≡ false
    → option_map (λ l. l.0) link ≡ option_map (λ c. c.link) (find (at_peer p) w.connections) → slice_get w.peers p ≡ Some member
    → IsShown P O (to_member w p m member) new → IsShown P O (to_peer w p m (find (at_peer p) w.connections) (slice_get w.peers p)) new
peer_heard P O w new p m member link some same at shown =
    subst (λ found. IsShown P O (to_peer w p m (find (at_peer p) w.connections) found) new) (sym at) (by (find (at_peer p) w.connections) link some same)
  where
    by : (found : Option Connection) (link : Option LinkNo) → is_none link ≡ false → option_map (λ l. l.0) link ≡ option_map (λ c. c.link) found → IsShown P O (to_peer w p m found (Some member)) new
    by (Some c) link some same = shown
    by None (Some l) some same = absurd (let h : ⊥ = cc in h)
    by None None some same = absurd (let h : ⊥ = cc in h)

-- ---- what a session answers

-- contents that suit bounds are within them
all_fit : (P : Plan) (ports : List Port) (contents : List (List ℕ)) → are_within (map (λ port. bound_of P port.file.0) ports) contents ≡ true
    → AllFit (map (λ port. let want : Want = record { remote = port.remote; bound = bound_of P port.file.0 } in want) ports) contents
all_fit P [] [] fits = tt
all_fit P [] (c ∷ cs) fits = absurd (let h : ⊥ = cc in h)
all_fit P (port ∷ ports) [] fits = absurd (let h : ⊥ = cc in h)
all_fit P (port ∷ ports) (c ∷ cs) fits =
    let both = and_parts _ _ fits in
    (leb-true (length c) (bound_of P port.file.0) both.0, all_fit P ports cs both.1)

output_named : (why : Failure) (outputs : ℕ) → names_output why outputs ≡ true → NamesOutput why outputs
output_named (failures.Status code) outputs named = tt
output_named (failures.MissingOutput index) outputs named = ltb-true index outputs named
output_named (failures.TooLong index size) outputs named = ltb-true index outputs named

-- an outcome that suits the bounds of a rule's outputs has the shape that its job asks for
shaped : (P : Plan) (rule : Rule) (contents : Contents) (outcome : Outcome) → outcome_fits (map (λ port. bound_of P port.file.0) rule.outputs) outcome ≡ true → HasRun outcome
    → IsShaped (job_of P rule contents) outcome
shaped P rule contents (outcomes.Success outs) fits ran =
    let both = and_parts _ _ fits in
    (all_fit P rule.outputs outs both.0, leb-true (sum_by (λ c. length c) outs) most_bytes both.1)
shaped P rule contents (outcomes.Failed why) fits ran =
    output_named why (length (job_of P rule contents).outputs)
    (ap (names_output why) (length-map rule.outputs (λ port. let want : Want = record { remote = port.remote; bound = bound_of P port.file.0 } in want)
    ∙ sym (length-map rule.outputs (λ port. bound_of P port.file.0))) ∙ fits)
shaped P rule contents outcomes.NotRun fits ran = absurd ran

-- an outcome that suits what is kept of its attempt is fit
fit_by : (P : Plan) (w : World) (o : Open) (attempt : AttemptNo) (outcome : Outcome) → IsOurs P (records_of w.moves) o → o.attempt.0 ≡ attempt.0 → outcome_fits o.bounds outcome ≡ true
    → IsFit P w attempt outcome
fit_by P w o attempt outcome ours same fits job is ran =
    let number : rule_at (records_of w.moves) attempt.0 ≡ Some ours.number = ap (rule_at (records_of w.moves)) (sym same) ∙ ours.started in
    let found : the_rule P (rule_at (records_of w.moves) attempt.0) ≡ Some ours.rule = ap (the_rule P) number ∙ ours.in_plan in
    let jobs : option_map (λ rule. job_of P rule w.contents) (Some ours.rule) ≡ Some job = ap (option_map (λ rule. job_of P rule w.contents)) (sym found) ∙ is in
    let one : job_of P ours.rule w.contents ≡ job = cc in
    subst (λ job. IsShaped job outcome) one
    (shaped P ours.rule w.contents outcome (ap (λ bounds. outcome_fits bounds outcome) (sym ours.bounds) ∙ fits) ran)

-- a lost attempt is fit
lost_fit : (P : Plan) (w : World) (attempt : AttemptNo) → IsFit P w attempt outcomes.NotRun
lost_fit P w attempt job is ran = absurd ran

abbrev FitAnswer : Plan → World → Message → Result Word SessionFault → Type 0
FitAnswer P w m (Err why) = Unit {0}
FitAnswer P w m (Ok word) = IsFitEnd P w (end_in m word)

said_fit : (P : Plan) (w : World) (attempt : AttemptNo) (outcome : Outcome) → IsFit P w attempt outcome → IsFitEnd P w (end_in (messages.Done attempt outcome) (word_of attempt outcome))
said_fit P w attempt (outcomes.Success contents) fit = fit
said_fit P w attempt (outcomes.Failed why) fit = fit
said_fit P w attempt outcomes.NotRun fit = fit

suits_fit : (P : Plan) (w : World) (s next : State) (attempt : AttemptNo) (outcome : Outcome) (b : Bool) → (b ≡ true → IsFit P w attempt outcome)
    → FitAnswer P w (messages.Done attempt outcome) (cond b (says next (word_of attempt outcome)) (breaks s)).answer
suits_fit P w s next attempt outcome true fit = said_fit P w attempt outcome (fit refl)
suits_fit P w s next attempt outcome false fit = tt

ended_fit : (P : Plan) (w : World) (s : State) (attempt : AttemptNo) (outcome : Outcome) (at : ℕ) (found : Option Open) → ((o : Open) → found ≡ Some o → IsOurs P (records_of w.moves) o × (o.attempt.0 ≡ attempt.0))
    → FitAnswer P w (messages.Done attempt outcome) (ended_by s attempt outcome at found).answer
ended_fit P w s attempt outcome at None ours = tt
ended_fit P w s attempt outcome at (Some o) ours =
    suits_fit P w s (shut_at s at) attempt outcome (outcome_fits o.bounds outcome) (λ fits. fit_by P w o attempt outcome (ours o refl).0 (ours o refl).1 fits)

-- what is kept at the place of an attempt is the attempt's
kept_at : (P : Plan) (H : List Record) (os : List Open) (attempt : AttemptNo) (at : ℕ) (o : Open) → Every (IsOurs P H) os → place attempt os ≡ Some at → slice_get os at ≡ Some o
    → IsOurs P H o × (o.attempt.0 ≡ attempt.0)
kept_at P H os attempt at o all is here =
    let passes = position-Some (is_of attempt) os at o is in
    let same : get_or os at o ≡ o = get_or_from_slice_get os at o o here in
    (all o (get_stands os at o here), eqb-true o.attempt.0 attempt.0 (ap (is_of attempt) (sym same) ∙ passes.1))

end_fit : (P : Plan) (w : World) (s : State) (attempt : AttemptNo) (outcome : Outcome) (found : Option ℕ) → place attempt s.attempts ≡ found → Every (IsOurs P (records_of w.moves)) s.attempts
    → FitAnswer P w (messages.Done attempt outcome) (ended_at s attempt outcome found).answer
end_fit P w s attempt outcome None is all = tt
end_fit P w s attempt outcome (Some at) is all =
    ended_fit P w s attempt outcome at (slice_get s.attempts at) (λ o here. kept_at P (records_of w.moves) s.attempts attempt at o all is here)

lacks_fit : (P : Plan) (w : World) (s : State) (m : Message) (attempt : AttemptNo) (files : List FileNo) (at : ℕ) (o : Open) (has few : Bool)
    → FitAnswer P w m (cond has (cond few (put_again s attempt files at o) (lost s attempt files at o)) (breaks s)).answer
lacks_fit P w s m attempt files at o true true = tt
lacks_fit P w s m attempt files at o true false = lost_fit P w attempt
lacks_fit P w s m attempt files at o false few = tt

lacked_fit : (P : Plan) (w : World) (s : State) (m : Message) (attempt : AttemptNo) (files : List FileNo) (at : ℕ) (found : Option Open) → FitAnswer P w m (lacked_by s attempt files at found).answer
lacked_fit P w s m attempt files at None = tt
lacked_fit P w s m attempt files at (Some o) = lacks_fit P w s m attempt files at o (has_all o.files files) (nat_lt o.misses most_misses)

lack_fit : (P : Plan) (w : World) (s : State) (m : Message) (attempt : AttemptNo) (files : List FileNo) (found : Option ℕ) → FitAnswer P w m (lacked_at s attempt files found).answer
lack_fit P w s m attempt files None = tt
lack_fit P w s m attempt files (Some at) = lacked_fit P w s m attempt files at (slice_get s.attempts at)

hears_fit : (P : Plan) (w : World) (s : State) (m : Message) → Every (IsOurs P (records_of w.moves)) s.attempts → FitAnswer P w m (hears s m).answer
hears_fit P w s (messages.Done attempt outcome) all = end_fit P w s attempt outcome (place attempt s.attempts) refl all
hears_fit P w s (messages.Missing attempt files) all = lack_fit P w s (messages.Missing attempt files) attempt files (place attempt s.attempts)
hears_fit P w s (messages.Totals total largest cache) all = tt
hears_fit P w s (messages.Put key content) all = tt
hears_fit P w s (messages.Task t) all = tt
hears_fit P w s (messages.Hello total largest cache) all = tt
hears_fit P w s (messages.Cancel attempt) all = tt
hears_fit P w s (messages.Unlink key) all = tt
hears_fit P w s messages.Bye all = tt

greets_fit : (P : Plan) (w : World) (s : State) (m : Message) → FitAnswer P w m (greets s m).answer
greets_fit P w s (messages.Hello total largest cache) = tt
greets_fit P w s (messages.Done attempt outcome) = tt
greets_fit P w s (messages.Missing attempt files) = tt
greets_fit P w s (messages.Totals total largest cache) = tt
greets_fit P w s (messages.Put key content) = tt
greets_fit P w s (messages.Task t) = tt
greets_fit P w s (messages.Cancel attempt) = tt
greets_fit P w s (messages.Unlink key) = tt
greets_fit P w s messages.Bye = tt

-- the end that an answer tells of is fit
told_fit : (P : Plan) (w : World) (s : State) (m : Message) → Every (IsOurs P (records_of w.moves)) s.attempts → FitAnswer P w m (told s m).answer
told_fit P w s m all = told_by_stage (λ did. FitAnswer P w m did.answer) s m (greets_fit P w s m) (hears_fit P w s m all) tt

word_fit : (P : Plan) (w : World) (m : Message) (answer : Result Word SessionFault) (word : Word) → Some word ≡ word_in answer → FitAnswer P w m answer → IsFitEnd P w (end_in m word)
word_fit P w m (Err why) word is fit = absurd (let h : ⊥ = cc in h)
word_fit P w m (Ok said) word is fit = let same : said ≡ word = cc in subst (λ word. IsFitEnd P w (end_in m word)) same fit

-- ---- what is open then

every_remove : (Q : Open → Type 0) (os : List Open) (n : ℕ) → Every Q os → Every Q (remove os n)
every_remove Q [] zero all x there = all x there
every_remove Q [] (suc n) all x there = all x there
every_remove Q (o ∷ os) zero all x there = all x (inr there)
every_remove Q (o ∷ os) (suc n) all x (inl same) = all x (inl same)
every_remove Q (o ∷ os) (suc n) all x (inr there) = every_remove Q os n (λ y here. all y (inr here)) x there

every_set : (Q : Open → Type 0) (os : List Open) (n : ℕ) (y : Open) → Q y → Every Q os → Every Q (slice_set os n y)
every_set Q [] n y is all x there = all x there
every_set Q (o ∷ os) zero y is all x (inl same) = subst Q (sym same) is
every_set Q (o ∷ os) zero y is all x (inr there) = all x (inr there)
every_set Q (o ∷ os) (suc n) y is all x (inl same) = all x (inl same)
every_set Q (o ∷ os) (suc n) y is all x (inr there) = every_set Q os n y is (λ z here. all z (inr here)) x there

abbrev AllOurs : Plan → List Record → Told → Type 0
AllOurs P H did = Every (IsOurs P H) did.state.attempts

suits_ours : (P : Plan) (H : List Record) (s : State) (attempt : AttemptNo) (outcome : Outcome) (at : ℕ) (b : Bool) → Every (IsOurs P H) s.attempts
    → AllOurs P H (cond b (says (shut_at s at) (word_of attempt outcome)) (breaks s))
suits_ours P H s attempt outcome at true all = every_remove (IsOurs P H) s.attempts at all
suits_ours P H s attempt outcome at false all = all

ended_ours : (P : Plan) (H : List Record) (s : State) (attempt : AttemptNo) (outcome : Outcome) (at : ℕ) (found : Option Open) → Every (IsOurs P H) s.attempts → AllOurs P H (ended_by s attempt outcome at found)
ended_ours P H s attempt outcome at None all = all
ended_ours P H s attempt outcome at (Some o) all = suits_ours P H s attempt outcome at (outcome_fits o.bounds outcome) all

end_ours : (P : Plan) (H : List Record) (s : State) (attempt : AttemptNo) (outcome : Outcome) (found : Option ℕ) → Every (IsOurs P H) s.attempts → AllOurs P H (ended_at s attempt outcome found)
end_ours P H s attempt outcome None all = all
end_ours P H s attempt outcome (Some at) all = ended_ours P H s attempt outcome at (slice_get s.attempts at) all

missed_ours : (P : Plan) (H : List Record) (o : Open) → IsOurs P H o → IsOurs P H (missed o)
missed_ours P H o is = record { number = is.number; rule = is.rule; started = is.started; in_plan = is.in_plan; bounds = is.bounds }

lacks_ours : (P : Plan) (H : List Record) (s : State) (attempt : AttemptNo) (files : List FileNo) (at : ℕ) (o : Open) (has few : Bool) → IsOurs P H o → Every (IsOurs P H) s.attempts
    → AllOurs P H (cond has (cond few (put_again s attempt files at o) (lost s attempt files at o)) (breaks s))
lacks_ours P H s attempt files at o true true is all = every_set (IsOurs P H) s.attempts at (missed o) (missed_ours P H o is) all
lacks_ours P H s attempt files at o true false is all = every_remove (IsOurs P H) s.attempts at all
lacks_ours P H s attempt files at o false few is all = all

lacked_ours : (P : Plan) (H : List Record) (s : State) (attempt : AttemptNo) (files : List FileNo) (at : ℕ) (found : Option Open) → slice_get s.attempts at ≡ found → Every (IsOurs P H) s.attempts
    → AllOurs P H (lacked_by s attempt files at found)
lacked_ours P H s attempt files at None is all = all
lacked_ours P H s attempt files at (Some o) is all =
    lacks_ours P H s attempt files at o (has_all o.files files) (nat_lt o.misses most_misses) (all o (get_stands s.attempts at o is)) all

lack_ours : (P : Plan) (H : List Record) (s : State) (attempt : AttemptNo) (files : List FileNo) (found : Option ℕ) → Every (IsOurs P H) s.attempts → AllOurs P H (lacked_at s attempt files found)
lack_ours P H s attempt files None all = all
lack_ours P H s attempt files (Some at) all = lacked_ours P H s attempt files at (slice_get s.attempts at) refl all

hears_ours : (P : Plan) (H : List Record) (s : State) (m : Message) → Every (IsOurs P H) s.attempts → AllOurs P H (hears s m)
hears_ours P H s (messages.Done attempt outcome) all = end_ours P H s attempt outcome (place attempt s.attempts) all
hears_ours P H s (messages.Missing attempt files) all = lack_ours P H s attempt files (place attempt s.attempts) all
hears_ours P H s (messages.Totals total largest cache) all = all
hears_ours P H s (messages.Put key content) all = all
hears_ours P H s (messages.Task t) all = all
hears_ours P H s (messages.Hello total largest cache) all = all
hears_ours P H s (messages.Cancel attempt) all = all
hears_ours P H s (messages.Unlink key) all = all
hears_ours P H s messages.Bye all = all

greets_ours : (P : Plan) (H : List Record) (s : State) (m : Message) → Every (IsOurs P H) s.attempts → AllOurs P H (greets s m)
greets_ours P H s (messages.Hello total largest cache) all = all
greets_ours P H s (messages.Done attempt outcome) all = all
greets_ours P H s (messages.Missing attempt files) all = all
greets_ours P H s (messages.Totals total largest cache) all = all
greets_ours P H s (messages.Put key content) all = all
greets_ours P H s (messages.Task t) all = all
greets_ours P H s (messages.Cancel attempt) all = all
greets_ours P H s (messages.Unlink key) all = all
greets_ours P H s messages.Bye all = all

-- what is open after a message was started
told_ours : (P : Plan) (H : List Record) (s : State) (m : Message) → Every (IsOurs P H) s.attempts → AllOurs P H (told s m)
told_ours P H s m all = told_by_stage (AllOurs P H) s m (greets_ours P H s m all) (hears_ours P H s m all) all

-- ---- what a word asks for

-- inputs are put once more, and the task is sent again
pub put_again_shown : (P : Plan) (O : Options) (w : World) (new : Play) (c : Connection) (p : ℕ) (files : List FileNo) (t : Task) (attempt : AttemptNo) → Some t ≡ task_at P (records_of w.moves) attempt → c.peer ≡ p
    → IsShown P O (sent_more w (puts_and_task w p files t)) new → IsShown P O (puts_again w c files (task_at P (records_in w) attempt)) new
put_again_shown P O w new c p files t attempt is peer shown =
    subst (λ task. IsShown P O (puts_again w c files task) new) is (subst (λ p. IsShown P O (sent_more w (puts_and_task w p files t)) new) (sym peer) shown)

stands_number : (c : Connection) (cs : List Connection) → Stands c cs → Stands c.link (numbers_of cs)
stands_number c [] there = absurd there
stands_number c (d ∷ ds) (inl same) = inl (ap (λ c. c.link) same)
stands_number c (d ∷ ds) (inr there) = inr (stands_number c ds there)

-- a link of the master lives
pub link_lives : (P : Plan) (O : Options) (w : World) (play : Play) (k : ℕ) → IsShown P O w play → (c : Connection) × (c.link ≡ k) × Stands c w.connections → is_live O w.moves k ≡ true
link_lives P O w play k shown there =
    let among : Stands there.0.link (live_links O w.moves) = subst (Stands there.0.link) shown.live (inr (stands_number there.0 w.connections there.2)) in
    subst (λ k. is_live O w.moves k ≡ true) there.1 (stands_filter (is_live O w.moves) (numbers (next_link w.moves)) there.0.link among).1

change_by : (M : List Move) (b : Bool) → has_join_room M ≡ b → change_refusal M ≡ cond b None (Some refused.TooManyJoins)
change_by M b is = ap (λ b. cond b None (Some refused.TooManyJoins)) is

-- a link offers something else
restated_shown : (P : Plan) (O : Options) (w : World) (old new : Play) (link : LinkNo) (total largest : Amounts) (cache : ℕ) → is_some (link_at old.table link.0) ≡ true → IsShown P O w old
    → StandsBehind new.table (w.moves ++ (moves.Changed link total largest cache ∷ [])) → IsSameRun old.table new.table → new.records.items ≡ old.records.items → IsBeside old new
    → IsShown P O (moved w (moves.Changed link total largest cache)) new
restated_shown P O w old new link total largest cache lives shown stands still entries same =
    let move : Move = moves.Changed link total largest cache in
    moves_shown P O w (moved w move) old new shown (record {
      plan = still.0 ∙ shown.table.plan;
      options = still.1 ∙ shown.table.options;
      stop = still.2 ∙ shown.table.stop;
      stands = stands;
      opened = ap (λ H. is_empty (part H)) (records-same w.moves move refl) ∙ shown.table.opened;
      records = entries ∙ shown.table.records ∙ sym (records-same w.moves move refl);
    }) same
    (record { live = changed_links O old.table w.moves link total largest cache lives shown.table.options shown.table.stands; keeps = keeps_silent w.moves move refl })
    (λ f. refl) refl refl refl refl

-- a change is made, or there is no room for one
pub changed_shown : (P : Plan) (O : Options) (w : World) (old new : Play) (c : Connection) (link : LinkNo) (total largest : Amounts) (cache : ℕ) (answer : Result (Unit {0}) JoinRefused)
    → is_some (link_at old.table link.0) ≡ true → c.link ≡ link.0 → IsShown P O w old → Changes old.table w.moves link total largest cache answer new.table → new.records.items ≡ old.records.items
    → IsBeside old new → IsShown P O (changes w c total largest cache) new
changed_shown P O w old new c link total largest cache answer lives at shown did entries same =
    subst (λ k. IsShown P O (cond (has_join_room w.moves) (moved w (moves.Changed (link_no k) total largest cache)) w) new) (sym at) (by answer (has_join_room w.moves) refl did)
  where
    by : (answer : Result (Unit {0}) JoinRefused) (room : Bool) → has_join_room w.moves ≡ room → Changes old.table w.moves link total largest cache answer new.table
        → IsShown P O (cond room (moved w (moves.Changed link total largest cache)) w) new
    by (Ok done) true is did = restated_shown P O w old new link total largest cache lives shown did.1 did.2 entries same
    by (Ok done) false is did = absurd (let none : Some refused.TooManyJoins ≡ None = sym (change_by w.moves false is) ∙ did.0 in let h : ⊥ = cc in h)
    by (Err why) true is did = absurd (let none : None ≡ Some why = sym (change_by w.moves true is) ∙ did.0 in let h : ⊥ = cc in h)
    by (Err why) false is did =
        moves_shown P O w w old new shown (subst (IsTable P O w.moves new.table) (sym entries) (subst (λ t. IsTable P O w.moves t old.records.items) (sym did.1) shown.table))
        same (goes_nowhere O w.moves) (λ f. refl) refl refl refl refl

-- ---- to the master

-- the message that was read is the one that was spelled
pub same_message : (body : List ℕ) (seen m : Message) → Ok seen ≡ message_of body → message_of body ≡ Ok m → seen ≡ m
same_message body seen m read spelled = let same : (let result : Result Message MessageFault = Ok seen in result ≡ Ok m) = read ∙ spelled in cc

answer_is : (answer : Result Word SessionFault) (word : Word) → Some word ≡ word_in answer → answer ≡ Ok word
answer_is (Err why) word is = absurd (let h : ⊥ = cc in h)
answer_is (Ok said) word is = let same : said ≡ word = cc in ap Ok same

closed_links : (P : Plan) (w : World) (r : ℕ) (attempt : AttemptNo) (outcome : Outcome) (b : Bool) → (cond b (closed_as P w r attempt outcome) w).connections ≡ w.connections
closed_links P w r attempt (outcomes.Success outs) true = refl
closed_links P w r attempt (outcomes.Failed why) true = refl
closed_links P w r attempt outcomes.NotRun true = refl
closed_links P w r attempt outcome false = refl

found_links : (P : Plan) (w : World) (attempt : AttemptNo) (outcome : Outcome) (found : Option ℕ) → (closed_at P w attempt outcome found).connections ≡ w.connections
found_links P w attempt outcome None = refl
found_links P w attempt outcome (Some r) = closed_links P w r attempt outcome (runs P (records_in w) r attempt.0)

-- the end of an attempt leaves the links
end_links : (P : Plan) (w : World) (found : Option Report) → (end_logged P w found).connections ≡ w.connections
end_links P w None = refl
end_links P w (Some report) = found_links P w report.attempt report.outcome (rule_at (records_in w) report.attempt.0)

stands_map : (f : Connection → Connection) (c : Connection) (cs : List Connection) → Stands c cs → Stands (f c) (map f cs)
stands_map f c [] there = absurd there
stands_map f c (d ∷ ds) (inl same) = inl (ap f same)
stands_map f c (d ∷ ds) (inr there) = inr (stands_map f c ds there)

-- the link of a peer, by its place
link_found : (P : Plan) (O : Options) (w : World) (play : Play) (p n : ℕ) (line : Connection) → Some n ≡ position (at_peer p) play.lines.items → slice_get play.lines.items n ≡ Some line → IsShown P O w play
    → (find (at_peer p) w.connections ≡ Some line) × (line.peer ≡ p)
link_found P O w play p n line place at shown =
    let found : find (at_peer p) w.connections ≡ Some line =
    sym (place_found (at_peer p) w.connections n (ap (position (at_peer p)) (sym shown.lines) ∙ sym place)) ∙ ap (λ cs. slice_get cs n) (sym shown.lines) ∙ at in
    (found, eqb-true line.peer p (found_stands (at_peer p) w.connections line found).1)

-- a peer without a link isn't heard
pub none_heard : (P : Plan) (O : Options) (w : World) (play : Play) (p : ℕ) (m : Message) → (let none : Option ℕ = None in none ≡ position (at_peer p) play.lines.items) → IsShown P O w play
    → IsShown P O (to_master P w m (find (at_peer p) w.connections)) play
none_heard P O w play p m none shown =
    subst (λ found. IsShown P O (to_master P w m found) play) (sym (none_found (at_peer p) w.connections (ap (position (at_peer p)) (sym shown.lines) ∙ sym none))) shown

-- the session of a link heard a message
heard_by : (P : Plan) (O : Options) (w : World) (old mid : Play) (n : ℕ) (m : Message) (line : Connection) → slice_get old.lines.items n ≡ Some line → IsShown P O w old
    → mid.lines.items ≡ slice_set old.lines.items n (let set : Connection = record line { session = (told line.session m).state } in set) → IsBesideLines old mid
    → IsShown P O (with_session w line.link (told line.session m).state) mid
heard_by P O w old mid n m line at shown set same =
    let here : slice_get w.connections n ≡ Some line = ap (λ cs. slice_get cs n) (sym shown.lines) ∙ at in
    session_shown P O w old mid n line (told line.session m).state shown here
    (told_ours P (records_of w.moves) line.session m (shown.ours line (get_stands w.connections n line here))) set same

-- a message that is unexpected changes the session alone
pub unexpected_shown : (P : Plan) (O : Options) (w : World) (old new : Play) (p n : ℕ) (m : Message) (line : Connection) → Some n ≡ position (at_peer p) old.lines.items
    → slice_get old.lines.items n ≡ Some line → (let none : Option Word = None in none ≡ word_in (told line.session m).answer) → IsShown P O w old
    → new.lines.items ≡ slice_set old.lines.items n (let set : Connection = record line { session = (told line.session m).state } in set) → IsBesideLines old new
    → IsShown P O (to_master P w m (find (at_peer p) w.connections)) new
unexpected_shown P O w old new p n m line place at none shown set same =
    let v : World = with_session w line.link (told line.session m).state in
    subst (λ found. IsShown P O (to_master P w m found) new) (sym (link_found P O w old p n line place at shown).0)
    (by v (told line.session m).answer none (heard_by P O w old new n m line at shown set same))
  where
    by : (v : World) (answer : Result Word SessionFault) → (let none : Option Word = None in none ≡ word_in answer) → IsShown P O v new → IsShown P O (answered P v line m answer) new
    by v (Err why) none was = was
    by v (Ok word) none was = absurd (let h : ⊥ = cc in h)

-- a message that means something
pub master_heard : (P : Plan) (O : Options) (w : World) (old mid ended new : Play) (p n : ℕ) (m : Message) (line : Connection) (word : Word) → Some n ≡ position (at_peer p) old.lines.items
    → slice_get old.lines.items n ≡ Some line → Some word ≡ word_in (told line.session m).answer → IsShown P O w old
    → mid.lines.items ≡ slice_set old.lines.items n (let set : Connection = record line { session = (told line.session m).state } in set) → IsBesideLines old mid
    → ((v : World) → IsShown P O v mid → IsFitEnd P v (end_in m word) → IsShown P O (end_logged P v (end_in m word)) ended)
    → ((v : World) → IsShown P O v ended → line.peer ≡ p → (d : Connection) × (d.link ≡ line.link) × Stands d v.connections → IsShown P O (follows P v line word) new)
    → IsShown P O (to_master P w m (find (at_peer p) w.connections)) new
master_heard P O w old mid ended new p n m line word place at is shown set same ends follow =
    let found = link_found P O w old p n line place at shown in
    let s : State = (told line.session m).state in
    let v : World = with_session w line.link s in
    let here : slice_get w.connections n ≡ Some line = ap (λ cs. slice_get cs n) (sym shown.lines) ∙ at in
    let there : Stands line w.connections = get_stands w.connections n line here in
    let fit : IsFitEnd P v (end_in m word) = word_fit P v m (told line.session m).answer word is (told_fit P v line.session m (shown.ours line there)) in
    let closed : IsShown P O (end_logged P v (end_in m word)) ended = ends v (heard_by P O w old mid n m line at shown set same) fit in
    let linked : Stands (session_set line.link s line) (end_logged P v (end_in m word)).connections =
    subst (Stands (session_set line.link s line)) (sym (end_links P v (end_in m word))) (stands_map (session_set line.link s) line w.connections there) in
    subst (λ found. IsShown P O (to_master P w m found) new) (sym found.0)
    (subst (λ answer. IsShown P O (answered P v line m answer) new) (sym (answer_is (told line.session m).answer word is))
    (follow (end_logged P v (end_in m word)) closed found.1 (session_set line.link s line, refl, linked)))

-- ---- what a message logs

pub none_logged : (P : Plan) (O : Options) (w : World) (play : Play) (p : ℕ) (m : Message) → (let none : Option ℕ = None in none ≡ position (at_peer p) play.lines.items) → IsShown P O w play
    → IsShown P O (message_logged P w m (find (at_peer p) w.connections)) play
none_logged P O w play p m none shown =
    subst (λ found. IsShown P O (message_logged P w m found) play) (sym (none_found (at_peer p) w.connections (ap (position (at_peer p)) (sym shown.lines) ∙ sym none))) shown

pub unexpected_logged : (P : Plan) (O : Options) (w : World) (play : Play) (p n : ℕ) (m : Message) (line : Connection) → Some n ≡ position (at_peer p) play.lines.items
    → slice_get play.lines.items n ≡ Some line → (let none : Option Word = None in none ≡ word_in (told line.session m).answer) → IsShown P O w play
    → IsShown P O (message_logged P w m (find (at_peer p) w.connections)) play
unexpected_logged P O w play p n m line place at none shown =
    subst (λ found. IsShown P O (message_logged P w m found) play) (sym (link_found P O w play p n line place at shown).0) (by (told line.session m).answer none)
  where
    by : (answer : Result Word SessionFault) → (let none : Option Word = None in none ≡ word_in answer) → IsShown P O (answer_logged P w m answer) play
    by (Err why) none = shown
    by (Ok word) none = absurd (let h : ⊥ = cc in h)

pub word_logged : (P : Plan) (O : Options) (w : World) (old new : Play) (p n : ℕ) (m : Message) (line : Connection) (word : Word) → Some n ≡ position (at_peer p) old.lines.items
    → slice_get old.lines.items n ≡ Some line → Some word ≡ word_in (told line.session m).answer → IsShown P O w old
    → (IsFitEnd P w (end_in m word) → IsShown P O (end_logged P w (end_in m word)) new) → IsShown P O (message_logged P w m (find (at_peer p) w.connections)) new
word_logged P O w old new p n m line word place at is shown ends =
    let here : slice_get w.connections n ≡ Some line = ap (λ cs. slice_get cs n) (sym shown.lines) ∙ at in
    let fit : IsFitEnd P w (end_in m word) =
    word_fit P w m (told line.session m).answer word is (told_fit P w line.session m (shown.ours line (get_stands w.connections n line here))) in
    subst (λ found. IsShown P O (message_logged P w m found) new) (sym (link_found P O w old p n line place at shown).0)
    (subst (λ answer. IsShown P O (answer_logged P w m answer) new) (sym (answer_is (told line.session m).answer word is)) (ends fit))

-- ---- a message of the bag

-- it comes from one end to the other
pub delivered_shown : (P : Plan) (O : Options) (w : World) (old new : Play) (n : ℕ) (sent : Sent) (from to : Party) (m : Message) → slice_get old.bag.items n ≡ Some sent → sent.from ≡ from → sent.to ≡ to
    → m ≡ sent.message → IsShown P O w old → IsShown P O (comes P w from to m) new → IsShown P O (delivered P w (slice_get w.bag n)) new
delivered_shown P O w old new n sent from to m at one other is shown came =
    subst (λ found. IsShown P O (delivered P w found) new) (sym (ap (λ bag. slice_get bag n) (sym shown.bag) ∙ at))
    (subst (λ from. IsShown P O (comes P w from sent.to sent.message) new) (sym one)
    (subst (λ to. IsShown P O (comes P w from to sent.message) new) (sym other) (subst (λ m. IsShown P O (comes P w from to m) new) is came)))

-- the same of what it logs
pub delivery_shown : (P : Plan) (O : Options) (w : World) (old new : Play) (n : ℕ) (sent : Sent) (from to : Party) (m : Message) → slice_get old.bag.items n ≡ Some sent → sent.from ≡ from → sent.to ≡ to
    → m ≡ sent.message → IsShown P O w old → IsShown P O (coming_logged P w from to m) new → IsShown P O (delivery_logged P w (slice_get w.bag n)) new
delivery_shown P O w old new n sent from to m at one other is shown came =
    subst (λ found. IsShown P O (delivery_logged P w found) new) (sym (ap (λ bag. slice_get bag n) (sym shown.bag) ∙ at))
    (subst (λ from. IsShown P O (coming_logged P w from sent.to sent.message) new) (sym one)
    (subst (λ to. IsShown P O (coming_logged P w from to sent.message) new) (sym other) (subst (λ m. IsShown P O (coming_logged P w from to m) new) is came)))
