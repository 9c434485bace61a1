-- What an honest link answers is what is due, where the master put what is due.
use Rattle.std.proofs.Common.{◌≡◌, ℕ, Bool, true, false, List, [], ◌∷◌, Option, map}
use Rattle.std.proofs.Common.{refl, sym, ap, ◌∙◌, subst}
use Rattle.std.specs.Prelude.{unwrap_or, ◌==◌, ◌||◌}
use Rattle.std.proofs.lemmas.Bool.{eq-eqb}
use Rattle.flow_types.specs.declared.plan.Port.{Port}
use Rattle.flow_types.specs.declared.job.Given.{Given}
use Rattle.flow_types.specs.declared.job.Job.{Job}
use Rattle.flow_types.specs.declared.job.Failure.{Failure}
use Rattle.flow_types.specs.declared.job.Outcome.{Outcome}
use Rattle.flow_types.specs.declared.job.Task.{Task}
use Rattle.flow_types.specs.declared.messages.Message.{Message}
use Rattle.flow_types.specs.declared.messages.Message.TheVariants as messages
use Rattle.flow_types.specs.Plans.{files_of, contains_number}
use Rattle.flow_types.specs.Serial.{Contents, Function, given_by}
use Rattle.message_forms.specs.Streams.{frames_of, Carries, IsAmong}
use Rattle.message_forms.proofs.Parses.{rows_carry_their_own}
use Rattle.outside.specs.Jobs.{IsHonest}
use Rattle.links.specs.Honesty.{Answers, key_of, task_job}
use Rattle.links.specs.Peers.{IsAskingRight}

-- the content of a port's file, under its name for the job
abbrev given_at : Option (List ℕ) → Port → Given
given_at content port = record { remote = port.remote; content = unwrap_or content [] }

abbrev given_in : Contents → List Port → List Given
given_in contents ports = map (λ port. given_at (contents port.file.0) port) ports

-- these contents are the same for each file of the ports
abbrev AreAlike : Contents → Contents → List Port → Type 0
AreAlike found due ports =
    (f : ℕ) → contains_number f (files_of ports) ≡ true → found f ≡ due f

itself : (f : ℕ) (rest : Bool) → ((f == f) || rest) ≡ true
itself f rest = by (f == f) (eq-eqb f f refl)
  where
    by : (b : Bool) → b ≡ true → (b || rest) ≡ true
    by true is = refl
    by false is = absurd (let none : ⊥ = cc in none)

later : (a b : Bool) → b ≡ true → (a || b) ≡ true
later true b is = refl
later false b is = is

-- contents that agree on the files of the ports give the same inputs
same_given : (found due : Contents) (ports : List Port) → AreAlike found due ports
    → given_in found ports ≡ given_in due ports
same_given found due [] agree = refl
same_given found due (port ∷ ports) agree =
    let f = port.file.0 in
    let rest : AreAlike found due ports =
    λ g has. agree g (later (f == g) (contains_number g (files_of ports)) has) in
    ap (λ (o : Option (List ℕ)). given_at o port ∷ given_in found ports)
    (agree f (itself f (contains_number f (files_of ports))))
    ∙ ap (λ (more : List Given). given_at (due f) port ∷ more) (same_given found due ports rest)

same_job : (found due : Contents) (t : Task) → AreAlike found due t.inputs
    → task_job t found ≡ task_job t due
same_job found due t agree = ap with_inputs (same_given found due t.inputs agree)
  where
    with_inputs : List Given → Job
    with_inputs given =
        record { command = t.command; env = t.env; inputs = given; outputs = t.outputs }

-- An answer to a task of ours is that of its job over what is due.
pub answered_due : (gives : Function) (may_fail : Job → Failure → Type 0)
    (due : Contents) (sent : List ℕ) (said : List Message) (task : Task) (outcome : Outcome)
    → IsAskingRight due said → sent ≡ frames_of said → IsAmong (messages.Task task) said
    → Answers gives may_fail sent task.attempt outcome
    → IsHonest (given_by gives (task_job task due)) (may_fail (task_job task due)) outcome
answered_due gives may_fail due sent said task outcome right are ours a =
    let among : (m : Message) → Carries sent m → IsAmong m said =
    λ m c. (rows_carry_their_own said m right.framed_all).0
    (subst (λ (w : List ℕ). Carries w m) are c) in
    let same : a.task ≡ task =
    right.one_task a.task task (among (messages.Task a.task) a.asked) ours a.of_attempt in
    let agree : AreAlike a.contents due a.task.inputs = λ f has.
    let put = a.were_put f has in
    let key = key_of a.task.run f in
    put.1 ∙ sym (right.due_content key put.0 (among (messages.Put key put.0) put.2)) in
    let jobs : task_job a.task a.contents ≡ task_job task due =
    same_job a.contents due a.task agree ∙ ap (λ (t : Task). task_job t due) same in
    subst (λ (job : Job). IsHonest (given_by gives job) (may_fail job) outcome) jobs a.ends_so
