-- What a link that serves is, and a hall of one.
use Rattle.std.specs.Prelude.{◌≤◌, ℕ, [], ◌∷◌}
use Rattle.flow_types.specs.declared.job.Failure.{Failure}
use Rattle.flow_types.specs.declared.job.Job.{Job}
use Rattle.flow_types.specs.declared.numbers.Amounts.{Amounts}
use Rattle.flow_types.specs.Plans.{most_input_bytes}
use Rattle.flow_types.specs.Serial.{Function}
use Rattle.links.specs.Honesty.{IsAtLeast}
use Rattle.message_forms.specs.Streams.{IsFramed}
use Rattle.mem_links.specs.declared.mem_hall.HallStep.TheVariants as steps
use Rattle.mem_links.specs.MemHalls.{IsManned, new_hall}
use Rattle.mem_links.specs.MemLinks.{serving_link}
use Rattle.mem_links.specs.Servers.{hello}
use Rattle.mem_links.specs.Serving.{AreBlank, IsSureLink}

-- A link that serves is sure where each output of each command is empty.
abbrev pub ServingIsSure : Function → (Job → Failure → Type 0) → Type 0
ServingIsSure gives may_fail =
    (total : Amounts) (cache : ℕ) → AreBlank gives → IsFramed (hello total cache)
    → IsSureLink gives may_fail (serving_link total cache)

-- A hall that gives one such link is manned for what the link has.
abbrev pub OneThatServesMans : Function → (Job → Failure → Type 0) → Type 0
OneThatServesMans gives may_fail =
    (least total : Amounts) (cache : ℕ) → AreBlank gives → IsFramed (hello total cache)
    → IsAtLeast least total → most_input_bytes ≤ cache
    → IsManned gives may_fail least (new_hall (steps.Link (serving_link total cache) ∷ []))
