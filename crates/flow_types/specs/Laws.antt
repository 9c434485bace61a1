-- What holds of every name, and of the serial run of every valid plan.
use Rattle.std.specs.Prelude.{◌≡◌, ℕ, ◌<◌, List, Some, IsTrue, slice_get, length}
use Rattle.flow_types.specs.declared.plan.Plan.{Plan}
use Rattle.flow_types.specs.declared.plan.Rule.{Rule}
use Rattle.flow_types.specs.Names.{name_of, is_name}
use Rattle.flow_types.specs.Plans.{IsValid, is_source, makes, contains_number}
use Rattle.flow_types.specs.Serial.{Contents, Function, content_of, given_by, job_of, serial, serial_order}

-- What a text gives as its name is a name in its one form.
abbrev pub FormsAreNames : Type 0
FormsAreNames = (text name : List ℕ) → name_of text ≡ Some name → IsTrue (is_name name)

-- A name in its one form gives itself.
abbrev pub NamesGiveThemselves : Type 0
NamesGiveThemselves = (name : List ℕ) → IsTrue (is_name name) → name_of name ≡ Some name

-- In the serial run of a valid plan a made file has what its rule's job over the run's own contents gives.
abbrev pub SerialIsFixed : Type 0
SerialIsFixed = (P : Plan) (gives : Function) (sources : Contents) (r f : ℕ) (rule : Rule) → IsValid P → slice_get P.rules r ≡ Some rule
    → IsTrue (contains_number f (makes P r))
    → serial P gives sources f ≡ content_of f (makes P r) (given_by gives (job_of P rule (serial P gives sources)))

-- In the serial run of a valid plan a source has its own content.
abbrev pub SerialKeepsSources : Type 0
SerialKeepsSources = (P : Plan) (gives : Function) (sources : Contents) (f : ℕ) → IsValid P → IsTrue (is_source P f) → serial P gives sources f ≡ sources f

-- The serial run of a valid plan takes every rule.
abbrev pub EveryRuleIsTaken : Type 0
EveryRuleIsTaken = (P : Plan) (r : ℕ) → IsValid P → r < length P.rules → IsTrue (contains_number r (serial_order P))
