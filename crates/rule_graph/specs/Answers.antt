-- What `plan_of` answers against what its definition gives, where want of memory is free.
use Rattle.std.specs.Prelude.{◌≡◌, Result, Ok, Err}
use Rattle.flow_types.specs.declared.plan.Plan.{Plan}
use Rattle.rule_graph.specs.declared.faults.GraphFault.{GraphFault}
use Rattle.rule_graph.specs.declared.faults.GraphFault.TheVariants.{TooMany, BadName, NoOutput, SameName, NestedName, TwoMakers, Cycle, Memory}

-- the definition gives this fault, or memory ran out
abbrev pub Fails : GraphFault → Result Plan GraphFault → Type 0
Fails (TooMany limit) given = given ≡ Err (TooMany limit)
Fails (BadName rule text) given = given ≡ Err (BadName rule text)
Fails (NoOutput rule) given = given ≡ Err (NoOutput rule)
Fails (SameName rule name) given = given ≡ Err (SameName rule name)
Fails (NestedName folder name) given = given ≡ Err (NestedName folder name)
Fails (TwoMakers name rule other) given = given ≡ Err (TwoMakers name rule other)
Fails (Cycle rules) given = given ≡ Err (Cycle rules)
Fails Memory given = Unit {0}

-- the definition gives what the call answered, or memory ran out
abbrev pub Gives : Result Plan GraphFault → Result Plan GraphFault → Type 0
Gives (Ok plan) given = given ≡ Ok plan
Gives (Err fault) given = Fails fault given
