-- What a call answered is what its definition gives, unless memory ran out.
use Rattle.std.specs.Prelude.{◌≡◌, Result, Ok, Err}
use Rattle.jx_flow.specs.declared.fault.JxFlowFault.{JxFlowFault}
use Rattle.jx_flow.specs.declared.fault.JxFlowFault.TheVariants.{Syntax, Evaluation, MissingField, FieldKind, UnknownCategory, TooLarge, Memory}

-- want of memory says nothing, any other fault is the one that is given
abbrev pub Fails : {Y : Type 0} → JxFlowFault → Result Y JxFlowFault → Type 0
Fails Memory given = Unit {0}
Fails (Syntax e) given = given ≡ Err (Syntax e)
Fails (Evaluation e) given = given ≡ Err (Evaluation e)
Fails (MissingField rule name) given = given ≡ Err (MissingField rule name)
Fails (FieldKind rule name) given = given ≡ Err (FieldKind rule name)
Fails (UnknownCategory rule) given = given ≡ Err (UnknownCategory rule)
Fails (TooLarge limit) given = given ≡ Err (TooLarge limit)

-- the same for a fault alone
abbrev pub FailsAs : JxFlowFault → JxFlowFault → Type 0
FailsAs e given = Fails {Y = Unit {0}} e (Err given)

-- the answer is the value that is given, or the fault that is given, or want of memory
abbrev pub Gives : {X Y : Type 0} → (X → Y) → Result X JxFlowFault → Result Y JxFlowFault → Type 0
Gives view (Ok x) given = given ≡ Ok (view x)
Gives view (Err e) given = Fails e given
