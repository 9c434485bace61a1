-- What a call answered is what its definition gives, unless memory ran out.
use Rattle.std.specs.Prelude.{◌≡◌, Result, Ok, Err}
use Rattle.jx_tokens.specs.declared.fault.JxFault.{JxFault}
use Rattle.jx_tokens.specs.declared.fault.JxFault.TheVariants.{NotUtf8, Unexpected, OpenText, FloatUnsupported, IntTooWide, TooDeep, TooLarge, Memory}

-- want of memory says nothing, any other fault is the one that is given
abbrev pub Fails : {Y : Type 0} → JxFault → Result Y JxFault → Type 0
Fails Memory given = Unit {0}
Fails (NotUtf8 at) given = given ≡ Err (NotUtf8 at)
Fails (Unexpected at) given = given ≡ Err (Unexpected at)
Fails (OpenText at) given = given ≡ Err (OpenText at)
Fails (FloatUnsupported at) given = given ≡ Err (FloatUnsupported at)
Fails (IntTooWide at) given = given ≡ Err (IntTooWide at)
Fails (TooDeep at) given = given ≡ Err (TooDeep at)
Fails TooLarge given = given ≡ Err TooLarge

-- the same for a fault alone
abbrev pub FailsAs : JxFault → JxFault → Type 0
FailsAs e given = Fails {Y = Unit {0}} e (Err given)

-- the answer is the value that is given, or the fault that is given, or want of memory
abbrev pub Gives : {X Y : Type 0} → (X → Y) → Result X JxFault → Result Y JxFault → Type 0
Gives view (Ok x) given = given ≡ Ok (view x)
Gives view (Err e) given = Fails e given
