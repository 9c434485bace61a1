-- What a call answers against what its definition gives, where want of memory is free.
use Rattle.std.specs.Prelude.{◌≡◌, Result, Ok, Err}
use Rattle.mf_text.specs.declared.fault.MakeFault.{MakeFault}
use Rattle.mf_text.specs.declared.fault.MakeFault.TheVariants.{NotUtf8, OpenQuote, UnknownName, OpenParen, NoColon, NoCommand, StrayCommand, BadNumber, TooLarge, Memory}

-- the definition gives this fault, or memory ran out
abbrev pub Fails : {Y : Type 0} → MakeFault → Result Y MakeFault → Type 0
Fails (NotUtf8 at) given = given ≡ Err (NotUtf8 at)
Fails (OpenQuote line) given = given ≡ Err (OpenQuote line)
Fails (UnknownName line name) given = given ≡ Err (UnknownName line name)
Fails (OpenParen line) given = given ≡ Err (OpenParen line)
Fails (NoColon line) given = given ≡ Err (NoColon line)
Fails (NoCommand line) given = given ≡ Err (NoCommand line)
Fails (StrayCommand line) given = given ≡ Err (StrayCommand line)
Fails (BadNumber line) given = given ≡ Err (BadNumber line)
Fails (TooLarge limit) given = given ≡ Err (TooLarge limit)
Fails Memory given = Unit {0}

-- the definition gives what the call answered, seen by `view`, or memory ran out
abbrev pub Gives : {X Y : Type 0} → (X → Y) → Result X MakeFault → Result Y MakeFault → Type 0
Gives view (Ok x) given = given ≡ Ok (view x)
Gives view (Err fault) given = Fails fault given
