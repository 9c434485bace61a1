-- What a call answered is what its definition gives, unless memory ran out.
use Rattle.std.specs.Prelude.{◌≡◌, Result, Ok, Err}
use Rattle.jx_meaning.specs.declared.fault.EvalFault.{EvalFault}
use Rattle.jx_meaning.specs.declared.fault.EvalFault.TheVariants.{UnknownName, WrongKind, Overflow, ZeroDivisor, IndexRange, NoSuchKey, BadMark, ArgCount, TooMuch, Memory}

-- want of memory says nothing, any other fault is the one that is given
abbrev pub Fails : {Y : Type 0} → EvalFault → Result Y EvalFault → Type 0
Fails Memory given = Unit {0}
Fails (UnknownName at) given = given ≡ Err (UnknownName at)
Fails (WrongKind at) given = given ≡ Err (WrongKind at)
Fails (Overflow at) given = given ≡ Err (Overflow at)
Fails (ZeroDivisor at) given = given ≡ Err (ZeroDivisor at)
Fails (IndexRange at) given = given ≡ Err (IndexRange at)
Fails (NoSuchKey at) given = given ≡ Err (NoSuchKey at)
Fails (BadMark at) given = given ≡ Err (BadMark at)
Fails (ArgCount at) given = given ≡ Err (ArgCount at)
Fails (TooMuch at) given = given ≡ Err (TooMuch at)

-- the answer is the value that is given, or the fault that is given, or want of memory
abbrev pub Gives : {X Y : Type 0} → (X → Y) → Result X EvalFault → Result Y EvalFault → Type 0
Gives view (Ok x) given = given ≡ Ok (view x)
Gives view (Err e) given = Fails e given
