-- What a call answered is what its definition gives, unless memory ran out.
use Rattle.std.specs.Prelude.{◌≡◌, Result, Ok, Err}
use Rattle.serve_lines.specs.declared.fault.LineFault.{LineFault}
use Rattle.serve_lines.specs.declared.fault.LineFault.TheVariants.{Refused, Memory}
use Rattle.serve_lines.specs.declared.fault.Refusal.{Refusal}

-- want of memory says nothing, a refusal is the one that is given
abbrev pub Fails : {Y : Type 0} → LineFault → Result Y Refusal → Type 0
Fails Memory given = Unit {0}
Fails (Refused why) given = given ≡ Err why

-- the answer is the value that is given, or the refusal that is given, or want of memory
abbrev pub Gives : {X Y : Type 0} → (X → Y) → Result X LineFault → Result Y Refusal → Type 0
Gives view (Ok x) given = given ≡ Ok (view x)
Gives view (Err e) given = Fails e given
