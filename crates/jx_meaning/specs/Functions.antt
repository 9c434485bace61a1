-- The functions and their names.
use Rattle.std.specs.Prelude.{ℕ, List, Option, Some, None, codes, if◌then◌else◌}
use Rattle.std.specs.Str.{bytes_eq}
use Rattle.jx_meaning.specs.declared.function.Function.{Function}
use Rattle.jx_meaning.specs.declared.function.Function.TheVariants.{Range, Join, Format, Template, Len}

-- the function of this name
unfoldable pub function_of : List ℕ → Option Function
function_of x =
    if bytes_eq x (codes "range") then Some Range else (if bytes_eq x (codes "join") then Some Join else (if bytes_eq x (codes "format") then Some Format
    else (if bytes_eq x (codes "template") then Some Template else (if bytes_eq x (codes "len") then Some Len else None))))
