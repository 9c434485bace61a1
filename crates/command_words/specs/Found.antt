-- What a parse found.
use Rattle.std.specs.Prelude.{List}
use Rattle.clap.specs.Matches.{found_of}
use Rattle.clap.specs.Walk.{Row, rows_of}
use Rattle.clap.specs.declared.parser.matches.ArgMatches.{ArgMatches}

-- the arguments that a parse found, each with its values
abbrev pub rows_in : ArgMatches → List Row
rows_in matches = rows_of (found_of matches)
