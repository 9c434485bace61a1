-- How long a record's spelling can be.
use Rattle.std.proofs.Common.{◌≡◌, ◌≤◌, ℕ, ◌+◌, ◌*◌, List, [], ◌∷◌, ◌++◌, length, Option, Some, None, refl, arith, length-append, flat_map}
use Rattle.std.specs.List.{AllByRecursion}
use Rattle.flow_types.specs.declared.numbers.Content.{Content}
use Rattle.flow_types.specs.declared.job.Failure.{Failure}
use Rattle.flow_types.specs.declared.job.Failure.TheVariants.{Status, MissingOutput, TooLong}
use Rattle.flow_types.specs.declared.records.EndKind.{EndKind}
use Rattle.flow_types.specs.declared.records.EndKind.TheVariants.{Complete, CommandFailed, InputsTooLarge, NoRoom, Waited, Cleaned}
use Rattle.flow_types.specs.declared.records.Record.{Record}
use Rattle.flow_types.specs.declared.records.Record.TheVariants.{Opened, Resumed, Started, Done, Failed, Lost, Dropped, Ended}
use Rattle.log_records.specs.Spelling.{spelling, HasSpelling, IsContent, AreContents, content_bytes, contents_bytes, limit_bytes, failure_bytes, end_bytes, most_spelled, most_contents}

length-contents : (contents : List Content) → AllByRecursion IsContent contents → length (flat_map content_bytes contents) ≡ 40 * length contents
length-contents [] all = refl
length-contents (content ∷ contents) all =
    omega (arith, length-contents contents all.1, all.0.1.0, length-append (content_bytes content) (flat_map content_bytes contents))

contents_few : (contents : List Content) → AreContents contents → length (contents_bytes contents) ≤ 4 + 40 * most_contents
contents_few contents are = omega (arith, length-contents contents are.1, are.0.1)

limit_few : (limit : Option ℕ) → length (limit_bytes limit) ≤ 9
limit_few None = omega arith
limit_few (Some limit) = omega arith

failure_few : (why : Failure) → length (failure_bytes why) ≤ 13
failure_few (Status status) = omega arith
failure_few (MissingOutput index) = omega arith
failure_few (TooLong index size) = omega arith

end_few : (kind : EndKind) → length (end_bytes kind) ≤ 1
end_few Complete = omega arith
end_few CommandFailed = omega arith
end_few InputsTooLarge = omega arith
end_few NoRoom = omega arith
end_few Waited = omega arith
end_few Cleaned = omega arith

pub spelled_few : (r : Record) → HasSpelling r → length (spelling r) ≤ most_spelled
spelled_few (Opened moment run retries limit plan sources) fits =
    omega (
      arith,
      limit_few limit,
      contents_few sources fits.1.1.1,
      fits.1.1.0.0,
      length-append (limit_bytes limit) (plan.0 ++ contents_bytes sources),
      length-append plan.0 (contents_bytes sources),
    )
spelled_few (Resumed moment run retries limit) fits = omega (arith, limit_few limit)
spelled_few (Started moment rule attempt link) fits = omega arith
spelled_few (Done moment rule attempt outs) fits = omega (arith, contents_few outs fits.1.1)
spelled_few (Failed moment rule attempt why) fits = omega (arith, failure_few why)
spelled_few (Lost moment rule attempt) fits = omega arith
spelled_few (Dropped moment file) fits = omega arith
spelled_few (Ended moment kind) fits = omega (arith, end_few kind)
