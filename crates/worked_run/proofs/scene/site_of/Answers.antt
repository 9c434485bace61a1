use Rattle.std.proofs.Common.{◌≡◌, [], ◌∷◌, ◌++◌, rules}
use Rattle.std.specs.Prelude.{codes}
use Rattle.mem_outside.specs.MemSite.{calls_of, no_files, start_of, steps_of}
use Rattle.worked_run.specs.Worked.{flow_bytes}
use Rattle.worked_run.proofs.Entry.{flow_is_named, no_log, put_step, source_is_named}
use Rattle.worked_run.proofs.scene.site_of.Goals as goal

pub put-requires : goal.put-requires
put-requires c = source_is_named

pub put-requires-2 : goal.put-requires-2
put-requires-2 c = flow_is_named

pub returns-clause-settled : goal.returns-clause-settled
returns-clause-settled c entry left =
    let one = (calls_of c.new-site.result).made in
    let two = (calls_of c.put.new.site).made in
    let site = c.put-2.new.site in
    let none : start_of site ≡ no_files = search rules in
    let are : steps_of site ≡ ([] ++ put_step one (codes "a") (codes "abc") ∷ []) ++ put_step two (codes "flow") flow_bytes ∷ [] = search rules in
    no_log one two (start_of site) (steps_of site) none are entry left
