use Rattle.std.proofs.Common.{Some, None}
use Rattle.flow_types.specs.Plans.{most_bytes}
use Rattle.rule_progress.specs.Progress.{sizes_in, with_size}
use Rattle.rule_progress.proofs.Coming.{come-knows, may-come, size-twice, with-here, without-small}
use Rattle.rule_progress.proofs.progress.Progress.set_file.Goals as goal

pub come-requires : goal.come-requires
come-requires c =
    let sizes = sizes_in c.args.files.now in
    let f = c.args.file.0 in
    may-come c.args.plan.now (with_size sizes f None) c.clear_file.new.self f c.args.size c.requires.valid c.requires.inside c.clear_file.ensures.known.takers c.clear_file.ensures.known.rules c.clear_file.ensures.known.inputs
    (with-here sizes f None) c.requires.few (λ g. without-small sizes f g most_bytes (c.requires.small g))

pub returns-clause-known : goal.returns-clause-known
returns-clause-known c =
    let sizes = sizes_in c.args.files.now in
    let f = c.args.file.0 in
    come-knows c.args.plan.now (with_size sizes f None) (with_size sizes f (Some c.args.size)) c.clear_file.new.self c.come.new.self f c.args.size (with-here sizes f None) (with-here sizes f (Some c.args.size)) (size-twice sizes f c.args.size)
    c.come.ensures c.clear_file.ensures.known
