use Rattle.std.proofs.Common.{◌≡◌, ◌+◌, ◌∙◌, Some, None, sym}
use Rattle.flow_types.specs.Plans.{most_bytes}
use Rattle.rule_progress.specs.Progress.{first_sizes, sizes_in}
use Rattle.rule_progress.proofs.Coming.{come-knows, first-before, first-now, first-others, first-same, first-small, knows-same, may-come, size-read, small-size}
use Rattle.rule_progress.proofs.progress.Progress.add_file.Goals as goal

pub come-requires : goal.come-requires
come-requires c =
    let files = c.args.files.now in
    let f = c.args.file.0 in
    let there : sizes_in c.args.files.now c.args.file.0 ≡ Some c.in-Some.size = sym (size-read c.args.files.now c.args.file.0) ∙ sym c.size_of.ensures ∙ c.in-Some.is in
    may-come c.args.plan.now (first_sizes files f) c.args.self.now f c.in-Some.size c.requires.valid c.requires.inside c.requires.known.takers c.requires.known.rules c.requires.known.inputs (first-before files f)
    (small-size (sizes_in files) f c.in-Some.size most_bytes there (c.requires.small f)) (λ g. first-small files f g most_bytes (c.requires.small g))

pub returns-in-Some-clause-known : goal.returns-in-Some-clause-known
returns-in-Some-clause-known c =
    let files = c.args.files.now in
    let f = c.args.file.0 in
    let there : sizes_in c.args.files.now c.args.file.0 ≡ Some c.in-Some.size = sym (size-read c.args.files.now c.args.file.0) ∙ sym c.size_of.ensures ∙ c.in-Some.is in
    come-knows c.args.plan.now (first_sizes files f) (first_sizes files (f + 1)) c.args.self.now c.come.new.self f c.in-Some.size (first-before files f) (first-now files f ∙ there) (first-others files f) c.come.ensures c.requires.known

pub returns-in-None-clause-known : goal.returns-in-None-clause-known
returns-in-None-clause-known c =
    let files = c.args.files.now in
    let f = c.args.file.0 in
    let gone : sizes_in c.args.files.now c.args.file.0 ≡ None = sym (size-read c.args.files.now c.args.file.0) ∙ sym c.size_of.ensures ∙ c.in-None.is in
    knows-same c.args.plan.now (first_sizes files f) (first_sizes files (f + 1)) c.args.self.now (λ g. first-same files f g gone) c.requires.known
