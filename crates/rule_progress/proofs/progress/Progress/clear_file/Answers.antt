use Rattle.std.proofs.Common.{◌≡◌, ◌∙◌, Some, None, sym}
use Rattle.rule_progress.specs.Progress.{sizes_in, with_size}
use Rattle.rule_progress.proofs.Coming.{go-knows, knows-same, may-go, size-none, size-read, with-here, with-others}
use Rattle.rule_progress.proofs.progress.Progress.clear_file.Goals as goal

pub go-requires : goal.go-requires
go-requires c =
    let there : sizes_in c.args.files.now c.args.file.0 ≡ Some c.in-Some.size = sym (size-read c.args.files.now c.args.file.0) ∙ sym c.size_of.ensures ∙ c.in-Some.is in
    may-go c.args.plan.now (sizes_in c.args.files.now) c.args.self.now c.args.file.0 c.in-Some.size c.requires.valid c.requires.inside c.requires.known.takers c.requires.known.rules c.requires.known.inputs there

pub returns-in-Some-clause-known : goal.returns-in-Some-clause-known
returns-in-Some-clause-known c =
    let sizes = sizes_in c.args.files.now in
    let f = c.args.file.0 in
    let there : sizes_in c.args.files.now c.args.file.0 ≡ Some c.in-Some.size = sym (size-read c.args.files.now c.args.file.0) ∙ sym c.size_of.ensures ∙ c.in-Some.is in
    go-knows c.args.plan.now sizes (with_size sizes f None) c.args.self.now c.go.new.self f c.in-Some.size there (with-here sizes f None) (λ g apart. sym (with-others sizes f None g apart)) c.go.ensures c.requires.known

pub returns-in-None-clause-known : goal.returns-in-None-clause-known
returns-in-None-clause-known c =
    let sizes = sizes_in c.args.files.now in
    let f = c.args.file.0 in
    let gone : sizes_in c.args.files.now c.args.file.0 ≡ None = sym (size-read c.args.files.now c.args.file.0) ∙ sym c.size_of.ensures ∙ c.in-None.is in
    knows-same c.args.plan.now sizes (with_size sizes f None) c.args.self.now (λ g. size-none sizes f g gone) c.requires.known
