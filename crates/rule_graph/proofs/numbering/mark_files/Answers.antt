use Rattle.std.proofs.Common.{◌∙◌, ◌<◌, List, ℕ, Bool, ap, true, length, arith, cond, map}
use Rattle.std.specs.Str.{bytes_eq}
use Rattle.flow_types.specs.declared.flow.RawFile.{RawFile}
use Rattle.flow_types.specs.Names.{form_of}
use Rattle.rule_graph.proofs.Tables.{marks_more}
use Rattle.rule_graph.proofs.numbering.mark_files.Goals as goal

pub loop-file-preserved : goal.loop-file-preserved
loop-file-preserved c = λ says before.
    let says_of : List ℕ → RawFile → Bool = λ n file. bytes_eq n (form_of file.local) in
    let files : List RawFile = c.as_slice-file-items.result.now in
    let inside : c.loop-file.file-index < length files = omega (arith, c.loop-file-test.true) in
    marks_more c.args.names.now says says_of files c.loop-file.file-index c.file-item.result c.loop-file.table c.put.new.table inside c.file-item.is
    (λ of old.
    c.put.ensures of old
    ∙ ap (λ x. map (λ n. cond (bytes_eq n x) true (of n)) c.args.names.now) (c.as_slice.ensures.value ∙ c.in_ok-name.ensures ∙ ap form_of (c.as_bytes.ensures.value ∙ c.as_str.ensures.value)))
    (c.loop-file.invariant says before)
