use Rattle.std.proofs.Common.{◌≡◌, ◌++◌, List, map, string_bytes}
use Rattle.std.specs.FinMap as finite
use Rattle.mf_text.specs.declared.fault.MakeFault.{MakeFault}
use Rattle.mf_text.specs.declared.output.Output.{Output}
use Rattle.mf_text.specs.Answers.{Fails}
use Rattle.mf_text.specs.Expansion.{Piece, plain}
use Rattle.mf_text.specs.Output.{outcome}
use Rattle.mf_text.proofs.Writing.{after_write, both, completed-plain}
use Rattle.mf_text.proofs.output.Output.add.Goals as goal

pub returns-in-Plain-clause-outcome : goal.returns-in-Plain-clause-outcome
returns-in-Plain-clause-outcome c =
    let old : Output = c.args.self.now in
    rw c.in-Plain.is (after_write c.write.result
    ((c.write.new.self ≡ record old { text = c.write.new.self.text }) × (string_bytes c.write.new.self.text ≡ string_bytes old.text ++ c.in-Plain.text.now))
    ((rest : List Piece) → outcome (finite.get c.args.scope.now) c.args.line c.write.new.self rest ≡ outcome (finite.get c.args.scope.now) c.args.line old (map plain c.in-Plain.text.now ++ rest))
    (λ (fault : MakeFault). (rest : List Piece) → Fails fault (outcome (finite.get c.args.scope.now) c.args.line old (map plain c.in-Plain.text.now ++ rest)))
    (both c.write.result _ _ c.write.ensures.text c.write.ensures.bytes) c.write.ensures.memory
    (λ is rest. rw is.0 (completed-plain (finite.get c.args.scope.now) c.args.line old.is_open old.is_shortened old.room (string_bytes old.text) (string_bytes c.write.new.self.text) c.in-Plain.text.now rest is.1))
    (λ _. tt))
