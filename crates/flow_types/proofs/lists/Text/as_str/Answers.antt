use Rattle.std.proofs.Common.{IsTrue, subst}
use Rattle.std.specs.Str.{is_utf8}
use Rattle.std.proofs.lemmas.Str.{is_utf8-from_IsUtf8, IsUtf8-string_bytes}
use Rattle.flow_types.proofs.lists.Text.as_str.Goals as goal

pub returns-clause-utf8 : goal.returns-clause-utf8
returns-clause-utf8 c =
    subst (λ bytes. IsTrue (is_utf8 bytes)) c.self.view_is (is_utf8-from_IsUtf8 _ (IsUtf8-string_bytes c.self.inside.text))
