use Rattle.std.proofs.Common.{subst, Result}
use Rattle.jx_syntax.specs.declared.value.JxValue.{JxValue}
use Rattle.jx_meaning.specs.declared.fault.EvalFault.{EvalFault}
use Rattle.jx_meaning.specs.Answers.{Gives}
use Rattle.jx_meaning.specs.Values.{plain}
use Rattle.jx_eval.proofs.Steps.{answered}
use Rattle.jx_eval.proofs.state.State.answer.Goals as goal

pub returns-in-Err-clause-kept : goal.returns-in-Err-clause-kept
returns-in-Err-clause-kept c = λ ts s a g. answered ts s c.args.self.now a c.in-Err.fault (subst (λ (r : Result JxValue EvalFault). Gives plain r a) c.in-Err.is g)
