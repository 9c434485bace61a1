use Rattle.std.proofs.Common.{rules, ◌≡◌, ◌∙◌, ◌∷◌, [], ◌++◌, sym}
use Rattle.mem_outside.specs.MemSite.{files_of, start_of, steps_of}
use Rattle.mem_outside.proofs.Crashes.{agrees_still, elapses_still, elapses_to}
use Rattle.mem_outside.proofs.mem_site.MemSite.keep.Goals as goal

pub returns-in_err-apply-clause-time : goal.returns-in_err-apply-clause-time
returns-in_err-apply-clause-time c = elapses_still (start_of c.args.self.now) (steps_of c.args.self.now) c.reserve.new.self.items c.reserve.ensures.items

pub invariant_of-self-2 : goal.invariant_of-self-2
invariant_of-self-2 c =
    let all : c.push.new.self.items ≡ steps_of c.args.self.now ++ record { call = c.args.call; name = c.in_ok-own.own; change = c.args.change } ∷ [] = search rules in
    record {
      agrees = agrees_still (start_of c.args.self.now) (files_of c.args.self.now) _ (steps_of c.args.self.now) c.push.new.self.items c.args.call c.as_bytes.result.now c.in_ok-own.own c.args.change
          c.args.self.now.agrees (c.in_ok-own.ensures ∙ sym c.as_bytes.ensures.value) c.in_ok-apply.ensures.ok all;
    }

pub returns-clause-time : goal.returns-clause-time
returns-clause-time c =
    let all : c.push.new.self.items ≡ steps_of c.args.self.now ++ record { call = c.args.call; name = c.in_ok-own.own; change = c.args.change } ∷ [] = search rules in
    elapses_to (start_of c.args.self.now) (steps_of c.args.self.now) c.push.new.self.items _ all
