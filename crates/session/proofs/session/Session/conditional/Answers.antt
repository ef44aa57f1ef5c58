-- The gate is lawful, so that only a full journal refuses it.
use Rattle.std.proofs.Common.{rules}
use Rattle.session.proofs.Lawful.{there, conditional_sound}
use Rattle.session.proofs.session.Session.conditional.Goals as goal

pub returns-in_err-add-clause-step : goal.returns-in_err-add-clause-step
returns-in_err-add-clause-step g c =
    let sound = conditional_sound c.args.self.now.journal c.args.outcome c.in_ok-done.done c.in_ok-done.done c.args.gate c.args.qubit
    (there _ _ _ c.in_ok-done.ensures) c.in_ok-check.ensures.1 in
    search rules
