use Rattle.std.proofs.Common.{Result, subst}
use Rattle.coins.specs.declared.text.TextCoins.{TextCoins}
use Rattle.text.specs.declared.stop.Stop.{Stop}
use Rattle.circuit.proofs.Chains.{goes_up}
use Rattle.circuit_run.specs.Begun.{Supplied}
use Rattle.circuit_run.proofs.Begun.{was_supplied}
use Rattle.circuit_run.proofs.run.supply.Goals as goal

pub returns-in_err-source-clause-line : goal.returns-in_err-source-clause-line
returns-in_err-source-clause-line c =
    let start = c.args.reader.now.fields in
    goes_up (λ (r : Result TextCoins Stop). Supplied start.text.now start.at r start.at) _ c.in_err-source.field-0.0 c.from_residual-in_err-source.ensures.1
    (subst (λ (r : Result TextCoins Stop). Supplied start.text.now start.at r c.coins.new.self.fields.at) c.in_err-source.was
    (was_supplied start.text _ _ _ c.in_ok-digits.digits _ _ c.in_ok-digits.ensures c.coins.ensures.line c.over.ensures c.at.ensures))
