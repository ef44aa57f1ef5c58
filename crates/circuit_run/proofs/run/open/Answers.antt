use Rattle.std.proofs.Common.{Result, subst}
use Rattle.tableau.specs.declared.tableau.Tableau.{Tableau}
use Rattle.text.specs.declared.stop.Stop.{Stop}
use Rattle.circuit.proofs.Chains.{goes_up}
use Rattle.circuit_run.specs.Begun.{Opened}
use Rattle.circuit_run.proofs.Begun.{was_opened}
use Rattle.circuit_run.proofs.run.open.Goals as goal

pub returns-in_err-point-clause-line : goal.returns-in_err-point-clause-line
returns-in_err-point-clause-line c =
    let start = c.args.reader.now.fields in
    goes_up (λ (r : Result Tableau Stop). Opened start.text.now start.at r start.at) _ c.in_err-point.field-0.0 c.from_residual-in_err-point.ensures.1
    (subst (λ (r : Result Tableau Stop). Opened start.text.now start.at r c.opening.new.self.fields.at) c.in_err-point.was
    (was_opened start.text _ _ _ c.in_ok-opening.opening _ _ c.in_ok-opening.ensures c.opening.ensures.line c.open.ensures c.at.ensures))

pub returns-clause-line : goal.returns-clause-line
returns-clause-line c =
    let start = c.args.reader.now.fields in
    subst (λ (r : Result Tableau Stop). Opened start.text.now start.at r c.opening.new.self.fields.at) c.in_ok-point.was
    (was_opened start.text _ _ _ c.in_ok-opening.opening _ _ c.in_ok-opening.ensures c.opening.ensures.line c.open.ensures c.at.ensures)
