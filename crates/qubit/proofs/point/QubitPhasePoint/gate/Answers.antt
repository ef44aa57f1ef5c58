-- A gate on the one qubit.
use Rattle.qubit.specs.ValuesLemmas.{gated}
use Rattle.qubit.proofs.point.QubitPhasePoint.gate.Goals as goal

pub returns-in-One-clause-done : goal.returns-in-One-clause-done
returns-in-One-clause-done c =
    let placed = c.in_ok-placed.ensures.0 in
    let fine = rw c.in-One.is at placed in
    rw (c.turned.ensures, c.in-One.is) (fine, gated c.args.self.now c.in-One.gate c.in-One.qubit fine)
