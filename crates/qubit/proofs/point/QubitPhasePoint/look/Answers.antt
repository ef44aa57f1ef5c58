-- A look at a letter.
use Rattle.qubit.specs.ValuesLemmas.{looked}
use Rattle.qubit.proofs.point.QubitPhasePoint.look.Goals as goal

pub returns : goal.returns
returns c =
    let letter = c.in_ok-letter.ensures in
    rw (c.kind.ensures, letter.1) (letter.0, looked c.args.self.now c.args.b letter.0)
