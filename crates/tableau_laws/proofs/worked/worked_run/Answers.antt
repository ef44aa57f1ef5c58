use Rattle.std.proofs.Common.{refl}
use lib.Count.{ones}
use Rattle.pauli.specs.Labels.{beta, ks, pairing, plus, us, ys}
use Rattle.tableau_laws.proofs.worked.worked_run.Goals as goal

pub returns : goal.returns
unfolding ones plus pairing ys ks us beta
returns c = record { cases = (refl, refl, refl, refl); outcomes = (refl, refl, refl, λ word. refl); rows = refl }
