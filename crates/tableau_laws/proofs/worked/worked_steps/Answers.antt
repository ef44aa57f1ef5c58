use Rattle.std.proofs.Common.{refl}
use lib.Count.{ones}
use Rattle.pauli.specs.Gates.{flips, moved}
use Rattle.pauli.specs.Labels.{beta, ks, pairing, plus, us, ys}
use Rattle.tableau_laws.proofs.worked.worked_steps.Goals as goal

pub returns : goal.returns
unfolding ones plus pairing ys ks us beta moved flips
returns c = record { three = refl; again = λ word. refl; four = refl }
