-- Three rows, worked out by computing.
use Rattle.std.proofs.Common.{refl}
use lib.Count.{ones}
use Rattle.pauli.specs.Labels.{plus, ys, ks, us, beta}
use Rattle.pauli.specs.Gates.{moved, flips}
use Rattle.pauli_laws.proofs.Texts.{word_text}
use Rattle.pauli_laws.proofs.row.worked_rows.Goals as goal

pub returns : goal.returns
unfolding ones plus ys ks us beta moved flips
returns c = record { written = word_text; product = refl; turned = refl; crossed = refl }
