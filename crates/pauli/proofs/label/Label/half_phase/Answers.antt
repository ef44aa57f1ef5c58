use Rattle.std.proofs.Common.{rules}
use Rattle.pauli.specs.Labels.{plus, ys, ks, us, beta}
use Rattle.pauli.proofs.label.Label.half_phase.Goals as goal

pub returns : goal.returns
unfolding plus ys ks us beta
returns c = search rules
