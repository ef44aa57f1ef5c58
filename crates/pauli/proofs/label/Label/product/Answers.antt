use Rattle.std.proofs.Common.{rules}
use Rattle.pauli.specs.Labels.{plus}
use Rattle.pauli.proofs.label.Label.product.Goals as goal

pub returns : goal.returns
unfolding plus
returns c = search rules
