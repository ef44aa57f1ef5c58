use Rattle.std.proofs.Common.{rules}
use Rattle.pauli.specs.Labels.{product_sign}
use Rattle.pauli.proofs.label.Label.product_sign.Goals as goal

pub returns-then-anticommutes : goal.returns-then-anticommutes
unfolding product_sign
returns-then-anticommutes c = search rules

pub returns-else-anticommutes : goal.returns-else-anticommutes
unfolding product_sign
returns-else-anticommutes c = search rules
