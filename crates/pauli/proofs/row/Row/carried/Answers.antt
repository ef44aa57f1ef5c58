use Rattle.std.proofs.Common.{rules}
use Rattle.pauli.specs.Gates.{moved, flips}
use Rattle.pauli.proofs.row.Row.carried.Goals as goal

pub returns-in-One : goal.returns-in-One
unfolding moved flips
returns-in-One c = search rules

pub returns-in-Cx : goal.returns-in-Cx
unfolding moved flips
returns-in-Cx c = search rules
