use Rattle.std.proofs.Common.{rules}
use Rattle.pauli.specs.Labels.{pairing}
use Rattle.pauli.proofs.label.Label.anticommutes.Goals as goal

pub returns : goal.returns
unfolding pairing
returns c = search rules
