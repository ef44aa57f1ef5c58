use Rattle.std.proofs.Common.{rules}
use Rattle.pauli.specs.Labels.{fits}
use Rattle.pauli.proofs.label.Label.fits.Goals as goal

pub returns-then-below : goal.returns-then-below
unfolding fits
returns-then-below c = search rules

pub returns-else-below : goal.returns-else-below
unfolding fits
returns-else-below c = search rules
