-- The test and the record say the same.
use Rattle.std.proofs.Common.{rules}
use Rattle.pauli_laws.proofs.Texts.{fits_within, within_fits}
use Rattle.pauli_laws.proofs.label.fitting_is_within.Goals as goal

pub returns : goal.returns
returns c = record { fits_within = λ n a e. search (rules, fits_within); within_fits = λ n a h. search (rules, within_fits) }
