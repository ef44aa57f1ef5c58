-- Duals, found one label at a time.
use Rattle.std.proofs.Common.{rules}
use Rattle.pauli_laws.proofs.Duals.{dependent_or_duals}
use Rattle.pauli_laws.proofs.space.independent_labels_have_duals.Goals as goal

pub returns : goal.returns
returns c rs = search (rules, dependent_or_duals)
