-- The pigeonhole.
use Rattle.std.proofs.Common.{arith}
use Rattle.pauli_laws.proofs.Pigeons.{onto}
use Rattle.pauli_laws.proofs.space.one_to_one_is_onto.Goals as goal

pub returns : goal.returns
returns c m f below once y h = onto m f below once y (omega arith)
