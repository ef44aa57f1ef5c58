use Rattle.sheet_laws.proofs.Frames.{maximal}
use Rattle.sheet_laws.proofs.Inclusion.{inclusion}
use Rattle.sheet_laws.proofs.laws_are_full.Goals as goal

pub returns : goal.returns
returns c = record { maximal = maximal; inclusion = inclusion }
