use Rattle.sheet_laws.proofs.LabelCases.{case_laws}
use Rattle.sheet_laws.proofs.cases_stand.Goals as goal

pub returns : goal.returns
returns c = record { cases = case_laws; rays = case_laws.three }
