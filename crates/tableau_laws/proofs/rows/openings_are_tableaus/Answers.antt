use Rattle.tableau_laws.proofs.Opening.{opening_pattern}
use Rattle.tableau_laws.proofs.rows.openings_are_tableaus.Goals as goal

pub returns : goal.returns
returns c = opening_pattern
