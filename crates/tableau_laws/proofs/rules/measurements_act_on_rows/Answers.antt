use Rattle.tableau_laws.proofs.Measured.{measured, measured_pattern}
use Rattle.tableau_laws.proofs.rules.measurements_act_on_rows.Goals as goal

pub returns : goal.returns
returns c = λ n R T b wb sign word. (measured_pattern n R b sign word T wb, measured n R b sign word T wb)
