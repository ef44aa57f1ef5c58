use Rattle.tableau_laws.proofs.Gates.{gate_pattern, gated}
use Rattle.tableau_laws.proofs.rules.gates_act_on_rows.Goals as goal

pub returns : goal.returns
returns c = λ n R g T ok. (gate_pattern n R.m R.w R.D R.E R.J g T ok, gated n R.m R.w R.D R.E R.J g T ok)
