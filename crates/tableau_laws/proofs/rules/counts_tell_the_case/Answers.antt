use Rattle.tableau_laws.proofs.Answered.{looked}
use Rattle.tableau_laws.proofs.rules.counts_tell_the_case.Goals as goal

pub returns : goal.returns
returns c = λ n R T b wb. looked n R.m R.w R.D R.E R.J T b wb
