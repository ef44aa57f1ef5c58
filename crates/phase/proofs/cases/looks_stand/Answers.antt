use Rattle.phase.proofs.Unique.{one_look, few_coins}
use Rattle.phase.proofs.cases.looks_stand.Goals as goal

pub returns : goal.returns
returns c = record { one = one_look; few = few_coins }
