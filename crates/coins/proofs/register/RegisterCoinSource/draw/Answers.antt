use Rattle.std.proofs.Common.{rules}
use Rattle.coins.proofs.Shifts.{first_toss}
use Rattle.coins.proofs.register.RegisterCoinSource.draw.Goals as goal

pub returns : goal.returns
returns c = search (rules, first_toss)
