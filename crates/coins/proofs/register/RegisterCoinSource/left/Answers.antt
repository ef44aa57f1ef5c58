use Rattle.std.proofs.Common.{rules}
use Rattle.coins.proofs.Shifts.{length_tosses}
use Rattle.coins.proofs.register.RegisterCoinSource.left.Goals as goal

pub returns : goal.returns
returns c = search (rules, length_tosses)
