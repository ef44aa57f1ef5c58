use Rattle.std.proofs.Common.{rules}
use Rattle.coins.proofs.Written.{written, unwritten}
use Rattle.coins.proofs.text.TextCoins.over.Goals as goal

pub returns-then-not-only_digits : goal.returns-then-not-only_digits
returns-then-not-only_digits c = search (rules, unwritten)

pub returns : goal.returns
returns c = search (rules, written)
