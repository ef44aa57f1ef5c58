use Rattle.std.proofs.Common.{rules}
use Rattle.coins.proofs.Written.{length_coins}
use Rattle.coins.proofs.text.TextCoinsCoinSource.left.Goals as goal

pub returns : goal.returns
returns c = search (rules, length_coins)
