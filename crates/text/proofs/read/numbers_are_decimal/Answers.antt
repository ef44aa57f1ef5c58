use Rattle.std.proofs.Common.{refl}
use Rattle.text.specs.Texts.{num}
use Rattle.text.proofs.Numbers.{num_digits}
use Rattle.text.proofs.read.numbers_are_decimal.Goals as goal

pub returns : goal.returns
unfolding num
returns c = (λ n. refl, num_digits)
