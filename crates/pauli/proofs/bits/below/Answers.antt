use Rattle.std.proofs.Common.{arith}
use Rattle.pauli.proofs.Words.{below_shift, below_high}
use Rattle.pauli.proofs.bits.below.Goals as goal

pub returns-then-count-ge64 : goal.returns-then-count-ge64
returns-then-count-ge64 c = below_high c.args.word c.args.count (omega arith) (omega arith)

pub returns-else-count-ge64 : goal.returns-else-count-ge64
returns-else-count-ge64 c = below_shift c.args.word c.args.count
