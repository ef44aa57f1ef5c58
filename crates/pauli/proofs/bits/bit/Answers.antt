use Rattle.std.proofs.Common.{rules}
use Rattle.pauli.proofs.Words.{no_bit}
use Rattle.pauli.proofs.bits.bit.Goals as goal

pub returns-else-i-lt64 : goal.returns-else-i-lt64
returns-else-i-lt64 c = search (rules, no_bit)
