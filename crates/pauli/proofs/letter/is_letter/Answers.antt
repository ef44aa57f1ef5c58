use Rattle.std.proofs.Common.{rules}
use Rattle.pauli.proofs.Texts.{read_letter}
use Rattle.pauli.proofs.letter.is_letter.Goals as goal

pub returns : goal.returns
returns c = search (rules, read_letter)
