use Rattle.std.proofs.Common.{rules}
use Rattle.pauli.specs.declared.letter.Letter.TheVariants.{I, X, Y, Z}
use Rattle.pauli.proofs.letter.letter_bits.Goals as goal

pub returns-in_err-try_from : goal.returns-in_err-try_from
returns-in_err-try_from c =
    let no = c.in_err-try_from.ensures.1 in
    let i = no I in
    let x = no X in
    let y = no Y in
    let z = no Z in
    search rules
