use Rattle.std.proofs.Common.{◌∷◌, length, ap, arith, length-append}
use Rattle.text.specs.Texts.{num, gate_text}
use Rattle.text.proofs.write.gate_len.Goals as goal

pub returns-in-Cx : goal.returns-in-Cx
returns-in-Cx c =
    let a = c.number_len-in-Cx.ensures in
    let b = c.number_len-in-Cx-2.ensures in
    let e = ap (λ g. length (gate_text g)) c.in-Cx.is in
    let s = length-append (num c.in-Cx.control) (44 ∷ num c.in-Cx.target) in
    record { is = omega arith; few = omega arith }
