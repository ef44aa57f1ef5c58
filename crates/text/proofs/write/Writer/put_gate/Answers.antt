use Rattle.std.proofs.Common.{◌∷◌, sym, ap, ◌∙◌}
use Rattle.text.specs.Texts.{num, gate_text}
use Rattle.text.proofs.Writing.{next, recast}
use Rattle.text.proofs.write.Writer.put_gate.Goals as goal

pub returns-in-One : goal.returns-in-One
returns-in-One c =
    recast _ (ap (λ b. b ∷ 44 ∷ num c.in-One.qubit) c.code.ensures ∙ ap gate_text (sym c.in-One.is))
    (next c.put.ensures c.put_next.ensures)

pub returns-in-Cx : goal.returns-in-Cx
returns-in-Cx c =
    recast _ (ap gate_text (sym c.in-Cx.is))
    (next c.put-in-Cx.ensures (next c.put-in-Cx-2.ensures (next c.put_next-in-Cx.ensures c.put_next-in-Cx-2.ensures)))
