use Rattle.std.proofs.Common.{◌-◌, true, false, sym, ap, ◌∙◌, ap₂, arith}
use Rattle.pauli.specs.Bits.{odd}
use Rattle.pauli.specs.Labels.{pairing}
use Rattle.pauli.specs.Rows.{times}
use Rattle.tableau_rows.specs.declared.store.Pair.{Pair}
use Rattle.tableau_rows.specs.Held.{D_of, E_of}
use Rattle.tableau_rows.specs.Parts.{zero_pair}
use Rattle.tableau_rows.proofs.Questions.{used_at, picked_more}
use Rattle.tableau_rows.proofs.store.RowStore.picked.Goals as goal
use Rattle.tableau_rows.proofs.store.RowStore.picked.Goals.{then-anticommutes, else-anticommutes}

pub loop-pair-preserved : goal.loop-pair-preserved
loop-pair-preserved c =
    let s = c.args.self.now in
    let b = c.args.b in
    let j = c.loop-pair.pair-index in
    let here = used_at s.pairs _ (s.size - s.width) c.pairs-pair-items.ensures.rows zero_pair j (omega arith) in
    let test = ap (λ (p : Pair). odd (pairing p.destabilizer b)) (sym here) in
    let more = picked_more (D_of s) (E_of s) b j in
    elim c.if-anticommutes.branch [
      | then-anticommutes w ↦
          w.product-is ∙ w.times-product.ensures ∙ ap₂ times c.loop-pair.invariant (ap (λ (p : Pair). p.stabilizer) here)
          ∙ sym (more true (test ∙ sym w.if-anticommutes.ensures))
      | else-anticommutes w ↦ w.product-is ∙ c.loop-pair.invariant ∙ sym (more false (test ∙ sym w.if-anticommutes.ensures))
    ]
