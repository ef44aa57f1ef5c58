use Rattle.std.proofs.Common.{◌≡◌, ℕ, ◌+◌, ◌*◌, sym, ap, ◌∙◌, ap₂, arith}
use Rattle.pauli.specs.declared.label.Label.{Label}
use Rattle.pauli.specs.Labels.{plus}
use Rattle.pauli.specs.Rows.{row}
use Rattle.tableau_rows.specs.Parts.{label_in}
use Rattle.tableau_rows.proofs.Parts.{paired_more, total_two}
use Rattle.tableau_rows.proofs.store.passes.pair_up.Goals as goal

pub loop-k-preserved : goal.loop-k-preserved
loop-k-preserved c =
    let g : ℕ → Label = label_in c.args.labels.now in
    let k = c.loop-k.k in
    let even : 2 * k ≡ k + k = omega arith in
    let after : 2 * k + 1 ≡ k + k + 1 = omega arith in
    let sum = c.loop-k.invariant.0 in (
      c.product-sum.ensures ∙ ap₂ plus (ap g after) (c.product-in-loop-k-2.ensures ∙ ap₂ plus (ap g even) sum) ∙ sym (total_two g k),
      paired_more g c.args.g c.args.coins c.loop-k.pairs k _ c.loop-k.invariant.1 (omega arith)
          (c.product.ensures ∙ ap₂ plus (ap g after) sum)
          (ap₂ row (c.product-in-loop-k.ensures ∙ ap₂ plus (ap g even) sum) c.new_sign.ensures),
    )
