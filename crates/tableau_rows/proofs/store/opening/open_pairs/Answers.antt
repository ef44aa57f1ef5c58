use Rattle.std.proofs.Common.{ℕ, false, ap, ◌∙◌, arith, length-set}
use Rattle.pauli.specs.declared.label.Label.{Label}
use Rattle.pauli.specs.declared.row.Row.{Row}
use Rattle.pauli.specs.Rows.{row}
use Rattle.tableau_laws.specs.Opening.{open_D, open_E}
use Rattle.tableau_rows.specs.Parts.{zero_pair}
use Rattle.tableau_rows.proofs.Counted.{put_more}
use Rattle.tableau_rows.proofs.Words.{shifted, open_D_is, open_E_is}
use Rattle.tableau_rows.proofs.store.opening.open_pairs.Goals as goal

pub loop-j-preserved : goal.loop-j-preserved
loop-j-preserved c =
    let j = c.loop-j.j in
    let x : ℕ → Label = λ n. record { x = n; z = 0 } in
    let z : ℕ → Row = λ n. row (record { x = 0; z = n }) false in
    let bit = shifted j (omega arith) in
    record {
      destabilizers =
          put_more zero_pair (λ p. p.destabilizer) open_D c.loop-j.pair-items j _ (omega arith)
          (ap x bit ∙ open_D_is j) c.loop-j.invariant.destabilizers;
      stabilizers =
          put_more zero_pair (λ p. p.stabilizer) open_E c.loop-j.pair-items j _ (omega arith)
          (c.plus.ensures ∙ ap z bit ∙ open_E_is j) c.loop-j.invariant.stabilizers;
      len = simp length-set c.loop-j.invariant.len;
    }
