use Rattle.std.proofs.Common.{sym, refl, arith}
use Rattle.tableau_rows.specs.Parts.{row_in}
use Rattle.tableau_rows.proofs.Parts.{parted_yes, parted_no}
use Rattle.tableau_rows.proofs.store.passes.part.Goals as goal
use Rattle.tableau_rows.proofs.store.passes.part.Goals.{then-anticommutes, else-anticommutes}

pub loop-row-preserved : goal.loop-row-preserved
loop-row-preserved c =
    let b = c.args.b in
    let g = c.args.g in
    let xs = c.args.rows.now in
    let ys = c.loop-row.rest in
    let ls = c.loop-row.turned in
    let i = c.loop-row.row-index in
    let found = c.loop-row.found in
    let was = c.loop-row.invariant.0 in
    let sum = c.loop-row.invariant.1 in
    elim c.if-anticommutes.branch [
      | then-anticommutes w ↦
          rw (w.rest-is, w.turned-is, w.found-is, w.others-is)
          (parted_yes b g xs ys ls i found was (row_in xs i).label (sym w.if-anticommutes.ensures) (omega arith) refl, omega arith)
      | else-anticommutes w ↦
          rw (w.rest-is, w.turned-is, w.found-is, w.others-is)
          (parted_no b g xs ys ls i found was c.loop-row.others w.times.result (sym w.if-anticommutes.ensures) sum (omega arith) w.times.ensures, omega arith)
    ]
