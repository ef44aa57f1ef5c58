use Rattle.tableau.specs.Kept.{opening_kept}
use Rattle.tableau.proofs.tableau.Tableau.open.Goals as goal

pub invariant_of-result : goal.invariant_of-result
invariant_of-result c =
    let h = c.in_ok-rows.ensures.1 in
    record { pattern = opening_kept c.args.n c.args.w c.in_ok-rows.rows h.0 h.1 }
