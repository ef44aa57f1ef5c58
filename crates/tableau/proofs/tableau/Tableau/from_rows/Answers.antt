use Rattle.tableau.specs.Kept.{given_kept}
use Rattle.tableau.proofs.tableau.Tableau.from_rows.Goals as goal

pub invariant_of-result : goal.invariant_of-result
invariant_of-result c =
    let h = c.in_ok-rows.ensures in
    record { pattern = given_kept c.args.n c.args.w c.args.given.now c.in_ok-rows.rows h.0 h.1.0 h.1.1 }
