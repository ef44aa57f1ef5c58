use Rattle.std.proofs.Common.{◌≡◌, None, sym, ◌∙◌, ap₂}
use Rattle.pauli.specs.Gates.{gate_fault}
use Rattle.tableau.specs.Kept.{gate_kept, placed_is}
use Rattle.tableau.proofs.tableau.Tableau.carry.Goals as goal

pub invariant_of-self : goal.invariant_of-self
invariant_of-self c =
    let s = c.args.self.now.rows in
    let g = c.in_ok-placed.placed.gate in
    let h = c.in_ok-placed.ensures in
    let ok : gate_fault s.size g ≡ None = ap₂ gate_fault (sym c.size.ensures) h.1 ∙ placed_is c.size.result c.args.gate h.0 in
    record { pattern = gate_kept s c.gate.new.self g c.args.self.now.pattern ok c.gate.ensures.size c.gate.ensures.rows }
