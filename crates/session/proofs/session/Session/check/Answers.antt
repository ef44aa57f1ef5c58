-- A size from 1 to 64 leaves only the qubits to refuse.
use Rattle.std.proofs.Common.{◌≡◌, None, sym, ap, ◌∙◌, rules}
use Rattle.pauli.specs.Gates.{gate_fault, placing_fault}
use Rattle.session.proofs.Lawful.{placing, accepted_placeable}
use Rattle.session.proofs.session.Session.check.Goals as goal

pub returns-in_err-placed : goal.returns-in_err-placed
returns-in_err-placed g c =
    let L = g.met.P.ValueSheet.lawful c.args.self.now.point in
    let e = placing _ c.args.gate L.size in
    let n = c.size.ensures in
    let w = c.in_err-placed.ensures in
    search rules

pub returns : goal.returns
returns g c =
    let s = g.P.ValueSheet.sheet c.args.self.now.point in
    let L = g.met.P.ValueSheet.lawful c.args.self.now.point in
    let e : gate_fault s.n c.args.gate ≡ None =
    sym (placing s.n c.args.gate L.size) ∙ ap (λ n. placing_fault n c.args.gate) (sym c.size.ensures) ∙ c.in_ok-placed.ensures.0 in
    (e, accepted_placeable s.n c.args.gate L.size.1 e)
