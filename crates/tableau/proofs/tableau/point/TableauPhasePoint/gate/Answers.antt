use Rattle.tableau.specs.Kept.{gate_answer}
use Rattle.tableau.proofs.tableau.point.TableauPhasePoint.gate.Goals as goal

pub returns : goal.returns
returns c =
    let t = c.args.self.now in
    record { done = gate_answer t.rows c.carry.new.self.rows c.args.g c.carry.result t.pattern c.carry.ensures.done; kept = c.carry.ensures.kept }
