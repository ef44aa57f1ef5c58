use Rattle.tableau.specs.Kept.{measure_answer}
use Rattle.tableau.proofs.tableau.point.TableauPhasePoint.measure.Goals as goal

pub returns : goal.returns
returns c =
    let t = c.args.self.now in
    record {
      done =
          measure_answer t.rows c.measure_rows.new.self.rows c.args.b c.args.sign c.args.coins c.measure_rows.result t.pattern
          c.measure_rows.ensures.done;
      kept = c.measure_rows.ensures.kept;
    }
