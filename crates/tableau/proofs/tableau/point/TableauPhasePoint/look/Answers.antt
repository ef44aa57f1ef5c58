use Rattle.tableau.specs.Kept.{look_answer}
use Rattle.tableau.proofs.tableau.point.TableauPhasePoint.look.Goals as goal

pub returns : goal.returns
returns c = look_answer c.args.self.now.rows c.args.b c.case_of.result c.args.self.now.pattern c.case_of.ensures
