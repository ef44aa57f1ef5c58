use Rattle.std.proofs.Common.{◌≡◌, drop, vec_items}
use Rattle.std.proofs.lemmas.Result.{IfOk-weaker}
use Rattle.carrying.specs.declared.report.Report.{Report}
use Rattle.carrying.specs.Carrying.{Gates, Carried}
use Rattle.carrying.proofs.Steps.{carried_on}
use Rattle.carrying.proofs.carry.carry.Goals as goal

pub returns-in-Ok : goal.returns-in-Ok
returns-in-Ok c =
    let s = c.in-Ok.carrier in
    IfOk-weaker c.through_gates.result
    (λ (p : Report). (p.size ≡ s.size) × Gates s.size s.row 2 (drop s.lines.at s.lines.text.now) (vec_items p.rows) p.ending)
    (λ (p : Report). Carried c.args.text.now p.size (vec_items p.rows) p.ending)
    (λ p h. carried_on c.args.text s p.size (vec_items p.rows) p.ending c.in-Ok.ensures h.0 h.1)
    c.through_gates.ensures
