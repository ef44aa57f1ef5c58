use Rattle.std.proofs.Common.{[]}
use Rattle.carrying.specs.Carrying.{row_line}
use Rattle.carrying.proofs.Steps.{inside}
use Rattle.carrying.proofs.rows.row_line.Goals as goal

pub returns : goal.returns
returns c = record { line = c.line.ensures; within = inside (row_line c.args.size c.args.row []) _ _ _ c.line.ensures }
