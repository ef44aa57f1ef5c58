-- A reading is the line of the entry.
use Rattle.std.proofs.Common.{subst}
use Rattle.std.proofs.lemmas.Result.{err_from_is_err_and}
use Rattle.text.specs.Lines.{Filled}
use Rattle.journal_lines.specs.Lines.{line}
use Rattle.runs.proofs.Readings.{read_refused, read_written}
use Rattle.session.proofs.session.Session.read.Goals as goal

pub returns-in_err-entry-clause-line : goal.returns-in_err-entry-clause-line
returns-in_err-entry-clause-line g c =
    let p = err_from_is_err_and c.from_residual.result c.from_residual.ensures.1 in
    rw (p.1, p.2) (read_refused _ c.args.entry _ c.args.out.now c.in_err-entry.ensures.reading)

pub returns-clause-line : goal.returns-clause-line
returns-clause-line g c =
    let e = c.in_ok-entry.field-0 in
    let w = c.in_ok-entry.ensures.reading in
    read_written _ c.args.entry e.event c.args.out.now c.write_line.new.out c.write_line.result w.1
    (subst (λ n. Filled (line n e.event) c.args.out.now c.write_line.new.out c.write_line.result) w.0 c.write_line.ensures)
