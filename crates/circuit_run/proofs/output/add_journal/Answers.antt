use Rattle.std.proofs.Common.{◌≤◌, length, arith}
use Rattle.circuit_run.proofs.Printing.{line_added, all_added}
use Rattle.circuit_run.proofs.output.add_journal.Goals as goal

pub loop-number-preserved : goal.loop-number-preserved
loop-number-preserved c = (
  omega arith,
  line_added _ c.loop-number.number _ c.unwrap.result _ _ _ _ c.loop-number.invariant.0 (omega arith) c.entry.ensures.reading c.unwrap.ensures
      c.loop-number.invariant.1 c.in_ok-add_entry.ensures,
)

-- the last line
pub returns-in_ok-add_entry : goal.returns-in_ok-add_entry
returns-in_ok-add_entry c =
    let k = c.loop-number.number in
    let last : length c.args.journal.now ≤ k = omega (arith, c.len-number-end.ensures.count) in
    all_added c.args.journal.now k _ _ last
    (line_added _ k k c.unwrap.result _ _ _ _ c.loop-number.invariant.0 (omega arith) c.entry.ensures.reading c.unwrap.ensures
    c.loop-number.invariant.1 c.in_ok-add_entry.ensures)
