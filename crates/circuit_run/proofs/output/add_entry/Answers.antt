use Rattle.std.proofs.Common.{refl}
use Rattle.circuit_run.proofs.Printing.{page_holds, page_part, part_added}
use Rattle.circuit_run.proofs.output.add_entry.Goals as goal

pub unwrap-length-requires : goal.unwrap-length-requires
unwrap-length-requires c = page_holds c.args.entry _ _ _ refl c.write_line.ensures

pub returns : goal.returns
returns c =
    part_added c.extend_from_slice.result _ _ _ _ c.extend_from_slice.ensures.items
    (page_part c.args.entry _ _ _ _ c.unwrap-length.ensures c.write_line.ensures)
