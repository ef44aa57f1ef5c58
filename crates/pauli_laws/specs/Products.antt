-- A row that enters a product or is left out of it.
use Rattle.std.specs.Prelude.{Bool, cond}
use Rattle.pauli.specs.declared.row.Row.{Row}
use Rattle.pauli.specs.Rows.{zero_row}

abbrev pub chosen : Bool → Row → Row
chosen b r = cond b r zero_row
