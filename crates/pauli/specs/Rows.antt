-- Rows: a label and a sign, and their product.
use Rattle.std.specs.Prelude.{Bool, false, List, [], ◌∷◌}
use Rattle.pauli.specs.declared.label.Label.{Label}
use Rattle.pauli.specs.declared.row.Row.{Row}
use Rattle.pauli.specs.Bits.{xorb, odd}
use Rattle.pauli.specs.Labels.{plus, beta, zero_label}

abbrev pub row : Label → Bool → Row
row a s = record { label = a; sign = s }

abbrev pub zero_row : Row
zero_row = row zero_label false

-- the labels' product, with both signs and the sign of that product added. It is the rule's for commuting rows alone
abbrev pub times : Row → Row → Row
times r s = row (plus r.label s.label) (xorb (xorb r.sign s.sign) (odd (beta r.label s.label)))

-- the product of a list of rows; of none it is the zero row
abbrev pub product : List Row → Row
product [] = zero_row
product (r ∷ rs) = times r (product rs)
