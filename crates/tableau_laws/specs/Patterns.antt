-- A test of the pattern over 2n+1 given rows, and over the rows of a tableau.
use Rattle.std.specs.Prelude.{ℕ, ◌+◌, ◌-◌, Bool, not, ◌&&◌, ◌||◌, ◌==◌, nat_le, nat_lt}
use Rattle.std.specs.Bool.{beq}
use Rattle.pauli.specs.declared.label.Label.{Label}
use Rattle.pauli.specs.declared.row.Row.{Row}
use Rattle.pauli.specs.Bits.{odd}
use Rattle.pauli.specs.Labels.{pairing, fits, size_ok}
use Rattle.tableau_laws.specs.Places.{total, all_below}
use Rattle.tableau_laws.specs.Rules.{Rows, row_at}

-- whether the rows at places j and i, j before i, are to anticommute: a destabilizer and its own stabilizer, or two Jordan-Wigner rows
abbrev pub meets : ℕ → ℕ → ℕ → Bool
meets m j i = (nat_lt j m && i == m + j) || nat_le (m + m) j

-- the row at place i is of n qubits, and stands to each row before it as it is to
abbrev pub place_ok : ℕ → ℕ → (ℕ → Row) → ℕ → Bool
place_ok n m R i = fits n (R i).label && all_below i (λ j. beq (odd (pairing (R j).label (R i).label)) (meets m j i))

abbrev pub is_zero : Label → Bool
is_zero a = a.x == 0 && a.z == 0

-- the Jordan-Wigner labels, from place 2m on, sum to the zero label
abbrev pub sum_ok : ℕ → ℕ → (ℕ → Row) → Bool
sum_ok m w R = is_zero (total (λ i. (R (m + m + i)).label) (w + w + 1))

-- destabilizers have sign 0, and at width 0 so has the one Jordan-Wigner row
abbrev pub signs_ok : ℕ → ℕ → (ℕ → Row) → Bool
signs_ok m w R = all_below m (λ i. not (R i).sign) && (nat_lt 0 w || not (R (m + m)).sign)

-- 2n+1 rows are of the pattern, at a size and a width that there are
abbrev pub rows_ok : ℕ → ℕ → (ℕ → Row) → Bool
rows_ok n w R = size_ok n && (nat_le w n && (all_below (n + n + 1) (place_ok n (n - w) R) && (sum_ok (n - w) w R && signs_ok (n - w) w R)))

-- given rows by kind: the first m, the next m, and the rest
abbrev pub given : ℕ → ℕ → (ℕ → Row) → Rows
given n w R = record { m = n - w; w = w; D = λ i. (R i).label; E = λ i. R (n - w + i); J = λ i. R (n - w + (n - w) + i) }

-- the test over the rows of a tableau
abbrev pub pattern_ok : ℕ → ℕ → (ℕ → Label) → (ℕ → Row) → (ℕ → Row) → Bool
pattern_ok n w D E J = rows_ok n w (row_at (record { m = n - w; w = w; D = D; E = E; J = J }))
