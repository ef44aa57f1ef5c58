-- The rows as a reader counts them.
use Rattle.std.specs.Prelude.{ℕ, ◌+◌, ◌-◌, cond, ◌&&◌, Some, None, Option, nat_le}
use Rattle.pauli.specs.declared.row.Row.{Row}
use Rattle.tableau_laws.specs.Rules.{Rows, row_at}

-- how many rows there are
abbrev pub row_count : Rows → ℕ
row_count R = R.m + R.m + (R.w + R.w + 1)

-- the k-th, counted from 1
abbrev pub row_number : Rows → ℕ → Option Row
row_number R k = cond (nat_le 1 k && nat_le k (row_count R)) (Some (row_at R (k - 1))) None
