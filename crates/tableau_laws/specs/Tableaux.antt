-- The rows of a tableau by place, their pattern, and the value sheet that they mean.
use Rattle.std.specs.Prelude.{◌≡◌, ℕ, zero, suc, ◌+◌, ◌/◌, ◌<◌, ◌≤◌, Bool, cond, ◌&&◌, ◌≢◌, Some, None, ◌==◌}
use Rattle.pauli.specs.declared.case.Case.{Case}
use Rattle.pauli.specs.declared.case.Case.TheVariants.{One, Two, Three, Four}
use Rattle.pauli.specs.declared.label.Label.{Label}
use Rattle.pauli.specs.declared.row.Row.{Row}
use Rattle.pauli.specs.Bits.{odd}
use Rattle.pauli.specs.Labels.{pairing, zero_label, Within, fits}
use Rattle.pauli.specs.Rows.{times, zero_row}
use Rattle.phase.specs.LabelCases.{against}
use Rattle.phase.specs.Sheets.{Values, Sheet}
use Rattle.pauli_laws.specs.Products.{chosen}
use Rattle.tableau_laws.specs.Places.{total}

-- the labels of rows
abbrev pub labels : (ℕ → Row) → ℕ → Label
labels R i = (R i).label

-- The pattern: m destabilizers D, m stabilizers E and 2w+1 Jordan-Wigner rows J of n qubits. Destabilizers have no sign of their own: as rows
-- they have sign 0
pub record Tableau (n m w : ℕ) (D : ℕ → Label) (E J : ℕ → Row) : Type 0 where
  pub qubits : (1 ≤ n) × (n ≤ 64)
  pub size : m + w ≡ n
  pub D_within : (i : ℕ) → i < m → Within n (D i)
  pub E_within : (i : ℕ) → i < m → Within n (E i).label
  pub J_within : (i : ℕ) → i < w + w + 1 → Within n (J i).label
  -- a stabilizer anticommutes with its own destabilizer and no other
  pub ed : (i : ℕ) → i < m → pairing (E i).label (D i) ≡ 1
  pub ed' : (i j : ℕ) → i < m → j < m → i ≢ j → pairing (E i).label (D j) ≡ 0
  -- destabilizers commute, and so do stabilizers
  pub dd : (i j : ℕ) → i < m → j < m → pairing (D i) (D j) ≡ 0
  pub ee : (i j : ℕ) → i < m → j < m → pairing (E i).label (E j).label ≡ 0
  -- Jordan-Wigner rows commute with both, anticommute with each other, and their labels sum to the zero label
  pub je : (i j : ℕ) → i < w + w + 1 → j < m → pairing (J i).label (E j).label ≡ 0
  pub jd : (i j : ℕ) → i < w + w + 1 → j < m → pairing (J i).label (D j) ≡ 0
  pub jj : (i j : ℕ) → i < w + w + 1 → j < w + w + 1 → i ≢ j → pairing (J i).label (J j).label ≡ 1
  pub sums : total (labels J) (w + w + 1) ≡ zero_label
  -- at width 0 the one Jordan-Wigner row is zero with sign 0
  pub alone : w ≡ 0 → J 0 ≡ zero_row

-- c: the product of those of the first m stabilizers whose destabilizers anticommute with b
abbrev pub picked : (ℕ → Label) → (ℕ → Row) → Label → ℕ → Row
picked D E b zero = zero_row
picked D E b (suc m) = times (picked D E b m) (chosen (odd (pairing (D m) b)) (E m))

-- how many stabilizers, and how many Jordan-Wigner rows, anticommute with b
abbrev pub stab_count : (m : ℕ) (E : ℕ → Row) → Label → ℕ
stab_count m E b = against (labels E) b m

abbrev pub jw_count : (w : ℕ) (J : ℕ → Row) → Label → ℕ
jw_count w J b = against (labels J) b (w + w + 1)

-- of the first k rows, the last that commutes with b. (Where it is asked for, only one does)
abbrev pub fellow : (ℕ → Row) → Label → ℕ → Row
fellow J b zero = zero_row
fellow J b (suc k) = cond (odd (pairing (J k).label b)) (fellow J b k) (J k)

-- the sign read where b is valued: of c where b commutes with all Jordan-Wigner rows, else of c times the one that commutes with b
abbrev pub sign_read : (m w : ℕ) (D : ℕ → Label) (E J : ℕ → Row) → Label → Bool
sign_read m w D E J b = cond (jw_count w J b == 0) (picked D E b m).sign (times (picked D E b m) (fellow J b (w + w + 1))).sign

-- the case of b and the coins that its measurement needs, by the two counts
abbrev pub look_of : (m w : ℕ) (E J : ℕ → Row) → Label → Case × ℕ
look_of m w E J b =
    cond (stab_count m E b == 0)
    (cond (jw_count w J b == 0) (One, 0)
    (cond (jw_count w J b == w + w) (Two, 1) (Three, jw_count w J b / 2)))
    (Four, 1)

-- the value of a label: the sign read if it commutes with all stabilizers, and with all Jordan-Wigner rows or exactly one
abbrev pub answer : (n m w : ℕ) (D : ℕ → Label) (E J : ℕ → Row) → Values
answer n m w D E J a =
    cond (fits n a && stab_count m E a == 0)
    (cond (jw_count w J a == 0) (Some (picked D E a m).sign)
    (cond (jw_count w J a == w + w) (Some (times (picked D E a m) (fellow J a (w + w + 1))).sign) None))
    None

abbrev pub tableau_sheet : (n m w : ℕ) (D : ℕ → Label) (E J : ℕ → Row) → Sheet
tableau_sheet n m w D E J = record { n = n; width = w; value = answer n m w D E J }
