-- Lists of rows, of labels and of pairs by place; and the two passes of Case 3: Jordan-Wigner rows parted in two, and labels paired up.
use Rattle.std.specs.Prelude.{◌≡◌, ℕ, ◌<◌, not, List, slice_index_or}
use Rattle.std.specs.Borrow.{MutBor}
use Rattle.pauli.specs.declared.label.Label.{Label}
use Rattle.pauli.specs.declared.row.Row.{Row}
use Rattle.pauli.specs.Labels.{zero_label}
use Rattle.pauli.specs.Rows.{row, times, zero_row}
use Rattle.tableau_laws.specs.Places.{count, nth}
use Rattle.tableau_laws.specs.Rules.{against_b, stab, dest, new_sign}
use Rattle.tableau_rows.specs.declared.store.Pair.{Pair}

abbrev pub row_in : List Row → ℕ → Row
row_in xs i = slice_index_or xs i zero_row

abbrev pub label_in : List Label → ℕ → Label
label_in ls i = slice_index_or ls i zero_label

abbrev pub zero_pair : Pair
zero_pair = record { destabilizer = zero_label; stabilizer = zero_row }

abbrev pub pair_in : List Pair → ℕ → Pair
pair_in ps i = slice_index_or ps i zero_pair

-- a call of a change, by what it may leave, makes x into x'
pub record Changes {A : Type 0} (post : MutBor A → Unit {0} → MutBor A → Type 0) (x x' : A) : Type 0 where
  pub shown : MutBor A
  pub shows : shown.now ≡ x
  pub left : MutBor A
  pub leaves : left.now ≡ x'
  pub met : post shown tt left

-- of the first i rows of xs: the labels of those that anticommute with b stand in ls, and the others in ys, each times g, both in row order
pub record Parted (b : Label) (g : Row) (xs ys : List Row) (ls : List Label) (i found : ℕ) : Type 0 where
  pub found_is : found ≡ count (against_b (row_in xs) b) i
  pub ps : (k : ℕ) → k < count (against_b (row_in xs) b) i → label_in ls k ≡ (row_in xs (nth (against_b (row_in xs) b) i k)).label
  pub qs : (k : ℕ) → k < count (λ j. not (against_b (row_in xs) b j)) i
      → row_in ys k ≡ times (row_in xs (nth (λ j. not (against_b (row_in xs) b j)) i k)) g

-- the first k of the pairs ps are made of the labels g
pub record Paired (g : ℕ → Label) (first : Row) (word : ℕ) (ps : List Pair) (k : ℕ) : Type 0 where
  pub D_new : (i : ℕ) → i < k → (pair_in ps i).destabilizer ≡ dest g i
  pub E_new : (i : ℕ) → i < k → (pair_in ps i).stabilizer ≡ row (stab g i) (new_sign first word i)
