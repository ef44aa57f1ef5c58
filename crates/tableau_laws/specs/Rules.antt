-- The row rules: what a gate and a measurement make of a tableau's rows.
use Rattle.std.specs.Prelude.{◌≡◌, ℕ, zero, suc, ◌+◌, ◌-◌, ◌<◌, Bool, false, cond, not, ◌&&◌, List, [], ◌∷◌, ◌==◌, nat_lt}
use Rattle.pauli.specs.declared.case.Case.{Case}
use Rattle.pauli.specs.declared.case.Case.TheVariants.{One, Two, Three, Four}
use Rattle.pauli.specs.declared.gate.Gate.{Gate}
use Rattle.pauli.specs.declared.label.Label.{Label}
use Rattle.pauli.specs.declared.row.Row.{Row}
use Rattle.pauli.specs.Bits.{xorb, odd, bit_of}
use Rattle.pauli.specs.Gates.{moved, carry}
use Rattle.pauli.specs.Labels.{plus, pairing}
use Rattle.pauli.specs.Rows.{row, times}
use Rattle.phase.specs.Effects.{first_coin}
use Rattle.phase.specs.Sheets.{Sheet}
use Rattle.tableau_laws.specs.Places.{glue, nth, total}
use Rattle.tableau_laws.specs.Tableaux.{Tableau, picked, sign_read, look_of, tableau_sheet}

-- the rows: m destabilizers, m stabilizers and 2w+1 Jordan-Wigner rows, in this order. Places beyond these mean nothing
pub record Rows : Type 0 where
  pub m : ℕ
  pub w : ℕ
  pub D : ℕ → Label
  pub E : ℕ → Row
  pub J : ℕ → Row

abbrev pub LawfulRows : ℕ → Rows → Type 0
LawfulRows n R = Tableau n R.m R.w R.D R.E R.J

abbrev pub sheet_of : ℕ → Rows → Sheet
sheet_of n R = tableau_sheet n R.m R.w R.D R.E R.J

abbrev pub look_rows : Rows → Label → Case × ℕ
look_rows R b = look_of R.m R.w R.E R.J b

-- the i-th of all rows, counted from 0
abbrev pub row_at : Rows → ℕ → Row
row_at R i = cond (nat_lt i R.m) (row (R.D i) false) (cond (nat_lt i (R.m + R.m)) (R.E (i - R.m)) (R.J (i - (R.m + R.m))))

-- all 2n+1 of them
abbrev pub listed : ℕ → (ℕ → Row) → List Row
listed zero f = []
listed (suc k) f = f 0 ∷ listed k (λ i. f (suc i))

abbrev pub all_rows : ℕ → Rows → List Row
all_rows n R = listed (n + n + 1) (row_at R)

-- the same rows
pub record SameRows (R S : Rows) : Type 0 where
  pub m_is : S.m ≡ R.m
  pub w_is : S.w ≡ R.w
  pub D_is : (i : ℕ) → i < R.m → S.D i ≡ R.D i
  pub E_is : (i : ℕ) → i < R.m → S.E i ≡ R.E i
  pub J_is : (i : ℕ) → i < R.w + R.w + 1 → S.J i ≡ R.J i

-- ---- gates

-- a gate changes every row, destabilizers by label only
abbrev pub gate_rows : Gate → Rows → Rows
gate_rows g R = record { m = R.m; w = R.w; D = λ i. moved g (R.D i); E = λ i. carry g (R.E i); J = λ i. carry g (R.J i) }

-- ---- Case 2

-- a coin 1 flips the sign of the Jordan-Wigner rows that anticommute with b: all but one
abbrev pub flipped : Label → Bool → Row → Row
flipped b coin r = row r.label (xorb r.sign (coin && odd (pairing r.label b)))

abbrev pub two_rows : Label → Bool → Rows → Rows
two_rows b coin R = record { m = R.m; w = R.w; D = R.D; E = R.E; J = λ i. flipped b coin (R.J i) }

-- ---- Case 4

abbrev pub against_b : (ℕ → Row) → Label → ℕ → Bool
against_b R b i = odd (pairing (R i).label b)

-- the place of the first stabilizer that anticommutes with b
abbrev pub first_against : ℕ → (ℕ → Row) → Label → ℕ
first_against m E b = nth (against_b E b) m 0

-- what anticommutes with b is multiplied by e
abbrev pub cleared : Label → Label → Label → Label
cleared b e a = cond (odd (pairing a b)) (plus a e) a

abbrev pub cleared_row : Label → Row → Row → Row
cleared_row b e r = cond (odd (pairing r.label b)) (times r e) r

-- with e the stabilizer at place k: its destabilizer takes its label, it becomes the row (b,v), and every other row that anticommutes with b
-- is multiplied by it
abbrev pub four_D : ℕ → Label → (ℕ → Row) → (ℕ → Label) → ℕ → Label
four_D k b E D i = cond (i == k) (E k).label (cleared b (E k).label (D i))

abbrev pub four_E : ℕ → Label → Bool → (ℕ → Row) → ℕ → Row
four_E k b v E i = cond (i == k) (row b v) (cleared_row b (E k) (E i))

abbrev pub four_J : ℕ → Label → (ℕ → Row) → (ℕ → Row) → ℕ → Row
four_J k b E J i = cleared_row b (E k) (J i)

abbrev pub four_at : ℕ → Label → Bool → Rows → Rows
four_at k b v R = record { m = R.m; w = R.w; D = four_D k b R.E R.D; E = four_E k b v R.E; J = four_J k b R.E R.J }

abbrev pub four_rows : Label → Bool → Rows → Rows
four_rows b v R = four_at (first_against R.m R.E b) b v R

-- ---- Case 3

-- the places of the Jordan-Wigner rows that anticommute with b, and of the rest, each in row order
abbrev pub p_of : (w : ℕ) (J : ℕ → Row) → Label → ℕ → ℕ
p_of w J b i = nth (against_b J b) (w + w + 1) i

abbrev pub q_of : (w : ℕ) (J : ℕ → Row) → Label → ℕ → ℕ
q_of w J b i = nth (λ j. not (against_b J b j)) (w + w + 1) i

-- the g's: the first is the label a, the others are those of the Jordan-Wigner rows at the places p
abbrev pub gs : Label → (ℕ → Row) → (ℕ → ℕ) → ℕ → Label
gs a J p zero = a
gs a J p (suc i) = (J (p (suc i))).label

-- each two of them make a pair, with the sum of all before the two added to both: the first is the stabilizer, the second the destabilizer
abbrev pub stab : (ℕ → Label) → ℕ → Label
stab g k = plus (g (k + k)) (total g (k + k))

abbrev pub dest : (ℕ → Label) → ℕ → Label
dest g k = plus (g (k + k + 1)) (total g (k + k))

-- g_1 as a row: (b,v) times c
abbrev pub first_g : Label → Bool → Rows → Row
first_g b v R = times (row b v) (picked R.D R.E b R.m)

abbrev pub g_of : Label → Bool → Rows → ℕ → Label
g_of b v R = gs (first_g b v R).label R.J (p_of R.w R.J b)

-- the first new stabilizer has the sign of g_1, and each later one its coin
abbrev pub new_sign : Row → ℕ → ℕ → Bool
new_sign g word zero = g.sign
new_sign g word (suc k) = bit_of word (suc k)

-- t pairs are appended; and the rest of the Jordan-Wigner rows stays, each times g_1
abbrev pub three_rows : ℕ → Label → Bool → ℕ → Rows → Rows
three_rows t b v word R = record {
  m = R.m + t;
  w = R.w - t;
  D = glue R.m R.D (dest (g_of b v R));
  E = glue R.m R.E (λ k. row (stab (g_of b v R) k) (new_sign (first_g b v R) word k));
  J = λ i. times (R.J (q_of R.w R.J b i)) (first_g b v R);
}

-- ---- the whole measurement of b with a sign, by a word of coins

abbrev pub rows_in : Case → ℕ → Label → Bool → ℕ → Rows → Rows
rows_in One t b sign word R = R
rows_in Two t b sign word R = two_rows b (first_coin word) R
rows_in Three t b sign word R = three_rows t b (xorb (first_coin word) sign) word R
rows_in Four t b sign word R = four_rows b (xorb (first_coin word) sign) R

abbrev pub outcome_in : Case → Label → Bool → ℕ → Rows → Bool
outcome_in One b sign word R = xorb (sign_read R.m R.w R.D R.E R.J b) sign
outcome_in Two b sign word R = xorb (sign_read R.m R.w R.D R.E R.J b) sign
outcome_in Three b sign word R = first_coin word
outcome_in Four b sign word R = first_coin word

abbrev pub measured_rows : Label → Bool → ℕ → Rows → Rows
measured_rows b sign word R = rows_in (look_rows R b).0 (look_rows R b).1 b sign word R

abbrev pub outcome_of : Label → Bool → ℕ → Rows → Bool
outcome_of b sign word R = outcome_in (look_rows R b).0 b sign word R
