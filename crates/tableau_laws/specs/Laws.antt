-- The laws of tableaus.
use Rattle.std.specs.Prelude.{◌≡◌, ℕ, ◌+◌, ◌-◌, ◌<◌, ◌≤◌, Bool, true, false, ◌≢◌, ◌⊎◌, Some, None}
use Rattle.pauli.specs.declared.gate.Gate.{Gate}
use Rattle.pauli.specs.declared.label.Label.{Label}
use Rattle.pauli.specs.declared.row.Row.{Row}
use Rattle.pauli.specs.Gates.{gate_fault}
use Rattle.pauli.specs.Labels.{Within, pairing, plus}
use Rattle.pauli.specs.Rows.{row, times}
use Rattle.phase.specs.Effects.{Gated, Measured}
use Rattle.phase.specs.LabelCases.{Looked}
use Rattle.phase.specs.Sheets.{Central, Lawful, Outer, Values}
use Rattle.pauli_laws.specs.Products.{chosen}
use Rattle.tableau_laws.specs.Opening.{opening}
use Rattle.tableau_laws.specs.Patterns.{given, pattern_ok, rows_ok}
use Rattle.tableau_laws.specs.Places.{total}
use Rattle.tableau_laws.specs.Rules.{LawfulRows, Rows, SameRows, first_against, gate_rows, look_rows, measured_rows, outcome_of, p_of, q_of, sheet_of}
use Rattle.tableau_laws.specs.Tableaux.{Tableau, jw_count, picked, stab_count}

-- the rows give a the value s: (a,s) is a product of stabilizers, or one times a Jordan-Wigner row
abbrev pub Gives : (m w : ℕ) (D : ℕ → Label) (E J : ℕ → Row) → Label → Bool → Type 0
Gives m w D E J a s = (row a s ≡ picked D E a m) ⊎ ((q : ℕ) × (q < w + w + 1) × (row a s ≡ times (picked D E a m) (J q)))

-- the values are those that the rows give, and no others
pub record Given (m w : ℕ) (D : ℕ → Label) (E J : ℕ → Row) (f : Values) : Type 0 where
  pub only : (a : Label) (s : Bool) → f a ≡ Some s → Gives m w D E J a s
  pub all : (a : Label) (s : Bool) → Gives m w D E J a s → f a ≡ Some s

-- a is a sum of some of the first m stabilizers' labels
abbrev pub SomeProduct : ℕ → (ℕ → Row) → Label → Type 0
SomeProduct m E a = (c : ℕ → Bool) × (a ≡ total (λ i. (chosen (c i) (E i)).label) m)

-- what the rows mean
pub record Meaning (n : ℕ) (R : Rows) : Type 0 where
  pub lawful : Lawful (sheet_of n R)
  pub values : Given R.m R.w R.D R.E R.J (sheet_of n R).value
  -- the centre is the products of stabilizers
  pub centre : (a : Label) → Central (sheet_of n R).value a → SomeProduct R.m R.E a
  pub centre_all : (a : Label) → SomeProduct R.m R.E a → Central (sheet_of n R).value a
  -- for a width above 0 each Jordan-Wigner row times it is a ray
  pub rays : (a : Label) → Outer (sheet_of n R).value a → (q : ℕ) × (q < R.w + R.w + 1) × Central (sheet_of n R).value (plus a (R.J q).label)
  pub rays_all : 0 < R.w → (a : Label) (q : ℕ) → q < R.w + R.w + 1 → Central (sheet_of n R).value (plus a (R.J q).label) → Outer (sheet_of n R).value a

abbrev pub MeaningLaw : Type 0
MeaningLaw = (n : ℕ) (R : Rows) → LawfulRows n R → Meaning n R

-- rows that are the same where they mean something mean the same
abbrev pub SameLaw : Type 0
SameLaw = (n : ℕ) (R S : Rows) → SameRows R S → LawfulRows n R → LawfulRows n S × (sheet_of n S ≡ sheet_of n R)

-- the two counts tell the case and the coins
abbrev pub LookLaw : Type 0
LookLaw = (n : ℕ) (R : Rows) → LawfulRows n R → (b : Label) → Within n b → Looked (sheet_of n R) b (look_rows R b).0 (look_rows R b).1

-- a gate on the rows is that gate on the sheet
abbrev pub GateLaw : Type 0
GateLaw = (n : ℕ) (R : Rows) (g : Gate) → LawfulRows n R → gate_fault n g ≡ None → LawfulRows n (gate_rows g R) × Gated (sheet_of n R) g (sheet_of n (gate_rows g R))

-- a measurement by the row rules is a measurement of the sheet
abbrev pub MeasureLaw : Type 0
MeasureLaw = (n : ℕ) (R : Rows) → LawfulRows n R → (b : Label) → Within n b → (sign : Bool) (word : ℕ)
    → LawfulRows n (measured_rows b sign word R) × Measured (sheet_of n R) b sign word (outcome_of b sign word R) (sheet_of n (measured_rows b sign word R))

-- ---- the places that the rules speak of

-- Case 4: the first stabilizer that anticommutes with b
pub record First (m : ℕ) (E : ℕ → Row) (b : Label) (k : ℕ) : Type 0 where
  pub below : k < m
  pub anticommutes : pairing (E k).label b ≡ 1
  pub first : (i : ℕ) → i < k → pairing (E i).label b ≡ 0

abbrev pub FirstLaw : Type 0
FirstLaw = (m : ℕ) (E : ℕ → Row) (b : Label) → stab_count m E b ≢ 0 → First m E b (first_against m E b)

-- Case 3: r places in row order, all of those below k where the row's pairing with b is x
pub record InOrder (J : ℕ → Row) (b : Label) (k x r : ℕ) (p : ℕ → ℕ) : Type 0 where
  pub below : (i : ℕ) → i < r → p i < k
  pub is : (i : ℕ) → i < r → pairing (J (p i)).label b ≡ x
  pub order : (i j : ℕ) → i < j → j < r → p i < p j
  pub all : (a : ℕ) → a < k → pairing (J a).label b ≡ x → (i : ℕ) × (i < r) × (p i ≡ a)

abbrev pub OrderLaw : Type 0
OrderLaw = (w : ℕ) (J : ℕ → Row) (b : Label)
    → InOrder J b (w + w + 1) 1 (jw_count w J b) (p_of w J b) × InOrder J b (w + w + 1) 0 (w + w + 1 - jw_count w J b) (q_of w J b)

-- ---- opening

abbrev pub OpeningLaw : Type 0
OpeningLaw = (n w : ℕ) → 1 ≤ n → n ≤ 64 → w ≤ n → LawfulRows n (opening n w)

-- the test of given rows, and of a tableau's own, is right both ways
pub record TestLaw : Type 0 where
  pub passed : (n w : ℕ) (R : ℕ → Row) → rows_ok n w R ≡ true → LawfulRows n (given n w R) × ((i : ℕ) → i < n - w → (R i).sign ≡ false)
  pub passes : (n w : ℕ) (R : ℕ → Row) → LawfulRows n (given n w R) → ((i : ℕ) → i < n - w → (R i).sign ≡ false) → rows_ok n w R ≡ true
  pub kept : (n w : ℕ) (D : ℕ → Label) (E J : ℕ → Row) → pattern_ok n w D E J ≡ true → Tableau n (n - w) w D E J
  pub keeps : (n w : ℕ) (D : ℕ → Label) (E J : ℕ → Row) → Tableau n (n - w) w D E J → pattern_ok n w D E J ≡ true
