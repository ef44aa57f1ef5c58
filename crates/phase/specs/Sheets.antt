-- Value sheets and their laws.
use Rattle.std.specs.Prelude.{◌≡◌, ℕ, ◌+◌, ◌-◌, ◌^◌, ◌<◌, ◌≤◌, Bool, false, ◌≢◌, Some, Option}
use Rattle.pauli.specs.declared.label.Label.{Label}
use Rattle.pauli.specs.Bits.{xorb, odd}
use Rattle.pauli.specs.Labels.{plus, pairing, beta, zero_label, Within}

-- no value, 0 or 1 for each label
abbrev pub Values : Type 0
Values = Label → Option Bool

-- n qubits, a width, and the values
pub record Sheet : Type 0 where
  pub n : ℕ
  pub width : ℕ
  pub value : Values

abbrev pub Valued : Values → Label → Type 0
Valued f a = (v : Bool) × (f a ≡ Some v)

-- the centre: the valued labels that commute with every valued label
pub record Central (f : Values) (a : Label) : Type 0 where
  pub valued : Valued f a
  pub commutes : (b : Label) → Valued f b → pairing a b ≡ 0

-- the other valued labels
pub record Outer (f : Values) (a : Label) : Type 0 where
  pub valued : Valued f a
  pub outside : Central f a → ⊥

-- N labels are so, no more and no fewer: they can be numbered, each once
pub record Exactly (P : Label → Type 0) (N : ℕ) : Type 0 where
  pub at : ℕ → Label
  pub is : (i : ℕ) → i < N → P (at i)
  pub once : (i j : ℕ) → i < N → j < N → at i ≡ at j → i ≡ j
  pub all : (a : Label) → P a → (i : ℕ) × (i < N) × (at i ≡ a)

-- the valued labels outside the centre are k rays of N labels: the j-th label of the i-th ray is `at i j`. Labels of one ray differ by a
-- centre label, and labels of different rays anticommute
pub record Rays (f : Values) (k N : ℕ) : Type 0 where
  pub at : ℕ → ℕ → Label
  pub is : (i j : ℕ) → i < k → j < N → Outer f (at i j)
  pub once : (i j l : ℕ) → i < k → j < N → l < N → at i j ≡ at i l → j ≡ l
  pub all : (a : Label) → Outer f a → (i : ℕ) × (j : ℕ) × (i < k) × (j < N) × (at i j ≡ a)
  pub same : (i j l : ℕ) → i < k → j < N → l < N → Central f (plus (at i j) (at i l))
  pub apart : (h i j l : ℕ) → h < k → i < k → h ≢ i → j < N → l < N → pairing (at h j) (at i l) ≡ 1

-- a sheet's own rays: 2w+1 of 2^(n-w) labels
abbrev pub SheetRays : Sheet → Type 0
SheetRays s = Rays s.value (s.width + s.width + 1) (2 ^ (s.n - s.width))

-- the laws of every value sheet
pub record Lawful (s : Sheet) : Type 0 where
  pub size : (1 ≤ s.n) × (s.n ≤ 64)
  -- only labels of n qubits are valued
  pub within : (a : Label) → Valued s.value a → Within s.n a
  pub zero : s.value zero_label ≡ Some false
  -- products of commuting valued labels follow the sign rule
  pub product : (a b : Label) (u v : Bool) → s.value a ≡ Some u → s.value b ≡ Some v → pairing a b ≡ 0
      → s.value (plus a b) ≡ Some (xorb (xorb u v) (odd (beta a b)))
  pub narrow : s.width ≤ s.n
  pub centre : Exactly (Central s.value) (2 ^ (s.n - s.width))
  -- with width 0 nothing else is valued; otherwise the others form the rays
  pub none : s.width ≡ 0 → (a : Label) → Outer s.value a → ⊥
  pub rays : 0 < s.width → SheetRays s
