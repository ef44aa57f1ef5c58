-- The laws of value sheets that points are built on.
use Rattle.std.specs.Prelude.{◌≡◌, ℕ, ◌+◌, ◌-◌, ◌<◌, ◌≤◌, Bool, cond, ◌&&◌, Some, None, Option}
use Rattle.pauli.specs.declared.case.Case.{Case}
use Rattle.pauli.specs.declared.case.Case.TheVariants.{Three, Four}
use Rattle.pauli.specs.declared.gate.Gate.{Gate}
use Rattle.pauli.specs.declared.label.Label.{Label}
use Rattle.pauli.specs.Bits.{xorb, odd}
use Rattle.pauli.specs.Gates.{moved, flips, gate_fault}
use Rattle.pauli.specs.Labels.{plus, pairing, beta, Within}
use Rattle.phase.specs.Effects.{signed, Kept}
use Rattle.phase.specs.LabelCases.{InCase, Against, Looked}
use Rattle.phase.specs.Sheets.{Values, Sheet, Valued, Central, Lawful}
use Rattle.pauli_laws.specs.Carriers.{Carries}
use Rattle.sheet_laws.specs.Closed.{Closed}

-- a sheet of the same size and width with other values
abbrev pub with_values : Sheet → Values → Sheet
with_values s g = record { n = s.n; width = s.width; value = g }

-- the working form of a whole sheet
abbrev pub Opened : Sheet → Type 0
Opened s = Closed s.n (s.n - s.width) (s.width + s.width + 1) s.value

-- the laws and their working form say the same
pub record SameLaws : Type 0 where
  pub opened : (s : Sheet) → Lawful s → Opened s
  pub closed : (s : Sheet) → (1 ≤ s.n) × (s.n ≤ 64) → s.width ≤ s.n → Opened s → Lawful s

-- ---- carried sheets

-- g has at U a the value of a with d a added, and none where a has none; and it values labels of n qubits alone
pub record Carried (n : ℕ) (U : Label → Label) (d : Label → Bool) (f g : Values) : Type 0 where
  pub at : (a : Label) → Within n a → g (U a) ≡ signed (d a) (f a)
  pub within : (a : Label) → Valued g a → Within n a

-- a lawful sheet that is carried stays lawful
abbrev pub Transport : Type 0
Transport = (s : Sheet) (g : Values) (U V : Label → Label) (d : Label → Bool) → Lawful s → Carries s.n U V d → Carried s.n U d s.value g
    → Lawful (with_values s g)

-- so a gate keeps the laws
abbrev pub GateLaw : Type 0
GateLaw = (s : Sheet) (g : Values) (t : Gate) → Lawful s → gate_fault s.n t ≡ None → Carried s.n (moved t) (flips t) s.value g
    → Lawful (with_values s g)

-- Case 2 keeps the laws: [b,a] is added to the value of every valued a, if the coin is 1
abbrev pub CaseTwo : Type 0
CaseTwo = (s : Sheet) (g : Values) (b : Label) (coin : Bool) → Lawful s → ((a : Label) → g a ≡ signed (coin && odd (pairing b a)) (s.value a))
    → Lawful (with_values s g)

-- Case 4 keeps the laws: a centre label e anticommutes with b
abbrev pub CaseFour : Type 0
CaseFour = (s : Sheet) (g : Values) (b e : Label) (v : Bool) → Lawful s → Within s.n b → Central s.value e → pairing e b ≡ 1
    → Kept s.value g b v → Lawful (with_values s g)

-- the values that a measurement of b states: those of the labels that commute with b, and of their products with the row (b,v)
abbrev pub joined : Option Bool → Option Bool → Bool → Option Bool
joined (Some u) o x = Some u
joined None None x = None
joined None (Some u) x = Some (xorb u x)

abbrev pub stated : Values → Label → Bool → Values
stated f b v a = cond (odd (pairing a b)) None (joined (f a) (f (plus a b)) (xorb v (odd (beta (plus a b) b))))

-- where b is unvalued there are such values
abbrev pub Stated : Type 0
Stated = (s : Sheet) → Lawful s → (b : Label) (v : Bool) → s.value b ≡ None → Kept s.value (stated s.value b v) b v

-- ---- what the laws pin down

-- a label of n qubits that commutes with every valued label is in the centre
abbrev pub Maximal : Type 0
Maximal = (s : Sheet) → Lawful s → (b : Label) → Within s.n b → ((a : Label) → Valued s.value a → pairing a b ≡ 0) → Central s.value b

-- a lawful sheet that has all values of another of the same size and width has no more
abbrev pub Inclusion : Type 0
Inclusion = (s : Sheet) (g : Values) → Lawful s → Lawful (with_values s g)
    → ((a : Label) (u : Bool) → s.value a ≡ Some u → g a ≡ Some u) → (a : Label) → s.value a ≡ g a

-- the four cases
pub record CaseLaws : Type 0 where
  -- every label has a case
  pub some : (s : Sheet) → Lawful s → (b : Label) → (c : Case) × InCase s.value b c
  -- and no more than one
  pub one : (f : Values) (b : Label) (c d : Case) → InCase f b c → InCase f b d → c ≡ d
  -- in Case 4 a centre label anticommutes with it
  pub four : (s : Sheet) → Lawful s → (b : Label) → InCase s.value b Four → (e : Label) × Central s.value e × (pairing e b ≡ 1)
  -- in Case 3 exactly 2t rays do, for some t from 1 to less than the width, however the rays are numbered
  pub three : (s : Sheet) → Lawful s → (b : Label) → Within s.n b → InCase s.value b Three
      → (t : ℕ) × (1 ≤ t) × (t < s.width) × Against s b t
  -- so a look has an answer for every label of n qubits
  pub looks : (s : Sheet) → Lawful s → (b : Label) → Within s.n b → (c : Case) × (k : ℕ) × Looked s b c k
  -- and in Case 3 it tells of such a t
  pub coins : (s : Sheet) → Lawful s → (b : Label) → Within s.n b → (t : ℕ) → Looked s b Three t → (1 ≤ t) × (t < s.width)
