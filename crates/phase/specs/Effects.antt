-- What a gate and a measurement do to a value sheet.
use Rattle.std.specs.Prelude.{◌≡◌, ℕ, ◌+◌, Bool, ◌&&◌, ◌⊎◌, Some, None, Option}
use Rattle.pauli.specs.declared.case.Case.{Case}
use Rattle.pauli.specs.declared.case.Case.TheVariants.{One, Two, Three, Four}
use Rattle.pauli.specs.declared.gate.Gate.{Gate}
use Rattle.pauli.specs.declared.label.Label.{Label}
use Rattle.pauli.specs.Bits.{xorb, odd}
use Rattle.pauli.specs.Gates.{moved, flips}
use Rattle.pauli.specs.Labels.{plus, pairing, beta, Within}
use Rattle.phase.specs.LabelCases.{Looked}
use Rattle.phase.specs.Sheets.{Values, Sheet, Valued}

-- a value with a sign added; no value stays none
abbrev pub signed : Bool → Option Bool → Option Bool
signed d None = None
signed d (Some v) = Some (xorb v d)

-- a gate: where it carries a to a' and adds the sign d, a' afterwards has the old value of a plus d
pub record Gated (s : Sheet) (g : Gate) (s' : Sheet) : Type 0 where
  pub same_n : s'.n ≡ s.n
  pub same_width : s'.width ≡ s.width
  pub carried : (a : Label) → Within s.n a → s'.value (moved g a) ≡ signed (flips g a) (s.value a)

-- Cases 1 and 2: the outcome is the value of b plus the sign measured
abbrev pub Reads : Values → Label → Bool → Bool → Type 0
Reads f b sign outcome = signed sign (f b) ≡ Some outcome

-- Case 1: nothing changes
pub record Unchanged (s s' : Sheet) : Type 0 where
  pub same_n : s'.n ≡ s.n
  pub same_width : s'.width ≡ s.width
  pub values : (a : Label) → s'.value a ≡ s.value a

-- Case 2: a coin 1 adds [b,a] to the value of every valued a
pub record Turned (s : Sheet) (b : Label) (coin : Bool) (s' : Sheet) : Type 0 where
  pub same_n : s'.n ≡ s.n
  pub same_width : s'.width ≡ s.width
  pub values : (a : Label) → s'.value a ≡ signed (coin && odd (pairing b a)) (s.value a)

-- b has the value v, valued labels that commute with b keep theirs, their products with b follow the sign rule, and nothing else is valued
pub record Kept (f g : Values) (b : Label) (v : Bool) : Type 0 where
  pub new : g b ≡ Some v
  pub keep : (a : Label) (u : Bool) → f a ≡ Some u → pairing a b ≡ 0 → g a ≡ Some u
  pub products : (a : Label) (u : Bool) → f a ≡ Some u → pairing a b ≡ 0 → g (plus a b) ≡ Some (xorb (xorb u v) (odd (beta a b)))
  pub only : (a : Label) → Valued g a → (pairing a b ≡ 0) × (Valued f a ⊎ Valued f (plus a b))

-- Case 4: that, with the same width
pub record Replaced (s : Sheet) (b : Label) (v : Bool) (s' : Sheet) : Type 0 where
  pub same_n : s'.n ≡ s.n
  pub same_width : s'.width ≡ s.width
  pub kept : Kept s.value s'.value b v

-- Case 3: the width falls by t. What is valued besides b, the labels kept and their products with b, and with what values, is free: any that
-- keeps the laws
pub record Narrowed (s : Sheet) (b : Label) (v : Bool) (t : ℕ) (s' : Sheet) : Type 0 where
  pub same_n : s'.n ≡ s.n
  pub narrower : s'.width + t ≡ s.width
  pub new : s'.value b ≡ Some v
  pub keep : (a : Label) (u : Bool) → s.value a ≡ Some u → pairing a b ≡ 0 → s'.value a ≡ Some u
  pub products : (a : Label) (u : Bool) → s.value a ≡ Some u → pairing a b ≡ 0 → s'.value (plus a b) ≡ Some (xorb (xorb u v) (odd (beta a b)))

-- the outcome and the sheet afterwards, by cases. In Cases 3 and 4 the outcome is the coin, and b gets the value coin plus sign
abbrev pub Effect : Sheet → Label → Bool → Bool → Case → ℕ → Bool → Sheet → Type 0
Effect s b sign coin One k outcome s' = Reads s.value b sign outcome × Unchanged s s'
Effect s b sign coin Two k outcome s' = Reads s.value b sign outcome × Turned s b coin s'
Effect s b sign coin Three k outcome s' = (outcome ≡ coin) × Narrowed s b (xorb coin sign) k s'
Effect s b sign coin Four k outcome s' = (outcome ≡ coin) × Replaced s b (xorb coin sign) s'

-- the first coin of a word is its lowest bit
abbrev pub first_coin : ℕ → Bool
first_coin word = odd word

-- a measurement, in the case and with the count that a look tells
pub record Measured (s : Sheet) (b : Label) (sign : Bool) (word : ℕ) (outcome : Bool) (s' : Sheet) : Type 0 where
  pub case : Case
  pub count : ℕ
  pub looked : Looked s b case count
  pub effect : Effect s b sign (first_coin word) case count outcome s'
