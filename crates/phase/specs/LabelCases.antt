-- The four cases of a label, and the coins that its measurement needs.
use Rattle.std.specs.Prelude.{◌≡◌, ℕ, zero, suc, ◌+◌, ◌<◌, None}
use Rattle.pauli.specs.declared.case.Case.{Case}
use Rattle.pauli.specs.declared.case.Case.TheVariants.{One, Two, Three, Four}
use Rattle.pauli.specs.declared.label.Label.{Label}
use Rattle.pauli.specs.Labels.{pairing}
use Rattle.phase.specs.Sheets.{Values, Sheet, Central, Outer, SheetRays}

-- b commutes with the centre
abbrev pub WithCentre : Values → Label → Type 0
WithCentre f b = (a : Label) → Central f a → pairing a b ≡ 0

-- which labels are in which case: in the centre; valued outside it; unvalued but commuting with it; any other
abbrev pub InCase : Values → Label → Case → Type 0
InCase f b One = Central f b
InCase f b Two = Outer f b
InCase f b Three = (f b ≡ None) × WithCentre f b
InCase f b Four = (f b ≡ None) × (WithCentre f b → ⊥)

-- how many of the first k labels anticommute with b
abbrev pub against : (ℕ → Label) → Label → ℕ → ℕ
against J b zero = 0
against J b (suc k) = pairing (J k) b + against J b k

-- exactly 2t rays anticommute with b, however the rays are numbered. (Where b commutes with the centre, it stands to all labels of a ray
-- as to the first.)
pub record Against (s : Sheet) (b : Label) (t : ℕ) : Type 0 where
  pub wide : 0 < s.width
  pub count : (R : SheetRays s) → against (λ i. R.at i 0) b (s.width + s.width + 1) ≡ t + t

-- the coins that a measurement needs in each case: 0, 1, t and 1
abbrev pub Needs : Sheet → Label → Case → ℕ → Type 0
Needs s b One k = k ≡ 0
Needs s b Two k = k ≡ 1
Needs s b Three k = Against s b k
Needs s b Four k = k ≡ 1

-- what a look tells: the case, and the coins needed
pub record Looked (s : Sheet) (b : Label) (c : Case) (k : ℕ) : Type 0 where
  pub kind : InCase s.value b c
  pub needs : Needs s b c k
