-- Maps of labels with a sign for each, as gates are: they carry the labels of n qubits onto themselves.
use Rattle.std.specs.Prelude.{◌≡◌, ℕ, Bool}
use Rattle.pauli.specs.declared.label.Label.{Label}
use Rattle.pauli.specs.Bits.{xorb, odd}
use Rattle.pauli.specs.Labels.{plus, pairing, beta, Within}

-- U carries the labels of n qubits onto themselves and V carries them back; U keeps sums and pairings; and d are signs that go with it:
-- of commuting labels the carried product has the sign of the product of the carried
pub record Carries (n : ℕ) (U V : Label → Label) (d : Label → Bool) : Type 0 where
  pub there : (a : Label) → Within n a → Within n (U a)
  pub back : (a : Label) → Within n a → Within n (V a)
  pub onto : (a : Label) → Within n a → U (V a) ≡ a
  pub sums : (a b : Label) → Within n a → Within n b → U (plus a b) ≡ plus (U a) (U b)
  pub pairings : (a b : Label) → Within n a → Within n b → pairing (U a) (U b) ≡ pairing a b
  pub signs : (a b : Label) → Within n a → Within n b → pairing a b ≡ 0
      → xorb (xorb (d a) (d b)) (d (plus a b)) ≡ xorb (odd (beta (U a) (U b))) (odd (beta a b))
