-- The working form of the sheet laws.
use Rattle.std.specs.Prelude.{◌≡◌, ℕ, ◌^◌, ◌<◌, Bool, false, ◌≢◌, ◌⊎◌, Some}
use Rattle.pauli.specs.declared.label.Label.{Label}
use Rattle.pauli.specs.Bits.{xorb, odd}
use Rattle.pauli.specs.Labels.{plus, pairing, beta, zero_label, Within}
use Rattle.phase.specs.Sheets.{Values, Valued, Central, Exactly}

-- What the laws of a sheet come to: a centre of 2 ^ c labels, and k pairwise anticommuting labels J, one for each ray; every valued label is
-- in the centre, or is so with one of the J added. (k = 1: the one ray is the centre once more.) It also holds while a measurement is under
-- way, when the centre is not yet as large as the rays ask
pub record Closed (n c k : ℕ) (f : Values) : Type 0 where
  pub zero : f zero_label ≡ Some false
  pub product : (a b : Label) (u v : Bool) → f a ≡ Some u → f b ≡ Some v → pairing a b ≡ 0
      → f (plus a b) ≡ Some (xorb (xorb u v) (odd (beta a b)))
  pub within : (a : Label) → Valued f a → Within n a
  pub centre : Exactly (Central f) (2 ^ c)
  pub J : ℕ → Label
  pub stands : (i : ℕ) → i < k → Valued f (J i)
  pub apart : (i j : ℕ) → i < k → j < k → i ≢ j → pairing (J i) (J j) ≡ 1
  pub each : (a : Label) → Valued f a → Central f a ⊎ ((i : ℕ) × (i < k) × Central f (plus a (J i)))
