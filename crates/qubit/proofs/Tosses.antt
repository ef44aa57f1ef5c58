-- What a measurement comes to, with a coin 1 and with a coin 0.
use Rattle.std.proofs.Common.{◌≡◌, ℕ, ◌%◌, Bool, true, false, not, ap, ◌∙◌, arith}
use Rattle.std.proofs.lemmas.Bool.Decides.{nat_tests}
use Rattle.std.specs.Bool.{beq}
use Rattle.pauli.specs.declared.label.Label.{Label}
use Rattle.pauli.specs.declared.letter.Letter.{Letter}
use Rattle.pauli.specs.Bits.{xorb, odd}
use Rattle.pauli.specs.Labels.{at, fits}
use Rattle.phase.specs.Effects.{Measured}
use Rattle.qubit.specs.declared.point.Qubit.{Qubit}
use Rattle.qubit.specs.OneQubit.{sign_of, sheet_of}
use Rattle.qubit.specs.ValuesLemmas.{measured, differ, tossed}

is_odd : (w : ℕ) → w % 2 ≡ 1 → odd w ≡ true
is_odd w h = grind (arith, nat_tests)

is_even : (w : ℕ) → (w % 2 ≡ 1 → ⊥) → odd w ≡ false
is_even w h = grind (arith, nat_tests)

module _ (q r : Qubit) (b : Label) (l : Letter) (sign value : Bool) (word : ℕ) (fit : fits 1 b ≡ true) (its : l ≡ at b 0) (told : value ≡ sign_of q l) where
  -- the outcome is the label's value with the sign added
  outcome : not (beq value sign) ≡ xorb (sign_of q (at b 0)) sign
  outcome = differ value sign ∙ ap (λ w. xorb w sign) (told ∙ ap (λ (l : Letter). sign_of q l) its)

  pub with_coin : word % 2 ≡ 1 → r ≡ tossed true b q → Measured (sheet_of q) b sign word (not (beq value sign)) (sheet_of r)
  with_coin odd turned = measured q r b sign true _ word fit (is_odd word odd) outcome turned

  pub without_coin : (word % 2 ≡ 1 → ⊥) → r ≡ tossed false b q → Measured (sheet_of q) b sign word (not (beq value sign)) (sheet_of r)
  without_coin even same = measured q r b sign false _ word fit (is_even word even) outcome same
