-- CX keeps sums and phases, and undoes itself on labels.
use Rattle.std.proofs.Common.{◌≡◌, ℕ, suc, ◌+◌, ◌*◌, ◌%◌, ◌^◌, ◌<◌, Bool, ◌&&◌, T, eqb, ◌≢◌, sym, ap, ◌∙◌, ap₂, arith, eqb→eq}
use mathlib.Core.Bool.{beq}
use lib.Bits.{bit_xor}
use Rattle.pauli.specs.declared.label.Label.{Label}
use Rattle.pauli.specs.Bits.{xorb, bit_of, with_bit}
use Rattle.pauli.specs.Labels.{plus, us, Within}
use Rattle.pauli.specs.Gates.{crossed, cross_flips}
use Rattle.pauli_laws.proofs.Cases.{all8, at8}
use Rattle.pauli_laws.proofs.Signs.{num, xorb_swap}
use Rattle.pauli_laws.proofs.Algebra.{label, within_large}
use Rattle.pauli_laws.proofs.Places.{bit_of_xor, with_same, with_other, with_xor, with_lt, with_back}
use Rattle.pauli_laws.proofs.PlacePhases.{u_at, u, u_path, phase_two}
use Rattle.pauli_laws.proofs.Carriers.{Keeps}

-- ---- the rule at two places, tested at every two pairs of letters

-- the flip, by x and z of the control and x and z of the target
abbrev flip : Bool → Bool → Bool → Bool → Bool
flip xc zc xt zt = (xc && zt) && beq xt zc

test : Bool → Bool → Bool → Bool → Bool → Bool → Bool → Bool → Bool
test xc zc xt zt xc' zc' xt' zt' =
    eqb ((u_at xc (xorb zc zt) xc' (xorb zc' zt') + u_at (xorb xt xc) zt (xorb xt' xc') zt' + (2 * num (flip xc zc xt zt) + 2 * num (flip xc' zc' xt' zt'))) % 4)
    ((u_at xc zc xc' zc' + u_at xt zt xt' zt' + 2 * num (flip (xorb xc xc') (xorb zc zc') (xorb xt xt') (xorb zt zt'))) % 4)

holds : T (all8 test)
unfolding test
holds = tt

-- ---- one word: bit k is added to bit i

abbrev added : ℕ → ℕ → ℕ → ℕ
added i k w = with_bit w i (xorb (bit_of w i) (bit_of w k))

added_xor : (i k w v : ℕ) → added i k (bit_xor w v) ≡ bit_xor (added i k w) (added i k v)
added_xor i k w v =
    with_xor w v i (xorb (bit_of w i) (bit_of w k)) (xorb (bit_of v i) (bit_of v k)) (xorb (bit_of (bit_xor w v) i) (bit_of (bit_xor w v) k))
    (ap₂ xorb (bit_of_xor w v i) (bit_of_xor w v k) ∙ xorb_swap (bit_of w i) (bit_of v i) (bit_of w k) (bit_of v k))

added_again : (i k w : ℕ) → k ≢ i → added i k (added i k w) ≡ w
added_again i k w ne =
    with_back w i (xorb (bit_of w i) (bit_of w k)) (xorb (bit_of (added i k w) i) (bit_of (added i k w) k))
    (ap₂ xorb (with_same w i (xorb (bit_of w i) (bit_of w k))) (with_other w i k (xorb (bit_of w i) (bit_of w k)) ne) ∙ twice (bit_of w i) (bit_of w k))
  where
    twice : (p q : Bool) → xorb (xorb p q) q ≡ p
    twice p q = grind arith

added_lt : (n i k w : ℕ) → w < 2 ^ n → i < n → added i k w < 2 ^ n
added_lt n i k w h l = with_lt n w i (xorb (bit_of w i) (bit_of w k)) h l

-- ---- labels

pub crossed_within : (n c t : ℕ) (a : Label) → Within n a → c < n → t < n → Within n (crossed c t a)
crossed_within n c t a h hc ht = record { x = added_lt n t c a.x h.x ht; z = added_lt n c t a.z h.z hc }

pub crossed_again : (c t : ℕ) → c ≢ t → (a : Label) → crossed c t (crossed c t a) ≡ a
crossed_again c t d a = ap₂ label (added_again t c a.x d) (added_again c t a.z (λ e. d (sym e)))

module _ (c t : ℕ) (d : c ≢ t) (a b : Label) where
  crossed_sums : crossed c t (plus a b) ≡ plus (crossed c t a) (crossed c t b)
  unfolding plus
  crossed_sums = ap₂ label (added_xor t c a.x b.x) (added_xor c t a.z b.z)

  flip_plus : cross_flips c t (plus a b) ≡ flip (xorb (bit_of a.x c) (bit_of b.x c)) (xorb (bit_of a.z c) (bit_of b.z c)) (xorb (bit_of a.x t) (bit_of b.x t)) (xorb (bit_of a.z t) (bit_of b.z t))
  unfolding plus
  flip_plus =
      let e1 = bit_of_xor a.x b.x c in
      let e2 = bit_of_xor a.z b.z c in
      let e3 = bit_of_xor a.x b.x t in
      let e4 = bit_of_xor a.z b.z t in
      cc

  crossed_phases : (us (crossed c t a) (crossed c t b) + (2 * num (cross_flips c t a) + 2 * num (cross_flips c t b))) % 4 ≡ (us a b + 2 * num (cross_flips c t (plus a b))) % 4
  unfolding test
  crossed_phases =
      let n = suc (c + t + (a.x + a.z + (b.x + b.z))) in
      let wa : Within n a = within_large n a (omega arith) (omega arith) in
      let wb : Within n b = within_large n b (omega arith) (omega arith) in
      let X : Label → Bool = λ l. xorb (bit_of l.x t) (bit_of l.x c) in
      let Z : Label → Bool = λ l. xorb (bit_of l.z c) (bit_of l.z t) in
      let d' : t ≢ c = λ e. d (sym e) in
      let r = 2 * num (cross_flips c t a) + 2 * num (cross_flips c t b) in
      phase_two n a b (crossed c t a) (crossed c t b) wa wb (crossed_within n c t a wa (omega arith) (omega arith)) (crossed_within n c t b wb (omega arith) (omega arith))
      c t (omega arith) (omega arith) d
      (λ j h k. u_path (with_other a.x t j (X a) k) (with_other a.z c j (Z a) h) (with_other b.x t j (X b) k) (with_other b.z c j (Z b) h))
      r (2 * num (cross_flips c t (plus a b)))
      (ap₂ (λ (v w : ℕ). (v + w + r) % 4)
      (u_path (with_other a.x t c (X a) d) (with_same a.z c (Z a)) (with_other b.x t c (X b) d) (with_same b.z c (Z b)))
      (u_path (with_same a.x t (X a)) (with_other a.z c t (Z a) d') (with_same b.x t (X b)) (with_other b.z c t (Z b) d'))
      ∙ eqb→eq _ _ (at8 test holds (bit_of a.x c) (bit_of a.z c) (bit_of a.x t) (bit_of a.z t) (bit_of b.x c) (bit_of b.z c) (bit_of b.x t) (bit_of b.z t))
      ∙ ap (λ (p : Bool). (u a b c + u a b t + 2 * num p) % 4) (sym flip_plus))

pub crossed_keeps : (c t : ℕ) → c ≢ t → Keeps (crossed c t) (cross_flips c t)
crossed_keeps c t d = record { sums = crossed_sums c t d; phases = crossed_phases c t d }
