-- Words and powers of two.
use Rattle.std.proofs.Common.{◌≡◌, ℕ, ◌/◌, ◌^◌, ◌≤◌, Bool, true, false, eqb, ltb, refl, ap, le-div_iff_mul-le, arith, pow_pos, ltb-false, ltb-true, ne_eqb, ◌<◌, lt_of_lt_of_le, pow_mono, suc, shr-shr, ◌∙◌, lt-ltb, le-leb, leb, sym}
use Rattle.pauli.specs.Bits.{odd, bit_of}
use native.Mathlib.Nat.{div-eq_of_lt}

-- a word shifted right by n is 0 exactly if it is below 2 ^ n
pub below_shift : (w n : ℕ) → eqb (w / 2 ^ n) 0 ≡ ltb w (2 ^ n)
below_shift w n = go (ltb w (2 ^ n)) refl
  where
    go : (b : Bool) → ltb w (2 ^ n) ≡ b → eqb (w / 2 ^ n) 0 ≡ b
    go true e = ap (λ (v : ℕ). eqb v 0) (div-eq_of_lt (ltb-true w (2 ^ n) e))
    go false e =
        let h : 2 ^ n ≤ w = ltb-false w (2 ^ n) e in
        let one : 1 ≤ w / 2 ^ n = (le-div_iff_mul-le (pow_pos n)).1 (omega arith) in
        ne_eqb (w / 2 ^ n) 0 (λ z. omega arith)

-- a word of 64 bits has none beyond them
pub no_bit : (w i : ℕ) → w < 2 ^ 64 → 64 ≤ i → bit_of w i ≡ false
no_bit w i h le =
    ap odd (div-eq_of_lt (lt_of_lt_of_le h (pow_mono le)))

-- the bits of the half
pub bit_half : (w i : ℕ) → bit_of (w / 2) i ≡ bit_of w (suc i)
bit_half w i = ap odd (shr-shr w 1 i ∙ ap (λ (k : ℕ). w / 2 ^ k) (omega arith))

pub bit_low : (w : ℕ) → bit_of w 0 ≡ odd w
bit_low w = ap odd (omega arith)

-- a word of 64 bits is below each power from there on
pub below_high : (w n : ℕ) → w < 2 ^ 64 → 64 ≤ n → leb 64 n ≡ ltb w (2 ^ n)
below_high w n h le = le-leb 64 n le ∙ sym (lt-ltb w (2 ^ n) (lt_of_lt_of_le h (pow_mono le)))
