-- The bits of a word by place, and sums over places.
use Rattle.std.proofs.Common.{◌≡◌, ℕ, zero, suc, ◌+◌, ◌*◌, ◌/◌, ◌%◌, ◌^◌, ◌<◌, ◌≤◌, Bool, true, false, cond, ◌&&◌, eqb, ◌≢◌, sym, refl, ap, ◌∙◌, ap₂, pow-suc, mul-zero, mul-add, arith}
use lib.Arith.{half_le, lt-one}
use lib.Bits.{bit_and, bit_xor, and_shr, xor_shr, xor_lt}
use lib.Count.{ones, ones_step}
use lib.Pow.{pow-lt}
use native.Mathlib.Decide.{ℕ_discrete}
use Rattle.pauli.specs.Bits.{xorb, odd, bit_of, with_bit}
use Rattle.pauli.proofs.Words.{bit_half, bit_low}
use Rattle.pauli_laws.proofs.Words.{ones_zero}
use Rattle.pauli_laws.proofs.Signs.{num, num_odd, odd_xor, odd_and, xorb_false}

pub bit_of_xor : (a b i : ℕ) → bit_of (bit_xor a b) i ≡ xorb (bit_of a i) (bit_of b i)
bit_of_xor a b i = ap odd (xor_shr a b i) ∙ odd_xor (a / 2 ^ i) (b / 2 ^ i)

pub bit_of_and : (a b i : ℕ) → bit_of (bit_and a b) i ≡ (bit_of a i && bit_of b i)
bit_of_and a b i = ap odd (and_shr a b i) ∙ odd_and (a / 2 ^ i) (b / 2 ^ i)

-- words with the same bits are equal
pub bits_ext : (a b : ℕ) → ((i : ℕ) → bit_of a i ≡ bit_of b i) → a ≡ b
bits_ext a b = go (a + b) a b (omega arith) (omega arith)
  where
    go : (n a b : ℕ) → a ≤ n → b ≤ n → ((i : ℕ) → bit_of a i ≡ bit_of b i) → a ≡ b
    go zero a b ha hb e = omega arith
    go (suc n) a b ha hb e =
        let hi : a / 2 ≡ b / 2 = go n (a / 2) (b / 2) (half_le ha) (half_le hb) (λ i. bit_half a i ∙ e (suc i) ∙ sym (bit_half b i)) in
        let lo : a % 2 ≡ b % 2 = sym (num_odd a) ∙ ap num (sym (bit_low a) ∙ e 0 ∙ bit_low b) ∙ num_odd b in
        omega arith

-- a power of two has one bit
pub bit_pow_same : (q : ℕ) → bit_of (2 ^ q) q ≡ true
bit_pow_same zero = refl
bit_pow_same (suc q) = sym (bit_half (2 ^ suc q) q) ∙ ap (λ (v : ℕ). bit_of v q) (omega (arith, pow-suc 2 q)) ∙ bit_pow_same q

pub bit_pow_other : (q i : ℕ) → i ≢ q → bit_of (2 ^ q) i ≡ false
bit_pow_other zero zero h = absurd (h refl)
bit_pow_other zero (suc i) h = sym (bit_half 1 i) ∙ zeros i
  where
    zeros : (i : ℕ) → bit_of 0 i ≡ false
    zeros zero = refl
    zeros (suc i) = sym (bit_half 0 i) ∙ zeros i
bit_pow_other (suc q) zero h =
    let e : 2 ^ suc q % 2 ≡ 0 = omega (arith, pow-suc 2 q) in
    bit_low (2 ^ suc q) ∙ ap (λ (v : ℕ). eqb v 1) e
bit_pow_other (suc q) (suc i) h = sym (bit_half (2 ^ suc q) i) ∙ ap (λ (v : ℕ). bit_of v i) (omega (arith, pow-suc 2 q)) ∙ bit_pow_other q i (λ e. h (ap suc e))

-- the bits of a word in which one was written
pub with_same : (w q : ℕ) (b : Bool) → bit_of (with_bit w q b) q ≡ b
with_same w q b = go (bit_of w q) b refl
  where
    go : (o b : Bool) → bit_of w q ≡ o → bit_of (cond (xorb o b) (bit_xor w (2 ^ q)) w) q ≡ b
    go true true e = e
    go false false e = e
    go true false e = bit_of_xor w (2 ^ q) q ∙ ap₂ xorb e (bit_pow_same q)
    go false true e = bit_of_xor w (2 ^ q) q ∙ ap₂ xorb e (bit_pow_same q)

pub with_other : (w q i : ℕ) (b : Bool) → i ≢ q → bit_of (with_bit w q b) i ≡ bit_of w i
with_other w q i b h = go (xorb (bit_of w q) b)
  where
    go : (o : Bool) → bit_of (cond o (bit_xor w (2 ^ q)) w) i ≡ bit_of w i
    go true = bit_of_xor w (2 ^ q) i ∙ ap (xorb (bit_of w i)) (bit_pow_other q i h) ∙ xorb_false (bit_of w i)
    go false = refl

-- ---- sums over the places below n

abbrev pub sum : (ℕ → ℕ) → ℕ → ℕ
sum f zero = 0
sum f (suc n) = f 0 + sum (λ i. f (suc i)) n

pub sum_ext : (n : ℕ) (f g : ℕ → ℕ) → ((i : ℕ) → f i ≡ g i) → sum f n ≡ sum g n
sum_ext zero f g e = refl
sum_ext (suc n) f g e = omega (arith, e 0, sum_ext n (λ i. f (suc i)) (λ i. g (suc i)) (λ i. e (suc i)))

pub sum_add : (n : ℕ) (f g : ℕ → ℕ) → sum (λ i. f i + g i) n ≡ sum f n + sum g n
sum_add zero f g = refl
sum_add (suc n) f g = omega (arith, sum_add n (λ i. f (suc i)) (λ i. g (suc i)))

pub sum_times : (k n : ℕ) (f : ℕ → ℕ) → sum (λ i. k * f i) n ≡ k * sum f n
sum_times k zero f = sym (mul-zero k)
sum_times k (suc n) f = ap (λ (v : ℕ). k * f 0 + v) (sum_times k n (λ i. f (suc i))) ∙ sym (mul-add k (f 0) (sum (λ i. f (suc i)) n))

-- what differs at one place
pub sum_one : (n : ℕ) (f g : ℕ → ℕ) (q : ℕ) → q < n → ((i : ℕ) → i ≢ q → f i ≡ g i) → sum f n + g q ≡ sum g n + f q
sum_one zero f g q h e = absurd (omega arith)
sum_one (suc n) f g zero h e = omega (arith, sum_ext n (λ i. f (suc i)) (λ i. g (suc i)) (λ i. e (suc i) (omega arith)))
sum_one (suc n) f g (suc q) h e =
    omega (arith, e 0 (omega arith), sum_one n (λ i. f (suc i)) (λ i. g (suc i)) q (omega arith) (λ i k. e (suc i) (omega arith)))

-- what differs at two places
pub sum_two : (n : ℕ) (f g : ℕ → ℕ) (q r : ℕ) → q < n → r < n → q ≢ r → ((i : ℕ) → i ≢ q → i ≢ r → f i ≡ g i)
    → sum f n + (g q + g r) ≡ sum g n + (f q + f r)
sum_two zero f g q r h k d e = absurd (omega arith)
sum_two (suc n) f g zero zero h k d e = absurd (d refl)
sum_two (suc n) f g zero (suc r) h k d e =
    omega (arith, sum_one n (λ i. f (suc i)) (λ i. g (suc i)) r (omega arith) (λ i m. e (suc i) (omega arith) (omega arith)))
sum_two (suc n) f g (suc q) zero h k d e =
    omega (arith, sum_one n (λ i. f (suc i)) (λ i. g (suc i)) q (omega arith) (λ i m. e (suc i) (omega arith) (omega arith)))
sum_two (suc n) f g (suc q) (suc r) h k d e =
    omega (
      arith,
      e 0 (omega arith) (omega arith),
      sum_two n (λ i. f (suc i)) (λ i. g (suc i)) q r (omega arith) (omega arith) (omega arith) (λ i m l. e (suc i) (omega arith) (omega arith)),
    )

-- the count of a word's bits is a sum over its places
pub ones_sum : (n w : ℕ) → w < 2 ^ n → ones w ≡ sum (λ i. num (bit_of w i)) n
ones_sum zero w h = ap ones (lt-one h) ∙ ones_zero
ones_sum (suc n) w h =
    ones_step w
    ∙ ap₂ (λ (p q : ℕ). p + q) (sym (num_odd w) ∙ ap num (sym (bit_low w)))
    (ones_sum n (w / 2) (omega (arith, pow-suc 2 n)) ∙ sum_ext n (λ i. num (bit_of (w / 2) i)) (λ i. num (bit_of w (suc i))) (λ i. ap num (bit_half w i)))

-- a written bit of a sum
pub with_xor : (a b i : ℕ) (p q r : Bool) → r ≡ xorb p q → with_bit (bit_xor a b) i r ≡ bit_xor (with_bit a i p) (with_bit b i q)
with_xor a b i p q r e = bits_ext (with_bit (bit_xor a b) i r) (bit_xor (with_bit a i p) (with_bit b i q)) (λ j. go j (ℕ_discrete j i))
  where
    go : (j : ℕ) → Dec (j ≡ i) → bit_of (with_bit (bit_xor a b) i r) j ≡ bit_of (bit_xor (with_bit a i p) (with_bit b i q)) j
    go j (yes h) =
        rw h (with_same (bit_xor a b) i r ∙ e
        ∙ sym (bit_of_xor (with_bit a i p) (with_bit b i q) i ∙ ap₂ xorb (with_same a i p) (with_same b i q)))
    go j (no h) =
        with_other (bit_xor a b) i j r h ∙ bit_of_xor a b j
        ∙ sym (bit_of_xor (with_bit a i p) (with_bit b i q) j ∙ ap₂ xorb (with_other a i j p h) (with_other b i j q h))

pub with_lt : (n w i : ℕ) (b : Bool) → w < 2 ^ n → i < n → with_bit w i b < 2 ^ n
with_lt n w i b h k = go (xorb (bit_of w i) b)
  where
    go : (o : Bool) → cond o (bit_xor w (2 ^ i)) w < 2 ^ n
    go true = xor_lt n w (2 ^ i) h (pow-lt k)
    go false = h

-- a bit written over and then as it was
pub with_back : (w i : ℕ) (b c : Bool) → c ≡ bit_of w i → with_bit (with_bit w i b) i c ≡ w
with_back w i b c e = bits_ext (with_bit (with_bit w i b) i c) w (λ j. go j (ℕ_discrete j i))
  where
    go : (j : ℕ) → Dec (j ≡ i) → bit_of (with_bit (with_bit w i b) i c) j ≡ bit_of w j
    go j (yes h) = rw h (with_same (with_bit w i b) i c ∙ e)
    go j (no h) = with_other (with_bit w i b) i j c h ∙ with_other w i j b h
