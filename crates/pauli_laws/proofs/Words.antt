-- Counts of set bits against `^` and `&`.
use Rattle.std.proofs.Common.{◌≡◌, ℕ, zero, suc, ◌+◌, ◌*◌, ◌/◌, ◌%◌, ◌<◌, min, sym, refl, ap, ◌∙◌, ap₂, arith}
use Prim.Native.Nat.{differ}
use lib.Arith.{bin_ind}
use lib.Bits.{bit_and, bit_xor, and_step, xor_step, and_shr, xor_shr, and_comm}
use lib.Count.{ones, ones_step}

-- the lowest bits of the two results
pub xor_low : (a b : ℕ) → bit_xor a b % 2 ≡ (a % 2 + b % 2) % 2
xor_low a b = omega (arith, xor_step a b, digit (a % 2) (b % 2) (omega arith) (omega arith))
  where
    digit : (x y : ℕ) → x < 2 → y < 2 → differ x y ≡ (x + y) % 2
    digit zero zero h k = refl
    digit zero (suc zero) h k = refl
    digit zero (suc (suc y)) h k = absurd (omega arith)
    digit (suc zero) zero h k = refl
    digit (suc zero) (suc zero) h k = refl
    digit (suc zero) (suc (suc y)) h k = absurd (omega arith)
    digit (suc (suc x)) y h k = absurd (omega arith)

pub and_low : (a b : ℕ) → bit_and a b % 2 ≡ min (a % 2) (b % 2)
and_low a b = omega (arith, and_step a b)

pub by_halves : (a b : ℕ) → a / 2 ≡ b / 2 → a % 2 ≡ b % 2 → a ≡ b
by_halves a b h l = omega arith

pub ones_zero : ones 0 ≡ 0
unfolding ones
ones_zero = refl

-- the count of a sum: what both have is counted on neither side
pub ones_xor : (a b : ℕ) → ones (bit_xor a b) + 2 * ones (bit_and a b) ≡ ones a + ones b
ones_xor =
    bin_ind (λ (n : ℕ). (b : ℕ) → ones (bit_xor n b) + 2 * ones (bit_and n b) ≡ ones n + ones b)
    (λ b. omega (arith, ones_zero))
    (λ n ih b.
    let e1 = ones_step (bit_xor n b) ∙ ap (λ (v : ℕ). bit_xor n b % 2 + ones v) (xor_shr n b 1) in
    let e2 = ones_step (bit_and n b) ∙ ap (λ (v : ℕ). bit_and n b % 2 + ones v) (and_shr n b 1) in
    omega (arith, e1, e2, ones_step n, ones_step b, xor_low n b, and_low n b, ih (b / 2)))

-- `&` distributes over `^`
pub and_xor : (a b c : ℕ) → bit_and a (bit_xor b c) ≡ bit_xor (bit_and a b) (bit_and a c)
and_xor =
    bin_ind (λ (n : ℕ). (b c : ℕ) → bit_and n (bit_xor b c) ≡ bit_xor (bit_and n b) (bit_and n c))
    (λ b c. refl)
    (λ n ih b c. by_halves (bit_and n (bit_xor b c)) (bit_xor (bit_and n b) (bit_and n c))
    (and_shr n (bit_xor b c) 1 ∙ ap (bit_and (n / 2)) (xor_shr b c 1) ∙ ih (b / 2) (c / 2)
    ∙ sym (xor_shr (bit_and n b) (bit_and n c) 1 ∙ ap₂ bit_xor (and_shr n b 1) (and_shr n c 1)))
    (omega (arith, and_low n (bit_xor b c), xor_low b c, xor_low (bit_and n b) (bit_and n c), and_low n b, and_low n c)))

pub xor_and : (a b c : ℕ) → bit_and (bit_xor a b) c ≡ bit_xor (bit_and a c) (bit_and b c)
xor_and a b c = and_comm (bit_xor a b) c ∙ and_xor c a b ∙ ap₂ bit_xor (and_comm c a) (and_comm c b)

-- so the parity of the count of an `&` is linear on either side
pub parity_r : (a b c : ℕ) → ones (bit_and a (bit_xor b c)) % 2 ≡ (ones (bit_and a b) + ones (bit_and a c)) % 2
parity_r a b c = omega (arith, ap ones (and_xor a b c), ones_xor (bit_and a b) (bit_and a c))

pub parity_l : (a b c : ℕ) → ones (bit_and (bit_xor a b) c) % 2 ≡ (ones (bit_and a c) + ones (bit_and b c)) % 2
parity_l a b c = omega (arith, ap ones (xor_and a b c), ones_xor (bit_and a c) (bit_and b c))
