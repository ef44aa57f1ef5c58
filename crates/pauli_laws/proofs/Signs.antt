-- Bits added modulo 2, and bits as numbers.
use Rattle.std.proofs.Common.{◌≡◌, ℕ, zero, suc, ◌+◌, ◌%◌, ◌<◌, min, Bool, true, false, ◌&&◌, eqb, sym, refl, ap, ◌∙◌, arith}
use lib.Bits.{bit_and, bit_xor}
use Rattle.pauli.specs.Bits.{odd, xorb}
pub use Rattle.pauli_laws.specs.Words.{num}
use Rattle.pauli_laws.proofs.Words.{xor_low, and_low}

pub xorb_comm : (p q : Bool) → xorb p q ≡ xorb q p
xorb_comm p q = grind arith

pub xorb_assoc : (p q r : Bool) → xorb (xorb p q) r ≡ xorb p (xorb q r)
xorb_assoc p q r = grind arith

pub xorb_self : (p : Bool) → xorb p p ≡ false
xorb_self true = refl
xorb_self false = refl

pub xorb_false : (p : Bool) → xorb p false ≡ p
xorb_false true = refl
xorb_false false = refl

-- (p+q)+(r+s) = (p+r)+(q+s)
pub xorb_swap : (p q r s : Bool) → xorb (xorb p q) (xorb r s) ≡ xorb (xorb p r) (xorb q s)
xorb_swap p q r s = grind arith

-- ---- bits as numbers

pub num_lt : (p : Bool) → num p < 2
num_lt true = omega arith
num_lt false = omega arith

pub num_inj : (p q : Bool) → num p ≡ num q → p ≡ q
num_inj true true e = refl
num_inj false false e = refl
num_inj true false e = absurd (omega arith)
num_inj false true e = absurd (omega arith)

pub num_xor : (p q : Bool) → num (xorb p q) ≡ (num p + num q) % 2
num_xor true true = refl
num_xor true false = refl
num_xor false true = refl
num_xor false false = refl

pub num_odd : (n : ℕ) → num (odd n) ≡ n % 2
num_odd n = go (n % 2) (omega arith)
  where
    go : (m : ℕ) → m < 2 → num (eqb m 1) ≡ m
    go zero h = refl
    go (suc zero) h = refl
    go (suc (suc m)) h = absurd (omega arith)

pub odd_num : (p : Bool) → odd (num p) ≡ p
odd_num true = refl
odd_num false = refl

-- numbers that agree modulo 2 have the same parity
pub odd_mod : (m n : ℕ) → m % 2 ≡ n % 2 → odd m ≡ odd n
odd_mod m n e = ap (λ (v : ℕ). eqb v 1) e

pub odd_add : (m n : ℕ) → odd (m + n) ≡ xorb (odd m) (odd n)
odd_add m n = num_inj (odd (m + n)) (xorb (odd m) (odd n)) (omega (arith, num_odd (m + n), num_xor (odd m) (odd n), num_odd m, num_odd n))

pub odd_xor : (a b : ℕ) → odd (bit_xor a b) ≡ xorb (odd a) (odd b)
odd_xor a b = odd_mod (bit_xor a b) (a + b) (omega (arith, xor_low a b)) ∙ odd_add a b

pub odd_and : (a b : ℕ) → odd (bit_and a b) ≡ (odd a && odd b)
odd_and a b = num_inj (odd (bit_and a b)) (odd a && odd b) (num_odd (bit_and a b) ∙ and_low a b ∙ go (odd a) (odd b) (a % 2) (b % 2) (num_odd a) (num_odd b))
  where
    go : (p q : Bool) (m n : ℕ) → num p ≡ m → num q ≡ n → min m n ≡ num (p && q)
    go true true m n e f = omega arith
    go true false m n e f = omega arith
    go false true m n e f = omega arith
    go false false m n e f = omega arith

-- parities of equal sums
pub bits : (m n p q : ℕ) → (m + n) % 2 ≡ (p + q) % 2 → xorb (odd m) (odd n) ≡ xorb (odd p) (odd q)
bits m n p q e = sym (odd_add m n) ∙ odd_mod (m + n) (p + q) e ∙ odd_add p q
