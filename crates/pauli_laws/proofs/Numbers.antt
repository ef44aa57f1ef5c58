-- Numbers modulo 2 and modulo 4: what the counts of quarter turns need.
use Rattle.std.proofs.Common.{◌≡◌, ℕ, zero, suc, ◌+◌, ◌*◌, ◌/◌, ◌%◌, ◌^◌, ◌<◌, ◌⊎◌, sym, refl, ap, ◌∙◌, inl, inr, pow-suc, arith}

pub bit_cases : (n : ℕ) → n < 2 → (n ≡ 0) ⊎ (n ≡ 1)
bit_cases zero h = inl refl
bit_cases (suc zero) h = inr refl
bit_cases (suc (suc n)) h = absurd (omega arith)

pub below_pow : (n : ℕ) → n < 2 ^ n
below_pow zero = omega arith
below_pow (suc n) = omega (arith, below_pow n, pow-suc 2 n)

-- ---- modulo 4

-- what is counted twice matters modulo 2 only
pub swap_even : (s k l : ℕ) → k % 2 ≡ l % 2 → (s + 2 * k) % 4 ≡ (s + 2 * l) % 4
swap_even s k l h = omega arith

pub double : (m : ℕ) → 2 * m % 4 ≡ 2 * (m % 2)
double m = omega arith

pub halve : (m n : ℕ) → 2 * m % 4 ≡ 2 * n % 4 → m % 2 ≡ n % 2
halve m n h = omega (arith, double m, double n)

pub mod4 : (m r : ℕ) → (m % 4 + r) % 4 ≡ (m + r) % 4
mod4 m r = omega arith

pub add4 : (m n p q : ℕ) → p ≡ m % 4 → q ≡ n % 4 → (p + q) % 4 ≡ (m + n) % 4
add4 m n p q e f = omega arith

pub drop4 : (m y : ℕ) → (m + 4 * y) % 4 ≡ m % 4
drop4 m y = omega arith

-- two sums that differ in one summand each
pub shift : (u v t w r s : ℕ) → v + t ≡ u + w → (w + r) % 4 ≡ (t + s) % 4 → (v + r) % 4 ≡ (u + s) % 4
shift u v t w r s e f = omega arith

-- ---- halves of sums modulo 4

odd4 : (m : ℕ) → (2 * m + 1) % 4 ≡ 2 * (m % 2) + 1
odd4 m = omega arith

half_sum : (p o : ℕ) → p % 2 ≡ 1 → o % 2 ≡ 1 → (p + o) % 4 / 2 ≡ (p / 2 + o / 2 + 1) % 2
half_sum p o hp ho = ap (λ (v : ℕ). v % 4 / 2) (omega arith) ∙ ap (λ (v : ℕ). v / 2) (double (p / 2 + o / 2 + 1)) ∙ omega arith

-- an even and an odd number on either side
halves : (s q p r : ℕ) → s % 2 ≡ 0 → q % 2 ≡ 1 → p % 2 ≡ 1 → r % 2 ≡ 0 → (s + q) % 4 ≡ (p + r) % 4 → (s / 2 + q / 2) % 2 ≡ (p / 2 + r / 2) % 2
halves s q p r hs hq hp hr e = cut (s / 2 + q / 2) (p / 2 + r / 2) (ap (λ (v : ℕ). v % 4) (omega arith) ∙ e ∙ ap (λ (v : ℕ). v % 4) (omega arith))
  where
    cut : (m n : ℕ) → (2 * m + 1) % 4 ≡ (2 * n + 1) % 4 → m % 2 ≡ n % 2
    cut m n e = omega (arith, odd4 m, odd4 n)

-- two odd numbers, each with the odd o added to it, against two even ones
pub turn_one : (p q r s o : ℕ) → p % 2 ≡ 1 → q % 2 ≡ 1 → o % 2 ≡ 1 → r % 2 ≡ 0 → s % 2 ≡ 0 → (s + q) % 4 ≡ (p + r) % 4
    → ((p + o) % 4 / 2 + (q + o) % 4 / 2) % 2 ≡ (r / 2 + s / 2) % 2
turn_one p q r s o hp hq ho hr hs e =
    join (p / 2) (q / 2) (r / 2) (s / 2) (o / 2) ((p + o) % 4 / 2) ((q + o) % 4 / 2) (half_sum p o hp ho) (half_sum q o hq ho) (halves s q p r hs hq hp hr e)
  where
    join : (P Q R S O X Y : ℕ) → X ≡ (P + O + 1) % 2 → Y ≡ (Q + O + 1) % 2 → (S + Q) % 2 ≡ (P + R) % 2 → (X + Y) % 2 ≡ (R + S) % 2
    join P Q R S O X Y hx hy h = omega arith

-- the same where q is told by q', its opposite, and t, what q' lacks to 4
pub turn_two : (p q q' t r s o : ℕ) → p % 2 ≡ 1 → q % 2 ≡ 1 → o % 2 ≡ 1 → r % 2 ≡ 0 → s % 2 ≡ 0
    → (p + r) % 4 ≡ (t + s) % 4 → (q' + t) % 4 ≡ 0 → q ≡ (q' + 2) % 4
    → ((p + o) % 4 / 2 + (q + o) % 4 / 2) % 2 ≡ (r / 2 + s / 2) % 2
turn_two p q q' t r s o hp hq ho hr hs e f g = turn_one p q r s o hp hq ho hr hs (move s q t (opposite q t hq (both q q' t f g)) ∙ sym e)
  where
    both : (q q' t : ℕ) → (q' + t) % 4 ≡ 0 → q ≡ (q' + 2) % 4 → (q + t) % 4 ≡ 2
    both q q' t f g = ap (λ (v : ℕ). (v + t) % 4) g ∙ mod4 (q' + 2) t ∙ ap (λ (v : ℕ). v % 4) (omega arith) ∙ sym (mod4 (q' + t) 2) ∙ ap (λ (v : ℕ). (v + 2) % 4) f

    opposite : (q t : ℕ) → q % 2 ≡ 1 → (q + t) % 4 ≡ 2 → q % 4 ≡ t % 4
    opposite q t h e = omega arith

    move : (s q t : ℕ) → q % 4 ≡ t % 4 → (s + q) % 4 ≡ (t + s) % 4
    move s q t e = omega arith

pub two_evens : (p q r o : ℕ) → p % 2 ≡ 0 → q % 2 ≡ 0 → (p + q) % 4 ≡ (o + r) % 4 → (p / 2 + q / 2) % 2 ≡ ((r + o) % 4 / 2) % 2
two_evens p q r o hp hq e =
    let m = p / 2 + q / 2 in
    let e1 : 2 * m % 4 ≡ (r + o) % 4 = ap (λ (v : ℕ). v % 4) (omega arith) ∙ e ∙ ap (λ (v : ℕ). v % 4) (omega arith) in
    half m ((r + o) % 4) (sym (double m) ∙ e1)
  where
    half : (m x : ℕ) → 2 * (m % 2) ≡ x → m % 2 ≡ (x / 2) % 2
    half m x e = omega arith
