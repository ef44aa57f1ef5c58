-- The phase of a product as a sum over places, and labels that differ at one place or at two.
use Rattle.std.proofs.Common.{◌≡◌, ℕ, ◌+◌, ◌*◌, ◌%◌, ◌^◌, ◌<◌, Bool, ◌&&◌, ◌≢◌, sym, ap, ◌∙◌, ap₂, arith}
use lib.Bits.{bit_and, and_lt, xor_lt}
use lib.Count.{ones}
use Rattle.pauli.specs.declared.label.Label.{Label}
use Rattle.pauli.specs.Bits.{xorb, bit_of}
use Rattle.pauli.specs.Labels.{plus, ys, ks, us, Within}
use Rattle.pauli_laws.proofs.Numbers.{shift, mod4}
use Rattle.pauli_laws.proofs.Signs.{num}
use Rattle.pauli_laws.proofs.Places.{bit_of_xor, bit_of_and, sum, sum_ext, sum_add, sum_times, sum_one, sum_two, ones_sum}

-- the phase at one place, of the bits x and z of a and of b there
abbrev pub u_at : Bool → Bool → Bool → Bool → ℕ
u_at p q r s = num (p && q) + num (r && s) + 2 * num (q && r) + 3 * num (xorb p r && xorb q s)

abbrev pub u : Label → Label → ℕ → ℕ
u a b i = u_at (bit_of a.x i) (bit_of a.z i) (bit_of b.x i) (bit_of b.z i)

pub u_path : {p q r s p' q' r' s' : Bool} → p ≡ p' → q ≡ q' → r ≡ r' → s ≡ s' → u_at p q r s ≡ u_at p' q' r' s'
u_path d e f h = cc

and_sum : (n p q : ℕ) → p < 2 ^ n → q < 2 ^ n → ones (bit_and p q) ≡ sum (λ i. num (bit_of p i && bit_of q i)) n
and_sum n p q h k =
    ones_sum n (bit_and p q) (and_lt n p q h k)
    ∙ sum_ext n (λ i. num (bit_of (bit_and p q) i)) (λ i. num (bit_of p i && bit_of q i)) (λ i. ap num (bit_of_and p q i))

pub us_sum : (n : ℕ) (a b : Label) → Within n a → Within n b → us a b ≡ sum (u a b) n % 4
unfolding us ys ks plus
us_sum n a b ha hb =
    let f1 : ℕ → ℕ = λ i. num (bit_of a.x i && bit_of a.z i) in
    let f2 : ℕ → ℕ = λ i. num (bit_of b.x i && bit_of b.z i) in
    let f3 : ℕ → ℕ = λ i. num (bit_of a.z i && bit_of b.x i) in
    let f4 : ℕ → ℕ = λ i. num (xorb (bit_of a.x i) (bit_of b.x i) && xorb (bit_of a.z i) (bit_of b.z i)) in
    let e1 : ys a ≡ sum f1 n = and_sum n a.x a.z ha.x ha.z in
    let e2 : ys b ≡ sum f2 n = and_sum n b.x b.z hb.x hb.z in
    let e3 : ks a b ≡ sum f3 n = and_sum n a.z b.x ha.z hb.x in
    let e4 : ys (plus a b) ≡ sum f4 n
    = and_sum n (plus a b).x (plus a b).z (xor_lt n a.x b.x ha.x hb.x) (xor_lt n a.z b.z ha.z hb.z)
    ∙ sum_ext n (λ i. num (bit_of (plus a b).x i && bit_of (plus a b).z i)) f4
    (λ i. ap₂ (λ (p q : Bool). num (p && q)) (bit_of_xor a.x b.x i) (bit_of_xor a.z b.z i)) in
    let s : sum (u a b) n ≡ ys a + ys b + 2 * ks a b + 3 * ys (plus a b) =
    omega (
      arith,
      sum_add n (λ i. f1 i + f2 i + 2 * f3 i) (λ i. 3 * f4 i),
      sum_add n (λ i. f1 i + f2 i) (λ i. 2 * f3 i),
      sum_add n f1 f2,
      sum_times 2 n f3,
      sum_times 3 n f4,
    ) in
    ap (λ (v : ℕ). v % 4) (sym s)

-- r and s are what is added to the phases on either side: the signs, two quarter turns each
pub phase_one : (n : ℕ) (a b a' b' : Label) → Within n a → Within n b → Within n a' → Within n b' → (i : ℕ) → i < n
    → ((j : ℕ) → j ≢ i → u a' b' j ≡ u a b j) → (r s : ℕ) → (u a' b' i + r) % 4 ≡ (u a b i + s) % 4 → (us a' b' + r) % 4 ≡ (us a b + s) % 4
phase_one n a b a' b' ha hb ha' hb' i h e r s f =
    ap (λ (v : ℕ). (v + r) % 4) (us_sum n a' b' ha' hb') ∙ mod4 (sum (u a' b') n) r
    ∙ shift (sum (u a b) n) (sum (u a' b') n) (u a b i) (u a' b' i) r s (sum_one n (u a' b') (u a b) i h e) f
    ∙ sym (ap (λ (v : ℕ). (v + s) % 4) (us_sum n a b ha hb) ∙ mod4 (sum (u a b) n) s)

pub phase_two : (n : ℕ) (a b a' b' : Label) → Within n a → Within n b → Within n a' → Within n b' → (i k : ℕ) → i < n → k < n → i ≢ k
    → ((j : ℕ) → j ≢ i → j ≢ k → u a' b' j ≡ u a b j) → (r s : ℕ) → (u a' b' i + u a' b' k + r) % 4 ≡ (u a b i + u a b k + s) % 4
    → (us a' b' + r) % 4 ≡ (us a b + s) % 4
phase_two n a b a' b' ha hb ha' hb' i k h h' d e r s f =
    ap (λ (v : ℕ). (v + r) % 4) (us_sum n a' b' ha' hb') ∙ mod4 (sum (u a' b') n) r
    ∙ shift (sum (u a b) n) (sum (u a' b') n) (u a b i + u a b k) (u a' b' i + u a' b' k) r s (sum_two n (u a' b') (u a b) i k h h' d e) f
    ∙ sym (ap (λ (v : ℕ). (v + s) % 4) (us_sum n a b ha hb) ∙ mod4 (sum (u a b) n) s)
