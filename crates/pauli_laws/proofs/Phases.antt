-- The phase of a product, counted in quarter turns, and the sign that it comes to where labels commute.
use Rattle.std.proofs.Common.{◌≡◌, ℕ, zero, suc, ◌+◌, ◌*◌, ◌/◌, ◌%◌, ◌<◌, ◌⊎◌, sym, refl, ap, ◌∙◌, inl, inr, arith}
use lib.Bits.{bit_xor, and_comm}
use lib.Count.{ones}
use Rattle.pauli.specs.declared.label.Label.{Label}
use Rattle.pauli.specs.Labels.{plus, ys, ks, pairing, us, beta, zero_label}
use Rattle.pauli_laws.proofs.Numbers.{swap_even, halve, add4, drop4}
use Rattle.pauli_laws.proofs.Words.{parity_l, parity_r, ones_zero}
use Rattle.pauli_laws.proofs.Algebra.{plus_comm, plus_assoc, plus_self, ks_l, ks_r, pairing_ks, pairing_l, pairing_r, pairing_zero_r}

pub ys_plus : (a b : Label) → ys (plus a b) % 2 ≡ (ys a + ys b + ks a b + ks b a) % 2
unfolding plus ys ks
ys_plus a b =
    omega (
      arith,
      parity_l a.x b.x (bit_xor a.z b.z),
      parity_r a.x a.z b.z,
      parity_r b.x a.z b.z,
      ap ones (and_comm a.x b.z),
      ap ones (and_comm b.x a.z),
    )

-- ---- any two labels

pub us_lt : (a b : Label) → us a b < 4
unfolding us
us_lt a b = omega arith

-- the phase is odd exactly where the labels anticommute
pub us_mod : (a b : Label) → us a b % 2 ≡ pairing a b
unfolding us
us_mod a b = omega (arith, pairing_ks a b, ys_plus a b)

-- three labels, grouped either way: the counts of Y cancel, and k is linear on both sides
pub us_cocycle : (a b c : Label) → (us a b + us (plus a b) c) % 4 ≡ (us b c + us a (plus b c)) % 4
unfolding us
us_cocycle a b c =
    let ya = ys a in let yb = ys b in let yc = ys c in
    let t = ys (plus (plus a b) c) in
    let y = ya + yb + yc + 3 * t in
    let l : (us a b + us (plus a b) c) % 4 ≡ (y + 2 * (ks a b + ks (plus a b) c) + 4 * ys (plus a b)) % 4
    = add4 (ya + yb + 2 * ks a b + 3 * ys (plus a b)) (ys (plus a b) + yc + 2 * ks (plus a b) c + 3 * t) (us a b) (us (plus a b) c) refl refl
    ∙ ap (λ (v : ℕ). v % 4) (omega arith) in
    let r : (us b c + us a (plus b c)) % 4 ≡ (y + 2 * (ks b c + ks a (plus b c)) + 4 * ys (plus b c)) % 4
    = add4 (yb + yc + 2 * ks b c + 3 * ys (plus b c)) (ya + ys (plus b c) + 2 * ks a (plus b c) + 3 * ys (plus a (plus b c))) (us b c) (us a (plus b c)) refl refl
    ∙ ap (λ (v : ℕ). v % 4) (omega (arith, ap ys (plus_assoc a b c))) in
    l ∙ drop4 (y + 2 * (ks a b + ks (plus a b) c)) (ys (plus a b))
    ∙ swap_even y (ks a b + ks (plus a b) c) (ks b c + ks a (plus b c)) (crossed (ks a b) (ks a c) (ks b c) (ks (plus a b) c) (ks a (plus b c)) (ks_l a b c) (ks_r a b c))
    ∙ sym (r ∙ drop4 (y + 2 * (ks b c + ks a (plus b c))) (ys (plus b c)))
  where
    crossed : (ab ac bc k l : ℕ) → k % 2 ≡ (ac + bc) % 2 → l % 2 ≡ (ab + ac) % 2 → (ab + k) % 2 ≡ (bc + l) % 2
    crossed ab ac bc k l e f = omega arith

-- the other way round it differs by half a turn where the labels anticommute
pub us_swap : (a b : Label) → us a b ≡ (us b a + 2 * pairing a b) % 4
unfolding us
us_swap a b =
    let y = ys a + ys b + 3 * ys (plus a b) in
    let l : us a b ≡ (y + 2 * ks a b) % 4 = ap (λ (v : ℕ). v % 4) (omega arith) in
    let r : us b a ≡ (y + 2 * ks b a) % 4 = ap (λ (v : ℕ). v % 4) (omega (arith, ap ys (plus_comm a b))) in
    let e : (y + 2 * ks a b) % 4 ≡ (y + 2 * (ks b a + pairing a b)) % 4 = swap_even y (ks a b) (ks b a + pairing a b) (omega (arith, pairing_ks a b)) in
    l ∙ e ∙ omega (arith, r)

pub us_self : (a : Label) → us a a ≡ 0
unfolding us ys ks
us_self a =
    let e : us a a ≡ 4 * ys a % 4 = ap (λ (v : ℕ). v % 4) (omega (arith, ap ones (and_comm a.x a.z), ap ys (plus_self a), ones_zero)) in
    e ∙ omega arith

pub us_zero : (a : Label) → us zero_label a ≡ 0
unfolding us ys ks plus
us_zero a =
    let e : us zero_label a ≡ 4 * ys a % 4 = ap (λ (v : ℕ). v % 4) (omega (arith, ones_zero)) in
    e ∙ omega arith

-- h times c, and h times that again
pub us_twice : (h c : Label) → (us h c + us h (plus h c)) % 4 ≡ 0
us_twice h c = sym (us_cocycle h h c) ∙ omega (arith, us_self h, ap (λ (l : Label). us l c) (plus_self h), us_zero c)

-- ---- commuting labels

pub beta_us : (a b : Label) → beta a b ≡ us a b / 2
unfolding beta
beta_us a b = refl

pub beta_lt : (a b : Label) → beta a b < 2
beta_lt a b = omega (arith, beta_us a b, us_lt a b)

pub us_even : (a b : Label) → pairing a b ≡ 0 → us a b % 2 ≡ 0
us_even a b h = us_mod a b ∙ h

pub zero_or_two : (a b : Label) → pairing a b ≡ 0 → (us a b ≡ 0) ⊎ (us a b ≡ 2)
zero_or_two a b h = go (us a b) (us_lt a b) (us_even a b h)
  where
    go : (n : ℕ) → n < 4 → n % 2 ≡ 0 → (n ≡ 0) ⊎ (n ≡ 2)
    go zero h e = inl refl
    go (suc zero) h e = absurd (omega arith)
    go (suc (suc n)) h e = inr (omega arith)

pub twice_beta : (a b : Label) → pairing a b ≡ 0 → 2 * beta a b ≡ us a b
twice_beta a b h = omega (arith, beta_us a b, us_even a b h)

pub beta_comm : (a b : Label) → pairing a b ≡ 0 → beta a b ≡ beta b a
beta_comm a b h = omega (arith, beta_us a b, beta_us b a, us_swap a b, us_lt b a)

pub beta_self : (a : Label) → beta a a ≡ 0
beta_self a = omega (arith, beta_us a a, us_self a)

pub zero_beta : (a : Label) → beta zero_label a ≡ 0
zero_beta a = omega (arith, beta_us zero_label a, us_zero a)

pub beta_zero : (a : Label) → beta a zero_label ≡ 0
beta_zero a = beta_comm a zero_label (pairing_zero_r a) ∙ zero_beta a

pub cocycle : (a b c : Label) → pairing a b ≡ 0 → pairing a c ≡ 0 → pairing b c ≡ 0
    → (beta a b + beta (plus a b) c) % 2 ≡ (beta b c + beta a (plus b c)) % 2
cocycle a b c hab hac hbc =
    halve (beta a b + beta (plus a b) c) (beta b c + beta a (plus b c))
    (ap (λ (v : ℕ). v % 4) (omega (arith, twice_beta a b hab, twice_beta (plus a b) c (omega (arith, pairing_l a b c))))
    ∙ us_cocycle a b c
    ∙ ap (λ (v : ℕ). v % 4) (omega (arith, twice_beta b c hbc, twice_beta a (plus b c) (omega (arith, pairing_r a b c)))))
