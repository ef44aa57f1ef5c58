-- The algebra of labels: their sums, and how they pair.
use Rattle.std.proofs.Common.{◌≡◌, ℕ, ◌+◌, ◌%◌, ◌<◌, ◌≤◌, sym, ap, ◌∙◌, ap₂, lt_of_lt_of_le, arith, pow_pos, pow_mono}
use native.Mathlib.Decide.{ℕ_discrete}
use lib.Bits.{xor_comm, xor_assoc, xor_self, xor_zero_r, xor_lt, and_comm}
use lib.Count.{ones}
use Rattle.pauli.specs.declared.label.Label.{Label}
use Rattle.pauli.specs.Labels.{plus, ks, pairing, zero_label, Within}
use Rattle.pauli_laws.proofs.Numbers.{below_pow}
use Rattle.pauli_laws.proofs.Words.{parity_l, parity_r, ones_zero}

-- ---- sums

-- a label is its two words
abbrev pub label : ℕ → ℕ → Label
label p q = record { x = p; z = q }

pub plus_comm : (a b : Label) → plus a b ≡ plus b a
unfolding plus
plus_comm a b = ap₂ label (xor_comm a.x b.x) (xor_comm a.z b.z)

pub plus_assoc : (a b c : Label) → plus (plus a b) c ≡ plus a (plus b c)
unfolding plus
plus_assoc a b c = ap₂ label (xor_assoc a.x b.x c.x) (xor_assoc a.z b.z c.z)

pub plus_self : (a : Label) → plus a a ≡ zero_label
unfolding plus
plus_self a = ap₂ label (xor_self a.x) (xor_self a.z)

pub plus_zero : (a : Label) → plus a zero_label ≡ a
unfolding plus
plus_zero a = ap₂ label (xor_zero_r a.x) (xor_zero_r a.z)

pub zero_plus : (a : Label) → plus zero_label a ≡ a
zero_plus a = plus_comm zero_label a ∙ plus_zero a

pub plus_cancel : (a b : Label) → plus a (plus a b) ≡ b
plus_cancel a b = sym (plus_assoc a a b) ∙ ap (λ (l : Label). plus l b) (plus_self a) ∙ zero_plus b

pub plus_right : (a b : Label) → plus b (plus a b) ≡ a
plus_right a b = ap (plus b) (plus_comm a b) ∙ plus_cancel b a

pub plus_swap : (a b c d : Label) → plus (plus a b) (plus c d) ≡ plus (plus a c) (plus b d)
plus_swap a b c d =
    plus_assoc a b (plus c d)
    ∙ ap (plus a) (sym (plus_assoc b c d) ∙ ap (λ (l : Label). plus l d) (plus_comm b c) ∙ plus_assoc c b d)
    ∙ sym (plus_assoc a c (plus b d))

pub plus_drop : (a b c : Label) → plus (plus a b) (plus a c) ≡ plus b c
plus_drop a b c = plus_swap a b a c ∙ ap (λ (l : Label). plus l (plus b c)) (plus_self a) ∙ zero_plus (plus b c)

pub plus_inj : (a b c : Label) → plus a b ≡ plus a c → b ≡ c
plus_inj a b c e = sym (plus_cancel a b) ∙ ap (plus a) e ∙ plus_cancel a c

pub plus_same : (a b : Label) → plus a b ≡ zero_label → a ≡ b
plus_same a b e = sym (plus_zero a) ∙ ap (plus a) (sym e) ∙ plus_cancel a b

-- whether a label is zero, and whether two are the same, can be told
pub label_discrete : (a : Label) → Dec (a ≡ zero_label)
label_discrete a = go (ℕ_discrete a.x 0) (ℕ_discrete a.z 0)
  where
    go : Dec (a.x ≡ 0) → Dec (a.z ≡ 0) → Dec (a ≡ zero_label)
    go (yes e) (yes f) = yes (ap₂ label e f)
    go (no h) d = no (λ e. h (ap (λ (l : Label). l.x) e))
    go (yes e) (no h) = no (λ e. h (ap (λ (l : Label). l.z) e))

pub label_eq : (a b : Label) → Dec (a ≡ b)
label_eq a b = go (label_discrete (plus a b))
  where
    go : Dec (plus a b ≡ zero_label) → Dec (a ≡ b)
    go (yes e) = yes (plus_same a b e)
    go (no h) = no (λ e. h (ap (λ (l : Label). plus l b) e ∙ plus_self b))

-- ---- labels of n qubits

pub zero_within : (n : ℕ) → Within n zero_label
zero_within n = record { x = pow_pos n; z = pow_pos n }

pub plus_within : (n : ℕ) (a b : Label) → Within n a → Within n b → Within n (plus a b)
unfolding plus
plus_within n a b h k = record { x = xor_lt n a.x b.x h.x k.x; z = xor_lt n a.z b.z h.z k.z }

-- every label is one of enough qubits
pub within_large : (n : ℕ) (a : Label) → a.x ≤ n → a.z ≤ n → Within n a
within_large n a h k = record { x = lt_of_lt_of_le (below_pow a.x) (pow_mono h); z = lt_of_lt_of_le (below_pow a.z) (pow_mono k) }

-- ---- pairings

pub ks_l : (a b c : Label) → ks (plus a b) c % 2 ≡ (ks a c + ks b c) % 2
unfolding plus ks
ks_l a b c = parity_l a.z b.z c.x

pub ks_r : (a b c : Label) → ks a (plus b c) % 2 ≡ (ks a b + ks a c) % 2
unfolding plus ks
ks_r a b c = parity_r a.z b.x c.x

pub pairing_ks : (a b : Label) → pairing a b ≡ (ks b a + ks a b) % 2
unfolding ks pairing
pairing_ks a b = omega (arith, ap ones (and_comm a.x b.z))

pub pairing_l : (a b c : Label) → pairing (plus a b) c ≡ (pairing a c + pairing b c) % 2
pairing_l a b c = omega (arith, pairing_ks (plus a b) c, pairing_ks a c, pairing_ks b c, ks_l a b c, ks_r c a b)

pub pairing_comm : (a b : Label) → pairing a b ≡ pairing b a
pairing_comm a b = omega (arith, pairing_ks a b, pairing_ks b a)

pub pairing_r : (a b c : Label) → pairing a (plus b c) ≡ (pairing a b + pairing a c) % 2
pairing_r a b c = omega (arith, pairing_comm a (plus b c), pairing_l b c a, pairing_comm b a, pairing_comm c a)

pub pairing_lt : (a b : Label) → pairing a b < 2
unfolding pairing
pairing_lt a b = omega arith

pub pairing_self : (a : Label) → pairing a a ≡ 0
pairing_self a = omega (arith, pairing_ks a a)

pub pairing_zero : (a : Label) → pairing zero_label a ≡ 0
unfolding pairing
pairing_zero a = omega (arith, ones_zero)

pub pairing_zero_r : (a : Label) → pairing a zero_label ≡ 0
pairing_zero_r a = pairing_comm a zero_label ∙ pairing_zero a
