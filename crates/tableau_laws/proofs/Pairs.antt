-- Labels that anticommute with each other, made into pairs: what Case 3 appends.
use Rattle.std.proofs.Common.{◌≡◌, ℕ, zero, suc, ◌+◌, ◌-◌, ◌%◌, ◌<◌, ◌≤◌, Bool, true, false, cond, not, T, ltb, ◌≢◌, refl, ap, ◌∙◌, arith, ltb→lt, nltb→le, pow_pos}
use native.Mathlib.Decide.{ℕ_discrete, dec_lt}
use Rattle.pauli.specs.declared.label.Label.{Label}
use Rattle.pauli.specs.Labels.{plus, pairing, zero_label, Within}
use Rattle.tableau_laws.specs.Places.{total, glue}
use Rattle.tableau_laws.specs.Rules.{stab, dest}
use Rattle.pauli_laws.proofs.Algebra.{pairing_l, pairing_comm, pairing_lt, pairing_self, pairing_zero, pairing_r, plus_within}

-- ---- sums against a label

pub total_zero : (f : ℕ → Label) (n : ℕ) (s : Label) → ((i : ℕ) → i < n → pairing (f i) s ≡ 0) → pairing (total f n) s ≡ 0
total_zero f zero s h = pairing_zero s
total_zero f (suc n) s h = omega (arith, pairing_lt, pairing_l (f n) (total f n) s, h n (omega arith), total_zero f n s (λ i l. h i (omega arith)))

pub total_within : (n : ℕ) (f : ℕ → Label) (m : ℕ) → ((i : ℕ) → i < m → Within n (f i)) → Within n (total f m)
total_within n f zero h = record { x = pow_pos n; z = pow_pos n }
total_within n f (suc m) h = plus_within n (f m) (total f m) (h m (omega arith)) (total_within n f m (λ i l. h i (omega arith)))

-- s anticommutes with each of the first n
count_out : (f : ℕ → Label) (n : ℕ) (s : Label) → ((j : ℕ) → j < n → pairing s (f j) ≡ 1) → pairing s (total f n) ≡ n % 2
count_out f zero s h = pairing_comm s zero_label ∙ pairing_zero s
count_out f (suc n) s h = omega (arith, pairing_lt, pairing_r s (f n) (total f n), h n (omega arith), count_out f n s (λ j l. h j (omega arith)))

abbrev pub Anti : (ℕ → Label) → ℕ → Type 0
Anti g n = (i j : ℕ) → i < n → j < n → i ≢ j → pairing (g i) (g j) ≡ 1

-- one of them, and all of them
pub count_in : (f : ℕ → Label) (n i : ℕ) → i < n → Anti f n → pairing (f i) (total f n) ≡ (n + 1) % 2
count_in f zero i l h = absurd (omega arith)
count_in f (suc n) i l h = go (λ (l : i < n). count_in f n i l (λ i j a b ne. h i j (omega arith) (omega arith) ne)) (ℕ_discrete i n)
  where
    go : (i < n → pairing (f i) (total f n) ≡ (n + 1) % 2) → Dec (i ≡ n) → pairing (f i) (plus (f n) (total f n)) ≡ (suc n + 1) % 2
    go r (yes e) =
        omega (
          arith,
          pairing_lt,
          pairing_r (f i) (f n) (total f n),
          ap (λ (x : ℕ). pairing (f x) (f n)) e,
          pairing_self (f n),
          ap (λ (x : ℕ). pairing (f x) (total f n)) e,
          count_out f n (f n) (λ j k. h n j (omega arith) (omega arith) (omega arith)),
        )
    go r (no ne) = omega (arith, pairing_lt, pairing_r (f i) (f n) (total f n), h i n l (omega arith) ne, r (omega arith))

below : (f : ℕ → Label) (m n : ℕ) → m ≤ n → Anti f n → Anti f m
below f m n l h i j a b ne = h i j (omega arith) (omega arith) ne

data Order (k l : ℕ) : Type 0 where
  less : k < l → Order k l
  same : k ≡ l → Order k l
  more : l < k → Order k l

order : (k l : ℕ) → Order k l
order k l = go (dec_lt k l) (ℕ_discrete k l)
  where
    go : Dec (k < l) → Dec (k ≡ l) → Order k l
    go (yes h) d = less h
    go (no h) (yes e) = same e
    go (no h) (no e) = more (omega arith)

module _ (g : ℕ → Label) (t : ℕ) (anti : Anti g (t + t)) where
  abbrev σ : ℕ → Label
  σ k = total g (k + k)

  -- g i, past what σ k sums, or within it
  past : (i k : ℕ) → i < t + t → k + k ≤ i → pairing (g i) (σ k) ≡ 0
  past i k l h = omega (arith, count_out g (k + k) (g i) (λ j a. anti i j l (omega arith) (omega arith)))

  inside : (i k : ℕ) → i < k + k → k ≤ t → pairing (g i) (σ k) ≡ 1
  inside i k l h = omega (arith, count_in g (k + k) i l (below g (k + k) (t + t) (omega arith) anti))

  sums : (k l : ℕ) → k ≤ l → l ≤ t → pairing (σ k) (σ l) ≡ 0
  sums k l h m = pairing_comm (σ k) (σ l) ∙ omega (arith, pairing_lt, count_out g (k + k) (σ l) (λ j a. pairing_comm (σ l) (g j) ∙ inside j l (omega arith) m))

  four : (i k j l : ℕ) → pairing (plus (g i) (σ k)) (plus (g j) (σ l)) ≡ (pairing (g i) (g j) + pairing (g i) (σ l) + (pairing (σ k) (g j) + pairing (σ k) (σ l))) % 2
  four i k j l =
      omega (arith, pairing_lt, pairing_l (g i) (σ k) (plus (g j) (σ l)), pairing_r (g i) (g j) (σ l), pairing_r (σ k) (g j) (σ l))

  -- places of different pairs
  cross : (i k j l : ℕ) → k < l → l < t → k + k ≤ i → i < k + k + 2 → l + l ≤ j → j < l + l + 2 → pairing (plus (g i) (σ k)) (plus (g j) (σ l)) ≡ 0
  cross i k j l kl lt a b c d =
      omega (
        arith,
        four i k j l,
        anti i j (omega arith) (omega arith) (omega arith),
        inside i l (omega arith) (omega arith),
        pairing_comm (σ k) (g j),
        past j k (omega arith) (omega arith),
        sums k l (omega arith) (omega arith),
      )

  -- one pair
  pair : (k : ℕ) → k < t → pairing (plus (g (k + k)) (σ k)) (plus (g (k + k + 1)) (σ k)) ≡ 1
  pair k h =
      omega (
        arith,
        four (k + k) k (k + k + 1) k,
        anti (k + k) (k + k + 1) (omega arith) (omega arith) (omega arith),
        past (k + k) k (omega arith) (omega arith),
        pairing_comm (σ k) (g (k + k + 1)),
        past (k + k + 1) k (omega arith) (omega arith),
        pairing_self (σ k),
      )

  pub stab_stab : (k l : ℕ) → k < t → l < t → pairing (stab g k) (stab g l) ≡ 0
  stab_stab k l a b = elim (order k l) [
    | less h ↦ cross (k + k) k (l + l) l h b (omega arith) (omega arith) (omega arith) (omega arith)
    | same e ↦ rw e (pairing_self (stab g l))
    | more h ↦ pairing_comm (stab g k) (stab g l) ∙ cross (l + l) l (k + k) k h a (omega arith) (omega arith) (omega arith) (omega arith)
  ]

  pub dest_dest : (k l : ℕ) → k < t → l < t → pairing (dest g k) (dest g l) ≡ 0
  dest_dest k l a b = elim (order k l) [
    | less h ↦ cross (k + k + 1) k (l + l + 1) l h b (omega arith) (omega arith) (omega arith) (omega arith)
    | same e ↦ rw e (pairing_self (dest g l))
    | more h ↦ pairing_comm (dest g k) (dest g l) ∙ cross (l + l + 1) l (k + k + 1) k h a (omega arith) (omega arith) (omega arith) (omega arith)
  ]

  pub stab_dest : (k l : ℕ) → k < t → l < t → k ≢ l → pairing (stab g k) (dest g l) ≡ 0
  stab_dest k l a b ne = elim (order k l) [
    | less h ↦ cross (k + k) k (l + l + 1) l h b (omega arith) (omega arith) (omega arith) (omega arith)
    | same e ↦ absurd (ne e)
    | more h ↦ pairing_comm (stab g k) (dest g l) ∙ cross (l + l + 1) l (k + k) k h a (omega arith) (omega arith) (omega arith) (omega arith)
  ]

  pub stab_dest_same : (k : ℕ) → k < t → pairing (stab g k) (dest g k) ≡ 1
  stab_dest_same k h = pair k h

  -- what commutes with each g commutes with the pairs
  pub stab_other : (s : Label) → ((i : ℕ) → i < t + t → pairing (g i) s ≡ 0) → (k : ℕ) → k < t → pairing (stab g k) s ≡ 0
  stab_other s h k a = omega (arith, pairing_lt, pairing_l (g (k + k)) (σ k) s, h (k + k) (omega arith), total_zero g (k + k) s (λ i l. h i (omega arith)))

  pub dest_other : (s : Label) → ((i : ℕ) → i < t + t → pairing (g i) s ≡ 0) → (k : ℕ) → k < t → pairing (dest g k) s ≡ 0
  dest_other s h k a = omega (arith, pairing_lt, pairing_l (g (k + k + 1)) (σ k) s, h (k + k + 1) (omega arith), total_zero g (k + k) s (λ i l. h i (omega arith)))

-- ---- places below m, and from m on

pub data Place {A : Type 0} (m : ℕ) (f h : ℕ → A) (i : ℕ) : Type 0 where
  front : i < m → glue m f h i ≡ f i → Place m f h i
  back : m ≤ i → glue m f h i ≡ h (i - m) → Place m f h i

pub place : {A : Type 0} (m : ℕ) (f h : ℕ → A) (i : ℕ) → Place m f h i
place m f h i = go (ltb i m) (ltb→lt i m) (nltb→le i m) refl
  where
    go : (c : Bool) → (T c → i < m) → (T (not c) → m ≤ i) → ltb i m ≡ c → Place m f h i
    go true l r e = front (l tt) (ap (λ (c : Bool). cond c (f i) (h (i - m))) e)
    go false l r e = back (r tt) (ap (λ (c : Bool). cond c (f i) (h (i - m))) e)
