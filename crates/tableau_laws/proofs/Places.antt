-- The places that pass a test: how many, and which is the i-th.
use Rattle.std.proofs.Common.{◌≡◌, ℕ, zero, suc, ◌+◌, ◌<◌, ◌≤◌, Bool, true, false, cond, not, ◌&&◌, eqb, ◌≢◌, sym, refl, ap, ◌∙◌, ap₂, arith}
use native.Mathlib.Decide.{ℕ_discrete, dec_lt}
use Rattle.pauli.specs.declared.label.Label.{Label}
use Rattle.pauli.specs.declared.row.Row.{Row}
use Rattle.pauli.specs.Bits.{odd}
use Rattle.pauli.specs.Labels.{pairing}
use Rattle.phase.specs.LabelCases.{against}
use Rattle.pauli_laws.specs.Words.{num}
use Rattle.tableau_laws.specs.Places.{count, nth}
use Rattle.tableau_laws.specs.Rules.{against_b}
use Rattle.tableau_laws.specs.Tableaux.{labels}
use Rattle.pauli_laws.proofs.Algebra.{pairing_lt}
use Rattle.tableau_laws.proofs.Tests.{eq_false, eq_true}

module _ (t : ℕ → Bool) where
  count_one : (k : ℕ) → t k ≡ true → count t (suc k) ≡ suc (count t k)
  count_one k e = ap (λ (x : Bool). num x + count t k) e ∙ omega arith

  count_none : (k : ℕ) → t k ≡ false → count t (suc k) ≡ count t k
  count_none k e = ap (λ (x : Bool). num x + count t k) e ∙ omega arith

  count_up : (j k : ℕ) → j ≤ k → count t j ≤ count t k
  count_up j zero l = let e : j ≡ 0 = omega arith in omega (arith, ap (count t) e)
  count_up j (suc k) l = go (λ (h : j ≤ k). count_up j k h) (ℕ_discrete j (suc k))
    where
      go : (j ≤ k → count t j ≤ count t k) → Dec (j ≡ suc k) → count t j ≤ count t (suc k)
      go r (yes p) = omega (arith, ap (count t) p)
      go r (no p) = omega (arith, r (omega arith))

  -- a place that passes is counted from the next on
  pub count_less : (j k : ℕ) → j < k → t j ≡ true → count t j < count t k
  count_less j zero l e = absurd (omega arith)
  count_less j (suc k) l e = go (λ (h : j < k). count_less j k h e) (ℕ_discrete j k)
    where
      go : (j < k → count t j < count t k) → Dec (j ≡ k) → count t j < count t (suc k)
      go r (yes p) = omega (arith, count_one k (ap t (sym p) ∙ e), ap (count t) p)
      go r (no p) = omega (arith, r (omega arith))

  pub nth_here : (k i : ℕ) → t k ≡ true → count t k ≡ i → nth t (suc k) i ≡ k
  nth_here k i e c = ap₂ (λ (x y : Bool). cond (x && y) k (nth t k i)) e (eq_true (count t k) i c)

  pub nth_not : (k i : ℕ) → t k ≡ false → nth t (suc k) i ≡ nth t k i
  nth_not k i e = ap (λ (x : Bool). cond (x && eqb (count t k) i) k (nth t k i)) e

  nth_later : (k i : ℕ) → t k ≡ true → count t k ≢ i → nth t (suc k) i ≡ nth t k i
  nth_later k i e c = ap₂ (λ (x y : Bool). cond (x && y) k (nth t k i)) e (eq_false (count t k) i c)

  -- the i-th place is below k, passes, and has i before it
  pub nth_is : (k i : ℕ) → i < count t k → (nth t k i < k) × (t (nth t k i) ≡ true) × (count t (nth t k i) ≡ i)
  nth_is zero i l = absurd (omega arith)
  nth_is (suc k) i l = go (λ (h : i < count t k). nth_is k i h) (t k) refl (ℕ_discrete (count t k) i)
    where
      keep : nth t (suc k) i ≡ nth t k i → (nth t k i < k) × (t (nth t k i) ≡ true) × (count t (nth t k i) ≡ i)
          → (nth t (suc k) i < suc k) × (t (nth t (suc k) i) ≡ true) × (count t (nth t (suc k) i) ≡ i)
      keep e (p, q, r) = (omega (arith, e, p), ap t e ∙ q, ap (count t) e ∙ r)

      go : (i < count t k → (nth t k i < k) × (t (nth t k i) ≡ true) × (count t (nth t k i) ≡ i)) → (x : Bool) → t k ≡ x → Dec (count t k ≡ i)
          → (nth t (suc k) i < suc k) × (t (nth t (suc k) i) ≡ true) × (count t (nth t (suc k) i) ≡ i)
      go r true e (yes p) = let h = nth_here k i e p in (omega (arith, h), ap t h ∙ e, ap (count t) h ∙ p)
      go r true e (no p) = keep (nth_later k i e p) (r (omega (arith, count_one k e)))
      go r false e d = keep (nth_not k i e) (r (omega (arith, count_none k e)))

  -- a place that passes is the one of its number
  pub nth_at : (k j : ℕ) → j < k → t j ≡ true → nth t k (count t j) ≡ j
  nth_at zero j l e = absurd (omega arith)
  nth_at (suc k) j l e = go (λ (h : j < k). nth_at k j h e) (t k) refl (ℕ_discrete j k)
    where
      go : (j < k → nth t k (count t j) ≡ j) → (x : Bool) → t k ≡ x → Dec (j ≡ k) → nth t (suc k) (count t j) ≡ j
      go r x ex (yes p) = nth_here k (count t j) (ap t (sym p) ∙ e) (ap (count t) (sym p)) ∙ sym p
      go r true ex (no p) = nth_later k (count t j) ex (omega (arith, count_less j k (omega arith) e)) ∙ r (omega arith)
      go r false ex (no p) = nth_not k (count t j) ex ∙ r (omega arith)

  -- the places come in order
  pub nth_order : (k i j : ℕ) → i < j → j < count t k → nth t k i < nth t k j
  nth_order k i j l h = go (dec_lt (nth t k i) (nth t k j))
    where
      go : Dec (nth t k i < nth t k j) → nth t k i < nth t k j
      go (yes p) = p
      go (no p) = absurd (omega (arith, count_up (nth t k j) (nth t k i) (omega arith), (nth_is k i (omega arith)).2, (nth_is k j h).2))

-- the places that do not pass are the rest
pub count_not : (t : ℕ → Bool) (k : ℕ) → count (λ j. not (t j)) k + count t k ≡ k
count_not t zero = refl
count_not t (suc k) = go (count_not t k) (t k)
  where
    go : count (λ j. not (t j)) k + count t k ≡ k → (x : Bool) → num (not x) + count (λ j. not (t j)) k + (num x + count t k) ≡ suc k
    go e true = omega arith
    go e false = omega arith

-- the count of rows that anticommute with b
pub count_against : (R : ℕ → Row) (b : Label) (k : ℕ) → count (against_b R b) k ≡ against (labels R) b k
count_against R b zero = refl
count_against R b (suc k) = ap₂ ◌+◌ (bit (pairing (R k).label b) (pairing_lt (R k).label b)) (count_against R b k)
  where
    bit : (p : ℕ) → p < 2 → num (odd p) ≡ p
    bit zero l = refl
    bit (suc zero) l = refl
    bit (suc (suc p)) l = absurd (omega arith)
