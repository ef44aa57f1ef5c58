-- The pigeonhole: an injective map of the numbers below N into themselves is onto.
use Rattle.std.proofs.Common.{◌≡◌, ℕ, zero, suc, ◌<◌, ◌≢◌, sym, ◌∙◌, arith}
use native.Mathlib.Decide.{ℕ_discrete}
use Rattle.pauli_laws.specs.Pigeons.{Below, Inj, Hits}

-- v in place of m
abbrev swap : (m v x : ℕ) → Dec (x ≡ m) → ℕ
swap m v x (yes e) = v
swap m v x (no e) = x

-- f with its way round m: what f sends to m goes where m goes
abbrev round : ℕ → (ℕ → ℕ) → ℕ → ℕ
round m f i = swap m (f m) (f i) (ℕ_discrete (f i) m)

module _ (m : ℕ) (f : ℕ → ℕ) (below : Below (suc m) f) (inj : Inj (suc m) f) where
  round_below : (i : ℕ) → i < m → (d : Dec (f i ≡ m)) → swap m (f m) (f i) d < m
  round_below i k (yes e) =
      let apart : f m ≢ m = λ e'. absurd (omega (arith, inj i m (omega arith) (omega arith) (e ∙ sym e'))) in
      omega (arith, below m (omega arith))
  round_below i k (no e) = omega (arith, below i (omega arith))

  round_inj : (i j : ℕ) → i < m → j < m → (d : Dec (f i ≡ m)) (d' : Dec (f j ≡ m)) → swap m (f m) (f i) d ≡ swap m (f m) (f j) d' → i ≡ j
  round_inj i j hi hj (yes e) (yes e') eq = inj i j (omega arith) (omega arith) (e ∙ sym e')
  round_inj i j hi hj (yes e) (no e') eq = absurd (omega (arith, inj m j (omega arith) (omega arith) eq))
  round_inj i j hi hj (no e) (yes e') eq = absurd (omega (arith, inj i m (omega arith) (omega arith) eq))
  round_inj i j hi hj (no e) (no e') eq = inj i j (omega arith) (omega arith) eq

  -- the one that goes to m, where m does not go there itself
  top : (i : ℕ) → i < m → (d : Dec (f i ≡ m)) → swap m (f m) (f i) d ≡ f m → f i ≡ m
  top i k (yes e) eq = e
  top i k (no e) eq = absurd (omega (arith, inj i m (omega arith) (omega arith) eq))

  other : (y i : ℕ) → i < m → (d : Dec (f i ≡ m)) → y ≢ f m → swap m (f m) (f i) d ≡ y → f i ≡ y
  other y i k (yes e) ne eq = absurd (ne (sym eq))
  other y i k (no e) ne eq = eq

  last : ((z : ℕ) → z < m → Hits m (round m f) z) → (y : ℕ) → y < suc m → Dec (y ≡ f m) → Dec (y ≡ m) → Hits (suc m) f y
  last rest y h (yes e) d = (m, omega arith, sym e)
  last rest y h (no e) (yes e') =
      let p = rest (f m) (omega (arith, below m (omega arith))) in
      (p.0, omega (arith, p.1), top p.0 p.1 (ℕ_discrete (f p.0) m) p.2 ∙ sym e')
  last rest y h (no e) (no e') =
      let p = rest y (omega arith) in
      (p.0, omega (arith, p.1), other y p.0 p.1 (ℕ_discrete (f p.0) m) e p.2)

pub onto : (N : ℕ) (f : ℕ → ℕ) → Below N f → Inj N f → (y : ℕ) → y < N → Hits N f y
onto zero f below inj y h = absurd (omega arith)
onto (suc m) f below inj y h =
    last m f below inj
    (onto m (round m f) (λ i l. round_below m f below inj i l (ℕ_discrete (f i) m))
    (λ i j hi hj. round_inj m f below inj i j hi hj (ℕ_discrete (f i) m) (ℕ_discrete (f j) m)))
    y h (ℕ_discrete y (f m)) (ℕ_discrete y m)
