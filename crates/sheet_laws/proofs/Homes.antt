-- The rays of a sheet inside those of a larger one.
use Rattle.std.proofs.Common.{◌≡◌, ℕ, ◌<◌, Bool, ◌≢◌, ◌⊎◌, Some, sym, ◌∙◌, subst, ap₂, inl, inr, arith}
use native.Mathlib.Decide.{ℕ_discrete}
use Rattle.pauli.specs.declared.label.Label.{Label}
use Rattle.pauli.specs.Labels.{pairing, plus}
use Rattle.phase.specs.Sheets.{Central, Valued, Values}
use Rattle.sheet_laws.specs.Closed.{Closed}
use Rattle.pauli_laws.proofs.Algebra.{pairing_comm, pairing_l, pairing_lt, pairing_self, plus_comm, plus_drop}
use Rattle.sheet_laws.proofs.Central.{central_sum}

module _ (n c c' k : ℕ) (f g : Values) (S : Closed n c k f) (S' : Closed n c' k g) (sub : (a : Label) (u : Bool) → f a ≡ Some u → g a ≡ Some u) where
  pub up : (a : Label) → Valued f a → Valued g a
  up a (u, e) = (u, sub a u e)

  -- labels of one ray of g differ by a centre label, and labels of two rays anticommute
  pub same_ray : (x y : Label) (j : ℕ) → Central g (plus x (S'.J j)) → Central g (plus y (S'.J j)) → Central g (plus x y)
  same_ray x y j p q =
      subst (Central g) (ap₂ plus (plus_comm x (S'.J j)) (plus_comm y (S'.J j)) ∙ plus_drop (S'.J j) x y) (central_sum n c' k g S' (plus x (S'.J j)) (plus y (S'.J j)) p q)

  pub other_ray : (x y : Label) (i j : ℕ) → i < k → j < k → i ≢ j → Valued g x → Valued g y → Central g (plus x (S'.J i)) → Central g (plus y (S'.J j)) → pairing x y ≡ 1
  other_ray x y i j li lj ne vx vy p q =
      omega (arith, pairing_lt, p.commutes y vy, pairing_l x (S'.J i) y, q.commutes (S'.J i) (S'.stands i li), pairing_l y (S'.J j) (S'.J i), pairing_comm y (S'.J i), S'.apart j i lj li (λ e. ne (sym e)))

  module _ (big : 2 < k) where
    -- the ray of g in which a ray of f is
    pub home : (i : ℕ) → i < k → (j : ℕ) × (j < k) × Central g (plus (S.J i) (S'.J j))
    home i l = by (S'.each (S.J i) (up (S.J i) (S.stands i l)))
      where
        away : (m : ℕ) → m < k → i ≢ m → Central g (S.J i) → ⊥
        away m lm ne q = omega (arith, q.commutes (S.J m) (up (S.J m) (S.stands m lm)), S.apart i m l lm ne)

        by : Central g (S.J i) ⊎ ((j : ℕ) × (j < k) × Central g (plus (S.J i) (S'.J j))) → (j : ℕ) × (j < k) × Central g (plus (S.J i) (S'.J j))
        by (inr p) = p
        by (inl q) = absurd (pick (ℕ_discrete i 0))
          where
            pick : Dec (i ≡ 0) → ⊥
            pick (yes e) = away 1 (omega arith) (omega arith) q
            pick (no e) = away 0 (omega arith) (omega arith) q

    pub home_once : (i j : ℕ) (hi : i < k) (hj : j < k) → (home i hi).0 ≡ (home j hj).0 → i ≡ j
    home_once i j hi hj e = go (ℕ_discrete i j)
      where
        go : Dec (i ≡ j) → i ≡ j
        go (yes p) = p
        go (no ne) =
            let c1 : Central g (plus (S.J i) (S.J j)) = same_ray (S.J i) (S.J j) (home j hj).0 (subst (λ (m : ℕ). Central g (plus (S.J i) (S'.J m))) e (home i hi).2) (home j hj).2 in
            absurd (omega (arith, c1.commutes (S.J j) (up (S.J j) (S.stands j hj)), pairing_l (S.J i) (S.J j) (S.J j), pairing_self (S.J j), S.apart i j hi hj ne))
