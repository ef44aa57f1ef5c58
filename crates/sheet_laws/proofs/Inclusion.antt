-- A lawful sheet inside another of the same size and width is that sheet: as many centre labels and as many rays leave no room.
use Rattle.std.proofs.Common.{◌≡◌, ℕ, ◌+◌, ◌-◌, ◌^◌, ◌<◌, Bool, ◌⊎◌, Some, None, Option, sym, refl, ap, ◌∙◌, subst, inl, inr, arith}
use native.Mathlib.Decide.{ℕ_discrete}
use Rattle.pauli.specs.declared.label.Label.{Label}
use Rattle.pauli.specs.Labels.{plus}
use Rattle.phase.specs.Sheets.{Central, Valued, Values}
use Rattle.sheet_laws.specs.Closed.{Closed}
use Rattle.sheet_laws.specs.Laws.{Inclusion, Opened, with_values}
use Rattle.pauli_laws.proofs.Algebra.{plus_right}
use Rattle.phase.proofs.Unique.{not_both}
use Rattle.sheet_laws.proofs.Central.{central_sum, only_ray, opened, shifted}
use Rattle.sheet_laws.proofs.Counting.{onto_below}
use Rattle.sheet_laws.proofs.Homes.{home, home_once, other_ray, same_ray, up}

module _ (n c k : ℕ) (f g : Values) (S : Closed n c k f) (S' : Closed n c k g) (sub : (a : Label) (u : Bool) → f a ≡ Some u → g a ≡ Some u) where
  module _ (big : 2 < k) where
    big_centre : (x : Label) → Central f x → Central g x
    big_centre x q = by (S'.each x (up n c c k f g S S' sub x q.valued))
      where
        at : (j : ℕ) → j < k → Central g (plus x (S'.J j)) → (i : ℕ) (l : i < k) → (home n c c k f g S S' sub big i l).0 ≡ j
        at j lj p i l = go (ℕ_discrete (home n c c k f g S S' sub big i l).0 j)
          where
            go : Dec ((home n c c k f g S S' sub big i l).0 ≡ j) → (home n c c k f g S S' sub big i l).0 ≡ j
            go (yes e) = e
            go (no ne) =
                absurd (omega (
                  arith,
                  q.commutes (S.J i) (S.stands i l),
                  other_ray n c c k f g S S' sub x (S.J i) j (home n c c k f g S S' sub big i l).0 lj (home n c c k f g S S' sub big i l).1 (λ e. ne (sym e)) (up n c c k f g S S' sub x q.valued) (up n c c k f g S S' sub (S.J i) (S.stands i l)) p (home n c c k f g S S' sub big i l).2,
                ))

        by : Central g x ⊎ ((j : ℕ) × (j < k) × Central g (plus x (S'.J j))) → Central g x
        by (inl p) = p
        by (inr (j, lj, p)) =
            let l0 : 0 < k = omega arith in
            let l1 : 1 < k = omega arith in
            let z : ◌≡◌ {A = ℕ} 0 1 = home_once n c c k f g S S' sub big 0 1 l0 l1 (at j lj p 0 l0 ∙ sym (at j lj p 1 l1)) in
            absurd (omega arith)

  all_central : k ≡ 1 → (x : Label) → Valued g x → Central g x
  all_central e x v = by (S'.each x v)
    where
      by : Central g x ⊎ ((j : ℕ) × (j < k) × Central g (plus x (S'.J j))) → Central g x
      by (inl p) = p
      by (inr (j, l, p)) =
          let z : j ≡ 0 = omega arith in
          let p' : Central g (plus x (S'.J 0)) = subst (λ (m : ℕ). Central g (plus x (S'.J m))) z p in
          subst (Central g) (plus_right x (S'.J 0)) (central_sum n c k g S' (S'.J 0) (plus x (S'.J 0)) (only_ray n c k g S' e) p')

  module _ (up_c : (x : Label) → Central f x → Central g x) where
    -- as many, so all
    down_c : (z : Label) → Central g z → Central f z
    down_c z q = fin (onto_below (2 ^ c) (λ i h. (to i h).0) (λ i h. (to i h).1) once t.0 t.1)
      where
        to : (i : ℕ) → (h : i < 2 ^ c) → (j : ℕ) × (j < 2 ^ c) × (S'.centre.at j ≡ S.centre.at i)
        to i h = S'.centre.all (S.centre.at i) (up_c (S.centre.at i) (S.centre.is i h))

        t : (j : ℕ) × (j < 2 ^ c) × (S'.centre.at j ≡ z)
        t = S'.centre.all z q

        once : (i j : ℕ) (hi : i < 2 ^ c) (hj : j < 2 ^ c) → (to i hi).0 ≡ (to j hj).0 → i ≡ j
        once i j hi hj e = S.centre.once i j hi hj (sym (to i hi).2 ∙ ap S'.centre.at e ∙ (to j hj).2)

        fin : (i : ℕ) × (h : i < 2 ^ c) × ((to i h).0 ≡ t.0) → Central f z
        fin (i, h, e) = subst (Central f) (sym (to i h).2 ∙ ap S'.centre.at e ∙ t.2) (S.centre.is i h)

    finish : ((a : Label) → Valued g a → Valued f a) → (a : Label) → f a ≡ g a
    finish down a = go (f a) refl (g a) refl
      where
        go : (o : Option Bool) → f a ≡ o → (o' : Option Bool) → g a ≡ o' → f a ≡ g a
        go (Some u) e o' e' = e ∙ sym (sub a u e)
        go None e None e' = e ∙ sym e'
        go None e (Some v) e' = let p = down a (v, e') in not_both p.1 e

  same_big : 2 < k → (a : Label) → f a ≡ g a
  same_big big = finish (big_centre big) down
    where
      down : (a : Label) → Valued g a → Valued f a
      down a v = by (S'.each a v)
        where
          by : Central g a ⊎ ((j : ℕ) × (j < k) × Central g (plus a (S'.J j))) → Valued f a
          by (inl q) = (down_c (big_centre big) a q).valued
          by (inr (j, l, q)) =
              let p = onto_below k (λ i h. (home n c c k f g S S' sub big i h).0) (λ i h. (home n c c k f g S S' sub big i h).1) (home_once n c c k f g S S' sub big) j l in
              let i = p.0 in
              let h : Central g (plus (S.J i) (S'.J j)) = subst (λ (m : ℕ). Central g (plus (S.J i) (S'.J m))) p.2 (home n c c k f g S S' sub big i p.1).2 in
              let d : Central f (plus a (S.J i)) = down_c (big_centre big) (plus a (S.J i)) (same_ray n c c k f g S S' sub a (S.J i) j q h) in
              subst (Valued f) (plus_right a (S.J i)) (shifted n c k f S (S.J i) (plus a (S.J i)) (S.stands i p.1) d)

  same_small : k ≡ 1 → (a : Label) → f a ≡ g a
  same_small e = finish up_c (λ a v. (down_c up_c a (all_central e a v)).valued)
    where
      up_c : (x : Label) → Central f x → Central g x
      up_c x q = all_central e x (up n c c k f g S S' sub x q.valued)

pub inclusion : Inclusion
inclusion s g L L' sub = go (ℕ_discrete s.width 0)
  where
    S : Opened s
    S = opened s L

    S' : Closed s.n (s.n - s.width) (s.width + s.width + 1) g
    S' = opened (with_values s g) L'

    go : Dec (s.width ≡ 0) → (a : Label) → s.value a ≡ g a
    go (yes e) = same_small s.n (s.n - s.width) (s.width + s.width + 1) s.value g S S' sub (omega arith)
    go (no ne) = same_big s.n (s.n - s.width) (s.width + s.width + 1) s.value g S S' sub (omega arith)
