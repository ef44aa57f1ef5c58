-- The centre of a sheet, and the two forms of its laws: as they are stated, and as proofs use them.
use Rattle.std.proofs.Common.{◌≡◌, ℕ, zero, suc, ◌+◌, ◌-◌, ◌^◌, ◌<◌, ◌≤◌, Bool, false, ◌≢◌, ◌⊎◌, Some, sym, refl, ap, ◌∙◌, subst, inl, inr, arith, pow_pos}
use native.Mathlib.Decide.{ℕ_discrete}
use Rattle.pauli.specs.declared.label.Label.{Label}
use Rattle.pauli.specs.Bits.{odd, xorb}
use Rattle.pauli.specs.Labels.{beta, pairing, plus, zero_label}
use Rattle.phase.specs.Sheets.{Central, Exactly, Lawful, Outer, Rays, Sheet, SheetRays, Valued, Values}
use Rattle.sheet_laws.specs.Closed.{Closed}
use Rattle.sheet_laws.specs.Laws.{Opened}
use Rattle.pauli_laws.proofs.Algebra.{label_eq, pairing_comm, pairing_l, pairing_lt, pairing_r, pairing_self, plus_assoc, plus_drop, plus_inj, plus_right, plus_self, plus_zero}

-- ---- sums and values

pub plus_back : (a b : Label) → plus (plus a b) b ≡ a
plus_back a b = plus_assoc a b b ∙ ap (plus a) (plus_self b) ∙ plus_zero a

pub some_inj : (u v : Bool) → Some u ≡ Some v → u ≡ v
some_inj u v e = cc

-- ---- what is numbered can be decided

find : (N : ℕ) (at : ℕ → Label) (a : Label) → Dec ((i : ℕ) × (i < N) × (at i ≡ a))
find zero at a = no (λ p. omega (arith, p.1))
find (suc N) at a = go (find N at a) (label_eq (at N) a)
  where
    go : Dec ((i : ℕ) × (i < N) × (at i ≡ a)) → Dec (at N ≡ a) → Dec ((i : ℕ) × (i < suc N) × (at i ≡ a))
    go (yes p) d = yes (p.0, omega (arith, p.1), p.2)
    go (no h) (yes e) = yes (N, omega arith, e)
    go (no h) (no k) = no (λ p. by p (ℕ_discrete p.0 N))
      where
        by : (p : (i : ℕ) × (i < suc N) × (at i ≡ a)) → Dec (p.0 ≡ N) → ⊥
        by p (yes e) = k (ap at (sym e) ∙ p.2)
        by p (no ne) = h (p.0, omega (arith, p.1, ne), p.2)

pub decide : {P : Label → Type 0} {N : ℕ} → Exactly P N → (a : Label) → Dec (P a)
decide {P} {N} E a = go (find N E.at a)
  where
    go : Dec ((i : ℕ) × (i < N) × (E.at i ≡ a)) → Dec (P a)
    go (yes p) = yes (subst P p.2 (E.is p.0 p.1))
    go (no h) = no (λ c. h (E.all a c))

-- ---- the centre

pub central_plus : (f : Values) → ((a b : Label) (u v : Bool) → f a ≡ Some u → f b ≡ Some v → pairing a b ≡ 0 → f (plus a b) ≡ Some (xorb (xorb u v) (odd (beta a b))))
    → (a b : Label) → Central f a → Central f b → Central f (plus a b)
central_plus f product a b p q = record {
  valued = (xorb (xorb p.valued.0 q.valued.0) (odd (beta a b)), product a b p.valued.0 q.valued.0 p.valued.1 q.valued.1 (p.commutes b q.valued));
  commutes = λ c v. omega (arith, pairing_l a b c, p.commutes c v, q.commutes c v);
}

module _ (s : Sheet) (L : Lawful s) where
  pub in_centre : (a : Label) → Dec (Central s.value a)
  in_centre a = decide L.centre a

  -- the working form, with the first label of each ray
  pub open_rays : SheetRays s → Opened s
  open_rays R = record {
    zero = L.zero;
    product = L.product;
    within = L.within;
    centre = L.centre;
    J = λ i. R.at i 0;
    stands = λ i l. (R.is i 0 l (pow_pos (s.n - s.width))).valued;
    apart = λ i j hi hj ne. R.apart i j 0 0 hi hj ne (pow_pos (s.n - s.width)) (pow_pos (s.n - s.width));
    each = λ a v. by a v (in_centre a);
  }
    where
      by : (a : Label) → Valued s.value a → Dec (Central s.value a) → Central s.value a ⊎ ((i : ℕ) × (i < s.width + s.width + 1) × Central s.value (plus a (R.at i 0)))
      by a v (yes c) = inl c
      by a v (no h) =
          let p = R.all a (record { valued = v; outside = h }) in
          inr (p.0, p.2, subst (λ (l : Label). Central s.value (plus l (R.at p.0 0))) p.4 (R.same p.0 p.1 0 p.2 p.3 (pow_pos (s.n - s.width))))

  pub open_rays_J : (R : SheetRays s) → (open_rays R).J ≡ (λ i. R.at i 0)
  unfolding open_rays
  open_rays_J R = refl

  pub opened : Opened s
  opened = go s.width refl
    where
      go : (w : ℕ) → s.width ≡ w → Opened s
      go zero e = record {
        zero = L.zero;
        product = L.product;
        within = L.within;
        centre = L.centre;
        J = λ i. zero_label;
        stands = λ i l. (false, L.zero);
        apart = λ i j hi hj ne. absurd (omega arith);
        each = λ a v. by a v (in_centre a);
      }
        where
          by : (a : Label) → Valued s.value a → Dec (Central s.value a) → Central s.value a ⊎ ((i : ℕ) × (i < s.width + s.width + 1) × Central s.value (plus a zero_label))
          by a v (yes c) = inl c
          by a v (no h) = absurd (L.none e a (record { valued = v; outside = h }))
      go (suc w) e = open_rays (L.rays (omega arith))

module _ (n c k : ℕ) (f : Values) (S : Closed n c k f) where
  pub central_sum : (a b : Label) → Central f a → Central f b → Central f (plus a b)
  central_sum = central_plus f S.product

  -- a centre label added to a valued one
  pub shifted : (a b : Label) → Valued f a → Central f b → Valued f (plus a b)
  shifted a b v q =
      (xorb (xorb v.0 q.valued.0) (odd (beta a b)), S.product a b v.0 q.valued.0 v.1 q.valued.1 (pairing_comm a b ∙ q.commutes a v))

  -- the one ray, where there is only one, is in the centre
  pub only_ray : k ≡ 1 → Central f (S.J 0)
  only_ray e = record { valued = S.stands 0 (omega arith); commutes = λ b v. by b (S.each b v) }
    where
      by : (b : Label) → Central f b ⊎ ((i : ℕ) × (i < k) × Central f (plus b (S.J i))) → pairing (S.J 0) b ≡ 0
      by b (inl q) = pairing_comm (S.J 0) b ∙ q.commutes (S.J 0) (S.stands 0 (omega arith))
      by b (inr (i, l, q)) =
          let z : i ≡ 0 = omega arith in
          let q' : Central f (plus b (S.J 0)) = subst (λ (m : ℕ). Central f (plus b (S.J m))) z q in
          omega (arith, pairing_lt, q'.commutes (S.J 0) (S.stands 0 (omega arith)), pairing_l b (S.J 0) (S.J 0), pairing_comm b (S.J 0), pairing_self (S.J 0))

  other : (i : ℕ) → 2 < k → (j : ℕ) × (j < k) × (i ≢ j)
  other zero h = (1, omega arith, omega arith)
  other (suc i) h = (0, omega arith, omega arith)

  pub rays : 2 < k → Rays f k (2 ^ c)
  rays h = record {
    at = λ i j. plus (S.J i) (C.at j);
    is = λ i j hi hj. record { valued = shifted (S.J i) (C.at j) (S.stands i hi) (C.is j hj); outside = λ q. out i j hi hj q (other i h) };
    once = λ i j l hi hj hl e. C.once j l hj hl (plus_inj (S.J i) (C.at j) (C.at l) e);
    all = λ a o. by a o (S.each a o.valued);
    same = λ i j l hi hj hl. subst (Central f) (sym (plus_drop (S.J i) (C.at j) (C.at l))) (central_sum (C.at j) (C.at l) (C.is j hj) (C.is l hl));
    apart = λ g i j l hg hi ne hj hl. omega (
      arith,
      pairing_l (S.J g) (C.at j) (plus (S.J i) (C.at l)),
      pairing_r (S.J g) (S.J i) (C.at l),
      pairing_comm (S.J g) (C.at l),
      (C.is l hl).commutes (S.J g) (S.stands g hg),
      (C.is j hj).commutes (plus (S.J i) (C.at l)) (shifted (S.J i) (C.at l) (S.stands i hi) (C.is l hl)),
      S.apart g i hg hi ne,
    );
  }
    where
      C : Exactly (Central f) (2 ^ c)
      C = S.centre

      out : (i j : ℕ) → i < k → j < 2 ^ c → Central f (plus (S.J i) (S.centre.at j)) → (m : ℕ) × (m < k) × (i ≢ m) → ⊥
      out i j hi hj q (m, l, ne) =
          omega (arith, q.commutes (S.J m) (S.stands m l), pairing_l (S.J i) (S.centre.at j) (S.J m), S.apart i m hi l ne, (S.centre.is j hj).commutes (S.J m) (S.stands m l))

      by : (a : Label) → Outer f a → Central f a ⊎ ((i : ℕ) × (i < k) × Central f (plus a (S.J i)))
          → (i : ℕ) × (j : ℕ) × (i < k) × (j < 2 ^ c) × (plus (S.J i) (S.centre.at j) ≡ a)
      by a o (inl q) = absurd (o.outside q)
      by a o (inr (i, l, q)) =
          let p = S.centre.all (plus a (S.J i)) q in
          (i, p.0, l, p.1, ap (plus (S.J i)) p.2 ∙ plus_right a (S.J i))

pub closed : (s : Sheet) → (1 ≤ s.n) × (s.n ≤ 64) → s.width ≤ s.n → Opened s → Lawful s
closed s z h S = record {
  size = z;
  zero = S.zero;
  product = S.product;
  within = S.within;
  narrow = h;
  centre = S.centre;
  none = λ e a o. by e a o (S.each a o.valued);
  rays = λ h. rays s.n (s.n - s.width) (s.width + s.width + 1) s.value S (omega arith);
}
  where
    by : s.width ≡ 0 → (a : Label) → Outer s.value a → Central s.value a ⊎ ((i : ℕ) × (i < s.width + s.width + 1) × Central s.value (plus a (S.J i))) → ⊥
    by e a o (inl q) = o.outside q
    by e a o (inr (i, l, q)) =
        let j = only_ray s.n (s.n - s.width) (s.width + s.width + 1) s.value S (omega arith) in
        let z : i ≡ 0 = omega arith in
        let q' : Central s.value (plus a (S.J 0)) = subst (λ (m : ℕ). Central s.value (plus a (S.J m))) z q in
        o.outside (subst (Central s.value) (plus_right a (S.J 0)) (central_plus s.value S.product (S.J 0) (plus a (S.J 0)) j q'))
