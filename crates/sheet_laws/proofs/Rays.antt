-- How many rays anticommute with a label that commutes with the centre: an even number, and where the label is unvalued, some but not all but one.
use Rattle.std.proofs.Common.{◌≡◌, ℕ, zero, suc, ◌+◌, ◌%◌, ◌<◌, ◌≤◌, false, ◌≢◌, ◌⊎◌, None, sym, refl, ap, ◌∙◌, subst, inl, inr, arith}
use native.Mathlib.Decide.{ℕ_discrete}
use Rattle.pauli.specs.declared.label.Label.{Label}
use Rattle.pauli.specs.Labels.{Within, pairing, plus, zero_label}
use Rattle.phase.specs.LabelCases.{WithCentre, against}
use Rattle.phase.specs.Sheets.{Central, Valued, Values}
use Rattle.sheet_laws.specs.Closed.{Closed}
use Rattle.pauli_laws.proofs.Algebra.{pairing_comm, pairing_l, pairing_lt, pairing_r, pairing_self, pairing_zero, plus_right, plus_within}
use Rattle.pauli_laws.proofs.Numbers.{bit_cases}
use Rattle.sheet_laws.proofs.Central.{shifted}
use Rattle.sheet_laws.proofs.Counting.{fewer}
use Rattle.sheet_laws.proofs.Frames.{full}
use Rattle.sheet_laws.proofs.Homes.{home, home_once}

-- ---- the places, among the first k, at which the pairing with b is x, r in number and numbered by q

abbrev put : (r k : ℕ) (q : ℕ → ℕ) (m : ℕ) → Dec (m ≡ r) → ℕ
put r k q m (yes e) = k
put r k q m (no e) = q m

pub record Chosen (J : ℕ → Label) (b : Label) (k x r : ℕ) (q : ℕ → ℕ) : Type 0 where
  pub below : (m : ℕ) → m < r → q m < k
  pub is : (m : ℕ) → m < r → pairing (J (q m)) b ≡ x
  pub once : (m l : ℕ) → m < r → l < r → q m ≡ q l → m ≡ l
  pub whole : (i : ℕ) → i < k → pairing (J i) b ≡ x → (m : ℕ) × (m < r) × (q m ≡ i)

module _ (J : ℕ → Label) (b : Label) (x : ℕ) where
  skip : (k r : ℕ) (q : ℕ → ℕ) → Chosen J b k x r q → pairing (J k) b ≢ x → Chosen J b (suc k) x r q
  skip k r q C ne = record {
    below = λ m l. omega (arith, C.below m l);
    is = C.is;
    once = C.once;
    whole = λ i l e. by i l e (ℕ_discrete i k);
  }
    where
      by : (i : ℕ) → i < suc k → pairing (J i) b ≡ x → Dec (i ≡ k) → (m : ℕ) × (m < r) × (q m ≡ i)
      by i l e (yes h) = absurd (ne (ap (λ (j : ℕ). pairing (J j) b) (sym h) ∙ e))
      by i l e (no h) = C.whole i (omega arith) e

  take : (k r : ℕ) (q : ℕ → ℕ) → Chosen J b k x r q → pairing (J k) b ≡ x → Chosen J b (suc k) x (suc r) (λ m. put r k q m (ℕ_discrete m r))
  take k r q C e = record {
    below = λ m l. below m l (ℕ_discrete m r);
    is = λ m l. is m l (ℕ_discrete m r);
    once = λ m l hm hl. once m l hm hl (ℕ_discrete m r) (ℕ_discrete l r);
    whole = λ i l h. whole i l h (ℕ_discrete i k);
  }
    where
      below : (m : ℕ) → m < suc r → (d : Dec (m ≡ r)) → put r k q m d < suc k
      below m l (yes h) = omega arith
      below m l (no h) = omega (arith, C.below m (omega arith))

      is : (m : ℕ) → m < suc r → (d : Dec (m ≡ r)) → pairing (J (put r k q m d)) b ≡ x
      is m l (yes h) = e
      is m l (no h) = C.is m (omega arith)

      once : (m l : ℕ) → m < suc r → l < suc r → (d : Dec (m ≡ r)) (d' : Dec (l ≡ r)) → put r k q m d ≡ put r k q l d' → m ≡ l
      once m l hm hl (yes p) (yes p') h = omega arith
      once m l hm hl (yes p) (no p') h = absurd (omega (arith, C.below l (omega arith), h))
      once m l hm hl (no p) (yes p') h = absurd (omega (arith, C.below m (omega arith), h))
      once m l hm hl (no p) (no p') h = C.once m l (omega arith) (omega arith) h

      at_r : (d : Dec (r ≡ r)) → put r k q r d ≡ k
      at_r (yes p) = refl
      at_r (no p) = absurd (p refl)

      at_m : (m : ℕ) → m < r → (d : Dec (m ≡ r)) → put r k q m d ≡ q m
      at_m m l (yes p) = absurd (omega arith)
      at_m m l (no p) = refl

      whole : (i : ℕ) → i < suc k → pairing (J i) b ≡ x → Dec (i ≡ k) → (m : ℕ) × (m < suc r) × (put r k q m (ℕ_discrete m r) ≡ i)
      whole i l h (yes p) = (r, omega arith, at_r (ℕ_discrete r r) ∙ sym p)
      whole i l h (no p) =
          let c = C.whole i (omega arith) h in
          (c.0, omega (arith, c.1), at_m c.0 c.1 (ℕ_discrete c.0 r) ∙ c.2)

-- those that anticommute
pub anti : (J : ℕ → Label) (b : Label) (k : ℕ) → (q : ℕ → ℕ) × Chosen J b k 1 (against J b k) q
anti J b zero = (λ m. m, record { below = λ m l. absurd (omega arith); is = λ m l. absurd (omega arith); once = λ m l hm. absurd (omega arith); whole = λ i l. absurd (omega arith) })
anti J b (suc k) = go (anti J b k) (bit_cases (pairing (J k) b) (pairing_lt (J k) b))
  where
    go : (q : ℕ → ℕ) × Chosen J b k 1 (against J b k) q → (pairing (J k) b ≡ 0) ⊎ (pairing (J k) b ≡ 1) → (q : ℕ → ℕ) × Chosen J b (suc k) 1 (pairing (J k) b + against J b k) q
    go (q, C) (inl e) =
        (q, subst (λ (r : ℕ). Chosen J b (suc k) 1 r q) (omega arith) (skip J b 1 k (against J b k) q C (omega arith)))
    go (q, C) (inr e) = (
      (λ m. put (against J b k) k q m (ℕ_discrete m (against J b k))),
      subst (λ (r : ℕ). Chosen J b (suc k) 1 r (λ m. put (against J b k) k q m (ℕ_discrete m (against J b k)))) (omega arith) (take J b 1 k (against J b k) q C e),
    )

-- those that commute
pub commuting : (J : ℕ → Label) (b : Label) (k : ℕ) → (r : ℕ) × (q : ℕ → ℕ) × (r + against J b k ≡ k) × Chosen J b k 0 r q
commuting J b zero = (0, λ m. m, omega arith, record { below = λ m l. absurd (omega arith); is = λ m l. absurd (omega arith); once = λ m l hm. absurd (omega arith); whole = λ i l. absurd (omega arith) })
commuting J b (suc k) = go (commuting J b k) (bit_cases (pairing (J k) b) (pairing_lt (J k) b))
  where
    go : (r : ℕ) × (q : ℕ → ℕ) × (r + against J b k ≡ k) × Chosen J b k 0 r q → (pairing (J k) b ≡ 0) ⊎ (pairing (J k) b ≡ 1)
        → (r : ℕ) × (q : ℕ → ℕ) × (r + (pairing (J k) b + against J b k) ≡ suc k) × Chosen J b (suc k) 0 r q
    go (r, q, h, C) (inl e) = (suc r, (λ m. put r k q m (ℕ_discrete m r)), omega arith, take J b 0 k r q C e)
    go (r, q, h, C) (inr e) = (r, q, omega arith, skip J b 0 k r q C (omega arith))

-- ---- the sum of the rays

pub sumto : (ℕ → Label) → ℕ → Label
sumto J zero = zero_label
sumto J (suc k) = plus (J k) (sumto J k)

pub sum_against : (J : ℕ → Label) (b : Label) (k : ℕ) → pairing (sumto J k) b ≡ against J b k % 2
unfolding sumto
sum_against J b zero = pairing_zero b
sum_against J b (suc k) = pairing_l (J k) (sumto J k) b ∙ omega (arith, sum_against J b k)

pub sum_within : (n : ℕ) (J : ℕ → Label) (k : ℕ) → Within n zero_label → ((i : ℕ) → i < k → Within n (J i)) → Within n (sumto J k)
unfolding sumto
sum_within n J zero z h = z
sum_within n J (suc k) z h = plus_within n (J k) (sumto J k) (h k (omega arith)) (sum_within n J k z (λ i l. h i (omega arith)))

-- a label that anticommutes with all of the first m
pub all_against : (J : ℕ → Label) (b : Label) (m : ℕ) → ((i : ℕ) → i < m → pairing (J i) b ≡ 1) → against J b m ≡ m
all_against J b zero h = refl
all_against J b (suc m) h = omega (arith, h m (omega arith), all_against J b m (λ i l. h i (omega arith)))

pub none_against : (J : ℕ → Label) (b : Label) (m : ℕ) → ((i : ℕ) → i < m → pairing (J i) b ≡ 0) → against J b m ≡ 0
none_against J b zero h = refl
none_against J b (suc m) h = omega (arith, h m (omega arith), none_against J b m (λ i l. h i (omega arith)))

-- and with all of the first m but the j-th
pub but_one : (J : ℕ → Label) (b : Label) (m j : ℕ) → j < m → pairing (J j) b ≡ 0 → ((i : ℕ) → i < m → i ≢ j → pairing (J i) b ≡ 1) → suc (against J b m) ≡ m
but_one J b zero j l e h = absurd (omega arith)
but_one J b (suc m) j l e h = go (λ (l : j < m). but_one J b m j l e (λ i k ne. h i (omega arith) ne)) (ℕ_discrete j m)
  where
    go : (j < m → suc (against J b m) ≡ m) → Dec (j ≡ m) → suc (pairing (J m) b + against J b m) ≡ suc m
    go r (yes p) =
        let z : pairing (J m) b ≡ 0 = ap (λ (i : ℕ). pairing (J i) b) (sym p) ∙ e in
        omega (arith, z, all_against J b m (λ i k. h i (omega arith) (omega arith)))
    go r (no p) = omega (arith, r (omega arith), h m (omega arith) (omega arith))

module _ (n c v : ℕ) (f : Values) (S : Closed n c (v + v + 1) f) where
  -- the sum of the rays commutes with every valued label
  pub sum_commutes : (a : Label) → Valued f a → pairing (sumto S.J (v + v + 1)) a ≡ 0
  sum_commutes a w = sum_against S.J a (v + v + 1) ∙ by (S.each a w)
    where
      by : Central f a ⊎ ((i : ℕ) × (i < v + v + 1) × Central f (plus a (S.J i))) → against S.J a (v + v + 1) % 2 ≡ 0
      by (inl q) = omega (arith, none_against S.J a (v + v + 1) (λ i l. pairing_comm (S.J i) a ∙ q.commutes (S.J i) (S.stands i l)))
      by (inr (j, l, q)) =
          let like : (i : ℕ) → i < v + v + 1 → pairing (S.J i) a ≡ pairing (S.J i) (S.J j)
          = λ i k. omega (arith, pairing_lt, q.commutes (S.J i) (S.stands i k), pairing_l a (S.J j) (S.J i), pairing_comm a (S.J i), pairing_comm (S.J j) (S.J i)) in
          omega (arith, but_one S.J a (v + v + 1) j l (like j l ∙ pairing_self (S.J j)) (λ i k ne. like i k ∙ S.apart i j k l ne))

  pub sum_in : Within n (sumto S.J (v + v + 1))
  sum_in = sum_within n S.J (v + v + 1) (S.within zero_label (false, S.zero)) (λ i l. S.within (S.J i) (S.stands i l))

  module _ (e : c + v ≡ n) (b : Label) (w : Within n b) (h : WithCentre f b) where
    sum_central : Central f (sumto S.J (v + v + 1))
    sum_central = full n c v f S e (sumto S.J (v + v + 1)) sum_in (λ a k. pairing_comm a (sumto S.J (v + v + 1)) ∙ sum_commutes a k)

    pub even : against S.J b (v + v + 1) % 2 ≡ 0
    even = sym (sum_against S.J b (v + v + 1)) ∙ h (sumto S.J (v + v + 1)) sum_central

    -- what commutes with centre and rays
    with_all : (x : Label) → ((a : Label) → Central f a → pairing a x ≡ 0) → ((i : ℕ) → i < v + v + 1 → pairing (S.J i) x ≡ 0) → (a : Label) → Valued f a → pairing a x ≡ 0
    with_all x hc hj a k = by (S.each a k)
      where
        by : Central f a ⊎ ((i : ℕ) × (i < v + v + 1) × Central f (plus a (S.J i))) → pairing a x ≡ 0
        by (inl q) = hc a q
        by (inr (i, l, q)) = omega (arith, pairing_lt, hc (plus a (S.J i)) q, hj i l, pairing_l a (S.J i) x)

    module _ (none : f b ≡ None) where
      unvalued : Valued f b → ⊥
      unvalued k = let z : ◌≡◌ {A = ℕ} 0 1 = cc (sym none ∙ k.1) in omega arith

      pub some_anti : 1 ≤ against S.J b (v + v + 1)
      some_anti = by (ℕ_discrete (against S.J b (v + v + 1)) 0)
        where
          by : Dec (against S.J b (v + v + 1) ≡ 0) → 1 ≤ against S.J b (v + v + 1)
          by (no ne) = omega arith
          by (yes z) =
              let C = anti S.J b (v + v + 1) in
              let comm : (i : ℕ) → i < v + v + 1 → pairing (S.J i) b ≡ 0 = λ i l. one i l (bit_cases (pairing (S.J i) b) (pairing_lt (S.J i) b)) in
              absurd (unvalued (full n c v f S e b w (with_all b h comm)).valued)
            where
              one : (i : ℕ) → i < v + v + 1 → (pairing (S.J i) b ≡ 0) ⊎ (pairing (S.J i) b ≡ 1) → pairing (S.J i) b ≡ 0
              one i l (inl p) = p
              one i l (inr p) = let m = (anti S.J b (v + v + 1)).1.whole i l p in absurd (omega (arith, m.1, z))

      -- at least three commute
      pub three_left : against S.J b (v + v + 1) + 3 ≤ v + v + 1
      three_left = by (commuting S.J b (v + v + 1))
        where
          by : (r : ℕ) × (q : ℕ → ℕ) × (r + against S.J b (v + v + 1) ≡ v + v + 1) × Chosen S.J b (v + v + 1) 0 r q → against S.J b (v + v + 1) + 3 ≤ v + v + 1
          by (zero, q, k, C) = absurd (omega (arith, even))
          by (suc zero, q, k, C) =
              let j = q 0 in
              let l = C.below 0 (omega arith) in
              let x = plus b (S.J j) in
              let other : (i : ℕ) → i < v + v + 1 → pairing (S.J i) x ≡ 0 = λ i li. one i li (ℕ_discrete i j) in
              let p = full n c v f S e x (plus_within n b (S.J j) w (S.within (S.J j) (S.stands j l)))
              (with_all x (λ a ca. omega (arith, pairing_r a b (S.J j), h a ca, ca.commutes (S.J j) (S.stands j l))) other) in
              absurd (unvalued (subst (Valued f) (plus_right b (S.J j)) (shifted n c (v + v + 1) f S (S.J j) x (S.stands j l) p)))
            where
              one : (i : ℕ) → i < v + v + 1 → Dec (i ≡ q 0) → pairing (S.J i) (plus b (S.J (q 0))) ≡ 0
              one i li (yes p) =
                  ap (λ (m : ℕ). pairing (S.J m) (plus b (S.J (q 0)))) p ∙ omega (arith, pairing_r (S.J (q 0)) b (S.J (q 0)), pairing_self (S.J (q 0)), C.is 0 (omega arith))
              one i li (no p) = via (bit_cases (pairing (S.J i) b) (pairing_lt (S.J i) b))
                where
                  via : (pairing (S.J i) b ≡ 0) ⊎ (pairing (S.J i) b ≡ 1) → pairing (S.J i) (plus b (S.J (q 0))) ≡ 0
                  via (inl z) =
                      let m = C.whole i li z in
                      let m0 : m.0 ≡ 0 = omega (arith, m.1) in
                      absurd (p (sym m.2 ∙ ap q m0))
                  via (inr z) = omega (arith, pairing_r (S.J i) b (S.J (q 0)), z, S.apart i (q 0) li (C.below 0 (omega arith)) p)
          by (suc (suc zero), q, k, C) = absurd (omega (arith, even))
          by (suc (suc (suc r)), q, k, C) = omega arith

-- ---- however the rays are numbered

module _ (n k : ℕ) (f : Values) (b : Label) (h : WithCentre f b) (big : 2 < k) where
  -- each ray by the one numbering is a ray by the other, and as b commutes with the centre, it stands to both alike
  as_many : (c c' : ℕ) (S : Closed n c k f) (S' : Closed n c' k f) → against S.J b k ≤ against S'.J b k
  as_many c c' S S' =
      fewer (against S.J b k) (against S'.J b k) (λ m l. (to m l).0) (λ m l. (to m l).1)
      (λ m l hm hl e. C.once m l hm hl
      (home_once n c c' k f f S S' (λ a u e. e) big (q m) (q l) (C.below m hm) (C.below l hl) (sym (to m hm).2 ∙ ap (anti S'.J b k).0 e ∙ (to l hl).2)))
    where
      q : ℕ → ℕ
      q = (anti S.J b k).0

      C : Chosen S.J b k 1 (against S.J b k) q
      C = (anti S.J b k).1

      at : (m : ℕ) → m < against S.J b k → (j : ℕ) × (j < k) × Central f (plus (S.J (q m)) (S'.J j))
      at m l = home n c c' k f f S S' (λ a u e. e) big (q m) (C.below m l)

      to : (m : ℕ) (l : m < against S.J b k) → (m' : ℕ) × (m' < against S'.J b k) × ((anti S'.J b k).0 m' ≡ (at m l).0)
      to m l =
          let p = at m l in
          (anti S'.J b k).1.whole p.0 p.1
          (omega (arith, pairing_lt, C.is m l, h (plus (S.J (q m)) (S'.J p.0)) p.2, pairing_l (S.J (q m)) (S'.J p.0) b))

  pub same_count : (c c' : ℕ) (S : Closed n c k f) (S' : Closed n c' k f) → against S.J b k ≡ against S'.J b k
  same_count c c' S S' = omega (arith, as_many c c' S S', as_many c' c S' S)
