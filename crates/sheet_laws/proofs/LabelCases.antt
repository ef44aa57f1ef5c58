-- Every label has a case, and in Case 3 a count of rays.
use Rattle.std.proofs.Common.{◌≡◌, ℕ, zero, suc, ◌+◌, ◌-◌, ◌/◌, ◌%◌, ◌^◌, ◌<◌, ◌≤◌, Bool, ◌⊎◌, Some, None, Option, sym, refl, ap, ◌∙◌, inl, inr, arith}
use native.Mathlib.Decide.{ℕ_discrete}
use Rattle.pauli.specs.declared.case.Case.{Case}
use Rattle.pauli.specs.declared.case.Case.TheVariants.{Four, One, Three, Two}
use Rattle.pauli.specs.declared.label.Label.{Label}
use Rattle.pauli.specs.Labels.{Within, pairing}
use Rattle.phase.specs.LabelCases.{Against, InCase, Looked, WithCentre, against}
use Rattle.phase.specs.Sheets.{Central, Lawful, Sheet}
use Rattle.sheet_laws.specs.Laws.{CaseLaws, Opened}
use Rattle.pauli_laws.proofs.Algebra.{pairing_lt}
use Rattle.pauli_laws.proofs.Numbers.{bit_cases}
use Rattle.phase.proofs.Unique.{one_case, one_look}
use Rattle.sheet_laws.proofs.Central.{in_centre, open_rays, open_rays_J, opened}
use Rattle.sheet_laws.proofs.Rays.{even, same_count, some_anti, three_left}

-- a numbered label that anticommutes with b, or none
look : (N : ℕ) (at : ℕ → Label) (b : Label) → ((i : ℕ) → i < N → pairing (at i) b ≡ 0) ⊎ ((i : ℕ) × (i < N) × (pairing (at i) b ≡ 1))
look zero at b = inl (λ i l. absurd (omega arith))
look (suc N) at b = go (look N at b) (bit_cases (pairing (at N) b) (pairing_lt (at N) b))
  where
    go : ((i : ℕ) → i < N → pairing (at i) b ≡ 0) ⊎ ((i : ℕ) × (i < N) × (pairing (at i) b ≡ 1)) → (pairing (at N) b ≡ 0) ⊎ (pairing (at N) b ≡ 1)
        → ((i : ℕ) → i < suc N → pairing (at i) b ≡ 0) ⊎ ((i : ℕ) × (i < suc N) × (pairing (at i) b ≡ 1))
    go (inr (i, l, e)) d = inr (i, omega arith, e)
    go (inl h) (inr e) = inr (N, omega arith, e)
    go (inl h) (inl e) = inl (λ i l. by i l (ℕ_discrete i N))
      where
        by : (i : ℕ) → i < suc N → Dec (i ≡ N) → pairing (at i) b ≡ 0
        by i l (yes p) = ap (λ (j : ℕ). pairing (at j) b) p ∙ e
        by i l (no p) = h i (omega arith)

module _ (s : Sheet) (L : Lawful s) (b : Label) where
  centre_look : WithCentre s.value b ⊎ ((e : Label) × Central s.value e × (pairing e b ≡ 1))
  centre_look = go (look (2 ^ (s.n - s.width)) L.centre.at b)
    where
      go : ((i : ℕ) → i < 2 ^ (s.n - s.width) → pairing (L.centre.at i) b ≡ 0) ⊎ ((i : ℕ) × (i < 2 ^ (s.n - s.width)) × (pairing (L.centre.at i) b ≡ 1))
          → WithCentre s.value b ⊎ ((e : Label) × Central s.value e × (pairing e b ≡ 1))
      go (inl h) = inl (λ a q. let p = L.centre.all a q in ap (λ (l : Label). pairing l b) (sym p.2) ∙ h p.0 p.1)
      go (inr (i, l, e)) = inr (L.centre.at i, L.centre.is i l, e)

  pub some_case : (c : Case) × InCase s.value b c
  some_case = go (s.value b) refl (in_centre s L b) centre_look
    where
      go : (o : Option Bool) → s.value b ≡ o → Dec (Central s.value b) → WithCentre s.value b ⊎ ((e : Label) × Central s.value e × (pairing e b ≡ 1)) → (c : Case) × InCase s.value b c
      go (Some v) e (yes c) d = (One, c)
      go (Some v) e (no h) d = (Two, record { valued = (v, e); outside = h })
      go None e i (inl h) = (Three, (e, h))
      go None e i (inr (x, q, p)) = (Four, (e, λ h. omega (arith, h x q, p)))

  pub four_witness : InCase s.value b Four → (e : Label) × Central s.value e × (pairing e b ≡ 1)
  four_witness q = go centre_look
    where
      go : WithCentre s.value b ⊎ ((e : Label) × Central s.value e × (pairing e b ≡ 1)) → (e : Label) × Central s.value e × (pairing e b ≡ 1)
      go (inl h) = absurd (q.1 h)
      go (inr p) = p

  -- the count of rays by one numbering is that by any other
  pub against_by : (S : Opened s) (t : ℕ) → WithCentre s.value b → 0 < s.width → against S.J b (s.width + s.width + 1) ≡ t + t → Against s b t
  against_by S t h wide e = record {
    wide = wide;
    count = λ R.
        ap (λ (J : ℕ → Label). against J b (s.width + s.width + 1)) (sym (open_rays_J s L R))
        ∙ same_count s.n (s.width + s.width + 1) s.value b h (omega arith) (s.n - s.width) (s.n - s.width) (open_rays s L R) S
        ∙ e;
  }

  pub three_count : Within s.n b → InCase s.value b Three → (t : ℕ) × (1 ≤ t) × (t < s.width) × Against s b t
  three_count w q =
      let S = opened s L in
      let m = against S.J b (s.width + s.width + 1) in
      let full : s.n - s.width + s.width ≡ s.n = omega (arith, L.narrow) in
      let ev : m % 2 ≡ 0 = even s.n (s.n - s.width) s.width s.value S full b w q.1 in
      let some : 1 ≤ m = some_anti s.n (s.n - s.width) s.width s.value S full b w q.1 q.0 in
      let left : m + 3 ≤ s.width + s.width + 1 = three_left s.n (s.n - s.width) s.width s.value S full b w q.1 q.0 in
      (m / 2, lo m ev some, hi m s.width left, against_by S (m / 2) q.1 (wide m s.width left) (half m ev))
    where
      lo : (m : ℕ) → m % 2 ≡ 0 → 1 ≤ m → 1 ≤ m / 2
      lo m e h = omega arith

      hi : (m w : ℕ) → m + 3 ≤ w + w + 1 → m / 2 < w
      hi m w h = omega arith

      wide : (m w : ℕ) → m + 3 ≤ w + w + 1 → 0 < w
      wide m w h = omega arith

      half : (m : ℕ) → m % 2 ≡ 0 → m ≡ m / 2 + m / 2
      half m e = omega arith

  pub looks : Within s.n b → (c : Case) × (k : ℕ) × Looked s b c k
  looks w = go some_case.0 some_case.1
    where
      go : (c : Case) → InCase s.value b c → (c : Case) × (k : ℕ) × Looked s b c k
      go One q = (One, 0, record { kind = q; needs = refl })
      go Two q = (Two, 1, record { kind = q; needs = refl })
      go Three q = let p = three_count w q in (Three, p.0, record { kind = q; needs = p.3 })
      go Four q = (Four, 1, record { kind = q; needs = refl })

  pub three_coins : Within s.n b → (t : ℕ) → Looked s b Three t → (1 ≤ t) × (t < s.width)
  three_coins w t l =
      let p = three_count w l.kind in
      let e = (one_look s L b Three Three t p.0 l (record { kind = l.kind; needs = p.3 })).1 in
      (omega (arith, p.1), omega (arith, p.2))

pub case_laws : CaseLaws
case_laws = record { some = some_case; one = one_case; four = four_witness; three = three_count; looks = looks; coins = three_coins }
