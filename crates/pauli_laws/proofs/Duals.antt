-- Labels are dependent or have duals.
use Rattle.std.proofs.Common.{◌≡◌, ℕ, zero, suc, ◌+◌, ◌/◌, ◌%◌, ◌^◌, ◌<◌, Bool, true, false, cond, ◌&&◌, ◌≢◌, ◌⊎◌, List, [], ◌∷◌, sym, refl, ap, ◌∙◌, subst, ap₂, inl, inr, pow-suc, arith, pow_pos}
use mathlib.Core.Bool.{and-false}
use native.Mathlib.Decide.{ℕ_discrete}
use lib.Bits.{bit_and, and_zero_r}
use lib.Count.{ones, ones_cat}
use lib.Pow.{pow-lt}
use Rattle.pauli.specs.declared.label.Label.{Label}
use Rattle.pauli.specs.Bits.{odd, bit_of}
use Rattle.pauli.specs.Labels.{plus, pairing, zero_label}
use Rattle.pauli_laws.specs.Spaces.{All, Span, Dependent, Duals}
use Rattle.pauli_laws.proofs.Numbers.{bit_cases}
use Rattle.pauli_laws.proofs.Words.{ones_zero}
use Rattle.pauli_laws.proofs.Signs.{num, num_odd}
use Rattle.pauli_laws.proofs.Algebra.{label, plus_comm, plus_assoc, plus_self, plus_zero, plus_cancel, label_discrete, within_large, pairing_l, pairing_r, pairing_comm, pairing_lt, pairing_zero}
use Rattle.pauli.proofs.Words.{bit_half}
use Rattle.pauli_laws.proofs.Places.{bits_ext, bit_of_and, bit_pow_other}

-- what commutes with each of some labels commutes with their sums
pub span_pairing : (rs : List Label) (w a : Label) → All (λ s. pairing s w ≡ 0) rs → Span rs a → pairing a w ≡ 0
span_pairing [] w a h e = ap (λ (l : Label). pairing l w) e ∙ pairing_zero w
span_pairing (r ∷ rs) w a h (inl s) = span_pairing rs w a h.1 s
span_pairing (r ∷ rs) w a h (inr s) = omega (arith, pairing_lt, h.0, span_pairing rs w (plus r a) h.1 s, pairing_l r a w)

-- ---- a label that is not zero anticommutes with some label

pub set_bit : (n x : ℕ) → x < 2 ^ n → x ≢ 0 → (i : ℕ) × (i < n) × (bit_of x i ≡ true)
set_bit zero x h ne = absurd (ne (omega arith))
set_bit (suc n) x h ne = go (set_bit n (x / 2) (omega (arith, pow-suc 2 n))) (odd x) refl
  where
    go : (x / 2 ≢ 0 → (i : ℕ) × (i < n) × (bit_of (x / 2) i ≡ true)) → (b : Bool) → odd x ≡ b → (i : ℕ) × (i < suc n) × (bit_of x i ≡ true)
    go rest true e = (0, omega arith, ap odd (omega arith) ∙ e)
    go rest false e =
        let even : x % 2 ≡ 0 = sym (num_odd x) ∙ ap num e in
        let ne' : x / 2 ≢ 0 = λ z. ne (omega arith) in
        let r = rest ne' in
        (suc r.0, omega (arith, r.1), sym (bit_half x r.0) ∙ r.2)

ones_pow : (i : ℕ) → ones (2 ^ i) ≡ 1
unfolding ones
ones_pow i = ap ones (omega arith) ∙ ones_cat i 1 0 (pow_pos i)

and_pow : (x i : ℕ) → bit_of x i ≡ true → bit_and x (2 ^ i) ≡ 2 ^ i
and_pow x i e = bits_ext (bit_and x (2 ^ i)) (2 ^ i) (λ j. bit_of_and x (2 ^ i) j ∙ go j (ℕ_discrete j i))
  where
    go : (j : ℕ) → Dec (j ≡ i) → (bit_of x j && bit_of (2 ^ i) j) ≡ bit_of (2 ^ i) j
    go j (yes h) = rw (h, e)
    go j (no h) = rw (bit_pow_other i j h) (and-false (bit_of x j))

pub partner : (n : ℕ) (a : Label) → a.x < 2 ^ n → a.z < 2 ^ n → a ≢ zero_label → (w : Label) × (w.x < 2 ^ n) × (w.z < 2 ^ n) × (pairing a w ≡ 1)
unfolding pairing
partner n a hx hz ne = go (ℕ_discrete a.x 0) (ℕ_discrete a.z 0)
  where
    Found : Type 0
    Found = (w : Label) × (w.x < 2 ^ n) × (w.z < 2 ^ n) × (pairing a w ≡ 1)

    go : Dec (a.x ≡ 0) → Dec (a.z ≡ 0) → Found
    go (no h) d =
        let b = set_bit n a.x hx h in
        let i = b.0 in (
          record { x = 0; z = 2 ^ i },
          pow_pos n,
          pow-lt b.1,
          omega (arith, ap ones (and_pow a.x i b.2), ones_pow i, ap ones (and_zero_r a.z), ones_zero),
        )
    go (yes e) (no h) =
        let b = set_bit n a.z hz h in
        let i = b.0 in (
          record { x = 2 ^ i; z = 0 },
          pow-lt b.1,
          pow_pos n,
          omega (arith, ap ones (and_pow a.z i b.2), ones_pow i, ap ones (and_zero_r a.x), ones_zero),
        )
    go (yes e) (yes e') = absurd (ne (ap₂ label e e'))

-- ---- duals, one more

pub turn : (v : Label) (rs : List Label) → All (λ s. pairing v s ≡ 0) rs → All (λ s. pairing s v ≡ 0) rs
turn v [] h = tt
turn v (s ∷ rs) h = (pairing_comm s v ∙ h.0, turn v rs h.1)

pub turn' : (v : Label) (rs : List Label) → All (λ s. pairing s v ≡ 0) rs → All (λ s. pairing v s ≡ 0) rs
turn' v [] h = tt
turn' v (s ∷ rs) h = (pairing_comm v s ∙ h.0, turn' v rs h.1)

-- s added twice
back : (s r t : Label) → plus s (plus r (plus s t)) ≡ plus r t
back s r t =
    ap (plus s) (sym (plus_assoc r s t) ∙ ap (λ (l : Label). plus l t) (plus_comm r s) ∙ plus_assoc s r t) ∙ plus_cancel s (plus r t)

pub both_commute : (s t : Label) (vs : List Label) → All (λ v. pairing s v ≡ 0) vs → All (λ v. pairing t v ≡ 0) vs → All (λ v. pairing (plus s t) v ≡ 0) vs
both_commute s t [] h k = tt
both_commute s t (v ∷ vs) h k = (omega (arith, pairing_lt, pairing_l s t v, h.0, k.0), both_commute s t vs h.1 k.1)

pub duals_swap : (rs vs : List Label) → Duals rs vs → Duals vs rs
duals_swap [] [] d = tt
duals_swap [] (v ∷ vs) d = absurd d
duals_swap (r ∷ rs) [] d = absurd d
duals_swap (r ∷ rs) (v ∷ vs) d =
    (pairing_comm v r ∙ d.0, turn' v rs d.2, turn r vs d.1, duals_swap rs vs d.3)

-- r with a sum of rs added to it, so that it commutes with each of vs
abbrev pub Reduced : List Label → List Label → Label → Type 0
Reduced rs vs r = (r' : Label) × Span rs (plus r r') × All (λ v. pairing r' v ≡ 0) vs

pub reduce : (rs vs : List Label) → Duals rs vs → (r : Label) → Reduced rs vs r
reduce [] [] d r = (r, plus_self r, tt)
reduce [] (v ∷ vs) d r = absurd d
reduce (s ∷ rs) [] d r = absurd d
reduce (s ∷ rs) (v ∷ vs) d r = go (reduce rs vs d.3 r)
  where
    go : Reduced rs vs r → Reduced (s ∷ rs) (v ∷ vs) r
    go t = by (bit_cases (pairing t.0 v) (omega (arith, pairing_lt)))
      where
        by : (pairing t.0 v ≡ 0) ⊎ (pairing t.0 v ≡ 1) → Reduced (s ∷ rs) (v ∷ vs) r
        by (inl e) = (t.0, inl t.1, (e, t.2))
        by (inr e) = (
          plus s t.0,
          inr (subst (Span rs) (sym (back s r t.0)) t.1),
          (omega (arith, pairing_lt, pairing_l s t.0 v, d.0), both_commute s t.0 vs d.1 t.2),
        )

-- a label that anticommutes with r gets w added
abbrev fixed : Label → Label → Label → Label
fixed r w v = cond (odd (pairing r v)) (plus v w) v

abbrev fix : Label → Label → List Label → List Label
fix r w [] = []
fix r w (v ∷ vs) = fixed r w v ∷ fix r w vs

fixed_r : (r w v : Label) → pairing r w ≡ 1 → pairing r (fixed r w v) ≡ 0
fixed_r r w v h = go (bit_cases (pairing r v) (omega (arith, pairing_lt)))
  where
    go : (pairing r v ≡ 0) ⊎ (pairing r v ≡ 1) → pairing r (fixed r w v) ≡ 0
    go (inl e) = ap (λ (n : ℕ). pairing r (cond (odd n) (plus v w) v)) e ∙ e
    go (inr e) = ap (λ (n : ℕ). pairing r (cond (odd n) (plus v w) v)) e ∙ omega (arith, pairing_lt, pairing_r r v w)

fixed_s : (r w v s : Label) → pairing s w ≡ 0 → pairing s (fixed r w v) ≡ pairing s v
fixed_s r w v s h = go (odd (pairing r v))
  where
    go : (b : Bool) → pairing s (cond b (plus v w) v) ≡ pairing s v
    go true = omega (arith, pairing_lt, pairing_r s v w)
    go false = refl

fix_r : (r w : Label) (vs : List Label) → pairing r w ≡ 1 → All (λ v. pairing r v ≡ 0) (fix r w vs)
fix_r r w [] h = tt
fix_r r w (v ∷ vs) h = (fixed_r r w v h, fix_r r w vs h)

fix_zero : (r w s : Label) (vs : List Label) → pairing s w ≡ 0 → All (λ v. pairing s v ≡ 0) vs → All (λ v. pairing s v ≡ 0) (fix r w vs)
fix_zero r w s [] h k = tt
fix_zero r w s (v ∷ vs) h k = (fixed_s r w v s h ∙ k.0, fix_zero r w s vs h k.1)

fix_col : (r w v : Label) (rs : List Label) → All (λ s. pairing s w ≡ 0) rs → All (λ s. pairing s v ≡ 0) rs → All (λ s. pairing s (fixed r w v) ≡ 0) rs
fix_col r w v [] h k = tt
fix_col r w v (s ∷ rs) h k = (fixed_s r w v s h.0 ∙ k.0, fix_col r w v rs h.1 k.1)

fix_duals : (r w : Label) (rs vs : List Label) → All (λ s. pairing s w ≡ 0) rs → Duals rs vs → Duals rs (fix r w vs)
fix_duals r w [] [] h d = tt
fix_duals r w [] (v ∷ vs) h d = absurd d
fix_duals r w (s ∷ rs) [] h d = absurd d
fix_duals r w (s ∷ rs) (v ∷ vs) h d =
    (fixed_s r w v s h.0 ∙ d.0, fix_zero r w s vs h.0 d.1, fix_col r w v rs h.1 d.2, fix_duals r w rs vs h.1 d.3)

-- one label more is in the span of those that have duals, or has a dual too
pub more : (r : Label) (rs vs : List Label) → Duals rs vs → Span rs r ⊎ ((ws : List Label) × Duals (r ∷ rs) ws)
more r rs vs d = go (reduce rs vs d r)
  where
    go : Reduced rs vs r → Span rs r ⊎ ((ws : List Label) × Duals (r ∷ rs) ws)
    go t = by (label_discrete t.0)
      where
        by : Dec (t.0 ≡ zero_label) → Span rs r ⊎ ((ws : List Label) × Duals (r ∷ rs) ws)
        by (yes e) = inl (subst (Span rs) (ap (plus r) e ∙ plus_zero r) t.1)
        by (no ne) =
            let n = t.0.x + t.0.z in
            let h = within_large n t.0 (omega arith) (omega arith) in
            let p = partner n t.0 h.x h.z ne in
            let q = reduce vs rs (duals_swap rs vs d) p.0 in
            let w = q.0 in
            let rw0 : All (λ s. pairing s w ≡ 0) rs = turn w rs q.2 in
            let a1 : pairing (plus p.0 w) t.0 ≡ 0 = span_pairing vs t.0 (plus p.0 w) (turn t.0 vs t.2) q.1 in
            let a2 : pairing (plus r t.0) w ≡ 0 = span_pairing rs w (plus r t.0) rw0 t.1 in
            let one : pairing r w ≡ 1 =
            omega (arith, pairing_lt, p.3, a1, a2, pairing_l p.0 w t.0, pairing_l r t.0 w, pairing_comm p.0 t.0, pairing_comm w t.0) in
            inr (w ∷ fix r w vs, (one, fix_r r w vs one, rw0, fix_duals r w rs vs rw0 d))

-- labels are dependent or have duals
pub dependent_or_duals : (rs : List Label) → Dependent rs ⊎ ((vs : List Label) × Duals rs vs)
dependent_or_duals [] = inr ([], tt)
dependent_or_duals (r ∷ rs) = go (dependent_or_duals rs)
  where
    go : Dependent rs ⊎ ((vs : List Label) × Duals rs vs) → Dependent (r ∷ rs) ⊎ ((vs : List Label) × Duals (r ∷ rs) vs)
    go (inl d) = inl (inl d)
    go (inr p) = by (more r rs p.0 p.1)
      where
        by : Span rs r ⊎ ((ws : List Label) × Duals (r ∷ rs) ws) → Dependent (r ∷ rs) ⊎ ((vs : List Label) × Duals (r ∷ rs) vs)
        by (inl s) = inl (inr s)
        by (inr q) = inr q
