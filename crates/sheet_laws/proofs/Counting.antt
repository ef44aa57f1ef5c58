-- Counts of labels: labels that are closed under sums and 2 ^ c in number have c generators.
use Rattle.std.proofs.Common.{◌≡◌, ℕ, zero, suc, ◌+◌, ◌*◌, ◌/◌, ◌%◌, ◌^◌, ◌<◌, ◌≤◌, cond, eqb, ◌⊎◌, List, [], ◌∷◌, length, sym, refl, ap, ◌∙◌, subst, ap₂, inl, inr, pow-suc, arith}
use native.Mathlib.Decide.{dec_le, dec_lt, ℕ_discrete}
use lib.Pow.{pow-lt}
use Rattle.pauli.specs.declared.label.Label.{Label}
use Rattle.pauli.specs.Bits.{odd}
use Rattle.pauli.specs.Labels.{plus, zero_label}
use Rattle.phase.specs.Sheets.{Exactly}
use Rattle.pauli_laws.specs.Spaces.{All, Duals, Span}
use Rattle.pauli_laws.proofs.Algebra.{plus_cancel, plus_self}
use Rattle.pauli_laws.proofs.Duals.{more}
use Rattle.pauli_laws.proofs.Pigeons.{onto}
use Rattle.pauli_laws.proofs.Spans.{chosen, comb, comb_inj, comb_span}

-- ---- numbers

-- what goes one-to-one below N, from below N, is onto
pub onto_below : (N : ℕ) (f : (i : ℕ) → i < N → ℕ) → ((i : ℕ) (h : i < N) → f i h < N) → ((i j : ℕ) (h : i < N) (k : j < N) → f i h ≡ f j k → i ≡ j)
    → (y : ℕ) → y < N → (i : ℕ) × (h : i < N) × (f i h ≡ y)
onto_below N f below inj y l =
    let p = onto N (λ i. F i (dec_lt i N)) (λ i h. small i h (dec_lt i N)) (λ i j hi hj. one i j hi hj (dec_lt i N) (dec_lt j N)) y l in
    back p.0 p.1 (dec_lt p.0 N) p.2
  where
    F : (i : ℕ) → Dec (i < N) → ℕ
    F i (yes h) = f i h
    F i (no h) = 0

    small : (i : ℕ) → i < N → (d : Dec (i < N)) → F i d < N
    small i h (yes k) = below i k
    small i h (no k) = absurd (k h)

    one : (i j : ℕ) → i < N → j < N → (d : Dec (i < N)) (d' : Dec (j < N)) → F i d ≡ F j d' → i ≡ j
    one i j h k (yes p) (yes q) e = inj i j p q e
    one i j h k (yes p) (no q) e = absurd (q k)
    one i j h k (no p) d' e = absurd (p h)

    back : (i : ℕ) → i < N → (d : Dec (i < N)) → F i d ≡ y → (i : ℕ) × (h : i < N) × (f i h ≡ y)
    back i h (yes k) e = (i, k, e)
    back i h (no k) e = absurd (k h)

-- what goes one-to-one below N is not more than N
pub fewer : (M N : ℕ) (f : (i : ℕ) → i < M → ℕ) → ((i : ℕ) (h : i < M) → f i h < N) → ((i j : ℕ) (h : i < M) (k : j < M) → f i h ≡ f j k → i ≡ j) → M ≤ N
fewer M N f below inj = go (dec_le M N)
  where
    go : Dec (M ≤ N) → M ≤ N
    go (yes h) = h
    go (no h) =
        let p = onto_below M f (λ i l. omega (arith, below i l, h)) inj N (omega (arith, h)) in
        absurd (omega (arith, below p.0 p.1, p.2))

pub pow_le : (a b : ℕ) → 2 ^ a ≤ 2 ^ b → a ≤ b
pow_le a b h = go (dec_le a b)
  where
    go : Dec (a ≤ b) → a ≤ b
    go (yes k) = k
    go (no k) = let l : b < a = omega arith in absurd (omega (arith, h, pow-lt l))

-- ---- spans

pub span_zero : (rs : List Label) → Span rs zero_label
span_zero [] = refl
span_zero (r ∷ rs) = inl (span_zero rs)

pub span_holds : (P : Label → Type 0) → P zero_label → ((a b : Label) → P a → P b → P (plus a b)) → (rs : List Label) → All P rs → (a : Label) → Span rs a → P a
span_holds P z s [] h a e = subst P (sym e) z
span_holds P z s (r ∷ rs) h a (inl p) = span_holds P z s rs h.1 a p
span_holds P z s (r ∷ rs) h a (inr p) = subst P (plus_cancel r a) (s r (plus r a) h.0 (span_holds P z s rs h.1 (plus r a) p))

pub span_index : (rs : List Label) (a : Label) → Span rs a → (i : ℕ) × (i < 2 ^ length rs) × (comb rs i ≡ a)
unfolding comb plus
span_index [] a e = (0, omega arith, sym e)
span_index (r ∷ rs) a (inl p) = go (span_index rs a p)
  where
    go : (i : ℕ) × (i < 2 ^ length rs) × (comb rs i ≡ a) → (i : ℕ) × (i < 2 ^ suc (length rs)) × (plus (chosen (odd i) r) (comb rs (i / 2)) ≡ a)
    go (i, l, e) =
        let h1 : 2 * i % 2 ≡ 0 = omega arith in
        let h2 : 2 * i / 2 ≡ i = omega arith in
        (2 * i, omega (arith, pow-suc 2 (length rs)), ap₂ (λ (m n : ℕ). plus (cond (eqb m 1) r zero_label) (comb rs n)) h1 h2 ∙ e)
span_index (r ∷ rs) a (inr p) = go (span_index rs (plus r a) p)
  where
    go : (i : ℕ) × (i < 2 ^ length rs) × (comb rs i ≡ plus r a) → (i : ℕ) × (i < 2 ^ suc (length rs)) × (plus (chosen (odd i) r) (comb rs (i / 2)) ≡ a)
    go (i, l, e) =
        let h1 : (2 * i + 1) % 2 ≡ 1 = omega arith in
        let h2 : (2 * i + 1) / 2 ≡ i = omega arith in
        (2 * i + 1, omega (arith, pow-suc 2 (length rs)), ap₂ (λ (m n : ℕ). plus (cond (eqb m 1) r zero_label) (comb rs n)) h1 h2 ∙ ap (plus r) e ∙ plus_cancel r a)

pub all_map : (P Q : Label → Type 0) → ((a : Label) → P a → Q a) → (xs : List Label) → All P xs → All Q xs
all_map P Q t [] h = tt
all_map P Q t (x ∷ xs) h = (t x h.0, all_map P Q t xs h.1)

-- ---- generators

pub record Basis (P : Label → Type 0) (xs : List Label) : Type 0 where
  pub rs : List Label
  pub vs : List Label
  pub so : All P rs
  pub duals : Duals rs vs
  pub spans : All (Span rs) xs

pub sift : (P : Label → Type 0) (xs : List Label) → All P xs → Basis P xs
sift P [] h = record { rs = []; vs = []; so = tt; duals = tt; spans = tt }
sift P (x ∷ xs) h = go (sift P xs h.1)
  where
    go : Basis P xs → Basis P (x ∷ xs)
    go B = by (more x B.rs B.vs B.duals)
      where
        by : Span B.rs x ⊎ ((ws : List Label) × Duals (x ∷ B.rs) ws) → Basis P (x ∷ xs)
        by (inl s) = record { rs = B.rs; vs = B.vs; so = B.so; duals = B.duals; spans = (s, B.spans) }
        by (inr (ws, d)) = record {
          rs = x ∷ B.rs;
          vs = ws;
          so = (h.0, B.so);
          duals = d;
          spans = (inr (subst (Span B.rs) (sym (plus_self x)) (span_zero B.rs)), all_map (Span B.rs) (Span (x ∷ B.rs)) (λ a s. inl s) xs B.spans);
        }

abbrev tab : (ℕ → Label) → ℕ → List Label
tab f zero = []
tab f (suc n) = f n ∷ tab f n

all_tab : (P : Label → Type 0) (f : ℕ → Label) (n : ℕ) → ((i : ℕ) → i < n → P (f i)) → All P (tab f n)
all_tab P f zero h = tt
all_tab P f (suc n) h = (h n (omega arith), all_tab P f n (λ i l. h i (omega arith)))

tab_at : (P : Label → Type 0) (f : ℕ → Label) (n : ℕ) → All P (tab f n) → (i : ℕ) → i < n → P (f i)
tab_at P f zero h i l = absurd (omega arith)
tab_at P f (suc n) h i l = go (tab_at P f n h.1 i) (ℕ_discrete i n)
  where
    go : (i < n → P (f i)) → Dec (i ≡ n) → P (f i)
    go r (yes e) = subst (λ (m : ℕ). P (f m)) (sym e) h.0
    go r (no ne) = r (omega arith)

-- labels closed under sums, 2 ^ c in number, have c of them with duals that span them
pub record Generators (P : Label → Type 0) (c : ℕ) : Type 0 where
  pub rs : List Label
  pub vs : List Label
  pub many : length rs ≡ c
  pub so : All P rs
  pub duals : Duals rs vs
  pub spans : (a : Label) → P a → Span rs a

pub generators : (P : Label → Type 0) (c : ℕ) → P zero_label → ((a b : Label) → P a → P b → P (plus a b)) → Exactly P (2 ^ c) → Generators P c
generators P c z s E = record {
  rs = rs;
  vs = B.vs;
  many = omega (arith, pow_le (length rs) c few, pow_le c (length rs) most);
  so = B.so;
  duals = B.duals;
  spans = spanned;
}
  where
    B : Basis P (tab E.at (2 ^ c))
    B = sift P (tab E.at (2 ^ c)) (all_tab P E.at (2 ^ c) E.is)

    rs : List Label
    rs = B.rs

    spanned : (a : Label) → P a → Span rs a
    spanned a p =
        let q = E.all a p in
        subst (Span rs) q.2 (tab_at (Span rs) E.at (2 ^ c) B.spans q.0 q.1)

    hit : (i : ℕ) → (j : ℕ) × (j < 2 ^ c) × (E.at j ≡ comb rs i)
    hit i = E.all (comb rs i) (span_holds P z s rs B.so (comb rs i) (comb_span rs i))

    few : 2 ^ length rs ≤ 2 ^ c
    few = fewer (2 ^ length rs) (2 ^ c) (λ i h. (hit i).0) (λ i h. (hit i).1)
        (λ i j hi hj e. comb_inj rs B.vs B.duals i j hi hj (sym (hit i).2 ∙ ap E.at e ∙ (hit j).2))

    index : (i : ℕ) → i < 2 ^ c → (j : ℕ) × (j < 2 ^ length rs) × (comb rs j ≡ E.at i)
    index i h = span_index rs (E.at i) (spanned (E.at i) (E.is i h))

    most : 2 ^ c ≤ 2 ^ length rs
    most = fewer (2 ^ c) (2 ^ length rs) (λ i h. (index i h).0) (λ i h. (index i h).1)
        (λ i j hi hj e. E.once i j hi hj (sym (index i hi).2 ∙ ap (comb rs) e ∙ (index j hj).2))
