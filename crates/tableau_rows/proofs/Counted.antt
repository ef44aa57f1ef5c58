-- How many places pass a test, and which is the n-th of them.
use Rattle.std.proofs.Common.{◌≡◌, ℕ, zero, suc, ◌+◌, ◌<◌, Bool, true, false, cond, ◌&&◌, eqb, List, length, get_or, set, sym, refl, ap, ◌∙◌, ap₂, add-one, arith, get_or-set_other, get_or-set_same, below_more, ne_eqb, eqb-true}
use borrow.Author.Tests.{eqb-false}
use Rattle.pauli_laws.specs.Words.{num}
use Rattle.tableau_laws.specs.Places.{count, nth}
use Rattle.tableau_laws.proofs.Places.{nth_at, nth_here}

pub count_more : (t : ℕ → Bool) (k : ℕ) (b : Bool) → t k ≡ b → count t (k + 1) ≡ count t k + num b
count_more t k b e =
    let s : count t (k + 1) ≡ num (t k) + count t k = ap (count t) (add-one k) in
    let n : num (t k) ≡ num b = ap num e in
    omega arith

pub count_none : (t : ℕ → Bool) (k : ℕ) → ((i : ℕ) → i < k → t i ≡ false) → count t k ≡ 0
count_none t zero h = refl
count_none t (suc k) h = ap₂ (λ (b : Bool) (n : ℕ). num b + n) (h k (omega arith)) (count_none t k (λ i lt. h i (omega arith)))

-- the place where the i-th is found, one place on
pub nth_old : (t : ℕ → Bool) (k i : ℕ) → i < count t k → nth t (k + 1) i ≡ nth t k i
nth_old t k i h =
    ap (λ (n : ℕ). nth t n i) (add-one k) ∙ ap (λ (b : Bool). cond (t k && b) k (nth t k i)) (ne_eqb (count t k) i (λ e. omega arith)) ∙ no (t k)
  where
    no : (b : Bool) → cond (b && false) k (nth t k i) ≡ nth t k i
    no true = refl
    no false = refl

pub nth_new : (t : ℕ → Bool) (k : ℕ) → t k ≡ true → nth t (k + 1) (count t k) ≡ k
nth_new t k e = ap (λ (n : ℕ). nth t n (count t k)) (add-one k) ∙ nth_here t k (count t k) e refl

-- the first place that passes
pub nth_first : (t : ℕ → Bool) (m k : ℕ) → k < m → t k ≡ true → ((i : ℕ) → i < k → t i ≡ false) → nth t m 0 ≡ k
nth_first t m k h e below = ap (nth t m) (sym (count_none t k below)) ∙ nth_at t m k h e

-- a list whose front has what h makes of the places that pass
abbrev pub Filled : {A : Type 0} → A → (ℕ → A) → (ℕ → Bool) → List A → ℕ → Type 0
Filled d h t zs i = (k : ℕ) → k < count t i → get_or zs k d ≡ h (nth t i k)

pub filled_more : {A : Type 0} (d : A) (h : ℕ → A) (t : ℕ → Bool) (zs : List A) (i n : ℕ) (v : A) → t i ≡ true → n ≡ count t i → n < length zs → v ≡ h i
    → Filled d h t zs i → Filled d h t (set zs n v) (i + 1)
filled_more d h t zs i n v e at lt is was k less =
    let c : count t (i + 1) ≡ count t i + 1 = count_more t i true e in
    below_more (λ j. get_or (set zs n v) j d ≡ h (nth t (i + 1) j)) n
    (λ j lj. get_or-set_other zs n j v d (λ same. omega arith) ∙ was j (omega arith) ∙ ap h (sym (nth_old t i j (omega arith))))
    (get_or-set_same zs n v d lt ∙ is ∙ ap h (sym (ap (nth t (i + 1)) at ∙ nth_new t i e)))
    k (omega arith)

pub filled_same : {A : Type 0} (d : A) (h : ℕ → A) (t : ℕ → Bool) (zs : List A) (i : ℕ) → t i ≡ false → Filled d h t zs i → Filled d h t zs (i + 1)
filled_same d h t zs i e was k less =
    let c : count t (i + 1) ≡ count t i + 0 = count_more t i false e in
    was k (omega arith) ∙ ap h (sym (nth_old t i k (omega arith)))

-- tests that agree below k
pub count_same : (t u : ℕ → Bool) (k : ℕ) → ((i : ℕ) → i < k → t i ≡ u i) → count t k ≡ count u k
count_same t u zero h = refl
count_same t u (suc k) h = ap₂ (λ (b : Bool) (n : ℕ). num b + n) (h k (omega arith)) (count_same t u k (λ i lt. h i (omega arith)))

pub nth_same : (t u : ℕ → Bool) (k : ℕ) → ((i : ℕ) → i < k → t i ≡ u i) → (i : ℕ) → nth t k i ≡ nth u k i
nth_same t u zero h i = refl
nth_same t u (suc k) h i =
    ap₂ (λ (b : Bool) (n : ℕ). cond (b && eqb n i) k (nth t k i)) (h k (omega arith)) (count_same t u k (λ j lt. h j (omega arith)))
    ∙ ap (λ (n : ℕ). cond (u k && eqb (count u k) i) k n) (nth_same t u k (λ j lt. h j (omega arith)) i)

-- what g reads of a list is what f says, at one place more
pub put_more : {A B : Type 0} (d : A) (g : A → B) (f : ℕ → B) (xs : List A) (i : ℕ) (v : A) → i < length xs → g v ≡ f i
    → ((k : ℕ) → k < i → g (get_or xs k d) ≡ f k) → (k : ℕ) → k < i + 1 → g (get_or (set xs i v) k d) ≡ f k
put_more d g f xs i v h e was =
    below_more (λ k. g (get_or (set xs i v) k d) ≡ f k) i (λ k lt. ap g (get_or-set_other xs i k v d (λ same. omega arith)) ∙ was k lt)
    (ap g (get_or-set_same xs i v d h) ∙ e)

-- and after a write at one place
pub put_one : {A B : Type 0} (d : A) (g : A → B) (xs : List A) (k : ℕ) (v : A) (x y : B) (i : ℕ) → k < length xs → g v ≡ x → g (get_or xs i d) ≡ y
    → g (get_or (set xs k v) i d) ≡ cond (eqb i k) x y
put_one {A} {B} d g xs k v x y i lt here there = go (eqb i k) refl
  where
    go : (t : Bool) → eqb i k ≡ t → g (get_or (set xs k v) i d) ≡ cond t x y
    go true e = ap (λ (j : ℕ). g (get_or (set xs k v) j d)) (eqb-true i k e) ∙ ap g (get_or-set_same xs k v d lt) ∙ here
    go false e = let o : i ≡ k → ⊥ = eqb-false i k e in ap g (get_or-set_other xs k i v d o) ∙ there
