-- Tests and what they tell.
use Rattle.std.proofs.Common.{◌≡◌, ℕ, zero, suc, ◌<◌, ◌≤◌, Bool, true, false, not, ◌&&◌, T, eqb, ltb, leb, ◌≢◌, sym, refl, ap, ◌∙◌, subst, arith, le→leb, eqb→eq, ltb→lt, lt→ltb, leb→le}
use mathlib.Core.Bool.{beq}
use native.Mathlib.Decide.{ℕ_discrete}
use lib.Dec.{eqb_refl}
use Rattle.pauli.specs.Bits.{odd}
use Rattle.pauli_laws.specs.Words.{num}
use Rattle.tableau_laws.specs.Places.{all_below}

pub is_true : (p : Bool) → T p → p ≡ true
is_true true t = refl
is_true false t = absurd t

pub is_false : (p : Bool) → (T p → ⊥) → p ≡ false
is_false true t = absurd (t tt)
is_false false t = refl

pub holds : (p : Bool) → p ≡ true → T p
holds p e = subst T (sym e) tt

pub eq_of : (x y : ℕ) → eqb x y ≡ true → x ≡ y
eq_of x y e = eqb→eq x y (subst T (sym e) tt)

pub eq_true : (x y : ℕ) → x ≡ y → eqb x y ≡ true
eq_true x y e = is_true (eqb x y) (subst (λ (z : ℕ). T (eqb x z)) e (eqb_refl x))

pub ne_of : (x y : ℕ) → eqb x y ≡ false → x ≢ y
ne_of x y e p = subst T (sym (eq_true x y p) ∙ e) tt

pub eq_false : (x y : ℕ) → x ≢ y → eqb x y ≡ false
eq_false x y ne = is_false (eqb x y) (λ t. ne (eqb→eq x y t))

pub left : (p q : Bool) → (p && q) ≡ true → p ≡ true
left true q e = refl
left false q e = e

pub right : (p q : Bool) → (p && q) ≡ true → q ≡ true
right true q e = e
right false q e = absurd (subst T (sym e) tt)

pub together : (p q : Bool) → p ≡ true → q ≡ true → (p && q) ≡ true
together p q e f = ap (λ (x : Bool). x && q) e ∙ f

pub lt_true : (i k : ℕ) → i < k → ltb i k ≡ true
lt_true i k l = is_true (ltb i k) (lt→ltb i k l)

pub lt_false : (i k : ℕ) → k ≤ i → ltb i k ≡ false
lt_false i k l = is_false (ltb i k) (λ t. let h = ltb→lt i k t in omega arith)

pub le_true : (i k : ℕ) → i ≤ k → leb i k ≡ true
le_true i k l = is_true (leb i k) (le→leb i k l)

pub le_false : (i k : ℕ) → k < i → leb i k ≡ false
le_false i k l = is_false (leb i k) (λ t. let h = leb→le i k t in omega arith)

pub le_of : (i k : ℕ) → leb i k ≡ true → i ≤ k
le_of i k e = leb→le i k (holds (leb i k) e)

pub beq_of : (p q : Bool) → beq p q ≡ true → p ≡ q
beq_of true true e = refl
beq_of true false e = absurd (subst T (sym e) tt)
beq_of false true e = absurd (subst T (sym e) tt)
beq_of false false e = refl

pub beq_same : (p q : Bool) → p ≡ q → beq p q ≡ true
beq_same p q e = ap (beq p) (sym e) ∙ self p
  where
    self : (p : Bool) → beq p p ≡ true
    self true = refl
    self false = refl

pub no_of : (p : Bool) → not p ≡ true → p ≡ false
no_of true e = absurd (subst T (sym e) tt)
no_of false e = refl

-- a bit is told by its oddness
pub bit_of : (p : ℕ) (x : Bool) → p < 2 → odd p ≡ x → p ≡ num x
bit_of zero x l e = ap num e
bit_of (suc zero) x l e = ap num e
bit_of (suc (suc p)) x l e = absurd (omega arith)

-- ---- tests of all places below k

pub all_get : (k : ℕ) (t : ℕ → Bool) → all_below k t ≡ true → (i : ℕ) → i < k → t i ≡ true
all_get zero t e i l = absurd (omega arith)
all_get (suc k) t e i l = go (all_get k t (left (all_below k t) (t k) e)) (ℕ_discrete i k)
  where
    go : ((i : ℕ) → i < k → t i ≡ true) → Dec (i ≡ k) → t i ≡ true
    go r (yes p) = ap t p ∙ right (all_below k t) (t k) e
    go r (no p) = r i (omega arith)

pub all_make : (k : ℕ) (t : ℕ → Bool) → ((i : ℕ) → i < k → t i ≡ true) → all_below k t ≡ true
all_make zero t h = refl
all_make (suc k) t h = together (all_below k t) (t k) (all_make k t (λ i l. h i (omega arith))) (h k (omega arith))

-- a search among the first N places
pub seek : (N : ℕ) (P : ℕ → Type 0) → ((i : ℕ) → Dec (P i)) → Dec ((i : ℕ) × (i < N) × P i)
seek zero P d = no (λ p. omega (arith, p.1))
seek (suc N) P d = go (seek N P d) (d N)
  where
    go : Dec ((i : ℕ) × (i < N) × P i) → Dec (P N) → Dec ((i : ℕ) × (i < suc N) × P i)
    go (yes p) e = yes (p.0, omega (arith, p.1), p.2)
    go (no h) (yes p) = yes (N, omega arith, p)
    go (no h) (no k) = no (λ p. by p (ℕ_discrete p.0 N))
      where
        by : (p : (i : ℕ) × (i < suc N) × P i) → Dec (p.0 ≡ N) → ⊥
        by p (yes e) = k (subst P e p.2)
        by p (no ne) = h (p.0, omega (arith, p.1, ne), p.2)
