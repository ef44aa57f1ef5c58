-- A rule over bits, proved by one test that is computed at every case.
use Rattle.std.proofs.Common.{◌≡◌, Bool, true, false, ◌&&◌, T, refl}
use mathlib.Core.Bool.{beq}

abbrev pub all : (Bool → Bool) → Bool
all f = f true && f false

abbrev pub all2 : (Bool → Bool → Bool) → Bool
all2 f = all (λ p. all (f p))

abbrev pub all4 : (Bool → Bool → Bool → Bool → Bool) → Bool
all4 f = all2 (λ p q. all2 (f p q))

abbrev pub all6 : (Bool → Bool → Bool → Bool → Bool → Bool → Bool) → Bool
all6 f = all4 (λ p q r s. all2 (f p q r s))

abbrev pub all8 : (Bool → Bool → Bool → Bool → Bool → Bool → Bool → Bool → Bool) → Bool
all8 f = all4 (λ p q r s. all4 (f p q r s))

-- the test at one case
pub at1 : (f : Bool → Bool) → T (all f) → (b : Bool) → T (f b)
at1 f t true = left (f true) (f false) t
  where
    left : (p q : Bool) → T (p && q) → T p
    left true q t = tt
    left false q t = absurd t
at1 f t false = right (f true) (f false) t
  where
    right : (p q : Bool) → T (p && q) → T q
    right true q t = t
    right false q t = absurd t

pub at2 : (f : Bool → Bool → Bool) → T (all2 f) → (p q : Bool) → T (f p q)
at2 f t p q = at1 (f p) (at1 (λ p. all (f p)) t p) q

pub at4 : (f : Bool → Bool → Bool → Bool → Bool) → T (all4 f) → (p q r s : Bool) → T (f p q r s)
at4 f t p q r s = at2 (f p q) (at2 (λ p q. all2 (f p q)) t p q) r s

pub at6 : (f : Bool → Bool → Bool → Bool → Bool → Bool → Bool) → T (all6 f) → (p q r s v w : Bool) → T (f p q r s v w)
at6 f t p q r s v w = at2 (f p q r s) (at4 (λ p q r s. all2 (f p q r s)) t p q r s) v w

pub at8 : (f : Bool → Bool → Bool → Bool → Bool → Bool → Bool → Bool → Bool) → T (all8 f) → (p q r s p' q' r' s' : Bool) → T (f p q r s p' q' r' s')
at8 f t p q r s p' q' r' s' = at4 (f p q r s) (at4 (λ p q r s. all4 (f p q r s)) t p q r s) p' q' r' s'

pub same : (p q : Bool) → T (beq p q) → p ≡ q
same true true t = refl
same false false t = refl
same true false t = absurd t
same false true t = absurd t
