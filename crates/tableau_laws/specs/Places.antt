-- Things by place, counted from 0: sums, tests, counts, and the places that pass a test.
use Rattle.std.specs.Prelude.{ℕ, zero, suc, ◌+◌, ◌-◌, Bool, true, cond, ◌&&◌, ◌==◌, nat_lt}
use Rattle.pauli.specs.declared.label.Label.{Label}
use Rattle.pauli.specs.Labels.{plus, zero_label}
use Rattle.pauli_laws.specs.Words.{num}

-- the sum of the first k labels
abbrev pub total : (ℕ → Label) → ℕ → Label
total f zero = zero_label
total f (suc k) = plus (f k) (total f k)

-- whether the first k places all pass
abbrev pub all_below : ℕ → (ℕ → Bool) → Bool
all_below zero t = true
all_below (suc k) t = all_below k t && t k

-- how many of the first k places pass
abbrev pub count : (ℕ → Bool) → ℕ → ℕ
count t zero = 0
count t (suc k) = num (t k) + count t k

-- among the first k places, the one that passes and has i before it that pass
abbrev pub nth : (ℕ → Bool) → ℕ → ℕ → ℕ
nth t zero i = 0
nth t (suc k) i = cond (t k && count t k == i) k (nth t k i)

-- m places of f, and after them those of h
abbrev pub glue : {A : Type 0} → ℕ → (ℕ → A) → (ℕ → A) → ℕ → A
glue m f h i = cond (nat_lt i m) (f i) (h (i - m))
