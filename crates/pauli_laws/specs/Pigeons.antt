-- Maps of the numbers below N: into themselves, one-to-one, and onto.
use Rattle.std.specs.Prelude.{◌≡◌, ℕ, ◌<◌}

abbrev pub Below : ℕ → (ℕ → ℕ) → Type 0
Below N f = (i : ℕ) → i < N → f i < N

abbrev pub Inj : ℕ → (ℕ → ℕ) → Type 0
Inj N f = (i j : ℕ) → i < N → j < N → f i ≡ f j → i ≡ j

-- some number below N goes to y
abbrev pub Hits : ℕ → (ℕ → ℕ) → ℕ → Type 0
Hits N f y = (i : ℕ) × (i < N) × (f i ≡ y)
