-- The opening words as sums of powers of two.
use Rattle.std.proofs.Common.{◌≡◌, ℕ, zero, suc, ◌+◌, ◌-◌, ◌*◌, ◌^◌, ◌<◌, List, ap, ◌∙◌, ap₂, pow-suc, arith, pow_pos}
use Rattle.pauli.specs.declared.letter.Letter.{Letter}
use Rattle.pauli.specs.declared.letter.Letter.TheVariants.{I, Y}
use Rattle.pauli_laws.specs.Words.{word}
use Rattle.tableau_laws.specs.Opening.{run}

-- letters that begin after h qubits
pub I_words : (h : ℕ) (ls : List Letter) → ((word (run h I ls)).x ≡ (word ls).x * 2 ^ h) × ((word (run h I ls)).z ≡ (word ls).z * 2 ^ h)
I_words zero ls = (omega arith, omega arith)
I_words (suc h) ls = let r = I_words h ls in (step (word (run h I ls)).x (word ls).x h r.0, step (word (run h I ls)).z (word ls).z h r.1)
  where
    step : (a b h : ℕ) → a ≡ b * 2 ^ h → 0 + 2 * a ≡ b * 2 ^ suc h
    step a b h e = ap (λ (x : ℕ). 0 + 2 * x) e ∙ shuffle b (2 ^ h) ∙ ap (λ (x : ℕ). b * x) (power h)
      where
        shuffle : (b p : ℕ) → 0 + 2 * (b * p) ≡ b * (p + p)
        shuffle b p = grind arith

        power : (h : ℕ) → 2 ^ h + 2 ^ h ≡ 2 ^ suc h
        power h = omega (arith, pow-suc 2 h)

-- i letters Y, and letters after them
pub Y_words : (i : ℕ) (ls : List Letter) → ((word (run i Y ls)).x ≡ 2 ^ i - 1 + (word ls).x * 2 ^ i) × ((word (run i Y ls)).z ≡ 2 ^ i - 1 + (word ls).z * 2 ^ i)
Y_words zero ls = (omega arith, omega arith)
Y_words (suc i) ls = let r = Y_words i ls in (step (word (run i Y ls)).x (word ls).x r.0, step (word (run i Y ls)).z (word ls).z r.1)
  where
    step : (a b : ℕ) → a ≡ 2 ^ i - 1 + b * 2 ^ i → 1 + 2 * a ≡ 2 ^ suc i - 1 + b * 2 ^ suc i
    step a b e = ap (λ (x : ℕ). 1 + 2 * x) e ∙ shuffle (2 ^ i) (pow_pos i) (b * 2 ^ i) ∙ ap₂ (λ (x y : ℕ). x - 1 + y) (power i) (twice b (2 ^ i) ∙ ap (λ (x : ℕ). b * x) (power i))
      where
        shuffle : (p : ℕ) → 0 < p → (q : ℕ) → 1 + 2 * (p - 1 + q) ≡ p + p - 1 + (q + q)
        shuffle p l q = omega arith

        twice : (b p : ℕ) → b * p + b * p ≡ b * (p + p)
        twice b p = grind arith

        power : (i : ℕ) → 2 ^ i + 2 ^ i ≡ 2 ^ suc i
        power i = omega (arith, pow-suc 2 i)
