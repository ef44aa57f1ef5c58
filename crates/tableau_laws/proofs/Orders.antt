-- The places that Cases 3 and 4 speak of: the first, and the i-th in row order.
use Rattle.std.proofs.Common.{◌≡◌, ℕ, ◌+◌, ◌-◌, Bool, true, not, ap, arith}
use Rattle.pauli.specs.declared.label.Label.{Label}
use Rattle.pauli.specs.declared.row.Row.{Row}
use Rattle.pauli.specs.Bits.{odd}
use Rattle.pauli.specs.Labels.{pairing}
use Rattle.tableau_laws.specs.Laws.{FirstLaw, InOrder, OrderLaw}
use Rattle.tableau_laws.specs.Places.{count, nth}
use Rattle.tableau_laws.specs.Rules.{against_b}
use Rattle.tableau_laws.specs.Tableaux.{jw_count}
use Rattle.pauli_laws.proofs.Algebra.{pairing_lt}
use Rattle.tableau_laws.proofs.CaseThree.{even_is, odd_is}
use Rattle.tableau_laws.proofs.Measured.{first_is}
use Rattle.tableau_laws.proofs.Places.{count_against, count_less, count_not, nth_at, nth_is, nth_order}

pub first_law : FirstLaw
first_law m E b ne = let f = first_is m E b ne in record { below = f.0; anticommutes = f.1; first = f.2 }

-- the places of a test t that tells where the pairing is x
ordered : (J : ℕ → Row) (b : Label) (k x r : ℕ) (t : ℕ → Bool) → count t k ≡ r → ((a : ℕ) → t a ≡ true → pairing (J a).label b ≡ x)
    → ((a : ℕ) → pairing (J a).label b ≡ x → t a ≡ true) → InOrder J b k x r (nth t k)
ordered J b k x r t e to from = record {
  below = λ i l. (nth_is t k i (omega (arith, e))).0;
  is = λ i l. to (nth t k i) (nth_is t k i (omega (arith, e))).1;
  order = λ i j l h. nth_order t k i j l (omega (arith, e));
  all = λ a l h. (count t a, omega (arith, e, count_less t a k l (from a h)), nth_at t k a l (from a h));
}

pub order_law : OrderLaw
order_law w J b = (
  ordered J b (w + w + 1) 1 (jw_count w J b) (against_b J b) (count_against J b (w + w + 1)) (λ a e. odd_is (pairing (J a).label b) (pairing_lt (J a).label b) e) (λ a e. ap odd e),
  ordered J b (w + w + 1) 0 (w + w + 1 - jw_count w J b) (λ j. not (against_b J b j))
      (omega (arith, count_not (against_b J b) (w + w + 1), count_against J b (w + w + 1)))
      (λ a e. even_is (pairing (J a).label b) (pairing_lt (J a).label b) e) (λ a e. ap (λ (p : ℕ). not (odd p)) e),
)
