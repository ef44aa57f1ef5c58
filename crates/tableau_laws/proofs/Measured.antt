-- A measurement by the row rules: the case that the counts tell, the outcome, and the rows left.
use Rattle.std.proofs.Common.{◌≡◌, ℕ, ◌+◌, ◌-◌, ◌/◌, ◌%◌, ◌<◌, ◌≤◌, Bool, true, false, eqb, ◌≢◌, ◌⊎◌, Some, sym, refl, ap, ◌∙◌, inl, inr, arith}
use Rattle.pauli.specs.declared.case.Case.{Case}
use Rattle.pauli.specs.declared.case.Case.TheVariants.{Three, Four}
use Rattle.pauli.specs.declared.label.Label.{Label}
use Rattle.pauli.specs.declared.row.Row.{Row}
use Rattle.pauli.specs.Bits.{xorb}
use Rattle.pauli.specs.Labels.{Within, pairing}
use Rattle.phase.specs.Effects.{Effect, Measured, first_coin, signed}
use Rattle.tableau_laws.specs.Rules.{LawfulRows, Rows, against_b, first_against, look_rows, measured_rows, outcome_in, outcome_of, p_of, q_of, rows_in, sheet_of}
use Rattle.tableau_laws.specs.Tableaux.{answer, jw_count, labels, sign_read, stab_count}
use Rattle.sheet_laws.proofs.LabelCases.{three_coins}
use Rattle.pauli_laws.proofs.Algebra.{pairing_lt}
use Rattle.tableau_laws.proofs.Answered.{jw_even, lawful, looked, pick, three, value_read, zero_count}
use Rattle.tableau_laws.proofs.CaseFour as F
use Rattle.tableau_laws.proofs.CaseThree as C
use Rattle.tableau_laws.proofs.CaseThree.{odd_is, split}
use Rattle.tableau_laws.proofs.CaseTwo as B
use Rattle.tableau_laws.proofs.Places.{count_against, nth_is}
use Rattle.tableau_laws.proofs.Tests.{eq_of, ne_of}

-- where a stabilizer anticommutes with b: the place is one of the m, its row anticommutes, and none before it does
pub first_is : (m : ℕ) (E : ℕ → Row) (b : Label) → stab_count m E b ≢ 0
    → (first_against m E b < m) × (pairing (E (first_against m E b)).label b ≡ 1) × ((i : ℕ) → i < first_against m E b → pairing (E i).label b ≡ 0)
first_is m E b ne =
    let k = first_against m E b in
    let h = nth_is (against_b E b) m 0 (omega (arith, ne, count_against E b m)) in
    (h.0, odd_is (pairing (E k).label b) (pairing_lt (E k).label b) h.1, zero_count (labels E) b k (sym (count_against E b k) ∙ h.2))

module _ (n : ℕ) (R : Rows) (b : Label) (sign : Bool) (word : ℕ) (T : LawfulRows n R) (wb : Within n b) where
  abbrev m : ℕ
  m = R.m

  abbrev w : ℕ
  w = R.w

  -- what holds of the case c with k coins
  abbrev Good : Case → ℕ → Type 0
  Good c k = LawfulRows n (rows_in c k b sign word R)
      × Effect (sheet_of n R) b sign (first_coin word) c k (outcome_in c b sign word R) (sheet_of n (rows_in c k b sign word R))

  read : stab_count m R.E b ≡ 0 → (jw_count w R.J b ≡ 0) ⊎ (jw_count w R.J b ≡ w + w)
      → signed sign (answer n m w R.D R.E R.J b) ≡ Some (xorb (sign_read m w R.D R.E R.J b) sign)
  read e k = ap (signed sign) (value_read n m w R.D R.E R.J T b wb e k)

  in_three : stab_count m R.E b ≡ 0 → jw_count w R.J b ≢ 0 → jw_count w R.J b ≢ w + w → Good Three (jw_count w R.J b / 2)
  in_three e ne nz =
      let t = jw_count w R.J b / 2 in
      let v = xorb (first_coin word) sign in
      let l = three_coins (sheet_of n R) (lawful n m w R.D R.E R.J T) b wb t (three n m w R.D R.E R.J T b wb e ne nz) in
      let lo : 1 ≤ t = l.0 in
      let hi : t < w = l.1 in
      let ut : w - t + t ≡ w = whole w t hi in
      let u1 : 1 ≤ w - t = some w t hi in
      let S = split R.J b w (w - t) t ut (half (jw_count w R.J b) (jw_even n m w R.D R.E R.J T b wb e)) in (
        C.pattern n m w (w - t) t R.D R.E R.J b v word (p_of w R.J b) (q_of w R.J b) T wb e ut lo u1 S,
        (refl, C.narrowed n m w (w - t) t R.D R.E R.J b v word (p_of w R.J b) (q_of w R.J b) T wb e ut lo u1 S),
      )
    where
      half : (x : ℕ) → x % 2 ≡ 0 → x ≡ x / 2 + x / 2
      half x e = omega arith

      whole : (x t : ℕ) → t < x → x - t + t ≡ x
      whole x t h = omega arith

      some : (x t : ℕ) → t < x → 1 ≤ x - t
      some x t h = omega arith

  in_four : stab_count m R.E b ≢ 0 → Good Four 1
  in_four ne =
      let k = first_against m R.E b in
      let v = xorb (first_coin word) sign in
      let f = first_is m R.E b ne in (
        F.pattern n m w k R.D R.E R.J b v T wb f.0 f.1,
        (refl, F.replaced n m w k R.D R.E R.J b v T wb f.0 f.1),
      )

  good : Good (look_rows R b).0 (look_rows R b).1
  good = go (eqb (stab_count m R.E b) 0) (eqb (jw_count w R.J b) 0) (eqb (jw_count w R.J b) (w + w)) refl refl refl
    where
      go : (x y z : Bool) → eqb (stab_count m R.E b) 0 ≡ x → eqb (jw_count w R.J b) 0 ≡ y → eqb (jw_count w R.J b) (w + w) ≡ z
          → Good (pick n m w R.D R.E R.J T b wb x y z).0 (pick n m w R.D R.E R.J T b wb x y z).1
      go true true z ex ey ez = (
        T,
        (read (eq_of (stab_count m R.E b) 0 ex) (inl (eq_of (jw_count w R.J b) 0 ey)), record { same_n = refl; same_width = refl; values = λ a. refl }),
      )
      go true false true ex ey ez = (
        B.pattern n m w R.D R.E R.J b (first_coin word) T,
        (
          read (eq_of (stab_count m R.E b) 0 ex) (inr (eq_of (jw_count w R.J b) (w + w) ez)),
          B.turned n m w R.D R.E R.J b (first_coin word) T (eq_of (stab_count m R.E b) 0 ex),
        ),
      )
      go true false false ex ey ez = in_three (eq_of (stab_count m R.E b) 0 ex) (ne_of (jw_count w R.J b) 0 ey) (ne_of (jw_count w R.J b) (w + w) ez)
      go false y z ex ey ez = in_four (ne_of (stab_count m R.E b) 0 ex)

  pub measured_pattern : LawfulRows n (measured_rows b sign word R)
  measured_pattern = good.0

  pub measured : Measured (sheet_of n R) b sign word (outcome_of b sign word R) (sheet_of n (measured_rows b sign word R))
  measured = record {
    case = (look_rows R b).0;
    count = (look_rows R b).1;
    looked = looked n m w R.D R.E R.J T b wb;
    effect = good.1;
  }
