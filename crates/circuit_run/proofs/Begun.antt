-- Lines 1 and 2.
use Rattle.std.proofs.Common.{◌≡◌, ℕ, zero, suc, ◌<◌, ◌≤◌, Bool, true, false, ◌&&◌, ◌⊎◌, List, [], ◌∷◌, length, get_or, Ok, Err, Result, sym, refl, ap, ◌∙◌, subst, inl, inr, arith, Bor, MatchResult}
use Rattle.pauli.specs.declared.fault.Fault.{Fault}
use Rattle.pauli.specs.declared.fault.Fault.TheVariants.{BadForm, TextEnded}
use Rattle.pauli.specs.Faults.{Answers}
use Rattle.coins.specs.declared.text.TextCoins.{TextCoins}
use Rattle.coins.specs.Digits.{digits, coins_of, all_digits, is_digit, text_coins}
use Rattle.coins.proofs.Written.{written}
use Rattle.tableau.specs.declared.tableau.Tableau.{Tableau}
use Rattle.tableau.specs.Tableaus.{rows_of, size_of}
use Rattle.tableau_laws.specs.Opening.{opening}
use Rattle.tableau_laws.specs.Rules.{SameRows, sheet_of}
use Rattle.tableau_laws.proofs.Same.{same_sheet}
use Rattle.tableau_rows.specs.Openings.{opening_fault}
use Rattle.text.specs.Reading.{Hit}
use Rattle.text.specs.Texts.{Coins, is_coin}
use Rattle.circuit_text.specs.declared.line.Opening.{Opening}
use Rattle.circuit_text.specs.Lines.{opening_text, OpeningLaw, coins_line, CoinsLaw}
use Rattle.circuit_text.specs.Reading.{Absent, OpeningRead, CoinsRead}
use Rattle.text.specs.declared.stop.Stop.{Stop}
use Rattle.text.specs.Stops.{stop}
use Rattle.circuit_run.specs.Begun.{Missed, sheet_in, Opened, Supplied}
use Rattle.circuit_run.specs.Runs.{opening_sheet}

-- the values of a tableau that was opened
pub opened_sheet : (o : Opening) (p : Tableau) → size_of p ≡ o.size → SameRows (opening o.size o.width) (rows_of p) → sheet_in p ≡ opening_sheet o
opened_sheet o p e same =
    ap (λ (k : ℕ). sheet_of k (rows_of p)) e ∙ same_sheet o.size (opening o.size o.width) (rows_of p) same

-- a line that was looked for and not found
pub not_found : (line : ℕ) (t : List ℕ) (at : ℕ) (f : Fault) (e : Stop) (miss : Type 0) → Missed line f e → Absent t at f miss
    → ((length t ≤ at) × (e ≡ stop 0 TextEnded)) ⊎ ((at < length t) × miss × (e ≡ stop line BadForm))
not_found line t at f e miss (inl (p, q)) (inl (h, r)) = inl (h, q ∙ ap (stop 0) r)
not_found line t at f e miss (inl (p, q)) (inr (h, r, m)) = absurd (let z : ◌≡◌ {A = ℕ} 0 1 = cc in omega arith)
not_found line t at f e miss (inr (p, q)) (inl (h, r)) = absurd (p r)
not_found line t at f e miss (inr (p, q)) (inr (h, r, m)) = inr (h, m, q ∙ ap (stop line) r)

-- ---- coins

all_of : (l : List ℕ) → ((i : ℕ) → i < length l → is_coin (get_or l i 0) ≡ true) → all_digits l ≡ true
all_of [] h = refl
all_of (d ∷ l) h = both (is_digit d) (all_digits l) (h 0 (omega arith)) (all_of l (λ i k. h (suc i) (omega arith)))
  where
    both : (p q : Bool) → p ≡ true → q ≡ true → p && q ≡ true
    both true true e f = refl
    both true false e f = f
    both false q e f = e

-- coins as the text has them are the digits of some coins
pub coins_written : (l : List ℕ) → Coins l → l ≡ digits (coins_of l)
coins_written l c = written l (all_of l c.each)

length_digits : (cs : List Bool) → length (digits cs) ≡ length cs
length_digits [] = refl
length_digits (c ∷ cs) = ap suc (length_digits cs)

each_digit : (cs : List Bool) (i : ℕ) → i < length (digits cs) → is_coin (get_or (digits cs) i 0) ≡ true
each_digit [] i h = absurd (omega arith)
each_digit (false ∷ cs) zero h = refl
each_digit (true ∷ cs) zero h = refl
each_digit (c ∷ cs) (suc i) h = each_digit cs i (omega arith)

-- and the digits of coins are coins as the text has them
pub digits_law : (cs : List Bool) → length cs ≤ 4096 → CoinsLaw (digits cs)
digits_law cs h = record { coins = record { each = each_digit cs }; few = omega (arith, length_digits cs) }

pub few_digits : (cs : List Bool) → CoinsLaw (digits cs) → length cs ≤ 4096
few_digits cs l = omega (arith, l.few, length_digits cs)

-- ---- what the reader handed out

module _ (x : Bor (List ℕ)) (at to : ℕ) where
  -- line 1: what the reader handed out was opened, or refused by its size or width
  pub was_opened : (n : Result Opening Fault) (o : Opening) (t : Result Tableau Fault) (r : Result Tableau Stop)
      → MatchResult n (λ y. ◌≡◌ {A = Result Opening Stop} (Ok o) (Ok y)) (λ f. (e : Stop) × (◌≡◌ {A = Result Opening Stop} (Ok o) (Err e)) × Missed 1 f e) → OpeningRead x at n to
      → Answers (opening_fault o.size o.width) (λ p. (size_of p ≡ o.size) × SameRows (opening o.size o.width) (rows_of p)) t
      → MatchResult t (λ p. r ≡ Ok p) (λ f. r ≡ Err (stop 1 f)) → Opened x.now at r to
  was_opened (Ok y) o (Ok p) r same h (ok, (size, rows)) is =
      let e : y ≡ o = cc in
      subst (λ (z : Result Tableau Stop). Opened x.now at z to) (sym is)
      (o, subst (λ (z : Opening). Hit opening_text OpeningLaw 10 x.now at z to) e h, ok, opened_sheet o p size rows, size, rows)
  was_opened (Ok y) o (Err f) r same h why is =
      let e : y ≡ o = cc in
      subst (λ (z : Result Tableau Stop). Opened x.now at z to) (sym is)
      (inr (inr (o, to, f, subst (λ (z : Opening). Hit opening_text OpeningLaw 10 x.now at z to) e h, why, refl)))
  was_opened (Err f) o t r (e, same, m) h a is = absurd (let z : ◌≡◌ {A = ℕ} 0 1 = cc in omega arith)

  -- line 2: its coins are digits, so text coins take them
  pub was_supplied : (n : Result (Bor (List ℕ)) Fault) (d : Bor (List ℕ)) (s : Result TextCoins Fault) (r : Result TextCoins Stop)
      → MatchResult n (λ y. ◌≡◌ {A = Result (Bor (List ℕ)) Stop} (Ok d) (Ok y)) (λ f. (e : Stop) × (◌≡◌ {A = Result (Bor (List ℕ)) Stop} (Ok d) (Err e)) × Missed 2 f e) → CoinsRead x at n to
      → MatchResult s (λ c. d.now ≡ digits (text_coins c)) (λ f. (f ≡ BadForm) × ((cs : List Bool) → d.now ≡ digits cs → ⊥))
      → MatchResult s (λ c. r ≡ Ok c) (λ f. r ≡ Err (stop 2 f)) → Supplied x.now at r to
  was_supplied (Ok y) d (Ok c) r same h is told =
      let e : y ≡ d = cc in
      subst (λ (z : Result TextCoins Stop). Supplied x.now at z to) (sym told)
      (subst (λ (l : List ℕ). Hit coins_line CoinsLaw 10 x.now at l to) (ap (λ (z : Bor (List ℕ)). z.now) e ∙ is) h.0)
  was_supplied (Ok y) d (Err f) r same h (bad, never) told =
      let e : y ≡ d = cc in
      absurd (never (coins_of d.now) (subst (λ (l : List ℕ). l ≡ digits (coins_of l)) (ap (λ (z : Bor (List ℕ)). z.now) e) (coins_written y.now h.0.law.coins)))
  was_supplied (Err f) d s r (e, same, m) h is told = absurd (let z : ◌≡◌ {A = ℕ} 0 1 = cc in omega arith)
