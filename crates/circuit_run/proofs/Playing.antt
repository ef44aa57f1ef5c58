-- The lines played are a history, and so the promises about every run hold of them.
use Rattle.std.proofs.Common.{◌≡◌, ℕ, ◌+◌, ◌<◌, ◌≤◌, Bool, true, false, cond, leb, ◌≢◌, List, [], ◌∷◌, ◌++◌, length, drop, Some, None, Ok, Err, Result, sym, refl, ap, ◌∙◌, subst, inl, inr, arith, length-append, length-drop, Bor, MatchResult}
use Rattle.std.proofs.lemmas.Bool.{leb-true, leb-false}
use Rattle.std.proofs.lemmas.List.{append-nil, drop_all}
use Rattle.pauli.specs.declared.fault.Fault.{Fault}
use Rattle.pauli.specs.declared.fault.Fault.TheVariants.{BadForm, TextEnded}
use Rattle.pauli.specs.Faults.{Answers}
use Rattle.coins.specs.declared.text.TextCoins.{TextCoins}
use Rattle.coins.specs.Digits.{digits, text_coins}
use Rattle.journal_lines.specs.declared.event.Event.{Event}
use Rattle.runs.specs.Promises.{Moment, reached, History}
use Rattle.runs.specs.Readings.{readings}
use Rattle.runs.specs.Spent.{spent}
use Rattle.runs.specs.States.{State, state}
use Rattle.runs.proofs.Theorem.{always}
use Rattle.phase.specs.Sheets.{Sheet}
use Rattle.tableau.specs.declared.tableau.Tableau.{Tableau}
use Rattle.tableau_rows.specs.Openings.{opening_fault}
use Rattle.text.specs.Reading.{Hit}
use Rattle.circuit_text.specs.declared.line.Opening.{Opening}
use Rattle.circuit_text.specs.Lines.{opening_text, OpeningLaw, coins_line, CoinsLaw}
use Rattle.text.specs.declared.stop.Stop.{Stop}
use Rattle.circuit.specs.Lines.{Lines, end, next, not_a_line, refused, Played}
use Rattle.text.specs.Stops.{stop}
use Rattle.circuit_run.specs.declared.report.Finish.{Finish}
use Rattle.circuit_run.specs.Begun.{sheet_in, Opened, Supplied}
use Rattle.circuit_run.specs.Runs.{Fit, opened, how_ended, Tells, PlayedOut, Ran, too_long, no_opening, bad_opening, not_opened, no_coins, bad_coins, played}
use Rattle.circuit_run.proofs.Begun.{digits_law, few_digits}

-- ---- lines are calls

pub lines_lead : {s : State} {k : ℕ} {t : List ℕ} {ms : List Moment} {u : State} {r : Result Unit Stop} → Lines s k t ms u r → reached s ms ≡ u
lines_lead (end s k) = refl
lines_lead (next s k x rest t ms u r law l d more) = lines_lead more
lines_lead (not_a_line s k t some never) = refl
lines_lead (refused s k x rest f l why) = refl

pub lines_history : {s : State} {k : ℕ} {t : List ℕ} {ms : List Moment} {u : State} {r : Result Unit Stop} → Lines s k t ms u r → History s ms
lines_history (end s k) = tt
lines_history (next s k x rest t ms u r law l d more) = (law, d.step, lines_history more)
lines_history (not_a_line s k t some never) = tt
lines_history (refused s k x rest f l why) = tt

module _ (o : State) (rest : List ℕ) (r : Result Unit Stop) (u : State) (none : o.events ≡ []) (p : Played o 3 rest r u) where
  -- the coins spent and those left are the coins at the start
  pub coins_told : length (spent (readings u.events)) + length u.coins ≡ length o.coins
  coins_told =
      let h = lines_history p.lines in
      let order = (always o none p.moments h p.moments [] (sym (append-nil p.moments))).order in
      let here : spent (readings u.events) ++ u.coins ≡ o.coins
      = subst (λ (s : State). spent (readings s.events) ++ s.coins ≡ o.coins) (lines_lead p.lines) order in
      omega (arith, ap length here, length-append (spent (readings u.events)) u.coins)

  pub played_out : (journal : List Event) (e : Result Finish Stop) → how_ended e ≡ r → journal ≡ u.events → Tells u e → PlayedOut o rest journal e
  played_out journal e same is told =
      let leads = lines_lead p.lines in
      let h = lines_history p.lines in
      record {
        moments = p.moments;
        lines = subst (λ (s : State). Lines o 3 rest p.moments s (how_ended e)) (sym leads)
            (subst (λ (x : Result Unit Stop). Lines o 3 rest p.moments u x) (sym same) p.lines);
        history = h;
        promises = always o none p.moments h;
        entries = is ∙ ap (λ (s : State). s.events) (sym leads);
        told = subst (λ (s : State). Tells s e) (sym leads) told;
      }

-- ---- any text

-- a reader over the text, at its start, or a text that is too long for one
module _ {R : Type 0} (t : List ℕ) (Q : R → Type 0) (n : Result R Fault) (a : Result R Stop) where
  pub not_begun : (e : Stop) → Answers (cond (leb (length t) 32768) None (Some BadForm)) Q n → MatchResult n (λ y. a ≡ Ok y) (λ f. a ≡ Err (stop 0 f)) → a ≡ Err e
      → Ran t [] (Err e)
  not_begun e h c is = by n h c
    where
      long : (f : Fault) → cond (leb (length t) 32768) None (Some BadForm) ≡ Some f → (f ≡ BadForm) × (32768 < length t)
      long f d = go (leb (length t) 32768) refl d
        where
          go : (b : Bool) → leb (length t) 32768 ≡ b → cond b None (Some BadForm) ≡ Some f → (f ≡ BadForm) × (32768 < length t)
          go true q d = absurd (let z : ◌≡◌ {A = ℕ} 0 1 = cc in omega arith)
          go false q d = (cc, leb-false (length t) 32768 q)

      by : (n : Result R Fault) → Answers (cond (leb (length t) 32768) None (Some BadForm)) Q n → MatchResult n (λ y. a ≡ Ok y) (λ f. a ≡ Err (stop 0 f)) → Ran t [] (Err e)
      by (Ok y) h c = absurd (let z : ◌≡◌ {A = ℕ} 0 1 = cc in omega arith)
      by (Err f) h c =
          let l = long f h in
          let same : e ≡ stop 0 BadForm = cc l.0 in
          subst (λ (x : Stop). Ran t [] (Err x)) (sym same) (too_long t l.1)

  pub begun : (y : R) → Answers (cond (leb (length t) 32768) None (Some BadForm)) Q n → MatchResult n (λ y. a ≡ Ok y) (λ f. a ≡ Err (stop 0 f)) → a ≡ Ok y
      → Fit t × Q y
  begun y h c is = by n h c
    where
      short : cond (leb (length t) 32768) None (Some BadForm) ≡ None → Fit t
      short d = go (leb (length t) 32768) refl d
        where
          go : (b : Bool) → leb (length t) 32768 ≡ b → cond b None (Some BadForm) ≡ None → Fit t
          go true q d = leb-true (length t) 32768 q
          go false q d = absurd (let z : ◌≡◌ {A = ℕ} 0 1 = cc in omega arith)

      by : (n : Result R Fault) → Answers (cond (leb (length t) 32768) None (Some BadForm)) Q n → MatchResult n (λ y. a ≡ Ok y) (λ f. a ≡ Err (stop 0 f)) → Fit t × Q y
      by (Ok z) h c = let same : z ≡ y = cc in (short h.0, subst Q same h.1)
      by (Err f) h c = absurd (let z : ◌≡◌ {A = ℕ} 0 1 = cc in omega arith)

module _ (t : List ℕ) (fit : Fit t) where
  empty_text : length t ≤ 0 → t ≡ []
  empty_text h = drop_all 0 t h

  some_text : {x : List ℕ} → 0 < length x → x ≢ []
  some_text h e = omega (arith, ap length e)

  pub stops_first : (e : Stop) (to : ℕ) → Opened t 0 (Err e) to → Ran t [] (Err e)
  stops_first e to (inl (h, is)) =
      subst (λ (s : Stop). Ran t [] (Err s)) (sym is) (subst (λ (x : List ℕ). Ran x [] (Err (stop 0 TextEnded))) (sym (empty_text h)) no_opening)
  stops_first e to (inr (inl (h, m, is))) =
      subst (λ (s : Stop). Ran t [] (Err s)) (sym is) (bad_opening t fit (some_text h) (λ o rest b. m.never o rest b.0 b.1))
  stops_first e to (inr (inr (o, after, f, h, why, is))) =
      subst (λ (s : Stop). Ran t [] (Err s)) (sym is) (not_opened t o (drop after t) f fit (h.law, h.is) why)

  module _ (o : Opening) (to : ℕ) (first : Hit opening_text OpeningLaw 10 t 0 o to) (ok : opening_fault o.size o.width ≡ None) where
    pub stops_second : (e : Stop) (to₂ : ℕ) → Supplied t to (Err e) to₂ → Ran t [] (Err e)
    stops_second e to₂ (inl (h, is)) =
        subst (λ (s : Stop). Ran t [] (Err s)) (sym is)
        (no_coins t o fit (first.law, first.is ∙ ap (λ l. opening_text o ++ 10 ∷ l) (drop_all to t h)) ok)
    stops_second e to₂ (inr (h, m, is)) =
        subst (λ (s : Stop). Ran t [] (Err s)) (sym is)
        (bad_coins t o (drop to t) fit (first.law, first.is) ok (some_text (omega (arith, length-drop to t)))
        (λ cs more s. m.never (digits cs) more (digits_law cs s.0) s.1))

-- ---- a session just opened

-- the text is in order up to line 3, and s is the state of the session that its first two lines open
pub record Started (t : List ℕ) (s : State) (at : ℕ) : Type 0 where
  pub fit : Fit t
  pub line : Opening
  pub coins_at : ℕ
  pub first : Hit opening_text OpeningLaw 10 t 0 line coins_at
  pub ok : opening_fault line.size line.width ≡ None
  pub coins : List Bool
  pub second : Hit coins_line CoinsLaw 10 t coins_at (digits coins) at
  pub is : s ≡ opened line coins

pub started : (x a b : Bor (List ℕ)) (at to at₂ : ℕ) (p : Tableau) (q : TextCoins) (s : State) → Fit x.now → a ≡ x → at ≡ 0 → b ≡ a
    → Opened a.now at (Ok p) to → Supplied b.now to (Ok q) at₂ → s ≡ state (sheet_in p) (text_coins q) [] → Started x.now s at₂
started x a b at to at₂ p q s fit same start same₂ (o, h, ok, sheet, size, rows) h₂ is = record {
  fit = fit;
  line = o;
  coins_at = to;
  first = subst (λ (i : ℕ). Hit opening_text OpeningLaw 10 x.now i o to) start
      (subst (λ (y : Bor (List ℕ)). Hit opening_text OpeningLaw 10 y.now at o to) same h);
  ok = ok;
  coins = text_coins q;
  second = subst (λ (y : Bor (List ℕ)). Hit coins_line CoinsLaw 10 y.now to (digits (text_coins q)) at₂) (same₂ ∙ same) h₂;
  is = is ∙ ap (λ (f : Sheet). state f (text_coins q) []) sheet;
}

-- what was played of the reader's text was played of this one
pub played_of : (x y : Bor (List ℕ)) (s : State) (at : ℕ) (r : Result Unit Stop) (u : State) → y ≡ x → Played s 3 (drop at y.now) r u → Played s 3 (drop at x.now) r u
played_of x y s at r u same p = subst (λ (z : Bor (List ℕ)). Played s 3 (drop at z.now) r u) same p

module _ (t : List ℕ) (s : State) (at : ℕ) (S : Started t s at) (r : Result Unit Stop) (u : State) (p : Played s 3 (drop at t) r u) where
  none : s.events ≡ []
  none = ap (λ (x : State). x.events) S.is

  pub coins_kept : length (spent (readings u.events)) + length u.coins ≡ length s.coins
  coins_kept = coins_told s (drop at t) r u none p

  pub ends : (journal : List Event) (e : Result Finish Stop) → how_ended e ≡ r → journal ≡ u.events → Tells u e → Ran t journal e
  ends journal e same is told =
      played t S.line S.coins (drop S.coins_at t) (drop at t) journal e S.fit (S.first.law, S.first.is) S.ok
      (few_digits S.coins S.second.law, S.second.is)
      (subst (λ (o : State). PlayedOut o (drop at t) journal e) S.is (played_out s (drop at t) r u none p journal e same is told))
