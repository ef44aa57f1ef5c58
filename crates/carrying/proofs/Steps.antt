-- How the lines of a text chain up.
use Rattle.std.proofs.Common.{◌≡◌, ℕ, suc, ◌+◌, ◌<◌, ◌≤◌, Bool, true, cond, ◌&&◌, eqb, leb, ◌≢◌, ◌⊎◌, List, [], ◌∷◌, ◌++◌, length, get_or, drop, IsErrAnd, IfOk, Some, None, Ok, Err, Option, Result, sym, refl, ap, ◌∙◌, subst, ap₂, inl, inr, append_assoc, append-nil, arith, length-append, length-drop, eq-eqb, le-leb, Bor, MatchResult}
use Rattle.std.proofs.lemmas.Bool.{and_from}
use Rattle.std.proofs.lemmas.List.{drop_all}
use Rattle.pauli.specs.declared.fault.Fault.{Fault}
use Rattle.pauli.specs.declared.fault.Fault.TheVariants.{BadForm, TextEnded, BadSize, BadLabel}
use Rattle.pauli.specs.declared.gate.Gate.{Gate}
use Rattle.pauli.specs.declared.row.Row.{Row}
use Rattle.pauli.specs.Gates.{gate_fault, placing_fault}
use Rattle.pauli.specs.Labels.{size_ok, reading_fault}
use Rattle.pauli.specs.Letters.{is_letter, all_letters}
use Rattle.text.proofs.Places.{goes_up}
use Rattle.text.specs.Lines.{Filled}
use Rattle.text.specs.Reading.{Hit}
use Rattle.text.specs.Texts.{sign_text, gate_text, Letters, same, Any}
use Rattle.text.specs.declared.stop.Stop.{Stop}
use Rattle.text.specs.Stops.{stop}
use Rattle.carrying.specs.declared.carry.Carrier.{Carrier}
use Rattle.carrying.specs.Carrying.{first_line, gate_line, NoRow, NoGate, Gates, end, next, not_a_gate, refused, Carried, empty, not_a_row, too_many, row}
use Rattle.carrying.specs.Lines.{WideRow, GateTaken, GateRefused, Opens, Starts, Steps}

-- ---- the first line

module _ (t : List ℕ) (s : Bool) (at : ℕ) (h : Hit sign_text Any 44 t 0 s at) where
  module _ (l : List ℕ) (to : ℕ) (k : Hit same Letters 10 t at l to) where
    sized : length l ≤ 64 → size_ok (length l) ≡ true
    sized w = and_from (leb 1 (length l)) (leb (length l) 64) (le-leb 1 (length l) k.law.some) (le-leb (length l) 64 w)

    -- letters that were read make a label
    all : (cs : List ℕ) → ((i : ℕ) → i < length cs → is_letter (get_or cs i 0) ≡ true) → all_letters cs ≡ true
    all [] each = refl
    all (c ∷ cs) each = ap₂ ◌&&◌ (each 0 (omega arith)) (all cs (λ i j. each (suc i) (omega arith)))

    none_is_some : {A : Type 0} (f : Fault) (o : Option Fault) → o ≡ None → o ≡ Some f → A
    none_is_some f o p q = absurd (let z : ◌≡◌ {A = ℕ} 0 1 = cc in omega arith)

    pub is_label : {A : Type 0} (f : Fault) → length l ≤ 64 → reading_fault (length l) l ≡ Some f → A
    is_label f w e = none_is_some f (reading_fault (length l) l) fine e
      where
        same_length : (n : ℕ) → eqb n n ≡ true
        same_length n = eq-eqb n n refl

        fine : reading_fault (length l) l ≡ None
        fine = ap (λ (b : Bool). cond b (cond (size_ok (length l)) (cond (eqb (length l) (length l)) None (Some BadLabel)) (Some BadSize)) (Some BadForm)) (all l k.law.each)
            ∙ ap (λ (b : Bool). cond b (cond (eqb (length l) (length l)) None (Some BadLabel)) (Some BadSize)) (sized w)
            ∙ ap (λ (b : Bool). cond b None (Some BadLabel)) (same_length (length l))

-- ---- a gate's line

pub placed : (n : ℕ) (g : Gate) → 1 ≤ n → n ≤ 64 → placing_fault n g ≡ gate_fault n g
placed n g l h = ap (λ (b : Bool). cond b (gate_fault n g) (Some BadSize)) (and_from (leb 1 n) (leb n 64) (le-leb 1 n l) (le-leb n 64 h))

pub stops : (old new : Carrier) (a : Result Unit Fault) (f : Fault) → IsErrAnd a (λ y. y ≡ f)
    → ((f ≡ BadForm) × NoGate (drop old.lines.at old.lines.text.now)) ⊎ GateRefused old.size old.lines.text.now old.lines.at f → Steps old a new
stops old new a f e h = goes_up (λ x. Steps old x new) a f e h

-- ---- the lines in order

-- the lines before a place lead to the row there and to line k with the rows so far: whatever the lines from there come to, the text comes to
pub record SoFar (start here : Carrier) (k : ℕ) (rows : List Row) : Type 0 where
  pub leads : (more : List Row) (e : Result Unit Stop) → Gates here.size here.row k (drop here.lines.at here.lines.text.now) more e
      → Gates start.size start.row 2 (drop start.lines.at start.lines.text.now) (rows ++ more) e

pub at_start : (start : Carrier) → SoFar start start 2 []
at_start start = record { leads = λ more e g. g }

pub one_more : (start old new : Carrier) (k : ℕ) (rows rows' : List Row) → Steps old (Ok tt) new → rows' ≡ rows ++ new.row ∷ [] → SoFar start old k rows → SoFar start new (k + 1) rows'
one_more start old new k rows rows' (size, text, d) pushed s = record {
  leads = λ more e g.
      let here : Gates old.size new.row (k + 1) (drop new.lines.at old.lines.text.now) more e
      = subst (λ (n : ℕ). Gates n new.row (k + 1) (drop new.lines.at old.lines.text.now) more e) size
      (subst (λ (x : Bor (List ℕ)). Gates new.size new.row (k + 1) (drop new.lines.at x.now) more e) text g) in
      subst (λ (l : List Row). Gates start.size start.row 2 (drop start.lines.at start.lines.text.now) l e)
      (sym (append_assoc rows (new.row ∷ []) more) ∙ ap (λ (l : List Row). l ++ more) (sym pushed))
      (s.leads (new.row ∷ more) e
      (subst (λ (u : List ℕ). Gates old.size old.row k u (new.row ∷ more) e) (sym d.is)
      (subst (λ (q : Row). Gates old.size old.row k (gate_line d.gate (drop new.lines.at old.lines.text.now)) (q ∷ more) e) (sym d.row)
      (next old.row k d.gate (drop new.lines.at old.lines.text.now) more e d.form d.taken
      (subst (λ (q : Row). Gates old.size q (k + 1) (drop new.lines.at old.lines.text.now) more e) d.row here)))));
}

-- a gate's line is not empty
pub farther : (n : ℕ) (r r' : Row) (t : List ℕ) (at to : ℕ) → GateTaken n r t at to r' → at < length t → at < to
farther n r r' t at to d h =
    omega (arith, ap length d.is, length-drop at t, length-drop to t, length-append (gate_text d.gate) (10 ∷ drop to t), d.inside)

module _ (start here : Carrier) (k : ℕ) (rows : List Row) (s : SoFar start here k rows) where
  abbrev left : List ℕ
  left = drop here.lines.at here.lines.text.now

  ends_with : (e : Result Unit Stop) → Gates here.size here.row k left [] e
      → Gates start.size start.row 2 (drop start.lines.at start.lines.text.now) rows e
  ends_with e g =
      subst (λ (l : List Row). Gates start.size start.row 2 (drop start.lines.at start.lines.text.now) l e) (append-nil rows) (s.leads [] e g)

  pub all_done : length here.lines.text.now ≤ here.lines.at
      → Gates start.size start.row 2 (drop start.lines.at start.lines.text.now) rows (Ok tt)
  all_done h =
      ends_with (Ok tt)
      (subst (λ (u : List ℕ). Gates here.size here.row k u [] (Ok tt)) (sym (drop_all here.lines.at here.lines.text.now h)) (end here.row k))

  pub stopped : (f : Fault) (new : Carrier) → here.lines.at < length here.lines.text.now → Steps here (Err f) new
      → Gates start.size start.row 2 (drop start.lines.at start.lines.text.now) rows (Err (stop k f))
  stopped f new h (inl (form, no_g)) =
      ends_with (Err (stop k f))
      (subst (λ (x : Fault). Gates here.size here.row k left [] (Err (stop k x))) (sym form) (not_a_gate here.row k left some no_g))
    where
      some : left ≢ []
      some e = omega (arith, length-drop here.lines.at here.lines.text.now, ap length e)
  stopped f new h (inr d) =
      ends_with (Err (stop k f))
      (subst (λ (u : List ℕ). Gates here.size here.row k u [] (Err (stop k f))) (sym d.is) (refused here.row k d.gate d.rest f d.form d.refused))

-- ---- the whole text

pub refused_first : (t : List ℕ) (f : Fault) → length t ≤ 32768 → 0 < length t → ((f ≡ BadForm) × NoRow t) ⊎ ((f ≡ BadSize) × WideRow t) → Carried t 0 [] (Err (stop 1 f))
refused_first t f h some (inl (form, none)) =
    subst (λ (x : Fault). Carried t 0 [] (Err (stop 1 x))) (sym form) (not_a_row t h (λ e. omega (arith, ap length e)) none)
refused_first t f h some (inr (form, w)) =
    subst (λ (u : List ℕ). Carried u 0 [] (Err (stop 1 f))) (sym w.is)
    (subst (λ (x : Fault). Carried (first_line w.s w.l w.rest) 0 [] (Err (stop 1 x))) (sym form)
    (too_many w.s w.l w.rest (subst (λ (u : List ℕ). length u ≤ 32768) w.is h) w.letters w.wide))

pub starts : (x : Bor (List ℕ)) (r : Result Carrier Fault) (s : Result Carrier Stop) → length x.now ≤ 32768 → 0 < length x.now → Opens x r
    → MatchResult r (λ c. s ≡ Ok c) (λ f. s ≡ Err (stop 1 f)) → Starts x s
starts x (Ok c) s h some d is = subst (Starts x) (sym is) (h, d.0, d.1)
starts x (Err f) s h some d is = subst (Starts x) (sym is) (refused_first x.now f h some d)

pub carried_on : (x : Bor (List ℕ)) (c : Carrier) (n : ℕ) (rows : List Row) (e : Result Unit Stop) → Starts x (Ok c) → n ≡ c.size
    → Gates c.size c.row 2 (drop c.lines.at c.lines.text.now) rows e → Carried x.now n rows e
carried_on x c n rows e (h, text, d) size g =
    let t = x.now in
    let to = c.lines.at in
    subst (λ (k : ℕ). Carried t k rows e) (sym size)
    (subst (λ (u : List ℕ). Carried u c.size rows e) (sym d.is)
    (row c.size c.row (drop to t) rows e (subst (λ (u : List ℕ). length u ≤ 32768) d.is h) d.size d.within
    (subst (λ (y : Bor (List ℕ)). Gates c.size c.row 2 (drop to y.now) rows e) text g)))

pub refused_whole : (t : List ℕ) → length t ≡ 0 → Carried t 0 [] (Err (stop 0 TextEnded))
refused_whole [] h = empty
refused_whole (x ∷ xs) h = absurd (omega arith)

-- a line that was written lies within the buffer
pub inside : (line xs ys : List ℕ) (r : Result ℕ Fault) → Filled line xs ys r → IfOk r (λ n. n ≤ length ys)
inside line xs ys (Ok n) h = h.1
inside line xs ys (Err f) h = tt
