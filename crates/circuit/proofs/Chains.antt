-- How the lines of a circuit chain up.
use Rattle.std.proofs.Common.{◌≡◌, ℕ, ◌+◌, ◌<◌, Bool, ◌≢◌, List, [], ◌∷◌, length, drop, IsErrAnd, Some, None, Ok, Err, Option, Result, sym, refl, ap, ◌∙◌, subst, inr, arith, length-append, length-drop, Bor, MatchResult}
use Rattle.std.proofs.lemmas.Result.{err_from_is_err_and}
use Rattle.std.proofs.lemmas.List.{drop_all}
use Rattle.pauli.specs.declared.fault.Fault.{Fault}
use Rattle.pauli.specs.declared.fault.Fault.TheVariants.{BadForm}
use Rattle.pauli.specs.declared.gate.Gate.{Gate}
use Rattle.pauli.specs.declared.gate.OneQubit.{OneQubit}
use Rattle.pauli.specs.declared.label.Label.{Label}
use Rattle.pauli.specs.Labels.{Within, label_text}
use Rattle.phase.specs.Sheets.{Lawful}
use Rattle.runs.specs.declared.answer.Answer.TheVariants as A
use Rattle.runs.specs.declared.answer.Conditional.{Conditional}
use Rattle.runs.specs.declared.call.Call.TheVariants as Ask
use Rattle.runs.specs.Promises.{Moment}
use Rattle.runs.specs.Steps.{GateStep, ConditionalStep, MeasureStep}
use Rattle.runs.specs.States.{State}
use Rattle.text.specs.Reading.{Hit}
use Rattle.circuit_text.specs.declared.line.Line.{Line}
use Rattle.circuit_text.specs.Reading.{NextRead}
use Rattle.circuit_text.specs.Lines.{Said, said, gate, measure, conditional, said_text, SaidLaw, body_of}
use Rattle.text.specs.declared.stop.Stop.{Stop}
use Rattle.circuit.specs.Lines.{LineDone, LineRefused, Performed, Lines, end, next, not_a_line, refused, Played}
use Rattle.text.specs.Stops.{stop}

-- ---- one line

pub gate_performed : (s : State) (g : Gate) (r : Result Unit Fault) (t : State) → GateStep s g r t → Performed s (gate g) r t
gate_performed s g (Ok done) t h = record { call = Ask.Gate g; answer = A.Done; asked = refl; step = h }
gate_performed s g (Err f) t h = (inr (Ask.Gate g, refl, (h.0, refl)), h.1)

module _ (s : State) (b : Label) (sign : Bool) (l : List ℕ) (in_n : Within s.sheet.n b) (text : l ≡ label_text s.sheet.n b) where
  pub measure_done : (o : Bool) (t : State) → MeasureStep s b sign (Ok o) t → LineDone s (measure sign l) t
  measure_done o t h = record { call = Ask.Measure b sign; answer = A.Outcome o; asked = (b, in_n, text, refl); step = h }

  pub measure_refused : (f : Fault) (t : State) → MeasureStep s b sign (Err f) t → LineRefused s (measure sign l) f × (t ≡ s)
  measure_refused f t h = (inr (Ask.Measure b sign, (b, in_n, text, refl), (h.0, refl)), h.1)

module _ (s : State) (k : ℕ) (g : OneQubit) (q : ℕ) where
  pub conditional_done : (c : Conditional) (t : State) → ConditionalStep s k g q (Ok c) t → LineDone s (conditional k g q) t
  conditional_done c t h = record { call = Ask.Conditional k g q; answer = A.Conditional c; asked = refl; step = h }

  pub conditional_refused : (f : Fault) (t : State) → ConditionalStep s k g q (Err f) t → LineRefused s (conditional k g q) f × (t ≡ s)
  conditional_refused f t h = (inr (Ask.Conditional k g q, refl, (h.0, refl)), h.1)

-- the exit of a `?`
pub goes_up : {A : Type 0} {E : Type 0} (P : Result A E → Type 0) (r : Result A E) (f : E) → IsErrAnd r (λ y. y ≡ f) → P (Err f) → P r
goes_up P r f e p = let q = err_from_is_err_and r e in subst P (sym q.1) (subst (λ y. P (Err y)) (sym q.2) p)

pub performed_stops : (s : State) (x : Said) (r : Result Unit Fault) (t : State) (f : Fault) → IsErrAnd r (λ y. y ≡ f) → LineRefused s x f × (t ≡ s) → Performed s x r t
performed_stops s x r t f e h = goes_up (λ r. Performed s x r t) r f e h

-- the same where the line is told by an equation
pub as_said : (s : State) {x y : Said} (r : Result Unit Fault) (t : State) → x ≡ y → Performed s y r t → Performed s x r t
as_said s r t e p = subst (λ x. Performed s x r t) (sym e) p

pub done_said : {s : State} {x y : Said} {t : State} → x ≡ y → LineDone s y t → LineDone s x t
done_said {s} {x} {y} {t} e p = subst (λ x. LineDone s x t) (sym e) p

-- what was told with the line's number
module _ {A : Type 0} (k : ℕ) where
  pub at_ok : (r : Result A Fault) {a : Result A Stop} {o : A} → MatchResult r (λ y. a ≡ Ok y) (λ f. a ≡ Err (stop k f)) → a ≡ Ok o → r ≡ Ok o
  at_ok (Ok y) {a} {o} m is = let same : y ≡ o = cc in ap Ok same
  at_ok (Err f) m is = absurd (let z : ◌≡◌ {A = ℕ} 0 1 = cc in omega arith)

  pub at_err : (r : Result A Fault) {a : Result A Stop} {e : Stop} → MatchResult r (λ y. a ≡ Ok y) (λ f. a ≡ Err (stop k f)) → a ≡ Err e → (f : Fault) × (r ≡ Err f) × (e ≡ stop k f)
  at_err (Ok y) m is = absurd (let z : ◌≡◌ {A = ℕ} 0 1 = cc in omega arith)
  at_err (Err f) m is = (f, refl, cc)

-- ---- the lines in order

-- the lines before a place lead to the state s and line k: whatever the lines from there come to, the text comes to
pub record SoFar (start : State) (text : List ℕ) (s : State) (k : ℕ) (here : List ℕ) : Type 0 where
  pub leads : (t : State) (r : Result Unit Stop) → Played s k here r t → Played start 3 text r t

pub at_start : (start : State) (text : List ℕ) → SoFar start text start 3 text
at_start start text = record { leads = λ t r p. p }

-- a line takes more than two bytes
pub farther : (t : List ℕ) (at to : ℕ) (x : Said) → Hit said_text SaidLaw 10 t at x to → at + 2 < to
farther t at to x h =
    omega (arith, ap length h.is, length-drop at t, length-drop to t, length-append (body_of x) (10 ∷ drop to t), h.within)

-- the next line is looked for
module _ (start : State) (text : List ℕ) (s : State) (k : ℕ) (x : Bor (List ℕ)) (at : ℕ) (so : SoFar start text s k (drop at x.now)) where
  -- nothing more is done
  ends : (r : Result Unit Stop) → Lines s k (drop at x.now) [] s r → Played start 3 text r s
  ends r l = so.leads s r (record { moments = []; lines = l })

  module _ (to : ℕ) (r : Result (Option Line) Fault) (read : NextRead x at r to) (a : Result (Option Line) Stop) (told : MatchResult r (λ y. a ≡ Ok y) (λ f. a ≡ Err (stop k f))) where
    answered : {q : Result (Option Line) Fault} → r ≡ q → NextRead x at q to
    answered e = subst (λ q. NextRead x at q to) e read

    pub all_done : a ≡ Ok None → Played start 3 text (Ok tt) s
    all_done is =
        let h = answered (at_ok k r told is) in
        ends (Ok tt) (subst (λ z. Lines s k z [] s (Ok tt)) (sym (drop_all at x.now h.1)) (end s k))

    pub not_read : (e : Stop) → a ≡ Err e → Played start 3 text (Err e) s
    not_read e is =
        let q = at_err k r told is in
        let h = answered q.1 in
        let stops : e ≡ stop k BadForm = q.2 ∙ ap (stop k) h.2 in
        let some : drop at x.now ≢ [] = λ none. omega (arith, length-drop at x.now, ap length none, h.1) in
        subst (λ d. Played start 3 text (Err d) s) (sym stops)
        (ends (Err (stop k BadForm)) (not_a_line s k (drop at x.now) some (λ y rest l d. h.3.never y rest l d)))

    -- a line was read
    module _ (l : Line) (is : a ≡ Ok (Some l)) where
      pub line_at : Hit said_text SaidLaw 10 x.now at (said l) to
      line_at = (answered (at_ok k r told is)).0

      module _ (u : State) (p : Result Unit Fault) (done : Performed s (said l) p u) (b : Result Unit Stop) (said_so : MatchResult p (λ y. b ≡ Ok y) (λ f. b ≡ Err (stop k f))) where
        pub one_more : (y : Bor (List ℕ)) → y ≡ x → Lawful s.sheet → b ≡ Ok tt → SoFar start text u (k + 1) (drop to y.now)
        one_more y same lawful ok =
            let d : LineDone s (said l) u = subst (λ q. Performed s (said l) q u) (at_ok k p said_so ok) done in
            let first : Moment = record { call = d.call; answer = Ok d.answer; after = u } in
            record {
              leads = λ v r after.
                  let more = subst (λ (z : Bor (List ℕ)). Played u (k + 1) (drop to z.now) r v) same after in
                  so.leads v r (record {
                    moments = first ∷ more.moments;
                    lines = subst (λ z. Lines s k z (first ∷ more.moments) v r) (sym line_at.is)
                        (next s k (said l) (drop to x.now) u more.moments v r lawful line_at.law d more.lines);
                  });
            }

        pub not_done : (e : Stop) → b ≡ Err e → Played start 3 text (Err e) u
        not_done e err =
            let q = at_err k p said_so err in
            let why : LineRefused s (said l) q.0 × (u ≡ s) = subst (λ z. Performed s (said l) z u) q.1 done in
            let lines : Lines s k (drop at x.now) [] s (Err (stop k q.0)) =
            subst (λ z. Lines s k z [] s (Err (stop k q.0))) (sym line_at.is) (refused s k (said l) (drop to x.now) q.0 line_at.law why.0) in
            subst (λ v. Played start 3 text (Err e) v) (sym why.1)
            (subst (λ d. Played start 3 text (Err d) s) (sym q.2) (ends (Err (stop k q.0)) lines))
