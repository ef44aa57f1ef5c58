-- The promises along any history.
use Rattle.std.proofs.Common.{◌≡◌, ℕ, ◌+◌, ◌≤◌, Bool, List, [], ◌∷◌, ◌++◌, length, Some, None, Ok, Option, sym, refl, ap, ◌∙◌, subst, arith}
use Rattle.pauli.specs.declared.case.Case.{Case}
use Rattle.pauli.specs.declared.case.Case.TheVariants.{One, Two, Three, Four}
use Rattle.pauli.specs.declared.label.Label.{Label}
use Rattle.pauli.specs.declared.row.Row.{Row}
use Rattle.pauli.specs.Bits.{xorb}
use Rattle.pauli.specs.Rows.{product}
use Rattle.phase.proofs.Unique.{one_case}
use Rattle.runs.specs.declared.answer.Answer.TheVariants.{Outcome}
use Rattle.runs.specs.declared.call.Call.TheVariants.{Measure}
use Rattle.runs.specs.Promises.{Moment, told, reached, History, CaseOf, CasesOf, twos, fours, Holds, Throughout}
use Rattle.runs.specs.Readings.{readings}
use Rattle.runs.specs.Spent.{spent}
use Rattle.runs.specs.Standing.{Among, TrueTo, outcome_row, stand_since, stand_after}
use Rattle.runs.specs.States.{State}
use Rattle.runs.proofs.Next.{Next, next, paid}
use Rattle.runs.proofs.Rows.{stood_none}

-- what holds from a state in which some rows stand
record Along (s : State) (rows : List Row) (ms : List Moment) : Type 0 where
  told_all : (earlier later : List Moment) (b : Label) (sign outcome : Bool) (after : State)
      → ms ≡ earlier ++ (record { call = Measure b sign; answer = Ok (Outcome outcome); after = after } ∷ later)
      → (ps : List Row) → Among ps (stand_since rows (told earlier)) → (product ps).label ≡ b → outcome ≡ xorb (product ps).sign sign
  cases : List Case
  these : CasesOf s ms cases
  narrower : (reached s ms).sheet.width ≤ s.sheet.width
  spends : paid (reached s ms) + (reached s ms).sheet.width ≡ twos cases + fours cases + (paid s + s.sheet.width)
  order : spent (readings (reached s ms).events) ++ (reached s ms).coins ≡ spent (readings s.events) ++ s.coins

twos_append : (cs ds : List Case) → twos (cs ++ ds) ≡ twos cs + twos ds
twos_append [] ds = omega arith
twos_append (One ∷ cs) ds = twos_append cs ds
twos_append (Two ∷ cs) ds = let e = twos_append cs ds in omega arith
twos_append (Three ∷ cs) ds = twos_append cs ds
twos_append (Four ∷ cs) ds = twos_append cs ds

fours_append : (cs ds : List Case) → fours (cs ++ ds) ≡ fours cs + fours ds
fours_append [] ds = omega arith
fours_append (One ∷ cs) ds = fours_append cs ds
fours_append (Two ∷ cs) ds = fours_append cs ds
fours_append (Three ∷ cs) ds = fours_append cs ds
fours_append (Four ∷ cs) ds = let e = fours_append cs ds in omega arith

not_nil : {X : Type 0} (xs : List Moment) (m : Moment) (ys : List Moment) → [] ≡ xs ++ (m ∷ ys) → X
not_nil [] m ys e = absurd (go e)
  where
    go : [] ≡ m ∷ ys → ⊥
    go e = let z : ◌≡◌ {A = ℕ} 0 1 = cc in omega arith
not_nil (x ∷ xs) m ys e = absurd (go e)
  where
    go : [] ≡ x ∷ (xs ++ (m ∷ ys)) → ⊥
    go e = let z : ◌≡◌ {A = ℕ} 0 1 = cc in omega arith

along : (s : State) (rows : List Row) (ms : List Moment) → History s ms → TrueTo s.sheet rows → Along s rows ms
along s rows [] h S = record {
  told_all = λ earlier later b sign outcome after e. not_nil earlier _ later e;
  cases = [];
  these = refl;
  narrower = omega arith;
  spends = omega arith;
  order = refl;
}
along s rows (m ∷ ms) h S =
    let N = next s m.after m.call m.answer rows h.0 h.1 S in
    let A = along m.after (stand_after m.call m.answer rows) ms h.2 N.stood in
    let p = twos_append N.cases A.cases in
    let q = fours_append N.cases A.cases in
    let x = N.spends in
    let y = A.spends in
    let v = N.narrower in
    let w = A.narrower in
    record {
      told_all = split N A;
      cases = N.cases ++ A.cases;
      these = (N.cases, A.cases, N.these, A.these, refl);
      narrower = omega arith;
      spends = omega arith;
      order = A.order ∙ N.order;
    }
  where
    split : Next s m.call m.answer rows m.after → Along m.after (stand_after m.call m.answer rows) ms
        → (earlier later : List Moment) (b : Label) (sign outcome : Bool) (after : State)
        → m ∷ ms ≡ earlier ++ (record { call = Measure b sign; answer = Ok (Outcome outcome); after = after } ∷ later)
        → (ps : List Row) → Among ps (stand_since rows (told earlier)) → (product ps).label ≡ b → outcome ≡ xorb (product ps).sign sign
    split N A [] later b sign outcome after e ps among is =
        let f : m ≡ record { call = Measure b sign; answer = Ok (Outcome outcome); after = after } = cc in
        N.told b sign outcome (ap (λ (k : Moment). k.call) f) (ap (λ (k : Moment). k.answer) f) ps among is
    split N A (k ∷ earlier) later b sign outcome after e ps among is =
        let f : k ≡ m = cc in
        let rest : ms ≡ earlier ++ (record { call = Measure b sign; answer = Ok (Outcome outcome); after = after } ∷ later) = cc in
        A.told_all earlier later b sign outcome after rest ps
        (subst (λ (j : Moment). Among ps (stand_since (stand_after j.call j.answer rows) (told earlier))) f among) is

earlier_history : (s : State) (earlier later : List Moment) → History s (earlier ++ later) → History s earlier
earlier_history s [] later h = tt
earlier_history s (m ∷ earlier) later h = (h.0, h.1, earlier_history m.after earlier later h.2)

holds : (opened : State) → opened.events ≡ [] → (ms : List Moment) → History opened ms → Holds opened ms
holds opened e ms h =
    let A = along opened [] ms h (stood_none opened.sheet) in
    let none : spent (readings opened.events) ≡ [] = ap (λ l. spent (readings l)) e in
    let zero : paid opened ≡ 0 = ap length none in
    let x = A.spends in
    let w = A.narrower in
    record {
      outcomes = A.told_all;
      count = record { cases = A.cases; these = A.these; narrower = A.narrower; spends = omega arith };
      order = A.order ∙ ap (λ l. l ++ opened.coins) none;
    }

pub always : (opened : State) → opened.events ≡ [] → (ms : List Moment) → History opened ms → Throughout opened ms
always opened e ms h earlier later p = holds opened e earlier (earlier_history opened earlier later (subst (λ (l : List Moment). History opened l) p h))

-- ---- the cases counted are told by the states

one_case_of : (s : State) (o : Option Row) (cs ds : List Case) → CaseOf s o cs → CaseOf s o ds → cs ≡ ds
one_case_of s (Some r) cs ds p q = p.2 ∙ ap (λ c. c ∷ []) (one_case s.sheet.value r.label p.0 q.0 p.1 q.1) ∙ sym q.2
one_case_of s None cs ds p q = p ∙ sym q

pub one_cases : (s : State) (ms : List Moment) (cs ds : List Case) → CasesOf s ms cs → CasesOf s ms ds → cs ≡ ds
one_cases s [] cs ds p q = p ∙ sym q
one_cases s (m ∷ ms) cs ds p q =
    p.4
    ∙ ap (λ l. l ++ p.1) (one_case_of s (outcome_row m.call m.answer) p.0 q.0 p.2 q.2)
    ∙ ap (λ l. q.0 ++ l) (one_cases m.after ms p.1 q.1 p.3 q.3)
    ∙ sym q.4
