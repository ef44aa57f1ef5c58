-- Runs made call by call.
use Rattle.std.proofs.Common.{◌≡◌, ℕ, ◌+◌, ◌<◌, List, [], ◌∷◌, ◌++◌, length, Result, get_or, take, set, sym, refl, ap, ◌∙◌, subst}
use Rattle.std.proofs.lemmas.List.{take_more, take_more_set}
use Rattle.phase.specs.Sheets.{Lawful}
use Rattle.pauli.specs.declared.fault.Fault.{Fault}
use Rattle.runs.specs.declared.answer.Answer.{Answer}
use Rattle.runs.specs.declared.call.Call.{Call}
use Rattle.runs.specs.Promises.{Moment, calls_of, answers_of, reached, History, Played}
use Rattle.runs.specs.States.{State}
use Rattle.runs.specs.Steps.{Step}
use Rattle.runs.proofs.Theorem.{always}

-- these calls were made, from the opening to the state s, with these answers
pub record Reached (opened : State) (calls : List Call) (answers : List (Result Answer Fault)) (s : State) : Type 0 where
  pub moments : List Moment
  pub calls_made : calls_of moments ≡ calls
  pub answers_got : answers_of moments ≡ answers
  pub ends : reached opened moments ≡ s
  pub history : History opened moments

pub reached_none : (opened : State) → Reached opened [] [] opened
reached_none opened = record { moments = []; calls_made = refl; answers_got = refl; ends = refl; history = tt }

-- ---- one more moment

calls_more : (ms : List Moment) (m : Moment) → calls_of (ms ++ (m ∷ [])) ≡ calls_of ms ++ (m.call ∷ [])
calls_more [] m = refl
calls_more (k ∷ ms) m = ap (λ l. k.call ∷ l) (calls_more ms m)

answers_more : (ms : List Moment) (m : Moment) → answers_of (ms ++ (m ∷ [])) ≡ answers_of ms ++ (m.answer ∷ [])
answers_more [] m = refl
answers_more (k ∷ ms) m = ap (λ l. k.answer ∷ l) (answers_more ms m)

reached_last : (s : State) (ms : List Moment) (m : Moment) → reached s (ms ++ (m ∷ [])) ≡ m.after
reached_last s [] m = refl
reached_last s (k ∷ ms) m = reached_last k.after ms m

history_more : (s : State) (ms : List Moment) (m : Moment) → History s ms → Lawful (reached s ms).sheet → Step (reached s ms) m.call m.answer m.after
    → History s (ms ++ (m ∷ []))
history_more s [] m h L D = (L, D, tt)
history_more s (k ∷ ms) m h L D = (h.0, h.1, history_more k.after ms m h.2 L D)

reached_more : (opened : State) (calls : List Call) (answers : List (Result Answer Fault)) (s t : State) (c : Call) (a : Result Answer Fault) → Reached opened calls answers s → Lawful s.sheet → Step s c a t
    → Reached opened (calls ++ (c ∷ [])) (answers ++ (a ∷ [])) t
reached_more opened calls answers s t c a R L D =
    let m : Moment = record { call = c; answer = a; after = t } in
    record {
      moments = R.moments ++ (m ∷ []);
      calls_made = calls_more R.moments m ∙ ap (λ l. l ++ (c ∷ [])) R.calls_made;
      answers_got = answers_more R.moments m ∙ ap (λ l. l ++ (a ∷ [])) R.answers_got;
      ends = reached_last opened R.moments m;
      history = history_more opened R.moments m R.history (subst (λ (x : State). Lawful x.sheet) (sym R.ends) L)
          (subst (λ (x : State). Step x c a t) (sym R.ends) D);
    }

-- the call at the place i of a list, and its answer into that place of another
pub reached_next : (opened : State) (calls : List Call) (answers : List (Result Answer Fault)) (i : ℕ) (s t : State) (c : Call) (a : Result Answer Fault) → i < length calls → i < length answers
    → c ≡ get_or calls i c → Reached opened (take i calls) (take i answers) s → Lawful s.sheet → Step s c a t
    → Reached opened (take (i + 1) calls) (take (i + 1) (set answers i a)) t
reached_next opened calls answers i s t c a h k read R L D =
    let p : take (i + 1) calls ≡ take i calls ++ (c ∷ []) = take_more calls i c h ∙ ap (λ y. take i calls ++ (y ∷ [])) (sym read) in
    let q = take_more_set answers i a k in
    subst (λ l. Reached opened l (take (i + 1) (set answers i a)) t) (sym p)
    (subst (λ l. Reached opened (take i calls ++ (c ∷ [])) l t) (sym q) (reached_more opened (take i calls) (take i answers) s t c a R L D))

pub played : (opened : State) (calls : List Call) (answers : List (Result Answer Fault)) (s : State) → opened.events ≡ [] → Reached opened calls answers s → Played opened calls answers s
played opened calls answers s e R = record {
  moments = R.moments;
  calls_made = R.calls_made;
  answers_got = R.answers_got;
  ends = R.ends;
  history = R.history;
  throughout = always opened e R.moments R.history;
}
