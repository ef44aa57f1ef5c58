-- Lines added one after the other.
use Rattle.std.proofs.Common.{◌≡◌, ℕ, zero, suc, ◌+◌, ◌-◌, ◌<◌, ◌≤◌, true, cond, List, [], ◌∷◌, ◌++◌, length, take, drop, is_ok, IfOk, Some, Ok, Err, Result, sym, refl, ap, ◌∙◌, subst, append_assoc, arith, take_all}
use lib.Seq.{take-append-le}
use Rattle.std.specs.List.{slice_get}
use Rattle.std.proofs.lemmas.List.{append-nil, drop_all}
use Rattle.pauli.specs.declared.fault.Fault.{Fault}
use Rattle.text.specs.Lines.{Filled}
use Rattle.journal_lines.specs.declared.entry.Entry.{Entry}
use Rattle.journal_lines.specs.declared.event.Event.{Event}
use Rattle.journal_lines.specs.Entries.{entry_line}
use Rattle.journal_lines.specs.Lines.{line}
use Rattle.journal_lines.proofs.Lengths.{longest}
use Rattle.journal.specs.Journals.{Reading}
use Rattle.runs.specs.Readings.{lines_from, readings}
use Rattle.circuit_run.specs.Output.{joined}

-- a page of 144 bytes has room for every line
pub page_holds : (e : Entry) (xs ys : List ℕ) (r : Result ℕ Fault) → length xs ≡ 144 → Filled (entry_line e) xs ys r → is_ok r ≡ true
page_holds e xs ys (Ok n) long h = refl
page_holds e xs ys (Err f) long h = absurd (omega (arith, longest.every e, h.1, long))

-- what was filled in is the text
pub filled_part : (text xs ys : List ℕ) (n : ℕ) → Filled text xs ys (Ok n) → take n ys ≡ text
filled_part text xs ys n h =
    ap (take n) h.2 ∙ take-append-le n text (drop n xs) (omega (arith, h.0)) ∙ take_all n text (omega (arith, h.0))

pub page_part : (e : Entry) (xs ys : List ℕ) (r : Result ℕ Fault) (n : ℕ) → r ≡ Ok n → Filled (entry_line e) xs ys r → take (n - 0) ys ≡ entry_line e
page_part e xs ys r n is h =
    let whole : n - 0 ≡ n = omega arith in
    ap (λ k. take k ys) whole ∙ filled_part (entry_line e) xs ys n (subst (λ (x : Result ℕ Fault). Filled (entry_line e) xs ys x) is h)

-- a part is added, or there is no memory for it
pub part_added : {E : Type 0} (r : Result Unit E) (before after part text : List ℕ) → after ≡ cond (is_ok r) (before ++ part) before → part ≡ text → IfOk r (λ _. after ≡ before ++ text)
part_added (Ok done) before after part text h is = h ∙ ap (λ x. before ++ x) is
part_added (Err e) before after part text h is = tt

-- ---- a journal's lines

lines_drop : (k : ℕ) (es : List Event) (i : ℕ) (e : Event) → slice_get es i ≡ Some e → joined (drop i (lines_from k es)) ≡ line (k + i) e ++ joined (drop (suc i) (lines_from k es))
lines_drop k [] i e h = absurd (let z : ◌≡◌ {A = ℕ} 0 1 = cc in omega arith)
lines_drop k (x ∷ es) zero e h =
    let same : x ≡ e = cc in
    let place : k ≡ k + 0 = omega arith in
    ap (λ (y : Event). line k y ++ joined (lines_from (suc k) es)) same ∙ ap (λ j. line j e ++ joined (lines_from (suc k) es)) place
lines_drop k (x ∷ es) (suc i) e h =
    let place : suc k + i ≡ k + suc i = omega arith in
    lines_drop (suc k) es i e h ∙ ap (λ j. line j e ++ joined (drop (suc i) (lines_from (suc k) es))) place

-- the line of entry k added, those after it complete the text
pub line_added : (es : List Event) (k after : ℕ) (e : Entry) (r : Result Entry Fault) (out next whole : List ℕ) → 0 < k → after ≡ k → Reading es k r → r ≡ Ok e
    → out ++ joined (drop (k - 1) (readings es)) ≡ whole → next ≡ out ++ entry_line e → next ++ joined (drop after (readings es)) ≡ whole
line_added es zero after e r out next whole some is read ok h added = absurd (omega arith)
line_added es (suc i) after e r out next whole some is read ok h added =
    let d : Reading es (suc i) (Ok e) = subst (λ (x : Result Entry Fault). Reading es (suc i) x) ok read in
    let before : suc i - 1 ≡ i = omega arith in
    let number : 1 + i ≡ e.number = omega (arith, d.0) in
    let lines : joined (drop (suc i - 1) (readings es)) ≡ entry_line e ++ joined (drop after (readings es))
    = ap (λ j. joined (drop j (readings es))) before ∙ lines_drop 1 es i e.event d.1 ∙ (λ j. line (number j) e.event ++ joined (drop (sym is j) (readings es))) in
    ap (λ x. x ++ joined (drop after (readings es))) added ∙ append_assoc out (entry_line e) (joined (drop after (readings es))) ∙ ap (λ x. out ++ x) (sym lines) ∙ h

length_lines : (k : ℕ) (es : List Event) → length (lines_from k es) ≡ length es
length_lines k [] = refl
length_lines k (e ∷ es) = ap suc (length_lines (suc k) es)

-- after the last line nothing is left
pub all_added : (es : List Event) (i : ℕ) (out whole : List ℕ) → length es ≤ i → out ++ joined (drop i (readings es)) ≡ whole → out ≡ whole
all_added es i out whole h e =
    let past : length (readings es) ≤ i = omega (arith, length_lines 1 es) in
    sym (append-nil out) ∙ ap (λ l. out ++ joined l) (sym (drop_all i (readings es) past)) ∙ e
