-- The k-th reading is the line of the k-th entry, and a part of a page is written as the page.
use Rattle.std.proofs.Common.{◌≡◌, ℕ, zero, suc, ◌+◌, ◌<◌, ◌≤◌, cond, leb, List, [], ◌∷◌, ◌++◌, length, take, drop, Some, None, Ok, Err, Option, Result, sym, refl, ap, ◌∙◌, append_assoc, le_of_suc-le-suc, arith}
use Rattle.std.proofs.lemmas.List.{length-take-le}
use Rattle.std.proofs.lemmas.Bool.Decides.{nat_tests}
use Rattle.std.specs.List.{slice_get}
use Rattle.pauli.specs.declared.fault.Fault.{Fault}
use Rattle.pauli.specs.declared.fault.Fault.TheVariants.{NoEntry, ShortBuffer}
use Rattle.text.specs.Lines.{Filled}
use Rattle.journal_lines.specs.declared.event.Event.{Event}
use Rattle.journal.specs.Journals.{kth}
use Rattle.journal_lines.specs.Lines.{line}
use Rattle.runs.specs.Readings.{lines_from, readings, reading_fault, Read, ReadWithin}

-- the line of an event, if there is one
abbrev line_at : ℕ → Option Event → Option (List ℕ)
line_at k (Some e) = Some (line k e)
line_at k None = None

nth_line : (j : ℕ) (es : List Event) (i : ℕ) → slice_get (lines_from j es) i ≡ line_at (i + j) (slice_get es i)
nth_line j [] i = refl
nth_line j (e ∷ es) zero = ap (λ n. Some (line n e)) (omega arith)
nth_line j (e ∷ es) (suc i) = nth_line (suc j) es i ∙ ap (λ n. line_at n (slice_get es i)) (omega arith)

pub kth_line : (es : List Event) (k : ℕ) → kth (readings es) k ≡ line_at k (kth es k)
kth_line es zero = refl
kth_line es (suc i) = nth_line 1 es i ∙ ap (λ n. line_at n (slice_get es i)) (omega arith)

pub reading_some : (es : List Event) (k : ℕ) (e : Event) → kth es k ≡ Some e → kth (readings es) k ≡ Some (line k e)
reading_some es k e h = kth_line es k ∙ ap (line_at k) h

pub reading_none : (es : List Event) (k : ℕ) → kth es k ≡ None → kth (readings es) k ≡ None
reading_none es k h = kth_line es k ∙ ap (line_at k) h

-- the rest of the first r elements, and what follows these
pub rest_again : (n r : ℕ) (xs : List ℕ) → n ≤ r → drop n (take r xs) ++ drop r xs ≡ drop n xs
rest_again zero zero xs h = refl
rest_again zero (suc r) [] h = refl
rest_again zero (suc r) (x ∷ xs) h = ap (λ l. x ∷ l) (rest_again zero r xs (omega arith))
rest_again (suc n) zero xs h = absurd (go h)
  where
    go : suc n ≤ 0 → ⊥
    go h = omega arith
rest_again (suc n) (suc r) [] h = refl
rest_again (suc n) (suc r) (x ∷ xs) h = rest_again n r xs (le_of_suc-le-suc h)

-- ---- what a session reads

pub read_refused : (es : List Event) (k : ℕ) (e : Fault) (xs : List ℕ) → (e ≡ NoEntry) × (kth es k ≡ None) → Read es k xs xs (Err e)
read_refused es k e xs h = (
  ap (λ (o : Option (List ℕ)). elim o [ Some t ↦ cond (leb (length t) (length xs)) None (Some ShortBuffer) | None ↦ Some NoEntry ]) (reading_none es k h.1) ∙ ap Some (sym h.0),
  refl,
)

pub read_written : (es : List Event) (k : ℕ) (e : Event) (xs ys : List ℕ) (r : Result ℕ Fault) → kth es k ≡ Some e → Filled (line k e) xs ys r → Read es k xs ys r
read_written es k e xs ys (Ok n) h f = (line k e, reading_some es k e h, f)
read_written es k e xs ys (Err x) h f = (
  ap (λ (o : Option (List ℕ)). elim o [ Some t ↦ cond (leb (length t) (length xs)) None (Some ShortBuffer) | None ↦ Some NoEntry ]) (reading_some es k e h)
      ∙ go (length (line k e)) (length xs) f.1 ∙ ap Some (sym f.0),
  f.2,
)
  where
    go : (m n : ℕ) → n < m → cond (leb m n) None (Some ShortBuffer) ≡ Some ShortBuffer
    go m n h = grind (arith, nat_tests)

-- a reading into the part [0, room) of a buffer xs, which holds ys afterwards
pub read_part : (es : List Event) (k room m : ℕ) (xs ys : List ℕ) (r : Result ℕ Fault) → m ≡ room → room ≤ length xs → length ys ≡ length (take m xs) → Read es k (take m xs) ys r
    → ReadWithin es k room xs (ys ++ drop m xs) r
read_part es k room m xs ys (Ok n) e h l (t, is, f) =
    let long = length-take-le m xs (omega arith) in (
      t,
      is,
      f.0,
      omega (arith, f.1),
      ap (λ zs. zs ++ drop m xs) f.2 ∙ append_assoc t (drop n (take m xs)) (drop m xs) ∙ ap (λ zs. t ++ zs) (rest_again n m xs (omega (arith, f.1))),
    )
read_part es k room m xs ys (Err x) e h l f =
    ap (reading_fault es k) (sym (length-take-le m xs (omega arith) ∙ e)) ∙ f.0
