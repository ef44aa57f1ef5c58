-- The events of a journal: each lawful at its place, and the outcomes among them.
use Rattle.std.proofs.Common.{◌≡◌, ℕ, zero, suc, ◌+◌, ◌-◌, ◌<◌, Bool, true, false, cond, leb, List, [], ◌∷◌, ◌++◌, length, get_or, take, set, replicate, ◌⊎◌, inl, inr, ◌≤◌, Some, None, Ok, Err, Option, Result, ok_or, option_map, sym, refl, ap, ◌∙◌, subst, le_of_suc-le-suc, arith, length-set}
use Rattle.std.proofs.lemmas.List.{length-take-le, take_more_set, get_or-set_other, get_or-replicate, get_or_past, length-replicate}
use Rattle.std.proofs.lemmas.Option.{slice_get_within, get_or_from_slice_get}
use Rattle.std.proofs.lemmas.Bool.{and_from, and_parts, le-leb, both_ways, cases_lt}
use Rattle.std.specs.List.{slice_get}
use Rattle.pauli.specs.declared.fault.Fault.{Fault}
use Rattle.pauli.specs.declared.fault.Fault.TheVariants.{BadForm}
use Rattle.pauli.specs.Faults.{Answers}
use Rattle.journal_lines.specs.declared.entry.Entry.{Entry}
use Rattle.journal_lines.specs.declared.event.Event.{Event}
use Rattle.journal.specs.Journals.{kth, answer, Reading}
use Rattle.journal_lines.specs.Lawful.{numbered, sound, lawful, making_fault}
use Rattle.journal.specs.Places.{all_lawful, blank, Kept}

-- as many slots are taken as there are events
pub length_kept : (len : ℕ) (slots es : List Event) → Kept len slots → take len slots ≡ es → len ≡ length es
length_kept len slots es kept is = let o = kept.room in let w = kept.whole in sym (length-take-le len slots (omega arith)) ∙ ap length is

-- an empty journal
pub kept_none : Kept 0 (replicate 512 blank)
kept_none = record { room = omega arith; whole = length-replicate 512 blank; lawful = refl; others = λ i h. blanks i (cases_lt i 512) }
  where
    blanks : (i : ℕ) → (i < 512) ⊎ (512 ≤ i) → get_or (replicate 512 blank) i blank ≡ blank
    blanks i (inl l) = get_or-replicate 512 i blank blank l
    blanks i (inr g) = get_or_past (replicate 512 blank) i blank (omega (arith, length-replicate 512 blank))

-- ---- each lawful at its place

all_push : (k : ℕ) (es : List Event) (e : Event) → all_lawful k es ≡ true → lawful (k + length es) e ≡ true → all_lawful k (es ++ e ∷ []) ≡ true
all_push k [] e a h =
    let z : k + 0 ≡ k = omega arith in
    and_from (lawful k e) true (subst (λ n. lawful n e ≡ true) z h) refl
all_push k (x ∷ xs) e a h =
    let p = and_parts (lawful k x) (all_lawful (suc k) xs) a in
    let z : k + suc (length xs) ≡ suc k + length xs = omega arith in
    and_from (lawful k x) (all_lawful (suc k) (xs ++ e ∷ [])) p.0 (all_push (suc k) xs e p.1 (subst (λ n. lawful n e ≡ true) z h))

all_at : (k : ℕ) (es : List Event) (i : ℕ) (d : Event) → all_lawful k es ≡ true → i < length es → lawful (k + i) (get_or es i d) ≡ true
all_at k [] i d a h = absurd (omega arith)
all_at k (x ∷ xs) zero d a h =
    let z : k ≡ k + 0 = omega arith in
    subst (λ n. lawful n x ≡ true) z (and_parts (lawful k x) (all_lawful (suc k) xs) a).0
all_at k (x ∷ xs) (suc i) d a h =
    let z : suc k + i ≡ k + suc i = omega arith in
    subst (λ n. lawful n (get_or xs i d) ≡ true) z (all_at (suc k) xs i d (and_parts (lawful k x) (all_lawful (suc k) xs) a).1 (le_of_suc-le-suc h))

-- one more event
module _ (len : ℕ) (slots es : List Event) (kept : Kept len slots) (is : take len slots ≡ es) (e : Event) (low : len < 512) where
  pub one_more : take (len + 1) (set slots len e) ≡ es ++ e ∷ []
  one_more = let w = kept.whole in take_more_set slots len e (omega arith) ∙ ap (λ (xs : List Event). xs ++ e ∷ []) is

  pub kept_more : sound (len + 1) e ≡ true → Kept (len + 1) (set slots len e)
  kept_more s =
      let n = length_kept len slots es kept is in
      let z : len + 1 ≡ 1 + length es = omega arith in
      let here : lawful (len + 1) e ≡ true
      = and_from (numbered (len + 1)) (sound (len + 1) e) (and_from (leb 1 (len + 1)) (leb (len + 1) 512) (le-leb 1 (len + 1) (omega arith)) (le-leb (len + 1) 512 (omega arith))) s in
      record {
        room = omega arith;
        whole = length-set slots len e ∙ kept.whole;
        lawful = ap (all_lawful 1) one_more
            ∙ all_push 1 es e (subst (λ (xs : List Event). all_lawful 1 xs ≡ true) is kept.lawful) (subst (λ k. lawful k e ≡ true) z here);
        others = λ i h. get_or-set_other slots len i e blank (λ z. omega arith) ∙ kept.others i (omega arith);
      }

-- ---- the k-th

kth_nth : {X : Type 0} (xs : List X) (k : ℕ) → 0 < k → kth xs k ≡ slice_get xs (k - 1)
kth_nth xs zero h = absurd (omega arith)
kth_nth xs (suc i) h = let e : i ≡ suc i - 1 = omega arith in ap (slice_get xs) e

-- the k-th, where `before` stand before it
pub kth_after : {X : Type 0} (xs : List X) (k before : ℕ) → 0 < k → before ≡ k - 1 → kth xs k ≡ slice_get xs before
kth_after xs k before some is = kth_nth xs k some ∙ ap (slice_get xs) (sym is)

-- an entry that is there is lawful, so it can be made
pub read_entry : (es : List Event) (k before : ℕ) (e : Event) (r : Result Entry Fault) → all_lawful 1 es ≡ true → 0 < k → before ≡ k - 1 → slice_get es before ≡ Some e
    → Answers (making_fault k e) (λ n. (n.number ≡ k) × (n.event ≡ e)) r → Reading es k r
read_entry es k before e r all some is there = go r
  where
    at : kth es k ≡ Some e
    at = kth_after es k before some is ∙ there

    good : lawful k e ≡ true
    good =
        let z : 1 + before ≡ k = omega arith in
        sym (λ i. lawful (z i) (get_or_from_slice_get es before e e there i)) ∙ all_at 1 es before e all (slice_get_within es before e there)

    never : (b : Bool) (f : Fault) → cond b None (Some BadForm) ≡ Some f → b ≡ true → ⊥
    never true f e t = let z : ◌≡◌ {A = ℕ} 0 1 = cc in omega arith
    never false f e t = both_ways false refl t

    go : (r : Result Entry Fault) → Answers (making_fault k e) (λ n. (n.number ≡ k) × (n.event ≡ e)) r → Reading es k r
    go (Ok n) told = (told.1.0, at ∙ ap (λ v. Some v) (sym told.1.1))
    go (Err f) told = absurd (never (lawful k e) f told good)

-- ---- what is answered

pub kth_answer : {X : Type 0} (xs : List X) (k before : ℕ) (f : Fault) (o : Option X) → 0 < k → before ≡ k - 1 → option_map (λ x. x) o ≡ slice_get xs before
    → ok_or o f ≡ answer f (kth xs k)
kth_answer {X} xs k before f o some is there = same o ∙ ap (answer f) (there ∙ sym (kth_after xs k before some is))
  where
    same : (o : Option X) → ok_or o f ≡ answer f (option_map (λ x. x) o)
    same (Some x) = refl
    same None = refl
