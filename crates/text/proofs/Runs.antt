-- Texts of letters and of coins, byte by byte, and the fields that they are.
use Rattle.std.proofs.Common.{◌≡◌, ℕ, zero, suc, ◌+◌, ◌<◌, Bool, true, false, not, List, [], ◌∷◌, ◌++◌, length, get_or, drop, Ok, Err, Some, None, Option, Result, sym, refl, ap, ◌∙◌, arith, length-append}
use Rattle.std.specs.Borrow.{Bor}
use Rattle.std.specs.List.{position, position_or_len}
use Rattle.std.proofs.lemmas.List.{get_or_at, get_or_append_left}
use Rattle.std.proofs.lemmas.List.Sums.{position_or_len_is}
use Rattle.std.proofs.lemmas.List.Quantifiers.{position-Some}
use Rattle.std.proofs.lemmas.Grind.{common_steps}
use Rattle.std.proofs.lemmas.Bool.{and_from, and_parts}
use Rattle.std.proofs.lemmas.Bool.Decides.{nat_tests}
use Rattle.pauli.specs.Letters.{is_letter, all_letters}
use Rattle.pauli.specs.declared.fault.Fault.{Fault}
use Rattle.text.specs.declared.end.End.{End}
use Rattle.text.specs.Ends.{end_byte}
use Rattle.text.specs.Reading.{Hit, Miss, Shows, Stands}
use Rattle.text.proofs.Places.{end_low}
use Rattle.text.specs.declared.read.Fields.{Fields}
use Rattle.text.specs.Texts.{Letter, is_coin, same, Long, Letters, some_first}

-- what ends a field is neither a letter nor a coin
pub no_letter : (b : ℕ) → b < 48 → is_letter b ≡ false
no_letter b h = grind (arith, nat_tests)

pub no_coin : (b : ℕ) → b < 48 → is_coin b ≡ false
no_coin b h = grind (arith, nat_tests)

-- letters one by one are a text of letters
pub all_each : (l : List ℕ) → ((i : ℕ) → i < length l → Letter (get_or l i 0)) → all_letters l ≡ true
all_each [] h = refl
all_each (b ∷ bs) h = and_from (is_letter b) (all_letters bs) (h 0 (omega arith)) (all_each bs (λ i k. h (suc i) (omega arith)))

pub each_all : (l : List ℕ) → all_letters l ≡ true → (i : ℕ) → i < length l → Letter (get_or l i 0)
each_all [] e i h = absurd (omega arith)
each_all (b ∷ bs) e zero h = (and_parts (is_letter b) (all_letters bs) e).0
each_all (b ∷ bs) e (suc i) h = each_all bs (and_parts (is_letter b) (all_letters bs) e).1 i (omega arith)

-- a field of bytes that pass a test, where its end does not
module _ (p : ℕ → Bool) (L : List ℕ → Type 0) (each : (l : List ℕ) → L l → (i : ℕ) → i < length l → p (get_or l i 0) ≡ true) (end : ℕ) (out : p end ≡ false) where
  abbrev fails : ℕ → Bool
  fails b = not (p b)

  passes : (b : ℕ) → fails b ≡ false → p b ≡ true
  passes b h = grind arith

  -- it ends at the first byte that fails
  ends : (t rest : List ℕ) (at : ℕ) (o : Option ℕ) → rest ≡ drop at t → o ≡ position fails rest → (l more : List ℕ) → L l → drop at t ≡ l ++ end ∷ more → o ≡ Some (length l)
  ends t rest at o here found l more law e =
      let whole : position_or_len fails (l ++ end ∷ more) ≡ length l =
      position_or_len_is fails (l ++ end ∷ more) (length l) 0 (omega (arith, length-append l (end ∷ more)))
      (λ i h. ap fails (get_or_append_left l (end ∷ more) 0 i h) ∙ ap not (each l law i h))
      (λ h. ap fails (get_or_at l end more 0 (length l) refl) ∙ ap not out) in
      let long : length (l ++ end ∷ more) ≡ length l + (length more + 1) = omega (arith, length-append l (end ∷ more)) in
      let seen : position fails (l ++ end ∷ more) ≡ Some (length l) = grind (arith, common_steps) in
      found ∙ ap (position fails) (here ∙ e) ∙ seen

  -- so where none fails, no such field stands, nor one of some bytes where the first fails
  pub run_none : (t rest : List ℕ) (at : ℕ) → rest ≡ drop at t → None ≡ position fails rest → Miss same L end t at
  run_none t rest at here found = record { never = λ l more law e. let both : ◌≡◌ {A = Option ℕ} None (Some (length l)) = ends t rest at None here found l more law e in absurd (cc) }

  pub run_some : (t rest : List ℕ) (at : ℕ) → rest ≡ drop at t → Some 0 ≡ position fails rest → ((l : List ℕ) → L l → 0 < length l) → Miss same L end t at
  run_some t rest at here found some = record {
    never = λ l more law e.
        let both : ◌≡◌ {A = Option ℕ} (Some 0) (Some (length l)) = ends t rest at (Some 0) here found l more law e in
        let empty : 0 ≡ length l = cc in
        omega (arith, some l law);
  }

  -- and a reader of the bytes before it is one of such fields
  pub run_shows : (old new : Fields) (r : Result (Bor (List ℕ)) Fault) (rest : List ℕ) (count : ℕ) → rest ≡ drop old.at old.text.now → Some count ≡ position fails rest
      → ((l : List ℕ) → length l ≡ count → ((i : ℕ) → i < length l → p (get_or l i 0) ≡ true) → L l)
      → Shows same (Long count) end old r new → Shows same L end old r new
  run_shows old new r rest count here found law = go r
    where
      long : (l more : List ℕ) → L l → drop old.at old.text.now ≡ l ++ end ∷ more → length l ≡ count
      long l more k e = let both : Some count ≡ Some (length l) = ends old.text.now rest old.at (Some count) here found l more k e in cc

      go : (r : Result (Bor (List ℕ)) Fault) → Shows same (Long count) end old r new → Shows same L end old r new
      go (Ok l) h =
          let t = old.text.now in
          let at = old.at in
          let hit = h.1 in
          let before = (position-Some fails rest count 0 (sym found)).2 in
          let good = law l.now hit.law (λ i k.
          ap p (sym (get_or_append_left l.now (end ∷ drop new.at t) 0 i k) ∙ ap (λ x. get_or x i 0) (sym hit.is ∙ sym here))
          ∙ passes (get_or rest i 0) (before i (omega (arith, hit.law)))) in
          let made : Hit same L end t at l.now new.at = record { law = good; within = hit.within; is = hit.is; only = λ m more k e. hit.only m more (long m more k e) e } in
          (h.0, made, h.2, h.3)
      go (Err f) h = (h.0, h.1, record { never = λ m more k e. h.2.never m more (long m more k e) e })

-- one or more letters, and the end after them
module _ (end : End) (old : Fields) (rest : Bor (List ℕ)) (stands : Stands old rest) where
  out : is_letter (end_byte end) ≡ false
  out = no_letter (end_byte end) (end_low end)

  pub letters_none : None ≡ some_first (position (λ b. not (is_letter b)) rest.now) → Miss same Letters (end_byte end) old.text.now old.at
  letters_none none = go (position (λ b. not (is_letter b)) rest.now) refl none
    where
      go : (o : Option ℕ) → o ≡ position (λ b. not (is_letter b)) rest.now → None ≡ some_first o → Miss same Letters (end_byte end) old.text.now old.at
      go None found e = run_none is_letter Letters (λ l law. law.each) (end_byte end) out old.text.now rest.now old.at stands.is found
      go (Some zero) found e = run_some is_letter Letters (λ l law. law.each) (end_byte end) out old.text.now rest.now old.at stands.is found (λ l law. law.some)
      go (Some (suc n)) found e = absurd (cc)

  some_is : (count n : ℕ) → Some count ≡ Some (suc n) → count ≡ suc n
  some_is count n e = cc

  pub letters_shown : (new : Fields) (r : Result (Bor (List ℕ)) Fault) (count : ℕ) → Some count ≡ some_first (position (λ b. not (is_letter b)) rest.now)
      → Shows same (Long count) (end_byte end) old r new → Shows same Letters (end_byte end) old r new
  letters_shown new r count some h = go (position (λ b. not (is_letter b)) rest.now) refl some
    where
      go : (o : Option ℕ) → o ≡ position (λ b. not (is_letter b)) rest.now → Some count ≡ some_first o → Shows same Letters (end_byte end) old r new
      go None found e = absurd (cc)
      go (Some zero) found e = absurd (cc)
      go (Some (suc n)) found e =
          run_shows is_letter Letters (λ l law. law.each) (end_byte end) out old new r rest.now count stands.is (e ∙ found) (λ l k each. record { some = omega (arith, k, some_is count n e); each = each }) h
