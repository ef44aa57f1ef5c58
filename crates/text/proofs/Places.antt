-- One byte of a text at a place, and the exit of a `?` on a field.
use Rattle.std.proofs.Common.{◌≡◌, ℕ, ◌+◌, ◌<◌, List, [], ◌∷◌, length, get_or, drop, IsErrAnd, Err, Result, sym, ap, ◌∙◌, subst, ⊎_elim, arith}
use Rattle.std.proofs.lemmas.List.{drop_more, drop_all, get_or_past}
use Rattle.std.proofs.lemmas.Bool.{cases_lt}
use Rattle.std.proofs.lemmas.Result.{err_from_is_err_and}
use Rattle.pauli.specs.declared.fault.Fault.{Fault}
use Rattle.pauli.specs.declared.fault.Fault.TheVariants.{BadForm}
use Rattle.text.specs.declared.end.End.{End}
use Rattle.text.specs.declared.end.End.TheVariants.{Comma, LineFeed}
use Rattle.text.specs.Ends.{end_byte}
use Rattle.text.specs.Reading.{Reads, Takes, Miss}
use Rattle.text.specs.declared.read.Fields.{Fields}

-- a field's end is no NUL, and below every digit and letter
pub end_some : (e : End) → 0 < end_byte e
end_some Comma = omega arith
end_some LineFeed = omega arith

pub end_low : (e : End) → end_byte e < 48
end_low Comma = omega arith
end_low LineFeed = omega arith

pub cons_not_nil : (b : ℕ) (rest : List ℕ) → [] ≡ b ∷ rest → ⊥
cons_not_nil b rest e = let z : ◌≡◌ {A = ℕ} 0 1 = cc in omega arith

pub peel_lt : (t : List ℕ) (at b : ℕ) (rest : List ℕ) → drop at t ≡ b ∷ rest → at < length t
peel_lt t at b rest e =
    ⊎_elim (λ h. h) (λ h. absurd (cons_not_nil b rest (sym (drop_all at t h) ∙ e))) (cases_lt at (length t))

-- the byte that stands first in what follows a place
pub peel : (t : List ℕ) (at to b : ℕ) (rest : List ℕ) → to ≡ at + 1 → drop at t ≡ b ∷ rest → (get_or t at 0 ≡ b) × (drop to t ≡ rest)
peel t at to b rest p e =
    let m = drop_more t at 0 (peel_lt t at b rest e) in
    let q : drop to t ≡ drop (at + 1) t = ap (λ i. drop i t) p in
    (cc, cc)

pub unpeel : (t : List ℕ) (at to b : ℕ) (rest : List ℕ) → to ≡ at + 1 → at < length t → get_or t at 0 ≡ b → drop to t ≡ rest → drop at t ≡ b ∷ rest
unpeel t at to b rest p h g e =
    let m = drop_more t at 0 h in
    let q : drop to t ≡ drop (at + 1) t = ap (λ i. drop i t) p in
    cc

-- past the end a byte reads as 0
pub present : (t : List ℕ) (at : ℕ) → 0 < get_or t at 0 → at < length t
present t at h = ⊎_elim (λ l. l) (λ l. absurd (omega (arith, get_or_past t at 0 l))) (cases_lt at (length t))

-- the exit of a `?`: the fault goes up as it is
pub goes_up : {A : Type 0} (P : Result A Fault → Type 0) (r : Result A Fault) (f : Fault) → IsErrAnd r (λ y. y ≡ f) → P (Err f) → P r
goes_up P r f e p = let q = err_from_is_err_and r e in subst P (sym q.1) (subst (λ (y : Fault). P (Err y)) (sym q.2) p)

-- the same in a reader of a field, which stayed where it was
pub passed : {A : Type 0} (w : A → List ℕ) (L : A → Type 0) (end : ℕ) (old new : Fields) (r : Result A Fault) (f : Fault) → IsErrAnd r (λ y. y ≡ f) → f ≡ BadForm → new ≡ old → Miss w L end old.text.now old.at → Reads w L end old r new
passed w L end old new r f e is stays never = let p = err_from_is_err_and r e in rw p.1 (p.2 ∙ is, stays, never)

-- the same in a reader of some fields of a line, whose place may be any
pub let_go : {A : Type 0} (w : A → List ℕ) (L : A → Type 0) (end : ℕ) (old new : Fields) (r : Result A Fault) (f : Fault) → IsErrAnd r (λ y. y ≡ f) → f ≡ BadForm → Miss w L end old.text.now old.at → Takes w L end old r new
let_go w L end old new r f e is never = let p = err_from_is_err_and r e in rw p.1 (p.2 ∙ is, never)
