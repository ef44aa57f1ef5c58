-- What a reader of a field answers. w is the text of a value, L says which values the field takes, and `end` is the byte that ends it.
use Rattle.std.specs.Prelude.{◌≡◌, ℕ, ◌+◌, ◌<◌, ◌≤◌, List, ◌∷◌, ◌++◌, length, drop, Ok, Err, Result, ◌≢◌}
use Rattle.std.specs.Borrow.{Bor}
use Rattle.pauli.specs.declared.fault.Fault.{Fault}
use Rattle.pauli.specs.declared.fault.Fault.TheVariants.{BadForm}
use Rattle.text.specs.declared.read.Fields.{Fields}

-- the field at a place of t is a's: its text stands there, then the byte that ends it, and `to` is the place after that; and it is no other's
pub record Hit {A : Type 0} (w : A → List ℕ) (L : A → Type 0) (end : ℕ) (t : List ℕ) (at : ℕ) (a : A) (to : ℕ) : Type 0 where
  pub law : L a
  pub within : to ≤ length t
  pub is : drop at t ≡ w a ++ end ∷ drop to t
  pub only : (b : A) (rest : List ℕ) → L b → drop at t ≡ w b ++ end ∷ rest → (b ≡ a) × (rest ≡ drop to t)

-- the field at that place is nobody's
pub record Miss {A : Type 0} (w : A → List ℕ) (L : A → Type 0) (end : ℕ) (t : List ℕ) (at : ℕ) : Type 0 where
  pub never : (b : A) (rest : List ℕ) → L b → drop at t ≢ w b ++ end ∷ rest

-- a reader answers the value whose field stands at its place and moves to the place after, or refuses where it is nobody's and stays
abbrev pub Reads : {A : Type 0} (w : A → List ℕ) (L : A → Type 0) (end : ℕ) (old : Fields) → Result A Fault → (new : Fields) → Type 0
Reads w L end old (Ok a) new = (new.text ≡ old.text) × Hit w L end old.text.now old.at a new.at
Reads w L end old (Err f) new = (f ≡ BadForm) × (new ≡ old) × Miss w L end old.text.now old.at

-- the same for a reader of some fields of a line, whose place may be any where it refuses
abbrev pub Takes : {A : Type 0} (w : A → List ℕ) (L : A → Type 0) (end : ℕ) (old : Fields) → Result A Fault → (new : Fields) → Type 0
Takes w L end old (Ok a) new = (new.text ≡ old.text) × Hit w L end old.text.now old.at a new.at
Takes w L end old (Err f) new = (f ≡ BadForm) × Miss w L end old.text.now old.at

-- as Reads, where the value is a part of the text itself: it lies in the text's memory, at that place
abbrev pub Shows : (w : List ℕ → List ℕ) (L : List ℕ → Type 0) (end : ℕ) (old : Fields) → Result (Bor (List ℕ)) Fault → (new : Fields) → Type 0
Shows w L end old (Ok l) new =
    (new.text ≡ old.text) × Hit w L end old.text.now old.at l.now new.at × (l.ref_ptr.0 ≡ old.text.ref_ptr.0) × (l.ref_ptr.1 ≡ old.at + old.text.ref_ptr.1)
Shows w L end old (Err f) new = (f ≡ BadForm) × (new ≡ old) × Miss w L end old.text.now old.at

-- the part of the text from a reader's place on
pub record Stands (fields : Fields) (rest : Bor (List ℕ)) : Type 0 where
  pub is : rest.now ≡ drop fields.at fields.text.now
  pub base : 0 < length rest.now → rest.ref_ptr.0 ≡ fields.text.ref_ptr.0
  pub place : 0 < length rest.now → rest.ref_ptr.1 ≡ fields.at + fields.text.ref_ptr.1
