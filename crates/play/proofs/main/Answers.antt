-- The text of the coins has only digits.
use Rattle.std.proofs.Common.{◌≡◌, ℕ, Bool, true, false, ◌≢◌, List, [], ◌∷◌, MatchResult, Ok, Err, Result, refl}
use Rattle.std.specs.Result.{IsOk}
use Rattle.pauli.specs.declared.fault.Fault.{Fault}
use Rattle.pauli.specs.declared.fault.Fault.TheVariants.{BadForm}
use Rattle.coins.specs.Digits.{digits}
use Rattle.play.proofs.main.Goals as goal

taken : {C : Type 0} (P : C → Type 0) (t : List ℕ) (cs : List Bool) (r : Result C Fault) → t ≡ digits cs
    → MatchResult r P (λ e. (e ≡ BadForm) × ((ds : List Bool) → t ≢ digits ds)) → IsOk r
taken P t cs (Ok c) e h = refl
taken P t cs (Err f) e h = absurd (h.1 cs e)

pub unwrap-coins-requires : goal.unwrap-coins-requires
unwrap-coins-requires c = taken _ _ (true ∷ false ∷ true ∷ true ∷ []) c.over.result refl c.over.ensures
