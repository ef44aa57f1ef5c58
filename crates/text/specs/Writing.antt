-- What a writer of a piece does to a buffer.
use Rattle.std.specs.Prelude.{◌≡◌, ℕ, ◌+◌, ◌≤◌, List, ◌++◌, length, take, drop}
use Rattle.text.specs.declared.write.Writer.{Writer}

-- xs becomes ys: the piece stands from the place `at` on, `to` is the place after it, and the rest stays
pub record Wrote (xs : List ℕ) (at : ℕ) (piece ys : List ℕ) (to : ℕ) : Type 0 where
  pub place : to ≡ at + length piece
  pub text : take to ys ≡ take at xs ++ piece
  pub rest : drop to ys ≡ drop to xs

-- a writer's buffer has room for so many bytes more
abbrev pub Room : Writer → ℕ → Type 0
Room w count = w.at + count ≤ length w.out.now

-- a writer puts a piece into its buffer
pub record Writes (before : Writer) (piece : List ℕ) (after : Writer) : Type 0 where
  pub same : after.out.ghost_name ≡ before.out.ghost_name
  pub long : length after.out.now ≡ length before.out.now
  pub wrote : Wrote before.out.now before.at piece after.out.now after.at
