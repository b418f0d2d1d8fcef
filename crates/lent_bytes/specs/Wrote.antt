-- What it means to write bytes into a buffer from a place on.
use Rattle.std.specs.Prelude.{◌≡◌, ℕ, ◌+◌, ◌≤◌, List, ◌++◌, length, take, drop}

-- Bytes written over a buffer from a place on: what stands before and after them stays.
abbrev pub spliced : List ℕ → ℕ → List ℕ → List ℕ
spliced buffer at bytes = take at buffer ++ (bytes ++ drop (at + length bytes) buffer)

-- A buffer became another by writing bytes at a place; `end` is the place after them.
pub record Wrote (before : List ℕ) (at : ℕ) (bytes after : List ℕ) (end : ℕ) : Type 0 where
  pub holds : after ≡ spliced before at bytes
  pub ends : end ≡ at + length bytes
  pub room : end ≤ length before
