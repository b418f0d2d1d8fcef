-- How a number is fitted into a type.
use Rattle.std.specs.Prelude.{◌≡◌, ℕ, Result}
use Rattle.std.specs.Result.{result_unwrap_or}

-- The number as a value of the type, by the type's own conversion; or the value that stands for the numbers which the type cannot hold.
abbrev pub Fits : {T E : Type 0} → (ℕ → Result T E → Type 0) → ℕ → T → T → Type 0
Fits {T} {E} converts n largest x = (r : Result T E) × converts n r × (x ≡ result_unwrap_or r largest)
