-- A number of three digits has no comma, and a longer one a comma before its last three digits.
use Rattle.std.proofs.Common.{◌≡◌, ℕ, zero, suc, ◌*◌, ◌/◌, ◌^◌, ◌<◌, ◌≤◌, List, ◌∷◌, ◌++◌, decimal, refl, arith}
use native.Mathlib.Nat.{pow-succ'}
use Rattle.std.proofs.lemmas.Bool.{lt-ltb, le-ltb}
use Rattle.decimals.specs.Written.{groups, three_digits}

pub groups_small : (k n : ℕ) → n < 1000 → decimal n ≡ groups k n
unfolding groups
groups_small zero n h = refl
groups_small (suc k) n h = rw (lt-ltb n 1000 h) refl

pub groups_more : (k n : ℕ) (last : List ℕ) → last ≡ three_digits n → 1000 ≤ n → n < 1000 * 1000 ^ k → (j : ℕ) × (n / 1000 < 1000 * 1000 ^ j) × (groups j (n / 1000) ++ (44 ∷ last) ≡ groups k n)
unfolding groups
groups_more zero n last e low high = absurd (omega arith)
groups_more (suc k) n last e low high = (k, omega (arith, pow-succ' 1000 k), rw (le-ltb n 1000 low, e) refl)
