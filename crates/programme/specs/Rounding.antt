-- Rounding gives the nearest whole number; and it is monotone, so a bound on what is rounded bounds the result.
use Rattle.std.specs.Prelude.{◌≡◌, ℕ, ◌+◌, ◌*◌, ◌/◌, ◌<◌, ◌≤◌}
use Rattle.std.proofs.Common.{◌∙◌, div-mul-le_self, le_trans, mul_comm, mul_assoc, mod-lt, arith}
use Rattle.std.proofs.lemmas.Nat.{div-add-mod', le-div}
use Rattle.programme.specs.Formulas.{Nearest, rounded}

pub rounded_nearest : (a b : ℕ) → 0 < b → Nearest a b (rounded a b)
rounded_nearest a b h =
    let r = rounded a b in
    let whole = div-add-mod' (2 * a + b) (2 * b) in
    let rest = mod-lt (2 * a + b) {m = 2 * b} (omega arith) in
    let same : r * (2 * b) ≡ 2 * (b * r) = mul_comm r (2 * b) ∙ mul_assoc 2 b r in
    (omega (arith, whole, rest, same), omega (arith, whole, rest, same))

pub rounded_mono : (a m b : ℕ) → 0 < b → a ≤ m → rounded a b ≤ rounded m b
rounded_mono a m b h le =
    let whole : (2 * a + b) / (2 * b) * (2 * b) ≤ 2 * a + b = div-mul-le_self (2 * a + b) (2 * b) in
    let more : 2 * a + b ≤ 2 * m + b = omega arith in
    le-div ((2 * a + b) / (2 * b)) (2 * m + b) (2 * b) (omega arith) (le_trans whole more)
