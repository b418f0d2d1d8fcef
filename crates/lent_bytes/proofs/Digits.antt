-- A number that fits has the same bytes by either definition.
use Rattle.std.proofs.Common.{◌≡◌, ℕ, ◌^◌, ◌<◌, ◌∷◌, refl, ap₂, arith}
use Rattle.lent_bytes.specs.Numbers.{be16, be32, be64, be8, big_endian}

pub of_1 : (n : ℕ) → be8 n ≡ big_endian 1 n
unfolding big_endian
of_1 n = ap₂ ◌∷◌ (omega arith) refl

pub of_2 : (n : ℕ) → n < 2 ^ 16 → be16 n ≡ big_endian 2 n
unfolding big_endian
of_2 n h = ap₂ ◌∷◌ (omega arith) (ap₂ ◌∷◌ (omega arith) refl)

pub of_4 : (n : ℕ) → n < 2 ^ 32 → be32 n ≡ big_endian 4 n
unfolding big_endian
of_4 n h = ap₂ ◌∷◌ (omega arith) (ap₂ ◌∷◌ (omega arith) (ap₂ ◌∷◌ (omega arith) (ap₂ ◌∷◌ (omega arith) refl)))

pub of_8 : (n : ℕ) → n < 2 ^ 64 → be64 n ≡ big_endian 8 n
unfolding big_endian
of_8 n h =
    ap₂ ◌∷◌ (omega arith) (ap₂ ◌∷◌ (omega arith) (ap₂ ◌∷◌ (omega arith) (ap₂ ◌∷◌ (omega arith)
    (ap₂ ◌∷◌ (omega arith) (ap₂ ◌∷◌ (omega arith) (ap₂ ◌∷◌ (omega arith) (ap₂ ◌∷◌ (omega arith) refl)))))))
