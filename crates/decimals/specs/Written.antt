-- How numbers are written for people: with a point before the last places, or with a comma before each three digits.
use Rattle.std.specs.Prelude.{ℕ, zero, suc, ◌/◌, ◌%◌, cond, List, ◌∷◌, ◌++◌, decimal, nat_lt}
use Rattle.decimals.specs.declared.kinds.Places.{Places}
use Rattle.decimals.specs.declared.kinds.Places.TheVariants.{Zero, Two, Three}

-- The last two digits, and the last three, with their leading zeros.
abbrev pub two_digits : ℕ → List ℕ
two_digits n = decimal (n / 10 % 10) ++ decimal (n % 10)

abbrev pub three_digits : ℕ → List ℕ
three_digits n = decimal (n / 100 % 10) ++ two_digits n

-- The number in units of its last place, with a point before its places.
abbrev pub with_decimals : Places → ℕ → List ℕ
with_decimals Zero n = decimal n
with_decimals Two n = decimal (n / 100) ++ (46 ∷ two_digits n)
with_decimals Three n = decimal (n / 1000) ++ (46 ∷ three_digits n)

-- A number with a comma before each of its last k groups of three digits, as far as it has them.
unfoldable pub groups : ℕ → ℕ → List ℕ
groups zero n = decimal n
groups (suc k) n = cond (nat_lt n 1000) (decimal n) (groups k (n / 1000) ++ (44 ∷ three_digits n))

-- A number of 64 bits has at most six such groups.
abbrev pub grouped : ℕ → List ℕ
grouped n = groups 6 n
