-- Which texts are decimal numbers, and which number each of them writes, in units of the last place.
use Rattle.std.specs.Prelude.{◌≡◌, ℕ, ◌+◌, ◌-◌, ◌*◌, ◌^◌, ◌<◌, ◌≤◌, ◌⊎◌, List, [], ◌∷◌, ◌++◌, length, fold, slice_index}
use Rattle.decimals.specs.declared.kinds.Places.{Places}
use Rattle.decimals.specs.declared.kinds.Places.TheVariants.{Zero, Two, Three}
use Rattle.decimals.specs.declared.kinds.Misread.{Misread}
use Rattle.decimals.specs.declared.kinds.Misread.TheVariants.{Empty, NotANumber, TooManyDigits, TooManyDecimals}

-- How many digits may follow the point. Numbers are counted in units of the last of them.
abbrev pub places_of : Places → ℕ
places_of Zero = 0
places_of Two = 2
places_of Three = 3

-- Every byte is one of 0 to 9.
abbrev pub Digits : List ℕ → Type 0
Digits bs = (i : ℕ) → i < length bs → (48 ≤ slice_index bs i) × (slice_index bs i ≤ 57)

-- The number that digits write: each further digit makes it ten times as much and adds itself.
abbrev pub value : List ℕ → ℕ
value digits = fold (λ n b. 10 * n + (b - 48)) 0 digits

-- One digit or more, and nothing else.
abbrev pub Numeral : List ℕ → Type 0
Numeral bs = (0 < length bs) × Digits bs

-- A decimal number is a numeral, or a numeral, a point and a numeral; the second is empty where there is no point.
abbrev pub Decimal : List ℕ → List ℕ → List ℕ → Type 0
Decimal text whole part =
    Numeral whole × (((text ≡ whole) × (part ≡ [])) ⊎ ((text ≡ whole ++ (46 ∷ part)) × Numeral part))

-- The text writes n units: it is a decimal number of at most 15 digits, with no more digits after the point than there are places.
pub record Spells (places : ℕ) (text : List ℕ) (n : ℕ) : Type 0 where
  pub whole : List ℕ
  pub part : List ℕ
  pub reads : Decimal text whole part
  pub digits : length whole + length part ≤ 15
  pub decimals : length part ≤ places
  pub is : n ≡ value whole * 10 ^ places + value part * 10 ^ (places - length part)

-- What each refusal says of the text.
abbrev pub Refused : ℕ → List ℕ → Misread → Type 0
Refused places text Empty = text ≡ []
Refused places text NotANumber = (0 < length text) × ((whole part : List ℕ) → Decimal text whole part → ⊥)
Refused places text TooManyDigits =
    (whole : List ℕ) × (part : List ℕ) × Decimal text whole part × (15 < length whole + length part)
Refused places text TooManyDecimals =
    (whole : List ℕ) × (part : List ℕ) × Decimal text whole part × (length whole + length part ≤ 15) × (places < length part)
