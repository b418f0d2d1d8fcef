-- Dates, months and times of day as ASCII text, and what it is to read one.
use Rattle.std.specs.Prelude.{◌≡◌, ℕ, ◌+◌, ◌*◌, ◌/◌, ◌%◌, ◌≤◌, List, [], ◌∷◌, ◌++◌, Some, Option}
use Rattle.calendar.specs.Months.{year_of, calendar_month, month_of, day_of_month}

-- A number to 99 in two digits; 48 is the byte of the digit 0.
abbrev pub two_digits : ℕ → List ℕ
two_digits n = (48 + n / 10) ∷ (48 + n % 10) ∷ []

-- A number to 9999 in four digits.
abbrev pub four_digits : ℕ → List ℕ
four_digits n = two_digits (n / 100) ++ two_digits (n % 100)

-- A month as 2026-02; 45 is the byte of the dash.
abbrev pub month_text : ℕ → List ℕ
month_text m = four_digits (year_of m) ++ 45 ∷ two_digits (calendar_month m)

-- A day as 2026-02-05.
abbrev pub date_text : ℕ → List ℕ
date_text d = month_text (month_of d) ++ 45 ∷ two_digits (day_of_month d)

-- The beginning of a quarter of an hour as 16:45; 58 is the byte of the colon.
abbrev pub time_text : ℕ → List ℕ
time_text q = two_digits (q / 4) ++ 58 ∷ two_digits (q % 4 * 15)

-- What a reader answers for a text, where `write` gives the text of each number to `most`:
-- the number that has this text, if there is one, and nothing for any other text.
pub record Reads (write : ℕ → List ℕ) (most : ℕ) (text : List ℕ) (answer : Option ℕ) : Type 0 where
  pub back : (n : ℕ) → n ≤ most → text ≡ write n → answer ≡ Some n
  pub only : (n : ℕ) → answer ≡ Some n → (n ≤ most) × (text ≡ write n)
