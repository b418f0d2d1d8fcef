-- The Gregorian months from January 2015 on: their lengths, their first days, and the month of a day.
-- Month 0 is January 2015, and day 0 is its first day.
use Rattle.std.specs.Prelude.{ℕ, zero, suc, ◌+◌, ◌-◌, ◌/◌, ◌%◌, Bool, true, false, cond, not, ◌&&◌, ◌||◌, List, [], ◌∷◌, ◌==◌}

-- Every fourth year is a leap year, but of the hundreds only every fourth.
abbrev pub leap : ℕ → Bool
leap year = year % 4 == 0 && (not (year % 100 == 0) || year % 400 == 0)

-- April, June, September and November have 30 days; a calendar month is 1 for January to 12 for December.
abbrev pub has_thirty : ℕ → Bool
has_thirty month = month == 4 || (month == 6 || (month == 9 || month == 11))

-- The days of a calendar month in a year: February has 28, or 29 in a leap year.
abbrev pub length_in : ℕ → ℕ → ℕ
length_in year month = cond (month == 2) (cond (leap year) 29 28) (cond (has_thirty month) 30 31)

-- The year of a month.
abbrev pub year_of : ℕ → ℕ
year_of m = 2015 + m / 12

-- The month's place in its year, 1 for January to 12 for December.
abbrev pub calendar_month : ℕ → ℕ
calendar_month m = m % 12 + 1

-- How many days a month has.
abbrev pub month_length : ℕ → ℕ
month_length m = length_in (year_of m) (calendar_month m)

-- Month 0 begins on day 0, and each later month when the one before is over.
unfoldable pub first_day : ℕ → ℕ
first_day zero = 0
first_day (suc m) = first_day m + month_length m

-- Day 0 is in month 0, and each later day is in the month of the day before, unless the next month begins on it.
unfoldable pub month_of : ℕ → ℕ
month_of zero = 0
month_of (suc d) = cond (suc d == first_day (suc (month_of d))) (suc (month_of d)) (month_of d)

-- The day's place in its month, from 1.
abbrev pub day_of_month : ℕ → ℕ
day_of_month d = d - first_day (month_of d) + 1

-- Whether a list of numbers, which follows the number x, goes up by the length of one month after another, from month i on.
abbrev pub steps : ℕ → ℕ → List ℕ → Bool
steps i x [] = true
steps i x (y ∷ ys) = y == x + month_length i && steps (suc i) y ys

-- The test of a table of first days: it begins with 0, and goes up by the length of each month.
abbrev pub ruled : List ℕ → Bool
ruled [] = false
ruled (x ∷ xs) = x == 0 && steps 0 x xs
