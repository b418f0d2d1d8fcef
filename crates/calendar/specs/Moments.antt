-- Moments, as a day and a quarter of an hour: how they are counted, and which the calendar has.
use Rattle.std.specs.Prelude.{ℕ, ◌+◌, ◌*◌, Bool, ◌&&◌, nat_le}

-- The quarters of an hour from the start of day 0; a day has 96.
abbrev pub moment_count : ℕ → ℕ → ℕ
moment_count day quarter = 96 * day + quarter

-- The days are 0 to 10957, and the quarters of each 0 to 95.
abbrev pub in_calendar : ℕ → ℕ → Bool
in_calendar day quarter = nat_le day 10957 && nat_le quarter 95
