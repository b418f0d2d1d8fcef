-- Which terms, prices and figures may be settled at all, and which terms a programme lets an account agree on.
use Rattle.std.specs.Prelude.{ℕ, ◌+◌, ◌*◌, Bool, false, ◌&&◌, nat_le, slice_index_or}
use Rattle.programme.specs.declared.dispatches.Dispatch.{Dispatch}
use Rattle.programme.specs.declared.terms.Terms.{Terms}
use Rattle.programme.specs.declared.figures.Figures.{Figures}
use Rattle.programme.specs.declared.figures.Fold.{Fold}
use Rattle.programme.specs.declared.figures.Fold.TheVariants.{Sum, Peak}

-- The quarters of an hour in an event: four for each hour.
abbrev pub quarters : Terms → ℕ
quarters t = 4 * t.hours

-- Terms that some programme may have accepted: a capacity of 100 to 200,000 kW, a reduction of 1 kW up to the capacity, 2 to 6 hours.
abbrev pub lawful_terms : Terms → Bool
lawful_terms t =
    nat_le 100 t.capacity_kw && nat_le t.capacity_kw 200000
    && nat_le 1 t.reduction_kw && nat_le t.reduction_kw t.capacity_kw
    && nat_le 2 t.hours && nat_le t.hours 6

-- Terms that a programme lets an account agree on: lawful, a reduction not below the programme's lowest, hours that it allows.
abbrev pub allowed_terms : Figures → Terms → Bool
allowed_terms f t = lawful_terms t && nat_le f.lowest_kw t.reduction_kw && slice_index_or f.hours t.hours false

-- The calendar months in which a programme has events.
abbrev pub in_season : Figures → ℕ → Bool
in_season f month = nat_le f.first_month month && nat_le month f.last_month

-- An event that starts at a quarter of the day ends by midnight.
abbrev pub ends_by_midnight : Terms → ℕ → Bool
ends_by_midnight t start = nat_le (start + quarters t) 96

-- How many readings' watts are added up in a figure over so many windows of n quarters: all of them for a sum, one of each window for a peak.
abbrev pub parts : Fold → ℕ → ℕ → ℕ
parts Sum windows n = windows * n
parts Peak windows n = windows

-- The most that n readings of at most 200,000,000 W can make: their sum, or the largest of them.
abbrev pub most : Fold → ℕ → ℕ
most Sum n = n * 200000000
most Peak n = 200000000

-- Figures that lawful readings can give: an event load of one window, a baseline of as many windows as the programme has baseline days.
abbrev pub from_readings : Figures → ℕ → ℕ → ℕ → Bool
from_readings f n baseline load = nat_le baseline (f.baseline_days * most f.fold n) && nat_le load (most f.fold n)

-- A price is at most 1,000 hundredths of a dollar per kWh.
abbrev pub lawful_price : ℕ → Bool
lawful_price price = nat_le price 1000

-- What an event can be settled from: lawful terms, a lawful price, figures that lawful readings can give.
abbrev pub settleable : Figures → Terms → ℕ → ℕ → ℕ → Bool
settleable f t price baseline load = lawful_terms t && lawful_price price && from_readings f (quarters t) baseline load

-- A dispatch can be settled if its price and its figures can; nothing depends on its lateness.
abbrev pub can_settle : Figures → Terms → Dispatch → Bool
can_settle f t d = settleable f t d.price d.baseline d.event_load
