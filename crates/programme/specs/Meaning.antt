-- What a programme means, and the laws that every programme keeps.
use Rattle.std.specs.Prelude.{◌≡◌, ℕ, ◌+◌, ◌<◌, ◌≤◌, max, Bool, true, false, length, slice_index_or}
use Rattle.programme.specs.declared.dispatches.Dispatch.{Dispatch}
use Rattle.programme.specs.declared.terms.Terms.{Terms}
use Rattle.programme.specs.declared.figures.Figures.{Figures}
use Rattle.programme.specs.declared.figures.Fold.{Fold}
use Rattle.programme.specs.declared.figures.Fold.TheVariants.{Sum, Peak}
use Rattle.programme.specs.Bounds.{lawful_terms, settleable}

-- A programme is its fixed figures, its event function and its month function, and nothing else.
-- The event function takes terms, price, lateness, baseline and event load, and answers credit, surcharge and 1 for a missed event, else 0.
-- The month function takes terms, the number of events and the number missed, and answers the basic credit.
pub record Meaning : Type 0 where
  pub figures : Figures
  pub event : Terms → ℕ → Bool → ℕ → ℕ → ℕ × ℕ × ℕ
  pub basic : Terms → ℕ → ℕ → ℕ

-- What a programme pays for a dispatch: credit, surcharge and 1 for a missed event, else 0.
abbrev pub paid : Meaning → Terms → Dispatch → ℕ × ℕ × ℕ
paid m t d = m.event t d.price d.late d.baseline d.event_load

-- The ranges of the fixed figures.
pub record LawfulFigures (f : Figures) : Type 0 where
  pub days_low : 1 ≤ f.baseline_days
  pub days_high : f.baseline_days ≤ 20
  pub lowest_low : 1 ≤ f.lowest_kw
  -- only 2 to 6 hours can be allowed
  pub hours_long : length f.hours ≤ 7
  pub hours_zero : slice_index_or f.hours 0 false ≡ false
  pub hours_one : slice_index_or f.hours 1 false ≡ false
  pub first_month_low : 1 ≤ f.first_month
  pub first_month_high : f.first_month ≤ 12
  pub last_month_low : 1 ≤ f.last_month
  pub last_month_high : f.last_month ≤ 12
  pub cap_low : 2 ≤ f.cap_hours
  pub cap_high : f.cap_hours ≤ 36
  pub deadline_high : f.deadline < 96

-- Amounts of an event: at most 10^12 dollars each, and missed is 0 or 1.
pub record Amounts (a : ℕ × ℕ × ℕ) : Type 0 where
  pub credit_most : a.0 ≤ 1000000000000
  pub surcharge_most : a.1 ≤ 1000000000000
  pub missed_most : a.2 ≤ 1

-- What every programme shows of its meaning.
pub record Lawful (m : Meaning) : Type 0 where
  pub figures : LawfulFigures m.figures
  pub event : (t : Terms) (price : ℕ) (late : Bool) (baseline load : ℕ) → settleable m.figures t price baseline load ≡ true → Amounts (m.event t price late baseline load)
  pub basic : (t : Terms) (events missed : ℕ) → lawful_terms t ≡ true → m.basic t events missed ≤ 1000000000000

-- One reading more: added, or the larger.
abbrev pub joined : Fold → ℕ → ℕ → ℕ
joined Sum so_far watts = so_far + watts
joined Peak so_far watts = max so_far watts
