-- Worked examples, as facts of the definitions.
use Rattle.std.specs.Prelude.{◌≡◌, ℕ, ◌-◌, ◌*◌, true, false, List, [], ◌∷◌, sum_by}
use Rattle.calendar.specs.Months.{first_day}
use Rattle.programme.specs.Programmes.{economic, reliable}
use Rattle.programme.specs.declared.terms.Terms.{Terms}

-- A capacity of 800 kW, a reduction of 300 kW, events of 4 hours.
abbrev pub example_terms : Terms
example_terms = record { capacity_kw = 800; reduction_kw = 300; hours = 4 }

-- Economic bidding at 6.00 dollars: the credit for a saving D.
abbrev pub economic_pays : ℕ → ℕ
economic_pays d = (economic.event example_terms 600 false d 0).0

-- The same after a late notice.
abbrev pub economic_pays_late : ℕ → ℕ
economic_pays_late d = (economic.event example_terms 600 true d 0).0

-- Reliable bidding at 6.00 dollars with a baseline of 700 kW: an event with so many kW of reduction.
abbrev pub settled_at : ℕ → ℕ × ℕ × ℕ
settled_at kw = reliable.event example_terms 600 false 3500000 (1000 * (700 - kw))

-- A month of seven events: 400 kW four times, 300 kW twice, 40 kW once.
abbrev pub reductions : List ℕ
reductions = 400 ∷ 400 ∷ 400 ∷ 400 ∷ 300 ∷ 300 ∷ 40 ∷ []

-- All at once: at exactly 120 per cent 110 per cent are paid and one watt above it 100; below 80 per cent 100 and below 60 nothing;
-- late notices pay 120 per cent, and nothing below the lowest reduction; the reliable month's basic credit and surcharge; month 14 begins on day 425.
abbrev pub WorkedFigures : Type 0
WorkedFigures =
    (economic_pays 28800000 ≡ 9504)
    × (economic_pays 28800001 ≡ 8640)
    × (economic_pays 19199999 ≡ 5760)
    × (economic_pays 14399999 ≡ 0)
    × (economic_pays_late 14399999 ≡ 5184)
    × (economic_pays_late 1599999 ≡ 0)
    × (reliable.basic example_terms 7 (sum_by (λ kw. (settled_at kw).2) reductions) ≡ 15429)
    × (sum_by (λ kw. (settled_at kw).0) reductions ≡ 52800)
    × (sum_by (λ kw. (settled_at kw).1) reductions ≡ 3120)
    × (first_day 14 ≡ 425)
