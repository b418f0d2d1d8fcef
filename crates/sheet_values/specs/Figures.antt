-- What the figures of an event mean, as a demand in kW or as the figure itself.
use Rattle.std.specs.Prelude.{◌≡◌, ℕ, ◌-◌, ◌*◌, ◌^◌, min, List, ◌++◌, codes}
use Rattle.programme.specs.declared.figures.Fold.{Fold}
use Rattle.programme.specs.Bounds.{parts}
use Rattle.decimals.specs.Numerals.{Spells}
use Rattle.sheet_values.specs.declared.measured.Figure.{Figure}
use Rattle.sheet_values.specs.declared.measured.Figure.TheVariants.{Demand, Total}

-- The largest number of 64 bits. A figure as large is one that no lawful readings give.
abbrev pub capped : ℕ → ℕ
capped n = min n (2 ^ 64 - 1)

-- A demand enters a figure as many times as readings are added up in it; a figure itself stands as it is.
abbrev pub over : ℕ → Figure → ℕ
over parts (Demand w) = capped (w * parts)
over parts (Total x) = x

-- An event's load is that of one window.
abbrev pub load_of : Fold → ℕ → Figure → ℕ
load_of fold n figure = over (parts fold 1 n) figure

-- The baseline is that of the windows of the programme's baseline days.
abbrev pub baseline_of : ℕ → Fold → ℕ → Figure → ℕ
baseline_of days fold n figure = over (parts fold days n) figure

-- A demand is written in kW with up to three decimals and the suffix, so that it counts watts; a figure itself as a whole number.
abbrev pub FigureText : List ℕ → Figure → Type 0
FigureText text (Demand w) = (kilowatts : List ℕ) × (text ≡ kilowatts ++ codes "kW") × Spells 3 kilowatts w
FigureText text (Total x) = Spells 0 text x
