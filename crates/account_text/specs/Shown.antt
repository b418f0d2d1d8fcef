-- What the account shows besides the settlement's own amounts.
use Rattle.std.specs.Prelude.{◌≡◌, ℕ, ◌+◌, ◌-◌, ◌/◌, ◌^◌, ◌<◌, ◌⊎◌, min, List, ◌∷◌, codes, Ok, Err}
use Rattle.programme.specs.declared.codes.Code.{Code}
use Rattle.programme.specs.declared.codes.Code.TheVariants.{Economic, JointBidding, Reliable}
use Rattle.decimals.specs.Written.{grouped}
use Rattle.settlement.specs.declared.events.Totals.{Totals}
use Rattle.sheet.specs.Reading.{Writes, WritesNone}
use Rattle.sheet.specs.Settling.{Settled}
use Rattle.sheet_words.specs.declared.faults.SheetFault.{SheetFault}
use Rattle.sheet_words.specs.declared.faults.SheetFault.TheVariants.{Memory}
use Rattle.sheet.specs.declared.sheets.Sheet.{Sheet}
use Rattle.account_text.specs.declared.nets.Net.{Net}
use Rattle.account_text.specs.declared.nets.Net.TheVariants.{Paid, Owed}

-- The largest number of 64 bits stands for any above it; no lawful amount comes near it.
abbrev pub capped : ℕ → ℕ
capped n = min n (2 ^ 64 - 1)

-- a / b to the nearest whole number, a half upward, and 0 where b is 0.
abbrev pub rounded : ℕ → ℕ → ℕ
rounded a b = capped (a + b / 2) / b

-- The basic credit and the credits less the surcharges: paid if that is not negative, else owed.
abbrev pub Balances : Totals → Net → Type 0
Balances t (Paid n) = n + t.surcharges ≡ capped (t.basic + t.credits)
Balances t (Owed n) = (0 < n) × (n + capped (t.basic + t.credits) ≡ t.surcharges)

-- A programme by its name, with its letter.
abbrev pub title_text : Code → List ℕ
title_text Economic = codes "economic bidding (E)"
title_text JointBidding = codes "joint bidding (J)"
title_text Reliable = codes "reliable bidding (R)"

-- What is owed has a minus before it; dollars have a comma before each three digits.
abbrev pub balance_text : Net → List ℕ
balance_text (Paid n) = grouped n
balance_text (Owed n) = 45 ∷ grouped n

-- The sheet is settled with some totals, and not refused.
abbrev pub SettlesSo : Sheet → Type 0
SettlesSo s = (totals : Totals) × Settled s (Ok totals)

-- A sheet has no account where settling refuses it, and the fault is that of settling; or there was no memory for the text.
abbrev pub HasNoAccount : Sheet → SheetFault → Type 0
HasNoAccount s fault = Settled s (Err fault) ⊎ (fault ≡ Memory)

-- A text gives no account where it writes no sheet, or one that has none.
abbrev pub GivesNoAccount : List ℕ → SheetFault → Type 0
GivesNoAccount text fault = WritesNone text fault ⊎ ((s : Sheet) × Writes text s × HasNoAccount s fault)
