-- What a header notes of its lines, and when it is complete.
use Rattle.std.specs.Prelude.{◌≡◌, ℕ, min, Bool, not, ◌&&◌, List, [], ◌∷◌, is_some, IsSome, Some, None, Option}
use Rattle.calendar.specs.Texts.{month_text}
use Rattle.calendar.specs.declared.months.Month.{Month as Calendar}
use Rattle.programme.specs.Programmes.{letter_of}
use Rattle.decimals.specs.Numerals.{Spells}
use Rattle.sheet_values.specs.declared.headers.Header.{Header}
use Rattle.sheet_words.specs.declared.keys.Word.{Word}
use Rattle.sheet_words.specs.declared.keys.Word.TheVariants.{Programme, Account, Month, Capacity, Reduction, Hours, Event}
use Rattle.sheet_values.specs.declared.noted.Draft.{Draft}
use Rattle.sheet_values.specs.declared.noted.Noted.{Noted}

-- The text is a whole number, and the largest that the type holds stands for any above it.
abbrev pub Counts : ℕ → List ℕ → ℕ → Type 0
Counts most text value = (n : ℕ) × Spells 0 text n × (value ≡ min n most)

-- The text is that of the month, as 2026-07.
pub record NamesMonth (text : List ℕ) (month : Calendar) : Type 0 where
  pub is : text ≡ month_text month.number

-- Nothing was noted before, and now a value is that the text spells, with its line.
abbrev pub Fills : {T : Type 0} → (T → Type 0) → ℕ → Option (Noted T) → (Option (Noted T) → Type 0) → Type 0
Fills {T} spells line before after = (before ≡ None) × ((value : T) × spells value × after (Some (record { value = value; line = line })))

-- A statement of the header fills the slot of its word, and leaves the others as they are; an event is none of the header's.
abbrev pub Takes : Word → List ℕ → ℕ → Draft → Draft → Type 0
Takes Programme text line d e =
    Fills (λ code. text ≡ letter_of code ∷ []) line d.code (λ slot. e ≡ record { code = slot; account = d.account; month = d.month; capacity = d.capacity; reduction = d.reduction; hours = d.hours })
Takes Account text line d e =
    Fills (Counts 255 text) line d.account (λ slot. e ≡ record { code = d.code; account = slot; month = d.month; capacity = d.capacity; reduction = d.reduction; hours = d.hours })
Takes Month text line d e =
    Fills (NamesMonth text) line d.month (λ slot. e ≡ record { code = d.code; account = d.account; month = slot; capacity = d.capacity; reduction = d.reduction; hours = d.hours })
Takes Capacity text line d e =
    Fills (Counts 4294967295 text) line d.capacity (λ slot. e ≡ record { code = d.code; account = d.account; month = d.month; capacity = slot; reduction = d.reduction; hours = d.hours })
Takes Reduction text line d e =
    Fills (Counts 4294967295 text) line d.reduction (λ slot. e ≡ record { code = d.code; account = d.account; month = d.month; capacity = d.capacity; reduction = slot; hours = d.hours })
Takes Hours text line d e =
    Fills (Counts 255 text) line d.hours (λ slot. e ≡ record { code = d.code; account = d.account; month = d.month; capacity = d.capacity; reduction = d.reduction; hours = slot })
Takes Event text line d e = e ≡ d

-- The slot of a word is still empty, and it is the first such word, in the order programme, account, month, capacity, reduction, hours.
abbrev pub Lacks : Draft → Word → Type 0
Lacks d Programme = d.code ≡ None
Lacks d Account = IsSome d.code × (d.account ≡ None)
Lacks d Month = IsSome d.code × IsSome d.account × (d.month ≡ None)
Lacks d Capacity = IsSome d.code × IsSome d.account × IsSome d.month × (d.capacity ≡ None)
Lacks d Reduction = IsSome d.code × IsSome d.account × IsSome d.month × IsSome d.capacity × (d.reduction ≡ None)
Lacks d Hours = IsSome d.code × IsSome d.account × IsSome d.month × IsSome d.capacity × IsSome d.reduction × (d.hours ≡ None)
Lacks d Event = ⊥

-- Nothing is noted yet.
abbrev pub is_blank : Draft → Bool
is_blank d =
    not (is_some d.code) && not (is_some d.account) && not (is_some d.month)
    && not (is_some d.capacity) && not (is_some d.reduction) && not (is_some d.hours)

-- A complete header has the values that were noted, and the lines of the account and of the terms.
pub record Completes (d : Draft) (h : Header) : Type 0 where
  pub programme : (line : ℕ) × (d.code ≡ Some (record { value = h.agreement.code; line = line }))
  pub account : d.account ≡ Some (record { value = h.agreement.account; line = h.lines.account })
  pub month : (line : ℕ) × (d.month ≡ Some (record { value = h.month; line = line }))
  pub capacity : d.capacity ≡ Some (record { value = h.agreement.terms.capacity_kw; line = h.lines.capacity })
  pub reduction : d.reduction ≡ Some (record { value = h.agreement.terms.reduction_kw; line = h.lines.reduction })
  pub hours : d.hours ≡ Some (record { value = h.agreement.terms.hours; line = h.lines.hours })
