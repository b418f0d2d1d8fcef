-- What a month of events comes to, and what settling it answers.
use Rattle.std.specs.Prelude.{◌≡◌, ℕ, ◌<◌, List, length, take, Some, None, Ok, Err, sum_by, Option, Result, slice_index_or}
use Rattle.refusal.specs.Answers.{answer_of}
use Rattle.programme.specs.Meaning.{Meaning, paid}
use Rattle.programme.specs.Programmes.{meaning_of}
use Rattle.programme.specs.declared.terms.Terms.{Terms}
use Rattle.settlement.specs.Checks.{agreement_test, event_test}
use Rattle.settlement.specs.declared.events.Agreement.{Agreement}
use Rattle.settlement.specs.declared.events.Event.{Event}
use Rattle.settlement.specs.declared.events.Refused.{Refused}
use Rattle.settlement.specs.declared.events.Totals.{Totals}

-- Credit, surcharge and missed of one event, by a programme's event function.
abbrev pub amounts : Meaning → Terms → Event → ℕ × ℕ × ℕ
amounts m t e = paid m t e.dispatch

-- How many of the events were missed.
abbrev pub missed_of : Meaning → Terms → List Event → ℕ
missed_of m t es = sum_by (λ e. (amounts m t e).2) es

-- A month's totals: credits and surcharges added up, and the basic credit for so many events of which so many were missed.
abbrev pub totals : Meaning → Terms → List Event → Totals
totals m t es =
    record {
      events = length es;
      missed = missed_of m t es;
      basic = m.basic t (length es) (missed_of m t es);
      credits = sum_by (λ e. (amounts m t e).0) es;
      surcharges = sum_by (λ e. (amounts m t e).1) es;
    }

-- The first k events pass their checks, each after those before it.
abbrev pub Passed : Agreement → List Event → ℕ → Type 0
Passed a es k =
    (agreement_test a ≡ 0)
    × ((i : ℕ) → i < k → (e : Event) → event_test (meaning_of a.code).figures a.terms (take i es) (slice_index_or es i e) ≡ 0)

-- A refusal names the first that does not pass, with the number of its own check: the agreement, where no event is named;
-- or an event, where the agreement and all events before it pass.
abbrev pub NamesAt : Agreement → List Event → Option ℕ → ℕ → Type 0
NamesAt a es None number = number ≡ agreement_test a
NamesAt a es (Some k) number =
    (k < length es) × Passed a es k × ((e : Event) → number ≡ event_test (meaning_of a.code).figures a.terms (take k es) (slice_index_or es k e))

-- The same of a refusal as it is answered; its number is never 0.
abbrev pub Names : Agreement → List Event → Refused → Type 0
Names a es r = NamesAt a es r.event (answer_of r.refusal).number × (0 < (answer_of r.refusal).number)

-- What settling a month answers: the totals exactly when the agreement and every event pass, otherwise the refusal.
abbrev pub Settles : Agreement → List Event → Result Totals Refused → Type 0
Settles a es (Ok r) = Passed a es (length es) × (r ≡ totals (meaning_of a.code) a.terms es)
Settles a es (Err r) = Names a es r
