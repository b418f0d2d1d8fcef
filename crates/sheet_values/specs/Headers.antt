-- Which line of a header is at fault where its agreement is refused.
use Rattle.std.specs.Prelude.{ℕ, cond, ◌||◌, nat_lt}
use Rattle.programme.specs.Programmes.{meaning_of}
use Rattle.sheet_values.specs.declared.headers.Header.{Header}

-- Where a refused agreement is at fault: at the account if that is above 7, else at the first of the terms that is out of its range.
abbrev pub refused_line : Header → ℕ
refused_line h =
    cond (nat_lt 7 h.agreement.account) h.lines.account
    (cond (nat_lt h.agreement.terms.capacity_kw 100 || nat_lt 200000 h.agreement.terms.capacity_kw) h.lines.capacity
    (cond (nat_lt h.agreement.terms.reduction_kw (meaning_of h.agreement.code).figures.lowest_kw || nat_lt h.agreement.terms.capacity_kw h.agreement.terms.reduction_kw)
    h.lines.reduction
    h.lines.hours))
