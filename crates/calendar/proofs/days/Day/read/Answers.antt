use Rattle.std.proofs.Common.{◌≡◌, ◌-◌, ◌≤◌, length, get_or, arith, rules}
use Rattle.std.proofs.lemmas.Bool.Decides.{nat_tests}
use Rattle.calendar.proofs.Reading.{no_month, no_day, no_place, date_parts}
use Rattle.calendar.proofs.days.Day.read.Goals as goal

pub returns-in_err-month : goal.returns-in_err-month
returns-in_err-month c = simp c.from_residual.ensures (no_month c.args.text.now c.in_err-month.ensures)

pub returns-in_err-read_two : goal.returns-in_err-read_two
returns-in_err-read_two c =
    simp c.from_residual-in_err-read_two.ensures (no_day c.args.text.now c.in_err-read_two.ensures)

pub returns-then-contains : goal.returns-then-contains
returns-then-contains c =
    let inside = c.if-contains.ensures.cases in
    let low : 1 ≤ c.from-day.result = grind (arith, nat_tests, inside) in
    let high : c.from-day.result ≤ c.length.result = grind (arith, nat_tests, inside) in
    let dash : get_or c.args.text.now (length c.args.text.now - 3) 0 ≡ 45 = search rules in
    date_parts c.args.text.now (search rules) dash c.in_ok-month.month.number c.in_ok-read_two.field-0 _
    c.in_ok-month.ensures c.in_ok-read_two.ensures (omega arith) (omega arith) (omega arith) (omega arith)

pub returns-else-contains : goal.returns-else-contains
returns-else-contains c =
    no_place c.args.text.now c.in_ok-month.month.number c.in_ok-read_two.field-0 c.in_ok-month.ensures
    c.in_ok-read_two.ensures (λ low high. let no = c.if-contains.ensures.value in grind (arith, nat_tests, no))
