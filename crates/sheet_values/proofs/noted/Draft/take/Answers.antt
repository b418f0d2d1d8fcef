use Rattle.std.proofs.lemmas.Result.{MatchResult-weaker}
use Rattle.std.proofs.Common.{◌∙◌, ap, inr}
use Rattle.sheet_words.specs.declared.faults.LineFault.TheVariants.{Twice}
use Rattle.sheet_values.proofs.noted.Draft.take.Goals as goal

pub returns-in_ok-read_month-in-Month : goal.returns-in_ok-read_month-in-Month
returns-in_ok-read_month-in-Month c =
    let d = c.args.self.now in
    simp c.in-Month.is (MatchResult-weaker c.note-in-Month.result c.note-in-Month.ensures
    (λ x p. (
      p.0,
      (
        c.in_ok-read_month-in-Month.field-0,
        c.in_ok-read_month-in-Month.ensures,
        λ i. record { code = d.code; account = d.account; month = p.1 i; capacity = d.capacity; reduction = d.reduction; hours = d.hours },
      ),
    ))
    (λ fault p. (
      λ i. record { code = d.code; account = d.account; month = p.0 i; capacity = d.capacity; reduction = d.reduction; hours = d.hours },
      inr (p.1.0, p.1.1, p.1.2 ∙ ap (λ word. Twice word p.1.0) c.in-Month.is),
    )))
