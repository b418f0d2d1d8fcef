use Rattle.sheet_values.proofs.noted.Draft.complete.Goals as goal

pub returns : goal.returns
returns c =
    record {
      programme = (c.in_ok-code.code.line, c.in_ok-code.ensures.ok_part);
      account = c.in_ok-account.ensures.ok_part;
      month = (c.in_ok-month.month.line, c.in_ok-month.ensures.ok_part);
      capacity = c.in_ok-capacity.ensures.ok_part;
      reduction = c.in_ok-reduction.ensures.ok_part;
      hours = c.in_ok-hours.ensures.ok_part;
    }
