use Rattle.std.proofs.Common.{◌∷◌, ◌∙◌, ap, arith}
use Rattle.std.specs.Prelude.{codes}
use Rattle.sheet_words.specs.Lines.{texts}
use Rattle.sheet_words.specs.Words.{spelling}
use Rattle.sheet_words.proofs.Cutting.{six}
use Rattle.sheet_words.proofs.statements.said.Goals as goal

pub returns-in-Event-len6 : goal.returns-in-Event-len6
returns-in-Event-len6 c = ap (λ word. spelling word ∷ texts c.args.rest.now) c.in-Event-len6.is-0 ∙ ap (λ ws. codes "event" ∷ ws) (six c.args.rest.now (omega arith))
