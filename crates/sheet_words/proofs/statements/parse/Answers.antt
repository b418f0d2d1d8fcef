use Rattle.sheet_words.proofs.Cutting.{unread}
use Rattle.sheet_words.proofs.statements.parse.Goals as goal

pub returns-in_err-words : goal.returns-in_err-words
returns-in_err-words c = unread c.args.line.now c.from_residual.result c.from_residual.ensures.1
