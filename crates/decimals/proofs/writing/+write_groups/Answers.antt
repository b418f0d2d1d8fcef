use Rattle.std.proofs.Common.{ℕ, ◌*◌, ◌%◌, ◌^◌, ◌<◌, arith, rules}
use Rattle.std.proofs.lemmas.Grind.{common_steps}
use Rattle.std.specs.Fmt.{WritesOnOk, styled_decimal}
use Rattle.std.proofs.Output.{has_written_of_eq, has_written_append}
use Rattle.decimals.specs.Written.{groups}
use Rattle.decimals.proofs.Groups.{groups_more, groups_small}
use Rattle.decimals.proofs.Padding.{padded_three}
use Rattle.decimals.proofs.writing.+write_groups.Goals as goal

pub returns-then-n-lt1000 : goal.returns-then-n-lt1000
returns-then-n-lt1000 g t c =
    let all : (k : ℕ) → c.args.n < 1000 * 1000 ^ k → WritesOnOk g.W.Write.write_str_gives c.args.f.now c.write.result (groups k c.args.n) c.write.new.self =
    λ k h plain ok. has_written_of_eq g.W.Write.write_str_gives _ _ _ _ (groups_small k c.args.n c.if-n-lt1000.true) (c.write.ensures.writes plain ok) in
    record { parts = all; whole = all 6 (omega arith) }

pub returns : goal.returns
returns g t c =
    let all : (k : ℕ) → c.args.n < 1000 * 1000 ^ k → WritesOnOk g.W.Write.write_str_gives c.args.f.now c.write-2.result (groups k c.args.n) c.write-2.new.self =
    λ k h plain ok.
    let m = groups_more k c.args.n (styled_decimal c.laid_out.result (c.args.n % 1000)) (grind (arith, common_steps, padded_three)) c.if-n-lt1000.false h in
    let first = c.write_groups.ensures.parts m.0 m.1 plain (search rules) in
    has_written_of_eq g.W.Write.write_str_gives _ _ _ _ m.2 (has_written_append g.W.Write.write_str_gives _ _ _ _ _ first (c.write-2.ensures.writes first.plain ok)) in
    record { parts = all; whole = all 6 (omega arith) }
