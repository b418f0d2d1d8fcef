use Rattle.std.proofs.Common.{◌≡◌, true, is_ok, None, Ok, Err, inl, inr, vec_items, rules, arith}
use Rattle.std.proofs.lemmas.Result.{MatchResult-at_err, MatchResult-at_ok, MatchResult-weaker}
use Rattle.std.specs.Str.Iter.{lines_steps}
use Rattle.std.specs.declared.str.Lines.{Lines}
use Rattle.sheet_words.specs.declared.faults.LineFault.{LineFault}
use Rattle.sheet.specs.Reading.{LineAdds, LineFails, noted_on, told_on}
use Rattle.sheet.proofs.Adding.{begins_so, ends, fails, goes_on, sound, utf8_of}
use Rattle.sheet.proofs.sheets.Sheet.read.Goals as goal

pub loop-number-init : goal.loop-number-init
loop-number-init c = begins_so c.args.text.now c.into_iter-number-iterator.result.b c.into_iter-number-iterator.result.a.start _ _ (search rules) (search rules) (search rules) (search rules)

pub returns-in_err-event-clause-means : goal.returns-in_err-event-clause-means
returns-in_err-event-clause-means c =
    let fault = c.in_err-event.field-0.0 in
    let is : c.from_residual-in_err-event.result ≡ Err fault = search rules in
    let told : (why : LineFault) × (c.read_line.result ≡ Err why) × (fault ≡ told_on c.in-Some.number why) = search rules in
    let bad = MatchResult-at_err (LineAdds c.in-Some.number c.in-Some.line.now c.as_slice.result.now c.loop-number.draft c.read_line.new.draft) (LineFails c.in-Some.line.now c.as_slice.result.now c.loop-number.draft) told.0 told.1 c.read_line.ensures in
    let valid : is_ok c.from_utf8.result ≡ true = search rules in
    let utf8 = utf8_of c.args.text.now c.from_utf8.result _ valid c.from_utf8.ensures.cases in
    rw is (fails c.loop-number.invariant utf8 c.in-Some.line c.next.new.self.b c.in-Some.number c.as_slice.result.now told.0 fault (search rules) (search rules) (search rules) bad told.2)

pub loop-number-preserved-in-Continue-branch-3 : goal.loop-number-preserved-in-Continue-branch-3
loop-number-preserved-in-Continue-branch-3 c =
    let ok : c.read_line.result ≡ Ok c.in_ok-event.event = search rules in
    let adds = MatchResult-at_ok (LineAdds c.in-Some.number c.in-Some.line.now c.as_slice.result.now c.loop-number.draft c.read_line.new.draft) _ c.in_ok-event.event ok c.read_line.ensures in
    let noted : vec_items c.push.new.self ≡ noted_on c.in-Some.number c.in_ok-event.event c.as_slice.result.now = search rules in
    goes_on c.loop-number.invariant c.in-Some.line c.next.new.self.b c.read_line.new.draft c.in_ok-event.event c.in-Some.number _ c.as_slice.result.now _ (search rules) (search rules) (search rules) (search rules) noted adds

pub loop-number-preserved : goal.loop-number-preserved
loop-number-preserved c =
    let ok : c.read_line.result ≡ Ok c.in_ok-event.event = search rules in
    let adds = MatchResult-at_ok (LineAdds c.in-Some.number c.in-Some.line.now c.as_slice.result.now c.loop-number.draft c.read_line.new.draft) _ c.in_ok-event.event ok c.read_line.ensures in
    let noted : vec_items c.loop-number.events ≡ noted_on c.in-Some.number c.in_ok-event.event c.as_slice.result.now = search rules in
    goes_on c.loop-number.invariant c.in-Some.line c.next.new.self.b c.read_line.new.draft c.in_ok-event.event c.in-Some.number _ c.as_slice.result.now _ (search rules) (search rules) (search rules) (search rules) noted adds

pub returns : goal.returns
returns c =
    let none : (u : Lines) × lines_steps c.loop-number.number-iterator.b None u =
    elim c.in-None.ensures.steps [ inl a ↦ let few = c.loop-number.invariant.counted in absurd (omega arith) | inr b ↦ b ] in
    let all = ends c.loop-number.invariant none.0 none.1 in
    let valid : is_ok c.from_utf8.result ≡ true = search rules in
    let utf8 = utf8_of c.args.text.now c.from_utf8.result _ valid c.from_utf8.ensures.cases in
    record {
      sound = MatchResult-weaker c.sheet_of.result c.sheet_of.ensures (λ sheet made. sound c.loop-number.invariant sheet made.0 made.1) (λ fault lacks. tt);
      means = MatchResult-weaker c.sheet_of.result c.sheet_of.ensures (λ sheet made. (utf8, c.loop-number.draft, rw made.1 all, made.0))
          (λ fault lacks. inr (inl (utf8, c.loop-number.draft, vec_items c.loop-number.events, all, lacks)));
    }
