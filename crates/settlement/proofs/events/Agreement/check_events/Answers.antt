use Rattle.std.proofs.Common.{◌+◌, ◌<◌, ◌≤◌, length, get_or, map, take, sym, rules, arith, length-take, below_more}
use Rattle.std.proofs.lemmas.List.{length-map}
use Rattle.std.proofs.lemmas.Result.{err_from_is_err_and, MatchResult-weaker}
use Rattle.programme.specs.Programmes.{meaning_of}
use Rattle.settlement.proofs.Passing.{few, meets_at, names_at, passes_at}
use Rattle.settlement.proofs.events.Agreement.check_events.Goals as goal

pub returns-in_err-map_err-clause-first : goal.returns-in_err-map_err-clause-first
returns-in_err-map_err-clause-first g c =
    let a = c.args.self in
    let es = map g.E.Called.event c.args.events.now in
    let i = c.loop-i.i in
    let meets = meets_at (meaning_of a.code).figures a.terms g.E.Called.event c.args.events.now i c.index-events-i.result c.check_event.result c.loop-i-test.true c.index-events-i.is (rw (sym c.event.ensures) c.check_event.ensures) in
    let within : i < length es = rw (length-map c.args.events.now g.E.Called.event) c.loop-i-test.true in
    let cases = MatchResult-weaker c.check_event.result c.in_err-map_err.ensures.cases (λ x is. is) (λ e is. search rules) in
    let p = err_from_is_err_and c.from_residual.result c.from_residual.ensures.1 in
    rw (p.1, p.2) (names_at a es i c.check_event.result c.in_err-map_err.field-0.0 cases within c.loop-i.invariant.0 meets)

pub loop-i-preserved : goal.loop-i-preserved
loop-i-preserved g c =
    let a = c.args.self in
    let f = (meaning_of a.code).figures in
    let es = map g.E.Called.event c.args.events.now in
    let i = c.loop-i.i in
    let meets = meets_at f a.terms g.E.Called.event c.args.events.now i c.index-events-i.result c.check_event.result c.loop-i-test.true c.index-events-i.is (rw (sym c.event.ensures) c.check_event.ensures) in
    let here = passes_at f a.terms es i c.check_event.result (search rules) meets in
    let less : length (take i es) + 1 ≤ 18 = few a (take i es) (get_or es i c.event.result) c.requires (here c.event.result) in
    ((c.requires, below_more _ i c.loop-i.invariant.0.1 here), omega (arith, length-take i es, length-map c.args.events.now g.E.Called.event))
