use Rattle.std.proofs.Common.{suc, drop, get_or, drop-cons}
use Rattle.adx_json.proofs.ReadItems.{word_more, word_cut, word_wrong}
use Rattle.adx_json.proofs.TextParts.{at_byte}
use Rattle.adx_json.proofs.reader.word_at.Goals as goal

pub returns-in_default-clause-stops : goal.returns-in_default-clause-stops
returns-in_default-clause-stops c =
    let word = c.args.word.now in
    let i = c.loop-wanted.wanted-index in
    word_cut c.args.bytes.now word c.loop-wanted.left.now i (get_or word i 0) (drop (suc i) word) c.loop-wanted.invariant (drop-cons word i 0 c.loop-wanted-test.true) c.in_default.ensures.cases

pub returns-then-byte-wanted-clause-stops : goal.returns-then-byte-wanted-clause-stops
returns-then-byte-wanted-clause-stops c =
    let word = c.args.word.now in
    let i = c.loop-wanted.wanted-index in
    word_wrong c.args.bytes.now word c.loop-wanted.left.now i (get_or word i 0) (drop (suc i) word) c.in-Some.byte.now c.in-Some.rest.now c.loop-wanted.invariant (drop-cons word i 0 c.loop-wanted-test.true) c.in-Some.ensures.cases.0 c.if-byte-wanted.true

pub loop-wanted-preserved : goal.loop-wanted-preserved
loop-wanted-preserved c =
    let word = c.args.word.now in
    let i = c.loop-wanted.wanted-index in
    word_more c.args.bytes.now word c.loop-wanted.left.now i (get_or word i 0) (drop (suc i) word) c.in-Some.rest.now c.loop-wanted.invariant (drop-cons word i 0 c.loop-wanted-test.true) (at_byte c.loop-wanted.left.now c.in-Some.byte.now (get_or word i 0) c.in-Some.rest.now c.in-Some.ensures.cases.0 c.if-byte-wanted.false)
