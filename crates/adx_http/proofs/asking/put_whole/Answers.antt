-- One more front was asked, or none.
use Rattle.std.proofs.Common.{[], ◌++◌, length, sym, subst, ap, ◌∙◌, append_assoc, append-nil, arith, take, length-append}
use Rattle.std.proofs.lemmas.Bool.Decides.{nat_tests}
use Rattle.std.proofs.lemmas.List.{take-append-drop}
use Rattle.adx_links.specs.Links.{Asks}
use Rattle.adx_io.specs.Streams.{WhereTold}
use Rattle.adx_http.proofs.Asked.{asks_both, some_front, stands_on, still_unasked}
use Rattle.adx_http.proofs.asking.put_whole.Goals as goal

pub loop-rest-preserved : goal.loop-rest-preserved
loop-rest-preserved g c =
    let parts = c.loop-rest.invariant.parts in
    let n = c.in-Ok.count in
    let rest = c.loop-rest.rest.now in
    let joined = append_assoc parts.0 (take n rest) c.split_at.result.1.now ∙ ap (λ r. parts.0 ++ (take n rest ++ r)) c.split_at.ensures.back
    ∙ ap (λ r. parts.0 ++ r) (take-append-drop n rest) ∙ parts.1 in
    record {
      parts = (
        parts.0 ++ take n rest,
        joined,
        asks_both (g.L.Link.exchanges c.args.link.now) (g.L.Link.exchanges c.loop-rest.link) (g.L.Link.exchanges c.put.new.self) parts.0 (take n rest) parts.2 c.in-Ok.ensures.asks,
      );
      stands = stands_on (g.L.Link.course c.args.link.now) (g.L.Link.course c.loop-rest.link) (g.L.Link.course c.put.new.self) c.loop-rest.invariant.stands c.in-Ok.ensures.puts;
      unput = λ same. absurd (omega (arith, same, ap length (sym parts.1), length-append parts.0 rest, c.split_at.ensures.back_len, c.in-Ok.ensures.count, c.in-Ok.ensures.some (grind (arith, nat_tests, c.is_empty.ensures, c.loop-rest-test.true))));
      planned = still_unasked (g.L.Link.course c.args.link.now) (g.L.Link.course c.loop-rest.link) (length c.split_at.result.1.now) (length c.args.piece.now) (length rest) c.loop-rest.invariant.planned c.loop-rest.invariant.unput c.in-Ok.ensures.planned;
      place = c.in-Ok.ensures.same ∙ c.loop-rest.invariant.place;
      same = c.in-Ok.ensures.cause.passed ∙ c.loop-rest.invariant.same;
    }

pub returns-in-Err-clause-asks : goal.returns-in-Err-clause-asks
returns-in-Err-clause-asks g c =
    let parts = c.loop-rest.invariant.parts in
    let rest = c.loop-rest.rest.now in
    some_front (g.L.Link.exchanges c.args.link.now) (g.L.Link.exchanges c.put.new.self) parts.0 rest c.args.piece.now parts.1
    (subst (λ front. WhereTold (g.L.Link.exchanges c.args.link.now) (g.L.Link.exchanges c.put.new.self) (Asks front)) (append-nil parts.0) (asks_both (g.L.Link.exchanges c.args.link.now) (g.L.Link.exchanges c.loop-rest.link) (g.L.Link.exchanges c.put.new.self) parts.0 [] parts.2 c.in-Err.ensures.asks))
