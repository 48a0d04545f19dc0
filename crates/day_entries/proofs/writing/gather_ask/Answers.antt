use Rattle.std.proofs.Common.{rules}
use Rattle.formats.proofs.Laws.{adds_both, adds_made}
use Rattle.day_entries.specs.Entries.{ask, ask_of_parts, parts_of_ask}
use Rattle.day_entries.proofs.Steps.{put_as, adds_bytes}
use Rattle.day_entries.proofs.writing.gather_ask.Goals as goal

pub returns-clause-ok : goal.returns-clause-ok
unfolding ask
returns-clause-ok c =
    let a = c.args.ask.now in
    adds_made ask_of_parts parts_of_ask a (adds_both c.in_ok-gather_name.ensures.ok
    (adds_both (adds_bytes 32 _ _ a.digest (search rules) c.in_ok-gather.ensures.ok)
    (adds_both c.in_ok-gather_wide.ensures.ok
    (adds_both c.in_ok-gather_long.ensures.ok
    (adds_both (put_as a.imps c.as_slice.ensures c.in_ok-gather_imps.ensures.ok)
    (adds_both (put_as a.offers c.as_slice-2.ensures c.in_ok-gather_offers.ensures.ok) (put_as a.kept c.as_slice-3.ensures c.in_ok-gather_all_kept.ensures.ok)))))))
