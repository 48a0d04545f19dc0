use Rattle.formats.proofs.Laws.{adds_both, adds_made}
use Rattle.day_entries.specs.Entries.{kept, kept_of_parts, parts_of_kept}
use Rattle.day_entries.proofs.Steps.{put_as}
use Rattle.day_entries.proofs.writing.gather_kept.Goals as goal

pub returns-clause-ok : goal.returns-clause-ok
unfolding kept
returns-clause-ok c =
    let k = c.args.kept.now in
    adds_made kept_of_parts parts_of_kept k (adds_both c.in_ok-gather_long.ensures.ok
    (adds_both (put_as k.seat c.as_bytes.ensures.value c.in_ok-gather_text.ensures.ok)
    (adds_both (put_as k.bidid c.as_bytes-2.ensures.value c.in_ok-gather_text-2.ensures.ok)
    (adds_both (put_as k.adid c.as_bytes-3.ensures.value c.in_ok-gather_text-3.ensures.ok)
    (adds_both (put_as k.nurl c.as_bytes-4.ensures.value c.in_ok-gather_text-4.ensures.ok)
    (adds_both (put_as k.burl c.as_bytes-5.ensures.value c.in_ok-gather_text-5.ensures.ok)
    (adds_both (put_as k.lurl c.as_bytes-6.ensures.value c.in_ok-gather_text-6.ensures.ok) (put_as k.body c.as_bytes-7.ensures.value c.in_ok-gather_text-7.ensures.ok))))))))
