use Rattle.std.proofs.Common.{◌≡◌, ◌+◌, ◌-◌, ◌<◌, ◌≤◌, ◌++◌, [], ◌∷◌, ℕ, List, length, take, drop, false, sym, ◌∙◌, ap, subst, arith, length-take, length-drop}
use Rattle.std.proofs.lemmas.List.{take_at, take_all, drop-drop}
use Rattle.day_journal.specs.Openings.{IsPlace, OpeningState, StandsBehind, WindowState, ReadsMore, ReadsOn}
use Rattle.day_journal.specs.Places.{HasBadLength}
use Rattle.day_journal.specs.declared.place.Place.{Place}
use Rattle.day_journal.proofs.Reading.{near_more, far_more, far_read, too_long, window_end}
use Rattle.day_journal.proofs.opening.Opening.take.Goals as goal

first_length : (bytes first : List ℕ) → 5 ≤ length bytes → first ≡ take (length bytes - 5) (drop 5 bytes) → length first ≡ length bytes - 5
first_length bytes first five is = omega (arith, ap length is, length-take (length bytes - 5) (drop 5 bytes), length-drop 5 bytes)

pub returns-then-count-bytes-clause-found : goal.returns-then-count-bytes-clause-found
returns-then-count-bytes-clause-found g c file ps told b opens =
    let s = c.self.inside in
    let n = c.args.count in
    let p = c.keep.new.payload.items in
    let was : StandsBehind file (record { format = s.format; window = s.window; size = s.size; closed = s.closed }) ps = subst (λ (o : OpeningState). StandsBehind file o ps) (sym c.self.view_is) b in
    let opened_here : IsPlace s.window.bytes (Place.Open n) = subst (λ (o : OpeningState). IsPlace o.window.bytes (Place.Open n)) (sym c.self.view_is) opens in
    let le : n + 5 ≤ length s.window.bytes = omega (arith, c.if-count-bytes.true, ap length c.bytes.ensures) in
    let is : p ≡ take n (drop 5 s.window.bytes) = c.in_ok-keep.ensures ∙ ap (λ (l : List ℕ). l ++ take n (drop 5 c.bytes-then-count-bytes.result.now)) c.requires.empty ∙ ap (λ (l : List ℕ). take n (drop 5 l)) c.bytes-then-count-bytes.ensures in
    let off : s.closed ≡ false = ap (λ (o : OpeningState). o.closed) c.self.view_is ∙ c.requires.closed in
    subst (λ (w : WindowState). StandsBehind file (record { format = s.format; window = w; size = s.size; closed = s.closed }) (ps ++ p ∷ [])) (sym c.pass.ensures)
    (near_more file s.window.at s.size n s.window.bytes s.closed ps p was opened_here le is off)

pub returns-then-there-more-clause-refused : goal.returns-then-there-more-clause-refused
returns-then-there-more-clause-refused g c file ps told b opens =
    let s = c.self.inside in
    let n = c.args.count in
    let new = c.read_behind.new.out in
    let was : StandsBehind file (record { format = s.format; window = s.window; size = s.size; closed = s.closed }) ps = subst (λ (o : OpeningState). StandsBehind file o ps) (sym c.self.view_is) b in
    let opened_here : IsPlace s.window.bytes (Place.Open n) = subst (λ (o : OpeningState). IsPlace o.window.bytes (Place.Open n)) (sym c.self.view_is) opens in
    let five : 5 ≤ length s.window.bytes = opened_here.1 in
    let len : ℕ = length s.window.bytes - 5 in
    let first : c.keep-2.new.payload.items ≡ take len (drop 5 s.window.bytes) =
    c.in_ok-keep-2.ensures ∙ ap (λ (l : List ℕ). l ++ take (length c.bytes-2.result.now - 5) (drop 5 c.bytes-3.result.now)) c.requires.empty
    ∙ ap (λ (l : List ℕ). take (length l - 5) (drop 5 c.bytes-3.result.now)) c.bytes-2.ensures ∙ ap (λ (l : List ℕ). take len (drop 5 l)) c.bytes-3.ensures in
    let size_first : length c.keep-2.new.payload.items ≡ len = first_length s.window.bytes c.keep-2.new.payload.items five first in
    let front : take len c.deref_mut.result.now ≡ c.keep-2.new.payload.items =
    ap (take len) c.deref_mut.ensures.value ∙ ap (λ (k : ℕ). take k c.lengthen.new.payload.items) (sym size_first) ∙ c.in_ok-lengthen.ensures.front in
    let more : ReadsMore file (s.window.at + 5) len c.in_ok-more.more new = far_read file s.window.at s.size c.in_ok-more.more s.window.bytes s.closed ps c.saturating_add.result c.keep-2.new.payload.items c.deref_mut.result.now new was five (omega (arith, c.saturating_add.ensures, c.at-at.ensures)) first front
    (subst (λ (k : ℕ). ReadsOn file c.saturating_add.result k c.deref_mut.result.now c.in_ok-more.more new) (ap (λ (l : List ℕ). length l - 5) c.bytes-2.ensures) (c.in_ok-more.ensures.shown file told)) in
    let size_new : length new ≡ n = omega (arith, c.read_behind.ensures.len, ap length c.deref_mut.ensures.value, c.in_ok-lengthen.ensures.len) in
    let end = window_end file s.window.at s.window.bytes was.window in
    let past : length file < s.window.at + (n + 5) = omega (arith, more.count, size_new, c.if-there-more.true, ap length c.bytes-2.ensures, five, end) in
    subst (HasBadLength file) (sym c.at-at.ensures) (too_long file s.window.at s.size n s.window.bytes s.closed ps was opened_here past)

pub returns-clause-found : goal.returns-clause-found
returns-clause-found g c file ps told b opens =
    let s = c.self.inside in
    let n = c.args.count in
    let new = c.read_behind.new.out in
    let was : StandsBehind file (record { format = s.format; window = s.window; size = s.size; closed = s.closed }) ps = subst (λ (o : OpeningState). StandsBehind file o ps) (sym c.self.view_is) b in
    let opened_here : IsPlace s.window.bytes (Place.Open n) = subst (λ (o : OpeningState). IsPlace o.window.bytes (Place.Open n)) (sym c.self.view_is) opens in
    let five : 5 ≤ length s.window.bytes = opened_here.1 in
    let len : ℕ = length s.window.bytes - 5 in
    let first : c.keep-2.new.payload.items ≡ take len (drop 5 s.window.bytes) =
    c.in_ok-keep-2.ensures ∙ ap (λ (l : List ℕ). l ++ take (length c.bytes-2.result.now - 5) (drop 5 c.bytes-3.result.now)) c.requires.empty
    ∙ ap (λ (l : List ℕ). take (length l - 5) (drop 5 c.bytes-3.result.now)) c.bytes-2.ensures ∙ ap (λ (l : List ℕ). take len (drop 5 l)) c.bytes-3.ensures in
    let size_first : length c.keep-2.new.payload.items ≡ len = first_length s.window.bytes c.keep-2.new.payload.items five first in
    let front : take len c.deref_mut.result.now ≡ c.keep-2.new.payload.items =
    ap (take len) c.deref_mut.ensures.value ∙ ap (λ (k : ℕ). take k c.lengthen.new.payload.items) (sym size_first) ∙ c.in_ok-lengthen.ensures.front in
    let more : ReadsMore file (s.window.at + 5) len c.in_ok-more.more new = far_read file s.window.at s.size c.in_ok-more.more s.window.bytes s.closed ps c.saturating_add.result c.keep-2.new.payload.items c.deref_mut.result.now new was five (omega (arith, c.saturating_add.ensures, c.at-at.ensures)) first front
    (subst (λ (k : ℕ). ReadsOn file c.saturating_add.result k c.deref_mut.result.now c.in_ok-more.more new) (ap (λ (l : List ℕ). length l - 5) c.bytes-2.ensures) (c.in_ok-more.ensures.shown file told)) in
    let size_new : length new ≡ n = omega (arith, c.read_behind.ensures.len, ap length c.deref_mut.ensures.value, c.in_ok-lengthen.ensures.len) in
    let end = window_end file s.window.at s.window.bytes was.window in
    let within : len + c.in_ok-more.more ≤ length new = omega (arith, more.count, c.in_ok-more.ensures.count, ap length c.bytes-2.ensures) in
    let whole : len + c.in_ok-more.more ≡ n = omega (arith, within, size_new, c.if-there-more.false, ap length c.bytes-2.ensures) in
    let long : s.window.at + (n + 5) ≤ length file = omega (arith, more.count, size_new, whole, five, end, c.if-count-bytes.false, ap length c.bytes.ensures) in
    let off : s.closed ≡ false = ap (λ (o : OpeningState). o.closed) c.self.view_is ∙ c.requires.closed in
    let is : new ≡ take n (drop 5 (drop s.window.at file)) =
    sym (take_all (len + c.in_ok-more.more) new (omega (arith, whole, size_new))) ∙ more.shown ∙ ap (λ (k : ℕ). take k (drop (s.window.at + 5) file)) whole ∙ ap (take n) (sym (drop-drop 5 s.window.at file)) in
    let p = take c.lengthen.new.payload.len (new ++ drop (length new) c.lengthen.new.payload.items) in
    let kept : p ≡ new = take_at new (drop (length new) c.lengthen.new.payload.items) c.lengthen.new.payload.len (omega (arith, c.read_behind.ensures.len, c.deref_mut.ensures.len)) in
    subst (λ (w : WindowState). StandsBehind file (record { format = s.format; window = w; size = s.size; closed = s.closed }) (ps ++ p ∷ [])) (sym c.pass_all.ensures)
    (far_more file s.window.at s.size n s.window.bytes s.closed ps p was opened_here long (kept ∙ is) off)
