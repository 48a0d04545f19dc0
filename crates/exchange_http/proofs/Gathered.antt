-- Replies that are gathered after those that a sink took.
use Rattle.std.proofs.Common.{◌≡◌, inl, inr, ℕ, ◌+◌, ◌-◌, ◌≤◌, List, [], ◌∷◌, ◌++◌, length, take, drop, Option, Some, None, refl, sym, ap, ◌∙◌, subst, arith, append_assoc, append-nil, length-append, length-drop}
use Rattle.std.proofs.lemmas.List.{drop-drop, take-append-drop, take_all}
use Rattle.std.specs.Io.KnownBytes.{append_known}
use Rattle.adx_io.specs.Streams.{Took}
use Rattle.day_machine.specs.declared.batch.TheConstants.{BATCH_LIMIT}
use Rattle.http_connection.specs.Messages.{Request}
use Rattle.http_service.specs.Connections.{Answering, Replies}
use Rattle.http_service.specs.Replies.{reply_to}
use Rattle.exchange_http.specs.Gathered.{FailsWithin, Moves, Replied, count_of}

-- a list that is at least as long as a front of what it begins has that front
split_behind : (h front s left : List ℕ) → h ++ front ≡ s ++ left → length h ≤ length s → (f : List ℕ) × (s ≡ h ++ f) × (front ≡ f ++ left)
split_behind [] front s left is le = (s, refl, is)
split_behind (x ∷ h) front [] left is le = absurd (omega (arith, le))
split_behind (x ∷ h) front (y ∷ s) left is le =
    let head : x ≡ y = cc is in
    let tail : h ++ front ≡ s ++ left = cc is in
    let shorter : length h ≤ length s = omega (arith, le) in
    let rest = split_behind h front s left tail shorter in
    (rest.0, (λ i. sym head i ∷ rest.1 i), rest.2)

-- what a sink took of bytes that were gathered after others, which it has
pub sunk_front : (held sunk held_now : Option (List ℕ)) (front left : List ℕ) → held_now ≡ append_known held front → held_now ≡ append_known sunk left → count_of held ≤ count_of sunk
    → (f b : List ℕ) × (front ≡ f ++ b) × Took held sunk f
sunk_front None None held_now front left is at le = (front, [], sym (append-nil front), refl)
sunk_front None (Some s) held_now front left is at le = absurd (let e : None ≡ Some (s ++ left) = sym is ∙ at in cc e)
sunk_front (Some h) None held_now front left is at le = absurd (let e : Some (h ++ front) ≡ None = sym is ∙ at in cc e)
sunk_front (Some h) (Some s) held_now front left is at le =
    let e : Some (h ++ front) ≡ Some (s ++ left) = sym is ∙ at in
    let same : h ++ front ≡ s ++ left = cc e in
    let parts = split_behind h front s left same le in
    (parts.0, left, parts.2, ap Some parts.1)

-- bytes after bytes
pub known_more : (old : Option (List ℕ)) (first rest : List ℕ) → append_known (append_known old first) rest ≡ append_known old (first ++ rest)
known_more None first rest = refl
known_more (Some h) first rest = ap Some (append_assoc h first rest)

pub known_none : (old : Option (List ℕ)) → append_known old [] ≡ old
known_none None = refl
known_none (Some h) = ap Some (append-nil h)

-- a sink took more of what was gathered
pub put_on : (old now : Option (List ℕ)) (items : List ℕ) (put n : ℕ) → now ≡ append_known old (take n (take (length items - put) (drop put items))) → append_known now (drop (put + n) items) ≡ append_known old (drop put items)
put_on old now items put n is =
    let rest : drop (put + n) items ≡ drop n (drop put items) = sym (drop-drop n put items) in
    let short : length (drop put items) ≤ length items - put = omega (arith, length-drop put items) in
    let whole : take (length items - put) (drop put items) ≡ drop put items = take_all (length items - put) (drop put items) short in
    ap (λ (s : Option (List ℕ)). append_known s (drop (put + n) items)) (is ∙ ap (λ (l : List ℕ). append_known old (take n l)) whole) ∙ known_more old (take n (drop put items)) (drop (put + n) items)
    ∙ ap (λ (l : List ℕ). append_known old (take n (drop put items) ++ l)) rest ∙ ap (append_known old) (take-append-drop n (drop put items))

-- messages that were replied after others
pub replies_join : {S : Type 0} (answers : Answering S) (s : S) (ms : List Request) (out : List ℕ) (between : S) (more : List Request) (due : List ℕ) (now : S)
    → Replies answers s ms out between → Replies answers between more due now → Replies answers s (ms ++ more) (out ++ due) now
replies_join {S = S} answers s [] out between more due now are then =
    subst (λ (p : List ℕ × S). Replies answers p.1 more (p.0 ++ due) now) (λ i. (sym are.0 i, are.1 i)) then
replies_join {S = S} answers s (m ∷ ms) out between more due now are then = (
  are.0,
  are.1,
  are.2,
  are.3 ++ due,
  are.4,
  replies_join answers are.2 ms are.3 between more due now are.5 then,
  ap (λ (b : List ℕ). b ++ due) are.6 ∙ append_assoc (reply_to m are.0 are.1) are.3 due,
)

module _ {S : Type 0} (answers : Answering S) (s now next : S) (requests late : List Request) (old held : Option (List ℕ)) (least waiting least_now waiting_now count : ℕ) where
  -- more messages were replied
  pub replied_more : (held_now : Option (List ℕ)) (bytes : List ℕ) → Replied answers s now requests old held least waiting → Moves count held least waiting least_now waiting_now → length late ≤ count
      → Replies answers now late bytes next → held_now ≡ append_known held bytes → Replied answers s next (requests ++ late) old held_now least_now waiting_now
  replied_more held_now bytes r (inl (waits, same)) few replies is = record {
    before = r.before;
    last = r.last ++ late;
    between = r.between;
    out = r.out;
    due = r.due ++ bytes;
    split = ap (λ (l : List Request). l ++ late) r.split ∙ append_assoc r.before r.last late;
    few = omega (arith, r.few, length-append r.last late, waits, few);
    replied = r.replied;
    to_reply = replies_join answers r.between r.last r.due now late bytes next r.to_reply replies;
    holds = is ∙ ap (λ (h : Option (List ℕ)). append_known h bytes) r.holds ∙ known_more old (r.out ++ r.due) bytes ∙ ap (append_known old) (append_assoc r.out r.due bytes);
    sure = subst (λ (n : ℕ). count_of (append_known old r.out) ≤ n) (sym same) r.sure;
  }
  replied_more held_now bytes r (inr (waits, all)) few replies is = record {
    before = requests;
    last = late;
    between = now;
    out = r.out ++ r.due;
    due = bytes;
    split = refl;
    few = omega (arith, waits, few);
    replied = subst (λ (l : List Request). Replies answers s l (r.out ++ r.due) now) (sym r.split) (replies_join answers s r.before r.out r.between r.last r.due now r.replied r.to_reply);
    to_reply = replies;
    holds = is ∙ ap (λ (h : Option (List ℕ)). append_known h bytes) r.holds ∙ known_more old (r.out ++ r.due) bytes;
    sure = omega (arith, all, ap count_of r.holds);
  }

  -- the sink failed while more messages were replied
  pub fails_within : (held_now sunk : Option (List ℕ)) (bytes front back left : List ℕ) → Replied answers s now requests old held least waiting → Moves count held least waiting least_now waiting_now → length late ≤ count
      → Replies answers now late bytes next → bytes ≡ front ++ back → held_now ≡ append_known held front → held_now ≡ append_known sunk left → least_now ≤ count_of sunk → waiting_now ≤ BATCH_LIMIT
      → FailsWithin answers s next (requests ++ late) old sunk
  fails_within held_now sunk bytes front back left r (inl (waits, same)) few replies split is at grown most =
      let begins : held_now ≡ append_known (append_known old r.out) (r.due ++ front) =
      is ∙ ap (λ (h : Option (List ℕ)). append_known h front) r.holds ∙ known_more old (r.out ++ r.due) front ∙ ap (append_known old) (append_assoc r.out r.due front) ∙ sym (known_more old r.out (r.due ++ front)) in
      let enough : count_of (append_known old r.out) ≤ count_of sunk = omega (arith, r.sure, same, grown) in
      let part = sunk_front (append_known old r.out) sunk held_now (r.due ++ front) left begins at enough in
      record {
        before = r.before;
        last = r.last ++ late;
        between = r.between;
        out = r.out;
        due = r.due ++ bytes;
        split = ap (λ (l : List Request). l ++ late) r.split ∙ append_assoc r.before r.last late;
        few = omega (arith, r.few, length-append r.last late, waits, few, most);
        replied = r.replied;
        to_reply = replies_join answers r.between r.last r.due now late bytes next r.to_reply replies;
        took = (
          part.0,
          part.1 ++ back,
          ap (λ (b : List ℕ). r.due ++ b) split ∙ sym (append_assoc r.due front back) ∙ ap (λ (b : List ℕ). b ++ back) part.2 ∙ append_assoc part.0 part.1 back,
          part.3 ∙ known_more old r.out part.0,
        );
      }
  fails_within held_now sunk bytes front back left r (inr (waits, all)) few replies split is at grown most =
      let begins : held_now ≡ append_known (append_known old (r.out ++ r.due)) front = is ∙ ap (λ (h : Option (List ℕ)). append_known h front) r.holds in
      let enough : count_of (append_known old (r.out ++ r.due)) ≤ count_of sunk = omega (arith, all, ap count_of r.holds, grown) in
      let part = sunk_front (append_known old (r.out ++ r.due)) sunk held_now front left begins at enough in
      record {
        before = requests;
        last = late;
        between = now;
        out = r.out ++ r.due;
        due = bytes;
        split = refl;
        few = omega (arith, waits, few, most);
        replied = subst (λ (l : List Request). Replies answers s l (r.out ++ r.due) now) (sym r.split) (replies_join answers s r.before r.out r.between r.last r.due now r.replied r.to_reply);
        to_reply = replies;
        took = (part.0, part.1 ++ back, split ∙ ap (λ (b : List ℕ). b ++ back) part.2 ∙ append_assoc part.0 part.1 back, part.3 ∙ known_more old (r.out ++ r.due) part.0);
      }
