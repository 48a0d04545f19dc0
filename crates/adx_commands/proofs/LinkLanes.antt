-- Lanes over links, made one after another.
use Rattle.std.proofs.Common.{◌≡◌, ◌∙◌, sym, ap, subst, refl, suc, ◌+◌, ◌<◌, ◌≤◌, List, [], ◌∷◌, ◌++◌, length, map, slice_get, All, Some, None, Vec, append_assoc, arith}
use Rattle.std.proofs.Common.{Global}
use Rattle.std.specs.List.{AllZip}
use Rattle.std.proofs.lemmas.List.{append-nil, length-append, length-map, map-append}
use Rattle.std.proofs.lemmas.List.Elements.{All-append, All-cons, All-head, All-nil, All-tail}
use Rattle.deal_floor.specs.declared.place.Place.{Place}
use Rattle.deal_floor.specs.declared.roster.Roster.{Roster}
use Rattle.exchange_messages.specs.Floors.{AreLanes}
use Rattle.exchange_serving.specs.Lanes.{lists_of}
use Rattle.fan_out.specs.declared.answer.TheConstants.{ANSWER_LIMIT}
use Rattle.fan_out.specs.declared.lane.Lane.{Lane}
use Rattle.adx_commands.specs.Lanes.{AreLanesOver, AreWorkersOver, Fit, links_in}

module _ {X : Type 0} where
  -- what comes after a front, by the element that does
  next : (front ahead all : List X) (x : X) → front ++ ahead ≡ all → slice_get all (length front) ≡ Some x → (rest : List X) × (ahead ≡ x ∷ rest)
  next front ahead all x is found = go front ahead (subst (λ (l : List X). slice_get l (length front) ≡ Some x) (sym is) found)
    where
      go : (front ahead : List X) → slice_get (front ++ ahead) (length front) ≡ Some x → (rest : List X) × (ahead ≡ x ∷ rest)
      go [] [] found = absurd (cc found)
      go [] (y ∷ ahead) found = (ahead, cc found)
      go (y ∷ front) ahead found = go front ahead found

  -- nothing does where there is none
  none_next : (front ahead all : List X) → front ++ ahead ≡ all → slice_get all (length front) ≡ None → ahead ≡ []
  none_next front ahead all is found = go front ahead (subst (λ (l : List X). slice_get l (length front) ≡ None) (sym is) found)
    where
      go : (front ahead : List X) → slice_get (front ++ ahead) (length front) ≡ None → ahead ≡ []
      go [] [] found = refl
      go [] (y ∷ ahead) found = absurd (cc found)
      go (y ∷ front) ahead found = go front ahead found

  no_items : (xs : List X) → length xs ≡ 0 → xs ≡ []
  no_items [] none = refl
  no_items (x ∷ xs) none = absurd (omega (arith, none))

module _ {X Y : Type 0} (f : X → Y) where
  -- one more goes from what is ahead
  one_on : (xs : List X) (x : X) (y : Y) (ahead rest all : List Y) → map f xs ++ ahead ≡ all → ahead ≡ y ∷ rest → f x ≡ y → map f (xs ++ x ∷ []) ++ rest ≡ all
  one_on xs x y ahead rest all whole is same =
      ap (λ (l : List Y). l ++ rest) (map-append f xs (x ∷ [])) ∙ append_assoc (map f xs) (f x ∷ []) rest
      ∙ ap (λ (z : Y). map f xs ++ z ∷ rest) same ∙ ap (λ (l : List Y). map f xs ++ l) (sym is) ∙ whole

-- two lists side by side, with one more at the end of both
module _ {X Y : Type 0} (R : X → Y → Type 0) where
  zip_on : (xs : List X) (ys : List Y) (x : X) (y : Y) → AllZip R xs ys → R x y → AllZip R (xs ++ x ∷ []) (ys ++ y ∷ [])
  zip_on [] [] x y each one = (one, tt)
  zip_on [] (v ∷ ys) x y each one = absurd each
  zip_on (u ∷ xs) [] x y each one = absurd each
  zip_on (u ∷ xs) (v ∷ ys) x y each one = (each.0, zip_on xs ys x y each.1 one)

  pub zip_length : (xs : List X) (ys : List Y) → AllZip R xs ys → length ys ≡ length xs
  zip_length [] [] each = refl
  zip_length [] (v ∷ ys) each = absurd each
  zip_length (u ∷ xs) [] each = absurd each
  zip_length (u ∷ xs) (v ∷ ys) each = ap suc (zip_length xs ys each.1)

module _ {L : Type 0} where
  abbrev place_in : Lane L → Place
  place_in l = l.place

  abbrev link_in : Lane L → L
  link_in l = l.link

  abbrev HasLimit : Lane L → Type 0
  HasLimit l = l.conn.limit ≡ ANSWER_LIMIT

-- Lanes to the first of some places, over the first of some links: these links are left.
pub record AreFilled {L : Type 0} (places : List Place) (links : List L) (lanes : List (Lane L)) (left : List L) : Type 0 where
  pub ahead : List Place
  pub places_are : map (λ (l : Lane L). l.place) lanes ++ ahead ≡ places
  pub links_are : map (λ (l : Lane L). l.link) lanes ++ left ≡ links
  pub limits : All (λ (l : Lane L). l.conn.limit ≡ ANSWER_LIMIT) lanes

module _ {L : Type 0} (places : List Place) (links : List L) where
  pub filled_none : (left : List L) → left ≡ links → AreFilled places links [] left
  filled_none left is = record { ahead = places; places_are = refl; links_are = is; limits = All-nil (λ (l : Lane L). l.conn.limit ≡ ANSWER_LIMIT) }

  pub filled_more : (lanes : List (Lane L)) (before left : List L) (link : L) (place : Place) (lane : Lane L) → before ≡ link ∷ left
      → slice_get places (length lanes) ≡ Some place → lane.place ≡ place → lane.conn.limit ≡ ANSWER_LIMIT → lane.link ≡ link
      → AreFilled places links lanes before → AreFilled places links (lanes ++ lane ∷ []) left
  filled_more lanes before left link place lane is found to limit over f =
      let there : slice_get places (length (map place_in lanes)) ≡ Some place = ap (slice_get places) (length-map lanes place_in) ∙ found in
      let behind = next (map place_in lanes) f.ahead places place f.places_are there in
      record {
        ahead = behind.0;
        places_are = one_on place_in lanes lane place f.ahead behind.0 places f.places_are behind.1 to;
        links_are = one_on link_in lanes lane link before left links f.links_are is over;
        limits = All-append HasLimit lanes (lane ∷ []) f.limits (All-cons HasLimit lane [] limit (All-nil HasLimit));
      }

  counted_ahead : (lanes : List (Lane L)) (left : List L) → (f : AreFilled places links lanes left)
      → (length lanes + length f.ahead ≡ length places) × (length lanes + length left ≡ length links)
  counted_ahead lanes left f = (
    ap (λ n. n + length f.ahead) (sym (length-map lanes place_in)) ∙ sym (length-append (map place_in lanes) f.ahead) ∙ ap length f.places_are,
    ap (λ n. n + length left) (sym (length-map lanes link_in)) ∙ sym (length-append (map link_in lanes) left) ∙ ap length f.links_are,
  )

  -- all links have a place, and all places a link
  pub filled_all : (lanes : List (Lane L)) (left : List L) → left ≡ [] → length places ≤ length lanes → AreFilled places links lanes left → AreLanesOver places links lanes
  filled_all lanes left none many f =
      let counted = (counted_ahead lanes left f).0 in
      let no_ahead = no_items f.ahead (omega (arith, counted, many)) in record {
        places_are = sym (append-nil (map place_in lanes)) ∙ ap (λ (l : List Place). map place_in lanes ++ l) (sym no_ahead) ∙ f.places_are;
        limits = f.limits;
        links_are = sym (append-nil (map link_in lanes)) ∙ ap (λ (l : List L). map link_in lanes ++ l) (sym none) ∙ f.links_are;
      }

  -- there are fewer links, or more
  pub filled_short : (lanes : List (Lane L)) (left : List L) → left ≡ [] → length lanes < length places → AreFilled places links lanes left → Fit places links → ⊥
  filled_short lanes left none few f fit = omega (arith, (counted_ahead lanes left f).1, ap length none, few, fit)

  pub filled_long : (lanes : List (Lane L)) (before left : List L) (link : L) → before ≡ link ∷ left → slice_get places (length lanes) ≡ None
      → AreFilled places links lanes before → Fit places links → ⊥
  filled_long lanes before left link is found f fit =
      let there : slice_get places (length (map place_in lanes)) ≡ None = ap (slice_get places) (length-map lanes place_in) ∙ found in
      let no_ahead = none_next (map place_in lanes) f.ahead places f.places_are there in
      let counted = counted_ahead lanes before f in
      omega (arith, counted.0, counted.1, ap length no_ahead, ap length is, fit)

-- Workers with lanes over the first of some lists of links: these lists are left.
pub record AreFilledWorkers {L : Type 0} (places : List Place) (lists : List (Vec L Global)) (workers : List (Vec (Lane L) Global)) (left : List (Vec L Global)) : Type 0 where
  pub done : List (Vec L Global)
  pub done_are : done ++ left ≡ lists
  pub each : AreWorkersOver places (links_in done) (lists_of workers)

module _ {L : Type 0} (places : List Place) (lists : List (Vec L Global)) where
  abbrev links_at : Vec L Global → List L
  links_at v = v.items

  abbrev lanes_at : Vec (Lane L) Global → List (Lane L)
  lanes_at v = v.items

  pub workers_none : (left : List (Vec L Global)) → left ≡ lists → AreFilledWorkers places lists [] left
  workers_none left is = record { done = []; done_are = is; each = tt }

  pub workers_more : (workers : List (Vec (Lane L) Global)) (before left : List (Vec L Global)) (links : Vec L Global) (lanes : Vec (Lane L) Global)
      → before ≡ links ∷ left → AreLanesOver places links.items lanes.items
      → AreFilledWorkers places lists workers before → AreFilledWorkers places lists (workers ++ lanes ∷ []) left
  workers_more workers before left links lanes is over f = record {
    done = f.done ++ links ∷ [];
    done_are = append_assoc f.done (links ∷ []) left ∙ ap (λ (l : List (Vec L Global)). f.done ++ l) (sym is) ∙ f.done_are;
    each = subst (λ (ls : List (List L)). AreWorkersOver places ls (lists_of (workers ++ lanes ∷ []))) (sym (map-append links_at f.done (links ∷ [])))
        (subst (λ (ws : List (List (Lane L))). AreWorkersOver places (links_in f.done ++ links.items ∷ []) ws) (sym (map-append lanes_at workers (lanes ∷ [])))
        (zip_on (AreLanesOver places) (links_in f.done) (lists_of workers) links.items lanes.items f.each over));
  }

  pub workers_all : (workers : List (Vec (Lane L) Global)) (left : List (Vec L Global)) → left ≡ [] → AreFilledWorkers places lists workers left
      → AreWorkersOver places (links_in lists) (lists_of workers)
  workers_all workers left none f =
      let all : f.done ≡ lists = sym (append-nil f.done) ∙ ap (λ (l : List (Vec L Global)). f.done ++ l) (sym none) ∙ f.done_are in
      subst (λ (l : List (Vec L Global)). AreWorkersOver places (links_in l) (lists_of workers)) all f.each

  -- some list doesn't fit
  pub workers_unfit : (workers : List (Vec (Lane L) Global)) (before left : List (Vec L Global)) (links : Vec L Global) → before ≡ links ∷ left
      → (Fit places links.items → ⊥) → AreFilledWorkers places lists workers before → All (Fit places) (links_in lists) → ⊥
  workers_unfit workers before left links is unfit f all =
      unfit (at_seam f.done (subst (λ (l : List (Vec L Global)). All (Fit places) (links_in l)) (sym f.done_are ∙ ap (λ (l : List (Vec L Global)). f.done ++ l) is) all))
    where
      at_seam : (done : List (Vec L Global)) → All (Fit places) (links_in (done ++ links ∷ left)) → Fit places links.items
      at_seam [] each = All-head (Fit places) links.items (links_in left) each
      at_seam (v ∷ done) each = at_seam done (All-tail (Fit places) v.items (links_in (done ++ links ∷ left)) each)

-- what lanes over links are to a roster
module _ {L : Type 0} (r : Roster) where
  pub all_lanes : (lists : List (List L)) (workers : List (List (Lane L))) → AreWorkersOver r.bidders lists workers → All (AreLanes r) workers
  all_lanes [] [] each = All-nil (λ (w : List (Lane L)). AreLanes r w)
  all_lanes [] (w ∷ workers) each = absurd each
  all_lanes (l ∷ lists) [] each = absurd each
  all_lanes (l ∷ lists) (w ∷ workers) each =
      All-cons (λ (w : List (Lane L)). AreLanes r w) w workers (record { places = each.0.places_are; limits = each.0.limits }) (all_lanes lists workers each.1)

  pub all_fit : (lists : List (List L)) (workers : List (List (Lane L))) → AreWorkersOver r.bidders lists workers → All (Fit r.bidders) lists
  all_fit [] [] each = All-nil (λ (l : List L). Fit r.bidders l)
  all_fit [] (w ∷ workers) each = absurd each
  all_fit (l ∷ lists) [] each = absurd each
  all_fit (l ∷ lists) (w ∷ workers) each =
      let o = each.0 in
      All-cons (λ (l : List L). Fit r.bidders l) l lists
      (ap length (sym o.links_are) ∙ length-map w link_in ∙ sym (length-map w place_in) ∙ ap length o.places_are)
      (all_fit lists workers each.1)

  -- there are as many workers as lists
  pub as_many : (lists : List (Vec L Global)) (workers : List (Vec (Lane L) Global)) → AreWorkersOver r.bidders (links_in lists) (lists_of workers) → length workers ≡ length lists
  as_many lists workers each =
      sym (length-map workers lanes_at') ∙ zip_length (AreLanesOver r.bidders) (links_in lists) (lists_of workers) each ∙ length-map lists links_at'
    where
      lanes_at' : Vec (Lane L) Global → List (Lane L)
      lanes_at' v = v.items

      links_at' : Vec L Global → List L
      links_at' v = v.items
