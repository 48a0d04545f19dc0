-- What bringing an outbox up makes of it, and of the pass beside it.
use Rattle.std.proofs.Common.{◌≡◌, ℕ, ◌+◌, List, [], ◌∷◌, ◌++◌, ◌≤◌, length, take, drop, Option, Ok, Err, OnOk, OnErr, refl, sym, ap, ◌∙◌, subst, append_assoc, append-nil, length-append, arith}
use Rattle.std.proofs.Math.Seq.{drop-append_seam, take-append_seam, take-length}
use Rattle.std.proofs.lemmas.List.{take-append-drop, take_all}
use Rattle.std.specs.Prelude.{min, ◌-◌, ◌^◌, Result, IfOk}
use mathlib.Core.List.{IsPrefix}
use Rattle.adx_desk.specs.declared.shared.OpenedWith.{OpenedWith}
use Rattle.adx_desk.specs.Shared.{terms_in}
use Rattle.adx_links.specs.declared.link.Link as links
use Rattle.adx_units.specs.declared.memory.OutOfMemory.{OutOfMemory}
use Rattle.day_rules.specs.DayState.{IsDay}
use Rattle.day_rules.specs.declared.entry.Entry.{Entry}
use Rattle.day_rules.specs.Terms.{Terms}
use Rattle.outbox.specs.Following.{AreRowsOf, Follows, HasFollowed, OutboxState}
use Rattle.outbox.specs.Posts.{posts_behind}
use Rattle.outbox.specs.Pumping.{Pumps, PumpsPart, given_up_with, left_of, part_of, report_of}
use Rattle.outbox.specs.declared.outbox.TheConstants.{ANSWER_LIMIT}
use Rattle.outbox.specs.declared.post.Post.{Post}
use Rattle.outbox.specs.declared.report.Report.{Report}
use Rattle.shared_desk.specs.Callers.{DeskPass, IsRightPass, Looks}
use Rattle.turnstile.specs.Passes.{IsOf, TurnstileState}
use Rattle.shared_desk.specs.Idle.{IsIdle}
use Rattle.desk_board.specs.Rooms.{BringsUp, FollowsUp, GoesOver, HasTended, IsMailroom, IsTended, KeepsUp, Tends, TendsTold}
use Rattle.desk_board.specs.Tending.{AreTriedOnce, due_behind}
use Rattle.desk_board.specs.declared.mail.Mail.{Mail}
use Rattle.desk_board.specs.declared.mailroom.TheConstants.{PIECE}
use Rattle.desk_board.proofs.Tending.{Tried, none_left, tended_first, tended_more, tended_on, tended_part}

module _ {A : Type 0} where
  pub on_prefix : (xs ys zs : List A) → IsPrefix xs ys → IsPrefix ys zs → IsPrefix xs zs
  on_prefix xs ys zs p q = (p.0 ++ q.0, sym (append_assoc xs p.0 q.0) ∙ (ap (λ (l : List A). l ++ q.0) p.1 ∙ q.1))

  -- what is behind a front
  pub behind_front : (front all : List A) → IsPrefix front all → front ++ drop (length front) all ≡ all
  behind_front front all p = subst (λ (l : List A). front ++ drop (length front) l ≡ l) p.1 (ap (λ (l : List A). front ++ l) (dropped front p.0))
    where
      dropped : (xs ys : List A) → drop (length xs) (xs ++ ys) ≡ ys
      dropped [] ys = refl
      dropped (x ∷ xs) ys = dropped xs ys

  -- some of what is behind it
  pub front_on : (front more all : List A) → IsPrefix front all → IsPrefix more (drop (length front) all) → IsPrefix (front ++ more) all
  front_on front more all p q = (q.0, append_assoc front more q.0 ∙ (ap (λ (l : List A). front ++ l) q.1 ∙ behind_front front all p))

  take_front : (k : ℕ) (xs : List A) → IsPrefix (take k xs) xs
  take_front k xs = (drop k xs, take-append-drop k xs)

module _ {T : Type 0} where
  -- by what is said where it isn't Ok
  ok_of : (a : Result T OutOfMemory) (P : Type 0) → OnErr a ⊥ → OnOk a P → P
  ok_of (Ok x) P none p = p
  ok_of (Err e) P none p = absurd none

  on_ok : (a : Result T OutOfMemory) (P Q : Type 0) → (P → Q) → OnOk a P → OnOk a Q
  on_ok (Ok x) P Q f p = f p
  on_ok (Err e) P Q f p = tt

  -- what holds anyway
  if_ok : (a : Result T OutOfMemory) (P : Type 0) → P → OnOk a P
  if_ok (Ok x) P p = p
  if_ok (Err e) P p = tt

module _ {L : Type 0} (l : links.Ghosts L) where
  -- a new outbox
  pub tended_new : (box : OutboxState) (link : L) → HasFollowed [] box → box.pending ≡ [] → HasTended l [] link (record { outbox = box; link = link })
  tended_new box link followed none = record { followed = followed; tended = tended_first l box.pending link none }

  -- it followed, and a round went over its posts
  pub brings_up : (history entries : List Entry) (link : L) (old new : Mail L) (mid : OutboxState) (a : Result Unit OutOfMemory) (b : Result Report OutOfMemory) (r : Result Unit OutOfMemory) →
      Follows history entries a old.outbox mid → Pumps l.exchanges l.course l.faults l.place ANSWER_LIMIT old.link new.link b mid new.outbox →
      OnOk r (OnErr a ⊥ × OnErr b ⊥) → HasTended l history link old → BringsUp l history entries link old new r
  brings_up history entries link old new mid a b r f p went h =
      let more = take f.done entries in
      let due = due_behind old.outbox.pending history more in
      let count = length p.outcomes in
      let tended = tended_on l history more old.outbox.pending mid.pending link old.link f.posts h.tended in
      let now = tended_more l (history ++ more) mid.pending new.outbox.pending p.outcomes link old.link new.link p.pending p.tried tended in
      let whole : (done : ℕ) → done ≡ length entries → take done entries ≡ entries = λ done is. ap (λ (n : ℕ). take n entries) is ∙ take-length entries in
      record {
        more = more;
        begins = take_front f.done entries;
        has = record {
          followed = record { count = p.followed ∙ f.followed.count; rows = subst (AreRowsOf (history ++ more)) (sym p.kept) f.followed.rows };
          tended = now;
        };
        round = record {
          outcomes = p.outcomes;
          few = subst (λ (ps : List Post). count ≤ length ps) f.posts p.few;
          tries = subst (λ (ps : List Post). Tried l (take count ps) p.outcomes old.link new.link) f.posts p.tried;
          pending_are = p.pending ∙ ap (λ (ps : List Post). left_of ps p.outcomes) f.posts;
        };
        all = on_ok r (OnErr a ⊥ × OnErr b ⊥) (more ≡ entries) (λ w. whole f.done (ok_of a (f.done ≡ length entries) w.0 f.all)) went;
        each_tried = on_ok r (OnErr a ⊥ × OnErr b ⊥) (count ≡ length due)
            (λ w. ok_of b (count ≡ length mid.pending) w.1 p.all ∙ ap (λ (ps : List Post). length ps) f.posts) went;
      }

  -- it followed, and tried no post
  pub follows_up : (history entries : List Entry) (link : L) (old : Mail L) (mid : OutboxState) (r : Result Unit OutOfMemory) → Follows history entries r old.outbox mid → HasTended l history link old →
      FollowsUp l history entries link old (record { outbox = mid; link = old.link }) r
  follows_up history entries link old mid r f h =
      let more = take f.done entries in record {
        more = more;
        begins = take_front f.done entries;
        has = record { followed = f.followed; tended = tended_on l history more old.outbox.pending mid.pending link old.link f.posts h.tended };
        posts = f.posts;
        link_same = refl;
        all = on_ok r (f.done ≡ length entries) (more ≡ entries) (λ is. ap (λ (n : ℕ). take n entries) is ∙ take-length entries) f.all;
      }

  -- some of the posts were tried
  pub tended_over : (history : List Entry) (link : L) (first most : ℕ) (old new : Mail L) (r : Result Report OutOfMemory) → GoesOver l first most old new r → HasTended l history link old → HasTended l history link new
  tended_over history link first most old new r p h = record {
    followed = record { count = p.followed ∙ h.followed.count; rows = subst (AreRowsOf history) (sym p.kept) h.followed.rows };
    tended = tended_part l history first old.outbox.pending new.outbox.pending p.outcomes link old.link new.link p.pending p.tried h.tended;
  }

  -- behind those that were pending
  round_of : (before fresh : List Post) (mid : OutboxState) (most : ℕ) (link link_now : L) (r : Result Report OutOfMemory) (new : OutboxState) → mid.pending ≡ before ++ fresh → length fresh ≤ most →
      PumpsPart l.exchanges l.course l.faults l.place ANSWER_LIMIT (length before) most link link_now r mid new →
      (left : List Post) × (round : AreTriedOnce l fresh left link link_now) × (new.pending ≡ before ++ left) × OnOk r (length round.outcomes ≡ length fresh)
  round_of before fresh mid most link link_now r new is all p =
      let os = p.outcomes in
      let rest : drop (length before) mid.pending ≡ fresh = ap (λ (ps : List Post). drop (length before) ps) is ∙ drop-append_seam before fresh in
      let front : take (length before) mid.pending ≡ before = ap (λ (ps : List Post). take (length before) ps) is ∙ take-append_seam before fresh in
      let part : part_of (length before) most mid.pending ≡ fresh = ap (λ (ps : List Post). take most ps) rest ∙ take_all most fresh all in (
        left_of fresh os,
        record {
          outcomes = os;
          few = subst (λ (ps : List Post). length os ≤ length ps) part p.few;
          tries = subst (λ (ps : List Post). Tried l (take (length os) ps) os link link_now) rest p.tried;
          pending_are = refl;
        },
        p.pending ∙ (λ i. front i ++ left_of (rest i) os),
        subst (λ (ps : List Post). OnOk r (length os ≡ length ps)) part p.all,
      )

  -- entries were followed, and their posts tried
  pub keeps_up : {T : Type 0} (history entries : List Entry) (link : L) (place all : ℕ) (old mid new : Mail L) (a : Result Unit OutOfMemory) (b : Result Report OutOfMemory) (r : Result T OutOfMemory) →
      place ≡ length old.outbox.pending → FollowsUp l history entries link old mid a → all ≡ length mid.outbox.pending → GoesOver l place all mid new b →
      OnOk r (OnErr a ⊥ × OnErr b ⊥) → KeepsUp l history entries link old new r
  keeps_up history entries link place all old mid new a b r is f all_is p went =
      let fresh = posts_behind history f.more in
      let at : PumpsPart l.exchanges l.course l.faults l.place ANSWER_LIMIT (length old.outbox.pending) all old.link new.link b mid.outbox new.outbox =
      subst (λ (n : ℕ). PumpsPart l.exchanges l.course l.faults l.place ANSWER_LIMIT n all old.link new.link b mid.outbox new.outbox) is
      (subst (λ (k : L). PumpsPart l.exchanges l.course l.faults l.place ANSWER_LIMIT place all k new.link b mid.outbox new.outbox) f.link_same p) in
      let few : length fresh ≤ all = omega (arith, all_is, ap (λ (ps : List Post). length ps) f.posts, length-append old.outbox.pending fresh) in
      let t = round_of old.outbox.pending fresh mid.outbox all old.link new.link b new.outbox f.posts few at in record {
        more = f.more;
        begins = f.begins;
        has = tended_over (history ++ f.more) link place all mid new b p f.has;
        left = t.0;
        round = t.1;
        pending_are = t.2;
        all = on_ok r (OnErr a ⊥ × OnErr b ⊥) (f.more ≡ entries) (λ w. ok_of a (f.more ≡ entries) w.0 f.all) went;
        each_tried = on_ok r (OnErr a ⊥ × OnErr b ⊥) (length t.1.outcomes ≡ length fresh) (λ w. ok_of b (length t.1.outcomes ≡ length fresh) w.1 t.3) went;
      }

  -- no entry was followed
  keeps_none : {T : Type 0} (history entries : List Entry) (link : L) (mail : Mail L) (wanting : OutOfMemory) → HasTended l history link mail → KeepsUp l {T = T} history entries link mail mail (Err wanting)
  keeps_none history entries link mail wanting h = record {
    more = [];
    begins = (entries, refl);
    has = subst (λ (es : List Entry). HasTended l es link mail) (sym (append-nil history)) h;
    left = [];
    round = record { outcomes = []; few = omega arith; tries = refl; pending_are = refl };
    pending_are = sym (append-nil mail.outbox.pending);
    all = tt;
    each_tried = tt;
  }

  -- the same where something else is answered of it
  keeps_else : {T S : Type 0} (history entries : List Entry) (link : L) (old new : Mail L) (r : Result T OutOfMemory) (s : Result S OutOfMemory) → OnOk s (OnErr r ⊥) → KeepsUp l history entries link old new r → KeepsUp l history entries link old new s
  keeps_else history entries link old new r s ok k = record {
    more = k.more;
    begins = k.begins;
    has = k.has;
    left = k.left;
    round = k.round;
    pending_are = k.pending_are;
    all = on_ok s (OnErr r ⊥) (k.more ≡ entries) (λ w. ok_of r (k.more ≡ entries) w k.all) ok;
    each_tried = on_ok s (OnErr r ⊥) (length k.round.outcomes ≡ length (posts_behind history k.more)) (λ w. ok_of r (length k.round.outcomes ≡ length (posts_behind history k.more)) w k.each_tried) ok;
  }

  -- memory was wanting while pending posts were tried
  pub tends_none : {T : Type 0} (history entries : List Entry) (link : L) (first most : ℕ) (old new : Mail L) (again : Result Report OutOfMemory) (wanting : OutOfMemory) → GoesOver l first most old new again → HasTended l history link old →
      Tends l {T = T} history entries link first most old new (Err wanting)
  tends_none history entries link first most old new again wanting over h = record {
    between = new;
    again = again;
    over = over;
    each_over = tt;
    keeps = keeps_none history entries link new wanting (tended_over history link first most old new again over h);
  }

  -- pending posts were tried, and memory was wanting then
  pub tends_short : {T : Type 0} (history entries : List Entry) (link : L) (first most : ℕ) (old between new : Mail L) (again : Result Report OutOfMemory) (r : Result T OutOfMemory) (wanting : OutOfMemory) →
      GoesOver l first most old between again → HasTended l history link old → (HasTended l history link between → KeepsUp l history entries link between new r) → TendsTold l history entries link first most old new (Err wanting)
  tends_short history entries link first most old between new again r wanting over h keeps = record {
    tends = record {
      between = between;
      again = again;
      over = over;
      each_over = tt;
      keeps = keeps_else history entries link between new r (Err wanting) tt (keeps (tended_over history link first most old between again over h));
    };
    report = tt;
  }

  -- pending posts were tried, and then it kept up
  pub tends_told : {T : Type 0} (history entries : List Entry) (link : L) (first most : ℕ) (old between new : Mail L) (again : Result Report OutOfMemory) (r : Result T OutOfMemory) (report : Report) →
      GoesOver l first most old between again → again ≡ Ok report → OnErr r ⊥ → HasTended l history link old → (HasTended l history link between → KeepsUp l history entries link between new r) →
      TendsTold l history entries link first most old new (Ok report)
  tends_told history entries link first most old between new again r report over is done h keeps = record {
    tends = record {
      between = between;
      again = again;
      over = over;
      each_over = ok_of again (length over.outcomes ≡ length (part_of first most old.outbox.pending)) (subst (λ (a : Result Report OutOfMemory). OnErr a ⊥) (sym is) tt) over.all;
      keeps = keeps_else history entries link between new r (Ok report) done (keeps (tended_over history link first most old between again over h));
    };
    report = subst (λ (a : Result Report OutOfMemory). IfOk a (λ x. x ≡ report_of over.outcomes)) is over.report;
  }

  -- the pass is of the desk that the first one is of
  pub of_desk : (first p : DeskPass) (desk : TurnstileState OpenedWith) → IsOf first desk → IsIdle first p → IsOf p desk
  of_desk first p desk of idle = (idle.turnstile ∙ of.0, idle.fixed ∙ of.1)

  -- a look at the desk
  pub looked : (opened : OpenedWith) (first : DeskPass) (link : Option L) (mail : Mail L) (p q : DeskPass) → Looks opened p q → IsMailroom l first link mail p → IsMailroom l first link mail q
  looked opened first link mail p q looks room =
      let at = looks.1 in let same = at.same in let t = room.tended in
      let later : IsPrefix p.seen q.seen = on_prefix p.seen looks.0 q.seen at.answered.begins ([], sym at.answered.seen) in record {
        idle = record {
          turnstile = same.0 ∙ room.idle.turnstile;
          fixed = same.3 ∙ room.idle.fixed;
          split = same.1 ∙ room.idle.split;
          none = at.turns_are ∙ (append-nil p.turns ∙ room.idle.none);
          begins = on_prefix first.seen p.seen q.seen room.idle.begins later;
        };
        tended = record { before = t.before; before_is = t.before_is; history = t.history; begins = on_prefix t.history p.seen q.seen t.begins later; has = t.has };
      }

  -- an outbox that had followed a front of what was seen was tended with the entries behind that front
  module _ {T : Type 0} (opened : OpenedWith) (first : DeskPass) (link : Option L) (entries : List Entry) (place most : ℕ) (old new : Mail L) (p : DeskPass) (r : Result T OutOfMemory) where
    -- what is said of any history
    abbrev pub TendsAny : Type 0
    TendsAny = (terms : Terms) (history : List Entry) (before : L) → IsDay terms (history ++ entries) → HasTended l history before old → Tends l history entries before place most old new r

    tended_on_it : entries ≡ drop old.outbox.followed p.seen → IsRightPass opened p → TendsAny → (room : IsMailroom l first link old p) →
        (entries ≡ drop (length room.tended.history) p.seen) × (room.tended.history ++ entries ≡ p.seen) × Tends l room.tended.history entries room.tended.before place most old new r
    tended_on_it are right tends room =
        let t = room.tended in
        let rest : entries ≡ drop (length t.history) p.seen = are ∙ ap (λ (n : ℕ). drop n p.seen) t.has.followed.count in
        let whole : t.history ++ entries ≡ p.seen = ap (λ (es : List Entry). t.history ++ es) rest ∙ behind_front t.history p.seen t.begins in
        (rest, whole, tends (terms_in opened).day t.history t.before (subst (IsDay (terms_in opened).day) (sym whole) right.legal) t.has)

    -- it is one still
    pub tended_still : entries ≡ drop old.outbox.followed p.seen → IsRightPass opened p → TendsAny → IsMailroom l first link old p → IsMailroom l first link new p
    tended_still are right tends room =
        let t = room.tended in
        let on = tended_on_it are right tends room in
        let b = on.2 in record {
          idle = room.idle;
          tended = record {
            before = t.before;
            before_is = t.before_is;
            history = t.history ++ b.keeps.more;
            begins = front_on t.history b.keeps.more p.seen t.begins (subst (IsPrefix b.keeps.more) on.0 b.keeps.begins);
            has = b.keeps.has;
          };
        }

    -- and what that makes of the posts
    pub is_tended : entries ≡ drop old.outbox.followed p.seen → IsRightPass opened p → TendsAny → (length old.outbox.pending ≤ PIECE → (place ≡ 0) × (most ≡ PIECE)) → IsMailroom l first link old p →
        IsTended l link p.seen old new r
    is_tended are right tends few room =
        let t = room.tended in
        let on = tended_on_it are right tends room in record {
          before = t.before;
          before_is = t.before_is;
          history = t.history;
          had = t.has;
          entries = entries;
          seen_is = on.1;
          first = place;
          most = most;
          few = λ short. if_ok r ((place ≡ 0) × (most ≡ PIECE)) (few short);
          tends = on.2;
        }

  -- the same where something else is answered of it
  pub told_else : {T S : Type 0} (link : Option L) (seen : List Entry) (old new : Mail L) (r : Result T OutOfMemory) (s : Result S OutOfMemory) → (OnOk s (OnErr r ⊥)) → IsTended l link seen old new r → IsTended l link seen old new s
  told_else link seen old new r s ok t =
      let u = t.tends in record {
        before = t.before;
        before_is = t.before_is;
        history = t.history;
        had = t.had;
        entries = t.entries;
        seen_is = t.seen_is;
        first = t.first;
        most = t.most;
        few = λ short. on_ok s (OnErr r ⊥) ((t.first ≡ 0) × (t.most ≡ PIECE)) (λ w. ok_of r ((t.first ≡ 0) × (t.most ≡ PIECE)) w (t.few short)) ok;
        tends = record { between = u.between; again = u.again; over = u.over; each_over = on_ok s (OnErr r ⊥) (length u.over.outcomes ≡ length (part_of t.first t.most old.outbox.pending)) (λ w. ok_of r (length u.over.outcomes ≡ length (part_of t.first t.most old.outbox.pending)) w u.each_over) ok; keeps = keeps_else t.history t.entries t.before u.between new r s ok u.keeps };
      }

  -- nothing was followed, and no post was tried
  pub not_tended : {T : Type 0} (opened : OpenedWith) (first : DeskPass) (link : Option L) (mail : Mail L) (p q : DeskPass) (wanting : OutOfMemory) → Looks opened p q → IsMailroom l first link mail p → IsTended l {T = T} link q.seen mail mail (Err wanting)
  not_tended opened first link mail p q wanting looks room =
      let t = (looked opened first link mail p q looks room).tended in
      let entries = drop (length t.history) q.seen in record {
        before = t.before;
        before_is = t.before_is;
        history = t.history;
        had = t.has;
        entries = entries;
        seen_is = behind_front t.history q.seen t.begins;
        first = 0;
        most = 0;
        few = λ short. tt;
        tends = tends_none t.history entries t.before 0 0 mail mail (Ok (report_of [])) wanting (none_over mail) t.has;
      }
    where
      none_given_up : (before : ℕ) → before ≡ given_up_with before []
      none_given_up before = none before ((2 ^ 32 - 1) - before)
        where
          none : (a most : ℕ) → a ≡ a + min 0 most
          none a most = omega arith

      none_over : (mail : Mail L) → GoesOver l 0 0 mail mail (Ok (report_of []))
      none_over mail = record {
        outcomes = [];
        few = omega arith;
        all = refl;
        tried = refl;
        pending = sym (none_left mail.outbox.pending);
        followed = refl;
        kept = refl;
        given_up = none_given_up mail.outbox.undeliverable;
        report = refl;
      }
