-- What following entries, and trying posts, makes of what became of the posts of a history.
use Rattle.std.proofs.Common.{◌≡◌, ℕ, suc, pred, List, [], ◌∷◌, ◌++◌, length, take, drop, All, Contains, IsPermutation, Bool, true, false, if◌then◌else◌, refl, sym, ap, ◌∙◌, subst, append_assoc, append-nil}
use Rattle.std.proofs.lemmas.List.{take-append-drop}
use Rattle.std.proofs.lemmas.List.Elements.{All-append, All-contains, All-contains_itself, All-nil, All-take, All-weaker, Contains-append_left, Contains-append_right, Contains-get_or}
use Rattle.std.proofs.lemmas.List.Sorted.{All-permutation, IsPermutation-append, IsPermutation-append_comm, IsPermutation-append_left, IsPermutation-append_right, IsPermutation-cons, IsPermutation-middle, IsPermutation-refl, IsPermutation-sym, IsPermutation-trans}
use Rattle.adx_links.specs.declared.link.Link as links
use Rattle.day_rules.specs.declared.entry.Entry.{Entry}
use Rattle.outbox.specs.Posts.{posts_behind, posts_by, posts_of}
use Rattle.outbox.specs.Pumping.{AreTried, left_of, stays}
use Rattle.outbox.specs.declared.outbox.TheConstants.{ANSWER_LIMIT}
use Rattle.outbox.specs.declared.post.Post.{Post}
use Rattle.outbox.specs.declared.report.Outcome.{Outcome}
use Rattle.desk_board.specs.Tending.{AreTended, settled_by}

-- the posts of some entries and then of others
posts_append : (before es fs : List Entry) → posts_behind before (es ++ fs) ≡ posts_behind before es ++ posts_behind (before ++ es) fs
posts_append before [] fs = ap (λ (b : List Entry). posts_behind b fs) (sym (append-nil before))
posts_append before (e ∷ es) fs =
    ap (λ (t : List Post). posts_by before e ++ t) (posts_append (before ++ e ∷ []) es fs)
    ∙ (sym (append_assoc (posts_by before e) (posts_behind (before ++ e ∷ []) es) (posts_behind ((before ++ e ∷ []) ++ es) fs))
    ∙ ap (λ (b : List Entry). posts_behind before (e ∷ es) ++ posts_behind b fs) (append_assoc before (e ∷ []) es))

-- what some tries settled and then others
pub settled_append : (ps : List Post) (os : List Outcome) (qs : List Post) (rs : List Outcome) → length os ≡ length ps → settled_by (ps ++ qs) (os ++ rs) ≡ settled_by ps os ++ settled_by qs rs
settled_append [] [] qs rs e = refl
settled_append [] (o ∷ os) qs rs e = absurd (cc e)
settled_append (p ∷ ps) [] qs rs e = absurd (cc e)
settled_append (p ∷ ps) (o ∷ os) qs rs e = go (stays o) (settled_append ps os qs rs (ap pred e))
  where
    go : (b : Bool) → settled_by (ps ++ qs) (os ++ rs) ≡ settled_by ps os ++ settled_by qs rs →
        (if b then settled_by (ps ++ qs) (os ++ rs) else p ∷ settled_by (ps ++ qs) (os ++ rs)) ≡ (if b then settled_by ps os else p ∷ settled_by ps os) ++ settled_by qs rs
    go true rest = rest
    go false rest = ap (λ (l : List Post). p ∷ l) rest

-- each post is either settled by its try or left
pub parted : (ps : List Post) (os : List Outcome) → IsPermutation (settled_by (take (length os) ps) os ++ left_of ps os) ps
parted [] [] = IsPermutation-refl []
parted [] (o ∷ os) = IsPermutation-refl []
parted (p ∷ ps) [] = IsPermutation-refl (p ∷ ps)
parted (p ∷ ps) (o ∷ os) = go (stays o) (parted ps os)
  where
    settled : List Post
    settled = settled_by (take (length os) ps) os

    left : List Post
    left = left_of ps os

    go : (b : Bool) → IsPermutation (settled ++ left) ps → IsPermutation ((if b then settled else p ∷ settled) ++ (if b then p ∷ left else left)) (p ∷ ps)
    go true rest = IsPermutation-trans _ _ _ (IsPermutation-middle settled p left) (IsPermutation-cons p _ _ rest)
    go false rest = IsPermutation-cons p _ _ rest

-- of a list that is in two parts
pub all_right : (P : Post → Type 0) (xs ys : List Post) → All P (xs ++ ys) → All P ys
all_right P xs ys h k d lt = All-contains P (xs ++ ys) _ h (Contains-append_right xs ys _ (Contains-get_or ys k d lt))

-- where none was tried all are left
pub none_left : (ps : List Post) → left_of ps [] ≡ ps
none_left [] = refl
none_left (p ∷ ps) = refl

module _ {L : Type 0} (l : links.Ghosts L) where
  abbrev pub Tried : List Post → List Outcome → L → L → Type 0
  Tried = AreTried l.exchanges l.course l.faults l.place ANSWER_LIMIT

  -- each post has its outcome
  pub tried_long : (ps : List Post) (os : List Outcome) (a b : L) → Tried ps os a b → length os ≡ length ps
  tried_long [] [] a b t = refl
  tried_long [] (o ∷ os) a b t = absurd t
  tried_long (p ∷ ps) [] a b t = absurd t
  tried_long (p ∷ ps) (o ∷ os) a b t = ap suc (tried_long ps os t.0 b t.2)

  -- some tries and then others
  pub tried_append : (ps : List Post) (os : List Outcome) (qs : List Post) (rs : List Outcome) (a b c : L) → Tried ps os a b → Tried qs rs b c → Tried (ps ++ qs) (os ++ rs) a c
  tried_append [] [] qs rs a b c t u = subst (λ (x : L). Tried qs rs x c) t u
  tried_append [] (o ∷ os) qs rs a b c t u = absurd t
  tried_append (p ∷ ps) [] qs rs a b c t u = absurd t
  tried_append (p ∷ ps) (o ∷ os) qs rs a b c t u = (t.0, t.1, tried_append ps os qs rs t.0 b c t.2 u)

  -- nothing was followed yet
  pub tended_first : (pending : List Post) (link : L) → pending ≡ [] → AreTended l [] pending link link
  tended_first pending link none = record {
    tried = [];
    outcomes = [];
    tries = refl;
    own = All-nil (Contains (posts_of []));
    each_once = subst (λ (ps : List Post). IsPermutation ps []) (sym none) (IsPermutation-refl []);
  }

  -- further entries were followed, whose posts are pending
  pub tended_on : (history more : List Entry) (pending now : List Post) (link link_now : L) → now ≡ pending ++ posts_behind history more →
      AreTended l history pending link link_now → AreTended l (history ++ more) now link link_now
  tended_on history more pending now link link_now is t =
      let whole : posts_of (history ++ more) ≡ posts_of history ++ posts_behind history more = posts_append [] history more in
      let settled = settled_by t.tried t.outcomes in record {
        tried = t.tried;
        outcomes = t.outcomes;
        tries = t.tries;
        own = All-weaker (Contains (posts_of history)) (Contains (posts_of (history ++ more)))
            (λ p here. subst (λ (ps : List Post). Contains ps p) (sym whole) (Contains-append_left (posts_of history) (posts_behind history more) p here)) t.tried t.own;
        each_once = subst (IsPermutation (settled ++ now)) (sym whole)
            (subst (λ (ps : List Post). IsPermutation (settled ++ ps) (posts_of history ++ posts_behind history more)) (sym is)
            (subst (λ (ps : List Post). IsPermutation ps (posts_of history ++ posts_behind history more)) (append_assoc settled pending (posts_behind history more))
            (IsPermutation-append (settled ++ pending) (posts_of history) (posts_behind history more) (posts_behind history more) t.each_once (IsPermutation-refl (posts_behind history more)))));
      }

  -- the first of the pending posts were tried once more
  abbrev pub tended_more : (history : List Entry) (pending now : List Post) (os : List Outcome) (link mid link_now : L) → now ≡ left_of pending os → Tried (take (length os) pending) os mid link_now →
      AreTended l history pending link mid → AreTended l history now link link_now
  tended_more history pending now os link mid link_now is tries t =
      let first = take (length os) pending in
      let settled = settled_by t.tried t.outcomes in
      let more = settled_by first os in
      let posts = posts_of history in
      let pending_are : All (Contains posts) pending = all_right (Contains posts) settled pending (All-permutation (Contains posts) posts (settled ++ pending) (IsPermutation-sym (settled ++ pending) posts t.each_once) (All-contains_itself posts)) in
      let both : settled_by (t.tried ++ first) (t.outcomes ++ os) ≡ settled ++ more = settled_append t.tried t.outcomes first os (tried_long t.tried t.outcomes link mid t.tries) in record {
        tried = t.tried ++ first;
        outcomes = t.outcomes ++ os;
        tries = tried_append t.tried t.outcomes first os link mid link_now t.tries tries;
        own = All-append (Contains posts) t.tried first t.own (All-take (Contains posts) (length os) pending pending_are);
        each_once = subst (λ (ps : List Post). IsPermutation (ps ++ now) posts) (sym both)
            (subst (λ (ps : List Post). IsPermutation ((settled ++ more) ++ ps) posts) (sym is)
            (subst (λ (ps : List Post). IsPermutation ps posts) (sym (append_assoc settled more (left_of pending os)))
            (IsPermutation-trans _ _ _ (IsPermutation-append settled settled (more ++ left_of pending os) pending (IsPermutation-refl settled) (parted pending os)) t.each_once)));
      }

  -- so many of the pending posts from a place on were tried once more
  pub tended_part : (history : List Entry) (first : ℕ) (pending now : List Post) (os : List Outcome) (link mid link_now : L) → now ≡ take first pending ++ left_of (drop first pending) os →
      Tried (take (length os) (drop first pending)) os mid link_now → AreTended l history pending link mid → AreTended l history now link link_now
  tended_part history first pending now os link mid link_now is tries t =
      let front = take first pending in
      let rest = drop first pending in
      let some = take (length os) rest in
      let left = left_of rest os in
      let settled = settled_by t.tried t.outcomes in
      let more = settled_by some os in
      let posts = posts_of history in
      let pending_are : All (Contains posts) pending = all_right (Contains posts) settled pending (All-permutation (Contains posts) posts (settled ++ pending) (IsPermutation-sym (settled ++ pending) posts t.each_once) (All-contains_itself posts)) in
      let rest_are : All (Contains posts) rest = all_right (Contains posts) front rest (subst (All (Contains posts)) (sym (take-append-drop first pending)) pending_are) in
      let both : settled_by (t.tried ++ some) (t.outcomes ++ os) ≡ settled ++ more = settled_append t.tried t.outcomes some os (tried_long t.tried t.outcomes link mid t.tries) in
      let parts : IsPermutation (more ++ (front ++ left)) (front ++ rest) = IsPermutation-trans _ _ _
      (subst (λ (ps : List Post). IsPermutation ps ((front ++ more) ++ left)) (append_assoc more front left) (IsPermutation-append_left left (more ++ front) (front ++ more) (IsPermutation-append_comm more front)))
      (subst (λ (ps : List Post). IsPermutation ps (front ++ rest)) (sym (append_assoc front more left)) (IsPermutation-append_right front (more ++ left) rest (parted rest os))) in
      let whole : IsPermutation (more ++ (front ++ left)) pending = subst (IsPermutation (more ++ (front ++ left))) (take-append-drop first pending) parts in record {
        tried = t.tried ++ some;
        outcomes = t.outcomes ++ os;
        tries = tried_append t.tried t.outcomes some os link mid link_now t.tries tries;
        own = All-append (Contains posts) t.tried some t.own (All-take (Contains posts) (length os) rest rest_are);
        each_once = subst (λ (ps : List Post). IsPermutation (ps ++ now) posts) (sym both)
            (subst (λ (ps : List Post). IsPermutation ((settled ++ more) ++ ps) posts) (sym is)
            (subst (λ (ps : List Post). IsPermutation ps posts) (sym (append_assoc settled more (front ++ left)))
            (IsPermutation-trans _ _ _ (IsPermutation-append settled settled (more ++ (front ++ left)) pending (IsPermutation-refl settled) whole) t.each_once)));
      }
