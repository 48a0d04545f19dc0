-- Entries that are followed one after the other.
use Rattle.std.proofs.Common.{◌≡◌, ℕ, suc, ◌+◌, ◌<◌, ◌≤◌, List, [], ◌∷◌, ◌++◌, length, take, drop, get_or, refl, sym, ap, ◌∙◌, subst, arith, append_assoc, append-nil, Ok, Err}
use Rattle.std.proofs.Math.Seq.{drop-cons}
use Rattle.std.proofs.lemmas.List.{take-append-drop, take_all, take_more}
use Rattle.adx_units.specs.declared.memory.OutOfMemory.{OutOfMemory}
use Rattle.day_rules.specs.declared.entry.Entry.{Entry}
use Rattle.day_rules.specs.DayState.{IsDay}
use Rattle.day_rules.specs.Terms.{Terms}
use Rattle.day_rules.proofs.Histories.{legal_front}
use Rattle.outbox.specs.declared.post.Post.{Post}
use Rattle.outbox.specs.Posts.{posts_behind, posts_by}
use Rattle.outbox.specs.Following.{Follows, HasFollowed, OutboxState}
use Rattle.outbox.specs.Steps.{Continues}

-- the posts of one entry more
pub posts_more : (before es : List Entry) (e : Entry) → posts_behind before (es ++ e ∷ []) ≡ posts_behind before es ++ posts_by (before ++ es) e
posts_more before [] e = append-nil (posts_by before e) ∙ ap (λ (b : List Entry). posts_by b e) (sym (append-nil before))
posts_more before (f ∷ es) e =
    ap (λ (t : List Post). posts_by before f ++ t) (posts_more (before ++ f ∷ []) es e)
    ∙ (sym (append_assoc (posts_by before f) (posts_behind (before ++ f ∷ []) es) (posts_by ((before ++ f ∷ []) ++ es) e))
    ∙ ap (λ (b : List Entry). posts_behind before (f ∷ es) ++ posts_by b e) (append_assoc before (f ∷ []) es))

-- the posts of more entries come behind
pub posts_on : (before es fs : List Entry) → posts_behind before (es ++ fs) ≡ posts_behind before es ++ posts_behind (before ++ es) fs
posts_on before [] fs = ap (λ (b : List Entry). posts_behind b fs) (sym (append-nil before))
posts_on before (e ∷ es) fs =
    ap (λ (t : List Post). posts_by before e ++ t) (posts_on (before ++ e ∷ []) es fs)
    ∙ (sym (append_assoc (posts_by before e) (posts_behind (before ++ e ∷ []) es) (posts_behind ((before ++ e ∷ []) ++ es) fs))
    ∙ ap (λ (b : List Entry). posts_behind before (e ∷ es) ++ posts_behind b fs) (append_assoc before (e ∷ []) es))

one_more : (es : List Entry) (i : ℕ) (e : Entry) → i < length es → get_or es i e ≡ e → take (i + 1) es ≡ take i es ++ e ∷ []
one_more es i e within here = take_more es i e within ∙ ap (λ (x : Entry). take i es ++ x ∷ []) here

-- the outbox has followed the history and the first entries, whose posts are the last that are pending
pub record Stands (history es : List Entry) (i : ℕ) (old now : OutboxState) : Type 0 where
  pub followed : HasFollowed (history ++ take i es) now
  pub posts : now.pending ≡ old.pending ++ posts_behind history (take i es)
  pub given_up : now.undeliverable ≡ old.undeliverable

pub stands_first : (history es : List Entry) (old : OutboxState) → HasFollowed history old → Stands history es 0 old old
stands_first history es old followed = record {
  followed = subst (λ (h : List Entry). HasFollowed h old) (sym (append-nil history)) followed;
  posts = sym (append-nil old.pending);
  given_up = refl;
}

pub stands_more : (history es : List Entry) (i : ℕ) (e : Entry) (done : Unit) (old mid new : OutboxState) → i < length es → get_or es i e ≡ e
    → Stands history es i old mid → Continues (history ++ take i es) e (Ok done) mid new → Stands history es (i + 1) old new
stands_more history es i e done old mid new within here before now =
    let more : take (i + 1) es ≡ take i es ++ e ∷ [] = one_more es i e within here in
    record {
      followed = subst (λ (h : List Entry). HasFollowed h new) (append_assoc history (take i es) (e ∷ []) ∙ sym (ap (λ (t : List Entry). history ++ t) more)) now.0;
      posts =
          now.1
          ∙ (ap (λ (t : List Post). t ++ posts_by (history ++ take i es) e) before.posts
          ∙ (append_assoc old.pending (posts_behind history (take i es)) (posts_by (history ++ take i es) e)
          ∙ (sym (ap (λ (t : List Post). old.pending ++ t) (posts_more history (take i es) e))
          ∙ sym (ap (λ (t : List Entry). old.pending ++ posts_behind history t) more))));
      given_up = now.2 ∙ before.given_up;
    }

pub day_more : (terms : Terms) (history es : List Entry) (i : ℕ) (e : Entry) → i < length es → get_or es i e ≡ e → IsDay terms (history ++ es) → IsDay terms ((history ++ take i es) ++ e ∷ [])
day_more terms history es i e within here day =
    let next : suc i ≡ i + 1 = omega arith in
    let cut : es ≡ take i es ++ (e ∷ drop (i + 1) es) = sym (take-append-drop i es) ∙ ap (λ (t : List Entry). take i es ++ t) (drop-cons es i e within ∙ (ap (λ (x : Entry). x ∷ drop (suc i) es) here ∙ ap (λ k. e ∷ drop k es) next)) in
    let whole : history ++ es ≡ ((history ++ take i es) ++ e ∷ []) ++ drop (i + 1) es =
    ap (λ (t : List Entry). history ++ t) cut
    ∙ (sym (append_assoc history (take i es) (e ∷ drop (i + 1) es)) ∙ sym (append_assoc (history ++ take i es) (e ∷ []) (drop (i + 1) es))) in
    record {
      terms_ok = day.terms_ok;
      legal = legal_front terms ((history ++ take i es) ++ e ∷ []) (drop (i + 1) es) (subst (IsDay terms) whole day).legal;
    }

-- memory was wanting at an entry
pub follows_front : (history es : List Entry) (i : ℕ) (e : Entry) (wanting : OutOfMemory) (old mid new : OutboxState) → i < length es
    → Stands history es i old mid → Continues (history ++ take i es) e (Err wanting) mid new → Follows history es (Err wanting) old new
follows_front history es i e wanting old mid new within before now = record {
  done = i;
  few = omega (arith, within);
  all = tt;
  followed = now.0;
  posts = now.1 ∙ before.posts;
  given_up = now.2 ∙ before.given_up;
}

pub follows_all : (history es : List Entry) (i : ℕ) (done : Unit) (old now : OutboxState) → length es ≤ i → Stands history es i old now → Follows history es (Ok done) old now
follows_all history es i done old now past before =
    let all : take i es ≡ take (length es) es = take_all i es past ∙ sym (take_all (length es) es (omega arith)) in
    record {
      done = length es;
      few = omega arith;
      all = refl;
      followed = subst (λ (t : List Entry). HasFollowed (history ++ t) now) all before.followed;
      posts = before.posts ∙ ap (λ (t : List Entry). old.pending ++ posts_behind history t) all;
      given_up = before.given_up;
    }
