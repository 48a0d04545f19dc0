-- What of a buffer's pending bytes was searched for the end of a line.
use Rattle.std.proofs.Common.{◌≡◌, ◌≢◌, ℕ, ◌+◌, ◌<◌, ◌≤◌, List, [], ◌∷◌, ◌++◌, length, take, drop, refl, sym, ap, subst, ◌∙◌, append_assoc, append-nil, arith, length-append, length-drop}
use Rattle.std.proofs.lemmas.List.{drop-append-le, drop_at, length-take-le}
use Rattle.std.proofs.lemmas.List.Elements.{All-append, All-nil}
use Rattle.http_connection.specs.Lines.{IsLine, IsFeed, EndsAt, IsTooLong, IsOpen}

-- there is no line feed between the two places
pub record IsSeen (from seen : ℕ) (pending : List ℕ) : Type 0 where
  pub front : List ℕ
  pub is_line : IsLine front
  pub behind : drop from pending ≡ front ++ drop seen pending
  pub seen_is : seen ≡ from + length front

pub seen_none : (from : ℕ) (pending : List ℕ) → IsSeen from from pending
seen_none from pending = record { front = []; is_line = All-nil (λ b. b ≢ 10); behind = refl; seen_is = omega arith }

-- all that is there was searched, and then a piece came
pub seen_all : (from seen : ℕ) (pending now piece : List ℕ) (k : ℕ) → from ≤ length pending → IsSeen from seen pending → IsLine (drop seen pending) → now ≡ pending ++ piece → k ≡ length pending → IsSeen from k now
seen_all from seen pending now piece k le s line is k_is =
    let behind : drop from now ≡ drop from pending ++ piece = ap (drop from) is ∙ drop-append-le from pending piece le in
    let rest : drop k now ≡ piece = ap (drop k) is ∙ drop_at pending piece k (sym k_is) in
    record {
      front = drop from pending;
      is_line = subst IsLine (sym s.behind) (All-append (λ b. b ≢ 10) s.front (drop seen pending) s.is_line line);
      behind = behind ∙ ap (λ l. drop from pending ++ l) (sym rest);
      seen_is = omega (arith, length-drop from pending, k_is);
    }

pub feed_ends : (from bound seen place : ℕ) (pending : List ℕ) → IsSeen from seen pending → IsFeed seen pending place → place + 1 ≤ bound → EndsAt from bound pending (place + 1)
feed_ends from bound seen place pending s f le = record {
  line = s.front ++ f.line;
  rest = f.rest;
  is_line = All-append (λ b. b ≢ 10) s.front f.line s.is_line f.is_line;
  behind = s.behind ∙ ap (λ l. s.front ++ l) f.behind ∙ sym (append_assoc s.front f.line (10 ∷ f.rest));
  end_is = let a = s.seen_is in let b = f.place_is in omega (arith, length-append s.front f.line);
  within = le;
}

pub feed_late : (from bound seen place : ℕ) (pending : List ℕ) → IsSeen from seen pending → IsFeed seen pending place → bound < place + 1 → IsTooLong from bound pending
feed_late from bound seen place pending s f le = record {
  line = s.front ++ f.line;
  rest = 10 ∷ f.rest;
  is_line = All-append (λ b. b ≢ 10) s.front f.line s.is_line f.is_line;
  behind = s.behind ∙ ap (λ l. s.front ++ l) f.behind ∙ sym (append_assoc s.front f.line (10 ∷ f.rest));
  long = let a = s.seen_is in let b = f.place_is in omega (arith, length-append s.front f.line);
}

pub all_line : (from seen : ℕ) (pending : List ℕ) → IsSeen from seen pending → IsLine (drop seen pending) → IsLine (drop from pending)
all_line from seen pending s line = subst IsLine (sym s.behind) (All-append (λ b. b ≢ 10) s.front (drop seen pending) s.is_line line)

pub no_feed : (from bound seen : ℕ) (pending : List ℕ) → from ≤ length pending → IsSeen from seen pending → IsLine (drop seen pending) → bound ≤ length pending → IsTooLong from bound pending
no_feed from bound seen pending within s line le = record {
  line = drop from pending;
  rest = [];
  is_line = all_line from seen pending s line;
  behind = sym (append-nil (drop from pending));
  long = omega (arith, length-drop from pending);
}

-- the place of a line feed after the searched ones
pub feed_at : (from n : ℕ) (bytes behind : List ℕ) → from ≤ length bytes → behind ≡ drop from bytes → n < length behind → IsLine (take n behind) → behind ≡ take n behind ++ 10 ∷ drop (n + 1) behind → IsFeed from bytes (from + n)
feed_at from n bytes behind le is less line cut = record {
  line = take n behind;
  rest = drop (n + 1) behind;
  is_line = line;
  behind = sym is ∙ cut;
  place_is = omega (arith, length-take-le n behind (omega arith));
  within = let a = ap length is in omega (arith, length-drop from bytes, a);
}

pub still_open : (from bound seen : ℕ) (pending now : List ℕ) → IsSeen from seen pending → IsLine (drop seen pending) → now ≡ pending → length pending < bound → IsOpen from bound now
still_open from bound seen pending now s line same less = record {
  is_line = subst (λ p. IsLine (drop from p)) (sym same) (all_line from seen pending s line);
  short = let e = ap length same in omega (arith, e);
}
