use Rattle.std.proofs.Common.{◌≡◌, ◌+◌, ◌++◌, ◌∷◌, [], List, length, length-append, take, sym, ap, ◌∙◌, subst, arith}
use Rattle.std.proofs.lemmas.List.{take_more}
use Rattle.outbox.specs.declared.post.Post.{Post}
use Rattle.outbox.specs.declared.report.Outcome.{Outcome}
use Rattle.outbox.specs.Calls.{call_of}
use Rattle.outbox.specs.Pumping.{AreTried, TriesCall}
use Rattle.outbox.proofs.Tried.{tried_more}
use Rattle.outbox.proofs.trying.try_all.Goals as goal

pub push_reserved-requires : goal.push_reserved-requires
push_reserved-requires g c = omega (arith, c.loop-post.invariant.room)

pub loop-post-preserved : goal.loop-post-preserved
loop-post-preserved g c =
    let i = c.loop-post.post-index in
    let ps : List Post = c.args.posts.now in
    let p : Post = c.post-item.result in
    let more : take (i + 1) ps ≡ take i ps ++ p ∷ [] = take_more ps i p (omega arith) ∙ ap (λ (x : Post). take i ps ++ x ∷ []) (sym c.post-item.is) in
    let pushed : c.push_reserved.new.self.items ≡ c.loop-post.outcomes.items ++ c.in_ok-outcome.outcome ∷ [] = c.push_reserved.ensures.items in
    record {
      long = ap (λ (os : List Outcome). length os) pushed ∙ (length-append c.loop-post.outcomes.items (c.in_ok-outcome.outcome ∷ []) ∙ omega (arith, c.loop-post.invariant.long));
      tried =
          subst (λ (os : List Outcome). AreTried g.L.Link.exchanges g.L.Link.course g.L.Link.faults g.L.Link.place c.args.conn.now.limit (take (i + 1) ps) os c.args.link.now c.try_post.new.link) (sym pushed)
          (subst (λ (qs : List Post). AreTried g.L.Link.exchanges g.L.Link.course g.L.Link.faults g.L.Link.place c.args.conn.now.limit qs (c.loop-post.outcomes.items ++ c.in_ok-outcome.outcome ∷ []) c.args.link.now c.try_post.new.link) (sym more)
          (tried_more g.L.Link.exchanges g.L.Link.course g.L.Link.faults g.L.Link.place c.args.conn.now.limit (take i ps) c.loop-post.outcomes.items p c.in_ok-outcome.outcome c.args.link.now c.loop-post.link c.try_post.new.link c.loop-post.invariant.tried
          (subst (λ limit. TriesCall g.L.Link.exchanges g.L.Link.course g.L.Link.faults g.L.Link.place limit (call_of p.url) c.loop-post.link c.try_post.new.link c.in_ok-outcome.outcome) c.loop-post.invariant.limit c.in_ok-outcome.ensures.tried)));
      limit = c.try_post.ensures.limit ∙ c.loop-post.invariant.limit;
      room = omega (arith, c.loop-post.invariant.room, c.push_reserved.ensures.len, c.push_reserved.ensures.capacity);
    }
