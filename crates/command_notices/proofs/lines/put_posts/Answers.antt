-- One post more, and the end.
use Rattle.std.proofs.Common.{◌≡◌, ◌∙◌, ◌+◌, ◌++◌, List, [], ℕ, take, drop, refl, sym, ap, subst, arith, Err}
use Rattle.std.proofs.lemmas.List.{take_all}
use Rattle.adx_io.specs.TalkState.{state_of}
use Rattle.outbox.specs.declared.post.Post.{Post}
use Rattle.history_runs.specs.Putting.{PutsBytes, PutsFront}
use Rattle.history_runs.proofs.Putting.{front_none, front_on, puts_behind, puts_out, stops_on}
use Rattle.command_notices.specs.PostLines.{post_line, post_lines}
use Rattle.command_notices.proofs.MoreLines.{lines_more, lines_split}
use Rattle.command_notices.proofs.lines.put_posts.Goals as goal

pub loop-post-init : goal.loop-post-init
loop-post-init g c =
    let before = state_of c.args.talk.now in record {
      told = subst (λ (out : List ℕ). PutsFront before.held before.held [] out) (sym c.requires.unwritten) (front_none before.held []);
      rest = refl;
      read_same = refl;
      write_same = refl;
      place = refl;
    }

pub loop-post-preserved : goal.loop-post-preserved
loop-post-preserved g c =
    let before = state_of c.args.talk.now in
    let mid = state_of c.loop-post.talk in
    let now = state_of c.put_post.new.talk in
    let posts = c.args.posts.now in
    let i = c.loop-post.post-index in
    let p = c.post-item.result in
    let step = c.put_post.ensures in record {
      told = subst (λ (bytes : List ℕ). PutsFront before.held now.held bytes now.out) (sym (lines_more posts i p (omega arith) (sym c.post-item.is)))
          (front_on before.held mid.held now.held (post_lines (take i posts)) mid.out (post_line p) now.out c.loop-post.invariant.told c.in-Ok.ensures.puts);
      rest = step.rest ∙ c.loop-post.invariant.rest;
      read_same = step.causes.read_same (λ e. cc (e, c.in-Ok.is)) ∙ c.loop-post.invariant.read_same;
      write_same = step.causes.write_same (λ e. cc (e, c.in-Ok.is)) ∙ c.loop-post.invariant.write_same;
      place = step.same ∙ c.loop-post.invariant.place;
    }

pub returns-in-Err-clause-puts : goal.returns-in-Err-clause-puts
returns-in-Err-clause-puts g c =
    let before = state_of c.args.talk.now in
    let mid = state_of c.loop-post.talk in
    let now = state_of c.put_post.new.talk in
    let posts = c.args.posts.now in
    let i = c.loop-post.post-index in
    let p = c.post-item.result in
    subst (λ (bytes : List ℕ). PutsBytes before.held now.held bytes (Err c.in-Err.stop)) (ap (λ (b : List ℕ). b ++ post_lines (drop (i + 1) posts)) (sym (lines_more posts i p (omega arith) (sym c.post-item.is))) ∙ lines_split posts (i + 1))
    (stops_on before.held mid.held now.held (post_lines (take i posts)) mid.out (post_line p) (post_lines (drop (i + 1) posts)) c.in-Err.stop c.loop-post.invariant.told c.in-Err.ensures.puts)

pub returns-clause-puts : goal.returns-clause-puts
returns-clause-puts g c =
    let before = state_of c.args.talk.now in
    let mid = state_of c.loop-post.talk in
    let now = state_of c.put_out.new.self in
    let posts = c.args.posts.now in
    let all : take c.loop-post.post-index posts ≡ posts = take_all c.loop-post.post-index posts (omega arith) in
    puts_behind before.held mid.held now.held (post_lines posts) mid.out c.put_out.result
    (subst (λ (ps : List Post). PutsFront before.held mid.held (post_lines ps) mid.out) all c.loop-post.invariant.told)
    (puts_out mid now mid.out c.put_out.result refl c.put_out.ensures.all c.put_out.ensures.fault c.put_out.ensures.front)
