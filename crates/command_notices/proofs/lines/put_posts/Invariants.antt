-- The lines of the first posts were written, and a front of them was put.
use Rattle.std.proofs.Common.{◌≡◌, take}
use Rattle.adx_io.specs.TalkState.{place_of, state_of}
use Rattle.history_runs.specs.Putting.{PutsFront}
use Rattle.command_notices.specs.PostLines.{post_lines}
use Rattle.command_notices.proofs.lines.put_posts.Given as goal

abbrev pub invariant-loop-post : goal.invariant-loop-post
invariant-loop-post g l = record {
  told : PutsFront (state_of l.fn.talk).held (state_of l.talk).held (post_lines (take l.post-index l.posts)) (state_of l.talk).out;
  rest : l.talk.source ≡ l.fn.talk.source;
  read_same : (state_of l.talk).read_faults ≡ (state_of l.fn.talk).read_faults;
  write_same : (state_of l.talk).write_faults ≡ (state_of l.fn.talk).write_faults;
  place : place_of l.talk ≡ place_of l.fn.talk;
}
