-- The lines of the pending posts are those of the history.
use Rattle.std.proofs.Common.{◌∙◌, List, inl, refl, subst}
use Rattle.outbox.specs.declared.post.Post.{Post}
use Rattle.history_runs.specs.Putting.{PutsBytes}
use Rattle.history_runs.proofs.Putting.{printed_by}
use Rattle.command_notices.specs.PostLines.{AreNotices, notice_lines, post_lines}
use Rattle.command_notices.proofs.printing.put_notices.Goals as goal

pub outbox_of-requires : goal.outbox_of-requires
outbox_of-requires g c = (_, c.requires.day)

pub returns-in-Ok-clause-printed : goal.returns-in-Ok-clause-printed
returns-in-Ok-clause-printed g c =
    let entries = c.args.entries.now in
    let held = g.K.Sink.held c.args.talk.now.sink.now in
    let held_now = g.K.Sink.held c.put_posts.new.talk.sink.now in
    printed_by AreNotices c.args.roster.now entries held held_now (notice_lines entries) c.put_posts.result refl
    (subst (λ (posts : List Post). PutsBytes held held_now (post_lines posts) c.put_posts.result) (c.pending.ensures ∙ c.in-Ok.ensures) c.put_posts.ensures.puts)

pub returns-in-Err-clause-printed : goal.returns-in-Err-clause-printed
returns-in-Err-clause-printed g c = inl refl
