-- What came of the first line, by how it was read.
use Rattle.std.proofs.Common.{◌≡◌, ◌∙◌, Some, None, Ok, refl, sym, ap, subst, List, ℕ, Option, string_bytes, length, le-add_right}
use Rattle.std.specs.Borrow.{MutBor}
use Rattle.adx_io.specs.Streams.{WhereTold}
use Rattle.adx_io.specs.Talk.{Puts, PutsAll}
use Rattle.adx_io.specs.TalkState.{state_of}
use Rattle.adx_io.specs.declared.talk.Next.{Next}
use Rattle.command_runs.specs.Firsts.{FindsFirst, headless}
use Rattle.command_runs.specs.Meanings.{PutsEnd, Wrote}
use Rattle.command_runs.specs.declared.first.NoLine.{NoLine}
use Rattle.command_runs.specs.Limits.{input_limit}
use Rattle.command_runs.specs.declared.outcome.Outcome.{Outcome}
use Rattle.command_runs.proofs.Firsts.{found_led, headless_end, held_all, held_line, held_stop, out_line, told_cut, told_led, told_past, told_refused, told_stopped, told_unanswered}
use Rattle.command_runs.proofs.first.lead.Goals as goal

pub returns-in-Ok-Some-clause-ran : goal.returns-in-Ok-Some-clause-ran
returns-in-Ok-Some-clause-ran g c =
    let is : c.next_line.result ≡ Ok Next.Line = c.in-Ok-Line.is ∙ ap Ok c.in-Ok-Line.field-0-is in
    let before = state_of c.args.talk.now in
    let mid = state_of c.next_line.new.self in
    let last = c.run_rest.new.talk in
    let ran = c.run_rest.ensures.ran in
    let head = c.in-Ok-Some.head in
    let rest = λ (allowed : ℕ). g.L.Led.meaning head allowed ran.0 in
    let puts : Puts before mid = rw is at c.next_line.ensures.puts in
    let wrote = subst (λ (h : Option (List ℕ)). WhereTold mid.tape (g.S.Source.tape last.source.now) (λ x y. Wrote (rest mid.allowed) x.left y.left h (g.K.Sink.held last.sink.now) c.run_rest.result)) (held_line before mid c.requires.unwritten puts) ran.2 in (
      Some (head, ran.0),
      ran.1,
      told_led g.L.Led.heads input_limit before mid c.requires.whole head rest (g.S.Source.tape last.source.now) (g.K.Sink.held last.sink.now) c.run_rest.result (rw is at c.next_line.ensures.reads)
          (λ line keeps. found_led g.L.Led.heads input_limit line mid.out (string_bytes c.head_in.new.out) head (subst (λ found. FindsFirst g.L.Led.heads input_limit line mid.out (string_bytes c.head_in.new.out) found) c.in-Ok-Some.field-0-is (c.in-Ok-Some.ensures.finds line keeps))) wrote,
    )

pub returns-in-Ok-None-clause-ran : goal.returns-in-Ok-None-clause-ran
returns-in-Ok-None-clause-ran g c =
    let is : c.next_line.result ≡ Ok Next.Line = c.in-Ok-Line.is ∙ ap Ok c.in-Ok-Line.field-0-is in
    let before = state_of c.args.talk.now in
    let talk = c.next_line.new.self in
    let mid = state_of talk in
    let last = c.put_end.new.talk in
    let held = g.K.Sink.held last.sink.now in
    let told = g.S.Source.tape talk.source.now in
    let out = string_bytes c.head_in.new.out in
    let puts : Puts before mid = rw is at c.next_line.ensures.puts in (
      None,
      (refl, headless_end mid.held held _ c.put_end.result c.put_end.ensures.puts),
      subst (λ t. WhereTold before.tape t (λ x y. Wrote (headless g.L.Led.heads input_limit) x.left y.left before.held held c.put_end.result)) (sym (ap (λ (x : MutBor _). g.S.Source.tape x.now) c.put_end.ensures.rest.0))
          (told_refused g.L.Led.heads input_limit before mid c.requires.whole talk.buffer.now.pending told held c.next_line.ensures.ahead out c.put_end.result (rw is at c.next_line.ensures.reads)
          (λ line keeps. subst (λ (b : List ℕ). FindsFirst g.L.Led.heads input_limit line b out None) (out_line before mid c.requires.unwritten puts) (subst (λ found. FindsFirst g.L.Led.heads input_limit line mid.out out found) c.in-Ok-None.field-0-is (c.in-Ok-None.ensures.finds line keeps)))
          (subst (λ (h : Option (List ℕ)). PutsEnd Outcome.Refused h held out c.put_end.result) (held_line before mid c.requires.unwritten puts) c.put_end.ensures.puts)),
    )

pub returns-in-Err-head_in-clause-ran : goal.returns-in-Err-head_in-clause-ran
returns-in-Err-head_in-clause-ran g c =
    let is : c.next_line.result ≡ Ok Next.Line = c.in-Ok-Line.is ∙ ap Ok c.in-Ok-Line.field-0-is in
    let before = state_of c.args.talk.now in
    let talk = c.next_line.new.self in
    let mid = state_of talk in
    let puts : Puts before mid = rw is at c.next_line.ensures.puts in (
      None,
      (refl, tt),
      told_unanswered g.L.Led.heads input_limit before mid c.requires.whole talk.buffer.now.pending (g.S.Source.tape talk.source.now) (g.K.Sink.held talk.sink.now) c.next_line.ensures.ahead (le-add_right (length talk.buffer.now.pending) talk.room) (rw is at c.next_line.ensures.reads)
          (held_line before mid c.requires.unwritten puts),
    )

pub returns-in-Ok-End-clause-ran : goal.returns-in-Ok-End-clause-ran
returns-in-Ok-End-clause-ran g c =
    let is : c.next_line.result ≡ Ok Next.End = c.in-Ok-End.is ∙ ap Ok c.in-Ok-End.field-0-is in
    let before = state_of c.args.talk.now in
    let talk = c.next_line.new.self in
    let mid = state_of talk in
    let last = c.refuse in
    let held = g.K.Sink.held last.new.talk.sink.now in
    let why = c.lack_in-why.result in
    let puts : PutsAll before mid = rw is at c.next_line.ensures.puts in (
      None,
      (refl, headless_end mid.held held _ last.result last.ensures.puts),
      subst (λ t. WhereTold before.tape t (λ x y. Wrote (headless g.L.Led.heads input_limit) x.left y.left before.held held last.result)) (sym (ap (λ (x : MutBor _). g.S.Source.tape x.now) last.ensures.rest.0))
          (told_cut g.L.Led.heads input_limit before mid c.requires.whole talk.buffer.now.pending (g.S.Source.tape talk.source.now) held c.next_line.ensures.ahead why last.result (c.next_line.ensures.looked (λ e. cc (e, is)) (λ e. cc (e, is))) c.lack_in-why.ensures
          (rw is at c.next_line.ensures.reads)
          (subst (λ (h : Option (List ℕ)). PutsEnd Outcome.Refused h held (g.L.Led.heads.lacks why) last.result) (held_all before mid c.requires.unwritten puts) last.ensures.puts)),
    )

pub returns-in-Ok-PastLimit-clause-ran : goal.returns-in-Ok-PastLimit-clause-ran
returns-in-Ok-PastLimit-clause-ran g c =
    let is : c.next_line.result ≡ Ok Next.PastLimit = c.in-Ok-PastLimit.is ∙ ap Ok c.in-Ok-PastLimit.field-0-is in
    let before = state_of c.args.talk.now in
    let talk = c.next_line.new.self in
    let mid = state_of talk in
    let last = c.refuse-in-Ok-PastLimit in
    let held = g.K.Sink.held last.new.talk.sink.now in
    let puts : PutsAll before mid = rw is at c.next_line.ensures.puts in (
      None,
      (refl, headless_end mid.held held _ last.result last.ensures.puts),
      subst (λ t. WhereTold before.tape t (λ x y. Wrote (headless g.L.Led.heads input_limit) x.left y.left before.held held last.result)) (sym (ap (λ (x : MutBor _). g.S.Source.tape x.now) last.ensures.rest.0))
          (told_past g.L.Led.heads input_limit before mid c.requires.whole talk.buffer.now.pending (g.S.Source.tape talk.source.now) held c.next_line.ensures.ahead last.result (c.next_line.ensures.looked (λ e. cc (e, is)) (λ e. cc (e, is)))
          (rw is at c.next_line.ensures.reads)
          (subst (λ (h : Option (List ℕ)). PutsEnd Outcome.Refused h held (g.L.Led.heads.lacks NoLine.Long) last.result) (held_all before mid c.requires.unwritten puts) last.ensures.puts)),
    )

pub returns-in-Err-clause-ran : goal.returns-in-Err-clause-ran
returns-in-Err-clause-ran g c =
    let stop = c.in-Err.stop in
    let before = state_of c.args.talk.now in
    let talk = c.next_line.new.self in
    let mid = state_of talk in (
      None,
      (refl, tt),
      told_stopped g.L.Led.heads input_limit before mid c.requires.whole talk.buffer.now.pending (g.S.Source.tape talk.source.now) (g.K.Sink.held talk.sink.now) c.next_line.ensures.ahead stop (le-add_right (length talk.buffer.now.pending) talk.room) (λ other. c.in-Err.ensures.looked (λ e. cc e) (λ e. other (cc e)))
          c.in-Err.ensures.reads (held_stop before mid c.requires.unwritten stop c.in-Err.ensures.puts),
    )
