-- What was said of the document, and how the run ended.
use Rattle.std.proofs.Common.{◌≡◌, [], Ok, Err, refl, sym, subst, rules, List, ℕ, Option, string_bytes}
use Rattle.adx_io.specs.Rest.{ReadsRest, Within}
use Rattle.adx_io.specs.Streams.{Tape, WhereTold}
use Rattle.adx_io.specs.TalkState.{state_of}
use Rattle.adx_io.specs.declared.stop.Stop.{Stop}
use Rattle.command_runs.specs.Documents.{Judged, document}
use Rattle.command_runs.specs.Meanings.{Wrote}
use Rattle.command_runs.specs.Limits.{document_limit}
use Rattle.command_runs.proofs.Documents.{told_judged, told_stopped, told_unjudged}
use Rattle.command_runs.proofs.document.judge_document.Goals as goal

pub returns-in-Ok-judge-clause-ran : goal.returns-in-Ok-judge-clause-ran
returns-in-Ok-judge-clause-ran g c =
    let talk = c.args.talk.now in
    let last = c.put_end.new.talk in
    let bytes = c.read_document.new.document.items in
    let told = g.S.Source.tape c.read_document.new.source in
    let tape = g.S.Source.tape talk.source.now in
    let held = g.K.Sink.held talk.sink.now in
    let held_now = g.K.Sink.held last.sink.now in
    let rest = c.in-Ok.rest in
    let outcome = c.in-Ok-judge.outcome in
    let out = string_bytes c.judge.new.out in
    let said = c.in-Ok-judge.ensures.judged in
    let is : c.as_slice.result.now ≡ bytes = search rules in
    let ends : g.S.Source.tape last.source.now ≡ told = search rules in
    let empty : c.new-document.result.items ≡ [] = search rules in (
      said.0,
      said.1 c.put_end.result c.put_end.ensures.may,
      subst (λ (t : Option Tape). WhereTold (state_of talk).tape t (λ x y. Wrote (document document_limit (g.J.Judge.judges said.0)) x.left y.left held held_now c.put_end.result)) (sym ends)
          (told_judged document_limit (g.J.Judge.judges said.0) held held_now talk.buffer.now.pending bytes out rest outcome tape told c.put_end.result c.requires.untaken
          (subst (λ (b : List ℕ). WhereTold tape told (ReadsRest document_limit b bytes (Ok rest))) empty c.in-Ok.ensures.reads) (subst (λ (b : List ℕ). Within document_limit b bytes) empty c.in-Ok.ensures.within)
          (subst (λ (b : List ℕ). Judged (g.J.Judge.judges said.0) rest b out (Ok outcome)) is said.2) c.put_end.ensures.puts),
    )

pub returns-in-Ok-clause-ran : goal.returns-in-Ok-clause-ran
returns-in-Ok-clause-ran g c =
    let talk = c.args.talk.now in
    let bytes = c.read_document.new.document.items in
    let told = g.S.Source.tape c.read_document.new.source in
    let tape = g.S.Source.tape talk.source.now in
    let held = g.K.Sink.held talk.sink.now in
    let said = c.in-Err-judge.ensures.judged in
    let empty : c.new-document.result.items ≡ [] = search rules in (
      said.0,
      said.1 (Err Stop.OutOfMemory) refl,
      told_unjudged document_limit (g.J.Judge.judges said.0) held held c.in-Ok.rest talk.buffer.now.pending bytes tape told c.requires.untaken
          (subst (λ (b : List ℕ). WhereTold tape told (ReadsRest document_limit b bytes (Ok c.in-Ok.rest))) empty c.in-Ok.ensures.reads) (subst (λ (b : List ℕ). Within document_limit b bytes) empty c.in-Ok.ensures.within) refl,
    )

pub returns-clause-ran : goal.returns-clause-ran
returns-clause-ran g c =
    let talk = c.args.talk.now in
    let bytes = c.read_document.new.document.items in
    let told = g.S.Source.tape c.read_document.new.source in
    let tape = g.S.Source.tape talk.source.now in
    let held = g.K.Sink.held talk.sink.now in
    let none = g.met.J.Judge.unjudged c.args.judge.now in
    let stop = c.in-Err.stop in
    let empty : c.new-document.result.items ≡ [] = search rules in (
      none.0,
      none.1 stop,
      told_stopped document_limit (g.J.Judge.judges none.0) held held stop talk.buffer.now.pending bytes tape told c.requires.untaken
          (subst (λ (b : List ℕ). WhereTold tape told (ReadsRest document_limit b bytes (Err stop))) empty c.in-Err.ensures.reads) (subst (λ (b : List ℕ). Within document_limit b bytes) empty c.in-Err.ensures.within) refl,
    )
