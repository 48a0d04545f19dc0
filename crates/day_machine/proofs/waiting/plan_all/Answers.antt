-- One notice more.
use Rattle.std.proofs.Common.{◌≡◌, sym, subst, ◌∙◌, ap, arith}
use Rattle.std.specs.Prelude.{All, List, take}
use Rattle.std.proofs.lemmas.List.Elements.{All-append}
use Rattle.day_entries.specs.Entries.{Fits}
use Rattle.day_rules.specs.declared.answer.Answer.{Answer}
use Rattle.day_rules.specs.declared.entry.Entry.{Entry}
use Rattle.day_rules.specs.Laws.{arrival_reply}
use Rattle.day_machine.specs.Answered.{entry_if, is_counted}
use Rattle.day_machine.specs.Batches.{added_by}
use Rattle.day_machine.proofs.InTurn.{answers_more, bytes_more, entries_more, entries_now}
use Rattle.day_machine.proofs.NoticeEntries.{counted_entry}
use Rattle.day_machine.proofs.waiting.plan_all.Goals as goal

pub loop-call-preserved : goal.loop-call-preserved
loop-call-preserved c =
    let history = c.args.day.now.history in
    let xs = c.args.calls.now in
    let i = c.loop-call.call-index in
    let x = c.call-item.result in
    let a = c.answer-answer.result in
    let o = entry_if (is_counted a) x.kind x.award in
    let low = c.loop-call-test.true in
    let item = c.call-item.is in
    let inv = c.loop-call.invariant in
    let entry : o ≡ (arrival_reply history x).entry = ap (λ (b : Answer). entry_if (is_counted b) x.kind x.award) c.answer-answer.ensures ∙ counted_entry history x.kind x.auction x.award in
    record {
      answers = answers_more history xs i x c.loop-call.answers.items c.push_reserved.new.self.items a low item inv.answers c.answer-answer.ensures c.push_reserved.ensures.items;
      memory = omega (arith, inv.memory, c.push_reserved.ensures.capacity);
      payload = bytes_more c.args.format history xs i x o c.loop-call.frame.payload c.put_behind.new.frame.payload low item entry inv.payload c.put_behind.ensures.payload;
      fits = subst (λ (es : List Entry). All (Fits c.args.format) es) (sym (entries_more history xs i x o low item entry)) (All-append (Fits c.args.format) (entries_now history (take i xs)) (added_by o) inv.fits c.put_behind.ensures.fits);
      few = omega (arith, inv.few, c.put_behind.ensures.few);
      room = omega (arith, inv.room, c.put_behind.ensures.room);
    }
