-- A message that there is.
use Rattle.std.proofs.Common.{◌≡◌, List, Some, length, refl, subst, sym}
use Rattle.std.specs.List.{slice_get}
use Rattle.std.proofs.lemmas.Option.{slice_get_read}
use Rattle.outbox.specs.declared.calling.Call.{Call}
use Rattle.two_books.specs.Pumps.{world_of}
use Rattle.two_books.specs.Steps.{StepsTo}
use Rattle.two_books.specs.Worlds.{WorldState}
use Rattle.two_books.specs.declared.step.Step.{Step}
use Rattle.two_books.proofs.Stepping.{again_step}
use Rattle.two_books.proofs.books.Books.again.Goals as goal

pub returns-in-Some : goal.returns-in-Some
returns-in-Some c =
    let read = slice_get_read c.as_slice.result.now (length c.as_slice.result.now) c.args.message c.in-Some.sent.now refl c.in-Some.ensures.lookup.3.0 c.in-Some.ensures.lookup.1 in
    let is : Some c.in-Some.sent.now ≡ slice_get c.self.inside.messages.items c.args.message =
    subst (λ (ms : List Call). Some c.in-Some.sent.now ≡ slice_get ms c.args.message) c.as_slice.ensures.value (sym read) in
    subst (λ (w : WorldState). StepsTo (Step.Again c.args.message) c.bring.result w (world_of c.self.inside.exchange c.self.inside.messages.items c.bring.new.bidder c.bring.new.replies.items))
    c.self.view_is
    (again_step c.args.message c.in-Some.sent.now c.bring.result c.self.inside.exchange c.self.inside.messages.items c.self.inside.bidder c.bring.new.bidder
    c.self.inside.replies.items c.bring.new.replies.items is c.bring.ensures)
