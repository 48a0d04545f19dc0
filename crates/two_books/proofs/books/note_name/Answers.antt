-- The bytes of an id are a name.
use Rattle.two_books.proofs.Named.{named}
use Rattle.two_books.proofs.books.note_name.Goals as goal

pub returns : goal.returns
returns c = named c.args.bytes.now c.requires.sized c.requires.utf8 (λ i. let h = c.type_inv.bytes i in h.fits)
