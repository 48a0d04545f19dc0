-- Words that are one command's, by its row, are that command in plain spelling.
use Rattle.std.proofs.Common.{refl, ℕ, List, Option, false, true}
use Rattle.command_archive.specs.declared.list.Query.{Query}
use Rattle.command_words.specs.Meanings.{IsPlain, journal_name}
use Rattle.command_words.specs.Spelling.{value_of}
use Rattle.command_words.specs.declared.command.Command.{Command}
use Rattle.adx_commands.specs.Commands.{IsArchiveList, IsArchivePut, IsBidder, IsCheck, IsClose, IsConnection, IsDay, IsGenerated, IsNotices, IsRatio, IsReconcile}

module _ (words : List (List ℕ)) where
  pub plain_day : IsDay words → (journal : Option (List ℕ)) × IsPlain (Command.Day journal) words
  plain_day (given, (row, spells, named)) = (value_of journal_name given, (row, given, spells, (named, refl)))

  pub plain_connection : IsConnection words → (journal : Option (List ℕ)) × IsPlain (Command.Connection journal) words
  plain_connection (given, (row, spells, named)) = (value_of journal_name given, (row, given, spells, (named, refl)))

  pub plain_bidder : IsBidder words → IsPlain Command.Bidder words
  plain_bidder (given, (row, spells, named)) = (row, given, spells, named)

  pub plain_check : IsCheck words → IsPlain Command.Check words
  plain_check (given, (row, spells, named)) = (row, given, spells, named)

  pub plain_generated : (seed asks : ℕ) → IsGenerated words seed asks → IsPlain (Command.Generate seed asks) words
  plain_generated seed asks (given, (row, spells, named), seeded, counted) = (row, given, spells, (named, seeded, counted))

  pub plain_notices : IsNotices words → (journal : List ℕ) × IsPlain (Command.Notices journal) words
  plain_notices (journal, given, (row, spells, named), kept) = (journal, (row, given, spells, (named, kept)))

  pub plain_close : IsClose words → (journal : List ℕ) × IsPlain (Command.Close journal false) words
  plain_close (journal, given, (row, spells, named), kept) = (journal, (row, given, spells, (named, kept)))

  pub plain_ratio : IsRatio words → (journal : List ℕ) × IsPlain (Command.Close journal true) words
  plain_ratio (journal, row, given, spells, named, kept) = (journal, (row, given, spells, (named, kept)))

  pub plain_put : IsArchivePut words → (archive : List ℕ) × IsPlain (Command.ArchivePut archive) words
  plain_put (archive, given, (row, spells, named), kept) = (archive, (row, given, spells, (named, kept)))

  pub plain_list : (q : Query) → IsArchiveList words q → (archive : List ℕ) × IsPlain (Command.ArchiveList archive q.seat q.cid q.first q.last) words
  plain_list q (archive, given, (row, spells, named), kept, seat, cid, first, last) = (archive, (row, given, spells, (named, kept, seat, cid, first, last)))

  pub plain_reconcile : (name : List ℕ) → IsReconcile words name → (journal : List ℕ) × IsPlain (Command.Reconcile journal name) words
  plain_reconcile name (journal, given, (row, spells, named), kept, asked) = (journal, (row, given, spells, (named, kept, asked)))
