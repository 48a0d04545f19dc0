use Rattle.std.proofs.lemmas.Str.{is_utf8-from_IsUtf8}
use Rattle.served_record.proofs.copies.copy_of.Goals as goal

pub returns-clause-named : goal.returns-clause-named
returns-clause-named c = record {
  utf8 = is_utf8-from_IsUtf8 c.args.name.now c.as_bytes-bytes.ensures.utf8;
  some_byte = c.as_bytes-bytes.ensures.sized.0;
  short = c.as_bytes-bytes.ensures.sized.1;
}
