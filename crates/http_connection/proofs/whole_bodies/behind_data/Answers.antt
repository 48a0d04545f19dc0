-- Two bytes come after the data, or are missing.
use Rattle.std.proofs.Common.{◌≡◌, Some, [], ◌++◌, drop, refl, sym, ap, subst, ◌∙◌, append-nil, arith, inl, inr}
use Rattle.std.proofs.lemmas.List.{drop-drop}
use Rattle.httparse.specs.Ascii.{crlf_bytes}
use Rattle.http_connection.specs.Chunks.{EndsBadly}
use Rattle.http_connection.proofs.BodyParts.{keeping}
use Rattle.http_connection.proofs.ChunkParts.{skipping, data_gives, data_bad}
use Rattle.http_connection.proofs.AtHand.{held, spent, still}
use Rattle.http_connection.proofs.whole_bodies.behind_data.Goals as goal

pub returns-then-bytes-size : goal.returns-then-bytes-size
returns-then-bytes-size c = inr (omega arith)

pub returns-then-not-ends_behind : goal.returns-then-not-ends_behind
returns-then-not-ends_behind c =
    let b = c.args.bytes.now in
    inl (subst (EndsBadly c.args.size) (append-nil b) (data_bad c.args.size (held b) (held b) (Some spent) (Some spent) (still b) (omega arith) (sym c.ends_behind.ensures ∙ c.if-not-ends_behind.true)))

pub returns : goal.returns
returns c =
    let b = c.args.bytes.now in
    let size = c.args.size in
    let kept = keeping (held b) size in
    let d = data_gives size (held b) (held b) kept (skipping kept 2) (Some spent) (Some spent) (still b) (omega arith) (sym c.ends_behind.ensures ∙ c.if-not-ends_behind.false) refl refl in
    let rest : drop 2 (drop size b) ++ [] ≡ c.split_at.result.1.now = append-nil (drop 2 (drop size b)) ∙ drop-drop 2 size b ∙ sym c.split_at.ensures.back in
    (d.0, d.2, sym (append-nil b) ∙ d.3 ∙ ap (λ l. (d.0 ++ crlf_bytes) ++ l) rest)
