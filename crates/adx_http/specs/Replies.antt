-- The bytes of a reply (RFC 9112, sections 4 to 6). Which fields are in it is this project's own.
use Rattle.std.specs.Prelude.{ℕ, List, [], ◌++◌, length, decimal, unwrap_or, codes, Bool, not, ◌&&◌, ◌==◌, nat_lt, nat_le, if◌then◌else◌}
use Rattle.http.specs.StatusCode.{reason_phrase}
use Rattle.httparse.specs.Ascii.{crlf_bytes}
use Rattle.adx_http.specs.declared.reply.Reply.{Reply}

-- a field line
abbrev pub field_line : List ℕ → List ℕ → List ℕ
field_line name value = name ++ codes ": " ++ value ++ crlf_bytes

-- the field line that says the version of OpenRTB: every message of OpenRTB has this one
abbrev pub version_line : List ℕ
version_line = field_line (codes "x-openrtb-version") (codes "2.6")

-- the bytes if the condition holds, and else none
abbrev pub when : Bool → List ℕ → List ℕ
when b bytes = if b then bytes else []

-- a reply with status 204 has no type
abbrev pub has_type : Reply → Bool
has_type r = r.json && not (r.status == 204)

-- a reply to HEAD and one with status 204 have no body
abbrev pub has_body : Reply → Bool
has_body r = not r.head && not (r.status == 204)

-- the phrase that `http` gives to a status of three digits; empty where it gives none
abbrev pub phrase : ℕ → List ℕ
phrase status = if nat_le 100 status && nat_lt status 1000 then unwrap_or (reason_phrase status) [] else []

-- the first line of a reply
abbrev pub status_line : ℕ → List ℕ
status_line status = codes "HTTP/1.1 " ++ decimal status ++ codes " " ++ phrase status ++ crlf_bytes

-- the field lines of a reply: type, version of OpenRTB, allowed methods, length, and that the connection closes
abbrev pub field_lines : Reply → List ℕ
field_lines r =
    when (has_type r) (field_line (codes "Content-Type") (codes "application/json"))
    ++ when r.openrtb version_line
    ++ when (not (length r.allow.now == 0)) (field_line (codes "Allow") r.allow.now)
    ++ when (has_body r) (field_line (codes "Content-Length") (decimal (length r.body.now)))
    ++ when r.close (field_line (codes "Connection") (codes "close"))

-- a reply: status line, field lines, an empty line, the body
-- Example: status 204 alone is `HTTP/1.1 204 No Content\r\n\r\n`.
abbrev pub reply_bytes : Reply → List ℕ
reply_bytes r = status_line r.status ++ field_lines r ++ crlf_bytes ++ when (has_body r) r.body.now

-- a reply with status 204 and no field
abbrev pub is_bare : Reply → Bool
is_bare r = ((r.status == 204 && not r.openrtb) && length r.allow.now == 0) && not r.close

-- the whole of a reply with status 204 and no field
abbrev pub bare_bytes : List ℕ
bare_bytes = codes "HTTP/1.1 204 No Content" ++ crlf_bytes ++ crlf_bytes
