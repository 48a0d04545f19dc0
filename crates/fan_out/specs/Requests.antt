-- What a bidder is sent (RFC 9112, sections 3 to 6; OpenRTB 2.6, section 2.2). Which fields are in it is this project's
-- own.
use Rattle.std.specs.Prelude.{ℕ, List, ◌++◌, length, decimal, codes}
use Rattle.httparse.specs.Ascii.{crlf_bytes}
use Rattle.adx_http.specs.Replies.{field_line, version_line}
use Rattle.deal_floor.specs.declared.place.Place.{Place}

-- the first line of what a bidder is sent
abbrev pub request_line : List ℕ → List ℕ
request_line path = codes "POST " ++ path ++ codes " HTTP/1.1" ++ crlf_bytes

-- a host and a port, as a Host field has them
abbrev pub host_and_port : Place → List ℕ
host_and_port p = p.host ++ codes ":" ++ decimal p.port

-- that the body is a request of OpenRTB
abbrev pub openrtb_lines : List ℕ
openrtb_lines = field_line (codes "Content-Type") (codes "application/json") ++ version_line

-- the end of the head: the connection closes after the answer
abbrev pub last_lines : List ℕ
last_lines = field_line (codes "Connection") (codes "close") ++ crlf_bytes

-- the head of a request to a bidder whose body has that length
-- Example: `POST /bid HTTP/1.1`, `Host: bidder.example:8080`, the type `application/json`, `x-openrtb-version:
-- 2.6`, `Content-Length: 17`, `Connection: close`, an empty line, and 17 bytes.
abbrev pub request_head : Place → ℕ → List ℕ
request_head p len =
    request_line p.path
    ++ field_line (codes "Host") (host_and_port p)
    ++ openrtb_lines
    ++ field_line (codes "Content-Length") (decimal len)
    ++ last_lines

-- all that it is sent
abbrev pub request_bytes : Place → List ℕ → List ℕ
request_bytes p body = request_head p (length body) ++ body
