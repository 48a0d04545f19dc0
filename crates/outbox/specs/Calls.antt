-- What a post asks of which host: the request that fetches its URL (URL Standard; RFC 9112, sections 2 and 3). Which URLs
-- are fetched, and which fields stand in the request, is this project's own.
use Rattle.std.specs.Prelude.{◌≡◌, ℕ, List, [], ◌++◌, if◌then◌else◌, bytes_eq, codes, decimal, Option, Some, None, option_map, unwrap_or, Ok, Err}
use Rattle.httparse.specs.Ascii.{crlf_bytes}
use Rattle.url.specs.Host.{host_text}
use Rattle.url.specs.Parser.{Parsed, parse_url}
use Rattle.url.specs.Parts.{IsValid, Parts, nonempty_host}
use Rattle.outbox.specs.declared.calling.Call.{Call}
use Rattle.outbox.specs.declared.calling.TheConstants.{HTTP_PORT}

-- the query behind its `?`, where there is one
abbrev pub query_part : Option (List ℕ) → List ℕ
query_part None = []
query_part (Some query) = codes "?" ++ query

-- what is asked for: the URL's path and its query
abbrev pub target_of : Parts → List ℕ
target_of p = p.path ++ query_part p.query

-- the request for a target of a host at a port
abbrev pub request_for : List ℕ → ℕ → List ℕ → List ℕ
request_for host port target =
    codes "GET " ++ target ++ codes " HTTP/1.1" ++ crlf_bytes
    ++ codes "Host: " ++ host ++ codes ":" ++ decimal port ++ crlf_bytes
    ++ codes "Connection: close" ++ crlf_bytes ++ crlf_bytes

-- the port of a URL, or that of the scheme
abbrev pub port_of : Parts → ℕ
port_of p = unwrap_or p.port HTTP_PORT

-- the call of a URL at its host
abbrev pub call_at : Parts → List ℕ → Call
call_at p host = record { host = host; port = port_of p; request = request_for host (port_of p) (target_of p) }

-- the call of a URL: none where its scheme isn't http, or it has no host
abbrev pub call_in : Parts → Option Call
call_in p = if bytes_eq p.scheme (codes "http") then option_map (λ h. call_at p (host_text h)) (nonempty_host p) else None

abbrev pub call_by : Parsed Parts → Option Call
call_by (Ok p) = call_in p
call_by (Err e) = None

-- the call of a text: none where it isn't a URL
abbrev pub call_of : List ℕ → Option Call
call_of url = call_by (parse_url None url)

-- what a text is as a URL has just the bytes in its parts that the URL Standard allows there
abbrev pub IsValidAs : List ℕ → Type 0
IsValidAs url = (p : Parts) → parse_url None url ≡ Ok p → IsValid p
