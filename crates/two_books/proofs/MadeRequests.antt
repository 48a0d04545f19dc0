-- What a call is made of.
use Rattle.std.proofs.Common.{◌≡◌, ℕ, List, Bool, true, false, cond, refl, ap, sym, Option, Some, None, Ok, Err}
use Rattle.std.specs.Prelude.{bytes_eq, codes, option_map, unwrap_or}
use Rattle.url.specs.Host.{host_text}
use Rattle.url.specs.Parser.{Parsed, parse_url}
use Rattle.url.specs.Parts.{Parts, has_host, nonempty_host}
use Rattle.url.specs.declared.host.Host.{Host}
use Rattle.outbox.specs.Calls.{call_at, call_by, call_of}
use Rattle.outbox.specs.declared.calling.Call.{Call}

-- what a call is made of
pub record IsMadeOf (p : Parts) (c : Call) : Type 0 where
  pub host : Host (List ℕ)
  pub has : p.host ≡ Some host
  pub scheme : bytes_eq p.scheme (codes "http") ≡ true
  pub is : c ≡ call_at p (host_text host)

from_some : (c d : Call) → Some c ≡ Some d → c ≡ d
from_some c d e = ap (λ (o : Option Call). unwrap_or o c) e

some_host : (t : Bool) (o : Option (Host (List ℕ))) (h : Host (List ℕ)) → cond t o None ≡ Some h → o ≡ Some h
some_host true o h e = e
some_host false o h e = absurd (cc)

made_at : (p : Parts) (h : Option (Host (List ℕ))) (c : Call) → nonempty_host p ≡ h → bytes_eq p.scheme (codes "http") ≡ true → option_map (λ x. call_at p (host_text x)) h ≡ Some c → IsMadeOf p c
made_at p None c is http e = absurd (cc)
made_at p (Some h) c is http e = record {
  host = h;
  has = some_host (has_host p) p.host h is;
  scheme = http;
  is = sym (from_some (call_at p (host_text h)) c e);
}

made_in : (t : Bool) (p : Parts) (c : Call) → bytes_eq p.scheme (codes "http") ≡ t → cond t (option_map (λ x. call_at p (host_text x)) (nonempty_host p)) None ≡ Some c → IsMadeOf p c
made_in true p c http e = made_at p (nonempty_host p) c refl http e
made_in false p c http e = absurd (cc)

made_by : (r : Parsed Parts) (c : Call) → call_by r ≡ Some c → (p : Parts) × (r ≡ Ok p) × IsMadeOf p c
made_by (Ok p) c e = (p, refl, made_in (bytes_eq p.scheme (codes "http")) p c refl e)
made_by (Err fault) c e = absurd (cc)

-- a call of a URL is the request for the target of its parts
pub made_of : (url : List ℕ) (c : Call) → call_of url ≡ Some c → (p : Parts) × (parse_url None url ≡ Ok p) × IsMadeOf p c
made_of url c e = made_by (parse_url None url) c e
