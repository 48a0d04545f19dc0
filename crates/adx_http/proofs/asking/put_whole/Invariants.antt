-- A front was asked and the rest is left; where the plan lets the put fail, all is left.
use Rattle.std.proofs.Common.{◌≡◌, ℕ, ◌++◌, List, length, IfSome}
use Rattle.adx_links.specs.Links.{Asks, FailsPut}
use Rattle.adx_io.specs.Streams.{WhereTold}
use Rattle.adx_http.specs.Exchanging.{StandsAs}
use Rattle.adx_http.proofs.asking.put_whole.Given as goal

abbrev pub invariant-loop-rest : goal.invariant-loop-rest
invariant-loop-rest g l = record {
  parts : (front : List ℕ) × (front ++ l.rest ≡ l.fn.piece) × WhereTold (g.L.Link.exchanges l.initial.link) (g.L.Link.exchanges l.link) (Asks front);
  stands : WhereTold (g.L.Link.course l.initial.link) (g.L.Link.course l.link) StandsAs;
  unput : length l.rest ≡ length l.fn.piece → g.L.Link.course l.link ≡ g.L.Link.course l.initial.link;
  planned : IfSome (g.L.Link.course l.initial.link) (λ c. FailsPut c.now → length l.rest ≡ length l.fn.piece);
  place : g.L.Link.place l.link ≡ g.L.Link.place l.initial.link;
  same : g.L.Link.faults l.link ≡ g.L.Link.faults l.initial.link;
}

abbrev pub decreases-loop-rest : goal.decreases-loop-rest
decreases-loop-rest g l = length l.rest
