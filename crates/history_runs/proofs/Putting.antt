-- Bytes that are put in pieces, and what is printed by them.
use Rattle.std.proofs.Common.{◌≡◌, ◌∙◌, ℕ, List, [], ◌++◌, Option, Result, Ok, Err, IfErr, OnErr, OnOk, inr, refl, sym, ap, subst, append_assoc, append-nil}
use Rattle.adx_io.specs.Streams.{Took}
use Rattle.adx_io.specs.declared.stop.Stop.{Stop}
use Rattle.adx_io.specs.Talk.{PutsAll, PutsSome, TalkState}
use Rattle.adx_io.proofs.Moved.{took_both, took_none}
use Rattle.command_runs.specs.Meanings.{TookPrefix}
use Rattle.command_runs.proofs.Ran.{some_taken}
use Rattle.day_rules.specs.declared.entry.Entry.{Entry}
use Rattle.deal_floor.specs.declared.roster.Roster.{Roster}
use Rattle.history_runs.specs.Histories.{Printed, Prints}
use Rattle.history_runs.specs.Putting.{PutsBytes, PutsFront, PutsPiece}

-- some bytes were put, and then a prefix of more
prefix_more : (held mid now : Option (List ℕ)) (first more : List ℕ) → Took held mid first → TookPrefix mid now more → TookPrefix held now (first ++ more)
prefix_more held mid now first more took (front, back, split, took_front) =
    (first ++ front, back, ap (λ (l : List ℕ). first ++ l) split ∙ sym (append_assoc first front back), took_both held mid now first front took took_front)

-- some bytes were put, and then more or a prefix of it
pub puts_more : (held mid now : Option (List ℕ)) (first more : List ℕ) (result : Result (Unit {0}) Stop) → PutsBytes held mid first (Ok tt) → PutsBytes mid now more result → PutsBytes held now (first ++ more) result
puts_more held mid now first more (Ok done) took puts = took_both held mid now first more took puts
puts_more held mid now first more (Err Stop.ReadFault) took puts = absurd puts
puts_more held mid now first more (Err Stop.WriteFault) took puts = prefix_more held mid now first more took puts
puts_more held mid now first more (Err Stop.OutOfMemory) took puts = prefix_more held mid now first more took puts

-- a prefix of the first bytes is one of all
prefix_first : (held now : Option (List ℕ)) (first more : List ℕ) → TookPrefix held now first → TookPrefix held now (first ++ more)
prefix_first held now first more (front, back, split, took) = (front, back ++ more, ap (λ (l : List ℕ). l ++ more) split ∙ append_assoc front back more, took)

pub puts_first : (held now : Option (List ℕ)) (first more : List ℕ) (stop : Stop) → PutsBytes held now first (Err stop) → PutsBytes held now (first ++ more) (Err stop)
puts_first held now first more Stop.ReadFault puts = absurd puts
puts_first held now first more Stop.WriteFault puts = prefix_first held now first more puts
puts_first held now first more Stop.OutOfMemory puts = prefix_first held now first more puts

-- what was written was put, or a prefix of it
pub puts_out : (before now : TalkState) (bytes : List ℕ) (result : Result (Unit {0}) Stop) → before.out ≡ bytes → OnOk result (PutsAll before now) → IfErr result (λ stop. stop ≡ Stop.WriteFault) → OnErr result (PutsSome before now)
    → PutsBytes before.held now.held bytes result
puts_out before now bytes (Ok done) is all fault part = subst (Took before.held now.held) is all.took
puts_out before now bytes (Err Stop.ReadFault) is all fault part = absurd (cc fault)
puts_out before now bytes (Err Stop.WriteFault) is all fault part = subst (TookPrefix before.held now.held) is (some_taken before now part)
puts_out before now bytes (Err Stop.OutOfMemory) is all fault part = absurd (cc fault)

-- what is printed of a history was put, or a prefix of it
pub printed_by : (prints : Prints) (r : Roster) (history : List Entry) (held now : Option (List ℕ)) (bytes : List ℕ) (result : Result (Unit {0}) Stop) → prints r history bytes → PutsBytes held now bytes result → Printed prints r history held now result
printed_by prints r history held now bytes (Ok done) is puts = (bytes, is, puts)
printed_by prints r history held now bytes (Err Stop.ReadFault) is puts = absurd puts
printed_by prints r history held now bytes (Err Stop.WriteFault) is puts = (bytes, is, puts)
printed_by prints r history held now bytes (Err Stop.OutOfMemory) is puts = inr (bytes, is, puts)

-- memory was refused before more was written
pub puts_none : (held : Option (List ℕ)) (bytes : List ℕ) → PutsBytes held held bytes (Err Stop.OutOfMemory)
puts_none held bytes = ([], bytes, refl, took_none held)

-- nothing was put yet, and all is still to be put
pub front_none : (held : Option (List ℕ)) (bytes : List ℕ) → PutsFront held held bytes bytes
front_none held bytes = record { front = []; took = took_none held; split = refl }

-- the rest of some bytes was put behind their front, or a prefix of it
pub puts_behind : (held mid now : Option (List ℕ)) (bytes rest : List ℕ) (result : Result (Unit {0}) Stop) → PutsFront held mid bytes rest → PutsBytes mid now rest result → PutsBytes held now bytes result
puts_behind held mid now bytes rest result before puts =
    subst (λ (b : List ℕ). PutsBytes held now b result) (sym before.split) (puts_more held mid now before.front rest result before.took puts)

-- more was written behind the rest, and a front of both was put
pub front_on : (held mid now : Option (List ℕ)) (bytes between more rest : List ℕ) → PutsFront held mid bytes between → PutsFront mid now (between ++ more) rest → PutsFront held now (bytes ++ more) rest
front_on held mid now bytes between more rest before step = record {
  front = before.front ++ step.front;
  took = took_both held mid now before.front step.front before.took step.took;
  split = ap (λ (b : List ℕ). b ++ more) before.split ∙ append_assoc before.front between more
      ∙ ap (λ (b : List ℕ). before.front ++ b) step.split ∙ sym (append_assoc before.front step.front rest);
}

-- the run was cut short at it, so that of all that was to come a prefix was put
pub stops_on : (held mid now : Option (List ℕ)) (bytes between more others : List ℕ) (stop : Stop) → PutsFront held mid bytes between → PutsBytes mid now (between ++ more) (Err stop)
    → PutsBytes held now ((bytes ++ more) ++ others) (Err stop)
stops_on held mid now bytes between more others stop before step =
    puts_first held now (bytes ++ more) others stop
    (subst (λ (b : List ℕ). PutsBytes held now b (Err stop)) (sym (append_assoc before.front between more) ∙ ap (λ (b : List ℕ). b ++ more) (sym before.split))
    (puts_more held mid now before.front (between ++ more) (Err stop) before.took step))

-- what was written was put, once it was a piece
pub piece_put : (before now : TalkState) (result : Result (Unit {0}) Stop) → OnOk result (PutsAll before now) → IfErr result (λ stop. stop ≡ Stop.WriteFault) → OnErr result (PutsSome before now)
    → PutsPiece before.held now.held before.out now.out result
piece_put before now (Ok done) all fault part = record { front = before.out; took = all.took; split = sym (append-nil before.out) ∙ ap (λ (r : List ℕ). before.out ++ r) (sym all.none) }
piece_put before now (Err stop) all fault part = puts_out before now before.out (Err stop) refl all fault part
