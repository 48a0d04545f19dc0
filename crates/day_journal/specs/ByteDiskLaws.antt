-- The laws that a disk keeps which is its bytes. Only its own members cite this file.
use Rattle.std.specs.Prelude.{◌≡◌, ℕ, ◌≤◌, List, length, Some}
use Rattle.std.proofs.Common.{◌∙◌, sym, arith}
use Rattle.std.proofs.Math.ListN.{get_or-eq_default}
use Rattle.day_journal.specs.ByteDisks.{ByteDiskState, HeldSince}

pub read_is_held : (d : ByteDiskState) (file : List ℕ) → Some d.bytes ≡ Some file → file ≡ d.bytes
read_is_held d file told = let is : d.bytes ≡ file = cc told in sym is

pub held_now : (d : ByteDiskState) (t : ℕ) (c : List ℕ) → t ≤ length d.past → c ≡ d.bytes → HeldSince d t c
held_now d t c le is = (length d.past, le, omega arith, is ∙ sym (get_or-eq_default d.past d.bytes (omega arith)))

pub held_last : (d : ByteDiskState) (c : List ℕ) → HeldSince d (length d.past) c → c ≡ d.bytes
held_last d c held = held.3 ∙ get_or-eq_default d.past d.bytes held.1
