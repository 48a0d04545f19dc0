-- What the words show after one of them has changed.
use Rattle.std.proofs.Common.{◌≡◌, ℕ, ◌%◌, ◌^◌, ◌<◌, List, set, get_or, ◌∙◌, arith}
use Rattle.std.proofs.lemmas.List.{get_or-set_same, get_or-set_other, set-get_or, length-set}
use Rattle.turnstile.specs.declared.words.TheConstants.{TICKETS, SERVED, FRONT, FAULTS}
use Rattle.turnstile.specs.Rule.{Shows}

-- a word that is read stays
pub set_read : (ws : List ℕ) (i : ℕ) → set ws i (get_or ws i 0) ≡ ws
set_read ws i = set-get_or ws i 0

pub shows_ticket : (ws : List ℕ) (d s f q d' x : ℕ) → Shows ws d s f q → x ≡ d' % 2 ^ 64 → Shows (set ws TICKETS x) d' s f q
shows_ticket ws d s f q d' x h is = let many = h.many in record {
  many = length-set ws TICKETS x ∙ h.many;
  next = get_or-set_same ws TICKETS x 0 (omega arith) ∙ is;
  turn = get_or-set_other ws TICKETS SERVED x 0 (λ e. omega arith) ∙ h.turn;
  front_is = get_or-set_other ws TICKETS FRONT x 0 (λ e. omega arith) ∙ h.front_is;
  faults_are = get_or-set_other ws TICKETS FAULTS x 0 (λ e. omega arith) ∙ h.faults_are;
}

pub shows_turn : (ws : List ℕ) (d s f q s' x : ℕ) → Shows ws d s f q → x ≡ s' % 2 ^ 64 → Shows (set ws SERVED x) d s' f q
shows_turn ws d s f q s' x h is = let many = h.many in record {
  many = length-set ws SERVED x ∙ h.many;
  next = get_or-set_other ws SERVED TICKETS x 0 (λ e. omega arith) ∙ h.next;
  turn = get_or-set_same ws SERVED x 0 (omega arith) ∙ is;
  front_is = get_or-set_other ws SERVED FRONT x 0 (λ e. omega arith) ∙ h.front_is;
  faults_are = get_or-set_other ws SERVED FAULTS x 0 (λ e. omega arith) ∙ h.faults_are;
}

pub shows_front : (ws : List ℕ) (d s f q f' x : ℕ) → Shows ws d s f q → x ≡ f' → Shows (set ws FRONT x) d s f' q
shows_front ws d s f q f' x h is = let many = h.many in record {
  many = length-set ws FRONT x ∙ h.many;
  next = get_or-set_other ws FRONT TICKETS x 0 (λ e. omega arith) ∙ h.next;
  turn = get_or-set_other ws FRONT SERVED x 0 (λ e. omega arith) ∙ h.turn;
  front_is = get_or-set_same ws FRONT x 0 (omega arith) ∙ is;
  faults_are = get_or-set_other ws FRONT FAULTS x 0 (λ e. omega arith) ∙ h.faults_are;
}

pub shows_faults : (ws : List ℕ) (d s f q q' x : ℕ) → Shows ws d s f q → x ≡ q' → Shows (set ws FAULTS x) d s f q'
shows_faults ws d s f q q' x h is = let many = h.many in record {
  many = length-set ws FAULTS x ∙ h.many;
  next = get_or-set_other ws FAULTS TICKETS x 0 (λ e. omega arith) ∙ h.next;
  turn = get_or-set_other ws FAULTS SERVED x 0 (λ e. omega arith) ∙ h.turn;
  front_is = get_or-set_other ws FAULTS FRONT x 0 (λ e. omega arith) ∙ h.front_is;
  faults_are = get_or-set_same ws FAULTS x 0 (omega arith) ∙ is;
}

-- a word of those who sleep says nothing
pub shows_still : (ws : List ℕ) (d s f q i x : ℕ) → SERVED < i → Shows ws d s f q → Shows (set ws i x) d s f q
shows_still ws d s f q i x past h = record {
  many = length-set ws i x ∙ h.many;
  next = get_or-set_other ws i TICKETS x 0 (λ e. omega arith) ∙ h.next;
  turn = get_or-set_other ws i SERVED x 0 (λ e. omega arith) ∙ h.turn;
  front_is = get_or-set_other ws i FRONT x 0 (λ e. omega arith) ∙ h.front_is;
  faults_are = get_or-set_other ws i FAULTS x 0 (λ e. omega arith) ∙ h.faults_are;
}
