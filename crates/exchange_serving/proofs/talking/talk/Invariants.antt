use Rattle.exchange_serving.proofs.talking.talk.Given as goal

-- what the source reported
abbrev pub ghosts-talk_over : goal.ghosts-talk_over
ghosts-talk_over g a = record { tape = g.S.Source.tape a.source.now }
