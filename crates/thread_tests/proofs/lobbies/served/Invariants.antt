use Rattle.thread_tests.proofs.lobbies.served.Given as goal

-- the first pass of the turnstile that was just made
abbrev pub ghosts-serve_pairs : goal.ghosts-serve_pairs
ghosts-serve_pairs g a = record { first = a.pass }
