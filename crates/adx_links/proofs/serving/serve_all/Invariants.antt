use Rattle.adx_links.proofs.serving.serve_all.Given as goal

abbrev pub ghosts-serve_by-K-Ledger : goal.ghosts-serve_by-K-Ledger
ghosts-serve_by-K-Ledger g a = record { name = a.taken.name; parts = a.taken.parts }

abbrev pub ghosts-serve_by-L-Ledger : goal.ghosts-serve_by-L-Ledger
ghosts-serve_by-L-Ledger g a = record { name = a.given.name; parts = a.given.parts }
