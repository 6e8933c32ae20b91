use Rattle.caller_tests.proofs.callers.two_jobs_meet.Given as goal

-- two jobs, which any report answers
abbrev pub ghosts-two_jobs : goal.ghosts-two_jobs
ghosts-two_jobs g a = record { jobs = 2; answers = λ number report. Unit {0} }
