use Rattle.replay.proofs.encoding.+read_code.Given as goal

abbrev pub decreases-read_code : goal.decreases-read_code
decreases-read_code l = l.count
