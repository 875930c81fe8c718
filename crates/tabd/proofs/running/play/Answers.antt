use Rattle.tabd.proofs.running.play.Goals as goal

-- the replay's own clauses, and how it ends the program
pub returns : goal.returns
returns g c = (c.replay.result, c.end_of_replay.ensures, c.replay.ensures.bytes, c.replay.ensures.faults)
