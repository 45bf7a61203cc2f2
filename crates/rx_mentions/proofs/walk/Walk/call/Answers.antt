use Rattle.rx_mentions.proofs.walk.Walk.call.Goals as goal

pub returns : goal.returns
returns c = c.note.ensures
