use Rattle.rx_model.proofs.laws.hooks_stand_at_the_start.Goals as goal

pub returns : goal.returns
returns c = λ p kept k m e. absurd (cc e)
