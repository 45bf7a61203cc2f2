use Rattle.run_laws.proofs.Turns.{finishes, yields}
use Rattle.run_laws.proofs.laws.progress_makes_turns.Goals as goal

pub returns : goal.returns
returns c =
    record {
      finishes = λ p bounded s g slice units bodies tree h more within kept each. finishes p bounded s g slice units bodies tree h more within kept each;
      yields = λ p bounded s g budget bodies c h busy each. yields p bounded s g budget bodies c h busy each;
    }
