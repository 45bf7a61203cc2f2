use Rattle.rx_script.specs.Input.{input_of}
use Rattle.rx_accept.proofs.One.{judged-one}
use Rattle.rx_accept.proofs.laws.judgement_is_one.Goals as goal

pub returns-clause-whole : goal.returns-clause-whole
returns-clause-whole c input =
    judged-one (record {
      one_list = λ text ts us a b. c.tokens_are_one_list.ensures.of_text text ts us a b;
      one_place = λ text at other a b. c.uncovered_place_is_one.ensures.of_text at other text a b;
      apart = λ text at ts a b. c.uncovered_place_is_one.ensures.of_text_apart at text ts a b;
      one_program = λ p q ks a b. c.tokens_have_one_program.ensures p q ks a b;
    }) (input_of input)

pub returns-clause-parts : goal.returns-clause-parts
returns-clause-parts c =
    judged-one (record {
      one_list = λ text ts us a b. c.tokens_are_one_list.ensures.of_text text ts us a b;
      one_place = λ text at other a b. c.uncovered_place_is_one.ensures.of_text at other text a b;
      apart = λ text at ts a b. c.uncovered_place_is_one.ensures.of_text_apart at text ts a b;
      one_program = λ p q ks a b. c.tokens_have_one_program.ensures p q ks a b;
    })
