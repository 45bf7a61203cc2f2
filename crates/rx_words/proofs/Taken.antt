-- What clap finds among valid words.
use Rattle.std.proofs.Common.{◌≡◌, ◌∙◌, ℕ, zero, suc, ◌<◌, ◌+◌, ◌-◌, sym, ap, ap₂, refl, option_map, Bool, true, false, List, [], ◌∷◌, Option, Some, None, IfSome, codes, subst, arith}
use Rattle.rx_base.specs.Values.{Text}
use Rattle.clap.specs.Words.{first_of, one_of, is_simple, matches_of, takes}
use Rattle.clap.proofs.OnLiterals.{clap_on_literals}
use Rattle.rx_words.specs.declared.task.Task.{Task}
use Rattle.rx_words.specs.declared.task.Task.TheVariants.{Read, Gen}
use Rattle.rx_words.specs.declared.task.Reading.TheVariants.{Run, Check, Verify}
use Rattle.std.specs.Str.Parse.{IsNumeral}
use Rattle.std.proofs.lemmas.Fmt.{decimal_is_IsNumeral}
use Rattle.std.proofs.lemmas.Str.Parse.{digit_from_value}
use Rattle.rx_words.specs.Words.{rounds_of, task_of, HasRounds}
use Rattle.rx_words.proofs.Decimals.{rounds-is}
use Rattle.rx_words.proofs.Valid.{each_valid}
use Rattle.rx_words.specs.CommandLine.{command_line, task_found}

pub line_is_simple : is_simple command_line ≡ true
unfolding clap_on_literals
line_is_simple = refl

-- what a flag is read as, from its text
abbrev pub FlagIs : Option Text → Bool → Type 0
FlagIs text flag = (text ≡ Some (codes "true") → flag ≡ true) × (text ≡ Some (codes "false") → flag ≡ false)

-- the words are taken, and the task is found
pub record IsFound (words : List Text) (task : Task) : Type 0 where
  pub taken : takes command_line words ≡ true
  pub found : (counts ops : Bool) → FlagIs (one_of (codes "counts") (matches_of command_line words)) counts
      → FlagIs (one_of (codes "ops") (matches_of command_line words)) ops
      → task_found (first_of (codes "command") (matches_of command_line words)) (first_of (codes "rounds") (matches_of command_line words)) counts ops ≡ Some task

run_found : IsFound (codes "run" ∷ []) (Read (Run false false))
unfolding clap_on_literals
run_found = record { taken = refl; found = λ counts ops c o. rw (c.1 refl, o.1 refl) refl }

counts_found : IsFound (codes "run" ∷ codes "--counts" ∷ []) (Read (Run true false))
unfolding clap_on_literals
counts_found = record { taken = refl; found = λ counts ops c o. rw (c.0 refl, o.1 refl) refl }

ops_found : IsFound (codes "run" ∷ codes "--ops" ∷ []) (Read (Run false true))
unfolding clap_on_literals
ops_found = record { taken = refl; found = λ counts ops c o. rw (c.1 refl, o.0 refl) refl }

both_found : IsFound (codes "run" ∷ codes "--counts" ∷ codes "--ops" ∷ []) (Read (Run true true))
unfolding clap_on_literals
both_found = record { taken = refl; found = λ counts ops c o. rw (c.0 refl, o.0 refl) refl }

both_found_turned : IsFound (codes "run" ∷ codes "--ops" ∷ codes "--counts" ∷ []) (Read (Run true true))
unfolding clap_on_literals
both_found_turned = record { taken = refl; found = λ counts ops c o. rw (c.0 refl, o.0 refl) refl }

check_found : IsFound (codes "check" ∷ []) (Read Check)
unfolding clap_on_literals
check_found = record { taken = refl; found = λ counts ops c o. refl }

verify_found : IsFound (codes "verify" ∷ []) (Read Verify)
unfolding clap_on_literals
verify_found = record { taken = refl; found = λ counts ops c o. refl }

-- a word is found behind `gen`
record IsWordFound (word : Text) : Type 0 where
  taken : takes command_line (codes "gen" ∷ word ∷ []) ≡ true
  command : first_of (codes "command") (matches_of command_line (codes "gen" ∷ word ∷ [])) ≡ Some (codes "gen")
  rounds : first_of (codes "rounds") (matches_of command_line (codes "gen" ∷ word ∷ [])) ≡ Some word

-- so is each that begins with a digit
digit_found : (d : ℕ) (w : Text) → d < 10 → IsWordFound ((48 + d) ∷ w)
unfolding clap_on_literals
digit_found zero w h = record { taken = refl; command = refl; rounds = refl }
digit_found (suc zero) w h = record { taken = refl; command = refl; rounds = refl }
digit_found (suc (suc zero)) w h = record { taken = refl; command = refl; rounds = refl }
digit_found (suc (suc (suc zero))) w h = record { taken = refl; command = refl; rounds = refl }
digit_found (suc (suc (suc (suc zero)))) w h = record { taken = refl; command = refl; rounds = refl }
digit_found (suc (suc (suc (suc (suc zero))))) w h = record { taken = refl; command = refl; rounds = refl }
digit_found (suc (suc (suc (suc (suc (suc zero)))))) w h = record { taken = refl; command = refl; rounds = refl }
digit_found (suc (suc (suc (suc (suc (suc (suc zero))))))) w h = record { taken = refl; command = refl; rounds = refl }
digit_found (suc (suc (suc (suc (suc (suc (suc (suc zero)))))))) w h = record { taken = refl; command = refl; rounds = refl }
digit_found (suc (suc (suc (suc (suc (suc (suc (suc (suc zero))))))))) w h = record { taken = refl; command = refl; rounds = refl }
digit_found (suc (suc (suc (suc (suc (suc (suc (suc (suc (suc d)))))))))) w h = absurd (omega (arith, h))

-- and each numeral
numeral_found : (word : Text) → IsNumeral 10 word → IsWordFound word
numeral_found [] numeral = absurd (omega (arith, numeral.0))
numeral_found (b ∷ w) numeral =
    let digit = digit_from_value b numeral.1.0 in
    subst (λ x. IsWordFound (x ∷ w)) (omega (arith, digit)) (digit_found (b - 48) w (omega (arith, digit)))

-- and what asks for a number of rounds
gen_found : (word : Text) (n : ℕ) → rounds_of word ≡ Some n → IsFound (codes "gen" ∷ word ∷ []) (Gen n)
gen_found word n is =
    let rounds = rounds-is word n is in
    let numeral = (decimal_is_IsNumeral n (omega (arith, rounds.2))).0 in
    let f = numeral_found word (subst (IsNumeral 10) (sym rounds.0) numeral) in
    record {
      taken = f.taken;
      found = λ counts ops c o. ap₂ (λ command w. task_found command w counts ops) f.command f.rounds ∙ ap (option_map (λ k. Gen k)) is;
    }

-- valid words are taken, and their task is found
pub valid-found : (words : List Text) (task : Task) → task_of words ≡ Some task → IsFound words task
valid-found = each_valid IsFound run_found counts_found ops_found both_found both_found_turned check_found verify_found gen_found

-- and a number of rounds that they ask for is from 1 to 1,000
valid-rounds : (words : List Text) (task : Task) → task_of words ≡ Some task → HasRounds task
valid-rounds = each_valid (λ words task. HasRounds task) tt tt tt tt tt tt tt (λ word n is. let rounds = rounds-is word n is in (rounds.1, rounds.2))

pub asked-rounds : (words : List Text) (asked : Option Task) → asked ≡ task_of words → IfSome asked HasRounds
asked-rounds words None is = tt
asked-rounds words (Some task) is = valid-rounds words task (sym is)
