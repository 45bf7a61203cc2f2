-- The generated script gives the steps of its rounds, none of which is sliced work.
use Rattle.std.proofs.Common.{◌≡◌, ℕ, ◌<◌, ◌/◌, ◌%◌, Bool, true, false, List, [], ◌∷◌, ◌++◌, refl, sym, ap, subst, ◌∙◌, arith, append_assoc, append-nil, mod-lt, lit<, Ok, Some}
use Rattle.std.specs.Prelude.{codes, decimal, if◌then◌else◌, nat_eq}
use Rattle.std.specs.List.{flat_map, range_with_len}
use Rattle.rx_base.specs.Values.{Text}
use Rattle.rx_step.specs.declared.step.Step.{Step}
use Rattle.rx_step.specs.declared.step.Step.TheVariants as step
use Rattle.rx_script.specs.Input.{is_line_end}
use Rattle.rx_script.specs.Lines.{lane_of, path_of, steps_from, steps_of}
use Rattle.rx_script.specs.Words.{lines_of}
use Rattle.rx_gen.specs.Generated.{adding, cell_path, choice, is_flushed, lane_word, resizing, round_lines, script_text}
use Rattle.run_laws.specs.Unsliced.{AreUnsliced}
use Rattle.rx_gen.specs.Meant.{added, chosen_lane, generated_program, generated_steps, resized, round_steps, to_cell}
use Rattle.rx_gen.proofs.LineForms.{IsNumber, IsWord, call_line, call-is, call-without, is_return, stays-whole, cell-is, lane-is, number-is, number-word, set_line, set-is}
use Rattle.rx_gen.proofs.ScriptLines.{GivesSteps, IsStepLine, gives-both, gives-each, gives-line, gives-none}
use Rattle.rx_gen.proofs.Splitting.{without-append}

-- Lines

flush-line : IsStepLine (codes "flush") step.Flush
unfolding generated_program
flush-line = record { unbroken = refl; unstripped = refl; meant = refl }

adding-line : (q : ℕ) → IsStepLine (call_line (lane_word q) (cell_path (q / 4 % 40)) (decimal (q % 1000))) (added q)
adding-line q =
    record {
      unbroken = call-without is_line_end (lane_word q) (cell_path (q / 4 % 40)) (decimal (q % 1000)) refl refl refl lane.1.unbroken cell.1.unbroken ends.unbroken;
      unstripped = stays-whole (call_line (lane_word q) (cell_path (q / 4 % 40)) (decimal (q % 1000)))
          (call-without is_return (lane_word q) (cell_path (q / 4 % 40)) (decimal (q % 1000)) refl refl refl lane.1.unreturned cell.1.unreturned ends.unreturned);
      meant = call-is (lane_word q) (cell_path (q / 4 % 40)) (decimal (q % 1000)) (chosen_lane q) (q / 4 % 40) (q % 1000) lane.0 lane.1 cell.0 cell.1 number (omega (arith, k)) (omega (arith, x));
    }
  where
    k : q / 4 % 40 < 40
    k = mod-lt (q / 4) (lit< tt)

    x : q % 1000 < 1000
    x = mod-lt q (lit< tt)

    lane : (lane_of (lane_word q) ≡ Some (chosen_lane q)) × IsWord (lane_word q)
    lane = lane-is q

    cell : (path_of (cell_path (q / 4 % 40)) ≡ Some (to_cell (q / 4 % 40))) × IsWord (cell_path (q / 4 % 40))
    cell = cell-is (q / 4 % 40) (omega (arith, k))

    number : IsNumber (decimal (q % 1000)) (q % 1000)
    number = number-is (q % 1000) (omega (arith, x))

    ends : IsWord (decimal (q % 1000))
    ends = number-word (decimal (q % 1000)) (q % 1000) number

resizing-line : (q : ℕ) → IsStepLine (set_line (decimal (q % 65))) (resized q)
resizing-line q =
    record {
      unbroken = without-append is_line_end (codes "set sync App n ") (decimal (q % 65)) refl ends.unbroken;
      unstripped = stays-whole (set_line (decimal (q % 65))) (without-append is_return (codes "set sync App n ") (decimal (q % 65)) refl ends.unreturned);
      meant = set-is (decimal (q % 65)) (q % 65) number (omega (arith, x));
    }
  where
    x : q % 65 < 65
    x = mod-lt q (lit< tt)

    number : IsNumber (decimal (q % 65)) (q % 65)
    number = number-is (q % 65) (omega (arith, x))

    ends : IsWord (decimal (q % 65))
    ends = number-word (decimal (q % 65)) (q % 65) number

grouped : (a b c d e f : Text) → ((((a ++ b) ++ c) ++ d) ++ e) ++ f ≡ a ++ (b ++ (c ++ (d ++ (e ++ f))))
grouped a b c d e f = simp append_assoc

gives-adding : (q : ℕ) → GivesSteps (adding q) (added q ∷ [])
gives-adding q = subst (λ (t : Text). GivesSteps t (added q ∷ [])) same (gives-line (call_line (lane_word q) (cell_path (q / 4 % 40)) (decimal (q % 1000))) (added q) (adding-line q))
  where
    same : call_line (lane_word q) (cell_path (q / 4 % 40)) (decimal (q % 1000)) ++ 10 ∷ [] ≡ adding q
    same = ap (λ (t : Text). t ++ 10 ∷ []) (sym (grouped (codes "call ") (lane_word q) (codes " ") (cell_path (q / 4 % 40)) (codes " v add ") (decimal (q % 1000))))

gives-resizing : (q : ℕ) → GivesSteps (resizing q) (resized q ∷ [])
gives-resizing q = subst (λ (t : Text). GivesSteps t (resized q ∷ [])) same (gives-line (set_line (decimal (q % 65))) (resized q) (resizing-line q))
  where
    same : set_line (decimal (q % 65)) ++ 10 ∷ [] ≡ resizing q
    same = refl

gives-flush : GivesSteps (codes "flush\n") (step.Flush ∷ [])
gives-flush = gives-line (codes "flush") step.Flush flush-line

-- Rounds

gives-if : (b : Bool) (t : Text) (xs : List Step) → GivesSteps t xs → GivesSteps (if b then t else []) (if b then xs else [])
gives-if true t xs h = h
gives-if false t xs h = gives-none

gives-round : (n j q : ℕ) → GivesSteps (round_lines n j q) (round_steps n j q)
gives-round n j q =
    subst (λ (t : Text). GivesSteps t (round_steps n j q))
    (sym (append_assoc (if nat_eq (j % 8) 0 then resizing q else []) (adding q) (if is_flushed n j then codes "flush\n" else [])))
    (gives-both (if nat_eq (j % 8) 0 then resizing q else []) (adding q ++ (if is_flushed n j then codes "flush\n" else []))
    (if nat_eq (j % 8) 0 then resized q ∷ [] else []) (added q ∷ (if is_flushed n j then step.Flush ∷ [] else []))
    (gives-if (nat_eq (j % 8) 0) (resizing q) (resized q ∷ []) (gives-resizing q))
    (gives-both (adding q) (if is_flushed n j then codes "flush\n" else []) (added q ∷ []) (if is_flushed n j then step.Flush ∷ [] else [])
    (gives-adding q) (gives-if (is_flushed n j) (codes "flush\n") (step.Flush ∷ []) gives-flush)))

gives-script : (n : ℕ) → GivesSteps (script_text n) (generated_steps n)
unfolding script_text generated_steps
gives-script n =
    gives-both (codes "flush\n") (flat_map (λ j. round_lines n j (choice n j)) (range_with_len 1 n)) (step.Flush ∷ []) (flat_map (λ j. round_steps n j (choice n j)) (range_with_len 1 n))
    gives-flush
    (gives-each (λ j. round_lines n j (choice n j)) (λ j. round_steps n j (choice n j)) (λ j. gives-round n j (choice n j)) (range_with_len 1 n))

-- the steps of the script
pub script_steps : (n : ℕ) → steps_of generated_program (script_text n) ≡ Ok (generated_steps n)
unfolding steps_of
script_steps n =
    ap (λ (t : Text). steps_from generated_program 1 (lines_of t)) (sym (append-nil (script_text n)))
    ∙ (gives-script n [] [] (λ k. refl) 1 ∙ ap (λ (ss : List Step). Ok ss) (append-nil (generated_steps n)))

-- None is sliced work

unsliced-both : (xs ys : List Step) → AreUnsliced xs → AreUnsliced ys → AreUnsliced (xs ++ ys)
unsliced-both [] ys h k = k
unsliced-both (x ∷ xs) ys h k = (h.0, unsliced-both xs ys h.1 k)

unsliced-if : (b : Bool) (xs : List Step) → AreUnsliced xs → AreUnsliced (if b then xs else [])
unsliced-if true xs h = h
unsliced-if false xs h = tt

unsliced-round : (n j q : ℕ) → AreUnsliced (round_steps n j q)
unsliced-round n j q =
    unsliced-both (if nat_eq (j % 8) 0 then resized q ∷ [] else []) (added q ∷ (if is_flushed n j then step.Flush ∷ [] else []))
    (unsliced-if (nat_eq (j % 8) 0) (resized q ∷ []) (refl, tt)) (refl, unsliced-if (is_flushed n j) (step.Flush ∷ []) (refl, tt))

unsliced-rounds : (n : ℕ) (js : List ℕ) → AreUnsliced (flat_map (λ j. round_steps n j (choice n j)) js)
unsliced-rounds n [] = tt
unsliced-rounds n (j ∷ js) = unsliced-both (round_steps n j (choice n j)) (flat_map (λ i. round_steps n i (choice n i)) js) (unsliced-round n j (choice n j)) (unsliced-rounds n js)

pub none_sliced : (n : ℕ) → AreUnsliced (generated_steps n)
unfolding generated_steps
none_sliced n = (refl, unsliced-rounds n (range_with_len 1 n))
