-- The words that spell a task are those that ask for it.
use Rattle.std.proofs.Common.{◌≡◌, ◌∙◌, ℕ, sym, ap, refl, Bool, true, false, cond, ◌&&◌, List, [], ◌∷◌, Option, Some, None, option_map, codes, bytes_eq, nat_eq, subst}
use Rattle.std.specs.Option.{option_eq}
use Rattle.std.proofs.lemmas.Bool.{eqb-true, eq-eqb}
use Rattle.rx_base.specs.Values.{Text}
use Rattle.rx_words.specs.declared.task.Task.{Task}
use Rattle.rx_words.specs.declared.task.Task.TheVariants.{Read, Gen}
use Rattle.rx_words.specs.declared.task.Reading.TheVariants.{Run, Check, Verify}
use Rattle.rx_words.specs.Words.{rounds_of, run_of, check_of, verify_of, gen_of, spelled, spells, spells_option, spells_options, spells_nothing, spells_rounds, task_of}
use Rattle.rx_words.proofs.Valid.{each_valid, same}

-- both hold
both : (a b : Bool) → (a && b) ≡ true → (a ≡ true) × (b ≡ true)
both true true is = (refl, refl)
both true false is = cc
both false b is = cc

-- words that ask for a task spell it
valid-spells : (words : List Text) (task : Task) → task_of words ≡ Some task → spells task words ≡ true
valid-spells = each_valid (λ words task. spells task words ≡ true) refl refl refl refl refl refl refl (λ word n is. rw is (eq-eqb n n refl))

option-is : (counts ops : Bool) (w : Text) → spells_option counts ops w ≡ true → run_of (w ∷ []) ≡ Some (Run counts ops)
option-is true true w is = cc
option-is true false w is = rw is refl
option-is false true w is = subst (λ x. run_of (x ∷ []) ≡ Some (Run false true)) (sym (same w (codes "--ops") is)) refl
option-is false false w is = cc

options-is : (counts ops : Bool) (words : List Text) → spells_options counts ops words ≡ true → run_of words ≡ Some (Run counts ops)
options-is true ops [] is = cc
options-is false true [] is = cc
options-is false false [] is = refl
options-is counts ops (w ∷ []) is = option-is counts ops w is
options-is true true (v ∷ w ∷ []) is = rw is refl
options-is true false (v ∷ w ∷ []) is = cc
options-is false ops (v ∷ w ∷ []) is = cc
options-is counts ops (v ∷ w ∷ x ∷ words) is = cc

nothing-is : (words : List Text) → spells_nothing words ≡ true → check_of words ≡ Some Check
nothing-is [] is = refl
nothing-is (w ∷ words) is = cc

nothing-judges : (words : List Text) → spells_nothing words ≡ true → verify_of words ≡ Some Verify
nothing-judges [] is = refl
nothing-judges (w ∷ words) is = cc

number-is : (n : ℕ) (o : Option ℕ) → option_eq nat_eq o (Some n) ≡ true → option_map (λ k. Gen k) o ≡ Some (Gen n)
number-is n None is = cc
number-is n (Some k) is = ap (λ m. Some (Gen m)) (eqb-true k n is)

rounds-are : (n : ℕ) (words : List Text) → spells_rounds n words ≡ true → gen_of words ≡ Some (Gen n)
rounds-are n [] is = cc
rounds-are n (w ∷ []) is = number-is n (rounds_of w) is
rounds-are n (v ∷ w ∷ words) is = cc

-- words that spell a task ask for it
spells-is : (task : Task) (words : List Text) → spells task words ≡ true → task_of words ≡ Some task
spells-is task [] is = cc
spells-is (Read (Run counts ops)) (command ∷ words) is =
    let h = both (bytes_eq command (codes "run")) (spells_options counts ops words) is in
    subst (λ w. task_of (w ∷ words) ≡ Some (Read (Run counts ops))) (sym (same command (codes "run") h.0)) (ap (option_map (λ r. Read r)) (options-is counts ops words h.1))
spells-is (Read Check) (command ∷ words) is =
    let h = both (bytes_eq command (codes "check")) (spells_nothing words) is in
    subst (λ w. task_of (w ∷ words) ≡ Some (Read Check)) (sym (same command (codes "check") h.0)) (ap (option_map (λ r. Read r)) (nothing-is words h.1))
spells-is (Read Verify) (command ∷ words) is =
    let h = both (bytes_eq command (codes "verify")) (spells_nothing words) is in
    subst (λ w. task_of (w ∷ words) ≡ Some (Read Verify)) (sym (same command (codes "verify") h.0)) (ap (option_map (λ r. Read r)) (nothing-judges words h.1))
spells-is (Gen n) (command ∷ words) is =
    let h = both (bytes_eq command (codes "gen")) (spells_rounds n words) is in
    subst (λ w. task_of (w ∷ words) ≡ Some (Gen n)) (sym (same command (codes "gen") h.0)) (rounds-are n words h.1)

-- what was found is kept if the words are its spelling, and that is what they ask for
pub spelled-is : (words : List Text) (found : Option Task) → ((task : Task) → task_of words ≡ Some task → found ≡ Some task) → spelled found words ≡ task_of words
spelled-is words found finds = by_found found refl (task_of words) refl where
  kept : (task : Task) (b : Bool) → spells task words ≡ b → (asked : Option Task) → task_of words ≡ asked → found ≡ Some task → cond b (Some task) None ≡ asked
  kept task true e asked is f = sym (spells-is task words e) ∙ is
  kept task false e None is f = refl
  kept task false e (Some other) is f =
      let both_found : ◌≡◌ {A = Option Task} (Some task) (Some other) = sym f ∙ finds other is in
      let one : other ≡ task = cc in
      let clash : true ≡ false = sym (valid-spells words other is) ∙ ap (λ t. spells t words) one ∙ e in
      cc

  by_found : (f : Option Task) → found ≡ f → (asked : Option Task) → task_of words ≡ asked → spelled f words ≡ asked
  by_found None f None is = refl
  by_found None f (Some task) is = let clash : ◌≡◌ {A = Option Task} None (Some task) = sym f ∙ finds task is in cc
  by_found (Some task) f asked is = kept task (spells task words) refl asked is f

-- words that are not taken are not valid
pub refused-none : (words : List Text) → ((task : Task) → task_of words ≡ Some task → ⊥) → None ≡ task_of words
refused-none words refused = by_asked (task_of words) refl where
  by_asked : (asked : Option Task) → task_of words ≡ asked → None ≡ asked
  by_asked None is = refl
  by_asked (Some task) is = absurd (refused task is)
