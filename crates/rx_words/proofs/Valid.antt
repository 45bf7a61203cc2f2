-- The valid words, one after another.
use Rattle.std.proofs.Common.{◌≡◌, ℕ, sym, refl, Bool, true, false, cond, ◌&&◌, ◌||◌, List, [], ◌∷◌, Option, Some, None, option_map, codes, bytes_eq, subst}
use Rattle.std.proofs.lemmas.Slice.Eq.{bytes_eq-Decides}
use Rattle.rx_base.specs.Values.{Text}
use Rattle.rx_words.specs.declared.task.Task.{Task}
use Rattle.rx_words.specs.declared.task.Task.TheVariants.{Read, Gen}
use Rattle.rx_words.specs.declared.task.Reading.TheVariants.{Run, Check, Verify}
use Rattle.rx_words.specs.Words.{rounds_of, run_of, check_of, verify_of, gen_of, task_of}

-- equal texts are the same
pub same : (a b : Text) → bytes_eq a b ≡ true → a ≡ b
same a b is = (bytes_eq-Decides a b).0 is

-- what holds of each spelling and its task holds of all valid words
module _ (P : List Text → Task → Type 0) (run : P (codes "run" ∷ []) (Read (Run false false)))
    (counts : P (codes "run" ∷ codes "--counts" ∷ []) (Read (Run true false)))
    (ops : P (codes "run" ∷ codes "--ops" ∷ []) (Read (Run false true)))
    (both : P (codes "run" ∷ codes "--counts" ∷ codes "--ops" ∷ []) (Read (Run true true)))
    (turned : P (codes "run" ∷ codes "--ops" ∷ codes "--counts" ∷ []) (Read (Run true true)))
    (check : P (codes "check" ∷ []) (Read Check))
    (verify : P (codes "verify" ∷ []) (Read Verify))
    (gen : (word : Text) (n : ℕ) → rounds_of word ≡ Some n → P (codes "gen" ∷ word ∷ []) (Gen n)) where
  -- words with P for the task that they ask for
  abbrev Asks : List Text → Option Task → Type 0
  Asks words asked = (task : Task) → asked ≡ Some task → P words task

  with_task : (words : List Text) (task : Task) → P words task → Asks words (Some task)
  with_task words task p other is = let e : task ≡ other = cc in subst (P words) e p

  none : (words : List Text) → Asks words None
  none words task is = cc

  -- both options, in either order
  two : (v w : Text) (first second : Bool) → ((first ≡ true) → P (codes "run" ∷ v ∷ w ∷ []) (Read (Run true true))) → ((second ≡ true) → P (codes "run" ∷ v ∷ w ∷ []) (Read (Run true true)))
      → Asks (codes "run" ∷ v ∷ w ∷ []) (option_map (λ r. Read r) (cond (first || second) (Some (Run true true)) None))
  two v w true second p q = with_task (codes "run" ∷ v ∷ w ∷ []) (Read (Run true true)) (p refl)
  two v w false true p q = with_task (codes "run" ∷ v ∷ w ∷ []) (Read (Run true true)) (q refl)
  two v w false false p q = none (codes "run" ∷ v ∷ w ∷ [])

  -- two words are these
  are : (v w a b : Text) → (bytes_eq v a && bytes_eq w b) ≡ true → P (codes "run" ∷ a ∷ b ∷ []) (Read (Run true true)) → P (codes "run" ∷ v ∷ w ∷ []) (Read (Run true true))
  are v w a b is p = by_first (bytes_eq v a) refl (bytes_eq w b) refl where
    by_first : (x : Bool) → bytes_eq v a ≡ x → (y : Bool) → bytes_eq w b ≡ y → P (codes "run" ∷ v ∷ w ∷ []) (Read (Run true true))
    by_first true e true f =
        subst (λ x. P (codes "run" ∷ x ∷ w ∷ []) (Read (Run true true))) (sym (same v a e)) (subst (λ x. P (codes "run" ∷ a ∷ x ∷ []) (Read (Run true true))) (sym (same w b f)) p)
    by_first true e false f = let clash : false ≡ true = rw (e, f) at is in cc
    by_first false e y f = let clash : false ≡ true = rw e at is in cc

  one : (w : Text) (x y : Bool) → bytes_eq w (codes "--counts") ≡ x → bytes_eq w (codes "--ops") ≡ y
      → Asks (codes "run" ∷ w ∷ []) (option_map (λ r. Read r) (cond x (Some (Run true false)) (cond y (Some (Run false true)) None)))
  one w true y e f = with_task (codes "run" ∷ w ∷ []) (Read (Run true false)) (subst (λ x. P (codes "run" ∷ x ∷ []) (Read (Run true false))) (sym (same w (codes "--counts") e)) counts)
  one w false true e f = with_task (codes "run" ∷ w ∷ []) (Read (Run false true)) (subst (λ x. P (codes "run" ∷ x ∷ []) (Read (Run false true))) (sym (same w (codes "--ops") f)) ops)
  one w false false e f = none (codes "run" ∷ w ∷ [])

  run_asks : (words : List Text) → Asks (codes "run" ∷ words) (option_map (λ r. Read r) (run_of words))
  run_asks [] = with_task (codes "run" ∷ []) (Read (Run false false)) run
  run_asks (w ∷ []) = one w (bytes_eq w (codes "--counts")) (bytes_eq w (codes "--ops")) refl refl
  run_asks (v ∷ w ∷ []) =
      two v w (bytes_eq v (codes "--counts") && bytes_eq w (codes "--ops")) (bytes_eq v (codes "--ops") && bytes_eq w (codes "--counts"))
      (λ e. are v w (codes "--counts") (codes "--ops") e both) (λ e. are v w (codes "--ops") (codes "--counts") e turned)
  run_asks (v ∷ w ∷ x ∷ words) = none (codes "run" ∷ v ∷ w ∷ x ∷ words)

  check_asks : (words : List Text) → Asks (codes "check" ∷ words) (option_map (λ r. Read r) (check_of words))
  check_asks [] = with_task (codes "check" ∷ []) (Read Check) check
  check_asks (w ∷ words) = none (codes "check" ∷ w ∷ words)

  verify_asks : (words : List Text) → Asks (codes "verify" ∷ words) (option_map (λ r. Read r) (verify_of words))
  verify_asks [] = with_task (codes "verify" ∷ []) (Read Verify) verify
  verify_asks (w ∷ words) = none (codes "verify" ∷ w ∷ words)

  number : (word : Text) (o : Option ℕ) → rounds_of word ≡ o → Asks (codes "gen" ∷ word ∷ []) (option_map (λ n. Gen n) o)
  number word None e = none (codes "gen" ∷ word ∷ [])
  number word (Some n) e = with_task (codes "gen" ∷ word ∷ []) (Gen n) (gen word n e)

  gen_asks : (words : List Text) → Asks (codes "gen" ∷ words) (gen_of words)
  gen_asks [] = none (codes "gen" ∷ [])
  gen_asks (w ∷ []) = number w (rounds_of w) refl
  gen_asks (v ∷ w ∷ words) = none (codes "gen" ∷ v ∷ w ∷ words)

  -- the word is this command
  is_command : (command name : Text) (words : List Text) (asked : Option Task) → bytes_eq command name ≡ true → Asks (name ∷ words) asked → Asks (command ∷ words) asked
  is_command command name words asked e asks = subst (λ w. Asks (w ∷ words) asked) (sym (same command name e)) asks

  by_command : (command : Text) (words : List Text) (x y v z : Bool) → bytes_eq command (codes "run") ≡ x → bytes_eq command (codes "check") ≡ y → bytes_eq command (codes "verify") ≡ v → bytes_eq command (codes "gen") ≡ z
      → Asks (command ∷ words) (cond x (option_map (λ r. Read r) (run_of words)) (cond y (option_map (λ r. Read r) (check_of words)) (cond v (option_map (λ r. Read r) (verify_of words)) (cond z (gen_of words) None))))
  by_command command words true y v z e f h g = is_command command (codes "run") words (option_map (λ r. Read r) (run_of words)) e (run_asks words)
  by_command command words false true v z e f h g = is_command command (codes "check") words (option_map (λ r. Read r) (check_of words)) f (check_asks words)
  by_command command words false false true z e f h g = is_command command (codes "verify") words (option_map (λ r. Read r) (verify_of words)) h (verify_asks words)
  by_command command words false false false true e f h g = is_command command (codes "gen") words (gen_of words) g (gen_asks words)
  by_command command words false false false false e f h g = none (command ∷ words)

  pub each_valid : (words : List Text) (task : Task) → task_of words ≡ Some task → P words task
  each_valid [] task is = cc
  each_valid (command ∷ words) task is =
      by_command command words (bytes_eq command (codes "run")) (bytes_eq command (codes "check")) (bytes_eq command (codes "verify")) (bytes_eq command (codes "gen")) refl refl refl refl task is
