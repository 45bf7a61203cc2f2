-- The words of the command line, and what they ask for.
use Rattle.std.specs.Prelude.{ℕ, ◌≤◌, Bool, true, false, not, ◌&&◌, ◌||◌, List, [], ◌∷◌, map, Option, Some, None, is_some, option_map, codes, bytes_eq, decimal, nat_eq, nat_le, if◌then◌else◌}
use Rattle.std.specs.Option.{option_eq}
use Rattle.std.specs.Str.Parse.{digits_value}
use Rattle.std.specs.Borrow.{Bor}
use Rattle.rx_base.specs.Values.{Text}
use Rattle.rx_words.specs.declared.task.Task.{Task}
use Rattle.rx_words.specs.declared.task.Task.TheVariants.{Read, Gen}
use Rattle.rx_words.specs.declared.task.Reading.{Reading}
use Rattle.rx_words.specs.declared.task.Reading.TheVariants.{Run, Check, Verify}

-- the texts of the words
abbrev pub texts : List (Bor Text) → List Text
texts words = map (λ word. word.now) words

-- the most rounds that a generated script has
abbrev pub most_rounds : ℕ
most_rounds = 1000

-- the number of rounds that a word asks for: decimal digits without a leading zero, from 1 to 1,000
abbrev pub rounds_of : Text → Option ℕ
rounds_of word =
    let n = digits_value 10 word in
    if nat_le 1 n && (nat_le n most_rounds && bytes_eq word (decimal n)) then Some n else None

-- two words are both options of `run`, in either order
abbrev pub spells_both : (one two : Text) → Bool
spells_both one two =
    (bytes_eq one (codes "--counts") && bytes_eq two (codes "--ops")) || (bytes_eq one (codes "--ops") && bytes_eq two (codes "--counts"))

-- what the words behind `run` ask for: each option at most once, in either order
abbrev pub run_of : List Text → Option Reading
run_of [] = Some (Run false false)
run_of (w ∷ []) =
    if bytes_eq w (codes "--counts") then Some (Run true false) else if bytes_eq w (codes "--ops") then Some (Run false true) else None
run_of (v ∷ w ∷ []) = if spells_both v w then Some (Run true true) else None
run_of (v ∷ w ∷ x ∷ words) = None

-- no word stands behind `check`
abbrev pub check_of : List Text → Option Reading
check_of [] = Some Check
check_of (w ∷ words) = None

-- no word stands behind `verify`
abbrev pub verify_of : List Text → Option Reading
verify_of [] = Some Verify
verify_of (w ∷ words) = None

-- a number of rounds alone stands behind `gen`
abbrev pub gen_of : List Text → Option Task
gen_of [] = None
gen_of (w ∷ []) = option_map (λ n. Gen n) (rounds_of w)
gen_of (v ∷ w ∷ words) = None

-- what the words ask for, if they are valid: `run` with its options, `check` alone, `verify` alone, or `gen` with a number of rounds
abbrev pub task_of : List Text → Option Task
task_of [] = None
task_of (command ∷ words) =
    if bytes_eq command (codes "run") then option_map (λ r. Read r) (run_of words)
    else if bytes_eq command (codes "check") then option_map (λ r. Read r) (check_of words)
    else if bytes_eq command (codes "verify") then option_map (λ r. Read r) (verify_of words)
    else if bytes_eq command (codes "gen") then gen_of words
    else None

-- the words are valid
abbrev pub is_valid : List Text → Bool
is_valid words = is_some (task_of words)

-- a number of rounds is from 1 to 1,000
abbrev pub HasRounds : Task → Type 0
HasRounds (Read reading) = Unit {0}
HasRounds (Gen n) = (1 ≤ n) × (n ≤ most_rounds)

-- a task that reads an input
abbrev pub reads : Option Task → Bool
reads None = false
reads (Some (Read reading)) = true
reads (Some (Gen n)) = false

-- the words ask for a task that reads an input
abbrev pub reads_input : List Text → Bool
reads_input words = reads (task_of words)

-- The spelling of a task

-- a word is the one of these options that there is
abbrev pub spells_option : (counts ops : Bool) → Text → Bool
spells_option true true w = false
spells_option true false w = bytes_eq w (codes "--counts")
spells_option false true w = bytes_eq w (codes "--ops")
spells_option false false w = false

-- the words are these options
abbrev pub spells_options : (counts ops : Bool) → List Text → Bool
spells_options counts ops [] = not counts && not ops
spells_options counts ops (w ∷ []) = spells_option counts ops w
spells_options counts ops (v ∷ w ∷ []) = counts && (ops && spells_both v w)
spells_options counts ops (v ∷ w ∷ x ∷ words) = false

-- there is no word
abbrev pub spells_nothing : List Text → Bool
spells_nothing [] = true
spells_nothing (w ∷ words) = false

-- the words are this number of rounds
abbrev pub spells_rounds : ℕ → List Text → Bool
spells_rounds n [] = false
spells_rounds n (w ∷ []) = option_eq nat_eq (rounds_of w) (Some n)
spells_rounds n (v ∷ w ∷ words) = false

-- the words ask for the task, and for no other
abbrev pub spells : Task → List Text → Bool
spells task [] = false
spells (Read (Run counts ops)) (command ∷ words) = bytes_eq command (codes "run") && spells_options counts ops words
spells (Read Check) (command ∷ words) = bytes_eq command (codes "check") && spells_nothing words
spells (Read Verify) (command ∷ words) = bytes_eq command (codes "verify") && spells_nothing words
spells (Gen n) (command ∷ words) = bytes_eq command (codes "gen") && spells_rounds n words

-- a task, if the words are its spelling
abbrev pub spelled : Option Task → List Text → Option Task
spelled None words = None
spelled (Some task) words = if spells task words then Some task else None
