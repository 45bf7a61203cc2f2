-- How long a generated input is.
use Rattle.std.proofs.Common.{◌≡◌, ◌∙◌, ℕ, ◌+◌, ◌*◌, ◌≤◌, ◌<◌, ◌^◌, ◌%◌, ◌/◌, Bool, true, false, cond, List, [], ◌∷◌, ◌++◌, length, nat_eq, codes, decimal, ap, refl, arith}
use Rattle.std.specs.List.{flat_map, range_with_len}
use Rattle.std.proofs.lemmas.List.{length-append}
use Rattle.std.proofs.lemmas.List.FromFn.{length-range_with_len}
use Rattle.std.proofs.lemmas.Fmt.{length-decimal-le_succ}
use Rattle.rx_base.specs.Values.{Text}
use Rattle.rx_gen.specs.Generated.{program_text, script_text, adding, cell_path, choice, is_flushed, lane_word, resizing, round_lines}
use Rattle.rx_words.specs.Words.{most_rounds}
use Rattle.rx_gen.specs.Meant.{generated_input}

-- two texts behind one another
two : (xs ys : Text) (m n : ℕ) → length xs ≤ m → length ys ≤ n → length (xs ++ ys) ≤ m + n
two xs ys m n p q = omega (arith, length-append xs ys, p, q)

-- one of two texts
one_of : (b : Bool) (xs ys : Text) (n : ℕ) → length xs ≤ n → length ys ≤ n → length (cond b xs ys) ≤ n
one_of true xs ys n p q = p
one_of false xs ys n p q = q

-- a number in decimal digits
short : (n k : ℕ) → n < k → k ≤ 1000 → length (decimal n) ≤ k
short n k small few = omega (arith, length-decimal-le_succ n (omega (arith, small, few)), small)

lane-size : (q : ℕ) → length (lane_word q) ≤ 10
lane-size q =
    one_of (nat_eq (q % 4) 0) (codes "sync") _ 10 (omega arith)
    (one_of (nat_eq (q % 4) 1) (codes "input") _ 10 (omega arith) (one_of (nat_eq (q % 4) 2) (codes "default") (codes "transition") 10 (omega arith) (omega arith)))

cell-size : (k : ℕ) → k < 40 → length (cell_path k) ≤ 50
cell-size k few =
    two (codes "App/Cell") _ 8 42 (omega arith)
    (one_of (nat_eq k 0) [] (codes "@" ++ decimal k) 42 (omega arith) (two (codes "@") (decimal k) 1 41 (omega arith) (omega (arith, short k 40 few (omega arith)))))

resizing-size : (q : ℕ) → length (resizing q) ≤ 81
resizing-size q =
    two (codes "set sync App n ") _ 15 66 (omega arith) (two (decimal (q % 65)) (codes "\n") 65 1 (short (q % 65) 65 (omega arith) (omega arith)) (omega arith))

adding-size : (q : ℕ) → length (adding q) ≤ 1074
adding-size q =
    let lane = codes "call " ++ lane_word q in
    let space = lane ++ codes " " in
    let path = space ++ cell_path (q / 4 % 40) in
    let hook = path ++ codes " v add " in
    let number = hook ++ decimal (q % 1000) in
    let lanes : length lane ≤ 15 = two (codes "call ") (lane_word q) 5 10 (omega arith) (lane-size q) in
    let spaces : length space ≤ 16 = two lane (codes " ") 15 1 lanes (omega arith) in
    let paths : length path ≤ 66 = two space (cell_path (q / 4 % 40)) 16 50 spaces (cell-size (q / 4 % 40) (omega arith)) in
    let hooks : length hook ≤ 73 = two path (codes " v add ") 66 7 paths (omega arith) in
    let numbers : length number ≤ 1073 = two hook (decimal (q % 1000)) 73 1000 hooks (short (q % 1000) 1000 (omega arith) (omega arith)) in
    two number (codes "\n") 1073 1 numbers (omega arith)

round-size : (n j q : ℕ) → length (round_lines n j q) ≤ 1161
round-size n j q =
    let flush = cond (is_flushed n j) (codes "flush\n") [] in
    let flushes : length flush ≤ 6 = one_of (is_flushed n j) (codes "flush\n") [] 6 (omega arith) (omega arith) in
    let resized = cond (nat_eq (j % 8) 0) (resizing q) [] in
    let first : length resized ≤ 81 = one_of (nat_eq (j % 8) 0) (resizing q) [] 81 (resizing-size q) (omega arith) in
    two (resized ++ adding q) flush 1155 6 (two resized (adding q) 81 1074 first (adding-size q)) flushes

-- as many texts as there are numbers
many : (f : ℕ → Text) (m : ℕ) → ((j : ℕ) → length (f j) ≤ m) → (js : List ℕ) → length (flat_map f js) ≤ m * length js
many f m each [] = omega arith
many f m each (j ∷ js) = omega (arith, length-append (f j) (flat_map f js), each j, many f m each js)

rounds-size : (n : ℕ) → length (flat_map (λ j. round_lines n j (choice n j)) (range_with_len 1 n)) ≤ 1161 * n
rounds-size n =
    omega (arith, many (λ j. round_lines n j (choice n j)) 1161 (λ j. round-size n j (choice n j)) (range_with_len 1 n), length-range_with_len 1 n)

script-size : (n : ℕ) → length (script_text n) ≤ 6 + 1161 * n
unfolding script_text
script-size n = two (codes "flush\n") _ 6 (1161 * n) (omega arith) (rounds-size n)

program-size : length program_text ≡ 230
unfolding program_text
program-size = refl

-- a generated input is short
pub generated-size : (n : ℕ) → n ≤ most_rounds → length (generated_input n) < 2 ^ 32
generated-size n few =
    let size : length (generated_input n) ≡ length program_text + length (codes "---\n") + length (script_text n) =
    length-append (program_text ++ codes "---\n") (script_text n) ∙ ap (λ (k : ℕ). k + length (script_text n)) (length-append program_text (codes "---\n")) in
    omega (arith, few, size, script-size n, program-size)
