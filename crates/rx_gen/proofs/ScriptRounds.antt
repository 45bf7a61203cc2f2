-- The rounds of a script, one after another.
use Rattle.std.proofs.Common.{◌≡◌, ℕ, suc, ◌+◌, ◌-◌, ◌*◌, ◌%◌, ◌^◌, ◌<◌, ◌≤◌, ◌++◌, sym, ap, ◌∙◌, arith, append_assoc, append-nil, add-one, mod-lt, lt_of_lt_of_le, lit<, lit≤}
use Rattle.std.specs.Prelude.{codes}
use Rattle.std.specs.List.{flat_map, range_with_len}
use Rattle.rx_base.specs.Values.{Text}
use Rattle.rx_gen.specs.Generated.{next_drawn, drawn, choice, round_lines, script_text}

-- the lines of a round of a script
abbrev pub lines_in : (rounds round : ℕ) → Text
lines_in n j = round_lines n j (choice n j)

-- the lines of the rounds behind so many
abbrev pub lines_after : (rounds done : ℕ) → Text
lines_after n done = flat_map (lines_in n) (range_with_len (done + 1) (n - done))

-- the next number
pub drawn-next : (n j : ℕ) → drawn n (j + 1) ≡ next_drawn (drawn n j)
drawn-next n j = ap (drawn n) (add-one j)

-- each number behind the first has 31 bits
pub drawn-small : (x : ℕ) → next_drawn x < 2 ^ 32
drawn-small x = let below : (x * 1103515245 + 12345) % 2 ^ 31 < 2 ^ 31 = mod-lt (x * 1103515245 + 12345) (lit< tt) in lt_of_lt_of_le below (lit≤ tt)

-- a script begins with a flush
pub script-begin : (n : ℕ) → codes "flush\n" ++ lines_after n 0 ≡ script_text n
unfolding script_text
script-begin n = ap (λ (k : ℕ). codes "flush\n" ++ flat_map (lines_in n) (range_with_len 1 k)) (omega arith)

-- what is left begins with the next round
pub lines-next : (n done : ℕ) → done < n → lines_after n done ≡ lines_in n (done + 1) ++ lines_after n (done + 1)
lines-next n done h =
    let left : n - done ≡ suc (n - (done + 1)) = omega arith in
    ap (λ (k : ℕ). flat_map (lines_in n) (range_with_len (done + 1) k)) left

-- a round is written
pub round-written : (n done : ℕ) (log new whole : Text) → done < n → new ≡ log ++ lines_in n (done + 1) → log ++ lines_after n done ≡ whole → new ++ lines_after n (done + 1) ≡ whole
round-written n done log new whole h is before =
    ap (λ (t : Text). t ++ lines_after n (done + 1)) is ∙ append_assoc log (lines_in n (done + 1)) (lines_after n (done + 1))
    ∙ ap (λ (t : Text). log ++ t) (sym (lines-next n done h)) ∙ before

-- no round is left
pub rounds-end : (n done : ℕ) (log whole : Text) → n ≤ done → log ++ lines_after n done ≡ whole → log ≡ whole
rounds-end n done log whole h before =
    let none : n - done ≡ 0 = omega arith in
    sym (append-nil log) ∙ ap (λ (k : ℕ). log ++ flat_map (lines_in n) (range_with_len (done + 1) k)) (sym none) ∙ before
