-- The lines of the generated script are steps of the generated program.
use Rattle.std.proofs.Common.{◌≡◌, ℕ, zero, suc, ◌-◌, ◌^◌, ◌<◌, ◌≤◌, ◌==◌, not, Bool, true, false, List, [], ◌∷◌, ◌++◌, length, refl, sym, ap, subst, ◌∙◌, arith, nat_le, nat_lt, Some}
use Rattle.std.specs.Prelude.{codes, decimal, filter, pos, slice_index, if◌then◌else◌, nat_eq, ◌%◌}
use Rattle.std.specs.List.{slice_split, onto_first}
use Rattle.std.specs.Str.Lines.{strip_carriage_return}
use Rattle.std.specs.Char.{is_ascii_digit}
use Rattle.rx_base.specs.Values.{Text}
use Rattle.rx_step.specs.declared.step.LaneWord.{LaneWord}
use Rattle.rx_step.specs.declared.step.LaneWord.TheVariants as word
use Rattle.rx_step.specs.declared.step.Dispatch.TheVariants.{Set, Call}
use Rattle.rx_step.specs.declared.step.Step.TheVariants as step
use Rattle.rx_step.specs.Steps.{Path}
use Rattle.rx_script.specs.Input.{is_line_end}
use Rattle.rx_script.specs.Words.{is_blank, is_empty, integer_of, natural_of, lower_of, words_of, upper_of}
use Rattle.rx_script.specs.Lines.{◌◂◌, call_form, value_form, form_of, formed, good, is_at_sign, is_slash, lane_of, line_of, meant, part_of, parts_of, path_of, rooted}
use Rattle.rx_gen.specs.Generated.{cell_path, lane_word}
use Rattle.rx_gen.specs.Meant.{chosen_lane, generated_program, to_cell, to_root}
use Rattle.rx_gen.proofs.Splitting.{AreDigits, without, without-append, split-none, split-at, digits-without, decimal-digits, in-digits, integer-of-natural, is-not, natural-of-decimal}
use Rattle.rx_gen.proofs.Covering.{both-true, not-true}

-- Words

-- a carriage return
abbrev pub is_return : ℕ → Bool
is_return b = b == 13

-- a word between blanks in a line
pub record IsWord (w : Text) : Type 0 where
  pub unparted : without is_blank w ≡ true
  pub unbroken : without is_line_end w ≡ true
  pub unreturned : without is_return w ≡ true
  pub some : is_empty w ≡ false

-- Digits

no-blank : (b : ℕ) → is_ascii_digit b ≡ true → is_blank b ≡ false
no-blank b h = let r = in-digits b h in
    let e : (b == 32) ≡ false = is-not b 32 (λ x. omega arith) in
    let f : (b == 9) ≡ false = is-not b 9 (λ x. omega arith) in
    rw (e, f) refl

no-line_end : (b : ℕ) → is_ascii_digit b ≡ true → is_line_end b ≡ false
no-line_end b h = let r = in-digits b h in is-not b 10 (λ x. omega arith)

no-return : (b : ℕ) → is_ascii_digit b ≡ true → is_return b ≡ false
no-return b h = let r = in-digits b h in is-not b 13 (λ x. omega arith)

no-slash : (b : ℕ) → is_ascii_digit b ≡ true → is_slash b ≡ false
no-slash b h = let r = in-digits b h in is-not b 47 (λ x. omega arith)

no-at_sign : (b : ℕ) → is_ascii_digit b ≡ true → is_at_sign b ≡ false
no-at_sign b h = let r = in-digits b h in is-not b 64 (λ x. omega arith)

-- a number in a line
pub record IsNumber (w : Text) (n : ℕ) : Type 0 where
  pub digits : AreDigits w
  pub some : is_empty w ≡ false
  pub value : natural_of w ≡ Some n

-- a word of some bytes
begun : (b : ℕ) (w : Text) → is_empty (b ∷ w) ≡ false
begun b w = is-not (length (b ∷ w)) 0 (λ e. omega arith)

not-empty : (w : Text) (n : ℕ) → natural_of w ≡ Some n → is_empty w ≡ false
not-empty [] n h = cc
not-empty (b ∷ w) n h = begun b w

pub number-is : (n : ℕ) → n < 2 ^ 64 → IsNumber (decimal n) n
number-is n h =
    record { digits = decimal-digits n h; some = not-empty (decimal n) n (natural-of-decimal n h); value = natural-of-decimal n h }

pub number-word : (w : Text) (n : ℕ) → IsNumber w n → IsWord w
number-word w n h =
    record {
      unparted = digits-without is_blank no-blank w h.digits;
      unbroken = digits-without is_line_end no-line_end w h.digits;
      unreturned = digits-without is_return no-return w h.digits;
      some = h.some;
    }

-- Lanes

pub lane-is : (q : ℕ) → (lane_of (lane_word q) ≡ Some (chosen_lane q)) × IsWord (lane_word q)
lane-is q = go (nat_eq (q % 4) 0) (nat_eq (q % 4) 1) (nat_eq (q % 4) 2)
  where
    go : (a b c : Bool)
        → (lane_of (if a then codes "sync" else if b then codes "input" else if c then codes "default" else codes "transition")
        ≡ Some (if a then word.Sync else if b then word.Input else if c then word.Default else word.Transition))
        × IsWord (if a then codes "sync" else if b then codes "input" else if c then codes "default" else codes "transition")
    go true b c = (refl, record { unparted = refl; unbroken = refl; unreturned = refl; some = refl })
    go false true c = (refl, record { unparted = refl; unbroken = refl; unreturned = refl; some = refl })
    go false false true = (refl, record { unparted = refl; unbroken = refl; unreturned = refl; some = refl })
    go false false false = (refl, record { unparted = refl; unbroken = refl; unreturned = refl; some = refl })

-- Paths

numbered : (d : Text) (k : ℕ) → IsNumber d k → path_of (codes "App/Cell@" ++ d) ≡ Some (to_cell k)
numbered d k h = ap rooted slashes ∙ (λ i. Some (λ (name : Text) (path : Path). (name, 0) ∷ path) ◂ upper_of (codes "App") ◂ parts i)
  where
    slashes : slice_split is_slash (codes "App/Cell@" ++ d) ≡ codes "App" ∷ (codes "Cell@" ++ d) ∷ []
    slashes = ap (λ (ps : List Text). codes "App" ∷ onto_first 67 (onto_first 101 (onto_first 108 (onto_first 108 (onto_first 64 ps))))) (split-none is_slash d (digits-without is_slash no-slash d h.digits))

    ats : slice_split is_at_sign (codes "Cell@" ++ d) ≡ codes "Cell" ∷ d ∷ []
    ats = ap (λ (ps : List Text). codes "Cell" ∷ ps) (split-none is_at_sign d (digits-without is_at_sign no-at_sign d h.digits))

    part : part_of (slice_split is_at_sign (codes "Cell@" ++ d)) ≡ Some (codes "Cell", k)
    part = ap part_of ats ∙ (λ i. Some (λ (name : Text) (number : ℕ). (name, number)) ◂ upper_of (codes "Cell") ◂ h.value i)

    parts : parts_of ((codes "Cell@" ++ d) ∷ []) ≡ Some ((codes "Cell", k) ∷ [])
    parts = (λ i. Some (λ (p : Text × ℕ) (path : Path). p ∷ path) ◂ part i ◂ parts_of [])

cell-numbered : (k : ℕ) → cell_path (suc k) ≡ codes "App/Cell@" ++ decimal (suc k)
cell-numbered k =
    let some : nat_eq (suc k) 0 ≡ false = is-not (suc k) 0 (λ e. omega arith) in
    ap (λ (b : Bool). codes "App/Cell" ++ (if b then [] else codes "@" ++ decimal (suc k))) some

pub cell-is : (k : ℕ) → k < 2 ^ 64 → (path_of (cell_path k) ≡ Some (to_cell k)) × IsWord (cell_path k)
cell-is zero h = (refl, record { unparted = refl; unbroken = refl; unreturned = refl; some = refl })
cell-is (suc k) h = subst (λ (t : Text). (path_of t ≡ Some (to_cell (suc k))) × IsWord t) (sym (cell-numbered k)) it
  where
    n : IsNumber (decimal (suc k)) (suc k)
    n = number-is (suc k) h

    w : IsWord (decimal (suc k))
    w = number-word (decimal (suc k)) (suc k) n

    it : (path_of (codes "App/Cell@" ++ decimal (suc k)) ≡ Some (to_cell (suc k))) × IsWord (codes "App/Cell@" ++ decimal (suc k))
    it = (
      numbered (decimal (suc k)) (suc k) n,
      record {
        unparted = without-append is_blank (codes "App/Cell@") (decimal (suc k)) refl w.unparted;
        unbroken = without-append is_line_end (codes "App/Cell@") (decimal (suc k)) refl w.unbroken;
        unreturned = without-append is_return (codes "App/Cell@") (decimal (suc k)) refl w.unreturned;
        some = begun 65 (codes "pp/Cell@" ++ decimal (suc k));
      },
    )

-- Lines

-- the words of a line with a word at its front
word-first : (w rest : Text) → IsWord w → words_of (w ++ 32 ∷ rest) ≡ w ∷ words_of rest
word-first w rest h = ap (filter (λ (x : Text). not (is_empty x))) (split-at is_blank w 32 rest h.unparted refl) ∙ rw h.some refl

word-last : (w : Text) → IsWord w → words_of w ≡ w ∷ []
word-last w h = ap (filter (λ (x : Text). not (is_empty x))) (split-none is_blank w h.unparted) ∙ rw h.some refl

-- what is told of the last number of a line
fits : (x : ℕ) → x < 2 ^ 31 → nat_lt x (2 ^ 31) ≡ true
fits x h = grind (arith, h)

in-path : (k : ℕ) → k ≤ 4095 → nat_le k 4095 ≡ true
in-path k h = grind (arith, h)

-- a line that adds to a cell's state
abbrev pub call_line : (lane cell number : Text) → Text
call_line l c d = codes "call " ++ (l ++ (32 ∷ (c ++ (codes " v add " ++ d))))

call-words : (l c d : Text) → IsWord l → IsWord c → IsWord d
    → words_of (call_line l c d) ≡ codes "call" ∷ l ∷ c ∷ codes "v" ∷ codes "add" ∷ d ∷ []
call-words l c d hl hc hd =
    first ∙ ap (λ (ws : List Text). codes "call" ∷ ws) (second ∙ ap (λ (ws : List Text). l ∷ ws) (third ∙ ap (λ (ws : List Text). c ∷ ws) last))
  where
    first : words_of (call_line l c d) ≡ codes "call" ∷ words_of (l ++ (32 ∷ (c ++ (codes " v add " ++ d))))
    first = word-first (codes "call") (l ++ (32 ∷ (c ++ (codes " v add " ++ d)))) (record { unparted = refl; unbroken = refl; unreturned = refl; some = refl })

    second : words_of (l ++ (32 ∷ (c ++ (codes " v add " ++ d)))) ≡ l ∷ words_of (c ++ (codes " v add " ++ d))
    second = word-first l (c ++ (codes " v add " ++ d)) hl

    third : words_of (c ++ (codes " v add " ++ d)) ≡ c ∷ words_of (codes "v add " ++ d)
    third = word-first c (codes "v add " ++ d) hc

    last : words_of (codes "v add " ++ d) ≡ codes "v" ∷ codes "add" ∷ d ∷ []
    last = ap (λ (ws : List Text). codes "v" ∷ codes "add" ∷ ws) (word-last d hd)

call-form : (l c d : Text) (lane : LaneWord) (path : Path) (x : ℕ) → lane_of l ≡ Some lane → path_of c ≡ Some path → integer_of d ≡ Some (pos x)
    → form_of (codes "call" ∷ l ∷ c ∷ codes "v" ∷ codes "add" ∷ d ∷ []) ≡ Some (step.Dispatch (Call lane path (codes "v") (codes "add") (pos x)))
call-form l c d lane path x hl hc hd =
    (λ i. call_form (codes "call") ◂ hl i ◂ hc i ◂ lower_of (codes "v") ◂ lower_of (codes "add") ◂ hd i)

call-formed : (lane : LaneWord) (k x : ℕ) → k ≤ 4095 → x < 2 ^ 31
    → formed generated_program (Some (step.Dispatch (Call lane (to_cell k) (codes "v") (codes "add") (pos x)))) ≡ good (step.Dispatch (Call lane (to_cell k) (codes "v") (codes "add") (pos x)))
unfolding generated_program
call-formed lane k x small low = rw (fits x low, in-path k small) refl

pub call-is : (l c d : Text) (lane : LaneWord) (k x : ℕ) → lane_of l ≡ Some lane → IsWord l → path_of c ≡ Some (to_cell k) → IsWord c → IsNumber d x → k ≤ 4095 → x < 2 ^ 31
    → line_of generated_program (call_line l c d) ≡ good (step.Dispatch (Call lane (to_cell k) (codes "v") (codes "add") (pos x)))
call-is l c d lane k x hl wl hc wc hd small low =
    ap (meant generated_program) (call-words l c d wl wc (number-word d x hd))
    ∙ (ap (formed generated_program) (call-form l c d lane (to_cell k) x hl hc (integer-of-natural d x hd.digits hd.value))
    ∙ call-formed lane k x small low)

-- a line that sets how many cells there are
abbrev pub set_line : (number : Text) → Text
set_line d = codes "set sync App n " ++ d

set-formed : (x : ℕ) → x < 2 ^ 31
    → formed generated_program (Some (step.Dispatch (Set word.Sync to_root (codes "n") (pos x)))) ≡ good (step.Dispatch (Set word.Sync to_root (codes "n") (pos x)))
unfolding generated_program
set-formed x low = rw (fits x low) refl

pub set-is : (d : Text) (x : ℕ) → IsNumber d x → x < 2 ^ 31
    → line_of generated_program (set_line d) ≡ good (step.Dispatch (Set word.Sync to_root (codes "n") (pos x)))
set-is d x hd low =
    ap (meant generated_program) words
    ∙ ((λ i. formed generated_program (value_form (codes "set") ◂ lane_of (codes "sync") ◂ path_of (codes "App") ◂ lower_of (codes "n") ◂ integer_of-d i)) ∙ set-formed x low)
  where
    integer_of-d : integer_of d ≡ Some (pos x)
    integer_of-d = integer-of-natural d x hd.digits hd.value

    words : words_of (set_line d) ≡ codes "set" ∷ codes "sync" ∷ codes "App" ∷ codes "n" ∷ d ∷ []
    words = ap (λ (ws : List Text). codes "set" ∷ codes "sync" ∷ codes "App" ∷ codes "n" ∷ ws) (word-last d (number-word d x hd))

-- a text without carriage returns ends in none
no-return-at : (l : Text) (k : ℕ) → without is_return l ≡ true → (slice_index l k == 13) ≡ false
no-return-at [] k h = refl
no-return-at (b ∷ l) zero h = not-true (b == 13) (both-true (not (b == 13)) (without is_return l) h).0
no-return-at (b ∷ l) (suc k) h = no-return-at l k (both-true (not (b == 13)) (without is_return l) h).1

pub stays-whole : (l : Text) → without is_return l ≡ true → strip_carriage_return l ≡ l
stays-whole l h = rw (no-return-at l (length l - 1) h) refl

pub call-without : (p : ℕ → Bool) (l c d : Text) → without p (codes "call ") ≡ true → p 32 ≡ false → without p (codes " v add ") ≡ true
    → without p l ≡ true → without p c ≡ true → without p d ≡ true → without p (call_line l c d) ≡ true
call-without p l c d first blank last hl hc hd =
    without-append p (codes "call ") (l ++ (32 ∷ (c ++ (codes " v add " ++ d)))) first
    (without-append p l (32 ∷ (c ++ (codes " v add " ++ d))) hl
    (without-append p (32 ∷ []) (c ++ (codes " v add " ++ d)) (rw blank refl)
    (without-append p c (codes " v add " ++ d) hc (without-append p (codes " v add ") d last hd))))
