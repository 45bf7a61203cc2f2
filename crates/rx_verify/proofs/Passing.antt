-- What was passed of a report, or was not.
use Rattle.std.proofs.Common.{◌≡◌, ℕ, suc, ◌+◌, ◌≤◌, Bool, true, false, cond, Result, Ok, Err, List, [], ◌∷◌, ◌++◌, length, take, drop, refl, sym, ap, ◌∙◌, arith}
use Rattle.std.specs.Prelude.{OnOk, filter}
use Rattle.std.proofs.lemmas.List.{length-take-le, take_all}
use Rattle.rx_lines.specs.Lines.{Line, Written, report_bytes}
use Rattle.rx_given.specs.declared.passing.Place.{Place}
use Rattle.rx_given.specs.Lines.{ends_in, is_line_end, shared}
use Rattle.rx_writing.specs.Written.{with_lines}
use Rattle.choice_laws.specs.Telling.{counted}
use Rattle.rx_verify.specs.Following.{IsPlace}
use Rattle.rx_verify.proofs.Fronts.{ends-append, same_byte}
use Rattle.rx_verify.proofs.Following.{passed-is}

-- these bytes were passed
pub record Passed (bytes : List ℕ) (place then : Place) (written : List ℕ) : Type 0 where
  pub passed : take then.bytes bytes ≡ take place.bytes bytes ++ written
  pub there : IsPlace bytes then
  pub later : place.lines ≤ then.lines

-- they do not come next, and those lines were passed of which each byte does
pub record Differs (bytes : List ℕ) (place : Place) (then : ℕ) (written : List ℕ) : Type 0 where
  pub lines : then ≡ place.lines + ends_in (take (shared (drop place.bytes bytes) written) written)
  pub other : (more : List ℕ) → drop place.bytes bytes ≡ written ++ more → ⊥

-- by what is answered
abbrev pub Passes : (bytes : List ℕ) (place then : Place) (written : List ℕ) → Bool → Type 0
Passes bytes place then written true = Passed bytes place then written
Passes bytes place then written false = Differs bytes place then.lines written

shared-whole : (xs ys : List ℕ) → shared (xs ++ ys) xs ≡ length xs
shared-whole [] [] = refl
shared-whole [] (y ∷ ys) = refl
shared-whole (x ∷ xs) ys = let e = shared-whole xs ys in rw (same_byte x x refl) (ap suc e)

all-passed : (bytes : List ℕ) (place then : Place) (written : List ℕ) → IsPlace bytes place → drop place.bytes bytes ≡ written ++ drop then.bytes bytes
    → then.lines ≡ place.lines + ends_in (take (shared (drop place.bytes bytes) written) written) → then.bytes ≤ length bytes → Passed bytes place then written
all-passed bytes place then written at is lines inside =
    let passed = passed-is bytes written place.bytes then.bytes is in
    let whole : take (shared (drop place.bytes bytes) written) written ≡ written =
    take_all (shared (drop place.bytes bytes) written) written (omega (arith, ap (λ xs. shared xs written) is, shared-whole written (drop then.bytes bytes))) in
    let more : then.lines ≡ place.lines + ends_in written = lines ∙ ap (λ xs. place.lines + ends_in xs) whole in
    record {
      passed = passed;
      there = record { inside = inside; lines = more ∙ ap (λ n. n + ends_in written) at.lines ∙ sym (ends-append (take place.bytes bytes) written) ∙ ap ends_in (sym passed) };
      later = omega (arith, more);
    }

pub by-answer : (bytes : List ℕ) (place then : Place) (written : List ℕ) (agrees : Bool) → IsPlace bytes place → (agrees ≡ true → drop place.bytes bytes ≡ written ++ drop then.bytes bytes)
    → (agrees ≡ false → (more : List ℕ) → drop place.bytes bytes ≡ written ++ more → ⊥)
    → then.lines ≡ place.lines + ends_in (take (shared (drop place.bytes bytes) written) written) → then.bytes ≤ length bytes → Passes bytes place then written agrees
by-answer bytes place then written true at same other lines inside = all-passed bytes place then written at (same refl) lines inside
by-answer bytes place then written false at same other lines inside = record { lines = lines; other = other refl }

-- the place behind what was passed is one
pub place-if : (bytes : List ℕ) (place then : Place) (written : List ℕ) (agrees : Bool) → Passes bytes place then written agrees → agrees ≡ true → IsPlace bytes then
place-if bytes place then written true h e = h.there
place-if bytes place then written false h e = cc

-- the bytes of a report with these lines alone
pub log-bytes : (old new : Written) (ls : List Line) → old ≡ record { options = counted; bytes = [] } → new ≡ with_lines old ls → new.bytes ≡ report_bytes counted ls
log-bytes old new ls empty is = ap (λ (w : Written). w.bytes) is ∙ ap (λ (w : Written). (with_lines w ls).bytes) empty

pub ends-few : (xs : List ℕ) → ends_in xs ≤ length xs
ends-few [] = omega arith
ends-few (x ∷ xs) = few-by (is_line_end x) (ends-few xs)
  where
    few-by : (b : Bool) → ends_in xs ≤ length xs → length (cond b (x ∷ filter is_line_end xs) (filter is_line_end xs)) ≤ suc (length xs)
    few-by true h = omega (arith, h)
    few-by false h = omega (arith, h)

-- no more lines end up to a place than the report has bytes
pub few-lines : (bytes : List ℕ) (place : Place) → IsPlace bytes place → place.lines ≤ length bytes
few-lines bytes place at = omega (arith, at.lines, ends-few (take place.bytes bytes), length-take-le place.bytes bytes at.inside, at.inside)

pub on-ok : {A E P Q : Type 0} (r : Result A E) → (P → Q) → OnOk r P → OnOk r Q
on-ok (Ok x) f h = f h
on-ok (Err e) f h = tt
