-- Lines behind those that a report has.
use Rattle.std.proofs.Common.{◌≡◌, ℕ, false, refl, ◌+◌, ◌<◌, ◌≤◌, List, [], ◌∷◌, ◌++◌, length, get_or, take, sym, ap, ◌∙◌, append_assoc, append-nil}
use Rattle.std.specs.Prelude.{map}
use Rattle.std.proofs.Math.Seq.{take-append_seam}
use Rattle.std.proofs.lemmas.Grind.{flat_map-append}
use Rattle.std.proofs.lemmas.List.{map-append, take_more, take_all}
use Rattle.rx_base.specs.Values.{Text}
use Rattle.std.specs.List.{AllByRecursion}
use Rattle.rx_effect.specs.declared.log.LogLine.{LogLine}
use Rattle.rx_lines.specs.Lines.{Line, Options, Written, is_printed, line_bytes, logged, report_bytes, with_line}
use Rattle.rx_writing.specs.Written.{GoesOn, with_lines}

-- a report with these bytes behind its own
abbrev behind : Written → Text → Written
behind r more = record { options = r.options; bytes = r.bytes ++ more }

-- with no line behind them the lines stay
pub with_lines-nil : (r : Written) → with_lines r [] ≡ r
unfolding report_bytes
with_lines-nil r = ap (λ (bytes : Text). record { options = r.options; bytes = bytes }) (append-nil r.bytes)

-- one line behind them
pub with_lines-one : (r : Written) (l : Line) → with_lines r (l ∷ []) ≡ with_line r l
unfolding report_bytes
with_lines-one r l = ap (behind r) (append-nil (line_bytes r.options l))

-- lines behind lines
pub with_lines-append : (r : Written) (xs ys : List Line) → with_lines r (xs ++ ys) ≡ with_lines (with_lines r xs) ys
unfolding report_bytes
with_lines-append r xs ys =
    ap (behind r) (flat_map-append (line_bytes r.options) xs ys)
    ∙ ap (λ (bytes : Text). record { options = r.options; bytes = bytes }) (sym (append_assoc r.bytes (report_bytes r.options xs) (report_bytes r.options ys)))

-- a line, and lines behind it
pub with_lines-cons : (r : Written) (l : Line) (ls : List Line) → with_lines r (l ∷ ls) ≡ with_lines (with_line r l) ls
with_lines-cons r l ls = with_lines-append r (l ∷ []) ls ∙ ap (λ (w : Written). with_lines w ls) (with_lines-one r l)

-- effects that are destroyed, and then effects that are created
pub passive-parts : (r a b : Written) (ds es xs ys : List LogLine) → xs ≡ ds → ys ≡ es → a ≡ with_lines r (map logged xs) → b ≡ with_lines a (map logged ys)
    → b ≡ with_lines r (map logged (ds ++ es))
passive-parts r a b ds es xs ys d e f g =
    g
    ∙ ap (λ (ls : List LogLine). with_lines a (map logged ls)) e
    ∙ ap (λ (w : Written). with_lines w (map logged es)) (f ∙ ap (λ (ls : List LogLine). with_lines r (map logged ls)) d)
    ∙ sym (with_lines-append r (map logged ds) (map logged es))
    ∙ ap (with_lines r) (sym (map-append logged ds es))

no_bytes : (o : Options) (ls : List Line) → AllByRecursion (λ l. is_printed o.ops l ≡ false) ls → report_bytes o ls ≡ []
unfolding report_bytes
no_bytes o [] none = refl
no_bytes o (l ∷ ls) none = rw none.0 (no_bytes o ls none.1)

-- lines that are not printed are no bytes
pub not_printed : (r : Written) (ls : List Line) → AllByRecursion (λ l. is_printed r.options.ops l ≡ false) ls → with_lines r ls ≡ r
not_printed r ls none = ap (λ (bytes : Text). record { options = r.options; bytes = r.bytes ++ bytes }) (no_bytes r.options ls none) ∙ ap (λ (bytes : Text). record { options = r.options; bytes = bytes }) (append-nil r.bytes)

-- a report as it was went on
pub goes_on-same : (old new : Written) → new ≡ old → GoesOn old new
goes_on-same old new e = record { options = ap (λ w. w.options) e; more = []; bytes = ap (λ w. w.bytes) e ∙ sym (append-nil old.bytes) }

-- a report with a line behind its own went on
pub goes_on-line : (old new : Written) (l : Line) → new ≡ with_line old l → GoesOn old new
goes_on-line old new l e = record { options = ap (λ w. w.options) e; more = line_bytes old.options l; bytes = ap (λ w. w.bytes) e }

-- a report with lines behind its own went on
pub goes_on-lines : (old new : Written) (ls : List Line) → new ≡ with_lines old ls → GoesOn old new
goes_on-lines old new ls e = record { options = ap (λ w. w.options) e; more = report_bytes old.options ls; bytes = ap (λ w. w.bytes) e }

-- a report went on, and went on again
pub goes_on-again : (a b c : Written) → GoesOn a b → GoesOn b c → GoesOn a c
goes_on-again a b c first second =
    record {
      options = second.options ∙ first.options;
      more = first.more ++ second.more;
      bytes = second.bytes ∙ ap (λ (t : Text). t ++ second.more) first.bytes ∙ append_assoc a.bytes first.more second.more;
    }

-- what was written is taken back
pub taken_back : (old new : Written) → GoesOn old new → record { options = new.options; bytes = take (length old.bytes) new.bytes } ≡ old
taken_back old new g =
    ap (λ o. record { options = o; bytes = take (length old.bytes) new.bytes }) g.options
    ∙ ap (λ (t : Text). record { options = old.options; bytes = take (length old.bytes) t }) g.bytes
    ∙ ap (λ (t : Text). record { options = old.options; bytes = t }) (take-append_seam old.bytes g.more)

-- Items that are written one after another, each by its line
module _ {A : Type 0} (line : A → Line) where
  -- one item more is written
  pub items-next : (xs : List A) (k : ℕ) (x : A) (first before after : Written) → k < length xs → x ≡ get_or xs k x
      → before ≡ with_lines first (map line (take k xs)) → after ≡ with_line before (line x) → after ≡ with_lines first (map line (take (k + 1) xs))
  items-next xs k x first before after h e so_far more =
      more
      ∙ ap (λ (w : Written). with_line w (line x)) so_far
      ∙ sym (with_lines-one (with_lines first (map line (take k xs))) (line x))
      ∙ sym (with_lines-append first (map line (take k xs)) (line x ∷ []))
      ∙ ap (with_lines first) (sym (map-append line (take k xs) (x ∷ [])) ∙ ap (map line) (ap (λ y. take k xs ++ y ∷ []) e ∙ sym (take_more xs k x h)))

  -- all items are written
  pub items-all : (xs : List A) (k : ℕ) (first after : Written) → length xs ≤ k → after ≡ with_lines first (map line (take k xs))
      → after ≡ with_lines first (map line xs)
  items-all xs k first after h so_far = so_far ∙ ap (λ (ys : List A). with_lines first (map line ys)) (take_all k xs h)
