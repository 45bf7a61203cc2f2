-- What comes next in a report, and the lines with which a render ends.
use Rattle.std.proofs.Common.{◌≡◌, ℕ, ◌+◌, ◌<◌, ◌≤◌, ◌^◌, Bool, true, false, cond, List, [], ◌∷◌, ◌++◌, Option, Some, None, length, take, drop, map, codes, decimal, length-append, append_assoc, refl, sym, ap, ◌∙◌, subst, arith, inl, inr}
use Rattle.std.specs.Prelude.{filter, nat_le, option_map, ◌⊎◌}
use Rattle.std.specs.Str.Parse.{AllDigits}
use Rattle.std.proofs.lemmas.Bool.Decides.{nat_tests}
use Rattle.std.proofs.lemmas.Fmt.{decimal_is_IsNumeral}
use Rattle.std.proofs.lemmas.List.{take-append-drop}
use Rattle.std.proofs.lemmas.Str.Parse.{digit_from_value}
use Rattle.rx_lane.specs.declared.lane.Lane.{Lane}
use Rattle.rx_lane.specs.declared.lane.Lane.TheVariants.{Sync, Input, Default, T1, T2, T3, T4, T5, T6, T7, T8, T9, T10, T11, T12, T13, T14, T15, T16, Retry}
use Rattle.rx_lane.specs.Lanes.{Lanes}
use Rattle.rx_lines.specs.Lines.{Counts, Line, committed, deferred, counts_text, joined, lane_name, lanes_text, line_bytes, line_text}
use Rattle.rx_given.specs.declared.passing.Place.{Place}
use Rattle.rx_given.specs.Lines.{ends_in, first_line, is_line_end}
use Rattle.choice_laws.specs.Telling.{AreShown, IsFinishOf, commits, counted, defers}
use Rattle.rx_verify.specs.Ends.{HasNumber}
use Rattle.rx_verify.specs.Following.{Agrees, IsPlace}
use Rattle.rx_verify.proofs.Fronts.{behind_front, ends-append, front_of_front, lines-front, lines_longer, other_byte}

-- Whole lines

-- some bytes are one line with its end
pub record IsLine (line : List ℕ) : Type 0 where
  pub text : List ℕ
  pub is : line ≡ text ++ 10 ∷ []
  pub inside : ends_in text ≡ 0

ends-cons : (b : ℕ) (bs : List ℕ) → is_line_end b ≡ false → ends_in (b ∷ bs) ≡ ends_in bs
ends-cons b bs is = rw is refl

no-end : (b : ℕ) (bs : List ℕ) → ends_in (b ∷ bs) ≡ 0 → (is_line_end b ≡ false) × (ends_in bs ≡ 0)
no-end b bs e = go (is_line_end b) refl e
  where
    go : (x : Bool) → is_line_end b ≡ x → length (cond x (b ∷ filter is_line_end bs) (filter is_line_end bs)) ≡ 0 → (is_line_end b ≡ false) × (ends_in bs ≡ 0)
    go true is e = absurd (omega (arith, e))
    go false is e = (is, e)

-- a line that comes first is the first line
pub first-is : (text more : List ℕ) → ends_in text ≡ 0 → first_line ((text ++ 10 ∷ []) ++ more) ≡ Some (text ++ 10 ∷ [])
first-is [] more e = refl
first-is (b ∷ bs) more e =
    let r = no-end b bs e in
    rw r.0 (ap (option_map (λ l. b ∷ l)) (first-is bs more r.1))

-- the first line comes first
pub record ComesFirst (bytes line : List ℕ) : Type 0 where
  pub is_line : IsLine line
  pub rest : List ℕ
  pub whole : bytes ≡ line ++ rest

some-line : (xs ys : List ℕ) → ◌≡◌ {A = Option (List ℕ)} (Some xs) (Some ys) → xs ≡ ys
some-line xs ys e = cc

byte-is : (b : ℕ) → is_line_end b ≡ true → b ≡ 10
byte-is b e = grind (arith, nat_tests, e)

first-made : (b : ℕ) (bs line : List ℕ) (o : Option (List ℕ)) → is_line_end b ≡ false → ((xs : List ℕ) → o ≡ Some xs → ComesFirst bs xs) → option_map (λ l. b ∷ l) o ≡ Some line → ComesFirst (b ∷ bs) line
first-made b bs line None other behind e = cc
first-made b bs line (Some xs) other behind e =
    let r = behind xs refl in
    subst (ComesFirst (b ∷ bs)) (some-line (b ∷ xs) line e)
    (record {
      is_line = record { text = b ∷ r.is_line.text; is = ap (λ zs. b ∷ zs) r.is_line.is; inside = ends-cons b r.is_line.text other ∙ r.is_line.inside };
      rest = r.rest;
      whole = ap (λ zs. b ∷ zs) r.whole;
    })

first-by : (b : ℕ) (bs line : List ℕ) (x : Bool) → is_line_end b ≡ x → ((xs : List ℕ) → first_line bs ≡ Some xs → ComesFirst bs xs)
    → cond x (Some (b ∷ [])) (option_map (λ l. b ∷ l) (first_line bs)) ≡ Some line → ComesFirst (b ∷ bs) line
first-by b bs line true is behind e =
    subst (ComesFirst (b ∷ bs)) (some-line (b ∷ []) line e)
    (record { is_line = record { text = []; is = ap (λ z. z ∷ []) (byte-is b is); inside = refl }; rest = bs; whole = refl })
first-by b bs line false is behind e = first-made b bs line (first_line bs) is behind e

pub comes-first : (bytes line : List ℕ) → first_line bytes ≡ Some line → ComesFirst bytes line
comes-first [] line e = cc
comes-first (b ∷ bs) line e = first-by b bs line (is_line_end b) refl (λ xs f. comes-first bs xs f) e

-- a front in which a line ends has the line that comes first
pub front-has : (front line a b : List ℕ) → IsLine line → 1 ≤ ends_in front → front ++ a ≡ line ++ b → (more : List ℕ) × (front ≡ line ++ more)
front-has front line a b l some e = go (nat_le (length line) (length front)) refl
  where
    whole : (l.text ++ 10 ∷ []) ++ b ≡ l.text ++ (10 ∷ b)
    whole = append_assoc l.text (10 ∷ []) b

    go : (x : Bool) → nat_le (length line) (length front) ≡ x → (more : List ℕ) × (front ≡ line ++ more)
    go true x = front_of_front line front b a (sym e) (grind (arith, nat_tests, x))
    go false x =
        let shorter : length front ≤ length l.text = let h : length front < length line = grind (arith, nat_tests, x) in omega (arith, h, ap length l.is, length-append l.text (10 ∷ [])) in
        let r = front_of_front front l.text a (10 ∷ b) (e ∙ ap (λ xs. xs ++ b) l.is ∙ whole) shorter in
        absurd (omega (arith, some, l.inside, ap ends_in r.1, ends-append front r.0))

-- What agrees

-- What stands in a report behind a place, and in another one that agrees beyond it: both have the same front, in which a line ends, or they are the same.
pub record SharesLine (mine others : List ℕ) : Type 0 where
  pub front : List ℕ
  pub some : 1 ≤ ends_in front
  pub rest : List ℕ
  pub mine_is : mine ≡ front ++ rest
  pub more : List ℕ
  pub others_are : others ≡ front ++ more

abbrev pub Shares : (mine others : List ℕ) → Type 0
Shares mine others = (mine ≡ others) ⊎ SharesLine mine others

pub shares : (bytes : List ℕ) (place : Place) (others : List ℕ) → IsPlace bytes place → Agrees bytes place.lines (take place.bytes bytes ++ others) → Shares (drop place.bytes bytes) others
shares bytes place others at (inl e) = inl (sym (behind_front (take place.bytes bytes) others (drop place.bytes bytes) (e ∙ sym (take-append-drop place.bytes bytes))))
shares bytes place others at (inr a) =
    let passed = take place.bytes bytes in
    let left = drop place.bytes bytes in
    let f = lines-front (place.lines + 1) bytes a.0 a.1 in
    let g = lines_longer place.lines bytes a.0 passed left a.1 (sym (take-append-drop place.bytes bytes)) (sym at.lines) in
    inr (record {
      front = g.0;
      some = omega (arith, ap ends_in g.1, ends-append passed g.0, f.ends, at.lines);
      rest = f.rest;
      mine_is = behind_front passed left (g.0 ++ f.rest) (take-append-drop place.bytes bytes ∙ f.whole ∙ ap (λ xs. xs ++ f.rest) g.1 ∙ append_assoc passed g.0 f.rest);
      more = a.2;
      others_are = behind_front passed others (g.0 ++ a.2) (a.3 ∙ ap (λ xs. xs ++ a.2) g.1 ∙ append_assoc passed g.0 a.2);
    })

-- what agrees has the next line
pub has-next : (mine others line : List ℕ) → Shares mine others → first_line mine ≡ Some line → (rest : List ℕ) × (others ≡ line ++ rest)
has-next mine others line (inl same) e =
    let c = comes-first mine line e in
    (c.rest, sym same ∙ c.whole)
has-next mine others line (inr s) e =
    let c = comes-first mine line e in
    let r = front-has s.front line s.rest c.rest c.is_line s.some (sym s.mine_is ∙ c.whole) in
    (r.0 ++ s.more, s.others_are ∙ ap (λ xs. xs ++ s.more) r.1 ∙ append_assoc line r.0 s.more)

-- and a line that it has next is the next line
pub next-is : (mine others line rest : List ℕ) → Shares mine others → IsLine line → others ≡ line ++ rest → first_line mine ≡ Some line
next-is mine others line rest (inl same) l e =
    ap first_line (same ∙ e ∙ ap (λ xs. xs ++ rest) l.is) ∙ first-is l.text rest l.inside ∙ ap Some (sym l.is)
next-is mine others line rest (inr s) l e =
    let r = front-has s.front line s.more rest l s.some (sym s.others_are ∙ e) in
    ap first_line (s.mine_is ∙ ap (λ xs. xs ++ s.rest) r.1 ∙ append_assoc line r.0 s.rest ∙ ap (λ xs. xs ++ (r.0 ++ s.rest)) l.is) ∙ first-is l.text (r.0 ++ s.rest) l.inside ∙ ap Some (sym l.is)

-- Lines with which a render ends

digits-inside : (ds : List ℕ) → AllDigits 10 ds → ends_in ds ≡ 0
digits-inside [] d = refl
digits-inside (c ∷ ds) d =
    let k = digit_from_value c d.0 in
    let other : is_line_end c ≡ false = other_byte c 10 (λ e. omega (arith, k, e)) in
    ends-cons c ds other ∙ digits-inside ds d.1

decimal-inside : (n : ℕ) → n < 2 ^ 64 → ends_in (decimal n) ≡ 0
decimal-inside n small = digits-inside (decimal n) (decimal_is_IsNumeral n small).0.1

name-inside : (l : Lane) → ends_in (lane_name l) ≡ 0
name-inside Sync = refl
name-inside Input = refl
name-inside Default = refl
name-inside T1 = refl
name-inside T2 = refl
name-inside T3 = refl
name-inside T4 = refl
name-inside T5 = refl
name-inside T6 = refl
name-inside T7 = refl
name-inside T8 = refl
name-inside T9 = refl
name-inside T10 = refl
name-inside T11 = refl
name-inside T12 = refl
name-inside T13 = refl
name-inside T14 = refl
name-inside T15 = refl
name-inside T16 = refl
name-inside Retry = refl

-- two texts, one behind the other
both-inside : (xs ys : List ℕ) → ends_in xs ≡ 0 → ends_in ys ≡ 0 → ends_in (xs ++ ys) ≡ 0
both-inside xs ys a b = ends-append xs ys ∙ omega (arith, a, b)

names-inside : (l : Lane) (ls : Lanes) → ends_in (joined (codes "+") (map lane_name (l ∷ ls))) ≡ 0
names-inside l [] = name-inside l
names-inside l (m ∷ ms) =
    both-inside (lane_name l ++ codes "+") (joined (codes "+") (map lane_name (m ∷ ms))) (both-inside (lane_name l) (codes "+") (name-inside l) refl) (names-inside m ms)

lanes-inside : (ls : Lanes) → ends_in (lanes_text ls) ≡ 0
lanes-inside [] = refl
lanes-inside (l ∷ ls) = names-inside l ls

counts-inside : (c : Counts) → AreShown c → ends_in (counts_text true c) ≡ 0
counts-inside c s =
    both-inside (codes " units " ++ decimal c.units ++ codes " bodies ") (decimal c.bodies)
    (both-inside (codes " units " ++ decimal c.units) (codes " bodies ") (both-inside (codes " units ") (decimal c.units) refl (decimal-inside c.units s.units)) refl)
    (decimal-inside c.bodies s.bodies)

-- a line with which a render ends is one line
pub end-is-line : (commit : ℕ) (lanes : Lanes) (c : Counts) (f : Line) → commit < 2 ^ 64 → AreShown c → IsFinishOf lanes c f → HasNumber commit f → IsLine (line_bytes counted f)
end-is-line commit lanes c f small shown (commits number tree) is =
    record {
      text = line_text true (committed number lanes c tree);
      is = refl;
      inside =
          both-inside (codes "commit " ++ decimal number ++ codes " " ++ lanes_text lanes) (counts_text true c)
          (both-inside (codes "commit " ++ decimal number ++ codes " ") (lanes_text lanes)
          (both-inside (codes "commit " ++ decimal number) (codes " ") (both-inside (codes "commit ") (decimal number) refl (decimal-inside number (omega (arith, is, small)))) refl) (lanes-inside lanes))
          (counts-inside c shown);
    }
end-is-line commit lanes c f small shown defers is =
    record {
      text = line_text true (deferred lanes c);
      is = refl;
      inside = both-inside (codes "defer " ++ lanes_text lanes) (counts_text true c) (both-inside (codes "defer ") (lanes_text lanes) refl (lanes-inside lanes)) (counts-inside c shown);
    }
