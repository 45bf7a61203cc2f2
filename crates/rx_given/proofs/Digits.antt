-- The decimal digits of a number in front of a text.
use Rattle.std.proofs.Common.{◌≡◌, ℕ, ◌<◌, ◌^◌, List, [], ◌∷◌, ◌++◌, Result, Ok, Err, bytes_eq, decimal, refl, sym, ap, subst, ◌∙◌, append_assoc, arith, true, false}
use Rattle.std.specs.Prelude.{Bool, codes, length, nat_eq}
use Rattle.std.proofs.lemmas.Bool.Decides.{Decides-eqb}
use Rattle.std.specs.Str.{IsUtf8}
use Rattle.std.specs.Str.Parse.{AllDigits, ParsesUnsigned}
use Rattle.std.proofs.lemmas.Fmt.{IsAscii-decimal, decimal_is_IsNumeral, parse-decimal}
use Rattle.std.proofs.lemmas.List.{append_cancel_left}
use Rattle.std.proofs.lemmas.Slice.Eq.{bytes_eq-Decides}
use Rattle.std.proofs.lemmas.Str.{IsUtf8-from_ascii}
use Rattle.std.proofs.lemmas.Str.Parse.{digit_from_value}
use Rattle.rx_lines.specs.Lines.{counts_text}
use Rattle.rx_given.specs.Lines.{HasNo}

-- digits have no byte below the first of them
digits_have_no : (b : ℕ) → b < 48 → (ds : List ℕ) → AllDigits 10 ds → HasNo b ds
digits_have_no b low [] d = tt
digits_have_no b low (c ∷ ds) d = (λ e. let k = digit_from_value c d.0 in omega (arith, k, e), digits_have_no b low ds d.1)

pub decimal_has_no : (b n : ℕ) → b < 48 → n < 2 ^ 64 → HasNo b (decimal n)
decimal_has_no b n low small = digits_have_no b low (decimal n) (decimal_is_IsNumeral n small).0.1

-- a text is divided by the first of a byte in one way
pub divided_once : (b : ℕ) (xs ys more others : List ℕ) → HasNo b xs → HasNo b ys → xs ++ b ∷ more ≡ ys ++ b ∷ others → (xs ≡ ys) × (more ≡ others)
divided_once b [] [] more others k h e = (refl, cc)
divided_once b [] (y ∷ ys) more others k h e = absurd (h.0 (let same : b ≡ y = cc in sym same))
divided_once b (x ∷ xs) [] more others k h e = absurd (k.0 (let same : x ≡ b = cc in same))
divided_once b (x ∷ xs) (y ∷ ys) more others k h e =
    let first : x ≡ y = cc in
    let rest : xs ++ b ∷ more ≡ ys ++ b ∷ others = cc in
    let r = divided_once b xs ys more others k.1 h.1 rest in
    ((λ i. first i ∷ r.0 i), r.1)

-- a text in which a byte is has it
pub has_it : (b : ℕ) (xs more : List ℕ) → HasNo b (xs ++ b ∷ more) → ⊥
has_it b [] more h = h.0 refl
has_it b (x ∷ xs) more h = has_it b xs more h.1

-- what stands in front of a number's end is its digits
pub digits_before : (b n : ℕ) (bytes front behind more : List ℕ) → b < 48 → n < 2 ^ 64 → bytes ≡ front ++ b ∷ behind → HasNo b front → bytes ≡ decimal n ++ b ∷ more → front ≡ decimal n
digits_before b n bytes front behind more low small is none told =
    (divided_once b front (decimal n) behind more none (decimal_has_no b n low small) (sym is ∙ told)).0

pub are_text : (n : ℕ) (ds : List ℕ) → n < 2 ^ 64 → ds ≡ decimal n → IsUtf8 ds
are_text n ds small is = subst IsUtf8 (sym is) (IsUtf8-from_ascii (decimal n) (IsAscii-decimal n small))

-- they are read as the number
pub read_as : {E : Type 0} (n : ℕ) (ds : List ℕ) (r : Result ℕ E) → n < 2 ^ 64 → ds ≡ decimal n → ParsesUnsigned 64 10 ds r → r ≡ Ok n
read_as n ds r small is reads = parse-decimal 64 n ds r small small is reads

pub never_failed : {E : Type 0} (n : ℕ) (ds : List ℕ) (r : Result ℕ E) (e : E) → n < 2 ^ 64 → ds ≡ decimal n → ParsesUnsigned 64 10 ds r → r ≡ Err e → ⊥
never_failed {E} n ds r e small is reads err = let both : ◌≡◌ {A = Result ℕ E} (Err e) (Ok n) = sym err ∙ read_as n ds r small is reads in cc

pub never_other : {E : Type 0} (n m : ℕ) (ds : List ℕ) (r : Result ℕ E) → n < 2 ^ 64 → ds ≡ decimal n → ParsesUnsigned 64 10 ds r → r ≡ Ok m → bytes_eq ds (decimal m) ≡ false → ⊥
never_other {E} n m ds r small is reads ok other =
    let both : ◌≡◌ {A = Result ℕ E} (Ok m) (Ok n) = sym ok ∙ read_as n ds r small is reads in
    let same : m ≡ n = cc in
    let eq : bytes_eq ds (decimal m) ≡ true = (bytes_eq-Decides ds (decimal m)).1 (is ∙ ap decimal (sym same)) in
    cc

-- Counts behind a text

-- what stands behind a text is one thing
pub behind_once : (line text some others : List ℕ) → line ≡ text ++ some → line ≡ text ++ others → some ≡ others
behind_once line text some others is are = append_cancel_left text some others (sym is ∙ are)

-- counts and the end of their line, word by word
abbrev pub words_of : (units bodies : ℕ) → List ℕ
words_of u b = codes " units " ++ (decimal u ++ 32 ∷ (codes "bodies " ++ (decimal b ++ 10 ∷ [])))

three_behind : (xs ys zs us : List ℕ) → xs ++ ys ++ zs ++ us ≡ xs ++ (ys ++ (zs ++ us))
three_behind xs ys zs us = simp append_assoc

words_told : (u b : ℕ) → counts_text true (record { units = u; bodies = b }) ++ 10 ∷ [] ≡ words_of u b
words_told u b =
    ap (λ (ys : List ℕ). codes " units " ++ ys) (three_behind (decimal u) (codes " bodies ") (decimal b) (10 ∷ []))

-- a line that tells counts, from its parts
pub told : (line text some units bodies more end : List ℕ) (u b : ℕ) → line ≡ text ++ some → some ≡ codes " units " ++ units → units ≡ decimal u ++ 32 ∷ more
    → more ≡ codes "bodies " ++ bodies → bodies ≡ decimal b ++ 10 ∷ end → end ≡ [] → line ≡ text ++ counts_text true (record { units = u; bodies = b }) ++ 10 ∷ []
told line text some units bodies more end u b is is_some is_units is_more is_bodies is_end =
    is ∙ ap (λ (ys : List ℕ). text ++ ys)
    (is_some ∙ ap (λ (ys : List ℕ). codes " units " ++ ys)
    (is_units ∙ ap (λ (ys : List ℕ). decimal u ++ 32 ∷ ys) (is_more ∙ ap (λ (ys : List ℕ). codes "bodies " ++ ys) (is_bodies ∙ ap (λ (ys : List ℕ). decimal b ++ 10 ∷ ys) is_end)))
    ∙ sym (words_told u b))
    ∙ sym (append_assoc text (counts_text true (record { units = u; bodies = b })) (10 ∷ []))

-- and its parts, from the counts that it tells
pub first_told : (line text some : List ℕ) (u b : ℕ) → line ≡ text ++ some → line ≡ text ++ counts_text true (record { units = u; bodies = b }) ++ 10 ∷ [] → some ≡ words_of u b
first_told line text some u b is tells =
    behind_once line text some (words_of u b) is
    (tells ∙ append_assoc text (counts_text true (record { units = u; bodies = b })) (10 ∷ []) ∙ ap (λ (ys : List ℕ). text ++ ys) (words_told u b))

pub units_told : (line text some units : List ℕ) (u b : ℕ) → line ≡ text ++ some → some ≡ codes " units " ++ units → line ≡ text ++ counts_text true (record { units = u; bodies = b }) ++ 10 ∷ []
    → units ≡ decimal u ++ 32 ∷ (codes "bodies " ++ (decimal b ++ 10 ∷ []))
units_told line text some units u b is is_some tells = behind_once some (codes " units ") units (decimal u ++ 32 ∷ (codes "bodies " ++ (decimal b ++ 10 ∷ []))) is_some (first_told line text some u b is tells)

pub more_told : (line text some units more : List ℕ) (v u b : ℕ) → v < 2 ^ 64 → u < 2 ^ 64 → line ≡ text ++ some → some ≡ codes " units " ++ units → units ≡ decimal v ++ 32 ∷ more
    → line ≡ text ++ counts_text true (record { units = u; bodies = b }) ++ 10 ∷ [] → more ≡ codes "bodies " ++ (decimal b ++ 10 ∷ [])
more_told line text some units more v u b few small is is_some is_units tells =
    (divided_once 32 (decimal v) (decimal u) more (codes "bodies " ++ (decimal b ++ 10 ∷ [])) (decimal_has_no 32 v (omega arith) few) (decimal_has_no 32 u (omega arith) small)
    (sym is_units ∙ units_told line text some units u b is is_some tells)).1

pub bodies_told : (line text some units more bodies : List ℕ) (v u b : ℕ) → v < 2 ^ 64 → u < 2 ^ 64 → line ≡ text ++ some → some ≡ codes " units " ++ units → units ≡ decimal v ++ 32 ∷ more
    → more ≡ codes "bodies " ++ bodies → line ≡ text ++ counts_text true (record { units = u; bodies = b }) ++ 10 ∷ [] → bodies ≡ decimal b ++ 10 ∷ []
bodies_told line text some units more bodies v u b few small is is_some is_units is_more tells =
    behind_once more (codes "bodies ") bodies (decimal b ++ 10 ∷ []) is_more (more_told line text some units more v u b few small is is_some is_units tells)

pub end_told : (line text some units more bodies end : List ℕ) (v u w b : ℕ) → v < 2 ^ 64 → w < 2 ^ 64 → u < 2 ^ 64 → b < 2 ^ 64 → line ≡ text ++ some → some ≡ codes " units " ++ units
    → units ≡ decimal v ++ 32 ∷ more → more ≡ codes "bodies " ++ bodies → bodies ≡ decimal w ++ 10 ∷ end → line ≡ text ++ counts_text true (record { units = u; bodies = b }) ++ 10 ∷ [] → end ≡ []
end_told line text some units more bodies end v u w b few least small low is is_some is_units is_more is_bodies tells =
    (divided_once 10 (decimal w) (decimal b) end [] (decimal_has_no 10 w (omega arith) least) (decimal_has_no 10 b (omega arith) low)
    (sym is_bodies ∙ bodies_told line text some units more bodies v u b few small is is_some is_units is_more tells)).1

-- an empty text
pub none_of : (xs : List ℕ) (b : Bool) → b ≡ nat_eq (length xs) 0 → b ≡ true → xs ≡ []
none_of [] b is all = refl
none_of (x ∷ xs) b is all = let none : length (x ∷ xs) ≡ 0 = (Decides-eqb (length (x ∷ xs)) 0).0 (sym is ∙ all) in absurd (omega (arith, none))

pub some_of : (xs : List ℕ) (b : Bool) → b ≡ nat_eq (length xs) 0 → b ≡ false → xs ≡ [] → ⊥
some_of [] b is some none = cc
some_of (x ∷ xs) b is some none = cc
