-- A string between its quotes.
use Rattle.std.proofs.Common.{◌≡◌, ◌≢◌, ℕ, ◌<◌, Bool, true, false, ◌&&◌, not, ◌==◌, List, [], ◌∷◌, ◌++◌, length, get_or, refl, sym, ap, ◌∙◌, append_assoc, append-nil, arith}
use Rattle.std.specs.List.{list_all}
use Rattle.std.proofs.lemmas.Bool.{false≢true}
use Rattle.std.proofs.lemmas.Bool.Decides.{nat_tests}
use Rattle.rx_lex.specs.Tokens.{is_inside, IsRun}
use Rattle.rx_lex.proofs.Runs.{run_unique}
use Rattle.rx_lex.proofs.Fronts.{run_from_reads}

abbrev pub is_no_quote : ℕ → Bool
is_no_quote b = not (b == 34)

pub run_all : (p : ℕ → Bool) (bs : List ℕ) → IsRun p bs → list_all p bs ≡ true
run_all p [] h = refl
run_all p (b ∷ bs) h = ap (λ r. r && list_all p bs) h.0 ∙ run_all p bs h.1

pub run_from_all : (p : ℕ → Bool) (bs : List ℕ) → list_all p bs ≡ true → IsRun p bs
run_from_all p [] h = tt
run_from_all p (b ∷ bs) h = by_first (p b) refl h (run_from_all p bs)
  where
    by_first : (r : Bool) → p b ≡ r → (r && list_all p bs) ≡ true → (list_all p bs ≡ true → IsRun p bs) → (p b ≡ true) × IsRun p bs
    by_first true e all more = (e, more all)
    by_first false e all more = absurd (false≢true all)

pub inside_no_quote : (bs : List ℕ) → IsRun is_inside bs → IsRun is_no_quote bs
inside_no_quote [] h = tt
inside_no_quote (b ∷ bs) h = (let inside = h.0 in grind (arith, nat_tests), inside_no_quote bs h.1)

no_quote_run : (bs : List ℕ) → ((i : ℕ) → i < length bs → get_or bs i 0 ≢ 34) → IsRun is_no_quote bs
no_quote_run bs h = run_from_reads is_no_quote bs (λ i lt. let other = h i lt in grind (arith, nat_tests))

-- the body of a string that begins this text, up to its quote
string_body : (text body s rest : List ℕ) → text ≡ 34 ∷ body → text ≡ (34 ∷ (s ++ 34 ∷ [])) ++ rest → body ≡ s ++ (34 ∷ rest)
string_body text body s rest e h =
    let written : 34 ∷ body ≡ 34 ∷ ((s ++ (34 ∷ [])) ++ rest) = sym e ∙ h in
    let tails : body ≡ (s ++ (34 ∷ [])) ++ rest = cc in
    tails ∙ append_assoc s (34 ∷ []) rest

pub no_open_string : (text : List ℕ) → ((rest : List ℕ) → text ≢ 34 ∷ rest) → (s rest : List ℕ) → text ≡ (34 ∷ (s ++ 34 ∷ [])) ++ rest → IsRun is_inside s → ⊥
no_open_string text none s rest h inside = none ((s ++ (34 ∷ [])) ++ rest) h

pub no_closed_string : (text body : List ℕ) → text ≡ 34 ∷ body → ((i : ℕ) → i < length body → get_or body i 0 ≢ 34) → (s rest : List ℕ) → text ≡ (34 ∷ (s ++ 34 ∷ [])) ++ rest → IsRun is_inside s → ⊥
no_closed_string text body e none s rest h inside =
    let both = run_unique is_no_quote body s [] (34 ∷ rest) (no_quote_run body none) tt (inside_no_quote s inside) refl (append-nil body ∙ string_body text body s rest e h) in
    cc

pub string_front : (text body content rest : List ℕ) → text ≡ 34 ∷ body → body ≡ content ++ (34 ∷ rest) → list_all is_inside content ≡ true → (text ≡ (34 ∷ (content ++ 34 ∷ [])) ++ rest) × IsRun is_inside content
string_front text body content rest e split inside = (e ∙ ap (λ l. 34 ∷ l) (split ∙ sym (append_assoc content (34 ∷ []) rest)), run_from_all is_inside content inside)

pub no_string_inside : (text body content after : List ℕ) → text ≡ 34 ∷ body → body ≡ content ++ (34 ∷ after) → ((i : ℕ) → i < length content → get_or content i 0 ≢ 34) → list_all is_inside content ≡ false → (s rest : List ℕ) → text ≡ (34 ∷ (s ++ 34 ∷ [])) ++ rest → IsRun is_inside s → ⊥
no_string_inside text body content after e split none outside s rest h inside =
    let both = run_unique is_no_quote content s (34 ∷ after) (34 ∷ rest) (no_quote_run content none) refl (inside_no_quote s inside) refl (sym split ∙ string_body text body s rest e h) in
    false≢true (sym outside ∙ ap (list_all is_inside) both.0 ∙ run_all is_inside s inside)
