-- What escaped text shows, and that no mark stands in it.
use Rattle.std.proofs.Common.{◌≡◌, ◌∙◌, ℕ, Bool, true, false, [], ◌∷◌, ◌++◌, refl, sym, ap, eqb-true, None, ◌||◌}
use Rattle.std.specs.Prelude.{◌==◌}
use Rattle.std.proofs.lemmas.List.Folds.{list_any-append}
use Rattle.rx_base.specs.Values.{Text}
use Rattle.rx_page.specs.Escaping.{escaped, escaped_byte, is_mark, has_mark, shown_from, shown}

-- an escaped byte has no mark
byte-unmarked : (b : ℕ) → has_mark (escaped_byte b) ≡ false
byte-unmarked b = by_test (b == 38) refl (b == 60) refl (b == 62) refl (b == 34) refl (b == 39) refl where
  by_test : (t38 : Bool) → (b == 38) ≡ t38 → (t60 : Bool) → (b == 60) ≡ t60 → (t62 : Bool) → (b == 62) ≡ t62 → (t34 : Bool) → (b == 34) ≡ t34 → (t39 : Bool) → (b == 39) ≡ t39 → has_mark (escaped_byte b) ≡ false
  by_test true e _ _ _ _ _ _ _ _ = rw e refl
  by_test false e true f _ _ _ _ _ _ = rw (e, f) refl
  by_test false e false f true g _ _ _ _ = rw (e, f, g) refl
  by_test false e false f false g true h _ _ = rw (e, f, g, h) refl
  by_test false e false f false g false h true i = rw (e, f, g, h, i) refl
  by_test false e false f false g false h false i =
      let plain : escaped_byte b ≡ b ∷ [] = rw (e, f, g, h, i) refl in
      let unmarked : is_mark b ≡ false = rw (f, g, h, i) refl in
      ap (λ (t : Text). has_mark t) plain ∙ rw unmarked refl

pub escaped-unmarked : (text : Text) → has_mark (escaped text) ≡ false
escaped-unmarked [] = refl
escaped-unmarked (b ∷ text) = list_any-append is_mark (escaped_byte b) (escaped text)
    ∙ ap (λ (x : Bool). x || has_mark (escaped text)) (byte-unmarked b) ∙ escaped-unmarked text

-- an escaped byte in front shows that byte
byte-shown : (b : ℕ) (html : Text) → shown_from None (escaped_byte b ++ html) ≡ b ∷ shown_from None html
byte-shown b html = by_test (b == 38) refl (b == 60) refl (b == 62) refl (b == 34) refl (b == 39) refl where
  by_test : (t38 : Bool) → (b == 38) ≡ t38 → (t60 : Bool) → (b == 60) ≡ t60 → (t62 : Bool) → (b == 62) ≡ t62 → (t34 : Bool) → (b == 34) ≡ t34 → (t39 : Bool) → (b == 39) ≡ t39
      → shown_from None (escaped_byte b ++ html) ≡ b ∷ shown_from None html
  by_test true e _ _ _ _ _ _ _ _ = rw e (ap (λ (n : ℕ). n ∷ shown_from None html) (sym (eqb-true b 38 e)))
  by_test false e true f _ _ _ _ _ _ = rw (e, f) (ap (λ (n : ℕ). n ∷ shown_from None html) (sym (eqb-true b 60 f)))
  by_test false e false f true g _ _ _ _ = rw (e, f, g) (ap (λ (n : ℕ). n ∷ shown_from None html) (sym (eqb-true b 62 g)))
  by_test false e false f false g true h _ _ = rw (e, f, g, h) (ap (λ (n : ℕ). n ∷ shown_from None html) (sym (eqb-true b 34 h)))
  by_test false e false f false g false h true i = rw (e, f, g, h, i) (ap (λ (n : ℕ). n ∷ shown_from None html) (sym (eqb-true b 39 i)))
  by_test false e false f false g false h false i =
      let plain : escaped_byte b ≡ b ∷ [] = rw (e, f, g, h, i) refl in
      let next : shown_from None (b ∷ html) ≡ b ∷ shown_from None html = rw e refl in
      ap (λ (t : Text). shown_from None (t ++ html)) plain ∙ next

pub escaped-shown : (text : Text) → shown (escaped text) ≡ text
escaped-shown [] = refl
escaped-shown (b ∷ text) = byte-shown b (escaped text) ∙ ap (λ (t : Text). b ∷ t) (escaped-shown text)
