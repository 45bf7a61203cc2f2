-- The places of the effects that differ, from a place on.
use Rattle.std.proofs.Common.{◌≡◌, ℕ, zero, suc, ◌+◌, ◌<◌, ◌≤◌, min, Bool, true, false, List, [], ◌∷◌, ◌++◌, length, get_or, drop, map, filter, refl, sym, ap, ◌∙◌, arith, cond, append_assoc, add-one}
use Rattle.std.proofs.Math.Seq.{drop-cons}
use Rattle.std.specs.List.{zip, enumerate_from}
use Rattle.rx_elem.specs.declared.effect.EffectRecord.{EffectRecord}
use Rattle.rx_effect.specs.EffectLog.{differs}

-- the places of the pairs that differ, if the first pair has this place
abbrev pub changes_from : ℕ → List (EffectRecord × EffectRecord) → List ℕ
changes_from k xs = map (λ x. x.0) (filter (λ x. differs x.1) (enumerate_from k xs))

-- the pairs of the effects from a place on
abbrev pub pairs_from : ℕ → (old new : List EffectRecord) → List (EffectRecord × EffectRecord)
pairs_from k old new = zip (drop k old) (drop k new)

zip-nil : (xs : List EffectRecord) → zip {X = EffectRecord} xs [] ≡ []
zip-nil [] = refl
zip-nil (x ∷ xs) = refl

-- behind the shorter list no pair is left
pub pairs_from-end : (k : ℕ) (old new : List EffectRecord) → min (length old) (length new) ≤ k → pairs_from k old new ≡ []
pairs_from-end zero [] new h = refl
pairs_from-end zero (x ∷ old) [] h = refl
pairs_from-end zero (x ∷ old) (y ∷ new) h = absurd (omega arith)
pairs_from-end (suc k) [] new h = refl
pairs_from-end (suc k) (x ∷ old) [] h = zip-nil (drop k old)
pairs_from-end (suc k) (x ∷ old) (y ∷ new) h = pairs_from-end k old new (omega arith)

pairs_from-more : (k : ℕ) (old new : List EffectRecord) (x y : EffectRecord) → k < length old → k < length new → x ≡ get_or old k x → y ≡ get_or new k y
    → pairs_from k old new ≡ (x, y) ∷ pairs_from (k + 1) old new
pairs_from-more k old new x y lo ln ex ey =
    ap (λ xs. zip xs (drop k new)) (front old x lo ex)
    ∙ ap (zip (x ∷ drop (k + 1) old)) (front new y ln ey)
  where
    front : (es : List EffectRecord) (e : EffectRecord) → k < length es → e ≡ get_or es k e → drop k es ≡ e ∷ drop (k + 1) es
    front es e l is = rw add-one (drop-cons es k e l ∙ ap (λ a. a ∷ drop (suc k) es) (sym is))

-- one more place is looked at
pub more_changes : (old new : List EffectRecord) (k : ℕ) (x y : EffectRecord) (ps : List ℕ) (b : Bool) → k < length old → k < length new
    → x ≡ get_or old k x → y ≡ get_or new k y → b ≡ differs (x, y)
    → ps ++ changes_from k (pairs_from k old new) ≡ cond b (ps ++ k ∷ []) ps ++ changes_from (k + 1) (pairs_from (k + 1) old new)
more_changes old new k x y ps b lo ln ex ey e =
    ap (λ zs. ps ++ changes_from k zs) (pairs_from-more k old new x y lo ln ex ey)
    ∙ go b e
  where
    rest : List ℕ
    rest = changes_from (k + 1) (pairs_from (k + 1) old new)

    go : (b : Bool) → b ≡ differs (x, y) → ps ++ changes_from k ((x, y) ∷ pairs_from (k + 1) old new) ≡ cond b (ps ++ k ∷ []) ps ++ rest
    go true f = rw (← f) (sym (append_assoc ps (k ∷ []) rest))
    go false f = rw (← f) refl
