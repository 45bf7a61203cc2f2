-- How a report is followed from one place to the next.
use Rattle.std.proofs.Common.{◌≡◌, ℕ, ◌+◌, ◌<◌, ◌≤◌, Bool, true, false, List, [], ◌∷◌, ◌++◌, length, take, drop, length-append, append_assoc, refl, sym, ap, ◌∙◌, subst, arith, inl, inr}
use Rattle.std.specs.Prelude.{nat_le, flat_map}
use Rattle.std.proofs.lemmas.Bool.Decides.{nat_tests}
use Rattle.std.proofs.lemmas.List.{take-append-drop, length-take-le}
use Rattle.rx_ast.specs.Syntax.{Program}
use Rattle.rx_step.specs.declared.step.Step.{Step}
use Rattle.rx_lines.specs.Lines.{Line, line_bytes, report_bytes}
use Rattle.rx_given.specs.declared.passing.Place.{Place}
use Rattle.rx_given.specs.Lines.{ends_in, shared}
use Rattle.rx_model.specs.State.{State, end_line}
use Rattle.rx_model.specs.Stretch.{Stretch, followed_by}
use Rattle.choice_laws.specs.Telling.{bytes_from_here, counted}
use Rattle.rx_verify.specs.declared.verdict.Verdict.TheVariants.{No}
use Rattle.rx_verify.specs.Verdicts.{Begins, IsReported, IsVerdict, first_lines, no}
use Rattle.rx_verify.specs.Following.{Agrees, IsFollowed, IsPlace, Left, Way}
use Rattle.rx_verify.proofs.Fronts.{behind_front, ends-append, fewer_lines, lines-front, lines_in, lines_longer, shared-all, shared-front, shared-longer, shared-take}

-- Bytes

-- the bytes of lines, one after another
pub bytes-append : (xs ys : List Line) → report_bytes counted (xs ++ ys) ≡ report_bytes counted xs ++ report_bytes counted ys
unfolding report_bytes
bytes-append [] ys = refl
bytes-append (x ∷ xs) ys =
    ap (λ zs. line_bytes counted x ++ zs) (bytes-append xs ys) ∙ sym (append_assoc (line_bytes counted x) (flat_map (line_bytes counted) xs) (flat_map (line_bytes counted) ys))

pub bytes-none : report_bytes counted [] ≡ []
unfolding report_bytes
bytes-none = refl

-- what a stretch writes, and what follows it
pub bytes-followed : (first rest : Stretch) → bytes_from_here (followed_by first rest) ≡ report_bytes counted first.lines ++ bytes_from_here rest
bytes-followed first rest =
    ap (report_bytes counted) (append_assoc first.lines rest.lines (end_line rest.after ∷ [])) ∙ bytes-append first.lines (rest.lines ++ end_line rest.after ∷ [])

front-same : (xs ys zs : List ℕ) → length xs ≡ length ys → xs ++ zs ≡ ys ++ zs → xs ≡ ys
front-same [] [] zs l e = refl
front-same [] (y ∷ ys) zs l e = absurd (omega (arith, l))
front-same (x ∷ xs) [] zs l e = absurd (omega (arith, l))
front-same (x ∷ xs) (y ∷ ys) zs l e =
    let first : x ≡ y = cc in
    let rest : xs ++ zs ≡ ys ++ zs = cc in
    ap (λ z. z ∷ xs) first ∙ ap (λ zs. y ∷ zs) (front-same xs ys zs (omega (arith, l)) rest)

-- texts are the same in front of the same
pub in_front : (xs ys zs : List ℕ) → xs ++ zs ≡ ys ++ zs → xs ≡ ys
in_front xs ys zs e = front-same xs ys zs (omega (arith, ap length e, length-append xs zs, length-append ys zs)) e

-- what was passed of some bytes, if these came next
pub passed-is : (bytes written : List ℕ) (at then : ℕ) → drop at bytes ≡ written ++ drop then bytes → take then bytes ≡ take at bytes ++ written
passed-is bytes written at then e =
    in_front (take then bytes) (take at bytes ++ written) (drop then bytes)
    (take-append-drop then bytes ∙ sym (take-append-drop at bytes) ∙ ap (λ xs. take at bytes ++ xs) e ∙ sym (append_assoc (take at bytes) written (drop then bytes)))

-- Agreeing

-- what agrees beyond more lines agrees beyond fewer
pub agrees-fewer : (bytes : List ℕ) (j k : ℕ) (other : List ℕ) → j ≤ k → Agrees bytes k other → Agrees bytes j other
agrees-fewer bytes j k other h (inl e) = inl e
agrees-fewer bytes j k other h (inr a) =
    let r = fewer_lines (j + 1) (k + 1) bytes a.0 (omega (arith, h)) a.1 in
    inr (r.0, r.1, r.2 ++ a.2, a.3 ∙ ap (λ xs. xs ++ a.2) r.3 ∙ append_assoc r.0 r.2 a.2)

-- Verdicts

-- a report that has so many lines as some report of a run has, and no more than any has
pub judged_no : (p : Program) (steps : List Step) (bytes : List ℕ) (n : ℕ) (xs ys : List ℕ) → bytes ≡ xs ++ ys → ends_in xs ≡ n → Begins p steps xs
    → ((other : List ℕ) → IsReported p steps other → Agrees bytes n other → ⊥) → IsVerdict p steps bytes (No (n + 1))
judged_no p steps bytes n xs ys is ends b none =
    let r = lines_in xs ys in
    no n r.0 (ap (λ k. first_lines k bytes) (sym ends) ∙ ap (first_lines (ends_in xs)) is ∙ r.1)
    (r.2 ++ b.0, subst (IsReported p steps) (ap (λ zs. zs ++ b.0) r.3 ∙ append_assoc r.0 r.2 b.0) b.1)
    (λ more e begins. none (more ++ begins.0) begins.1 (inr (more, e, begins.0, refl)))
    (λ whole. none bytes whole (inl refl))

-- nothing that a run writes comes next
pub judged_here : (p : Program) (steps : List Step) (bytes : List ℕ) (place : Place) → IsPlace bytes place → (more : List ℕ) → IsReported p steps (take place.bytes bytes ++ more)
    → ((other : List ℕ) → IsReported p steps other → Agrees bytes place.lines other → ⊥) → IsVerdict p steps bytes (No (place.lines + 1))
judged_here p steps bytes place at more some none =
    judged_no p steps bytes place.lines (take place.bytes bytes) (drop place.bytes bytes) (sym (take-append-drop place.bytes bytes)) (sym at.lines) (more, some) none

-- what every run writes from here on does not come next
pub judged_there : (p : Program) (steps : List Step) (bytes : List ℕ) (place : Place) (n : ℕ) (written : List ℕ) → IsPlace bytes place
    → n ≡ place.lines + ends_in (take (shared (drop place.bytes bytes) written) written)
    → ((more : List ℕ) → drop place.bytes bytes ≡ written ++ more → ⊥)
    → (more : List ℕ) → IsReported p steps (take place.bytes bytes ++ (written ++ more))
    → ((other : List ℕ) → IsReported p steps other → Agrees bytes n other → (more : List ℕ) × (other ≡ take place.bytes bytes ++ (written ++ more)))
    → IsVerdict p steps bytes (No (n + 1))
judged_there p steps bytes place n written at lines other more some all =
    judged_no p steps bytes n (passed ++ begun) both.0 whole (ends-append passed begun ∙ omega (arith, at.lines, lines))
    (drop same written ++ more, subst (IsReported p steps) goes some) never
  where
    passed : List ℕ
    passed = take place.bytes bytes

    left : List ℕ
    left = drop place.bytes bytes

    same : ℕ
    same = shared left written

    begun : List ℕ
    begun = take same written

    both : (more : List ℕ) × (left ≡ begun ++ more)
    both = shared-take left written

    whole : bytes ≡ (passed ++ begun) ++ both.0
    whole = sym (take-append-drop place.bytes bytes) ∙ ap (λ xs. passed ++ xs) both.1 ∙ sym (append_assoc passed begun both.0)

    goes : passed ++ (written ++ more) ≡ (passed ++ begun) ++ (drop same written ++ more)
    goes =
        ap (λ xs. passed ++ (xs ++ more)) (sym (take-append-drop same written)) ∙ ap (λ xs. passed ++ xs) (append_assoc begun (drop same written) more)
        ∙ sym (append_assoc passed begun (drop same written ++ more))

    less : same < length written
    less = go (nat_le (length written) same) refl
      where
        go : (b : Bool) → nat_le (length written) same ≡ b → same < length written
        go true t = let r = shared-all left written (grind (arith, nat_tests, t)) in absurd (other r.0 r.1)
        go false t = grind (arith, nat_tests, t)

    never : (o : List ℕ) → IsReported p steps o → Agrees bytes n o → ⊥
    never o reported agrees = by_case agrees (all o reported agrees)
      where
        by_case : Agrees bytes n o → (more : List ℕ) × (o ≡ passed ++ (written ++ more)) → ⊥
        by_case (inl e) w = other w.0 (behind_front passed left (written ++ w.0) (take-append-drop place.bytes bytes ∙ sym e ∙ w.1))
        by_case (inr a) w =
            let f = lines-front (n + 1) bytes a.0 a.1 in
            let g = lines_longer n bytes a.0 (passed ++ begun) both.0 a.1 whole (ends-append passed begun ∙ omega (arith, at.lines, lines)) in
            let mine : left ≡ (begun ++ g.0) ++ f.rest =
            behind_front passed left ((begun ++ g.0) ++ f.rest)
            (take-append-drop place.bytes bytes ∙ f.whole ∙ ap (λ xs. xs ++ f.rest) (g.1 ∙ append_assoc passed begun g.0) ∙ append_assoc passed (begun ++ g.0) f.rest) in
            let theirs : written ++ w.0 ≡ (begun ++ g.0) ++ a.2 =
            behind_front passed (written ++ w.0) ((begun ++ g.0) ++ a.2)
            (sym w.1 ∙ a.3 ∙ ap (λ xs. xs ++ a.2) (g.1 ∙ append_assoc passed begun g.0) ∙ append_assoc passed (begun ++ g.0) a.2) in
            let longer : length (begun ++ g.0) ≤ shared left (written ++ w.0) =
            subst (λ xs. length (begun ++ g.0) ≤ shared xs (written ++ w.0)) (sym mine)
            (subst (λ xs. length (begun ++ g.0) ≤ shared ((begun ++ g.0) ++ f.rest) xs) (sym theirs) (shared-front (begun ++ g.0) f.rest a.2)) in
            let as_long : shared left (written ++ w.0) ≡ same = shared-longer left written w.0 less in
            omega (arith, longer, as_long, length-append begun g.0, length-append (passed ++ begun) g.0, ap length g.1, g.2, length-take-le same written (omega (arith, less)))

-- From one place to the next

-- a report is followed on, past what each way that agrees writes first
pub follow_on : (p : Program) (steps : List Step) (bytes : List ℕ) (place then : Place) (left next : Left) (s t : State) (written : List ℕ) → IsFollowed p steps bytes place left s
    → take then.bytes bytes ≡ take place.bytes bytes ++ written → place.lines ≤ then.lines
    → ((w : Way p next t) → (v : Way p left s) × (bytes_from_here v.stretch ≡ written ++ bytes_from_here w.stretch))
    → ((v : Way p left s) → Agrees bytes then.lines (take place.bytes bytes ++ bytes_from_here v.stretch) → (w : Way p next t) × (bytes_from_here v.stretch ≡ written ++ bytes_from_here w.stretch))
    → Way p next t → IsFollowed p steps bytes then next t
follow_on p steps bytes place then left next s t written f passed later comes only goes =
    record {
      comes =
          λ w.
          let r = comes w in
          subst (IsReported p steps) (ap (λ xs. take place.bytes bytes ++ xs) r.1 ∙ sym (append_assoc (take place.bytes bytes) written (bytes_from_here w.stretch)) ∙ ap (λ xs. xs ++ bytes_from_here w.stretch) (sym passed))
          (f.comes r.0);
      only =
          λ other reported agrees.
          let v = f.only other reported (agrees-fewer bytes place.lines then.lines other later agrees) in
          let r = only v.0 (subst (Agrees bytes then.lines) v.1 agrees) in
          (r.0, v.1 ∙ ap (λ xs. take place.bytes bytes ++ xs) r.1 ∙ sym (append_assoc (take place.bytes bytes) written (bytes_from_here r.0.stretch)) ∙ ap (λ xs. xs ++ bytes_from_here r.0.stretch) (sym passed));
      goes = goes;
    }

-- a report is judged, if each way that agrees writes first what does not come next
pub differs_on : (p : Program) (steps : List Step) (bytes : List ℕ) (place : Place) (n : ℕ) (left : Left) (s : State) (written : List ℕ) → IsFollowed p steps bytes place left s → IsPlace bytes place
    → n ≡ place.lines + ends_in (take (shared (drop place.bytes bytes) written) written)
    → ((more : List ℕ) → drop place.bytes bytes ≡ written ++ more → ⊥)
    → (some : (v : Way p left s) × (more : List ℕ) × (bytes_from_here v.stretch ≡ written ++ more))
    → ((v : Way p left s) → Agrees bytes n (take place.bytes bytes ++ bytes_from_here v.stretch) → (more : List ℕ) × (bytes_from_here v.stretch ≡ written ++ more))
    → IsVerdict p steps bytes (No (n + 1))
differs_on p steps bytes place n left s written f at lines other some only =
    judged_there p steps bytes place n written at lines other some.1 (subst (λ xs. IsReported p steps (take place.bytes bytes ++ xs)) some.2 (f.comes some.0))
    (λ o reported agrees.
    let v = f.only o reported (agrees-fewer bytes place.lines n o (omega (arith, lines)) agrees) in
    let r = only v.0 (subst (Agrees bytes n) v.1 agrees) in
    (r.0, v.1 ∙ ap (λ xs. take place.bytes bytes ++ xs) r.1))

-- and if none of them agrees
pub differs_here : (p : Program) (steps : List Step) (bytes : List ℕ) (place : Place) (left : Left) (s : State) → IsFollowed p steps bytes place left s → IsPlace bytes place
    → ((v : Way p left s) → Agrees bytes place.lines (take place.bytes bytes ++ bytes_from_here v.stretch) → ⊥) → IsVerdict p steps bytes (No (place.lines + 1))
differs_here p steps bytes place left s f at none =
    judged_here p steps bytes place at (bytes_from_here f.goes.stretch) (f.comes f.goes) (λ o reported agrees.
    let v = f.only o reported agrees in
    none v.0 (subst (Agrees bytes place.lines) v.1 agrees))
