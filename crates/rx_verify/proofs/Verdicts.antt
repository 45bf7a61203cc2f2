-- A report is judged in one way.
use Rattle.std.proofs.Common.{◌≡◌, ℕ, ◌+◌, ◌<◌, ◌≤◌, Bool, true, false, List, ◌++◌, Some, append_assoc, refl, sym, ap, ◌∙◌, subst, arith}
use Rattle.std.specs.Prelude.{nat_le}
use Rattle.std.proofs.lemmas.Bool.Decides.{nat_tests}
use Rattle.rx_ast.specs.Syntax.{Program}
use Rattle.rx_step.specs.declared.step.Step.{Step}
use Rattle.rx_verify.specs.declared.verdict.Verdict.{Verdict}
use Rattle.rx_verify.specs.declared.verdict.Verdict.TheVariants.{Yes, No}
use Rattle.rx_verify.specs.Verdicts.{Begins, IsReported, IsVerdict, first_lines, yes, no}
use Rattle.rx_verify.proofs.Fronts.{fewer_lines}

-- fewer lines begin the report of a run if more do
pub fewer_begin : (p : Program) (steps : List Step) (bytes : List ℕ) (j k : ℕ) (less front : List ℕ) → j ≤ k → first_lines j bytes ≡ Some less → first_lines k bytes ≡ Some front
    → Begins p steps front → Begins p steps less
fewer_begin p steps bytes j k less front h e f b =
    let r = fewer_lines j k bytes front h f in
    let same : r.0 ≡ less = let both : Some r.0 ≡ Some less = sym r.1 ∙ e in cc in
    (r.2 ++ b.0, subst (IsReported p steps) (ap (λ xs. xs ++ b.0) (r.3 ∙ ap (λ xs. xs ++ r.2) same) ∙ append_assoc less r.2 b.0) b.1)

-- a line that no report has is not before one that some report has
never_before : (p : Program) (steps : List Step) (bytes : List ℕ) (j k : ℕ) (front : List ℕ) → j < k → first_lines k bytes ≡ Some front → Begins p steps front
    → ((more : List ℕ) → first_lines (j + 1) bytes ≡ Some more → Begins p steps more → ⊥) → ⊥
never_before p steps bytes j k front h e b none =
    let r = fewer_lines (j + 1) k bytes front (omega (arith, h)) e in
    none r.0 r.1 (fewer_begin p steps bytes (j + 1) k r.0 front (omega (arith, h)) r.1 e b)

pub one_verdict : (p : Program) (steps : List Step) (bytes : List ℕ) (v w : Verdict) → IsVerdict p steps bytes v → IsVerdict p steps bytes w → v ≡ w
one_verdict p steps bytes Yes Yes (yes a) (yes b) = refl
one_verdict p steps bytes Yes (No n) (yes a) (no k front e b none not) = absurd (not a)
one_verdict p steps bytes (No n) Yes (no k front e b none not) (yes a) = absurd (not a)
one_verdict p steps bytes (No n) (No m) (no j less e b none not) (no k front f d never nor) = go (nat_le j k) refl (nat_le k j) refl
  where
    go : (x : Bool) → nat_le j k ≡ x → (y : Bool) → nat_le k j ≡ y → ◌≡◌ {A = Verdict} (No (j + 1)) (No (k + 1))
    go true x true y = let same : j ≡ k = grind (arith, nat_tests, x, y) in ap (λ i. No (i + 1)) same
    go true x false y = absurd (never_before p steps bytes j k front (grind (arith, nat_tests, x, y)) f d none)
    go false x y is = absurd (never_before p steps bytes k j less (grind (arith, nat_tests, x)) e b never)
