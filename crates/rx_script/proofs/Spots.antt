-- What is read of the word of a path.
use Rattle.std.proofs.Common.{◌≡◌, ◌∙◌, ap, ℕ, Option, Some, None, option_map, refl, true, bytes_eq}
use Rattle.std.proofs.lemmas.Slice.Eq.{bytes_eq-Decides}
use Rattle.rx_base.specs.Values.{Text}
use Rattle.rx_ast.specs.Syntax.{Program}
use Rattle.rx_step.specs.Steps.{Path}
use Rattle.rx_script.specs.Lines.{path_of, target_of}
use Rattle.rx_script.specs.Readings.{held_path, spot_at, spot_of}
use Rattle.rx_script.proofs.Formed.{target-held}

-- words with the same bytes
pub word_same : (one other : Text) → bytes_eq one other ≡ true → one ≡ other
word_same one other is = (bytes_eq-Decides one other).0 is

-- a word that is no path
pub spot_none : (p : Program) (word : Text) → None ≡ option_map held_path (path_of word) → None ≡ spot_of p word
spot_none p word is = by_path (path_of word) is where
  by_path : (o : Option Path) → None ≡ option_map held_path o → None ≡ option_map (λ path. spot_at p path) o
  by_path None e = refl
  by_path (Some q) e = cc

-- the path that was read of a word, beside the component that it ends at
pub spot_read : (p : Program) (word : Text) (path : Path) (target : Option ℕ) → Some path ≡ option_map held_path (path_of word)
    → target ≡ target_of p path → Some (record { path = path; target = target }) ≡ spot_of p word
spot_read p word path target is ends = by_path (path_of word) is where
  by_path : (o : Option Path) → Some path ≡ option_map held_path o
      → Some (record { path = path; target = target }) ≡ option_map (λ q. spot_at p q) o
  by_path None e = cc
  by_path (Some q) e =
      let same : path ≡ held_path q = cc in
      let there : target ≡ target_of p q = ends ∙ ap (λ r. target_of p r) same ∙ target-held p q in
      rw (same, there) refl
