-- A line `---` behind whole lines of which none is one parts an input there.
use Rattle.std.proofs.Common.{◌≡◌, ◌∙◌, ℕ, suc, List, [], ◌∷◌, ◌++◌, ap, append_assoc, arith, refl}
use Rattle.std.specs.Prelude.{codes}
use Rattle.std.specs.List.{onto_first, slice_split}
use Rattle.rx_script.specs.Input.{input_of, is_line_end, with_line}
use Rattle.rx_script.specs.Marks.{AreLines, none, then}
use Rattle.rx_script.specs.Pieces.{HasNoLineEnd, IsCut}
use Rattle.rx_script.proofs.Cuts.{input-line, input-mark, is_not}

-- what stands before a line end is a piece
split-line : (line rest : List ℕ) → HasNoLineEnd line → slice_split is_line_end (line ++ 10 ∷ rest) ≡ line ∷ slice_split is_line_end rest
split-line [] rest free = refl
split-line (b ∷ line) rest free = rw (is_not b 10 (free 0 (omega arith))) (ap (onto_first b) (split-line line rest (λ k h. free (suc k) (omega arith))))

behind : (front rest : List ℕ) → AreLines front → input_of (front ++ (codes "---\n" ++ rest)) ≡ record { program = front; script = rest }
behind _ rest none = input-mark (codes "---\n" ++ rest) (codes "---") rest (record { whole = refl; pieces = refl }) refl
behind _ rest (then line more free other lines) =
    let tail = more ++ (codes "---\n" ++ rest) in
    let cut : IsCut (line ++ 10 ∷ tail) line tail = record { whole = refl; pieces = split-line line tail free } in
    let seam : (line ++ 10 ∷ more) ++ (codes "---\n" ++ rest) ≡ line ++ 10 ∷ tail = append_assoc line (10 ∷ more) (codes "---\n" ++ rest) in
    ap input_of seam ∙ input-line (line ++ 10 ∷ tail) line tail cut other ∙ ap (with_line line) (behind more rest lines)

pub parted : (front rest : List ℕ) → AreLines front → input_of (front ++ codes "---\n" ++ rest) ≡ record { program = front; script = rest }
parted front rest lines = ap input_of (append_assoc front (codes "---\n") rest) ∙ behind front rest lines
