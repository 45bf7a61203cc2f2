-- The generated input has two parts: the program's text, and the script.
use Rattle.std.proofs.Common.{◌≡◌, ◌<◌, List, [], ◌∷◌, ◌++◌, length, refl, ap, ◌∙◌, arith}
use Rattle.std.specs.Prelude.{codes}
use Rattle.std.specs.List.{slice_split, join_with_byte}
use Rattle.std.proofs.lemmas.List.Splits.{length-slice_split, join_with_byte-slice_split}
use Rattle.rx_base.specs.Values.{Text}
use Rattle.rx_script.specs.Input.{is_line_end, divided, input_of}
use Rattle.rx_gen.specs.Generated.{program_text}

-- the lines of the program, and the mark behind them
abbrev program_lines : List Text
program_lines =
    codes "function add(s, a) { return s + a; }" ∷ codes "function Cell({i}) {" ∷ codes "  const [v, setV] = useState(i);" ∷ codes "  return <b>{v}</b>;" ∷ codes "}"
    ∷ codes "function App() {" ∷ codes "  const [n, setN] = useState(32);" ∷ codes "  return <main>{for (i < n, 64) <Cell key={i} i={i}/>}</main>;" ∷ codes "}"
    ∷ codes "---" ∷ []

cut : (script : Text) → slice_split is_line_end (program_text ++ codes "---\n" ++ script) ≡ program_lines ++ slice_split is_line_end script
unfolding program_text
cut script = refl

joined : (ps : List Text) → 0 < length ps → divided (program_lines ++ ps) ≡ record { program = program_text; script = join_with_byte 10 ps }
unfolding program_text
joined [] some = absurd (omega arith)
joined (l ∷ ps) some = refl

pub parts : (script : Text) → input_of (program_text ++ codes "---\n" ++ script) ≡ record { program = program_text; script = script }
unfolding input_of
parts script =
    ap divided (cut script)
    ∙ (joined (slice_split is_line_end script) (omega (arith, length-slice_split is_line_end script))
    ∙ ap (λ (t : Text). record { program = program_text; script = t }) (join_with_byte-slice_split 10 script))
