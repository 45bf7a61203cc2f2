-- The generated program with its script, and the line that sums up a run of them.
use Rattle.std.specs.Prelude.{ℕ, zero, suc, ◌+◌, ◌*◌, ◌/◌, ◌%◌, ◌^◌, Bool, ◌||◌, [], ◌++◌, nat_eq, sum, length, codes, decimal, if◌then◌else◌}
use Rattle.std.specs.List.{flat_map, range_with_len}
use Rattle.rx_base.specs.Values.{Text}

-- the program: a list of cells, each with a state of its own and a key
unfoldable pub program_text : Text
program_text =
    codes "function add(s, a) { return s + a; }\n"
    ++ codes "function Cell({i}) {\n"
    ++ codes "  const [v, setV] = useState(i);\n"
    ++ codes "  return <b>{v}</b>;\n"
    ++ codes "}\n"
    ++ codes "function App() {\n"
    ++ codes "  const [n, setN] = useState(32);\n"
    ++ codes "  return <main>{for (i < n, 64) <Cell key={i} i={i}/>}</main>;\n"
    ++ codes "}\n"

-- the number that is drawn behind another one
abbrev pub next_drawn : ℕ → ℕ
next_drawn x = (x * 1103515245 + 12345) % 2 ^ 31

-- the numbers that are drawn, one a round, behind the number of rounds
abbrev pub drawn : (rounds : ℕ) → (round : ℕ) → ℕ
drawn n zero = n
drawn n (suc j) = next_drawn (drawn n j)

-- what a round chooses by: the upper bits of its number
abbrev pub choice : (rounds round : ℕ) → ℕ
choice n j = drawn n j / 65536

-- the lane that is chosen
abbrev pub lane_word : (choice : ℕ) → Text
lane_word q =
    if nat_eq (q % 4) 0 then codes "sync" else if nat_eq (q % 4) 1 then codes "input" else if nat_eq (q % 4) 2 then codes "default" else codes "transition"

-- the path to a cell; the number is left out if it is 0
abbrev pub cell_path : (cell : ℕ) → Text
cell_path k = codes "App/Cell" ++ (if nat_eq k 0 then [] else codes "@" ++ decimal k)

-- the line that sets how many cells there are
abbrev pub resizing : (choice : ℕ) → Text
resizing q = codes "set sync App n " ++ decimal (q % 65) ++ codes "\n"

-- the line that adds to a cell's state
abbrev pub adding : (choice : ℕ) → Text
adding q = codes "call " ++ lane_word q ++ codes " " ++ cell_path (q / 4 % 40) ++ codes " v add " ++ decimal (q % 1000) ++ codes "\n"

-- each fourth round and the last one end with a flush
abbrev pub is_flushed : (rounds round : ℕ) → Bool
is_flushed n j = nat_eq (j % 4) 0 || nat_eq j n

-- the lines of a round: each eighth one begins by changing how many cells there are
abbrev pub round_lines : (rounds round choice : ℕ) → Text
round_lines n j q = (if nat_eq (j % 8) 0 then resizing q else []) ++ adding q ++ (if is_flushed n j then codes "flush\n" else [])

-- the script: the first render, then the rounds
unfoldable pub script_text : (rounds : ℕ) → Text
script_text n = codes "flush\n" ++ flat_map (λ j. round_lines n j (choice n j)) (range_with_len 1 n)

-- the sum of bytes, in 32 bits
abbrev pub checksum : Text → ℕ
checksum bytes = sum bytes % 2 ^ 32

-- the line that sums up a run: the dispatches that were accepted, the commits, the nodes of the final tree, and the bytes of its lines
abbrev pub summary_text : (rounds accepted commits nodes : ℕ) → (tree : Text) → Text
summary_text n accepted commits nodes tree =
    codes "gen " ++ decimal n ++ codes " dispatches " ++ decimal accepted ++ codes " commits " ++ decimal commits ++ codes " nodes " ++ decimal nodes
    ++ codes " bytes " ++ decimal (length tree) ++ codes " sum " ++ decimal (checksum tree) ++ codes "\n"
