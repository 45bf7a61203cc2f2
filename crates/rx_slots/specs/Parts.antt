-- Parts of elements and slots that are read by functions of their own.
use Rattle.std.specs.Prelude.{ℕ, true, List, Option, Ok}
use Rattle.rx_base.specs.Values.{Name}
use Rattle.rx_lex.specs.declared.token.Keyword.TheVariants as word
use Rattle.rx_lex.specs.declared.token.Sign.TheVariants as sign
use Rattle.rx_lex.specs.declared.token.Kind.{Kind}
use Rattle.rx_ast.specs.Syntax.{Expr, Slot, Slots, no_slots, at_once, by_tag}
use Rattle.rx_grammar.specs.Steps.{Read, ◌>>=◌, taken, as_word, as_lower, as_number, within}
use Rattle.rx_grammar.specs.Openings.{Opening, host_tag, element}
use Rattle.rx_grammar.specs.Reading.{sign_at, attributes_at, closing_name_at, SlotInner}

-- the tag of an element of the host
abbrev pub host_tag_at : ℕ → List Kind → Read Opening
host_tag_at n ts = taken as_lower ts >>= λ x. attributes_at true n x.1 >>= λ a. Ok (host_tag x.0 a.0, a.1)

-- an element that ends at once, behind its attributes
abbrev pub ended_at : Opening → List Kind → Read Slot
ended_at tag ts = sign_at sign.Slash ts >>= λ s. sign_at sign.Greater s.1 >>= λ g. Ok (element tag at_once no_slots, g.1)

-- an element with these children, behind the `</` of its closing tag
abbrev pub filled_at : Opening → Slots → List Kind → Read Slot
filled_at tag ss ts = closing_name_at tag ts >>= λ n. sign_at sign.Greater n.1 >>= λ g. Ok (element tag by_tag ss, g.1)

-- the index, the bound and the limit of `for`
unfoldable pub repetition_at : (List Kind → Read Expr) → List Kind → Read (Name × (Expr × ℕ))
repetition_at expr ts = taken (as_word word.For) ts >>= λ f. sign_at sign.OpenParen f.1 >>= λ p. taken as_lower p.1 >>= λ x. sign_at sign.Less x.1 >>= λ l. expr l.1 >>= λ e. sign_at sign.Comma e.1 >>= λ c. taken as_number c.1 >>= λ m. sign_at sign.CloseParen m.1 >>= λ r. Ok ((x.0, (e.0, m.0)), r.1)

-- the two sides of a choice
abbrev pub sides_at : Option SlotInner → List Kind → Read (Slot × Slot)
sides_at o ts = within o ts (λ i. sign_at sign.Question ts >>= λ q. i.slot q.1 >>= λ a. sign_at sign.Colon a.1 >>= λ s. i.slot s.1 >>= λ b. Ok ((a.0, b.0), b.1))
