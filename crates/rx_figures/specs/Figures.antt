-- What is computed of a slot: its nodes, levels, waits and throws side by side, each sum and product held.
use Rattle.std.specs.Prelude.{◌≡◌, ◌≤◌, ℕ, zero, suc, min, max, true, false, ◌&&◌, ◌||◌, bytes_eq, cond, position, List, map, length, slice_index_or, Option, Some, None}
use Rattle.rx_ast.specs.Syntax.{Component, Program, components}
use Rattle.rx_rules.specs.Bounds.{component_levels, Column, slot_by, body_if, body_by, reads_resource, has_throw}
use Rattle.rx_ast.specs.declared.slot.Tag.{Tag}
use Rattle.rx_ast.specs.declared.slot.Tag.TheVariants as tag
use Rattle.rx_rules.specs.Names.{component_names, component_number}
use Rattle.rx_order.specs.Graphs.{is_among}
use Rattle.rx_figures.specs.Costs.{held_sum, held_product}
use Rattle.rx_figures.specs.declared.figures.Figures.{Figures}

-- the earlier of two numbers, if there are two
abbrev pub earlier : Option ℕ → Option ℕ → Option ℕ
earlier None b = b
earlier (Some m) None = Some m
earlier (Some m) (Some n) = Some (min m n)

-- the number of a component, if it reads a resource
abbrev pub reader_of : Program → Component → Option ℕ
reader_of p c = cond (reads_resource c) (position (bytes_eq c.name) (component_names p)) None

-- the number of a component, if it may throw by itself
abbrev pub thrower_of : Program → Component → Option ℕ
thrower_of p c = cond (has_throw c) (position (bytes_eq c.name) (component_names p)) None

-- nothing
abbrev pub no_figures : Figures
no_figures = record { own = 0; given = 0; levels = 0; waits = None; unguarded = false; throws = None; uncaught = false }

-- a text
abbrev pub text_figures : Figures
text_figures = record { own = 1; given = 0; levels = 1; waits = None; unguarded = false; throws = None; uncaught = false }

-- the children that are given
abbrev pub children_figures : Figures
children_figures = record { own = 1; given = 1; levels = 1; waits = None; unguarded = true; throws = None; uncaught = true }

-- two places beside each other
abbrev pub beside_figures : Figures → Figures → Figures
beside_figures a b =
    record {
      own = held_sum a.own b.own;
      given = held_sum a.given b.given;
      levels = max a.levels b.levels;
      waits = earlier a.waits b.waits;
      unguarded = a.unguarded || b.unguarded;
      throws = earlier a.throws b.throws;
      uncaught = a.uncaught || b.uncaught;
    }

-- a node around what is in it
abbrev pub around_figures : Figures → Figures
around_figures a = record a { own = held_sum 1 a.own; levels = held_sum 1 a.levels }

-- so many items
abbrev pub repeated_figures : ℕ → Figures → Figures
repeated_figures n a =
    record {
      own = held_sum 1 (held_product n a.own);
      given = held_product n a.given;
      levels = held_sum 1 a.levels;
      waits = a.waits;
      unguarded = a.unguarded;
      throws = a.throws;
      uncaught = a.uncaught;
    }

-- a boundary with its fallback: it waits if its fallback does
abbrev pub boundary_figures : (primary fallback : Figures) → Figures
boundary_figures a b =
    record {
      own = held_sum 1 (held_sum a.own b.own);
      given = held_sum a.given b.given;
      levels = held_sum 1 (max a.levels b.levels);
      waits = b.waits;
      unguarded = b.unguarded;
      throws = earlier a.throws b.throws;
      uncaught = a.uncaught || b.uncaught;
    }

-- an error boundary with its fallback: it throws if its fallback does
abbrev pub catcher_figures : (primary fallback : Figures) → Figures
catcher_figures a b =
    record {
      own = held_sum 1 (held_sum a.own b.own);
      given = held_sum a.given b.given;
      levels = held_sum 1 (max a.levels b.levels);
      waits = earlier a.waits b.waits;
      unguarded = a.unguarded || b.unguarded;
      throws = b.throws;
      uncaught = b.uncaught;
    }

-- a component with its body, given these children
abbrev pub component_figures : (body children : Figures) → Figures
component_figures c k =
    record {
      own = held_sum 1 (held_sum c.own (held_product c.given k.own));
      given = held_product c.given k.given;
      levels = held_sum 1 (held_sum c.levels k.levels);
      waits = earlier c.waits (cond c.unguarded k.waits None);
      unguarded = c.unguarded && k.unguarded;
      throws = earlier c.throws (cond c.uncaught k.throws None);
      uncaught = c.uncaught && k.uncaught;
    }

-- a body, if the component of this number reads a resource, and that one may throw
abbrev pub body_figures : (reader thrower : Option ℕ) → Figures → Figures
body_figures reader thrower a = record a { waits = earlier reader a.waits; throws = earlier thrower a.throws }

-- the column of all, if the components of this program have the numbers
abbrev pub figures : Program → Column Figures
figures p =
    record {
      nothing = no_figures;
      text = text_figures;
      children = children_figures;
      repeated = repeated_figures;
      choice = beside_figures;
      around = around_figures;
      boundary = boundary_figures;
      catcher = catcher_figures;
      component = component_figures;
      body = λ c a. body_figures (reader_of p c) (thrower_of p c) a;
      beside = beside_figures;
    }

-- No program nests components deeper, before the number of its declarations is known.
abbrev pub nesting_levels : Program → ℕ
nesting_levels p = max component_levels (length (components p))

-- what is known of each component, by its number
abbrev pub known_in : List Figures → ℕ → Figures
known_in table c = slice_index_or table c no_figures

-- the figures of an element of this tag, from those of its children
abbrev pub tag_figures : List Figures → Program → Tag → (inner : Figures) → Figures
tag_figures table p (tag.Host x attrs) inner = around_figures inner
tag_figures table p (tag.Component x attrs) inner = component_figures (known_in table (component_number p x)) inner
tag_figures table p (tag.Suspense k f) inner = boundary_figures inner (slot_by (figures p) (known_in table) p f.value)
tag_figures table p (tag.Catch k f) inner = catcher_figures inner (slot_by (figures p) (known_in table) p f.value)
tag_figures table p (tag.Provider x k e) inner = around_figures inner

-- one round over all components, from what was known before
abbrev pub round_of : Program → List Figures → List Figures
round_of p table = map (λ c. body_if (figures p) (known_in table) p (Some c)) (components p)

-- so many rounds
unfoldable pub rounds : ℕ → Program → List Figures → List Figures
rounds zero p table = table
rounds (suc n) p table = rounds n p (round_of p table)

-- the table has the figures of each of these components, if components nest deep enough for them all
abbrev pub AreFigures : Program → List Figures → (numbers : List ℕ) → Type 0
AreFigures p table numbers = (c depth : ℕ) → is_among numbers c ≡ true → length numbers ≤ depth → body_by (figures p) depth p c ≡ known_in table c
