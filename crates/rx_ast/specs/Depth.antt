-- How deep a tree is: the measure of a walk over it.
use Rattle.std.specs.Prelude.{ℕ, suc, ◌+◌, ◌*◌, max}
use Rattle.rx_ast.specs.Syntax.{Expr, number, variable, grouped, prefixed, chain, chosen, called, Links, no_links, link, Exprs, no_exprs, expr}
use Rattle.rx_ast.specs.Syntax.{Slot, null, words, number_of, children, repeated, choice, host, comp, boundary, catcher, provider, enclosed, Slots, no_slots, slot}

-- how many expressions lie within one another below this one
abbrev mutual
  pub expr_depth : Expr → ℕ
  expr_depth (number n) = 0
  expr_depth (variable x) = 0
  expr_depth (grouped e) = suc (expr_depth e)
  expr_depth (prefixed o e) = suc (expr_depth e)
  expr_depth (chain e ls) = suc (max (expr_depth e) (links_depth ls))
  expr_depth (chosen c a b) = suc (max (expr_depth c) (max (expr_depth a) (expr_depth b)))
  expr_depth (called f es) = suc (exprs_depth es)

  -- the greatest of the operands
  pub links_depth : Links → ℕ
  links_depth no_links = 0
  links_depth (link o e ls) = max (expr_depth e) (links_depth ls)

  -- the greatest of the expressions
  pub exprs_depth : Exprs → ℕ
  exprs_depth no_exprs = 0
  exprs_depth (expr e es) = max (expr_depth e) (exprs_depth es)

-- how many slots lie within one another below this one
abbrev mutual
  pub slot_depth : Slot → ℕ
  slot_depth null = 0
  slot_depth (words t) = 0
  slot_depth (number_of e) = 0
  slot_depth children = 0
  slot_depth (repeated x e n s) = suc (slot_depth s)
  slot_depth (choice e s t) = suc (max (slot_depth s) (slot_depth t))
  slot_depth (host x attrs w ss) = suc (slots_depth ss)
  slot_depth (comp x attrs w ss) = suc (slots_depth ss)
  slot_depth (boundary k s w ss) = suc (max (slot_depth s) (slots_depth ss))
  slot_depth (catcher k s w ss) = suc (max (slot_depth s) (slots_depth ss))
  slot_depth (provider x k e w ss) = suc (slots_depth ss)
  slot_depth (enclosed b s) = suc (slot_depth s)

  -- the greatest of the slots
  pub slots_depth : Slots → ℕ
  slots_depth no_slots = 0
  slots_depth (slot s ss) = max (slot_depth s) (slots_depth ss)

-- the measure of an element, which is below that of a slot or a child that is this element
abbrev pub element_size : Slot → ℕ
element_size s = 2 * slot_depth s

-- the measure of a slot or a child
abbrev pub slot_size : Slot → ℕ
slot_size s = 2 * slot_depth s + 1
