-- What is found node by node, added up.
use Rattle.std.proofs.Common.{◌≡◌, Bool, true, false, not, ◌&&◌, List, [], ◌∷◌, ◌++◌, Option, Some, refl, ap, sym, ◌∙◌, flat_map, unwrap_or, if◌then◌else◌}
use Rattle.std.proofs.lemmas.List.{append_assoc, append-nil}
use Rattle.std.proofs.lemmas.List.Elements.{filter_map-append}
use Rattle.std.proofs.lemmas.Grind.{flat_map-append}
use Rattle.std.specs.List.{filter_map}
use Rattle.rx_base.specs.Awaits.{Awaits, nothing, union}
use Rattle.rx_elem.specs.Trees.{mark_of, awaits_in, is_hidden}
use Rattle.rx_elem.specs.Compare.{Change, Gone, Compared, compared, AllCompared, no_comparisons, comparison, changes, changes_in}
use Rattle.rx_effect.specs.EffectLog.{Phase, layout, passive, destroyed_in, destroyed_by_hiding, own_destroyed, own_created, destroyed, destroyed_all, created, created_all}
use Rattle.rx_effect.specs.declared.log.LogLine.{LogLine}
use Rattle.rx_forest.specs.HostOps.{placed_in}
use Rattle.rx_meaning.specs.Outcome.{hides_shown, caught_anew}
use Rattle.rx_compare.specs.Hidden.{hidden_after}
use Rattle.rx_changes.specs.Found.{Found, Lines, and_lines, with_changes, with_effects, no_effects, logged, hiding, with_node, with_list}

-- what some changes hide, and then others
hidden_after-append : (cs ds : List Change) (before : Option Awaits) → hidden_after before (cs ++ ds) ≡ hidden_after (hidden_after before cs) ds
hidden_after-append [] ds before = refl
hidden_after-append (c ∷ cs) ds before =
    hidden_after-append cs ds (if hides_shown c then Some (union (unwrap_or before nothing) (awaits_in (mark_of c.new))) else before)

-- Parts of a list that were added one after another

regroup : {A : Type 0} (b g k x h f o : List A) → (((((b ++ g) ++ k) ++ x) ++ h) ++ f) ++ o ≡ b ++ ((g ++ k) ++ ((x ++ h) ++ (f ++ o)))
regroup b g k x h f o =
    append_assoc ((((b ++ g) ++ k) ++ x) ++ h) f o
    ∙ ap (λ l. l ++ (f ++ o)) (append_assoc ((b ++ g) ++ k) x h)
    ∙ append_assoc ((b ++ g) ++ k) (x ++ h) (f ++ o)
    ∙ ap (λ l. l ++ ((x ++ h) ++ (f ++ o))) (append_assoc b g k)
    ∙ append_assoc b (g ++ k) ((x ++ h) ++ (f ++ o))

outward : {A : Type 0} (g b f o : List A) → g ++ (b ++ (f ++ o)) ≡ ((g ++ b) ++ f) ++ o
outward g b f o = sym (append_assoc g b (f ++ o)) ∙ sym (append_assoc (g ++ b) f o)

-- what a hidden node's children would log, and what hiding them does
below : {A : Type 0} (hides : Bool) (x h : List A) → (if (true && not hides) then x else []) ++ (if hides then h else []) ≡ (if hides then h else x)
below true x h = refl
below false x h = append-nil x

kept : {A : Type 0} (hides : Bool) (x : List A) → (if (true && not hides) then x else []) ++ [] ≡ (if hides then [] else x)
kept true x = refl
kept false x = append-nil x

both : {A : Type 0} (logs : Bool) (b x y : List A) → (b ++ (if logs then x else [])) ++ (if logs then y else []) ≡ b ++ (if logs then x ++ y else [])
both true b x y = append_assoc b x y
both false b x y = append-nil (b ++ [])

-- nothing more
pub nothing_more : {A : Type 0} (logs : Bool) (b : List A) → b ++ (if logs then [] else []) ≡ b
nothing_more true b = append-nil b
nothing_more false b = append-nil b

-- Of a node

destroyed_sum : (logs : Bool) (phase : Phase) (c : Change) (g k : List Gone) (ns fs : AllCompared)
    → (logged logs (λ p. flat_map (destroyed_in p) g) phase ++ logged logs (λ p. flat_map (destroyed_in p) k) phase)
    ++ ((logged (logs && not (is_hidden (mark_of c.new))) (λ p. destroyed_all p ns) phase ++ logged logs (hiding c) phase)
    ++ (logged logs (λ p. destroyed_all p fs) phase ++ logged logs (λ p. own_destroyed p c) phase))
    ≡ logged logs (λ p. destroyed p (compared c (g ++ k) ns fs)) phase
destroyed_sum false phase c g k ns fs = refl
destroyed_sum true phase c g k ns fs =
    (λ i. sym (flat_map-append (destroyed_in phase) g k) i
    ++ (below (is_hidden (mark_of c.new)) (destroyed_all phase ns) (destroyed_by_hiding phase c.was_visible c.old) i ++ (destroyed_all phase fs ++ own_destroyed phase c)))
    ∙ outward (flat_map (destroyed_in phase) (g ++ k)) (if is_hidden (mark_of c.new) then destroyed_by_hiding phase c.was_visible c.old else destroyed_all phase ns) (destroyed_all phase fs) (own_destroyed phase c)

created_sum : (logs : Bool) (phase : Phase) (c : Change) (g : List Gone) (ns fs : AllCompared)
    → (logged (logs && not (is_hidden (mark_of c.new))) (λ p. created_all p ns) phase ++ [])
    ++ (logged logs (λ p. created_all p fs) phase ++ logged logs (λ p. own_created p c) phase)
    ≡ logged logs (λ p. created p (compared c g ns fs)) phase
created_sum false phase c g ns fs = refl
created_sum true phase c g ns fs =
    (λ i. kept (is_hidden (mark_of c.new)) (created_all phase ns) i ++ (created_all phase fs ++ own_created phase c))
    ∙ sym (append_assoc (if is_hidden (mark_of c.new) then [] else created_all phase ns) (created_all phase fs) (own_created phase c))

told_sum : {B : Type 0} (told : Change → Option B) (b : List B) (c : Change) (xs ys : List Change)
    → ((b ++ filter_map told (c ∷ [])) ++ filter_map told xs) ++ filter_map told ys ≡ b ++ filter_map told (c ∷ (xs ++ ys))
told_sum told b c xs ys =
    append_assoc (b ++ filter_map told (c ∷ [])) (filter_map told xs) (filter_map told ys)
    ∙ append_assoc b (filter_map told (c ∷ [])) (filter_map told xs ++ filter_map told ys)
    ∙ ap (λ l. b ++ (filter_map told (c ∷ []) ++ l)) (sym (filter_map-append told xs ys))
    ∙ ap (λ l. b ++ l) (sym (filter_map-append told (c ∷ []) (xs ++ ys)))

-- the parts of a node make the whole
pub node-sum : (logs : Bool) (c : Change) (g k : List Gone) (ns fs : AllCompared) (f : Found)
    → with_effects (logged logs (λ p. own_destroyed p c)) (logged logs (λ p. own_created p c))
    (with_list logs fs
    (with_effects (logged logs (hiding c)) no_effects
    (with_list (logs && not (is_hidden (mark_of c.new))) ns
    (with_effects (logged logs (λ p. flat_map (destroyed_in p) k)) no_effects
    (with_effects (logged logs (λ p. flat_map (destroyed_in p) g)) no_effects
    (with_changes (c ∷ []) f))))))
    ≡ with_node logs (compared c (g ++ k) ns fs) f
node-sum logs c g k ns fs f =
    λ i. record {
      layout = record { destroyed = destroys layout f.layout.destroyed i; created = creates layout f.layout.created i };
      passive = record { destroyed = destroys passive f.passive.destroyed i; created = creates passive f.passive.created i };
      placed = told_sum placed_in f.placed c (changes_in ns) (changes_in fs) i;
      caught = told_sum caught_anew f.caught c (changes_in ns) (changes_in fs) i;
      hidden = sym (hidden_after-append (changes_in ns) (changes_in fs) (hidden_after f.hidden (c ∷ []))) i;
    }
  where
    destroys : (phase : Phase) (b : List LogLine)
        → (((((b ++ logged logs (λ p. flat_map (destroyed_in p) g) phase) ++ logged logs (λ p. flat_map (destroyed_in p) k) phase)
        ++ logged (logs && not (is_hidden (mark_of c.new))) (λ p. destroyed_all p ns) phase) ++ logged logs (hiding c) phase)
        ++ logged logs (λ p. destroyed_all p fs) phase) ++ logged logs (λ p. own_destroyed p c) phase
        ≡ b ++ logged logs (λ p. destroyed p (compared c (g ++ k) ns fs)) phase
    destroys phase b = regroup b _ _ _ _ _ _ ∙ ap (λ l. b ++ l) (destroyed_sum logs phase c g k ns fs)

    creates : (phase : Phase) (b : List LogLine)
        → (((((b ++ []) ++ []) ++ logged (logs && not (is_hidden (mark_of c.new))) (λ p. created_all p ns) phase) ++ [])
        ++ logged logs (λ p. created_all p fs) phase) ++ logged logs (λ p. own_created p c) phase
        ≡ b ++ logged logs (λ p. created p (compared c (g ++ k) ns fs)) phase
    creates phase b = regroup b [] [] _ [] _ _ ∙ ap (λ l. b ++ l) (created_sum logs phase c (g ++ k) ns fs)

-- Of a list

told_more : {B : Type 0} (told : Change → Option B) (b : List B) (xs ys : List Change) → (b ++ filter_map told xs) ++ filter_map told ys ≡ b ++ filter_map told (xs ++ ys)
told_more told b xs ys = append_assoc b (filter_map told xs) (filter_map told ys) ∙ ap (λ l. b ++ l) (sym (filter_map-append told xs ys))

-- a node, and then the others
pub list-sum : (logs : Bool) (c : Compared) (cs : AllCompared) (f : Found) → with_list logs cs (with_node logs c f) ≡ with_list logs (comparison c cs) f
list-sum logs c cs f =
    λ i. record {
      layout = record {
        destroyed = both logs f.layout.destroyed (destroyed layout c) (destroyed_all layout cs) i;
        created = both logs f.layout.created (created layout c) (created_all layout cs) i;
      };
      passive = record {
        destroyed = both logs f.passive.destroyed (destroyed passive c) (destroyed_all passive cs) i;
        created = both logs f.passive.created (created passive c) (created_all passive cs) i;
      };
      placed = told_more placed_in f.placed (changes c) (changes_in cs) i;
      caught = told_more caught_anew f.caught (changes c) (changes_in cs) i;
      hidden = sym (hidden_after-append (changes c) (changes_in cs) f.hidden) i;
    }

-- none
pub none-sum : (logs : Bool) (f : Found) → with_list logs no_comparisons f ≡ f
none-sum logs f =
    λ i. record {
      layout = record { destroyed = nothing_more logs f.layout.destroyed i; created = nothing_more logs f.layout.created i };
      passive = record { destroyed = nothing_more logs f.passive.destroyed i; created = nothing_more logs f.passive.created i };
      placed = append-nil f.placed i;
      caught = append-nil f.caught i;
      hidden = f.hidden;
    }

-- Effects that aren't logged

-- nothing is added
pub nothing-destroyed : (logs : Bool) (effects : Phase → List LogLine) (f : Found) → logs ≡ false → f ≡ with_effects (logged logs effects) no_effects f
nothing-destroyed logs effects f e =
    (λ i. record {
      layout = record { destroyed = sym (append-nil f.layout.destroyed) i; created = sym (append-nil f.layout.created) i };
      passive = record { destroyed = sym (append-nil f.passive.destroyed) i; created = sym (append-nil f.passive.created) i };
      placed = f.placed;
      caught = f.caught;
      hidden = f.hidden;
    })
    ∙ ap (λ b. with_effects (logged b effects) no_effects f) (sym e)

-- neither here nor there
pub nothing-logged : (logs : Bool) (destroys creates : Phase → List LogLine) (f : Found) → logs ≡ false → f ≡ with_effects (logged logs destroys) (logged logs creates) f
nothing-logged logs destroys creates f e =
    nothing-destroyed logs destroys f e ∙ ap (λ b. with_effects (logged logs destroys) (logged b creates) f) (sym e)

-- Effects that are logged

-- what is found, but these effects of both kinds
abbrev pub beside : Found → Lines → Lines → Found
beside f l p = record { layout = l; passive = p; placed = f.placed; caught = f.caught; hidden = f.hidden }

-- what is found, but these destructions of both kinds
abbrev pub behind : Found → List LogLine → List LogLine → Found
behind f l p = beside f (record { destroyed = l; created = f.layout.created }) (record { destroyed = p; created = f.passive.created })

-- destructions of both phases are added
pub logged-destroyed : (logs : Bool) (effects : Phase → List LogLine) (f : Found) (l p : List LogLine) → logs ≡ true
    → l ≡ f.layout.destroyed ++ effects layout → p ≡ f.passive.destroyed ++ effects passive
    → behind f l p ≡ with_effects (logged logs effects) no_effects f
logged-destroyed logs effects f l p is first second =
    (λ i. record {
      layout = record { destroyed = first i; created = sym (append-nil f.layout.created) i };
      passive = record { destroyed = second i; created = sym (append-nil f.passive.created) i };
      placed = f.placed;
      caught = f.caught;
      hidden = f.hidden;
    })
    ∙ ap (λ b. with_effects (logged b effects) no_effects f) (sym is)

-- effects of both kinds are added
pub logged-effects : (logs : Bool) (destroys creates : Phase → List LogLine) (f : Found) (l p : Lines) → logs ≡ true
    → l ≡ and_lines f.layout (destroys layout) (creates layout) → p ≡ and_lines f.passive (destroys passive) (creates passive)
    → beside f l p ≡ with_effects (logged logs destroys) (logged logs creates) f
logged-effects logs destroys creates f l p is first second =
    (λ i. record { layout = first i; passive = second i; placed = f.placed; caught = f.caught; hidden = f.hidden })
    ∙ ap (λ b. with_effects (logged b destroys) (logged b creates) f) (sym is)

-- hiding destroys no passive effects
pub hiding-passive : (c : Change) (ls : List LogLine) → ls ≡ ls ++ hiding c passive
hiding-passive c ls = sym (nothing_more (is_hidden (mark_of c.new)) ls)
