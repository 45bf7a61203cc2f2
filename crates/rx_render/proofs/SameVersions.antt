-- What a render sees of the versions of resources: those that are done if it sees no refresh; and a scene has them.
use Rattle.std.specs.Prelude.{◌≡◌, ℕ, ◌≤◌, ◌<◌, Bool, true, false, cond, List, [], ◌∷◌, filter, length, nat_lt, slice_index_or, zero, suc, refl}
use Rattle.std.proofs.Common.{ap, arith, sym, ◌∙◌}
use Rattle.std.proofs.lemmas.Bool.Decides.{nat_tests}
use Rattle.std.proofs.lemmas.List.{length-map}
use Rattle.std.proofs.lemmas.List.FromFn.{length-range_with_len}
use Rattle.rx_base.specs.declared.cut.Cut.{Cut}
use Rattle.rx_lane.specs.Lanes.{Lanes}
use Rattle.rx_rules.specs.Names.{resources}
use Rattle.rx_queue.specs.History.{stands_done}
use Rattle.rx_queue.specs.Journal.{Posted, is_included, resource, same_target}
use Rattle.rx_meaning.specs.Fresh.{Sight, version_seen, versions_seen}
use Rattle.rx_meaning.specs.Settled.{DoneBefore, version_done}
use Rattle.rx_meaning.specs.Touched.{sees_refresh}
use Rattle.commit_laws.proofs.ResourceLaws.{versions_done}
use Rattle.commit_laws.proofs.Versions.{version_at}
use Rattle.rx_causes.specs.declared.scene.Scene.{Scene}
use Rattle.rx_causes.specs.Scenes.{IsSceneOf, version_in}
use Rattle.rx_resources.specs.Seen.{Resources}
use Rattle.rx_render.specs.Rendering.{Rendering}
use Rattle.rx_render.specs.Renders.{Sees}
use Rattle.rx_kept.specs.Seeing.{AsksForDeclared, resources_by}

-- an update that is done is included if it lies before the cut
done_included : (lanes : Lanes) (cut : Cut) (u : Posted) → (stands_done u.standing ≡ true → nat_lt u.update.number cut.updates ≡ true) → stands_done u.standing ≡ true → is_included lanes cut u ≡ true
done_included lanes cut u before done = rw (before done, done) refl

module _ (mine : Posted → Bool) (lanes : Lanes) (cut : Cut) where
  -- no more updates are done than are included
  done_fewer : (us : List Posted) → DoneBefore cut us → length (filter (λ u. stands_done u.standing) (filter mine us)) ≤ length (filter (is_included lanes cut) (filter mine us))
  done_fewer [] h = omega arith
  done_fewer (u ∷ us) h = go (mine u) (done_fewer us h.1)
    where
      by_done : (d i : Bool) → (d ≡ true → i ≡ true) → length (filter (λ u. stands_done u.standing) (filter mine us)) ≤ length (filter (is_included lanes cut) (filter mine us))
          → length (cond d (u ∷ filter (λ u. stands_done u.standing) (filter mine us)) (filter (λ u. stands_done u.standing) (filter mine us)))
          ≤ length (cond i (u ∷ filter (is_included lanes cut) (filter mine us)) (filter (is_included lanes cut) (filter mine us)))
      by_done true true f rest = omega (arith, rest)
      by_done true false f rest = absurd (cc (f refl))
      by_done false true f rest = omega (arith, rest)
      by_done false false f rest = rest

      go : (m : Bool) → length (filter (λ u. stands_done u.standing) (filter mine us)) ≤ length (filter (is_included lanes cut) (filter mine us))
          → length (filter (λ u. stands_done u.standing) (cond m (u ∷ filter mine us) (filter mine us))) ≤ length (filter (is_included lanes cut) (cond m (u ∷ filter mine us) (filter mine us)))
      go true rest = by_done (stands_done u.standing) (is_included lanes cut u) (done_included lanes cut u h.0) rest
      go false rest = rest

-- The versions that are done are those that it sees.
pub versions_same : (s : Sight) → DoneBefore s.cut s.journal.updates → AsksForDeclared s → sees_refresh s ≡ false → version_done s.journal.updates ≡ version_seen s
versions_same s before declared calm = λ i r. one r i
  where
    one : (r : ℕ) → version_done s.journal.updates r ≡ version_seen s r
    one r = go (nat_lt r (length (resources s.program))) refl
      where
        go : (b : Bool) → nat_lt r (length (resources s.program)) ≡ b → version_done s.journal.updates r ≡ version_seen s r
        go true e = let within : r < length (resources s.program) = grind (arith, nat_tests) in sym (versions_done s calm r within)
        go false e =
            let late : length (resources s.program) ≤ r = grind (arith, nat_tests) in
            let none : version_seen s r ≡ 0 = declared r late in
            let few : version_done s.journal.updates r ≤ version_seen s r = done_fewer (λ u. same_target (resource r) u.target) s.lanes s.cut s.journal.updates before in
            omega (arith, none, few)

past_end : (xs : List ℕ) (r : ℕ) → length xs ≤ r → slice_index_or xs r 0 ≡ 0
past_end [] r l = refl
past_end (x ∷ xs) zero l = absurd (omega arith)
past_end (x ∷ xs) (suc r) l = past_end xs r (omega arith)

-- by the list of its versions a scene has each that the render sees
versions_in : (scene : Scene) (s : Sight) → scene.versions.now ≡ versions_seen s → AsksForDeclared s → (r : ℕ) → version_in scene r ≡ version_seen s r
versions_in scene s list declared r = ap (λ (l : List ℕ). slice_index_or l r 0) list ∙ go (nat_lt r (length (resources s.program))) refl
  where
    go : (b : Bool) → nat_lt r (length (resources s.program)) ≡ b → slice_index_or (versions_seen s) r 0 ≡ version_seen s r
    go true e = let within : r < length (resources s.program) = grind (arith, nat_tests) in version_at (version_seen s) (length (resources s.program)) r within
    go false e =
        let late : length (resources s.program) ≤ r = grind (arith, nat_tests) in
        let long : length (versions_seen s) ≡ length (resources s.program) = length-map _ _ ∙ length-range_with_len 0 (length (resources s.program)) in
        past_end (versions_seen s) r (omega (arith, late, long)) ∙ sym (declared r late)

-- A scene of what a rendering sees is what its render sees.
pub scene_seen : (scene : Scene) (v : Rendering) (s : Sight) (seen : Resources) → seen ≡ v.resources → scene.checked.now ≡ v.program → scene.versions.now ≡ seen.versions → scene.resources.now ≡ seen.values → scene.refreshes ≡ seen.refreshes
    → scene.lanes ≡ v.lanes → scene.cut ≡ v.cut → scene.throws ≡ v.throws → Sees v s → IsSceneOf scene s
scene_seen scene v s seen same program versions values refreshes lanes cut throws sees =
    let are : seen ≡ resources_by s = same ∙ sees.resources in
    let list : scene.versions.now ≡ versions_seen s = versions ∙ ap (λ (x : Resources). x.versions) are in
    record {
      program = sees.program ∙ sym program;
      resources = values ∙ ap (λ (x : Resources). x.values) are;
      list = list;
      versions = versions_in scene s list sees.declared;
      refreshes = refreshes ∙ ap (λ (x : Resources). x.refreshes) are;
      throws = throws ∙ sees.throws;
      lanes = sees.lanes ∙ sym lanes;
      cut = sees.cut ∙ sym cut;
    }
