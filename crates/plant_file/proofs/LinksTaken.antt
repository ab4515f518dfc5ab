-- The loop that checks each link by the index of those before it and puts it into the lists.
use Prim.Native.Nat.{ℕ, ◌+◌, ◌*◌, ◌<◌, ◌≤◌}
use mathlib.Core.Path.{◌≡◌, refl, sym, ap, ◌∙◌}
use Rattle.std.specs.Prelude.{Some}
use mathlib.Core.List.{List, []}
use native.Mathlib.Omega.{arith}
use lib.ListN.{length, take, replicate, length-replicate}
use Rattle.packing.specs.Lists.{list_of}
use Rattle.packing.specs.Plant.{NONE, GATEWAYS}
use Rattle.packing.proofs.Lists.{list-start, written-front}
use Rattle.chains.specs.Index.{SLOTS, root_of}
use Rattle.chains.specs.Build.{Built, Adding}
use Rattle.chains.proofs.BuiltIndex.{built-front}
use Rattle.chains.proofs.LinkMore.{built-start}
use Rattle.plant_file.specs.PlantFile.{file_n, file_m, file_links, ends_refusal, links_refusal}
use Rattle.plant_file.specs.Reader.{link_at}
use Rattle.plant_file.specs.Indexed.{LinksIndexed}
use Rattle.plant_file.specs.Pre.{Taking, next_refusal, Taken, Unindexed}
use Rattle.plant_file.specs.declared.indexed.Links.{Links}
use Rattle.plant_file.proofs.LinksByIndex.{links-long}
use Rattle.plant_file.proofs.LinkChecks.{Checked, checked_start, checked_refused, checked_turn, checked_end}
use Rattle.plant_file.proofs.Accepted.{ends_allowed}
use Rattle.plant_file.proofs.Filled.{LinksListed, links-turn, links-front, links_end}

-- one link more
module _ (so_far : Links) (t : Taking so_far) (a b : ℕ) (fine : 0 ≡ next_refusal so_far a b) where
  pub taking_fine : Adding so_far.links.now so_far.count a b so_far.next.now so_far.last
  taking_fine =
      let f = ends_allowed so_far.n (take (2 * so_far.count) so_far.links.now) a b (sym fine) in
      record { built = t.built; more = t.more; first = omega (arith, f.first, t.few); second = omega (arith, f.second, t.few); differ = f.differ }

  -- both ends have a place among the numbers of links, of which the struct's array holds one for any gateway
  pub taking_degrees : length so_far.degrees ≡ GATEWAYS → (a < length so_far.degrees) × (b < length so_far.degrees)
  taking_degrees long = (rw long taking_fine.first, rw long taking_fine.second)

-- all of them
pub record InTurn (file links₀ : List ℕ) (so_far : Links) : Type 0 where
  pub gateways : so_far.n ≡ file_n file
  pub checked : Checked so_far.n file so_far.count
  pub listed : LinksListed file links₀ so_far.links.now so_far.count
  pub built : Built so_far.links.now so_far.count so_far.next.now so_far.last

module _ (file links₀ next₀ : List ℕ) (u : Unindexed file links₀ next₀) where
  room : 2 * file_m file ≤ length links₀
  room = u.unlinked.ends u.links-few

  slots : length next₀ ≡ length links₀ + GATEWAYS
  slots = ap length u.unlinked.empty ∙ length-replicate (length links₀ + GATEWAYS) NONE

  pub turn_roots : {last : List ℕ} → last ≡ replicate GATEWAYS 0 → (GATEWAYS ≤ length next₀) × (length next₀ ≤ SLOTS) × (length last ≡ GATEWAYS)
  turn_roots e = (omega (arith, slots), omega (arith, slots, u.unlinked.few), ap length e ∙ length-replicate {A = ℕ} GATEWAYS 0)

  pub turn-start : (start : Links) → start.n ≡ file_n file → start.count ≡ 0 → start.links.now ≡ links₀ → start.next.now ≡ next₀ → start.last ≡ list_of GATEWAYS (root_of (length next₀)) → InTurn file links₀ start
  turn-start start is none p q e =
      record {
        gateways = is;
        checked = rw none (checked_start start.n file);
        listed = rw (p, none) (list-start _ _ _);
        built = rw (p, q, none) (built-start links₀ (length links₀ + GATEWAYS) (omega arith) (omega (arith, u.unlinked.few)) u.unlinked.empty (rw slots at e));
      }

  module _ (so_far : Links) (t : InTurn file links₀ so_far) where
    -- the link that was read, and what was answered for it
    module _ {a b r : ℕ} (e : Some (a, b) ≡ link_at file so_far.count) (answer : r ≡ next_refusal so_far a b) where
      step : r ≡ ends_refusal so_far.n (take (2 * so_far.count) (file_links file)) a b
      step = answer ∙ ap (λ (before : List ℕ). ends_refusal so_far.n before a b) (links-front file links₀ so_far.count t.checked.upto t.listed)

      pub turn-refused : (r ≡ 0 → ⊥) → r ≡ links_refusal (file_n file) [] (file_links file)
      turn-refused z = checked_refused so_far.n file so_far.count t.checked e step t.gateways z

      pub turn_on : (new : Links) → r ≡ 0 → Taken so_far a b new → InTurn file links₀ new
      turn_on new z taken =
          record {
            gateways = taken.same ∙ t.gateways;
            checked = rw (taken.same, taken.count) (checked_turn so_far.n file so_far.count t.checked e step z);
            listed = rw taken.ends (links-turn file links₀ room t.listed e refl taken.count);
            built = taken.built;
          }

    pub turn_end : file_m file ≤ so_far.count → (0 ≡ links_refusal (file_n file) [] (file_links file)) × LinksIndexed file links₀ so_far.links.now so_far.next.now
    turn_end h =
        (checked_end so_far.n file t.gateways t.checked h, record { ends = links_end file links₀ t.listed h; index = rw whole at (built-front so_far.links.now so_far.count t.built) })
      where
        last_one : so_far.count ≡ file_m file
        last_one = omega (arith, h, t.checked.upto)

        whole : take (2 * so_far.count) so_far.links.now ≡ file_links file
        whole =
            rw (links_end file links₀ t.listed h, last_one) (written-front (2 * file_m file) (file_links file) links₀ (links-long file))
